use Rattle.std.proofs.Common.{◌∙◌}
use Rattle.lg_mean.proofs.program.Program.entry_target.Goals as goal

pub returns : goal.returns
returns c = rw (← c.self.view_is) (c.call.ensures ∙ c.self.invariant.leads.called c.args.word)
