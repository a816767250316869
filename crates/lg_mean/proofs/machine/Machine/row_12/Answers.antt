use Rattle.std.proofs.Common.{sym, ◌∙◌}
use Rattle.lg_mean.specs.Machines.{state_of}
use Rattle.lg_mean.specs.Programs.{text_of}
use Rattle.lg_mean.proofs.WhyLemmas.{host_not_allowed}
use Rattle.lg_mean.proofs.machine.Machine.row_12.Goals as goal

pub returns-in-Some : goal.returns-in-Some
returns-in-Some c =
    c.not_allowed.ensures
    ∙ host_not_allowed (text_of c.args.program.now) c.args.node.now (state_of c.args.self.now) c.args.node.now.op c.in-Some.called (sym c.called_from.ensures.value ∙ c.in-Some.is) c.requires.undefined
