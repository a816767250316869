use Rattle.std.proofs.Common.{sym, ◌∙◌}
use Rattle.lg_mean.specs.Machines.{state_of}
use Rattle.lg_explain.proofs.WhyLemmas.{formed_at, no_reason}
use Rattle.lg_explain.proofs.stop.stuck_at.Goals as goal

pub unreachable-requires : goal.unreachable-requires
unreachable-requires c =
    let l = c.args.unit.now.nodes in
    let shape = c.args.shape.now in
    let s = state_of c.args.machine.now.machine in
    no_reason _ _ c.requires.undefined (sym c.why.ensures ∙ c.in-None.is)
    (c.steps_are_undefined_by_the_table.ensures l shape c.args.machine.now.labels.addresses s c.requires.made.shaped (formed_at l s.at c.what_holds.ensures.formed) c.requires.fits)
