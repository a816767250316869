use Rattle.std.proofs.Common.{◌++◌, sym, ap, ◌∙◌, arith}
use Rattle.lg_macro.specs.Defines.{spliced, is_straight}
use Rattle.lg_macro.specs.Pieces.{between}
use Rattle.lg_macro.proofs.CallLemmas.{between_end}
use Rattle.lg_macro.proofs.DefineLemmas.{straight_more}
use Rattle.lg_macro.proofs.defines.straight_end.Goals as goal

pub straight-init : goal.straight-init
straight-init c = (omega arith, omega (arith, c.requires.order), ap (λ l. l ++ spliced (between c.args.from c.args.end c.args.pieces.now)) (between_end c.args.from c.args.from c.args.pieces.now (omega arith)))

pub straight-preserved : goal.straight-preserved
straight-preserved c = (
  omega (arith, c.straight.invariant.0),
  omega arith,
  straight_more c.args.from c.straight.at c.args.end c.args.pieces.now c.straight.invariant.0 (omega arith) c.requires.inside
      (ap is_straight (sym c.kind.ensures) ∙ sym c.is_straight.ensures ∙ c.if-is_straight.true) c.straight.invariant.2,
)
