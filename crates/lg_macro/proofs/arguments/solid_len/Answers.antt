use Rattle.std.proofs.Common.{ℕ, ◌-◌, length, drop, take, sym, ap, ◌∙◌, arith, length-drop}
use Rattle.std.proofs.lemmas.List.{get_or-drop, take_all}
use Rattle.lg_macro.specs.Arguments.{solid_len}
use Rattle.lg_macro.specs.Pieces.{Piece, is_white, no_piece}
use Rattle.lg_macro.proofs.CallLemmas.{solid_less, solid_here, solid_none}
use Rattle.lg_macro.proofs.arguments.solid_len.Goals as goal

pub white-init : goal.white-init
white-init c = (
  omega (arith, c.requires, c.len.ensures),
  ap solid_len (sym (take_all (length c.args.pieces.now - c.args.from) (drop c.args.from c.args.pieces.now) (omega (arith, length-drop c.args.from c.args.pieces.now))))
      ∙ ap (λ (k : ℕ). solid_len (take (k - c.args.from) (drop c.args.from c.args.pieces.now))) (sym c.len.ensures),
)

pub white-preserved : goal.white-preserved
white-preserved c = (
  omega arith,
  solid_less (drop c.args.from c.args.pieces.now) c.white.n (omega arith) (omega (arith, length-drop c.args.from c.args.pieces.now, c.white.invariant.0))
      (ap (λ (p : Piece). is_white p.kind) (get_or-drop c.args.from c.args.pieces.now (c.white.n - 1) no_piece) ∙ ap is_white (sym c.kind.ensures) ∙ sym c.is_white.ensures ∙ c.if-is_white.true) c.white.invariant.1,
)

pub returns-else-is_white-clause-value : goal.returns-else-is_white-clause-value
returns-else-is_white-clause-value c = solid_here (drop c.args.from c.args.pieces.now) c.white.n (omega arith) (omega (arith, length-drop c.args.from c.args.pieces.now, c.white.invariant.0))
    (ap (λ (p : Piece). is_white p.kind) (get_or-drop c.args.from c.args.pieces.now (c.white.n - 1) no_piece) ∙ ap is_white (sym c.kind.ensures) ∙ sym c.is_white.ensures ∙ c.if-is_white.false) c.white.invariant.1

pub returns-after-white-clause-value : goal.returns-after-white-clause-value
returns-after-white-clause-value c = solid_none (drop c.args.from c.args.pieces.now) c.white.n (omega arith) c.white.invariant.1
