use Rattle.std.proofs.Common.{◌≡◌, ℕ, false, Option, Some, None, refl, sym, ◌∙◌, arith}
use Rattle.std.proofs.lemmas.List.{drop_all}
use Rattle.std.specs.Option.{is_some}
use Rattle.lg_macro.proofs.CallLemmas.{drop_piece}
use Rattle.lg_replacement.proofs.expansion.names_nothing.Goals as goal

none_of : (o : Option ℕ) → is_some o ≡ false → o ≡ None
none_of None e = refl
none_of (Some n) e = cc

pub pieces-preserved : goal.pieces-preserved
pieces-preserved c = λ h.
    let none = sym c.named.ensures.value ∙ none_of c.named.result (sym c.is_some.ensures ∙ c.if-is_some.false) in
    c.pieces.invariant (rw (drop_piece c.args.pieces.now c.pieces.at (omega (arith, c.pieces-test.true, c.len-at-end.ensures))) (none, h))

pub returns : goal.returns
returns c = λ _. c.pieces.invariant (rw (drop_all c.pieces.at c.args.pieces.now (omega arith)) tt)
