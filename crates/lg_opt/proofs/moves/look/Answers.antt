use Rattle.std.proofs.Common.{◌≡◌, refl, true, false, Option, None, Some, sym, ap, ◌∙◌}
use Rattle.std.specs.Option.{is_none}
use Rattle.std.proofs.lemmas.Option.{same_Some}
use Rattle.lg_op.specs.declared.node.Node.{Node}
use Rattle.lg_opt.specs.Moves.{is_movr}
use Rattle.lg_opt.proofs.SourceLemmas.{still_none}
use Rattle.lg_opt.proofs.moves.look.Goals as goal

no-value : {A : Type 0} (o : Option A) → is_none o ≡ true → o ≡ None
no-value None e = refl
no-value (Some x) e = cc

pub returns-then-not-is_movr-clause-behind : goal.returns-then-not-is_movr-clause-behind
returns-then-not-is_movr-clause-behind c = λ n here r.
    let e : is_movr n.op ≡ false = ap (λ (x : Node). is_movr x.op) (same_Some n c.node.result (sym here ∙ sym c.node.ensures.node)) ∙ sym c.is_movr.ensures ∙ c.if-not-is_movr.true in
    still_none c.args.sources.now n (no-value c.args.sources.now.table (sym c.is_none.ensures ∙ c.if-is_none.true)) e r
