use Rattle.std.proofs.Common.{◌≡◌, ℕ, ◌<◌, [], length, refl, sym, ap, ◌∙◌, subst, arith}
use Rattle.lg_node.specs.Checks.{IsAccepted}
use Rattle.lg_node.specs.Shapes.{IsShapeOf}
use Rattle.lg_opt.specs.Moves.{stays}
use Rattle.lg_opt.specs.Remaining.{no_targets, origins, rewritten}
use Rattle.lg_opt.specs.Rewritings.{marked, target_in, IsDroppedTo}
use Rattle.lg_opt.proofs.AcceptLemmas.{accepted}
use Rattle.lg_opt.proofs.ClauseLemmas.{all-ok, list-is, from-is}
use Rattle.lg_opt.proofs.DropLemmas.{drops-rewrite}
use Rattle.lg_opt.proofs.dropping.dropped.Goals as goal

pub remade-requires : goal.remade-requires
remade-requires c =
    let l = c.args.nodes in
    let now = c.deref.result.now in
    let count = ap length c.deref.ensures.value ∙ c.in-Ok.ensures.0 in
    let are : (i : ℕ) → i < length l.nodes → marked now i ≡ stays l i = λ i lt. ap (λ xs. marked xs i) c.deref.ensures.value ∙ c.in-Ok.ensures.1 i (omega (arith, lt, c.in-Ok.ensures.0)) in
    let list = list-is l (stays l) now count are [] no_targets (λ i lt. refl) c.what_holds.ensures.placed (rewritten l (marked now) (target_in [])) refl in
    record {
      count = count;
      targets = λ i n y e t. cc;
      shaped = c.requires;
      accepted = subst IsAccepted (sym list) (accepted l (stays l) no_targets (drops-rewrite l) c.requires.accepted);
    }

pub returns-in-Ok : goal.returns-in-Ok
returns-in-Ok c =
    let l = c.args.nodes in
    let now = c.deref.result.now in
    let count = ap length c.deref.ensures.value ∙ c.in-Ok.ensures.0 in
    let are : (i : ℕ) → i < length l.nodes → marked now i ≡ stays l i = λ i lt. ap (λ xs. marked xs i) c.deref.ensures.value ∙ c.in-Ok.ensures.1 i (omega (arith, lt, c.in-Ok.ensures.0)) in
    let list = list-is l (stays l) now count are [] no_targets (λ i lt. refl) c.what_holds.ensures.placed (rewritten l (marked now) (target_in [])) refl in
    all-ok (λ r. r.nodes ≡ rewritten l (marked now) (target_in [])) (λ r. IsShapeOf r.nodes r.shape) (λ r. r.shape.taken ≡ c.args.shape.taken) (λ r. r.origin.items ≡ origins (marked now) (length now))
    (λ r. IsDroppedTo l c.args.shape r.nodes r.shape r.origin.items) c.remade.result
    (λ r n s t o. record { nodes = n ∙ list; shaped = s; taken = t; from = o ∙ from-is l (stays l) now count are })
    c.remade.ensures.nodes c.remade.ensures.shape c.remade.ensures.taken c.remade.ensures.origin
