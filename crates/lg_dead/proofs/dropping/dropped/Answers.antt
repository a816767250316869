use Rattle.std.proofs.Common.{◌≡◌, ℕ, ◌<◌, [], length, refl, sym, ap, ◌∙◌, subst, arith}
use Rattle.lg_node.specs.Checks.{IsAccepted}
use Rattle.lg_node.specs.Shapes.{IsShapeOf}
use Rattle.lg_opt.specs.Remaining.{no_targets, origins, rewritten}
use Rattle.lg_opt.specs.Rewritings.{marked, target_in}
use Rattle.lg_opt.proofs.AcceptLemmas.{accepted}
use Rattle.lg_opt.proofs.ClauseLemmas.{all-ok, list-is, from-is}
use Rattle.lg_dead.specs.Dead.{stays, needs_in}
use Rattle.lg_dead.specs.Dropping.{IsDroppedTo}
use Rattle.lg_dead.proofs.DeadRunLemmas.{gone-rewrite}
use Rattle.lg_dead.proofs.NeededLemmas.{are-needs}
use Rattle.lg_dead.proofs.StayingLemmas.{exact-in, no-fp-in}
use Rattle.lg_dead.proofs.dropping.dropped.Goals as goal

pub remade-requires : goal.remade-requires
remade-requires c =
    let l = c.args.nodes in
    let s = c.args.shape in
    let sets = c.in-Ok.ensures.stays.0 in
    let keep = stays (needs_in sets) l in
    let now = c.deref.result.now in
    let count = ap length c.deref.ensures.value ∙ c.in-Ok.ensures.count in
    let are : (i : ℕ) → i < length l.nodes → marked now i ≡ stays (needs_in sets) l i = λ i lt. ap (λ xs. marked xs i) c.deref.ensures.value ∙ c.in-Ok.ensures.stays.2 i (omega (arith, lt, c.in-Ok.ensures.count)) in
    let list = list-is l keep now count are [] no_targets (λ i lt. refl) c.what_holds.ensures.placed (rewritten l (marked now) (target_in [])) refl in
    let needs = are-needs l s (needs_in sets) (exact-in l s sets c.in-Ok.ensures.stays.1) (no-fp-in sets) in
    record {
      count = count;
      targets = λ i n y e t. cc;
      shaped = c.requires;
      accepted = subst IsAccepted (sym list) (accepted l keep no_targets (gone-rewrite l s s keep (needs_in sets) [] c.requires c.what_holds.ensures.formed needs) c.requires.accepted);
    }

pub returns-in-Ok : goal.returns-in-Ok
returns-in-Ok c =
    let l = c.args.nodes in
    let s = c.args.shape in
    let sets = c.in-Ok.ensures.stays.0 in
    let keep = stays (needs_in sets) l in
    let now = c.deref.result.now in
    let count = ap length c.deref.ensures.value ∙ c.in-Ok.ensures.count in
    let are : (i : ℕ) → i < length l.nodes → marked now i ≡ stays (needs_in sets) l i = λ i lt. ap (λ xs. marked xs i) c.deref.ensures.value ∙ c.in-Ok.ensures.stays.2 i (omega (arith, lt, c.in-Ok.ensures.count)) in
    let list = list-is l keep now count are [] no_targets (λ i lt. refl) c.what_holds.ensures.placed (rewritten l (marked now) (target_in [])) refl in
    all-ok (λ r. r.nodes ≡ rewritten l (marked now) (target_in [])) (λ r. IsShapeOf r.nodes r.shape) (λ r. r.shape.taken ≡ s.taken) (λ r. r.origin.items ≡ origins (marked now) (length now))
    (λ r. IsDroppedTo l s r.nodes r.shape r.origin.items) c.remade.result
    (λ r n f t o. record {
      needs = needs_in sets;
      exact = exact-in l s sets c.in-Ok.ensures.stays.1;
      fp = no-fp-in sets;
      nodes = n ∙ list;
      shaped = f;
      taken = t;
      from = o ∙ from-is l keep now count are;
    })
    c.remade.ensures.nodes c.remade.ensures.shape c.remade.ensures.taken c.remade.ensures.origin
