use Rattle.std.proofs.Common.{◌≡◌, ℕ, ◌<◌, length, refl, sym, ap, ◌∙◌, subst}
use Rattle.lg_node.specs.Checks.{IsAccepted}
use Rattle.lg_node.specs.Shapes.{IsShapeOf}
use Rattle.lg_opt.specs.Goals.{stays}
use Rattle.lg_opt.specs.Remaining.{origins, rewritten}
use Rattle.lg_opt.specs.Rewritings.{marked, target_in, IsThreadedTo}
use Rattle.lg_opt.specs.Targets.{AreTargets}
use Rattle.lg_opt.proofs.AcceptLemmas.{accepted}
use Rattle.lg_opt.proofs.ClauseLemmas.{all-ok, list-is, from-is}
use Rattle.lg_opt.proofs.TargetLemmas.{threads-rewrite}
use Rattle.lg_opt.proofs.threading.threaded.Goals as goal

pub remade-requires : goal.remade-requires
remade-requires c =
    let l = c.args.nodes in
    let now = c.deref.result.now in
    let targets = target_in c.deref-in-Ok.result.now in
    let count = ap length c.deref.ensures.value ∙ c.in-Ok.ensures.count in
    let are : (i : ℕ) → i < length l.nodes → marked now i ≡ stays l i = λ i lt. ap (λ xs. marked xs i) c.deref.ensures.value ∙ c.in-Ok.ensures.stays i lt in
    let ok = subst (λ xs. AreTargets l (target_in xs)) (sym c.deref-in-Ok.ensures.value) c.in-Ok.ensures.targets_are in
    let list = list-is l (stays l) now count are c.deref-in-Ok.result.now targets (λ i lt. refl) c.what_holds.ensures.placed (rewritten l (marked now) targets) refl in
    record {
      count = count;
      targets = λ i n y e t. (ok.others i n y e t).jumps;
      shaped = c.requires;
      accepted = subst IsAccepted (sym list) (accepted l (stays l) targets (threads-rewrite l c.requires.accepted c.what_holds.ensures.formed targets ok) c.requires.accepted);
    }

pub returns-in-Ok : goal.returns-in-Ok
returns-in-Ok c =
    let l = c.args.nodes in
    let now = c.deref.result.now in
    let targets = target_in c.deref-in-Ok.result.now in
    let count = ap length c.deref.ensures.value ∙ c.in-Ok.ensures.count in
    let are : (i : ℕ) → i < length l.nodes → marked now i ≡ stays l i = λ i lt. ap (λ xs. marked xs i) c.deref.ensures.value ∙ c.in-Ok.ensures.stays i lt in
    let ok = subst (λ xs. AreTargets l (target_in xs)) (sym c.deref-in-Ok.ensures.value) c.in-Ok.ensures.targets_are in
    let list = list-is l (stays l) now count are c.deref-in-Ok.result.now targets (λ i lt. refl) c.what_holds.ensures.placed (rewritten l (marked now) targets) refl in
    all-ok (λ r. r.nodes ≡ rewritten l (marked now) targets) (λ r. IsShapeOf r.nodes r.shape) (λ r. r.shape.taken ≡ c.args.shape.taken) (λ r. r.origin.items ≡ origins (marked now) (length now))
    (λ r. IsThreadedTo l c.args.shape r.nodes r.shape r.origin.items) c.remade.result
    (λ r n s t o. record { targets = targets; are = ok; nodes = n ∙ list; shaped = s; taken = t; from = o ∙ from-is l (stays l) now count are })
    c.remade.ensures.nodes c.remade.ensures.shape c.remade.ensures.taken c.remade.ensures.origin
