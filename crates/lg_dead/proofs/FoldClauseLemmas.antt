-- What folding promises.
use Rattle.std.proofs.Common.{◌≡◌, ℕ, ◌<◌, ◌≤◌, true, false, List, Some, length, sym, ap, ◌∙◌, subst, arith}
use Rattle.std.specs.Prelude.{slice_get, slice_index}
use Rattle.std.specs.List.{All}
use Rattle.std.proofs.lemmas.Option.{slice_get_within, get_or_from_slice_get, same_Some}
use Rattle.lg_node.specs.Checks.{IsAccepted}
use Rattle.lg_node.specs.Nodes.{LabelledNodes, MayStand}
use Rattle.lg_node.proofs.FunctionLaws.{node_within}
use Rattle.lg_node.specs.declared.place.Place.{Place}
use Rattle.lg_node.specs.declared.place.Place.TheVariants as place
use Rattle.lg_meaning.specs.Addresses.{IsBound, BeginsAt}
use Rattle.lg_opt.specs.Remaining.{origins}
use Rattle.lg_opt.specs.Rewritings.{IsOrigin, KeepsOthers, KeepsLabels, CarriesAddresses}
use Rattle.lg_opt.proofs.FunctionLemmas.{element}
use Rattle.lg_opt.proofs.OriginLemmas.{all-at, all-count, all-numbered}
use Rattle.lg_dead.specs.Folds.{IsFoldedNode, IsFoldedTo}
use Rattle.lg_dead.specs.Known.{folded, known_before}
use Rattle.lg_dead.proofs.FoldAcceptLemmas.{prolog-same}

module _ (l m : LabelledNodes) (to : IsFoldedTo l m) where
  pub fold-few : length m.nodes ≤ length l.nodes
  fold-few = omega (arith, to.count)

  bound : (x : ℕ) (p : Place) → IsBound l x p → IsBound m x p
  bound x p e = ap (λ ps. slice_get ps x) to.places ∙ e

  -- each node corresponds to the one of its number
  pub fold-origin : (origin : List ℕ) → origin ≡ origins (λ i. true) (length l.nodes) → IsOrigin IsFoldedNode l m origin
  fold-origin origin e = subst (IsOrigin IsFoldedNode l m) (sym e) record {
    count = all-count (length l.nodes) ∙ sym to.count;
    rises = λ i k lt less. let c = all-count (length l.nodes) in let x = at i (omega (arith, c)) in let y = at k (omega (arith, c)) in omega (arith, x, y);
    nodes = λ k n h.
        let lt : k < length l.nodes = (let z = slice_get_within m.nodes k n h in omega (arith, z, to.count)) in
        let old = node_within l.nodes k lt in
        (old.0, ap (slice_get l.nodes) (at k lt) ∙ old.1, (known_before m k, same_Some n (folded (known_before m k) old.0) (sym h ∙ to.nodes k old.0 old.1)));
  }
    where
      at : (k : ℕ) → k < length l.nodes → slice_index (origins (λ i. true) (length l.nodes)) k ≡ k
      at k lt = get_or_from_slice_get (origins (λ i. true) (length l.nodes)) k k 0 (all-at (length l.nodes) k lt)

  pub fold-others : (origin : List ℕ) → origin ≡ origins (λ i. true) (length l.nodes) → KeepsOthers (λ o. false) l origin
  fold-others origin e i n h f = (i, ap (λ xs. slice_get xs i) e ∙ all-at (length l.nodes) i (slice_get_within l.nodes i n h))

  pub fold-labels : All (MayStand (length l.nodes)) l.places → (origin : List ℕ) → origin ≡ origins (λ i. true) (length l.nodes) → KeepsLabels l m origin
  fold-labels placed origin o = subst (KeepsLabels l m) (sym o) record {
    words = to.words;
    count = ap length to.places;
    images = λ x k e. ap (λ ps. slice_get ps x) (sym to.places) ∙ e;
    nodes = λ x i e. (i, bound x (place.Node i) e, (all-numbered l).first i (element (MayStand (length l.nodes)) l.places x (Some (place.Node i)) e placed));
  }

  begins : (a : IsAccepted l) (x i : ℕ) → BeginsAt l x i → BeginsAt m x i
  begins a x i b = record { bound = bound x (place.Node i) b.bound; begins = prolog-same l m a to i ∙ b.begins }

  pub fold-addresses : IsAccepted l → CarriesAddresses l m
  fold-addresses a size A are = record {
    count = are.count ∙ ap length to.places;
    images = λ x k e. are.images x k (bound x (place.Image k) e);
    within = λ x i e. are.within x i (bound x (place.Node i) e);
    order = λ x y i j e f le. are.order x y i j (bound x (place.Node i) e) (bound y (place.Node j) f) le;
    entries = λ x y i j e f lt. are.entries x y i j (begins a x i e) (begins a y j f) lt;
  }
