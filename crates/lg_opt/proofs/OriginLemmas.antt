-- The numbers of the nodes that stay, and addresses of labels, after a rewriting.
use Rattle.std.proofs.Common.{◌≡◌, ⊎_elim, ℕ, zero, suc, ◌+◌, ◌<◌, ◌≤◌, Bool, true, false, cond, List, [], ◌++◌, Option, Some, None, length, refl, sym, ap, ◌∙◌, subst, arith}
use Rattle.std.specs.Prelude.{slice_get, slice_index}
use Rattle.std.specs.List.{All}
use Rattle.std.specs.Option.{option_map, option_to_list}
use Rattle.std.proofs.lemmas.Bool.{cases_lt}
use Rattle.std.proofs.lemmas.List.{length-map}
use Rattle.std.proofs.lemmas.Option.{slice_get-map, slice_get_within, get_or_from_slice_get}
use Rattle.lg_op.specs.declared.node.Node.{Node}
use Rattle.lg_op.specs.declared.op.Op.{Op}
use Rattle.lg_op.specs.declared.operand.Label.{Label}
use Rattle.lg_node.specs.declared.place.Place.{Place}
use Rattle.lg_node.specs.declared.place.Place.TheVariants as place
use Rattle.lg_node.specs.Checks.{IsAccepted}
use Rattle.lg_node.specs.Nodes.{LabelledNodes, MayStand}
use Rattle.lg_meaning.specs.Addresses.{IsBound, BeginsAt}
use Rattle.lg_opt.specs.Remaining.{new_number, remaining, moved_place, retargeted, rewritten, origins, IsRewriting}
use Rattle.lg_opt.specs.Rewritings.{IsOrigin, IsFirstFrom, IsNumberedBy, KeepsOthers, KeepsLabels, CarriesAddresses}
use Rattle.lg_opt.proofs.RemainingLemmas.{number-all, number-le, number-lt, length-remaining, get-remaining}
use Rattle.lg_opt.proofs.MovedLemmas.{ComesFrom, comes-from, new-count, stands}
use Rattle.lg_opt.proofs.AcceptLemmas.{prolog-stays, prolog-moved}
use Rattle.lg_opt.proofs.FunctionLemmas.{element}
use Rattle.lg_opt.proofs.RebuildLemmas.{moved-same}

-- ---- the same nodes stay, and get the same targets
remaining-same : {X : Type 0} (s t : ℕ → Bool) (f g : ℕ → Option X) (n : ℕ) → ((i : ℕ) → i < n → s i ≡ t i) → ((i : ℕ) → i < n → f i ≡ g i) → remaining s f n ≡ remaining t g n
unfolding remaining
remaining-same s t f g zero e h = refl
remaining-same s t f g (suc n) e h =
    ap (λ xs. xs ++ cond (s n) (option_to_list (f n)) []) (remaining-same s t f g n (λ i lt. e i (omega arith)) (λ i lt. h i (omega arith)))
    ∙ ap (λ b. remaining t g n ++ cond b (option_to_list (f n)) []) (e n (omega arith)) ∙ ap (λ o. remaining t g n ++ cond (t n) (option_to_list o) []) (h n (omega arith))

number-same : (s t : ℕ → Bool) (n : ℕ) → ((i : ℕ) → i < n → s i ≡ t i) → new_number s n ≡ new_number t n
unfolding new_number
number-same s t zero e = refl
number-same s t (suc n) e = ap (λ k. k + cond (s n) 1 0) (number-same s t n (λ i lt. e i (omega arith))) ∙ ap (λ b. new_number t n + cond b 1 0) (e n (omega arith))

pub rewritten-same : (l : LabelledNodes) (s t : ℕ → Bool) (f g : ℕ → Option Label) → ((i : ℕ) → i < length l.nodes → s i ≡ t i) → ((i : ℕ) → i < length l.nodes → f i ≡ g i) → All (MayStand (length l.nodes)) l.places
    → rewritten l s f ≡ rewritten l t g
rewritten-same l s t f g e h placed =
    ap (λ ns. record { nodes = ns; words = l.words; places = (rewritten l s f).places })
    (remaining-same s t (λ i. option_map (retargeted (f i)) (slice_get l.nodes i)) (λ i. option_map (retargeted (g i)) (slice_get l.nodes i)) (length l.nodes) e (λ i lt. ap (λ o. option_map (retargeted o) (slice_get l.nodes i)) (h i lt)))
    ∙ ap (λ ps. record { nodes = (rewritten l t g).nodes; words = l.words; places = ps })
    (moved-same (new_number s) (new_number t) (length l.nodes) (λ k le. number-same s t k (λ i lt. e i (omega arith))) l.places placed)

pub origins-same : (s t : ℕ → Bool) (n : ℕ) → ((i : ℕ) → i < n → s i ≡ t i) → origins s n ≡ origins t n
origins-same s t n e = remaining-same s t (λ i. Some i) (λ i. Some i) n e (λ i lt. refl)

module _ (l : LabelledNodes) (stays : ℕ → Bool) (targets : ℕ → Option Label) where
  abbrev m : LabelledNodes
  m = rewritten l stays targets

  abbrev nu : ℕ → ℕ
  nu = new_number stays

  abbrev from : List ℕ
  from = origins stays (length l.nodes)

  full : (i : ℕ) → i < length l.nodes → stays i ≡ true → (x : ℕ) × (◌≡◌ {A = Option ℕ} (Some i) (Some x))
  full i lt s = (i, refl)

  count : length from ≡ nu (length l.nodes)
  count = length-remaining stays (λ i. Some i) (length l.nodes) full

  at : (i : ℕ) → i < length l.nodes → stays i ≡ true → slice_index from (nu i) ≡ i
  at i lt s = get_or_from_slice_get from (nu i) i 0 (get-remaining stays (λ i. Some i) (length l.nodes) i i full lt s refl)

  index-of : (k : ℕ) (c : ComesFrom l stays k) → slice_index from k ≡ c.index
  index-of k c = ap (slice_index from) (sym c.number) ∙ at c.index (slice_get_within l.nodes c.index c.node c.here) c.kept

  some-same : {x y : Node} → ◌≡◌ {A = Option Node} (Some x) (Some y) → x ≡ y
  some-same e = cc

  pub origin-is : (Stands : Node → Node → Type 0) → ((i : ℕ) (n : Node) → slice_get l.nodes i ≡ Some n → Stands n (retargeted (targets i) n)) → IsOrigin Stands l (rewritten l stays targets) (origins stays (length l.nodes))
  origin-is Stands h = record {
    count = count ∙ sym (new-count l stays targets);
    rises = λ i k lt less.
        let c = comes-from stays l i (omega (arith, count)) in
        let d = comes-from stays l k (omega (arith, count)) in
        let x = index-of i c in let y = index-of k d in
        ⊎_elim
        (λ lower. omega (arith, x, y, lower))
        (λ higher. let z = number-le stays d.index c.index higher in let p = c.number in let q = d.number in absurd (omega arith))
        (cases_lt c.index d.index);
    nodes = λ k n e.
        let c = comes-from stays l k (let z = new-count l stays targets in let lt = slice_get_within m.nodes k n e in omega arith) in
        let same : n ≡ retargeted (targets c.index) c.node = some-same (sym e ∙ ap (slice_get m.nodes) (sym c.number) ∙ stands l stays targets c.index c.node c.here c.kept) in
        (c.node, ap (slice_get l.nodes) (index-of k c) ∙ c.here, subst (Stands c.node) (sym same) (h c.index c.node c.here));
  }

  -- which stay, and where they lead
  pub first-from : (i : ℕ) → i ≤ length l.nodes → IsFirstFrom (origins stays (length l.nodes)) i (new_number stays i)
  first-from i le = record {
    within = let z = number-le stays i (length l.nodes) le in omega (arith, count, z);
    before = λ j lt.
        let up = number-le stays i (length l.nodes) le in
        let c = comes-from stays l j (omega (arith, up, lt)) in
        let x = index-of j c in
        ⊎_elim
        (λ (lower : c.index < i). omega (arith, x, lower))
        (λ (higher : i ≤ c.index). let z = number-le stays i c.index higher in let p = c.number in absurd (omega arith))
        (cases_lt c.index i);
    behind = λ j from-here lt.
        let c = comes-from stays l j (omega (arith, count)) in
        let x = index-of j c in
        ⊎_elim
        (λ (lower : c.index < i). let z = number-lt stays c.index i lower c.kept in let p = c.number in absurd (omega arith))
        (λ (higher : i ≤ c.index). omega (arith, x, higher))
        (cases_lt c.index i);
  }

  stays-there : (i k : ℕ) → slice_get (origins stays (length l.nodes)) k ≡ Some i → stays i ≡ true
  stays-there i k e =
      let lt = slice_get_within from k i e in
      let c = comes-from stays l k (omega (arith, count, lt)) in
      let same : i ≡ c.index = sym (get_or_from_slice_get from k i 0 e) ∙ index-of k c in
      ap stays same ∙ c.kept

  pub there : (i : ℕ) → i < length l.nodes → stays i ≡ true → (k : ℕ) × (slice_get (origins stays (length l.nodes)) k ≡ Some i)
  there i lt s = (nu i, get-remaining stays (λ i. Some i) (length l.nodes) i i full lt s refl)

  pub numbered : IsNumberedBy (origins stays (length l.nodes)) (length l.nodes) stays (new_number stays)
  numbered = record {
    kept = λ i lt. ((λ s. there i lt s), (λ h. stays-there i h.0 h.1));
    first = first-from;
  }

  pub keeps-others : (goes : Op → Bool) → ((i : ℕ) (n : Node) → slice_get l.nodes i ≡ Some n → stays i ≡ false → goes n.op ≡ true) → KeepsOthers goes l (origins stays (length l.nodes))
  keeps-others goes only i n e may = by (stays i) refl
    where
      by : (b : Bool) → stays i ≡ b → (k : ℕ) × (slice_get (origins stays (length l.nodes)) k ≡ Some i)
      by true s = there i (slice_get_within l.nodes i n e) s
      by false s = let z : false ≡ true = sym may ∙ only i n e s in absurd (cc)

  -- labels
  image-of : (o : Option (Option Place)) (k : ℕ) → option_map (moved_place nu) o ≡ Some (Some (place.Image k)) → o ≡ Some (Some (place.Image k))
  image-of None k e = cc
  image-of (Some None) k e = cc
  image-of (Some (Some (place.Image j))) k e = e
  image-of (Some (Some (place.Node j))) k e = cc

  bound-moved : (x : ℕ) (p : Place) → IsBound l x p → slice_get m.places x ≡ Some (moved_place nu (Some p))
  bound-moved x p e = slice_get-map (moved_place nu) l.places x ∙ ap (option_map (moved_place nu)) e

  pub keeps-labels : All (MayStand (length l.nodes)) l.places → KeepsLabels l (rewritten l stays targets) (origins stays (length l.nodes))
  keeps-labels placed = record {
    words = refl;
    count = length-map l.places (moved_place nu);
    images = λ x k e. image-of (slice_get l.places x) k (sym (slice_get-map (moved_place nu) l.places x) ∙ e);
    nodes = λ x i e. (nu i, bound-moved x (place.Node i) e, first-from i (element (MayStand (length l.nodes)) l.places x (Some (place.Node i)) e placed));
  }

  pub carries-addresses : IsRewriting l stays targets → IsAccepted l → CarriesAddresses l (rewritten l stays targets)
  carries-addresses r a size A are = record {
    count = are.count ∙ length-map l.places (moved_place nu);
    images = λ x k e. are.images x k (bound-moved x (place.Image k) e);
    within = λ x i e. are.within x (nu i) (bound-moved x (place.Node i) e);
    order = λ x y i j e f le. are.order x y (nu i) (nu j) (bound-moved x (place.Node i) e) (bound-moved y (place.Node j) f) (number-le stays i j le);
    entries = λ x y i j e f lt. are.entries x y (nu i) (nu j) (begins x i e) (begins y j f) (number-lt stays i j lt (prolog-stays l stays targets r a i e.begins));
  }
    where
      begins : (x i : ℕ) → BeginsAt l x i → BeginsAt (rewritten l stays targets) x (new_number stays i)
      begins x i b = record { bound = bound-moved x (place.Node i) b.bound; begins = prolog-moved l stays targets r a i b.begins }

-- where all nodes stay
every : (k : ℕ) → new_number (λ i. true) k ≡ k
every k = number-all (λ i. true) k (λ i lt. refl)

pub all-at : (count k : ℕ) → k < count → slice_get (origins (λ i. true) count) k ≡ Some k
all-at count k lt = ap (slice_get (origins (λ i. true) count)) (sym (every k)) ∙ get-remaining (λ i. true) (λ i. Some i) count k k (λ i l s. (i, refl)) lt refl refl

pub all-count : (count : ℕ) → length (origins (λ i. true) count) ≡ count
all-count count = length-remaining (λ i. true) (λ i. Some i) count (λ i l s. (i, refl)) ∙ every count

pub all-numbered : (l : LabelledNodes) → IsNumberedBy (origins (λ i. true) (length l.nodes)) (length l.nodes) (λ i. true) (λ i. i)
all-numbered l =
    let same = numbered l (λ i. true) (λ i. None) in
    record { kept = same.kept; first = λ i le. subst (IsFirstFrom (origins (λ i. true) (length l.nodes)) i) (every i) (same.first i le) }
