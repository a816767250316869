-- The points that jump to a point, from the last to the first.
use Rattle.std.proofs.Common.{◌≡◌, ⊎_elim, ℕ, zero, suc, ◌<◌, ◌≤◌, Bool, true, false, List, Option, Some, None, refl, sym, ap, ◌∙◌, subst, length, get_or, take, drop, replicate, ◌++◌, ◌∷◌, [], arith}
use Rattle.std.specs.Prelude.{slice_set, ◌==◌, if◌then◌else◌, is_none}
use Rattle.std.specs.List.{list_all}
use Rattle.std.proofs.lemmas.Bool.{cases_lt, eqb-true, eqb-false, and_parts}
use Rattle.std.proofs.lemmas.Option.{same_Some}
use Rattle.std.proofs.lemmas.List.{get_or-set_other, get_or_append_left, get_or_past, take_at, length-replicate}
use Rattle.std.proofs.lemmas.Grind.{get_or-set_at, common_steps}
use Rattle.std.proofs.Math.ListN.{length-append, length-set}
use Rattle.std.proofs.Math.Seq.{get_or-append_seam}
use Rattle.lg_live.specs.declared.point.Point.{Point}
use Rattle.lg_live.specs.Graphs.{point_at, no_point, AreWithin}
use Rattle.lg_live.specs.declared.chains.Chains.{Chains}
use Rattle.lg_live.specs.Chains.{is_to, last_before, AreChains}
use Rattle.lg_live.specs.Searches.{State, Grows, HasPassed}
use Rattle.lg_live.specs.declared.reg_set.RegSet.{RegSet}

-- one more than the last point of a chain, and 0 where there is none
abbrev pub bound : Option ℕ → ℕ
bound None = 0
bound (Some i) = suc i

-- what is found below a point: the head jumps there, and no point between the head and this one does
pub record IsHead (points : List Point) (to n : ℕ) (head : Option ℕ) : Type 0 where
  pub below : bound head ≤ n
  pub jumps : (i : ℕ) → head ≡ Some i → (point_at points i).jumps ≡ Some to
  pub none : (j : ℕ) → bound head ≤ j → j < n → (point_at points j).jumps ≡ Some to → ⊥

is_to_true : (to : ℕ) (o : Option ℕ) → is_to to o ≡ true → o ≡ Some to
is_to_true to None e = absurd (cc)
is_to_true to (Some k) e = ap Some (eqb-true k to e)

is_to_false : (to : ℕ) (o : Option ℕ) → is_to to o ≡ false → o ≡ Some to → ⊥
is_to_false to None e h = cc
is_to_false to (Some k) e h = eqb-false k to e (same_Some k to h)

last_on : (points : List Point) (to i : ℕ) → last_before points to (suc i) ≡ (if is_to to (point_at points i).jumps then Some i else last_before points to i)
unfolding last_before
last_on points to i = refl

last_none : (points : List Point) (to : ℕ) → last_before points to zero ≡ None
unfolding last_before
last_none points to = refl

head_step : (points : List Point) (to n : ℕ) (head : Option ℕ) (b : Bool) → is_to to (point_at points n).jumps ≡ b → IsHead points to n head → IsHead points to (suc n) (if b then Some n else head)
head_step points to n head true e h = record {
  below = omega arith;
  jumps = λ i g. subst (λ (k : ℕ). (point_at points k).jumps ≡ Some to) (same_Some n i g) (is_to_true to (point_at points n).jumps e);
  none = λ j le lt. absurd (omega arith);
}
head_step points to n head false e h = record {
  below = omega (arith, h.below);
  jumps = h.jumps;
  none = λ j le lt g. ⊎_elim (λ (less : j < n). h.none j le less g) (λ (more : n ≤ j). let same : j ≡ n = omega arith in is_to_false to (point_at points n).jumps e (subst (λ (k : ℕ). (point_at points k).jumps ≡ Some to) same g)) (cases_lt j n);
}

pub head_is : (points : List Point) (to n : ℕ) → IsHead points to n (last_before points to n)
head_is points to zero = rw (last_none points to) record { below = omega arith; jumps = λ i g. absurd (cc); none = λ j le lt. absurd (omega arith) }
head_is points to (suc n) = rw (last_on points to n) (head_step points to n (last_before points to n) (is_to to (point_at points n).jumps) refl (head_is points to n))

-- a point that jumps is not after the last
pub jumps_past : (points : List Point) (i k : ℕ) → length points ≤ i → (point_at points i).jumps ≡ Some k → ⊥
jumps_past points i k le e =
    let d : (point_at points i).jumps ≡ None = ap (λ (p : Point). p.jumps) (get_or_past points i no_point le) in
    let f : ◌≡◌ {A = Option ℕ} None (Some k) = sym d ∙ e in
    cc

-- ---- the chains of the first points
pub record AreLinked (points : List Point) (count n : ℕ) (heads earlier : List (Option ℕ)) : Type 0 where
  pub heads_count : length heads ≡ count
  pub earlier_count : length earlier ≡ n
  pub head : (to : ℕ) → to < count → get_or heads to None ≡ last_before points to n
  pub before : (i to : ℕ) → i < n → (point_at points i).jumps ≡ Some to → get_or earlier i None ≡ last_before points to i

get_or_none : (count to : ℕ) → get_or {A = Option ℕ} (replicate count None) to None ≡ None
get_or_none count to = grind (arith, common_steps)

pub linked_start : (points : List Point) (count : ℕ) (heads earlier : List (Option ℕ)) → heads ≡ replicate count None → earlier ≡ [] → AreLinked points count 0 heads earlier
linked_start points count heads earlier e f = rw (e, f) record {
  heads_count = length-replicate count None;
  earlier_count = refl;
  head = λ to lt. get_or_none count to ∙ sym (last_none points to);
  before = λ i to lt. absurd (omega arith);
}

-- a part that is written back whole
pub put_back : {A : Type 0} (new old : List A) (n : ℕ) → length new ≡ length old → n ≡ length old → take n (new ++ drop (length new) old) ≡ new
put_back new old n same count = take_at new (drop (length new) old) n (omega arith)

module _ (points : List Point) (count n : ℕ) (heads : List (Option ℕ)) (earlier : List (Option ℕ)) (l : AreLinked points count n heads earlier) where
  linked_case : (k : ℕ) → k < count → (to : ℕ) → to < count → (b : Bool) → (k == to) ≡ b → get_or (slice_set heads k (Some n)) to None ≡ (if b then Some n else last_before points to n)
  linked_case k lt to small true e = get_or-set_at heads k to (Some n) None (sym (eqb-true k to e)) (omega (arith, l.heads_count))
  linked_case k lt to small false e = get_or-set_other heads k to (Some n) None (λ h. eqb-false k to e (sym h)) ∙ l.head to small

  linked_head : (k : ℕ) → k < count → (point_at points n).jumps ≡ Some k → (to : ℕ) → to < count → get_or (slice_set heads k (Some n)) to None ≡ last_before points to (suc n)
  linked_head k lt e to small = rw (last_on points to n, e) (linked_case k lt to small (k == to) refl)

  linked_none : (point_at points n).jumps ≡ None → (to : ℕ) → to < count → get_or heads to None ≡ last_before points to (suc n)
  linked_none e to small = rw (last_on points to n, e) (l.head to small)

  linked_before : (o : Option ℕ) → ((to : ℕ) → (point_at points n).jumps ≡ Some to → o ≡ last_before points to n) → (i to : ℕ) → i < suc n → (point_at points i).jumps ≡ Some to → get_or (earlier ++ o ∷ []) i None ≡ last_before points to i
  linked_before o is i to small e =
      ⊎_elim
      (λ (less : i < n). get_or_append_left earlier (o ∷ []) None i (omega (arith, l.earlier_count)) ∙ l.before i to less e)
      (λ (more : n ≤ i).
      let same : i ≡ length earlier = omega (arith, l.earlier_count) in
      let here : get_or (earlier ++ o ∷ []) i None ≡ o = rw same (get_or-append_seam earlier o [] None) in
      let this : i ≡ n = omega arith in
      here ∙ is to (subst (λ (k : ℕ). (point_at points k).jumps ≡ Some to) this e) ∙ ap (last_before points to) (sym this))
      (cases_lt i n)

  pub linked_on : AreWithin points count → (jumps : Option ℕ) → (point_at points n).jumps ≡ jumps → (o : Option ℕ) (news : List (Option ℕ))
      → ((k : ℕ) → jumps ≡ Some k → k < length heads → (o ≡ get_or heads k None) × (news ≡ slice_set heads k (Some n))) → (jumps ≡ None → news ≡ heads)
      → AreLinked points count (suc n) news (earlier ++ o ∷ [])
  linked_on w None e o news linked none =
      rw (none refl) record {
        heads_count = l.heads_count;
        earlier_count = omega (arith, length-append earlier (o ∷ []), l.earlier_count);
        head = linked_none e;
        before = linked_before o (λ to f. absurd (let g : ◌≡◌ {A = Option ℕ} None (Some to) = sym e ∙ f in cc));
      }
  linked_on w (Some k) e o news linked none =
      let lt = w.jumps n k e in
      let is = linked k refl (rw l.heads_count lt) in
      rw is.1 record {
        heads_count = length-set heads k (Some n) ∙ l.heads_count;
        earlier_count = omega (arith, length-append earlier (o ∷ []), l.earlier_count);
        head = linked_head k lt e;
        before = linked_before o (λ to f. let g : k ≡ to = same_Some k to (sym e ∙ f) in is.0 ∙ l.head k lt ∙ ap (λ x. last_before points x n) g);
      }

-- ---- along a chain
-- the points at or after this one that jump to a point have these registers
pub record IsPassing (points : List Point) (to : ℕ) (set : RegSet) (s : State) (next : Option ℕ) : Type 0 where
  pub from : ℕ
  pub few : from ≤ length points
  pub head : next ≡ last_before points to from
  pub passed : (i : ℕ) → from ≤ i → (point_at points i).jumps ≡ Some to → HasPassed points set s i

-- the head of a chain
pub record IsNextPoint (points : List Point) (to i n : ℕ) : Type 0 where
  pub below : i < n
  pub jumps : (point_at points i).jumps ≡ Some to
  pub none : (j : ℕ) → i < j → j < n → (point_at points j).jumps ≡ Some to → ⊥

pub next_point : (points : List Point) (to i n : ℕ) → Some i ≡ last_before points to n → IsNextPoint points to i n
next_point points to i n e =
    let h : IsHead points to n (Some i) = subst (IsHead points to n) (sym e) (head_is points to n) in
    record { below = omega (arith, h.below); jumps = h.jumps i refl; none = λ j lt. h.none j (omega arith) }

pub passing_on : (points : List Point) (to : ℕ) (set : RegSet) (s t : State) (i : ℕ) (next : Option ℕ) → IsPassing points to set s (Some i) → Grows s t → HasPassed points set t i → next ≡ last_before points to i → IsPassing points to set t next
passing_on points to set s t i next p g here e =
    let h = next_point points to i p.from p.head in
    record {
      from = i;
      few = omega (arith, h.below, p.few);
      head = e;
      passed = λ j le jumps.
          ⊎_elim
          (λ (less : j < p.from). ⊎_elim (λ (less2 : i < j). absurd (h.none j less2 less jumps)) (λ (more : j ≤ i). let same : i ≡ j = omega arith in subst (HasPassed points set t) same here) (cases_lt i j))
          (λ (more : p.from ≤ j). λ r a. g.sets j r (p.passed j more jumps r a))
          (cases_lt j p.from);
    }

pub bound_falls : (points : List Point) (to i : ℕ) (next head : Option ℕ) → next ≡ last_before points to i → head ≡ Some i → bound next < bound head
bound_falls points to i next head e is =
    let h = head_is points to i in
    let a : bound next ≡ bound (last_before points to i) = ap bound e in
    let b : bound head ≡ suc i = ap bound is in
    omega (arith, a, b, h.below)

-- nothing is left of a chain
pub passed_all : (points : List Point) (to : ℕ) (set : RegSet) (s : State) (next : Option ℕ) → IsPassing points to set s next → next ≡ None → (i : ℕ) → (point_at points i).jumps ≡ Some to → HasPassed points set s i
passed_all points to set s next p none i jumps =
    ⊎_elim
    (λ (less : i < p.from).
    let h : IsHead points to p.from None = subst (IsHead points to p.from) (sym p.head ∙ none) (head_is points to p.from) in
    absurd (h.none i (omega arith) less jumps))
    (λ (more : p.from ≤ i). p.passed i more jumps)
    (cases_lt i p.from)

-- ---- points, none of which jumps
none_of : (o : Option ℕ) → is_none o ≡ true → o ≡ None
none_of None e = refl
none_of (Some k) e = cc

none_at : (points : List Point) → list_all (λ p. is_none p.jumps) points ≡ true → (i : ℕ) → (point_at points i).jumps ≡ None
none_at [] e zero = refl
none_at [] e (suc i) = refl
none_at (p ∷ points) e zero = none_of p.jumps (and_parts (is_none p.jumps) (list_all (λ q. is_none q.jumps) points) e).0
none_at (p ∷ points) e (suc i) = none_at points (and_parts (is_none p.jumps) (list_all (λ q. is_none q.jumps) points) e).1 i

head_none : (points : List Point) (to n : ℕ) (head : Option ℕ) → ((i : ℕ) → (point_at points i).jumps ≡ None) → IsHead points to n head → None ≡ head
head_none points to n None none h = refl
head_none points to n (Some i) none h = absurd (let f : ◌≡◌ {A = Option ℕ} None (Some to) = sym (none i) ∙ h.jumps i refl in cc)

empty_none : (i : ℕ) → get_or {A = Option ℕ} [] i None ≡ None
empty_none zero = refl
empty_none (suc i) = refl

pub no_chains : (points : List Point) (count : ℕ) (chains : Chains) → list_all (λ p. is_none p.jumps) points ≡ true → chains.last.items ≡ [] → chains.earlier.items ≡ []
    → AreChains points count chains
no_chains points count chains e last earlier =
    let none = none_at points e in
    record {
      last = λ to lt. ap (λ xs. get_or xs to None) last ∙ empty_none to ∙ head_none points to (length points) (last_before points to (length points)) none (head_is points to (length points));
      earlier = λ i to lt jump. absurd (let f : ◌≡◌ {A = Option ℕ} None (Some to) = sym (none i) ∙ jump in cc);
    }
