-- How sets grow.
use Rattle.std.proofs.Common.{◌≡◌, ◌≢◌, ◌⊎◌, inl, inr, ⊎_elim, ℕ, ◌+◌, ◌-◌, ◌<◌, ◌≤◌, Bool, true, false, List, [], ◌∷◌, ◌++◌, Some, refl, sym, ap, ◌∙◌, subst, OnOk, Ok, Err, Result, length, get_or, replicate, arith}
use Rattle.std.specs.Prelude.{slice_get, slice_set, ◌&&◌, ◌||◌, not, nat_eq}
use Rattle.std.specs.List.{sum_by, All}
use Rattle.std.proofs.lemmas.Bool.{cases_lt, eqb-false, and_parts, not-true, or_cases, or_left, or_right, and_from, cases_eq}
use Rattle.std.proofs.lemmas.List.{get_or_append_left, get_or-set_same, get_or-set_other, get_or_past, length-replicate, get_or-replicate}
use Rattle.std.proofs.lemmas.List.Elements.{All-append}
use Rattle.std.proofs.lemmas.List.Sums.{sum_by-set}
use Rattle.std.proofs.lemmas.Option.{slice_get-get_or, slice_get_within, get_or_from_slice_get, same_Some}
use Rattle.std.proofs.lemmas.Grind.{common_steps}
use Rattle.std.proofs.Math.ListN.{length-append, length-set}
use Rattle.std.proofs.Math.Seq.{get_or-append_seam}
use Rattle.std.specs.Int.Bits.{and_zero_r}
use Rattle.lg_op.specs.declared.operand.Reg.{Reg}
use Rattle.lg_op.specs.declared.operand.Reg.TheVariants.{R0, R1, R2, V0, V1, V2, Fp}
use Rattle.lg_live.specs.RegSets.{has}
use Rattle.lg_live.specs.declared.reg_set.RegSet.{RegSet}
use Rattle.lg_live.specs.declared.point.Point.{Point}
use Rattle.lg_live.proofs.ChainLemmas.{jumps_past}
use Rattle.lg_live.specs.Graphs.{point_at, any_register, passes, set_at, no_point, IsArc, falls, jumps, joins, IsWanted, read_here, read_for, kept_to, AreWithin, AreWanted}
use Rattle.lg_live.specs.Searches.{State, IsQueued, weight, Grows, IsSound, HasPassed, HasSpread, IsSearching}

pub get_appended : {A : Type 0} (xs ys : List A) (j : ℕ) (k : A) → slice_get xs j ≡ Some k → slice_get (xs ++ ys) j ≡ Some k
get_appended xs ys j k e =
    let lt : j < length xs = slice_get_within xs j k e in
    slice_get-get_or (xs ++ ys) j k (omega (arith, length-append xs ys)) ∙ ap Some (get_or_append_left xs ys k j lt ∙ get_or_from_slice_get xs j k k e)

pub get_pushed : {A : Type 0} (xs : List A) (y : A) → slice_get (xs ++ y ∷ []) (length xs) ≡ Some y
get_pushed xs y = slice_get-get_or (xs ++ y ∷ []) (length xs) y (omega (arith, length-append xs (y ∷ []))) ∙ ap Some (get_or-append_seam xs y [] y)

pub grows_refl : (a : State) → Grows a a
grows_refl a = record {
  count = refl;
  sets = λ i r h. h;
  longer = omega arith;
  queue = λ j k h. h;
  queued = λ i. inl refl;
  weight = omega arith;
  within = λ h. h;
}

queued_on : (a b c : State) → Grows a b → Grows b c → (i : ℕ) → (set_at c.sets i ≡ set_at a.sets i) ⊎ IsQueued c.queue (length a.queue) i
queued_on a b c f g i =
    ⊎_elim
    (λ (e : set_at c.sets i ≡ set_at b.sets i).
    ⊎_elim (λ (d : set_at b.sets i ≡ set_at a.sets i). inl (e ∙ d))
    (λ (q : IsQueued b.queue (length a.queue) i). inr record { place = q.place; behind = q.behind; here = g.queue q.place i q.here })
    (f.queued i))
    (λ (q : IsQueued c.queue (length b.queue) i). inr record { place = q.place; behind = omega (arith, q.behind, f.longer); here = q.here })
    (g.queued i)

pub grows_trans : (a b c : State) → Grows a b → Grows b c → Grows a c
grows_trans a b c f g = record {
  count = g.count ∙ f.count;
  sets = λ i r h. g.sets i r (f.sets i r h);
  longer = omega (arith, f.longer, g.longer);
  queue = λ j k h. g.queue j k (f.queue j k h);
  queued = queued_on a b c f g;
  weight = omega (arith, f.weight, g.weight);
  within = λ h. let P : ℕ → Type 0 = λ n. All (λ k. k < n) c.queue in subst P f.count (g.within (let Q : ℕ → Type 0 = λ n. All (λ k. k < n) b.queue in subst Q (sym f.count) (f.within h)));
}

no_fp : (set : RegSet) → has set Fp ≡ false
no_fp set = rw (and_zero_r set.0) refl

-- ---- one set grows
abbrev pub zero_set : RegSet
zero_set = record { 0 = 0 }

abbrev pub grown : State → ℕ → RegSet → State
grown s p new = record { sets = slice_set s.sets p new; queue = s.queue ++ p ∷ [] }

abbrev pub room : RegSet → ℕ
room set = 256 - set.0

module _ (s : State) (p : ℕ) (new : RegSet) (in_list : p < length s.sets) (more : (r : Reg) → has (set_at s.sets p) r ≡ true → has new r ≡ true) (rises : (set_at s.sets p).0 < new.0) (byte : new.0 < 256) where
  grown_sets : (i : ℕ) (r : Reg) → has (set_at s.sets i) r ≡ true → has (set_at (grown s p new).sets i) r ≡ true
  grown_sets i r h =
      ⊎_elim
      (λ (e : i ≡ p). rw (e, get_or-set_same s.sets p new zero_set in_list) (more r (let P : ℕ → Type 0 = λ k. has (set_at s.sets k) r ≡ true in subst P e h)))
      (λ (n : i ≢ p). rw (get_or-set_other s.sets p i new zero_set n) h)
      (cases_eq i p)

  grown_queued : (i : ℕ) → (set_at (grown s p new).sets i ≡ set_at s.sets i) ⊎ IsQueued (grown s p new).queue (length s.queue) i
  grown_queued i =
      ⊎_elim
      (λ (e : i ≡ p). inr record { place = length s.queue; behind = omega arith; here = get_pushed s.queue p ∙ ap Some (sym e) })
      (λ (n : i ≢ p). inl (get_or-set_other s.sets p i new zero_set n))
      (cases_eq i p)

  grown_weight : weight (grown s p new) ≤ weight s
  grown_weight =
      let sum : sum_by room (slice_set s.sets p new) + room (set_at s.sets p) ≡ sum_by room s.sets + room new = sum_by-set room s.sets p new zero_set in_list in
      omega (arith, sum, length-append s.queue (p ∷ []))

  pub grown_grows : Grows s (grown s p new)
  grown_grows = record {
    count = length-set s.sets p new;
    sets = grown_sets;
    longer = omega (arith, length-append s.queue (p ∷ []));
    queue = λ j k h. get_appended s.queue (p ∷ []) j k h;
    queued = grown_queued;
    weight = grown_weight;
    within = λ h. All-append (λ k. k < length s.sets) s.queue (p ∷ []) h (grind (arith, common_steps));
  }

-- ---- passing on
record Found (f : Reg → Bool) : Type 0 where
  register : Reg
  has_it : f register ≡ true

any_found : (f : Reg → Bool) → any_register f ≡ true → Found f
any_found f e =
    ⊎_elim (λ h. record { register = R0; has_it = h })
    (λ g. ⊎_elim (λ h. record { register = R1; has_it = h })
    (λ g. ⊎_elim (λ h. record { register = R2; has_it = h })
    (λ g. ⊎_elim (λ h. record { register = V0; has_it = h })
    (λ g. ⊎_elim (λ h. record { register = V1; has_it = h }) (λ h. record { register = V2; has_it = h })
    (or_cases (f V1) (f V2) g))
    (or_cases (f V0) (f V1 || f V2) g))
    (or_cases (f R2) (f V0 || (f V1 || f V2)) g))
    (or_cases (f R1) (f R2 || (f V0 || (f V1 || f V2))) g))
    (or_cases (f R0) (f R1 || (f R2 || (f V0 || (f V1 || f V2)))) e)

found_any : (f : Reg → Bool) (q : Reg) → q ≢ Fp → f q ≡ true → any_register f ≡ true
found_any f R0 n e = or_left (f R0) _ e
found_any f R1 n e = or_right (f R0) _ (or_left (f R1) _ e)
found_any f R2 n e = or_right (f R0) _ (or_right (f R1) _ (or_left (f R2) _ e))
found_any f V0 n e = or_right (f R0) _ (or_right (f R1) _ (or_right (f R2) _ (or_left (f V0) _ e)))
found_any f V1 n e = or_right (f R0) _ (or_right (f R1) _ (or_right (f R2) _ (or_right (f V0) _ (or_left (f V1) _ e))))
found_any f V2 n e = or_right (f R0) _ (or_right (f R1) _ (or_right (f R2) _ (or_right (f V0) _ (or_right (f V1) _ e))))
found_any f Fp n e = absurd (n refl)

has_no_fp : (set : RegSet) (q : Reg) → has set q ≡ true → q ≢ Fp
has_no_fp set q e z = let f : has set Fp ≡ true = ap (has set) (sym z) ∙ e in let g : false ≡ true = sym (no_fp set) ∙ f in cc

none_any : (f : Reg → Bool) → ((q : Reg) → f q ≡ false) → any_register f ≡ false
none_any f h = by (any_register f) refl
  where
    by : (b : Bool) → any_register f ≡ b → any_register f ≡ false
    by false e = e
    by true e = let x = any_found f e in let g : true ≡ false = sym x.has_it ∙ h x.register in cc

pub passes_none : (p : Point) (f : Reg → Bool) → ((q : Reg) → f q ≡ false) → (r : Reg) → passes p f r ≡ true → ⊥
passes_none p f h r e =
    let first : (f r && not (has p.writes r)) ≡ false = ap (λ b. b && not (has p.writes r)) (h r) in
    let none : any_register (λ q. f q && has p.writes q) ≡ false = none_any (λ q. f q && has p.writes q) (λ q. ap (λ b. b && has p.writes q) (h q)) in
    ⊎_elim
    (λ (x : (f r && not (has p.writes r)) ≡ true). let g : false ≡ true = sym first ∙ x in cc)
    (λ (x : (has p.feeds r && any_register (λ q. f q && has p.writes q)) ≡ true). let y = and_parts (has p.feeds r) (any_register (λ q. f q && has p.writes q)) x in let g : false ≡ true = sym none ∙ y.1 in cc)
    (or_cases (f r && not (has p.writes r)) (has p.feeds r && any_register (λ q. f q && has p.writes q)) e)

pub passed_are_needed : (points : List Point) (i k : ℕ) (set passing : RegSet) → IsArc points i k → ((r : Reg) → has set r ≡ true → IsWanted points r k) → ((r : Reg) → has passing r ≡ passes (point_at points i) (has set) r) → (r : Reg) → has passing r ≡ true → IsWanted points r i
passed_are_needed points i k set passing arc needed is r h =
    ⊎_elim
    (λ (x : (has set r && not (has (point_at points i).writes r)) ≡ true).
    let parts = and_parts (has set r) (not (has (point_at points i).writes r)) x in
    kept_to r i k (not-true (has (point_at points i).writes r) parts.1) arc (needed r parts.0))
    (λ (x : (has (point_at points i).feeds r && any_register (λ q. has set q && has (point_at points i).writes q)) ≡ true).
    let parts = and_parts (has (point_at points i).feeds r) (any_register (λ q. has set q && has (point_at points i).writes q)) x in
    let q = any_found (λ q. has set q && has (point_at points i).writes q) parts.1 in
    let both = and_parts (has set q.register) (has (point_at points i).writes q.register) q.has_it in
    read_for r q.register i k parts.0 both.1 arc (needed q.register both.0))
    (or_cases (has set r && not (has (point_at points i).writes r)) (has (point_at points i).feeds r && any_register (λ q. has set q && has (point_at points i).writes q)) (sym (is r) ∙ h))

pub read_at : {A : Type 0} (xs : List A) (i : ℕ) (x d : A) → i < length xs → x ≡ get_or xs i x → get_or xs i d ≡ x
read_at xs i x d lt e = get_or_from_slice_get xs i x d (slice_get-get_or xs i x lt ∙ ap Some (sym e))

-- the set of a point is replaced by a larger one, and the point is queued
pub raised_grows : (s : State) (p : ℕ) (old new more : RegSet) (queue : List ℕ) → p < length s.sets → old ≡ get_or s.sets p old → ((r : Reg) → has new r ≡ (has old r || has more r)) → new.0 < 256 → old.0 ≤ new.0 → nat_eq new.0 old.0 ≡ false → queue ≡ s.queue ++ p ∷ [] → Grows s record { sets = slice_set s.sets p new; queue = queue }
raised_grows s p old new more queue lt is registers byte above other pushed =
    let here : set_at s.sets p ≡ old = read_at s.sets p old zero_set lt is in
    let apart = eqb-false new.0 old.0 other in
    let P : List ℕ → Type 0 = λ q. Grows s record { sets = slice_set s.sets p new; queue = q } in
    subst P (sym pushed)
    (grown_grows s p new lt
    (λ r h. registers r ∙ ap (λ b. b || has more r) (ap (λ (x : RegSet). has x r) (sym here) ∙ h))
    (rw here (omega arith)) byte)

-- ---- the search
later : (queue : List ℕ) (from place k p : ℕ) → from ≤ place → slice_get queue place ≡ Some k → slice_get queue from ≡ Some p → k ≢ p → from + 1 ≤ place
later queue from place k p le a b n =
    ⊎_elim
    (λ (lt : from < place). omega arith)
    (λ (ge : place ≤ from). absurd (let e : place ≡ from = omega arith in n (same_Some k p (sym a ∙ ap (slice_get queue) e ∙ b))))
    (cases_lt from place)

pub searching_on : (points : List Point) (count from p : ℕ) (s t : State) → IsSearching points count from s → slice_get s.queue from ≡ Some p → Grows s t → IsSound points t → HasSpread points p (set_at s.sets p) t → IsSearching points count (from + 1) t
searching_on points count from p s t h here g sound spread = record {
  all = g.count ∙ h.all;
  sound = sound;
  within = let P : ℕ → Type 0 = λ n. All (λ k. k < n) t.queue in subst P h.all (g.within (let Q : ℕ → Type 0 = λ n. All (λ k. k < n) s.queue in subst Q (sym h.all) h.within));
  reads = λ i r e. g.sets i r (h.reads i r e);
  settled = λ k.
      ⊎_elim
      (λ (same : set_at t.sets k ≡ set_at s.sets k).
      ⊎_elim
      (λ (e : k ≡ p). inr (let P : ℕ → Type 0 = λ j. HasSpread points j (set_at t.sets j) t in subst P (sym e) (let R : RegSet → Type 0 = λ set. HasSpread points p set t in subst R (sym (let Q : ℕ → Type 0 = λ j. set_at t.sets j ≡ set_at s.sets j in subst Q e same)) spread)))
      (λ (n : k ≢ p).
      ⊎_elim
      (λ (q : IsQueued s.queue from k). inl record { place = q.place; behind = later s.queue from q.place k p q.behind q.here here n; here = g.queue q.place k q.here })
      (λ (d : HasSpread points k (set_at s.sets k) s). inr (λ i arc r a. g.sets i r (d i arc r (ap (λ (x : RegSet). passes (point_at points i) (has x) r) (sym same) ∙ a))))
      (h.settled k))
      (cases_eq k p))
      (λ (q : IsQueued t.queue (length s.queue) k). inl record { place = q.place; behind = (let lt = slice_get_within s.queue from p here in omega (arith, lt, q.behind)); here = q.here })
      (g.queued k);
}

searched : (points : List Point) (count from : ℕ) (s : State) → IsSearching points count from s → length s.queue ≤ from → (r : Reg) (i : ℕ) → IsWanted points r i → has (set_at s.sets i) r ≡ true
searched points count from s h end r i (read_here r1 j e) = h.reads i r e
searched points count from s h end r i (read_for r1 q j k f w arc n) =
    ⊎_elim
    (λ (x : IsQueued s.queue from k). absurd (let lt = slice_get_within s.queue x.place k x.here in omega (arith, lt, x.behind, end)))
    (λ (d : HasSpread points k (set_at s.sets k) s).
    let there = searched points count from s h end q k n in
    let any = found_any (λ x. has (set_at s.sets k) x && has (point_at points i).writes x) q (has_no_fp (set_at s.sets k) q there) (and_from (has (set_at s.sets k) q) (has (point_at points i).writes q) there w) in
    d i arc r (or_right (has (set_at s.sets k) r && not (has (point_at points i).writes r)) _ (and_from (has (point_at points i).feeds r) _ f any)))
    (h.settled k)
searched points count from s h end r i (kept_to r1 j k w arc n) =
    ⊎_elim
    (λ (q : IsQueued s.queue from k). absurd (let lt = slice_get_within s.queue q.place k q.here in omega (arith, lt, q.behind, end)))
    (λ (d : HasSpread points k (set_at s.sets k) s). d i arc r (or_left (has (set_at s.sets k) r && not (has (point_at points i).writes r)) _ (and_from (has (set_at s.sets k) r) (not (has (point_at points i).writes r)) (searched points count from s h end r k n) (ap not w))))
    (h.settled k)

pub all_needed : (points : List Point) (count from : ℕ) (s : State) → IsSearching points count from s → length s.queue ≤ from → AreWanted points count s.sets
all_needed points count from s h end = record { all = h.all; sound = h.sound; complete = λ i r. searched points count from s h end r i }

-- ---- where points lead
pub arc_below : (points : List Point) (count i k : ℕ) → AreWithin points count → k < count → IsArc points i k → i < count
arc_below points count i k w lt (falls j m e f) = omega (arith, f)
arc_below points count i k w lt (jumps j m e) =
    ⊎_elim (λ (less : i < length points). omega (arith, w.few)) (λ (more : length points ≤ i). absurd (jumps_past points i k more e)) (cases_lt i (length points))
arc_below points count i k w lt (joins j m e) = w.joins i k e

pub on_ok_two : {T E A B C : Type 0} (r : Result T E) → OnOk r A → OnOk r B → (A → B → C) → OnOk r C
on_ok_two (Ok x) a b f = f a b
on_ok_two (Err e) a b f = tt

-- the registers of a point have reached those that join it, to the one before it and to those that jump to it
pub spread_all : (points : List Point) (to : ℕ) (set : RegSet) (a b c : State) → Grows a b → Grows b c
    → ((i : ℕ) → (point_at points to).joins ≡ Some i → HasPassed points set a i)
    → ((i : ℕ) → (point_at points i).falls ≡ true → to ≡ i + 1 → HasPassed points set b i)
    → ((i : ℕ) → (point_at points i).jumps ≡ Some to → HasPassed points set c i)
    → (k : ℕ) → k ≡ to → (i : ℕ) → IsArc points i k → HasPassed points set c i
spread_all points to set a b c f g joined fell jumped k same i (falls j m e d) = λ r x. g.sets i r (fell i e (sym same ∙ d) r x)
spread_all points to set a b c f g joined fell jumped k same i (jumps j m e) = jumped i (e ∙ ap Some same)
spread_all points to set a b c f g joined fell jumped k same i (joins j m e) = λ r x. g.sets i r (f.sets i r (joined i (let P : ℕ → Type 0 = λ n. (point_at points n).joins ≡ Some i in subst P same e) r x))

-- ---- the start
pub record IsBegun (points : List Point) (count index : ℕ) (a s : State) : Type 0 where
  pub empty : a.queue ≡ []
  pub none : (i : ℕ) (r : Reg) → has (set_at a.sets i) r ≡ false
  pub all : length a.sets ≡ count
  pub grows : Grows a s
  pub sound : IsSound points s
  pub reads : (i : ℕ) (r : Reg) → i < index → has (point_at points i).reads r ≡ true → has (set_at s.sets i) r ≡ true

pub past_reads_none : (points : List Point) (i : ℕ) (r : Reg) → length points ≤ i → has (point_at points i).reads r ≡ true → ⊥
past_reads_none points i r le e =
    let d : has (point_at points i).reads r ≡ false = ap (λ (p : Point). has p.reads r) (get_or_past points i no_point le) in
    let f : ◌≡◌ {A = Bool} false true = sym d ∙ e in
    cc

pub begun_searches : (points : List Point) (count index : ℕ) (a s : State) → IsBegun points count index a s → length points ≤ index → IsSearching points count 0 s
begun_searches points count index a s b end = record {
  all = b.grows.count ∙ b.all;
  sound = b.sound;
  within = let P : ℕ → Type 0 = λ n. All (λ k. k < n) s.queue in subst P b.all (b.grows.within (rw b.empty (λ k d lt. absurd (omega arith))));
  reads = λ i r e.
      ⊎_elim (λ (less : i < index). b.reads i r less e) (λ (more : index ≤ i). absurd (past_reads_none points i r (omega arith) e)) (cases_lt i index);
  settled = λ k.
      ⊎_elim
      (λ (same : set_at s.sets k ≡ set_at a.sets k). inr (λ i arc r x. absurd (passes_none (point_at points i) (has (set_at s.sets k)) (λ q. ap (λ (set : RegSet). has set q) same ∙ b.none k q) r x)))
      (λ (q : IsQueued s.queue (length a.queue) k). inl record { place = q.place; behind = omega arith; here = q.here })
      (b.grows.queued k);
}

pub none_at : (count : ℕ) (set : RegSet) (sets : List RegSet) → sets ≡ replicate count set → ((r : Reg) → has set r ≡ false) → (i : ℕ) (r : Reg) → has (set_at sets i) r ≡ false
none_at count set sets e none i r =
    ⊎_elim
    (λ (less : i < count). let f : set_at sets i ≡ set = rw e (get_or-replicate count i set zero_set less) in rw f (none r))
    (λ (more : count ≤ i). let f : set_at sets i ≡ zero_set = rw e (get_or_past (replicate count set) i zero_set (omega (arith, length-replicate count set))) in ap (λ (x : RegSet). has x r) f)
    (cases_lt i count)

pub begun_more : (points : List Point) (count index : ℕ) (a s t : State) → IsBegun points count index a s → Grows s t → IsSound points t → ((r : Reg) → has (point_at points index).reads r ≡ true → has (set_at t.sets index) r ≡ true) → IsBegun points count (index + 1) a t
begun_more points count index a s t b g sound here = record {
  empty = b.empty;
  none = b.none;
  all = b.all;
  grows = grows_trans a s t b.grows g;
  sound = sound;
  reads = λ i r lt e.
      ⊎_elim (λ (less : i < index). g.sets i r (b.reads i r less e))
      (λ (more : index ≤ i). let same : i ≡ index = omega arith in let P : ℕ → Type 0 = λ k. has (point_at points k).reads r ≡ true → has (set_at t.sets k) r ≡ true in subst P (sym same) (here r) e)
      (cases_lt i index);
}
