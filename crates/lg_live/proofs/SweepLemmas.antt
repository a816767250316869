-- The first look at each point, from the last to the first.
use Rattle.std.proofs.Common.{◌≡◌, ◌≢◌, ◌⊎◌, inl, inr, ⊎_elim, ℕ, ◌+◌, ◌<◌, ◌≤◌, Bool, true, false, List, [], ◌∷◌, ◌++◌, Option, Some, None, refl, sym, ap, ◌∙◌, subst, length, replicate, arith}
use Rattle.std.specs.Prelude.{slice_set, ◌||◌}
use Rattle.std.specs.List.{All}
use Rattle.std.proofs.lemmas.Bool.{cases_lt, cases_eq, or_left, or_right, or_cases}
use Rattle.std.proofs.lemmas.List.{get_or-set_same, get_or-set_other, get_or_past, length-replicate}
use Rattle.std.proofs.lemmas.List.Elements.{All-append}
use Rattle.std.proofs.lemmas.Grind.{common_steps}
use Rattle.std.proofs.Math.ListN.{length-set}
use Rattle.lg_op.specs.declared.operand.Reg.{Reg}
use Rattle.lg_live.specs.RegSets.{has}
use Rattle.lg_live.specs.declared.reg_set.RegSet.{RegSet}
use Rattle.lg_live.specs.declared.point.Point.{Point}
use Rattle.lg_live.specs.Chains.{last_before}
use Rattle.lg_live.specs.Graphs.{point_at, passes, set_at, no_point, IsArc, falls, jumps, joins, IsWanted, read_here}
use Rattle.lg_live.specs.Searches.{State, IsQueued, IsSound, AreWantedAt, HasPassed, IsStep, IsUnmet, IsEmptyAt, IsSwept, IsSearching}
use Rattle.lg_live.proofs.ChainLemmas.{bound, IsHead, head_is, jumps_past}
use Rattle.lg_live.proofs.SearchLemmas.{get_appended, get_pushed, zero_set, passes_none, past_reads_none, none_at}

-- ---- points that nothing later leads to
pub unmet_jumps : (points : List Point) (to : ℕ) (head : Option ℕ) → head ≡ last_before points to (length points) → bound head ≤ to → (i : ℕ) → to ≤ i → (point_at points i).jumps ≡ Some to → ⊥
unmet_jumps points to head e low i le jump =
    let h : IsHead points to (length points) head = subst (IsHead points to (length points)) (sym e) (head_is points to (length points)) in
    ⊎_elim
    (λ (less : i < length points). h.none i (omega (arith, le, low)) less jump)
    (λ (more : length points ≤ i). jumps_past points i to more jump)
    (cases_lt i (length points))

falls_past : (points : List Point) (i : ℕ) → length points ≤ i → (point_at points i).falls ≡ true → ⊥
falls_past points i le e =
    let f : ◌≡◌ {A = Bool} false true = sym (ap (λ (p : Point). p.falls) (get_or_past points i no_point le)) ∙ e in
    cc

-- ---- the start
pub swept_start : (points : List Point) (count : ℕ) (set : RegSet) (s : State) → s.sets ≡ replicate count set → s.queue ≡ [] → ((r : Reg) → has set r ≡ false) → IsSwept points count (length points) s
swept_start points count set s e q none =
    let empty : (i : ℕ) → IsEmptyAt s i = none_at count set s.sets e none in
    record {
      all = ap length e ∙ length-replicate count set;
      sound = λ i r h. absurd (let f : ◌≡◌ {A = Bool} false true = sym (empty i r) ∙ h in cc);
      within = rw q (λ k d lt. absurd (omega arith));
      reads = λ i r le h. absurd (past_reads_none points i r le h);
      before = λ i lt. empty i;
      joined = λ k i h. inr (empty k);
      settled = λ k. inr (λ i le step.
          absurd (⊎_elim
          (λ (fall : ((point_at points i).falls ≡ true) × (k ≡ i + 1)). falls_past points i le fall.0)
          (λ (jump : (point_at points i).jumps ≡ Some k). jumps_past points i k le jump)
          step));
    }

-- ---- one point more
abbrev settled_state : State → ℕ → RegSet → List ℕ → State
settled_state s p new queue = record { sets = slice_set s.sets p new; queue = queue }

module _ (points : List Point) (count p : ℕ) (s : State) (new : RegSet) (queue : List ℕ) (w : IsSwept points count (p + 1) s) (lt : p < count)
    (read : (r : Reg) → has (point_at points p).reads r ≡ true → has new r ≡ true)
    (fell : (point_at points p).falls ≡ true → (r : Reg) → passes (point_at points p) (has (set_at s.sets (p + 1))) r ≡ true → has new r ≡ true)
    (jumped : (k : ℕ) → (point_at points p).jumps ≡ Some k → (r : Reg) → passes (point_at points p) (has (set_at s.sets k)) r ≡ true → has new r ≡ true)
    (sound : (r : Reg) → has new r ≡ true → IsWanted points r p)
    (within : All (λ k. k < count) queue)
    (kept : (k : ℕ) → IsQueued s.queue 0 k → IsQueued queue 0 k)
    (met : IsQueued queue 0 p ⊎ IsUnmet points p) where
  here : set_at (slice_set s.sets p new) p ≡ new
  here = get_or-set_same s.sets p new zero_set (omega (arith, w.all, lt))

  there : (i : ℕ) → i ≢ p → set_at (slice_set s.sets p new) i ≡ set_at s.sets i
  there i n = get_or-set_other s.sets p i new zero_set n

  there_has : (i : ℕ) → i ≢ p → (r : Reg) → has (set_at (slice_set s.sets p new) i) r ≡ has (set_at s.sets i) r
  there_has i n r = ap (λ (x : RegSet). has x r) (there i n)

  here_has : (i : ℕ) → i ≡ p → (r : Reg) → has new r ≡ true → has (set_at (slice_set s.sets p new) i) r ≡ true
  here_has i e r h = rw (e, here) h

  swept_sound : IsSound points (settled_state s p new queue)
  swept_sound i r h =
      ⊎_elim
      (λ (e : i ≡ p). let P : ℕ → Type 0 = λ k. IsWanted points r k in subst P (sym e) (sound r (ap (λ (x : RegSet). has x r) (sym (ap (set_at (slice_set s.sets p new)) e ∙ here)) ∙ h)))
      (λ (n : i ≢ p). w.sound i r (sym (there_has i n r) ∙ h))
      (cases_eq i p)

  swept_reads : (i : ℕ) (r : Reg) → p ≤ i → has (point_at points i).reads r ≡ true → has (set_at (slice_set s.sets p new) i) r ≡ true
  swept_reads i r le h =
      ⊎_elim
      (λ (e : i ≡ p). here_has i e r (read r (let P : ℕ → Type 0 = λ k. has (point_at points k).reads r ≡ true in subst P e h)))
      (λ (n : i ≢ p). there_has i n r ∙ w.reads i r (omega (arith, le, n)) h)
      (cases_eq i p)

  swept_before : (i : ℕ) → i < p → IsEmptyAt (settled_state s p new queue) i
  swept_before i less r = there_has i (λ e. absurd (omega (arith, e, less))) r ∙ w.before i (omega (arith, less)) r

  swept_joined : (k i : ℕ) → (point_at points k).joins ≡ Some i → IsQueued queue 0 k ⊎ IsEmptyAt (settled_state s p new queue) k
  swept_joined k i join =
      ⊎_elim
      (λ (e : k ≡ p).
      ⊎_elim
      (λ (q : IsQueued queue 0 p). inl (subst (IsQueued queue 0) (sym e) q))
      (λ (u : IsUnmet points p). absurd (let f : ◌≡◌ {A = Option ℕ} None (Some i) = sym u.joins ∙ (let P : ℕ → Type 0 = λ j. (point_at points j).joins ≡ Some i in subst P e join) in cc))
      met)
      (λ (n : k ≢ p).
      ⊎_elim
      (λ (q : IsQueued s.queue 0 k). inl (kept k q))
      (λ (none : IsEmptyAt s k). inr (λ r. there_has k n r ∙ none r))
      (w.joined k i join))
      (cases_eq k p)

  -- what is required at another point has been passed on to this one
  passed_here : (k : ℕ) → k ≢ p → IsStep points p k → HasPassed points (set_at (slice_set s.sets p new) k) (settled_state s p new queue) p
  passed_here k n step r a =
      let old : passes (point_at points p) (has (set_at s.sets k)) r ≡ true = ap (λ (x : RegSet). passes (point_at points p) (has x) r) (sym (there k n)) ∙ a in
      here_has p refl r
      (⊎_elim
      (λ (fall : ((point_at points p).falls ≡ true) × (k ≡ p + 1)). fell fall.0 r (let P : ℕ → Type 0 = λ j. passes (point_at points p) (has (set_at s.sets j)) r ≡ true in subst P fall.1 old))
      (λ (jump : (point_at points p).jumps ≡ Some k). jumped k jump r old)
      step)

  swept_settled : (k : ℕ) → IsQueued queue 0 k ⊎ ((i : ℕ) → p ≤ i → IsStep points i k → HasPassed points (set_at (slice_set s.sets p new) k) (settled_state s p new queue) i)
  swept_settled k =
      ⊎_elim
      (λ (e : k ≡ p).
      ⊎_elim
      (λ (q : IsQueued queue 0 p). inl (subst (IsQueued queue 0) (sym e) q))
      (λ (u : IsUnmet points p).
      inr (λ i le step.
      absurd (⊎_elim
      (λ (fall : ((point_at points i).falls ≡ true) × (k ≡ i + 1)). omega (arith, e, le, fall.1))
      (λ (jump : (point_at points i).jumps ≡ Some k). u.jumps i le (jump ∙ ap Some e))
      step)))
      met)
      (λ (n : k ≢ p).
      ⊎_elim
      (λ (q : IsQueued s.queue 0 k). inl (kept k q))
      (λ (d : (i : ℕ) → p + 1 ≤ i → IsStep points i k → HasPassed points (set_at s.sets k) s i).
      inr (λ i le step.
      ⊎_elim
      (λ (e : i ≡ p).
      let P : ℕ → Type 0 = λ j. HasPassed points (set_at (slice_set s.sets p new) k) (settled_state s p new queue) j in
      let Q : ℕ → Type 0 = λ j. IsStep points j k in
      subst P (sym e) (passed_here k n (subst Q e step)))
      (λ (m : i ≢ p). λ r a. there_has i m r ∙ d i (omega (arith, le, m)) step r (ap (λ (x : RegSet). passes (point_at points i) (has x) r) (sym (there k n)) ∙ a))
      (cases_eq i p)))
      (w.settled k))
      (cases_eq k p)

  pub swept_on : IsSwept points count p (settled_state s p new queue)
  swept_on = record {
    all = length-set s.sets p new ∙ w.all;
    sound = swept_sound;
    within = within;
    reads = swept_reads;
    before = swept_before;
    joined = swept_joined;
    settled = swept_settled;
  }

-- by what it reads itself, and what it wants where it falls and jumps
pub settled_by : (points : List Point) (count p : ℕ) (s : State) (fall jump both new : RegSet) (queue : List ℕ) → IsSwept points count (p + 1) s → p < count
    → ((r : Reg) → has both r ≡ (has fall r || has jump r)) → ((r : Reg) → has new r ≡ (has (point_at points p).reads r || has both r))
    → ((point_at points p).falls ≡ true → (r : Reg) → passes (point_at points p) (has (set_at s.sets (p + 1))) r ≡ true → has fall r ≡ true)
    → ((k : ℕ) → (point_at points p).jumps ≡ Some k → (r : Reg) → passes (point_at points p) (has (set_at s.sets k)) r ≡ true → has jump r ≡ true)
    → (IsSound points record { sets = s.sets; queue = [] } → AreWantedAt points fall p)
    → (IsSound points record { sets = s.sets; queue = [] } → AreWantedAt points jump p)
    → All (λ k. k < count) queue → ((k : ℕ) → IsQueued s.queue 0 k → IsQueued queue 0 k) → IsQueued queue 0 p ⊎ IsUnmet points p
    → IsSwept points count p (settled_state s p new queue)
settled_by points count p s fall jump both new queue w lt in_both in_new fell jumped fall_sound jump_sound within kept met =
    let behind : (r : Reg) → has both r ≡ true → has new r ≡ true = λ r h. in_new r ∙ or_right (has (point_at points p).reads r) (has both r) h in
    swept_on points count p s new queue w lt
    (λ r h. in_new r ∙ or_left (has (point_at points p).reads r) (has both r) h)
    (λ f r h. behind r (in_both r ∙ or_left (has fall r) (has jump r) (fell f r h)))
    (λ k j r h. behind r (in_both r ∙ or_right (has fall r) (has jump r) (jumped k j r h)))
    (λ r h.
    ⊎_elim
    (λ (e : has (point_at points p).reads r ≡ true). read_here r p e)
    (λ (e : has both r ≡ true).
    ⊎_elim
    (λ (f : has fall r ≡ true). fall_sound w.sound r f)
    (λ (j : has jump r ≡ true). jump_sound w.sound r j)
    (or_cases (has fall r) (has jump r) (sym (in_both r) ∙ e)))
    (or_cases (has (point_at points p).reads r) (has both r) (sym (in_new r) ∙ h)))
    within kept met

-- a point is queued after others
pub queued_more : (queue : List ℕ) (p k : ℕ) → IsQueued queue 0 k → IsQueued (queue ++ p ∷ []) 0 k
queued_more queue p k q = record { place = q.place; behind = omega arith; here = get_appended queue (p ∷ []) q.place k q.here }

pub queued_here : (queue : List ℕ) (p : ℕ) → IsQueued (queue ++ p ∷ []) 0 p
queued_here queue p = record { place = length queue; behind = omega arith; here = get_pushed queue p }

pub within_more : (count p : ℕ) (queue : List ℕ) → p < count → All (λ k. k < count) queue → All (λ k. k < count) (queue ++ p ∷ [])
within_more count p queue lt h = All-append (λ k. k < count) queue (p ∷ []) h (grind (arith, common_steps))

-- ---- the end
searches_by : (points : List Point) (count : ℕ) (s : State) → IsSwept points count 0 s → (k : ℕ) (o : Option ℕ) → (point_at points k).joins ≡ o
    → ((i : ℕ) → 0 ≤ i → IsStep points i k → HasPassed points (set_at s.sets k) s i)
    → IsQueued s.queue 0 k ⊎ ((i : ℕ) → IsArc points i k → HasPassed points (set_at s.sets k) s i)
searches_by points count s w k None e d = inr (arcs k refl)
  where
    arcs : (m : ℕ) → m ≡ k → (i : ℕ) → IsArc points i m → HasPassed points (set_at s.sets k) s i
    arcs m same i (falls j n f g) = d i (omega arith) (inl (f, sym same ∙ g))
    arcs m same i (jumps j n f) = d i (omega arith) (inr (f ∙ ap Some same))
    arcs m same i (joins j n f) = absurd (let g : ◌≡◌ {A = Option ℕ} None (Some i) = sym e ∙ (let P : ℕ → Type 0 = λ x. (point_at points x).joins ≡ Some i in subst P same f) in cc)
searches_by points count s w k (Some g) e d =
    ⊎_elim
    (λ (q : IsQueued s.queue 0 k). inl q)
    (λ (none : IsEmptyAt s k). inr (λ i arc r a. absurd (passes_none (point_at points i) (has (set_at s.sets k)) none r a)))
    (w.joined k g e)

pub swept_searches : (points : List Point) (count : ℕ) (s : State) → IsSwept points count 0 s → IsSearching points count 0 s
swept_searches points count s w = record {
  all = w.all;
  sound = w.sound;
  within = w.within;
  reads = λ i r h. w.reads i r (omega arith) h;
  settled = λ k.
      ⊎_elim
      (λ (q : IsQueued s.queue 0 k). inl q)
      (λ (d : (i : ℕ) → 0 ≤ i → IsStep points i k → HasPassed points (set_at s.sets k) s i). searches_by points count s w k ((point_at points k).joins) refl d)
      (w.settled k);
}
