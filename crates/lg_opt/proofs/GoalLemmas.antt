-- Where jumps lead in the end.
use Rattle.std.proofs.Common.{◌≡◌, ◌≢◌, ℕ, zero, suc, ◌+◌, ◌-◌, ◌<◌, ◌≤◌, ◌⊎◌, inl, inr, Bool, true, false, not, ◌&&◌, nat_lt, nat_le, Option, Some, None, length, refl, sym, ap, ◌∙◌, subst, ⊎_elim, arith}
use Rattle.std.specs.Prelude.{if◌then◌else◌, List, slice_get, slice_index}
use Rattle.std.proofs.lemmas.Bool.{cases_lt, ltb-true, leb-true, true≢false}
use Rattle.lg_base.specs.Runs.{iter}
use Rattle.lg_temp.proofs.Steps.{iter-zero, iter-suc, iter-first}
use Rattle.lg_op.specs.declared.node.Node.{Node}
use Rattle.lg_node.specs.Nodes.{LabelledNodes}
use Rattle.lg_meaning.specs.Steps.{operand_at, node_of_label}
use Rattle.lg_opt.proofs.Pigeons.{first_loud, loud}
use Rattle.lg_opt.specs.Remaining.{new_number}
use Rattle.lg_opt.specs.Hops.{is_jump_at, jump_at, hop_of, hop, IsLead, AreLeads, JumpsWithin}
use Rattle.lg_opt.specs.Goals.{lead, turns, jumps_from, goal_node, is_dropped, next_stays, stays, IsEnd, AreEnds}
use Rattle.lg_opt.proofs.RemainingLemmas.{number-goes, number-le}

-- another node stays where it is
pub rests-there : (l : LabelledNodes) (i : ℕ) → jump_at l i ≡ false → hop l i ≡ i
rests-there l i e = by (slice_get l.nodes i) e
  where
    by : (o : Option Node) → is_jump_at o ≡ false → hop_of l.places i o ≡ i
    by None f = refl
    by (Some n) f = ap (λ b. if b then node_of_label l.places (operand_at n 0) else i) f

module _ (l : LabelledNodes) (within : JumpsWithin l) where
  abbrev from : ℕ → ℕ → ℕ
  from i m = iter (hop l) m i

  -- once at another node, always there
  stuck : (i m d : ℕ) → jump_at l (from i m) ≡ false → from i (m + d) ≡ from i m
  stuck i m zero e = let z : m + 0 ≡ m = omega arith in ap (from i) z
  stuck i m (suc d) e =
      let z : m + suc d ≡ suc (m + d) = omega arith in
      let b = stuck i m d e in
      ap (from i) z ∙ iter-suc (hop l) (m + d) i ∙ ap (hop l) b ∙ rests-there l (from i m) e

  stuck-at : (i m k : ℕ) → m ≤ k → jump_at l (from i m) ≡ false → from i k ≡ from i m
  stuck-at i m k le e = let z : m + (k - m) ≡ k = omega arith in subst (λ x. from i x ≡ from i m) z (stuck i m (k - m) e)

  pub inside : (i m : ℕ) → i < length l.nodes → from i m < length l.nodes
  unfolding iter
  inside i zero lt = lt
  inside i (suc m) lt = within (from i m) (inside i m lt)

  -- where two of the jumps are at one node, and all between are jumps, they turn for ever
  again : (i x y : ℕ) → x < y → from i x ≡ from i y → ((k : ℕ) → x ≤ k → k < y → jump_at l (from i k) ≡ true) → (d : ℕ) → (k : ℕ) → k ≤ d → (e : ℕ) × (x ≤ e) × (e < y) × (from i (x + k) ≡ from i e)
  again i x y lt same all zero k le = (x, omega arith, lt, (let z : x + k ≡ x = omega arith in ap (from i) z))
  again i x y lt same all (suc d) zero le = (x, omega arith, lt, (let z : x + 0 ≡ x = omega arith in ap (from i) z))
  again i x y lt same all (suc d) (suc k) le = by (again i x y lt same all d k (omega arith))
    where
      by : ((e : ℕ) × (x ≤ e) × (e < y) × (from i (x + k) ≡ from i e)) → (e : ℕ) × (x ≤ e) × (e < y) × (from i (x + suc k) ≡ from i e)
      by b =
          let z : x + suc k ≡ suc (x + k) = omega arith in
          let next : from i (x + suc k) ≡ from i (suc b.0) = ap (from i) z ∙ iter-suc (hop l) (x + k) i ∙ ap (hop l) b.3 ∙ sym (iter-suc (hop l) b.0 i) in
          ⊎_elim (λ l. (suc b.0, omega (arith, b.1), l, next)) (λ ge. let last : suc b.0 ≡ y = omega (arith, ge, b.2) in (x, omega arith, lt, next ∙ ap (from i) last ∙ sym same)) (cases_lt (suc b.0) y)

  -- jumps that end do so after no more of them than there are nodes
  pub ends-soon : (i m : ℕ) → i < length l.nodes → jump_at l (from i m) ≡ false → jump_at l (from i (length l.nodes)) ≡ false
  ends-soon i m lt e =
      let f = loud (λ k. jump_at l (from i k)) (λ k. from i k) (length l.nodes) (λ k. inside i k lt) turn 0 in
      let z : 0 + f.0 ≡ f.0 = omega arith in
      let s : jump_at l (from i f.0) ≡ false = subst (λ k. jump_at l (from i k) ≡ false) z f.2 in
      ap (jump_at l) (stuck-at i f.0 (length l.nodes) f.1 s) ∙ s
    where
      turn : (x y : ℕ) → x < y → from i x ≡ from i y → (c : ℕ) × (x < c) × (c ≤ y) × (jump_at l (from i c) ≡ false)
      turn x y less same = by (first_loud (λ k. jump_at l (from i k)) x (y - x))
        where
          by : ((a : ℕ) × (a < y - x) × (jump_at l (from i (x + a)) ≡ false)) ⊎ ((k : ℕ) → x ≤ k → k < x + (y - x) → jump_at l (from i k) ≡ true) → (c : ℕ) × (x < c) × (c ≤ y) × (jump_at l (from i c) ≡ false)
          by (inl a) = (y, less, omega arith, ap (jump_at l) (stuck-at i (x + a.0) y (omega (arith, a.1)) a.2) ∙ a.2)
          by (inr all) = (y, less, omega arith, absurd (never (cases_lt m x)))
            where
              never : (m < x) ⊎ (x ≤ m) → ⊥
              never (inl before) = true≢false (sym (all x (omega arith) (omega arith)) ∙ ap (jump_at l) (stuck-at i m x (omega arith) e) ∙ e)
              never (inr behind) =
                  let b = again i x y less same (λ k a c. all k a (omega arith)) (m - x) (m - x) (omega arith) in
                  let z : x + (m - x) ≡ m = omega arith in
                  true≢false (sym (all b.0 b.1 (omega (arith, b.2))) ∙ ap (jump_at l) (sym b.3 ∙ ap (from i) z) ∙ e)

  -- of a jump that does not turn, and of the node to which it goes
  module _ (i : ℕ) (lt : i < length l.nodes) where
    -- as many jumps on from the next node are one more from this
    shifted : from (hop l i) (length l.nodes) ≡ from i (suc (length l.nodes))
    shifted = sym (iter-first (hop l) (length l.nodes) i)

    pub lead-on : turns l i ≡ false → lead l (hop l i) ≡ lead l i
    lead-on e = shifted ∙ stuck-at i (length l.nodes) (suc (length l.nodes)) (omega arith) e

    pub ends-on : turns l i ≡ false → turns l (hop l i) ≡ false
    ends-on e = ap (jump_at l) (lead-on e) ∙ e

    -- a next node that is no jump is the end
    pub lead-there : jump_at l (hop l i) ≡ false → lead l i ≡ hop l i
    lead-there e =
        let one : from i 1 ≡ hop l i = iter-suc (hop l) 0 i ∙ ap (hop l) (at-zero i) in
        stuck-at i 1 (length l.nodes) (omega arith) (ap (jump_at l) one ∙ e) ∙ one
      where
        at-zero : (k : ℕ) → iter (hop l) 0 k ≡ k
        at-zero k = iter-zero (hop l) k

    pub turns-on : turns l i ≡ true → (jump_at l (hop l i) ≡ true) × (turns l (hop l i) ≡ true)
    turns-on e = (by (jump_at l (hop l i)) refl, by' (turns l (hop l i)) refl)
      where
        by : (b : Bool) → jump_at l (hop l i) ≡ b → jump_at l (hop l i) ≡ true
        by true f = f
        by false f = absurd (true≢false (sym e ∙ ap (jump_at l) (lead-there f) ∙ f))

        by' : (b : Bool) → turns l (hop l i) ≡ b → turns l (hop l i) ≡ true
        by' true f = f
        by' false f = absurd (true≢false (sym e ∙ ends-soon i (suc (length l.nodes)) lt (ap (jump_at l) (sym shifted) ∙ f)))

-- a table of leads that go as far as there are nodes is one of ends
pub ends-are : (l : LabelledNodes) (table : List ℕ) → JumpsWithin l → length table ≡ length l.nodes → AreLeads l (length l.nodes) table → AreEnds l table
ends-are l table within few leads i lt = by (turns l i) refl
  where
    by : (b : Bool) → turns l i ≡ b → IsEnd l table i
    by false e =
        let a = leads i lt in
        let same = a.is ∙ stuck-at l within i (length l.nodes) a.jumps a.many e in
        record { turning = ap (jump_at l) same; end = λ z. same }
    by true e =
        let a = leads i lt in
        record { turning = jumps a (jump_at l (iter (hop l) a.jumps i)) refl; end = λ z. absurd (true≢false (sym e ∙ z)) }
      where
        jumps : (a : IsLead l (length l.nodes) table i) (b : Bool) → jump_at l (iter (hop l) a.jumps i) ≡ b → jump_at l (slice_index table i) ≡ turns l i
        jumps a true f = ap (jump_at l) a.is ∙ f ∙ sym e
        jumps a false f = absurd (true≢false (sym e ∙ ends-soon l within i a.jumps (let z = few in omega arith) f))

-- a node that is dropped has the number of the node to which it leads
module _ (l : LabelledNodes) where
  abbrev number : ℕ → ℕ
  number i = new_number (stays l) i

  pub next-number : (d : ℕ) → d ≤ length l.nodes → number (next_stays l d) ≡ number (length l.nodes - d)
  unfolding next_stays
  next-number zero le = let z : length l.nodes ≡ length l.nodes - 0 = omega arith in ap number z
  next-number (suc d) le = by (is_dropped l (length l.nodes - suc d) (next_stays l d)) refl (next-number d (omega arith))
    where
      i : ℕ
      i = length l.nodes - suc d

      by : (b : Bool) → is_dropped l (length l.nodes - suc d) (next_stays l d) ≡ b → number (next_stays l d) ≡ number (length l.nodes - d) → number (next_stays l (suc d)) ≡ number (length l.nodes - suc d)
      by false e h = ap (λ b. number (if b then next_stays l d else length l.nodes - suc d)) e
      by true e h =
          let z : length l.nodes - suc (length l.nodes - suc d) ≡ d = omega arith in
          let y : length l.nodes - d ≡ suc (length l.nodes - suc d) = omega arith in
          let gone : stays l (length l.nodes - suc d) ≡ false = ap (λ k. not (is_dropped l (length l.nodes - suc d) (next_stays l k))) z ∙ ap not e in
          ap (λ b. number (if b then next_stays l d else length l.nodes - suc d)) e ∙ h ∙ ap number y ∙ number-goes (stays l) (length l.nodes - suc d) gone

  pub dropped-number : (i : ℕ) → i < length l.nodes → stays l i ≡ false → (jump_at l i ≡ true) × (i < goal_node l i) × (number (goal_node l i) ≡ number i)
  dropped-number i lt e = by (jump_at l i) (nat_lt i (goal_node l i)) (nat_le (goal_node l i) (next_stays l (length l.nodes - suc i))) refl refl refl e
    where
      by : (b c d : Bool) → jump_at l i ≡ b → nat_lt i (goal_node l i) ≡ c → nat_le (goal_node l i) (next_stays l (length l.nodes - suc i)) ≡ d → not (b && (c && d)) ≡ false → (jump_at l i ≡ true) × (i < goal_node l i) × (number (goal_node l i) ≡ number i)
      by true true true f g h' k =
          let low : i < goal_node l i = ltb-true i (goal_node l i) g in
          let high : goal_node l i ≤ next_stays l (length l.nodes - suc i) = leb-true (goal_node l i) (next_stays l (length l.nodes - suc i)) h' in
          let n = next-number (length l.nodes - suc i) (omega arith) in
          let z : length l.nodes - (length l.nodes - suc i) ≡ suc i = omega arith in
          let n' : number (next_stays l (length l.nodes - suc i)) ≡ number (suc i) = n ∙ ap number z in
          let a = number-le (stays l) (suc i) (goal_node l i) (omega arith) in
          let b = number-le (stays l) (goal_node l i) (next_stays l (length l.nodes - suc i)) high in
          let c = number-goes (stays l) i e in
          (f, low, omega (arith, a, b, c, n'))
      by true true false f g h k = cc
      by true false d f g h k = cc
      by false c d f g h k = cc

-- of jumps that end, there is one less from the next node on
same-jumps : (l : LabelledNodes) (f i : ℕ) → jump_at l (iter (hop l) f i) ≡ false → jumps_from l (suc f) i ≡ jumps_from l f i
same-jumps l zero i e = let z = ap (jump_at l) (sym (iter-zero (hop l) i)) ∙ e in ap (λ b. if b then suc 0 else 0) z
same-jumps l (suc f) i e = by (jump_at l i) refl (same-jumps l f (hop l i) (ap (jump_at l) (sym (iter-first (hop l) f i)) ∙ e))
  where
    by : (b : Bool) → jump_at l i ≡ b → jumps_from l (suc f) (hop l i) ≡ jumps_from l f (hop l i) → jumps_from l (suc (suc f)) i ≡ jumps_from l (suc f) i
    by b g h = ap (λ k. if jump_at l i then suc k else 0) h

pub one-less : (l : LabelledNodes) (n i : ℕ) → n ≢ 0 → jump_at l i ≡ true → jump_at l (iter (hop l) n i) ≡ false → jumps_from l n (hop l i) < jumps_from l n i
one-less l zero i ne j e = absurd (ne refl)
one-less l (suc f) i ne j e =
    let same = same-jumps l f (hop l i) (ap (jump_at l) (sym (iter-first (hop l) f i)) ∙ e) in
    let here : jumps_from l (suc f) i ≡ suc (jumps_from l f (hop l i)) = ap (λ b. if b then suc (jumps_from l f (hop l i)) else 0) j in
    omega (arith, same, here)
