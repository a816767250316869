-- Threaded nodes have no idle jumps, and no new idle moves.
use Rattle.std.proofs.Common.{◌≡◌, ◌≢◌, ◌⊎◌, inl, inr, ⊎_elim, ℕ, zero, suc, ◌+◌, ◌-◌, ◌<◌, ◌≤◌, Bool, true, false, not, ◌&&◌, ◌||◌, nat_lt, nat_le, Option, Some, length, refl, sym, ap, ◌∙◌, subst, arith, add-one}
use Rattle.std.specs.Prelude.{◌==◌, if◌then◌else◌, slice_get}
use Rattle.std.specs.List.{All}
use Rattle.std.proofs.lemmas.Bool.{cases_lt, cases_eq, eqb-true, eq-eqb, lt-ltb, le-leb, true≢false, or_right, not-false}
use Rattle.std.proofs.lemmas.Option.{slice_get_within}
use Rattle.lg_base.specs.Runs.{iter}
use Rattle.lg_temp.proofs.Steps.{iter-zero, iter-suc}
use Rattle.lg_op.specs.Nodes.{InForm}
use Rattle.lg_op.specs.declared.node.Node.{Node}
use Rattle.lg_op.specs.declared.operand.Label.{Label}
use Rattle.lg_node.specs.Checks.{IsAccepted}
use Rattle.lg_node.specs.Nodes.{LabelledNodes}
use Rattle.lg_node.specs.ShapeLaws.{has_target}
use Rattle.lg_node.proofs.FunctionLaws.{node_within}
use Rattle.lg_opt.proofs.Pigeons.{loud}
use Rattle.lg_meaning.specs.Steps.{operand_at, node_of_label}
use Rattle.lg_opt.specs.Goals.{lead, turns, goal_node, is_dropped, next_stays, stays}
use Rattle.lg_opt.specs.Hops.{is_jump, is_jump_at, jump_at, hop_of, hop, ComesTwice, HasNoIdleJumps}
use Rattle.lg_opt.specs.Remaining.{new_number, retargeted, rewritten}
use Rattle.lg_opt.specs.Targets.{target_node, end_of, AreTargets}
use Rattle.lg_opt.proofs.RemainingLemmas.{number-stays, number-le, number-lt}
use Rattle.lg_opt.proofs.MovedLemmas.{same-op, ComesFrom, comes-from, new-count, stands}
use Rattle.lg_opt.proofs.GoalLemmas.{turns-on, inside, dropped-number, next-number}
use Rattle.lg_opt.proofs.TargetLemmas.{jump-there, jump-targets, jumps-within, target-within, turning-jumps, goal-is, others-stay, target-moved}

-- ---- among more times than places, two are at one place
came : (ℕ → ℕ) → ℕ → ℕ → Bool
came place y zero = false
came place y (suc n) = (place n == place y) || came place y n

came-there : (place : ℕ → ℕ) (y n : ℕ) → came place y n ≡ true → (x : ℕ) × (x < n) × (place x ≡ place y)
unfolding came
came-there place y zero e = cc
came-there place y (suc n) e = by (place n == place y) refl e (came-there place y n)
  where
    by : (b : Bool) → (place n == place y) ≡ b → (b || came place y n) ≡ true → (came place y n ≡ true → (x : ℕ) × (x < n) × (place x ≡ place y)) → (x : ℕ) × (x < suc n) × (place x ≡ place y)
    by true f e again = (n, omega arith, eqb-true (place n) (place y) f)
    by false f e again = let g = again e in (g.0, omega (arith, g.1), g.2)

came-is : (place : ℕ → ℕ) (y n x : ℕ) → x < n → place x ≡ place y → came place y n ≡ true
unfolding came
came-is place y zero x lt e = absurd (omega (arith, lt))
came-is place y (suc n) x lt e = ⊎_elim
    (λ same. ap (λ b. b || came place y n) (eq-eqb (place n) (place y) (ap place (sym same) ∙ e)))
    (λ ne. ap (λ b. (place n == place y) || b) (came-is place y n x (omega (arith, lt, ne)) e) ∙ or_right (place n == place y) true refl)
    (cases_eq x n)

repeats : (place : ℕ → ℕ) (n : ℕ) → ((x : ℕ) → place x < n) → (x : ℕ) × (y : ℕ) × (x < y) × (place x ≡ place y)
repeats place n low =
    let f = loud (λ y. not (came place y y)) place n low (λ x y lt e. (y, lt, omega arith, ap not (came-is place y y x lt e))) 0 in
    let g = came-there place (0 + f.0) (0 + f.0) (not-false (came place (0 + f.0) (0 + f.0)) f.2) in
    (g.0, 0 + f.0, g.1, g.2)

module _ (l : LabelledNodes) (a : IsAccepted l) (formed : All InForm l.nodes) (targets : ℕ → Option Label) (are : AreTargets l targets) where
  abbrev m : LabelledNodes
  m = rewritten l (stays l) targets

  abbrev nu : ℕ → ℕ
  nu = new_number (stays l)

  -- at the new number of a node that stays there is a jump where it is one
  jump-same : (i : ℕ) → i < length l.nodes → stays l i ≡ true → jump_at m (nu i) ≡ jump_at l i
  jump-same i lt s =
      let n = node_within l.nodes i lt in
      ap is_jump_at (stands l (stays l) targets i n.0 n.1 s) ∙ ap is_jump (same-op (targets i) n.0) ∙ ap is_jump_at (sym n.1)

  -- ---- jumps that turn
  -- the jump that stays in the place of one that turns
  record Settles (k : ℕ) : Type 0 where
    to : ℕ
    within : to < length l.nodes
    kept : stays l to ≡ true
    turning : turns l to ≡ true
    number : nu to ≡ nu k

  settles : (d k : ℕ) → length l.nodes ≤ k + d → k < length l.nodes → turns l k ≡ true → Settles k
  settles zero k few lt e = absurd (omega arith)
  settles (suc d) k few lt e = by (stays l k) refl (λ (h : ℕ) more less t. settles d h more less t)
    where
      by : (b : Bool) → stays l k ≡ b → ((h : ℕ) → length l.nodes ≤ h + d → h < length l.nodes → turns l h ≡ true → Settles h) → Settles k
      by true s again = record { to = k; within = lt; kept = s; turning = e; number = refl }
      by false s again =
          let g = dropped-number l k lt s in
          let goal : goal_node l k ≡ hop l k = ap (λ b. if b then hop l k else lead l k) e in
          let up : k < hop l k = subst (λ x. k < x) goal g.1 in
          let f = again (hop l k) (omega arith) (jumps-within l a formed k lt) (turns-on l (jumps-within l a formed) k lt e).1 in
          record { to = f.to; within = f.within; kept = f.kept; turning = f.turning; number = f.number ∙ ap nu (sym goal) ∙ g.2 }

  settled : (k : ℕ) → k < length l.nodes → turns l k ≡ true → Settles k
  settled k lt e = settles (length l.nodes) k (omega arith) lt e

  -- it is a jump, which goes where it went
  jumps-there : (k : ℕ) → k < length l.nodes → turns l k ≡ true → jump_at m (nu k) ≡ true
  jumps-there k lt e =
      let f = settled k lt e in
      ap (jump_at m) (sym f.number) ∙ jump-same f.to f.within f.kept ∙ turning-jumps l a formed f.to f.turning

  hop-kept : (i : ℕ) → i < length l.nodes → stays l i ≡ true → jump_at l i ≡ true → hop m (nu i) ≡ nu (end_of l (hop l i))
  hop-kept i lt s e =
      let j = jump-there l a formed i e in
      ap (hop_of m.places (nu i)) (stands l (stays l) targets i j.node j.here s)
      ∙ ap (λ b. if b then node_of_label m.places (operand_at (retargeted (targets i) j.node) 0) else nu i) (ap is_jump (same-op (targets i) j.node) ∙ j.jumps)
      ∙ target-moved l a formed targets are i j.node j.here (jump-targets j.node.op j.jumps)
      ∙ ap (λ k. nu (end_of l k)) (sym j.goes)

  -- all jumps on from it are at new numbers of jumps that turn
  record Stays (q k : ℕ) : Type 0 where
    from : ℕ
    within : from < length l.nodes
    turning : turns l from ≡ true
    at : q ≡ nu from

  stays-turning : (k : ℕ) → k < length l.nodes → turns l k ≡ true → (c : ℕ) → Stays (iter (hop m) c (nu k)) k
  stays-turning k lt e zero = record { from = k; within = lt; turning = e; at = iter-zero (hop m) (nu k) }
  stays-turning k lt e (suc c) =
      let b = stays-turning k lt e c in
      let f = settled b.from b.within b.turning in
      let on = turns-on l (jumps-within l a formed) f.to f.within f.turning in
      record {
        from = hop l f.to;
        within = jumps-within l a formed f.to f.within;
        turning = on.1;
        at = iter-suc (hop m) c (nu k) ∙ ap (hop m) (b.at ∙ sym f.number) ∙ hop-kept f.to f.within f.kept (turning-jumps l a formed f.to f.turning)
            ∙ ap nu (ap (λ b. if b then hop l f.to else lead l (hop l f.to)) on.1);
      }

  still-turns : (k : ℕ) → k < length l.nodes → turns l k ≡ true → ComesTwice m (nu k)
  still-turns k lt e =
      let f = repeats (λ c. iter (hop m) c (nu k)) (length m.nodes) low in
      let b = stays-turning k lt e f.0 in
      record { first = f.0; second = f.1; order = f.2; jump = ap (jump_at m) b.at ∙ jumps-there b.from b.within b.turning; same = f.3 }
    where
      low : (c : ℕ) → iter (hop m) c (nu k) < length m.nodes
      low c =
          let b = stays-turning k lt e c in
          let f = settled b.from b.within b.turning in
          let up = number-lt (stays l) f.to (length l.nodes) f.within f.kept in
          omega (arith, up, b.at, f.number, new-count l (stays l) targets)

  -- ---- no label in front of a jump is named, unless it turns
  turns-end : (k : ℕ) → k < length l.nodes → jump_at m (nu (end_of l k)) ≡ true → ComesTwice m (nu (end_of l k))
  turns-end k lt j = by (turns l k) refl
    where
      by : (b : Bool) → turns l k ≡ b → ComesTwice m (nu (end_of l k))
      by true e = let z : end_of l k ≡ k = ap (λ b. if b then k else lead l k) e in subst (λ x. ComesTwice m (nu x)) (sym z) (still-turns k lt e)
      by false e =
          let z : end_of l k ≡ lead l k = ap (λ b. if b then k else lead l k) e in
          let within : lead l k < length l.nodes = inside l (jumps-within l a formed) k (length l.nodes) lt in
          absurd (true≢false (sym j ∙ ap (λ x. jump_at m (nu x)) z ∙ jump-same (lead l k) within (others-stay l a formed (lead l k) e) ∙ e))

  -- ---- no jump goes to the next node
  next-kept : (d : ℕ) → d ≤ length l.nodes → (next_stays l d ≡ length l.nodes) ⊎ (stays l (next_stays l d) ≡ true)
  unfolding next_stays
  next-kept zero le = inl refl
  next-kept (suc d) le = by (is_dropped l (length l.nodes - suc d) (next_stays l d)) refl (next-kept d (omega arith))
    where
      by : (b : Bool) → is_dropped l (length l.nodes - suc d) (next_stays l d) ≡ b → (next_stays l d ≡ length l.nodes) ⊎ (stays l (next_stays l d) ≡ true)
          → ((if b then next_stays l d else length l.nodes - suc d) ≡ length l.nodes) ⊎ (stays l (if b then next_stays l d else length l.nodes - suc d) ≡ true)
      by true e h = h
      by false e h =
          let z : length l.nodes - suc (length l.nodes - suc d) ≡ d = omega arith in
          inr (ap (λ k. not (is_dropped l (length l.nodes - suc d) (next_stays l k))) z ∙ ap not e)

  -- the first node after one that stays, or the place after the last
  abbrev next : ℕ → ℕ
  next i = next_stays l (length l.nodes - suc i)

  far : (i : ℕ) → i < length l.nodes → stays l i ≡ true → jump_at l i ≡ true → nu (goal_node l i) ≢ suc (nu i)
  far i lt s e same = ⊎_elim behind ahead (cases_lt i (goal_node l i))
    where
      up : nu (suc i) ≡ suc (nu i)
      up = number-stays (stays l) i s ∙ add-one (nu i)

      within : goal_node l i < length l.nodes
      within = by (turns l i) refl
        where
          by : (b : Bool) → turns l i ≡ b → goal_node l i < length l.nodes
          by true f = subst (λ k. k < length l.nodes) (sym (ap (λ b. if b then hop l i else lead l i) f)) (jumps-within l a formed i lt)
          by false f = subst (λ k. k < length l.nodes) (sym (ap (λ b. if b then hop l i else lead l i) f)) (inside l (jumps-within l a formed) i (length l.nodes) lt)

      next-is : nu (next i) ≡ suc (nu i)
      next-is = let z : length l.nodes - (length l.nodes - suc i) ≡ suc i = omega arith in next-number l (length l.nodes - suc i) (omega arith) ∙ ap nu z ∙ up

      past : next i < goal_node l i → (next i ≡ length l.nodes) ⊎ (stays l (next i) ≡ true) → ⊥
      past more (inl end) = let w = within in omega arith
      past more (inr kept) = let z = number-lt (stays l) (next i) (goal_node l i) more kept in let y = next-is in omega arith

      near : i < goal_node l i → goal_node l i ≤ next i → stays l i ≡ false
      near low le =
          ap (λ b. not (b && (nat_lt i (goal_node l i) && nat_le (goal_node l i) (next i)))) e
          ∙ ap (λ b. not (b && nat_le (goal_node l i) (next i))) (lt-ltb i (goal_node l i) low)
          ∙ ap not (le-leb (goal_node l i) (next i) le)

      behind : i < goal_node l i → ⊥
      behind low = ⊎_elim
          (λ more. past more (next-kept (length l.nodes - suc i) (omega arith)))
          (λ le. true≢false (sym s ∙ near low le))
          (cases_lt (next i) (goal_node l i))

      ahead : goal_node l i ≤ i → ⊥
      ahead le = let z = number-le (stays l) (goal_node l i) i le in omega arith

  -- what stays of a node that was
  abbrev Old : ℕ → Type 0
  Old k = ComesFrom l (stays l) k

  old-of : (k : ℕ) (n : Node) → slice_get m.nodes k ≡ Some n → Old k
  old-of k n e = comes-from (stays l) l k (let count = new-count l (stays l) targets in let lt = slice_get_within m.nodes k n e in omega arith)

  node-is : (k : ℕ) (n : Node) (e : slice_get m.nodes k ≡ Some n) (o : Old k) → n ≡ retargeted (targets o.index) o.node
  node-is k n e o = some-same (sym e ∙ ap (slice_get m.nodes) (sym o.number) ∙ stands l (stays l) targets o.index o.node o.here o.kept)
    where
      some-same : {x y : Node} → ◌≡◌ {A = Option Node} (Some x) (Some y) → x ≡ y
      some-same e = cc

  target-there : (k : ℕ) (n : Node) → slice_get m.nodes k ≡ Some n → (o : Old k) → has_target n.op ≡ true → (node_of_label m.places (operand_at n 0) ≡ nu (end_of l (target_node l o.node))) × (target_node l o.node < length l.nodes)
  target-there k n e o t =
      let same = node-is k n e o in
      let jumps : has_target o.node.op ≡ true = ap has_target (sym (same-op (targets o.index) o.node)) ∙ ap (λ (x : Node). has_target x.op) (sym same) ∙ t in (
        ap (λ x. node_of_label m.places (operand_at x 0)) same ∙ target-moved l a formed targets are o.index o.node o.here jumps,
        target-within l a formed o.index o.node o.here jumps,
      )

  pub no-idle-jumps : HasNoIdleJumps (rewritten l (stays l) targets) has_target
  no-idle-jumps = record {
    last = λ k n e t j.
        let o = old-of k n e in
        let at = target-there k n e o t in
        subst (ComesTwice m) (sym at.0) (turns-end (target_node l o.node) at.1 (ap (jump_at m) (sym at.0) ∙ j));
    farther = λ k n e j same.
        let o = old-of k n e in
        let at = target-there k n e o (jump-targets n.op j) in
        let lt = slice_get_within l.nodes o.index o.node o.here in
        let jumps : jump_at l o.index ≡ true = ap is_jump_at o.here ∙ ap is_jump (sym (same-op (targets o.index) o.node)) ∙ ap (λ (x : Node). is_jump x.op) (sym (node-is k n e o)) ∙ j in
        let goes : hop l o.index ≡ target_node l o.node = ap (hop_of l.places o.index) o.here ∙ ap (λ b. if b then target_node l o.node else o.index) (ap is_jump_at (sym o.here) ∙ jumps) in
        far o.index lt o.kept jumps (ap nu (sym (goal-is l a formed o.index lt) ∙ ap (end_of l) goes) ∙ sym at.0 ∙ same ∙ ap suc (sym o.number));
  }
