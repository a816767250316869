-- What is required at the points of a text is what is needed at its nodes.
use Rattle.std.proofs.Common.{◌≡◌, ◌↔◌, inl, inr, ⊎_elim, ℕ, ◌+◌, ◌*◌, ◌<◌, ◌≤◌, Bool, true, false, List, Option, Some, None, refl, sym, ap, ◌∙◌, length, get_or, arith}
use Rattle.std.specs.Prelude.{slice_get, not, ◌&&◌, nat_lt, if◌then◌else◌}
use Rattle.std.proofs.lemmas.Bool.{cases_lt, and_parts, not-true}
use Rattle.std.proofs.lemmas.List.{get_or_past}
use Rattle.std.proofs.lemmas.Option.{slice_get_within, slice_get-get_or, slice_get_cases, same_Some}
use Rattle.lg_op.specs.declared.node.Node.{Node}
use Rattle.lg_op.specs.declared.op.Op.{Op}
use Rattle.lg_op.specs.declared.operand.Reg.{Reg}
use Rattle.lg_node.specs.Nodes.{LabelledNodes}
use Rattle.lg_node.specs.Functions.{home}
use Rattle.lg_node.specs.Shapes.{TextShape, IsSuccessor, IsTakenIn, IsTarget, IsNext, GoesBy, Way, Next, Jump, Either, Taken, Leave, way_of, target_of}
use Rattle.lg_live.specs.RegSets.{has}
use Rattle.lg_live.specs.declared.point.Point.{Point}
use Rattle.lg_live.specs.Graphs.{point_at, no_point, IsArc, falls, jumps, joins, IsWanted, IsWantedAfter, AreWithin}
use Rattle.lg_live.specs.Graphs as graph
use Rattle.lg_live.specs.Needs.{IsNeededBy, IsNeededAfter}
use Rattle.lg_live.specs.Needs as need
use Rattle.lg_live.specs.Uses.{is_read}
use Rattle.lg_live.specs.Points.{falls_by, aims_by, gathers_by, node_within, gate, gate_of, join_of, IsTakenAt, IsPoint, ArePoints}
use Rattle.lg_live.proofs.ChainLemmas.{jumps_past}
use Rattle.lg_live.proofs.SearchLemmas.{past_reads_none}
use Rattle.lg_node.proofs.FunctionLaws.{home_from}
use Rattle.lg_live.proofs.PointLemmas.{ltb_of_lt, lt_of_ltb, node_of_within, below_of_within, within_of_node}

there_is : {A : Type 0} (xs : List A) (i : ℕ) → i < length xs → (x : A) × (slice_get xs i ≡ Some x)
there_is {A = A} xs i lt = ⊎_elim (λ (h : (x : A) × (i < length xs) × (slice_get xs i ≡ Some x) × (get_or xs i x ≡ x)). (h.0, h.2)) (λ (h : (length xs ≤ i) × (slice_get xs i ≡ None)). absurd (omega (arith, h.0))) (slice_get_cases xs i).1

falls_past : (points : List Point) (i : ℕ) → length points ≤ i → (point_at points i).falls ≡ true → ⊥
falls_past points i le e =
    let f : ◌≡◌ {A = Bool} false true = sym (ap (λ (p : Point). p.falls) (get_or_past points i no_point le)) ∙ e in
    cc

joins_past : (points : List Point) (i k : ℕ) → length points ≤ i → (point_at points i).joins ≡ Some k → ⊥
joins_past points i k le e =
    let f : ◌≡◌ {A = Option ℕ} None (Some k) = sym (ap (λ (p : Point). p.joins) (get_or_past points i no_point le)) ∙ e in
    cc

writes_past : (points : List Point) (i : ℕ) (r : Reg) → length points ≤ i → has (point_at points i).writes r ≡ false
writes_past points i r le = ap (λ (p : Point). has p.writes r) (get_or_past points i no_point le)

feeds_past : (points : List Point) (i : ℕ) (r : Reg) → length points ≤ i → has (point_at points i).feeds r ≡ true → ⊥
feeds_past points i r le e =
    let d : has (point_at points i).feeds r ≡ false = ap (λ (p : Point). has p.feeds r) (get_or_past points i no_point le) in
    let f : ◌≡◌ {A = Bool} false true = sym d ∙ e in
    cc

-- ---- ways
goes_next : (l : LabelledNodes) (s : TextShape) (i k : ℕ) (n : Node) (w : Way) → falls_by w ≡ true → IsNext l i k → GoesBy l s i n w k
goes_next l s i k n Next e h = h
goes_next l s i k n Either e h = inr h
goes_next l s i k n Jump e h = absurd (cc)
goes_next l s i k n Taken e h = absurd (cc)
goes_next l s i k n Leave e h = absurd (cc)

goes_jump : (l : LabelledNodes) (s : TextShape) (i k : ℕ) (n : Node) (w : Way) → aims_by w ≡ true → IsTarget l n k → GoesBy l s i n w k
goes_jump l s i k n Jump e h = h
goes_jump l s i k n Either e h = inl h
goes_jump l s i k n Next e h = absurd (cc)
goes_jump l s i k n Taken e h = absurd (cc)
goes_jump l s i k n Leave e h = absurd (cc)

goes_taken : (l : LabelledNodes) (s : TextShape) (i k : ℕ) (n : Node) (w : Way) → gathers_by w ≡ true → IsTakenIn l s i k → GoesBy l s i n w k
goes_taken l s i k n Taken e h = h
goes_taken l s i k n Next e h = absurd (cc)
goes_taken l s i k n Jump e h = absurd (cc)
goes_taken l s i k n Either e h = absurd (cc)
goes_taken l s i k n Leave e h = absurd (cc)

-- a register is needed before some node that is a taken label of a function
pub record IsNeededAtGate (feeding : Op → Bool) (l : LabelledNodes) (s : TextShape) (r : Reg) (p : ℕ) : Type 0 where
  pub node : ℕ
  pub taken : IsTakenAt l s node
  pub inside : home l.nodes node ≡ Some p
  pub behind : p < node
  pub needed : IsNeededBy feeding l s r node

-- what it is for a register to be required at a point
pub record IsMeant (feeding : Op → Bool) (l : LabelledNodes) (s : TextShape) (r : Reg) (i : ℕ) : Type 0 where
  pub node : i < length l.nodes → IsNeededBy feeding l s r i
  pub gates : (p : ℕ) → i ≡ gate l p → IsNeededAtGate feeding l s r p

within : (feeding : Op → Bool) (l : LabelledNodes) (s : TextShape) (r : Reg) (i : ℕ) → IsNeededBy feeding l s r i → i < length l.nodes
within feeding l s r i (need.read_here r1 j n h e d) = slice_get_within l.nodes i n h
within feeding l s r i (need.read_for r1 q j k n h f w g e) = slice_get_within l.nodes i n h
within feeding l s r i (need.kept_to r1 j k n h w g e) = slice_get_within l.nodes i n h

module _ (feeding : Op → Bool) (l : LabelledNodes) (s : TextShape) (points : List Point) (are : ArePoints feeding l s points) where
  point_here : (i : ℕ) (n : Node) → slice_get l.nodes i ≡ Some n → IsPoint feeding l s i n (point_at points i)
  point_here i n h = are.each i n (point_at points i) h (slice_get-get_or points i no_point (let lt = slice_get_within l.nodes i n h in omega (arith, lt, are.count)))

  -- ---- what is required is needed
  gate_case : (r : Reg) (i k : ℕ) (n : Node) → slice_get l.nodes i ≡ Some n → IsMeant feeding l s r k → (b : Bool) → gathers_by (way_of n.op) ≡ b → (o : Option ℕ) → home l.nodes i ≡ o → gate_of l b o ≡ Some k → IsNeededAfter feeding l s r i
  gate_case r i k n h m b g None e f = absurd (cc)
  gate_case r i k n h m false g (Some p) e f = absurd (cc)
  gate_case r i k n h m true g (Some p) e f =
      let t = m.gates p (sym (same_Some (gate l p) k f)) in
      record {
        next = t.node;
        successor = record { node = n; here = h; goes = goes_taken l s i t.node n (way_of n.op) g record { label = t.taken.label; taken = t.taken.by.taken; place = t.taken.by.place; function = p; here = e; there = t.inside; behind = t.behind } };
        needed = t.needed;
      }

  jump_case : (r : Reg) (i k : ℕ) (n : Node) → slice_get l.nodes i ≡ Some n → IsMeant feeding l s r k → (b : Bool) → aims_by (way_of n.op) ≡ b → (if b then node_within (length l.nodes) (target_of l.places n.operands) else gate_of l (gathers_by (way_of n.op)) (home l.nodes i)) ≡ Some k → IsNeededAfter feeding l s r i
  jump_case r i k n h m true a e =
      let target : IsTarget l n k = node_of_within (length l.nodes) k (target_of l.places n.operands) e in
      record { next = k; successor = record { node = n; here = h; goes = goes_jump l s i k n (way_of n.op) a target }; needed = m.node (below_of_within (length l.nodes) k (target_of l.places n.operands) e) }
  jump_case r i k n h m false a e = gate_case r i k n h m (gathers_by (way_of n.op)) refl (home l.nodes i) refl e

  jump_after : (r : Reg) (i k : ℕ) (n : Node) → slice_get l.nodes i ≡ Some n → IsMeant feeding l s r k → (point_at points i).jumps ≡ Some k → IsNeededAfter feeding l s r i
  jump_after r i k n h m e = jump_case r i k n h m (aims_by (way_of n.op)) refl (sym (point_here i n h).jumps ∙ e)

  fall_after : (r : Reg) (i k : ℕ) (n : Node) → slice_get l.nodes i ≡ Some n → IsMeant feeding l s r k → (point_at points i).falls ≡ true → k ≡ i + 1 → IsNeededAfter feeding l s r i
  fall_after r i k n h m e next =
      let parts = and_parts (falls_by (way_of n.op)) (nat_lt (i + 1) (length l.nodes)) (sym (point_here i n h).falls ∙ e) in
      let lt : k < length l.nodes = (let b = lt_of_ltb (i + 1) (length l.nodes) parts.1 in omega (arith, b, next)) in
      record { next = k; successor = record { node = n; here = h; goes = goes_next l s i k n (way_of n.op) parts.0 (next, lt) }; needed = m.node lt }

  kept_before : (r : Reg) (i : ℕ) (n : Node) → slice_get l.nodes i ≡ Some n → has (point_at points i).writes r ≡ false → IsNeededAfter feeding l s r i → IsNeededBy feeding l s r i
  kept_before r i n h w b = need.kept_to r i b.next n h (sym ((point_here i n h).writes r) ∙ w) b.successor b.needed

  fed_before : (r q : Reg) (i : ℕ) (n : Node) → slice_get l.nodes i ≡ Some n → has (point_at points i).feeds r ≡ true → has (point_at points i).writes q ≡ true → IsNeededAfter feeding l s q i → IsNeededBy feeding l s r i
  fed_before r q i n h f w b =
      let parts = and_parts (is_read n r) (feeding n.op) (sym ((point_here i n h).feeds r) ∙ f) in
      need.read_for r q i b.next n h parts.0 (sym ((point_here i n h).writes q) ∙ w) b.successor b.needed

  -- a gate is after the nodes
  gate_high : (i k : ℕ) (o : Option ℕ) (marked : Bool) → join_of l o k marked ≡ Some i → length l.nodes ≤ i
  gate_high i k None marked e = absurd (cc)
  gate_high i k (Some p) marked e = by (marked && nat_lt p k) e
    where
      by : (b : Bool) → (if b then Some (gate l p) else None) ≡ Some i → length l.nodes ≤ i
      by false e = absurd (let g : ◌≡◌ {A = Option ℕ} None (Some i) = e in cc)
      by true e = let at = same_Some (gate l p) i e in omega (arith, at)

  join_high : (i k : ℕ) → (point_at points k).joins ≡ Some i → length l.nodes ≤ i
  join_high i k e =
      ⊎_elim
      (λ (lt : k < length l.nodes). let n = there_is l.nodes k lt in let pt = point_here k n.0 n.1 in gate_high i k (home l.nodes k) pt.marked (sym pt.joins ∙ e))
      (λ (le : length l.nodes ≤ k). absurd (joins_past points k i (omega (arith, le, are.count)) e))
      (cases_lt k (length l.nodes))

  join_case : (r : Reg) (i k : ℕ) → IsNeededBy feeding l s r k → (marked : Bool) → (marked ≡ true → IsTakenAt l s k) → (o : Option ℕ) → home l.nodes k ≡ o → join_of l o k marked ≡ Some i → IsMeant feeding l s r i
  join_case r i k v marked t None e f = absurd (cc)
  join_case r i k v false t (Some q) e f = absurd (cc)
  join_case r i k v true t (Some q) e f = join_gate (nat_lt q k) refl f
    where
      join_gate : (b : Bool) → nat_lt q k ≡ b → (if b then Some (gate l q) else None) ≡ Some i → IsMeant feeding l s r i
      join_gate false d f = absurd (let g : ◌≡◌ {A = Option ℕ} None (Some i) = f in cc)
      join_gate true d f =
          let at : gate l q ≡ i = same_Some (gate l q) i f in
          record {
            node = λ lt. absurd (omega (arith, at));
            gates = λ p g. let same : q ≡ p = omega (arith, at, g) in record { node = k; taken = t refl; inside = e ∙ ap Some same; behind = (let lt = lt_of_ltb q k d in omega (arith, lt, same)); needed = v };
          }

  pub meant : (r : Reg) (i : ℕ) → IsWanted points r i → IsMeant feeding l s r i
  meant r i (graph.read_here r1 j e) = record {
    node = λ lt.
        let n = there_is l.nodes i lt in
        let parts = and_parts (is_read n.0 r) (not (feeding n.0.op)) (sym ((point_here i n.0 n.1).reads r) ∙ e) in
        need.read_here r i n.0 n.1 parts.0 (not-true (feeding n.0.op) parts.1);
    gates = λ p g. absurd (past_reads_none points i r (omega (arith, g, are.count)) e);
  }
  meant r i (graph.read_for r1 q j k f w (falls a b e d) m) = record {
    node = λ lt. let n = there_is l.nodes i lt in fed_before r q i n.0 n.1 f w (fall_after q i k n.0 n.1 (meant q k m) e d);
    gates = λ p g. absurd (feeds_past points i r (omega (arith, g, are.count)) f);
  }
  meant r i (graph.read_for r1 q j k f w (jumps a b e) m) = record {
    node = λ lt. let n = there_is l.nodes i lt in fed_before r q i n.0 n.1 f w (jump_after q i k n.0 n.1 (meant q k m) e);
    gates = λ p g. absurd (feeds_past points i r (omega (arith, g, are.count)) f);
  }
  meant r i (graph.read_for r1 q j k f w (joins a b e) m) = absurd (feeds_past points i r (omega (arith, join_high i k e, are.count)) f)
  meant r i (graph.kept_to r1 j k w (falls a b e f) m) = record {
    node = λ lt. let n = there_is l.nodes i lt in kept_before r i n.0 n.1 w (fall_after r i k n.0 n.1 (meant r k m) e f);
    gates = λ p g. absurd (falls_past points i (omega (arith, g, are.count)) e);
  }
  meant r i (graph.kept_to r1 j k w (jumps a b e) m) = record {
    node = λ lt. let n = there_is l.nodes i lt in kept_before r i n.0 n.1 w (jump_after r i k n.0 n.1 (meant r k m) e);
    gates = λ p g. absurd (jumps_past points i k (omega (arith, g, are.count)) e);
  }
  meant r i (graph.kept_to r1 j k w (joins a b e) m) =
      ⊎_elim
      (λ (lt : k < length l.nodes).
      let n = there_is l.nodes k lt in
      let pt = point_here k n.0 n.1 in
      join_case r i k ((meant r k m).node lt) pt.marked pt.marked_at.0 (home l.nodes k) refl (sym pt.joins ∙ e))
      (λ (le : length l.nodes ≤ k). absurd (joins_past points k i (omega (arith, le, are.count)) e))
      (cases_lt k (length l.nodes))

  -- ---- what is needed is required
  module _ (r : Reg) (i k : ℕ) (n : Node) (h : slice_get l.nodes i ≡ Some n) (lt : k < length l.nodes) (d : IsWanted points r k) where
    falls_on : (w : Way) → way_of n.op ≡ w → falls_by w ≡ true → IsNext l i k → IsWantedAfter points r i
    falls_on w e f g = record {
      next = k;
      way = inl ((point_here i n h).falls ∙ ap (λ x. falls_by x && nat_lt (i + 1) (length l.nodes)) e ∙ ap (λ b. b && nat_lt (i + 1) (length l.nodes)) f ∙ ltb_of_lt (i + 1) (length l.nodes) (omega (arith, g.0, g.1)), g.0);
      needed = d;
    }

    jumps_on : (w : Way) → way_of n.op ≡ w → aims_by w ≡ true → IsTarget l n k → IsWantedAfter points r i
    jumps_on w e f g = record {
      next = k;
      way = inr ((point_here i n h).jumps ∙ ap (λ x. if aims_by x then node_within (length l.nodes) (target_of l.places n.operands) else gate_of l (gathers_by x) (home l.nodes i)) e
          ∙ ap (λ b. if b then node_within (length l.nodes) (target_of l.places n.operands) else gate_of l (gathers_by w) (home l.nodes i)) f
          ∙ ap (node_within (length l.nodes)) g ∙ within_of_node (length l.nodes) k lt);
      needed = d;
    }

    taken_on : way_of n.op ≡ Taken → IsTakenIn l s i k → IsWantedAfter points r i
    taken_on e t =
        let m = there_is l.nodes k lt in
        let pt = point_here k m.0 m.1 in
        let marked : pt.marked ≡ true = pt.marked_at.1 record { label = t.label; by = record { taken = t.taken; place = t.place } } in
        let join : (point_at points k).joins ≡ Some (gate l t.function) =
        pt.joins ∙ ap (λ o. join_of l o k pt.marked) t.there ∙ ap (λ b. if b && nat_lt t.function k then Some (gate l t.function) else None) marked ∙ ap (λ b. if b then Some (gate l t.function) else None) (ltb_of_lt t.function k t.behind) in
        record {
          next = gate l t.function;
          way = inr ((point_here i n h).jumps ∙ ap (λ x. if aims_by x then node_within (length l.nodes) (target_of l.places n.operands) else gate_of l (gathers_by x) (home l.nodes i)) e ∙ ap (gate_of l true) t.here);
          needed = graph.kept_to r (gate l t.function) k (writes_past points (gate l t.function) r (omega (arith, are.count))) (joins (gate l t.function) k join) d;
        }

    way_on : (w : Way) → way_of n.op ≡ w → GoesBy l s i n w k → IsWantedAfter points r i
    way_on Next e g = falls_on Next e refl g
    way_on Jump e g = jumps_on Jump e refl g
    way_on Either e g = ⊎_elim (λ (t : IsTarget l n k). jumps_on Either e refl t) (λ (t : IsNext l i k). falls_on Either e refl t) g
    way_on Taken e g = taken_on e g
    way_on Leave e g = absurd g

  pub needed_after : (r : Reg) (i k : ℕ) → IsSuccessor l s i k → k < length l.nodes → IsWanted points r k → IsWantedAfter points r i
  needed_after r i k t lt d = way_on r i k t.node t.here lt d (way_of t.node.op) refl t.goes

  arc_after : (r : Reg) (i : ℕ) (b : IsWantedAfter points r i) → IsArc points i b.next
  arc_after r i b = ⊎_elim (λ (h : ((point_at points i).falls ≡ true) × (b.next ≡ i + 1)). falls i b.next h.0 h.1) (λ (h : (point_at points i).jumps ≡ Some b.next). jumps i b.next h) b.way

  pub wanted : (r : Reg) (i : ℕ) → IsNeededBy feeding l s r i → IsWanted points r i
  wanted r i (need.read_here r1 j n h e d) = graph.read_here r i ((point_here i n h).reads r ∙ ap (λ b. b && not (feeding n.op)) e ∙ ap not d)
  wanted r i (need.read_for r1 q j k n h f w t v) = by (feeding n.op) refl (needed_after q i k t (within feeding l s q k v) (wanted q k v))
    where
      by : (b : Bool) → feeding n.op ≡ b → IsWantedAfter points q i → IsWanted points r i
      by false d x = graph.read_here r i ((point_here i n h).reads r ∙ ap (λ c. c && not (feeding n.op)) f ∙ ap not d)
      by true d x = graph.read_for r q i x.next ((point_here i n h).feeds r ∙ ap (λ c. c && feeding n.op) f ∙ d) ((point_here i n h).writes q ∙ w) (arc_after q i x) x.needed
  wanted r i (need.kept_to r1 j k n h w t v) =
      let b = needed_after r i k t (within feeding l s r k v) (wanted r k v) in
      graph.kept_to r i b.next ((point_here i n h).writes r ∙ w) (arc_after r i b) b.needed

  -- ---- both
  pub needed_is : (r : Reg) (i : ℕ) → i < length l.nodes → IsWanted points r i ↔ IsNeededBy feeding l s r i
  needed_is r i lt = ((λ d. (meant r i d).node lt), wanted r i)

  pub needed_after_is : (r : Reg) (i : ℕ) → i < length l.nodes → IsWantedAfter points r i ↔ IsNeededAfter feeding l s r i
  needed_after_is r i lt = (
    (λ b.
        let n = there_is l.nodes i lt in
        ⊎_elim
        (λ (h : ((point_at points i).falls ≡ true) × (b.next ≡ i + 1)). fall_after r i b.next n.0 n.1 (meant r b.next b.needed) h.0 h.1)
        (λ (h : (point_at points i).jumps ≡ Some b.next). jump_after r i b.next n.0 n.1 (meant r b.next b.needed) h)
        b.way),
    (λ v. needed_after r i v.next v.successor (within feeding l s r v.next v.needed) (wanted r v.next v.needed)),
  )

  -- ---- all points are below twice the number of nodes
  falls_within : (i : ℕ) → (point_at points i).falls ≡ true → i + 1 < 2 * length l.nodes
  falls_within i e =
      ⊎_elim
      (λ (lt : i < length l.nodes).
      let n = there_is l.nodes i lt in
      let parts = and_parts (falls_by (way_of n.0.op)) (nat_lt (i + 1) (length l.nodes)) (sym (point_here i n.0 n.1).falls ∙ e) in
      let b = lt_of_ltb (i + 1) (length l.nodes) parts.1 in
      omega (arith, b))
      (λ (le : length l.nodes ≤ i). absurd (falls_past points i (omega (arith, le, are.count)) e))
      (cases_lt i (length l.nodes))

  gate_within : (i k : ℕ) → i < length l.nodes → (b : Bool) (o : Option ℕ) → home l.nodes i ≡ o → gate_of l b o ≡ Some k → k < 2 * length l.nodes
  gate_within i k lt b None h e = absurd (cc)
  gate_within i k lt false (Some p) h e = absurd (cc)
  gate_within i k lt true (Some p) h e =
      let from = home_from l.nodes i p h in
      let at = same_Some (gate l p) k e in
      omega (arith, from, at)

  jump_within : (i k : ℕ) (n : Node) → i < length l.nodes → (b : Bool) → (if b then node_within (length l.nodes) (target_of l.places n.operands) else gate_of l (gathers_by (way_of n.op)) (home l.nodes i)) ≡ Some k → k < 2 * length l.nodes
  jump_within i k n lt true e = let b = below_of_within (length l.nodes) k (target_of l.places n.operands) e in omega (arith, b)
  jump_within i k n lt false e = gate_within i k lt (gathers_by (way_of n.op)) (home l.nodes i) refl e

  jumps_within : (i k : ℕ) → (point_at points i).jumps ≡ Some k → k < 2 * length l.nodes
  jumps_within i k e =
      ⊎_elim
      (λ (lt : i < length l.nodes). let n = there_is l.nodes i lt in jump_within i k n.0 lt (aims_by (way_of n.0.op)) (sym (point_here i n.0 n.1).jumps ∙ e))
      (λ (le : length l.nodes ≤ i). absurd (jumps_past points i k (omega (arith, le, are.count)) e))
      (cases_lt i (length l.nodes))

  join_within : (i k : ℕ) → k < length l.nodes → (o : Option ℕ) (marked : Bool) → home l.nodes k ≡ o → join_of l o k marked ≡ Some i → i < 2 * length l.nodes
  join_within i k lt None marked h e = absurd (cc)
  join_within i k lt (Some p) marked h e = gate_at (marked && nat_lt p k) e
    where
      gate_at : (b : Bool) → (if b then Some (gate l p) else None) ≡ Some i → i < 2 * length l.nodes
      gate_at false e = absurd (let g : ◌≡◌ {A = Option ℕ} None (Some i) = e in cc)
      gate_at true e = let at = same_Some (gate l p) i e in let from = home_from l.nodes k p h in omega (arith, at, from)

  joins_within : (i k : ℕ) → (point_at points k).joins ≡ Some i → i < 2 * length l.nodes
  joins_within i k e =
      ⊎_elim
      (λ (lt : k < length l.nodes). let n = there_is l.nodes k lt in let pt = point_here k n.0 n.1 in join_within i k lt (home l.nodes k) pt.marked refl (sym pt.joins ∙ e))
      (λ (le : length l.nodes ≤ k). absurd (joins_past points k i (omega (arith, le, are.count)) e))
      (cases_lt k (length l.nodes))

  pub points_within : AreWithin points (2 * length l.nodes)
  points_within = record { few = omega (arith, are.count); falls = falls_within; jumps = jumps_within; joins = joins_within }
