-- What the rewritings promise, from which nodes stay and which targets they get.
use Rattle.std.proofs.Common.{◌≡◌, inl, inr, ℕ, ◌<◌, ◌≤◌, Bool, false, List, Option, Some, None, length, map, refl, sym, ap, ◌∙◌, subst, arith, Ok, Err}
use Rattle.std.specs.Prelude.{Result, IfOk, slice_get, slice_index}
use Rattle.std.specs.List.{All}
use Rattle.std.specs.Option.{option_map}
use Rattle.std.proofs.lemmas.List.{length-map}
use Rattle.std.proofs.lemmas.Option.{slice_get-map, slice_get-get_or, slice_get_within, get_or_from_slice_get}
use Rattle.lg_op.specs.Nodes.{InForm}
use Rattle.lg_op.specs.declared.node.Node.{Node}
use Rattle.lg_op.specs.declared.op.Op.{Op}
use Rattle.lg_op.specs.declared.operand.Label.{Label}
use Rattle.lg_node.specs.Functions.{functions}
use Rattle.lg_node.specs.Nodes.{LabelledNodes, MayStand}
use Rattle.lg_node.proofs.FunctionLaws.{node_within}
use Rattle.lg_node.specs.ShapeLaws.{has_target}
use Rattle.lg_node.specs.Shapes.{TextShape, IsShapeOf}
use Rattle.lg_meaning.specs.Starts.{begins_at, entered_state}
use Rattle.lg_meaning.specs.States.{State}
use Rattle.lg_opt.specs.Goals as goals
use Rattle.lg_opt.specs.Hops.{HasNoIdleJumps, is_jump, is_jump_at}
use Rattle.lg_opt.specs.Moves as moves
use Rattle.lg_opt.specs.Moves.{HasNoIdleMoves, is_movr}
use Rattle.lg_opt.specs.Remaining.{rewritten, retargeted, no_targets, origins}
use Rattle.lg_opt.specs.Rewritings.{marked, target_in, IsOrigin, IsFirstFrom, IsSameNode, IsThreadedNode, KeepsOthers, KeepsLabels, CarriesAddresses, FromEachStart, RunsAreDropped, RunsAreThreaded, IsDroppedTo, IsThreadedTo}
use Rattle.lg_opt.proofs.DropLemmas.{idle-there, drops-rewrite, are-dropped}
use Rattle.lg_opt.proofs.JumpTidyLemmas.{no-idle-jumps}
use Rattle.lg_opt.proofs.MovedLemmas.{new-count}
use Rattle.lg_opt.proofs.RemainingLemmas.{number-most}
use Rattle.lg_opt.proofs.MoveTidyLemmas.{no-moves-left, keeps-moves}
use Rattle.lg_opt.proofs.OriginLemmas.{rewritten-same, origins-same, origin-is, keeps-others, keeps-labels, carries-addresses}
use Rattle.lg_opt.proofs.TargetLemmas.{threads-rewrite, dropped-jumps}
use Rattle.lg_opt.proofs.TidyLemmas.{move-is}
use Rattle.lg_opt.proofs.ThreadedLemmas.{are-threaded}

pub ok-weaker : {A E : Type 0} (P Q : A → Type 0) (r : Result A E) → ((x : A) → P x → Q x) → IfOk r P → IfOk r Q
ok-weaker P Q (Ok x) f h = f x h
ok-weaker P Q (Err e) f h = tt

pub all-ok : {A E : Type 0} (P Q R S T : A → Type 0) (r : Result A E) → ((x : A) → P x → Q x → R x → S x → T x) → IfOk r P → IfOk r Q → IfOk r R → IfOk r S → IfOk r T
all-ok P Q R S T (Ok x) f p q r s = f x p q r s
all-ok P Q R S T (Err e) f p q r s = tt

-- tables of the nodes that stay
module _ (l : LabelledNodes) (stays : ℕ → Bool) (now : List Bool) (count : length now ≡ length l.nodes) (are : (i : ℕ) → i < length l.nodes → marked now i ≡ stays i) where
  pub list-is : (table : List (Option Label)) (targets : ℕ → Option Label) → ((i : ℕ) → i < length l.nodes → target_in table i ≡ targets i) → All (MayStand (length l.nodes)) l.places
      → (list : LabelledNodes) → list ≡ rewritten l (marked now) (target_in table) → list ≡ rewritten l stays targets
  list-is table targets same placed list e = e ∙ rewritten-same l (marked now) stays (target_in table) targets are same placed

  pub from-is : origins (marked now) (length now) ≡ origins stays (length l.nodes)
  from-is = ap (origins (marked now)) count ∙ origins-same (marked now) stays (length l.nodes) are

module _ (l : LabelledNodes) (shape : TextShape) (is : IsShapeOf l shape) (formed : All InForm l.nodes) (placed : All (MayStand (length l.nodes)) l.places) (m : LabelledNodes) (new_shape : TextShape) (origin : List ℕ) where
  module _ (d : IsDroppedTo l shape m new_shape origin) where
    abbrev dm : LabelledNodes
    dm = rewritten l (moves.stays l) no_targets

    pub dropped-origin : IsOrigin IsSameNode l m origin
    dropped-origin = subst (λ (x : LabelledNodes). IsOrigin IsSameNode l x origin) (sym d.nodes) (subst (IsOrigin IsSameNode l dm) (sym d.from) (origin-is l (moves.stays l) no_targets IsSameNode (λ i n e. refl)))

    pub dropped-others : KeepsOthers is_movr l origin
    dropped-others = subst (KeepsOthers is_movr l) (sym d.from) (keeps-others l (moves.stays l) no_targets is_movr (λ i n e s. let k = idle-there l i n e s in ap is_movr (move-is n.op n.operands k.move k.is).0))

    pub dropped-few : length m.nodes ≤ length l.nodes
    dropped-few = omega (arith, ap (λ (x : LabelledNodes). length x.nodes) d.nodes, new-count l (moves.stays l) no_targets, number-most (moves.stays l) (length l.nodes))

    pub dropped-labels : KeepsLabels l m origin
    dropped-labels = subst (λ (x : LabelledNodes). KeepsLabels l x origin) (sym d.nodes) (subst (KeepsLabels l dm) (sym d.from) (keeps-labels l (moves.stays l) no_targets placed))

    pub dropped-moves : HasNoIdleMoves m
    dropped-moves = subst HasNoIdleMoves (sym d.nodes) (no-moves-left l is.accepted formed)

    pub dropped-addresses : CarriesAddresses l m
    dropped-addresses = subst (CarriesAddresses l) (sym d.nodes) (carries-addresses l (moves.stays l) no_targets (drops-rewrite l) is.accepted)

    pub dropped-runs : RunsAreDropped l shape m new_shape origin
    dropped-runs = subst (λ (x : LabelledNodes). RunsAreDropped l shape x new_shape origin) (sym d.nodes) (subst (RunsAreDropped l shape dm new_shape) (sym d.from)
        (λ size A are. are-dropped l shape is formed A new_shape (subst (λ (x : LabelledNodes). new_shape.functions ≡ functions x.nodes) d.nodes d.shaped.functions) d.taken size are))

  module _ (d : IsThreadedTo l shape m new_shape origin) where
    abbrev tm : LabelledNodes
    tm = rewritten l (goals.stays l) d.targets

    stands-for : (i : ℕ) (n : Node) → slice_get l.nodes i ≡ Some n → IsThreadedNode n (retargeted (d.targets i) n)
    stands-for i n e = by (d.targets i) refl
      where
        by : (o : Option Label) → d.targets i ≡ o → IsThreadedNode n (retargeted o n)
        by None f = inl refl
        by (Some y) f = inr ((d.are.others i n y e f).jumps, y, refl)

    pub threaded-origin : IsOrigin IsThreadedNode l m origin
    threaded-origin = subst (λ (x : LabelledNodes). IsOrigin IsThreadedNode l x origin) (sym d.nodes) (subst (IsOrigin IsThreadedNode l tm) (sym d.from) (origin-is l (goals.stays l) d.targets IsThreadedNode stands-for))

    pub threaded-others : KeepsOthers is_jump l origin
    threaded-others = subst (KeepsOthers is_jump l) (sym d.from) (keeps-others l (goals.stays l) d.targets is_jump (λ i n e s. ap is_jump_at (sym e) ∙ dropped-jumps l is.accepted formed i s))

    pub threaded-few : length m.nodes ≤ length l.nodes
    threaded-few = omega (arith, ap (λ (x : LabelledNodes). length x.nodes) d.nodes, new-count l (goals.stays l) d.targets, number-most (goals.stays l) (length l.nodes))

    pub threaded-labels : KeepsLabels l m origin
    threaded-labels = subst (λ (x : LabelledNodes). KeepsLabels l x origin) (sym d.nodes) (subst (KeepsLabels l tm) (sym d.from) (keeps-labels l (goals.stays l) d.targets placed))

    pub threaded-jumps : HasNoIdleJumps m has_target
    threaded-jumps = subst (λ (x : LabelledNodes). HasNoIdleJumps x has_target) (sym d.nodes) (no-idle-jumps l is.accepted formed d.targets d.are)

    pub threaded-moves : HasNoIdleMoves l → HasNoIdleMoves m
    threaded-moves h = subst HasNoIdleMoves (sym d.nodes) (keeps-moves l is.accepted formed d.targets d.are h)

    pub threaded-addresses : CarriesAddresses l m
    threaded-addresses = subst (CarriesAddresses l) (sym d.nodes) (carries-addresses l (goals.stays l) d.targets (threads-rewrite l is.accepted formed d.targets d.are) is.accepted)

    pub threaded-runs : RunsAreThreaded l shape m new_shape
    threaded-runs = subst (λ (x : LabelledNodes). RunsAreThreaded l shape x new_shape) (sym d.nodes)
        (λ size A are. are-threaded l shape is formed d.targets d.are new_shape (subst (λ (x : LabelledNodes). new_shape.functions ≡ functions x.nodes) d.nodes d.shaped.functions) d.taken A size are)

-- two rewritings, one after the other, from each start
pub starts-join : (l m n : LabelledNodes) (First Second Both : State → State → Type 0) → ((s t u : State) → First s t → Second t u → Both s u)
    → FromEachStart l m First → FromEachStart m n Second → FromEachStart l n Both
starts-join l m n First Second Both join f g e b may begins =
    let x = f e b may begins in
    let y = g e b may x.0 in
    (y.0, join (entered_state e (begins_at l b)) (entered_state e (begins_at m b)) (entered_state e (begins_at n b)) x.1 y.1)

-- and of their nodes
abbrev pub Joined : (Node → Node → Type 0) → (Node → Node → Type 0) → Node → Node → Type 0
Joined First Second old n = (middle : Node) × First old middle × Second middle n

module _ (First Second : Node → Node → Type 0) (l m n : LabelledNodes) (first second : List ℕ) (a : IsOrigin First l m first) (b : IsOrigin Second m n second) where
  abbrev both : List ℕ
  both = map (slice_index first) second

  pub joined-within : (k : ℕ) → k < length second → slice_index second k < length first
  joined-within k lt =
      let at = node_within n.nodes k (omega (arith, lt, b.count)) in
      let c = b.nodes k at.0 at.1 in
      let z = slice_get_within m.nodes (slice_index second k) c.0 c.1 in
      omega (arith, z, a.count)

  mapped : (k : ℕ) → k < length second → slice_index (map (slice_index first) second) k ≡ slice_index first (slice_index second k)
  mapped k lt = get_or_from_slice_get (map (slice_index first) second) k (slice_index first (slice_index second k)) 0 (slice_get-map (slice_index first) second k ∙ ap (option_map (slice_index first)) (slice_get-get_or second k 0 lt))

  few : length (map (slice_index first) second) ≡ length second
  few = length-map second (slice_index first)

  pub origins-join : IsOrigin (Joined First Second) l n (map (slice_index first) second)
  origins-join = record {
    count = few ∙ b.count;
    rises = λ i k lt less.
        let y : k < length second = omega (arith, less, few) in
        let z = joined-within k y in
        let up = a.rises (slice_index second i) (slice_index second k) (b.rises i k lt y) z in
        let p = mapped i (omega arith) in let q = mapped k y in
        omega (arith, up, p, q);
    nodes = λ k x e.
        let c = b.nodes k x e in
        let o = a.nodes (slice_index second k) c.0 c.1 in
        let y : k < length second = (let z = slice_get_within n.nodes k x e in omega (arith, b.count)) in
        (o.0, ap (slice_get l.nodes) (mapped k y) ∙ o.1, (c.0, o.2, c.2));
  }

  -- a node that may not go is there after both
  pub others-join : (goes : Op → Bool) → ((old middle : Node) → First old middle → goes old.op ≡ false → goes middle.op ≡ false) → KeepsOthers goes l first → KeepsOthers goes m second → KeepsOthers goes l (map (slice_index first) second)
  others-join goes still f s i x e may =
      let p = f i x e may in
      let lt : p.0 < length m.nodes = (let z = slice_get_within first p.0 i p.1 in omega (arith, z, a.count)) in
      let at = node_within m.nodes p.0 lt in
      let o = a.nodes p.0 at.0 at.1 in
      let index : slice_index first p.0 ≡ i = get_or_from_slice_get first p.0 i 0 p.1 in
      let same : o.0 ≡ x = some-node o.0 x (sym o.1 ∙ ap (slice_get l.nodes) index ∙ e) in
      let q = s p.0 at.0 at.1 (still o.0 at.0 o.2 (ap (λ (y : Node). goes y.op) same ∙ may)) in
      (q.0, slice_get-map (slice_index first) second q.0 ∙ ap (option_map (slice_index first)) q.1 ∙ ap Some index)
    where
      some-node : (y z : Node) → ◌≡◌ {A = Option Node} (Some y) (Some z) → y ≡ z
      some-node y z e = cc

  -- a label goes to the first node that stays from there on
  first-join : (i k j : ℕ) → IsFirstFrom first i k → IsFirstFrom second k j → IsFirstFrom (map (slice_index first) second) i j
  first-join i k j f s = record {
    within = omega (arith, few, s.within);
    before = λ v lt.
        let y : v < length second = omega (arith, lt, s.within) in
        let z = f.before (slice_index second v) (s.before v lt) in
        omega (arith, mapped v y, z);
    behind = λ v from lt.
        let y : v < length second = omega (arith, lt, few) in
        let z = f.behind (slice_index second v) (s.behind v from y) (joined-within v y) in
        omega (arith, mapped v y, z);
  }

  pub labels-join : KeepsLabels l m first → KeepsLabels m n second → KeepsLabels l n (map (slice_index first) second)
  labels-join f s = record {
    words = s.words ∙ f.words;
    count = s.count ∙ f.count;
    images = λ x k e. f.images x k (s.images x k e);
    nodes = λ x i e.
        let p = f.nodes x i e in
        let q = s.nodes x p.0 p.1 in
        (q.0, q.1, first-join i p.0 q.0 p.2 q.2);
  }
