-- No rewrite that drops nodes makes one that can be folded.
use Rattle.std.proofs.Common.{◌≡◌, ◌≢◌, ℕ, zero, suc, ◌+◌, ◌≤◌, Bool, true, false, ◌||◌, List, [], ◌∷◌, Option, Some, None, length, refl, sym, ap, ◌∙◌, subst, add-one, arith}
use Rattle.std.specs.Prelude.{if◌then◌else◌, is_some, slice_get}
use Rattle.std.specs.List.{All}
use Rattle.std.proofs.lemmas.List.Elements.{All-get_or}
use Rattle.std.proofs.lemmas.Option.{slice_get_within, get_or_from_slice_get, same_Some}
use Rattle.lg_op.specs.Nodes.{InForm}
use Rattle.lg_op.specs.declared.node.Node.{Node}
use Rattle.lg_op.specs.declared.op.Op.{Op}
use Rattle.lg_op.specs.declared.op.Op.TheVariants as op
use Rattle.lg_op.specs.declared.op.ControlOp.TheVariants as control
use Rattle.lg_op.specs.declared.op.PlainOp.TheVariants as plain
use Rattle.lg_op.specs.declared.op.UnaryOp.TheVariants as unary
use Rattle.lg_op.specs.declared.operand.Label.{Label}
use Rattle.lg_op.specs.declared.operand.Operand.{Operand}
use Rattle.lg_op.specs.declared.operand.Operand.TheVariants as operand
use Rattle.lg_op.specs.declared.operand.Reg.{Reg}
use Rattle.lg_op.specs.declared.operand.Reg.TheVariants.{R0, R1, R2, V0, V1, V2, Fp}
use Rattle.lg_op.specs.declared.op.LastOperand.TheVariants as last_operand
use Rattle.std.specs.Option.{option_map}
use Rattle.std.proofs.lemmas.Bool.{or_parts}
use Rattle.lg_live.specs.Uses.{is_read, is_written}
use Rattle.lg_carry.specs.Carries.{leaps}
use Rattle.lg_node.specs.Labels.{is_labelled}
use Rattle.lg_node.specs.Nodes.{LabelledNodes}
use Rattle.lg_node.specs.Shapes.{TextShape, IsSuccessor, GoesBy, Way, Next, way_of}
use Rattle.lg_dead.specs.Needs.{AreNeeds}
use Rattle.lg_live.specs.Registers.{is_same}
use Rattle.lg_node.specs.Checks.{IsAccepted}
use Rattle.lg_node.specs.ShapeLaws.{has_target}
use Rattle.lg_op.specs.Operators.{unary_value}
use Rattle.lg_opt.specs.Goals.{goal_node}
use Rattle.lg_opt.specs.Goals as goals
use Rattle.lg_opt.specs.Moves.{Move, move_of, no_sources, is_equal, is_source, is_idle, unless_written, after_other, after_move, after_node, after_at, sources_before}
use Rattle.lg_opt.specs.Moves as moves
use Rattle.lg_opt.specs.Targets.{AreTargets}
use Rattle.lg_opt.specs.Remaining.{new_number, with_first, retargeted, rewritten, no_targets}
use Rattle.lg_opt.proofs.DropLemmas.{not-fp, IsIdle, idle-there}
use Rattle.lg_opt.proofs.GoalLemmas.{dropped-number}
use Rattle.lg_opt.proofs.MoveLemmas.{same-reg, source-is}
use Rattle.lg_opt.proofs.RemainingLemmas.{number-goes}
use Rattle.lg_opt.proofs.TargetLemmas.{dropped-jumps, goal-labelled, same-node}
use Rattle.lg_opt.proofs.TidyLemmas.{move-is}
use Rattle.lg_opt.proofs.MovedLemmas.{comes-from, new-count, stands}
use Rattle.lg_dead.specs.Known.{made, last_known, can_be_folded, moved_number, or_else, known_after, known_before, HasNoFolds}
use Rattle.lg_dead.proofs.FoldRunLemmas.{is-same}
use Rattle.lg_dead.proofs.Kept.{DeadKeepsNoFolds, MovesKeepNoFolds, ThreadsKeepNoFolds}
use Rattle.lg_dead.proofs.KnownLemmas.{no-fp-known, fresh-at, known-step, unwritten-known, or-false}
use Rattle.lg_dead.proofs.KnownKeepLemmas.{tracked, can-less, label-kept}
use Rattle.lg_dead.proofs.DeadRunLemmas.{falls-by-defining}

pub falls-next : (o : Op) → leaps o ≡ false → way_of o ≡ Next
falls-next (op.Branch c last) e = cc
falls-next (op.BranchSum c last) e = cc
falls-next (op.Control control.Jmp last) e = cc
falls-next (op.Control control.Ret last) e = cc
falls-next (op.Plain plain.Ret) e = cc
falls-next (op.Plain plain.Epilog) e = cc
falls-next (op.Control control.Pusharg last) e = refl
falls-next o e = refl

-- ---- definitions that are not needed
module _ (l : LabelledNodes) (shape : TextShape) (keep : ℕ → Bool) (needs : ℕ → Reg → Bool) (are : AreNeeds l shape keep needs) (formed : All InForm l.nodes) (none : HasNoFolds l) where
  abbrev m : LabelledNodes
  m = rewritten l keep no_targets

  abbrev Of : ℕ → Reg → Type 0
  Of i r = needs i r ≡ true

  next : (i : ℕ) (n : Node) (r : Reg) → slice_get l.nodes i ≡ Some n → leaps n.op ≡ false → Of (suc i) r → IsSuccessor l shape i (suc i)
  next i n r e h of = record { node = n; here = e; goes = subst (λ (w : Way). GoesBy l shape i n w (suc i)) (sym (falls-next n.op h)) (sym (add-one i), are.inside (suc i) r of) }

  passes : (i : ℕ) (n : Node) (r : Reg) → slice_get l.nodes i ≡ Some n → leaps n.op ≡ false → is_written n r ≡ false → Of (suc i) r → Of i r
  passes i n r e h w of = are.passes i (suc i) n r e (next i n r e h of) of w

  gone : (i : ℕ) (n : Node) (r : Reg) (v : ℕ) → slice_get l.nodes i ≡ Some n → keep i ≡ false → Of (suc i) r
      → known_before (rewritten l keep no_targets) (new_number keep (suc i)) r ≡ Some v → (Of i r → known_before l i r ≡ Some v) → (leaps n.op ≡ false) × (is_written n r ≡ false)
  gone i n r v e s of k again =
      let g = are.gone i n e s in
      (falls-by-defining n.op g.0, by (is_written n r) refl g.1)
    where
      no : false ≡ true → ⊥
      no z = cc

      by : (b : Bool) → is_written n r ≡ b → ((q : Reg) → is_written n q ≡ true → needs (i + 1) q ≡ false) → is_written n r ≡ false
      by false w h = w
      by true w h = absurd (no (sym (h r w) ∙ ap (λ j. needs j r) (add-one i) ∙ of))

  formed-at : (i : ℕ) (n : Node) → slice_get l.nodes i ≡ Some n → InForm n
  formed-at i n e = subst InForm (get_or_from_slice_get l.nodes i n n e) (All-get_or InForm l.nodes i n (slice_get_within l.nodes i n e) formed)

  pub dead-keeps-at : HasNoFolds (rewritten l keep no_targets)
  dead-keeps-at k n e =
      let o = comes-from keep l k (let count = new-count l keep no_targets in let lt = slice_get_within m.nodes k n e in omega arith) in
      let same : n ≡ o.node = same_Some n o.node (sym e ∙ ap (slice_get m.nodes) (sym o.number) ∙ stands l keep no_targets o.index o.node o.here o.kept) in
      let lt : o.index ≤ length l.nodes = (let z = slice_get_within l.nodes o.index o.node o.here in omega arith) in
      can-less (known_before m k) (known_before l o.index) (no-fp-known m k) n
      (λ r v rd h. tracked l keep no_targets Of (λ i x z w. refl) passes gone o.index r v lt (are.reads o.index o.node r o.here o.kept (ap (λ (x : Node). is_read x r) (sym same) ∙ rd)) (ap (λ j. known_before m j r) o.number ∙ h))
      (subst InForm (sym same) (formed-at o.index o.node o.here))
      (subst (λ (x : Node). can_be_folded (known_before l o.index) x ≡ false) (sym same) (none o.index o.node o.here))

pub dead-keeps : DeadKeepsNoFolds
dead-keeps l shape keep needs formed are none = dead-keeps-at l shape keep needs are formed none

-- ---- moves that do nothing
no : true ≡ false → ⊥
no e = cc

nothing : (v : ℕ) → ◌≡◌ {A = Option ℕ} None (Some v) → ⊥
nothing v e = cc

none-reg : (a : Reg) → ◌≡◌ {A = Option Reg} None (Some a) → ⊥
none-reg a e = cc

some-reg : (a b : Reg) → ◌≡◌ {A = Option Reg} (Some a) (Some b) → a ≡ b
some-reg a b e = cc

-- what a source after another node says
pub record Source (f : Reg → Option Reg) (n : Node) (r x : Reg) : Type 0 where
  pub into : is_written n r ≡ false
  pub from : is_written n x ≡ false
  pub before : f r ≡ Some x

pub source-after : (f : Reg → Option Reg) (n : Node) (r x : Reg) → after_other f n r ≡ Some x → Source f n r x
source-after f n r x e = by (is_written n r) (f r) refl refl e
  where
    inner : (q : Reg) (b : Bool) → is_written n r ≡ false → f r ≡ Some q → is_written n q ≡ b → (if b then None else Some q) ≡ Some x → Source f n r x
    inner q true w g h e = absurd (none-reg x e)
    inner q false w g h e =
        let z : q ≡ x = some-reg q x e in
        record { into = w; from = subst (λ y. is_written n y ≡ false) z h; before = g ∙ e }

    by : (b : Bool) (o : Option Reg) → is_written n r ≡ b → f r ≡ o → (if b then None else unless_written n o) ≡ Some x → Source f n r x
    by true o w g e = absurd (none-reg x e)
    by false None w g e = absurd (none-reg x e)
    by false (Some q) w g e = inner q (is_written n q) w g refl e

module _ (n : Node) (k : Move) (e : move_of n.op n.operands ≡ Some k) where
  there : (n.op ≡ op.Unary unary.Mov) × (n.operands ≡ operand.Reg k.into ∷ operand.Reg k.from ∷ [])
  there = move-is n.op n.operands k e

  move-writes : (r : Reg) → is_written n r ≡ is_same k.into r
  move-writes r =
      subst (λ o. is_written (record n { op = o }) r ≡ is_same k.into r) (sym there.0)
      (subst (λ xs. is_written (record n { op = op.Unary unary.Mov; operands = xs }) r ≡ is_same k.into r) (sym there.1) (or-false (is_same k.into r)))

  move-leaps : leaps n.op ≡ false
  move-leaps = ap leaps there.0

  -- after a move only what it does not write is known
  move-known : (known : Reg → Option ℕ) (r : Reg) → known_after known n r ≡ (if is_written n r then None else known r)
  move-known known r = ap (λ o. or_else o (if is_written n r then None else known r)) (ap (λ o. moved_number o n.operands r) there.0)

  move-unknown : (known : Reg → Option ℕ) (r : Reg) → known r ≡ None → known_after known n r ≡ None
  move-unknown known r h = move-known known r ∙ by (is_written n r)
    where
      by : (b : Bool) → (if b then None else known r) ≡ None
      by true = refl
      by false = h

  -- what a move reads is not known, where it can't be folded
  from-unknown : (known : Reg → Option ℕ) → can_be_folded known n ≡ false → known k.from ≡ None
  from-unknown known h =
      by (known k.from) refl
      (sym (ap (λ o. is_some (made known o n.operands)) there.0 ∙ ap (λ xs. is_some (made known (op.Unary unary.Mov) xs)) there.1)
      ∙ (or_parts (is_some (made known n.op n.operands)) (is_some (last_known known n.op n.operands)) h).0)
    where
      by : (o : Option ℕ) → known k.from ≡ o → is_some (option_map (unary_value unary.Mov) o) ≡ false → known k.from ≡ None
      by None e h = e
      by (Some v) e h = absurd (no h)

module _ (l : LabelledNodes) (a : IsAccepted l) (formed : All InForm l.nodes) (none : HasNoFolds l) where
  abbrev f : ℕ → Reg → Option Reg
  f i = sources_before l i

  abbrev Unknown : ℕ → Reg → Reg → Type 0
  Unknown i x y = (known_before l i x ≡ None) × (known_before l i y ≡ None)

  -- registers that were moved into each other are not known
  unknown : (i : ℕ) (x y : Reg) → sources_before l i x ≡ Some y → (known_before l i x ≡ None) × (known_before l i y ≡ None)
  unfolding sources_before known_before
  unknown zero x y e = absurd (none-reg y e)
  unknown (suc i) x y e = by (is_labelled l.places (suc i)) (slice_get l.nodes i) refl refl e (λ p q g. unknown i p q g)
    where
      at-other : (n : Node) → known_before l (suc i) ≡ known_after (known_before l i) n → Source (f i) n x y → ((p q : Reg) → f i p ≡ Some q → Unknown i p q) → Unknown (suc i) x y
      at-other n k s again =
          let u = again x y s.before in
          (ap (λ g. g x) k ∙ unwritten-known (known_before l i) n x s.into ∙ u.0, ap (λ g. g y) k ∙ unwritten-known (known_before l i) n y s.from ∙ u.1)

      at-move : (n : Node) (k : Move) → slice_get l.nodes i ≡ Some n → move_of n.op n.operands ≡ Some k → known_before l (suc i) ≡ known_after (known_before l i) n → (b : Bool) → is_idle (f i) (Some k) ≡ b
          → (if b then f i else after_move (f i) n k) x ≡ Some y → ((p q : Reg) → f i p ≡ Some q → Unknown i p q) → Unknown (suc i) x y
      at-move n k h mv kn true idle e again =
          let u = again x y e in
          (ap (λ g. g x) kn ∙ move-unknown n k mv (known_before l i) x u.0, ap (λ g. g y) kn ∙ move-unknown n k mv (known_before l i) y u.1)
      at-move n k h mv kn false idle e again = at-new (is_equal k.into x) refl e
        where
          at-new : (b : Bool) → is_equal k.into x ≡ b → (if b then Some k.from else after_other (f i) n x) ≡ Some y → Unknown (suc i) x y
          at-new false z e = at-other n kn (source-after (f i) n x y e) again
          at-new true z e =
              let into : k.into ≡ x = same-reg k.into x z in
              let from : k.from ≡ y = some-reg k.from y e in
              let written : is_written n x ≡ true = move-writes n k mv x ∙ subst (λ r. is_same k.into r ≡ true) into (same-itself k.into (not-fp n k (formed-here i n h) mv)) in (
                ap (λ g. g x) kn ∙ move-known n k mv (known_before l i) x ∙ ap (λ b. if b then None else known_before l i x) written,
                ap (λ g. g y) kn ∙ move-unknown n k mv (known_before l i) y (subst (λ r. known_before l i r ≡ None) from (from-unknown n k mv (known_before l i) (none i n h))),
              )
            where
              same-itself : (r : Reg) → r ≢ Fp → is_same r r ≡ true
              same-itself Fp e = absurd (e refl)
              same-itself other e = refl

              formed-here : (i : ℕ) (n : Node) → slice_get l.nodes i ≡ Some n → InForm n
              formed-here i n e = subst InForm (get_or_from_slice_get l.nodes i n n e) (All-get_or InForm l.nodes i n (slice_get_within l.nodes i n e) formed)

      at-node : (n : Node) → slice_get l.nodes i ≡ Some n → is_labelled l.places (suc i) ≡ false → (b : Bool) → leaps n.op ≡ b → (o : Option Move) → move_of n.op n.operands ≡ o → (if b then no_sources else after_node (f i) n o) x ≡ Some y
          → ((p q : Reg) → f i p ≡ Some q → Unknown i p q) → Unknown (suc i) x y
      at-node n h free true lp o mv e again = absurd (none-reg y e)
      at-node n h free false lp None mv e again = at-other n (known-step l i n h free lp) (source-after (f i) n x y e) again
      at-node n h free false lp (Some k) mv e again = at-move n k h mv (known-step l i n h free lp) (is_idle (f i) (Some k)) refl e again

      by : (b : Bool) (o : Option Node) → is_labelled l.places (suc i) ≡ b → slice_get l.nodes i ≡ o → (if b then no_sources else after_at (f i) o) x ≡ Some y → ((p q : Reg) → f i p ≡ Some q → Unknown i p q) → Unknown (suc i) x y
      by true o free h e again = absurd (none-reg y e)
      by false None free h e again = absurd (none-reg y e)
      by false (Some n) free h e again = at-node n h free (leaps n.op) refl (move_of n.op n.operands) refl e again

  abbrev Any : ℕ → Reg → Type 0
  Any i r = Unit {0}

  idle-unwritten : (i : ℕ) (n : Node) (r : Reg) (v : ℕ) → slice_get l.nodes i ≡ Some n → moves.stays l i ≡ false → Any (suc i) r
      → known_before (rewritten l (moves.stays l) no_targets) (new_number (moves.stays l) (suc i)) r ≡ Some v → (Any i r → known_before l i r ≡ Some v) → (leaps n.op ≡ false) × (is_written n r ≡ false)
  idle-unwritten i n r v e s any k again =
      let d = idle-there l i n e s in
      (move-leaps n d.move d.is, by d (is_written n r) refl)
    where
      into-unknown : (d : IsIdle l i n) → known_before l i d.move.into ≡ None
      into-unknown d = cases (is_equal d.move.into d.move.from) (is_source (f i d.move.into) d.move.from) (is_source (f i d.move.from) d.move.into) refl refl refl d.idle
        where
          cases : (x y w : Bool) → is_equal d.move.into d.move.from ≡ x → is_source (f i d.move.into) d.move.from ≡ y → is_source (f i d.move.from) d.move.into ≡ w → (x || (y || w)) ≡ true → known_before l i d.move.into ≡ None
          cases true y w ex ey ew g = ap (known_before l i) (same-reg d.move.into d.move.from ex) ∙ from-unknown n d.move d.is (known_before l i) (none i n e)
          cases false true w ex ey ew g = (unknown i d.move.into d.move.from (source-is (f i d.move.into) d.move.from ey)).0
          cases false false true ex ey ew g = (unknown i d.move.from d.move.into (source-is (f i d.move.from) d.move.into ew)).1
          cases false false false ex ey ew g = cc

      by : IsIdle l i n → (b : Bool) → is_written n r ≡ b → is_written n r ≡ false
      by d false w = w
      by d true w =
          let into : d.move.into ≡ r = is-same d.move.into r (sym (move-writes n d.move d.is r) ∙ w) in
          absurd (nothing v (sym (into-unknown d) ∙ ap (known_before l i) into ∙ again tt))

  moved-formed : (i : ℕ) (n : Node) → slice_get l.nodes i ≡ Some n → InForm n
  moved-formed i n e = subst InForm (get_or_from_slice_get l.nodes i n n e) (All-get_or InForm l.nodes i n (slice_get_within l.nodes i n e) formed)

  pub moves-keep-at : HasNoFolds (rewritten l (moves.stays l) no_targets)
  moves-keep-at k n e =
      let keep = moves.stays l in
      let m = rewritten l (moves.stays l) no_targets in
      let o = comes-from keep l k (let count = new-count l keep no_targets in let lt = slice_get_within m.nodes k n e in omega arith) in
      let same : n ≡ o.node = same_Some n o.node (sym e ∙ ap (slice_get m.nodes) (sym o.number) ∙ stands l keep no_targets o.index o.node o.here o.kept) in
      let lt : o.index ≤ length l.nodes = (let z = slice_get_within l.nodes o.index o.node o.here in omega arith) in
      can-less (known_before m k) (known_before l o.index) (no-fp-known m k) n
      (λ r v rd h. tracked l (moves.stays l) no_targets Any (λ i x z w. refl) (λ i x q z w y u. tt) idle-unwritten o.index r v lt tt (ap (λ j. known_before m j r) o.number ∙ h))
      (subst InForm (sym same) (moved-formed o.index o.node o.here))
      (subst (λ (x : Node). can_be_folded (known_before l o.index) x ≡ false) (sym same) (none o.index o.node o.here))

pub moves-keep : MovesKeepNoFolds
moves-keep l a formed none = moves-keep-at l a formed none

-- ---- threaded jumps
no-leap : (o : Op) → leaps o ≡ false → has_target o ≡ false
no-leap (op.Branch c last) e = cc
no-leap (op.BranchSum x last) e = cc
no-leap (op.Control control.Jmp last) e = cc
no-leap o e = refl

made-none : (known : Reg → Option ℕ) (o : Op) (xs : List Operand) → has_target o ≡ true → made known o xs ≡ None
made-none known (op.Branch c last) xs e = refl
made-none known (op.BranchSum c last) xs e = refl
made-none known (op.Control control.Jmp last) xs e = refl
made-none known o xs e = cc

last-same : (known : Reg → Option ℕ) (o : Op) (xs : List Operand) (y : Label) → has_target o ≡ true → last_known known o (with_first xs y) ≡ last_known known o xs
last-same known (op.Branch c last) [] y e = refl
last-same known (op.Branch c last_operand.Register) (p ∷ []) y e = refl
last-same known (op.Branch c last_operand.Register) (p ∷ q ∷ []) y e = refl
last-same known (op.Branch c last_operand.Register) (p ∷ q ∷ operand.Reg r ∷ []) y e = refl
last-same known (op.Branch c last_operand.Register) (p ∷ q ∷ operand.Number r ∷ []) y e = refl
last-same known (op.Branch c last_operand.Register) (p ∷ q ∷ operand.Label r ∷ []) y e = refl
last-same known (op.Branch c last_operand.Register) (p ∷ q ∷ operand.Host r ∷ []) y e = refl
last-same known (op.Branch c last_operand.Register) (p ∷ q ∷ operand.Slot r ∷ []) y e = refl
last-same known (op.Branch c last_operand.Register) (p ∷ q ∷ operand.Reg r ∷ w ∷ xs) y e = refl
last-same known (op.Branch c last_operand.Register) (p ∷ q ∷ operand.Number r ∷ w ∷ xs) y e = refl
last-same known (op.Branch c last_operand.Register) (p ∷ q ∷ operand.Label r ∷ w ∷ xs) y e = refl
last-same known (op.Branch c last_operand.Register) (p ∷ q ∷ operand.Host r ∷ w ∷ xs) y e = refl
last-same known (op.Branch c last_operand.Register) (p ∷ q ∷ operand.Slot r ∷ w ∷ xs) y e = refl
last-same known (op.Branch c last_operand.Immediate) xs y e = refl
last-same known (op.BranchSum c last) xs y e = refl
last-same known (op.Control control.Jmp last) xs y e = refl
last-same known o xs y e = cc

module _ (l : LabelledNodes) (targets : ℕ → Option Label) (a : IsAccepted l) (formed : All InForm l.nodes) (are : AreTargets l targets) (none : HasNoFolds l) where
  can-same : (known : Reg → Option ℕ) (i : ℕ) (n : Node) → slice_get l.nodes i ≡ Some n → can_be_folded known (retargeted (targets i) n) ≡ can_be_folded known n
  can-same known i n e = by (targets i) refl
    where
      by : (o : Option Label) → targets i ≡ o → can_be_folded known (retargeted o n) ≡ can_be_folded known n
      by None t = refl
      by (Some y) t =
          let h = (are.others i n y e t).jumps in
          ap (λ o. is_some o || is_some (last_known known n.op (with_first n.operands y))) (made-none known n.op (with_first n.operands y) h ∙ sym (made-none known n.op n.operands h))
          ∙ ap (λ o. is_some (made known n.op n.operands) || is_some o) (last-same known n.op n.operands y h)

  abbrev All-of : ℕ → Reg → Type 0
  All-of i r = Unit {0}

  jump-unknown : (i : ℕ) (n : Node) (r : Reg) (v : ℕ) → slice_get l.nodes i ≡ Some n → goals.stays l i ≡ false → All-of (suc i) r
      → known_before (rewritten l (goals.stays l) targets) (new_number (goals.stays l) (suc i)) r ≡ Some v → (All-of i r → known_before l i r ≡ Some v) → (leaps n.op ≡ false) × (is_written n r ≡ false)
  jump-unknown i n r v e s any k again =
      let few = slice_get_within l.nodes i n e in
      let g = dropped-number l i few s in
      let m = rewritten l (goals.stays l) targets in
      let labelled = label-kept l (goals.stays l) targets (goal_node l i) (goal-labelled l a formed i few (dropped-jumps l a formed i s)) in
      let here = ap (λ j. is_labelled m.places j) (number-goes (goals.stays l) i s ∙ sym g.2) ∙ labelled in
      absurd (nothing v (sym (ap (λ f. f r) (fresh-at m (new_number (goals.stays l) (suc i)) here)) ∙ k))

  threaded-formed : (i : ℕ) (n : Node) → slice_get l.nodes i ≡ Some n → InForm n
  threaded-formed i n e = subst InForm (get_or_from_slice_get l.nodes i n n e) (All-get_or InForm l.nodes i n (slice_get_within l.nodes i n e) formed)

  pub threads-keep-at : HasNoFolds (rewritten l (goals.stays l) targets)
  threads-keep-at k n e =
      let m = rewritten l (goals.stays l) targets in
      let o = comes-from (goals.stays l) l k (let count = new-count l (goals.stays l) targets in let lt = slice_get_within m.nodes k n e in omega arith) in
      let same : n ≡ retargeted (targets o.index) o.node = same_Some n (retargeted (targets o.index) o.node) (sym e ∙ ap (slice_get m.nodes) (sym o.number) ∙ stands l (goals.stays l) targets o.index o.node o.here o.kept) in
      let lt : o.index ≤ length l.nodes = (let z = slice_get_within l.nodes o.index o.node o.here in omega arith) in
      ap (can_be_folded (known_before m k)) same ∙ can-same (known_before m k) o.index o.node o.here
      ∙ can-less (known_before m k) (known_before l o.index) (no-fp-known m k) o.node
      (λ r v rd h. tracked l (goals.stays l) targets All-of (λ i x z w. same-node l a formed targets are i x z (no-leap x.op w)) (λ i x q z w y u. tt) jump-unknown o.index r v lt tt (ap (λ j. known_before m j r) o.number ∙ h))
      (threaded-formed o.index o.node o.here)
      (none o.index o.node o.here)

pub threads-keep : ThreadsKeepNoFolds
threads-keep l targets a formed are none = threads-keep-at l targets a formed are none
