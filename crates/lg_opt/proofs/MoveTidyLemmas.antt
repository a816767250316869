-- No idle moves are left, and threading makes none.
use Rattle.std.proofs.Common.{◌≡◌, ◌≢◌, ⊎_elim, ℕ, ◌<◌, ◌≤◌, Bool, true, false, Option, Some, length, refl, sym, ap, ◌∙◌, subst, arith}
use Rattle.std.specs.Prelude.{slice_get}
use Rattle.std.specs.List.{All}
use Rattle.std.specs.Option.{option_map}
use Rattle.std.proofs.lemmas.Bool.{cases_lt, cases_eq, true≢false}
use Rattle.std.proofs.lemmas.Option.{slice_get_within, slice_get-map}
use Rattle.lg_op.specs.Nodes.{InForm}
use Rattle.lg_op.specs.declared.node.Node.{Node}
use Rattle.lg_op.specs.declared.op.Op.{Op}
use Rattle.lg_op.specs.declared.op.Op.TheVariants as op
use Rattle.lg_op.specs.declared.op.ControlOp.TheVariants as control
use Rattle.lg_op.specs.declared.operand.Label.{Label}
use Rattle.lg_op.specs.declared.operand.Reg.{Reg}
use Rattle.lg_op.specs.declared.operand.Reg.TheVariants.{Fp}
use Rattle.lg_live.specs.Uses.{is_written}
use Rattle.lg_carry.specs.Carries.{leaps}
use Rattle.lg_node.specs.Checks.{IsAccepted}
use Rattle.lg_node.specs.Labels.{is_labelled}
use Rattle.lg_node.specs.Nodes.{LabelledNodes}
use Rattle.lg_node.specs.ShapeLaws.{has_target}
use Rattle.lg_node.proofs.FunctionLaws.{node_within}
use Rattle.lg_opt.specs.Goals.{goal_node}
use Rattle.lg_opt.specs.Goals as goals
use Rattle.lg_opt.specs.Moves.{Move, move_of, stays, IsMovedBefore, HasNoIdleMoves}
use Rattle.lg_opt.specs.Remaining.{new_number, moved_place, retargeted, rewritten, no_targets}
use Rattle.lg_opt.specs.Targets.{AreTargets}
use Rattle.lg_opt.proofs.RemainingLemmas.{number-le, number-lt}
use Rattle.lg_opt.proofs.MovedLemmas.{same-op, ComesFrom, comes-from, new-count, stands}
use Rattle.lg_opt.proofs.LabelLemmas.{labelled-moved, label-there, labelled-bound}
use Rattle.lg_opt.proofs.TidyLemmas.{move-is, no-idle-moves}
use Rattle.lg_opt.proofs.LeanLemmas.{KeepsNodes, lean}
use Rattle.lg_opt.proofs.DropLemmas.{not-fp}
use Rattle.lg_opt.proofs.GoalLemmas.{dropped-number}
use Rattle.lg_opt.proofs.TargetLemmas.{formed-at, dropped-jumps, goal-labelled, same-node}

some-same : {x y : Node} → ◌≡◌ {A = Option Node} (Some x) (Some y) → x ≡ y
some-same e = cc

-- a label is bound at the new number of its node
label-kept : (l : LabelledNodes) (keep : ℕ → Bool) (targets : ℕ → Option Label) (k : ℕ) → is_labelled l.places k ≡ true → is_labelled (rewritten l keep targets).places (new_number keep k) ≡ true
label-kept l keep targets k e =
    let x = label-there l.places k e in
    labelled-bound (rewritten l keep targets).places x.0 (new_number keep k) (slice_get-map (moved_place (new_number keep)) l.places x.0 ∙ ap (option_map (moved_place (new_number keep))) x.1)

-- ---- where moves that do nothing are dropped
module _ (l : LabelledNodes) (a : IsAccepted l) (formed : All InForm l.nodes) where
  abbrev d : LabelledNodes
  d = rewritten l (stays l) no_targets

  keeps-nodes : KeepsNodes l d
  keeps-nodes = record {
    nodes = stands l (stays l) no_targets;
    labels = λ i lt s. labelled-moved (stays l) l.places i s;
    count = new-count l (stays l) no_targets;
  }

  written : (k : ℕ) (n : Node) (mv : Move) → slice_get d.nodes k ≡ Some n → move_of n.op n.operands ≡ Some mv → mv.into ≢ Fp
  written k n mv e f =
      let o = comes-from (stays l) l k (let count = new-count l (stays l) no_targets in let lt = slice_get_within d.nodes k n e in omega arith) in
      let same : n ≡ o.node = some-same (sym e ∙ ap (slice_get d.nodes) (sym o.number) ∙ stands l (stays l) no_targets o.index o.node o.here o.kept) in
      not-fp n mv (subst InForm (sym same) (formed-at l a formed o.index o.node o.here)) f

  pub no-moves-left : HasNoIdleMoves (rewritten l (stays l) no_targets)
  no-moves-left = no-idle-moves d written (lean l d keeps-nodes) (λ k j n e lt. node_within d.nodes j (let z = slice_get_within d.nodes k n e in omega arith))

-- ---- where jumps are threaded
no-leap : (o : Op) → leaps o ≡ false → has_target o ≡ false
no-leap (op.Branch c last) e = cc
no-leap (op.BranchSum x last) e = cc
no-leap (op.Control control.Jmp last) e = cc
no-leap o e = refl

module _ (l : LabelledNodes) (a : IsAccepted l) (formed : All InForm l.nodes) (targets : ℕ → Option Label) (are : AreTargets l targets) where
  abbrev keep : ℕ → Bool
  keep = goals.stays l

  abbrev m : LabelledNodes
  m = rewritten l (goals.stays l) targets

  abbrev nu : ℕ → ℕ
  nu = new_number (goals.stays l)

  -- a node that goes on is as it was
  calm : (j : ℕ) (n : Node) → slice_get l.nodes j ≡ Some n → leaps (retargeted (targets j) n).op ≡ false → retargeted (targets j) n ≡ n
  calm j n e f = same-node l a formed targets are j n e (no-leap n.op (ap leaps (sym (same-op (targets j) n)) ∙ f))

  module _ (x y : Reg) (k : ℕ) (b : IsMovedBefore m k x y) (old : ComesFrom l (goals.stays l) k) (first : ComesFrom l (goals.stays l) b.at) where
    order : first.index < old.index
    order = ⊎_elim (λ lt. lt) (λ ge. let up = number-le keep old.index first.index ge in let p = old.number in let q = first.number in let r = b.before in absurd (omega arith)) (cases_lt first.index old.index)

    -- no label between
    free : (j : ℕ) → first.index < j → j ≤ old.index → is_labelled m.places (nu j) ≡ false
    free j lt le =
        let low = number-lt keep first.index j lt first.kept in
        let high = number-le keep j old.index le in
        let p = old.number in let q = first.number in
        b.straight.unlabelled (nu j) (omega arith) (omega arith)

    free-old : (j : ℕ) → first.index < j → j ≤ old.index → is_labelled l.places j ≡ false
    free-old j lt le = by (is_labelled l.places j) refl
      where
        by : (c : Bool) → is_labelled l.places j ≡ c → is_labelled l.places j ≡ false
        by false e = e
        by true e = absurd (true≢false (sym (label-kept l keep targets j e) ∙ free j lt le))

    -- so no jump between was dropped, since it leads to a label
    all-stay : (j : ℕ) → first.index ≤ j → j ≤ old.index → keep j ≡ true
    all-stay j ge le = ⊎_elim (λ same. ap keep same ∙ first.kept) (λ ne. by (keep j) refl ne) (cases_eq j first.index)
      where
        few : j < length l.nodes
        few = let z = slice_get_within l.nodes old.index old.node old.here in omega arith

        by : (c : Bool) → keep j ≡ c → (j ≡ first.index → ⊥) → keep j ≡ true
        by true s ne = s
        by false s ne =
            let g = dropped-number l j few s in
            absurd (true≢false (sym (label-kept l keep targets (goal_node l j) (goal-labelled l a formed j few (dropped-jumps l a formed j s))) ∙ ap (is_labelled m.places) g.2 ∙ free j (omega arith) le))

    -- the nodes between are the same
    falls : (j : ℕ) (n : Node) → first.index ≤ j → j < old.index → slice_get l.nodes j ≡ Some n → leaps (retargeted (targets j) n).op ≡ false
    falls j n ge lt e =
        let s = all-stay j ge (omega arith) in
        let low = number-le keep first.index j ge in
        let high = number-lt keep j old.index lt s in
        let p = old.number in let q = first.number in
        b.straight.falls (nu j) (retargeted (targets j) n) (omega arith) (omega arith) (stands l keep targets j n e s)

    first-node : b.node ≡ first.node
    first-node =
        let e : b.node ≡ retargeted (targets first.index) first.node = some-same (sym b.here ∙ ap (slice_get m.nodes) (sym first.number) ∙ stands l keep targets first.index first.node first.here first.kept) in
        e ∙ calm first.index first.node first.here (falls first.index first.node (omega arith) order first.here)

    before : IsMovedBefore l old.index x y
    before = record {
      at = first.index;
      node = first.node;
      move = b.move;
      before = order;
      here = first.here;
      moves = ap (λ (n : Node). move_of n.op n.operands) (sym first-node) ∙ b.moves;
      between = b.between;
      straight = record {
        order = (let z = order in omega arith);
        falls = λ j n ge lt e. ap leaps (sym (same-op (targets j) n)) ∙ falls j n ge lt e;
        unlabelled = free-old;
      };
      kept = λ j n lt less e.
          let s = all-stay j (omega arith) (omega arith) in
          let low = number-lt keep first.index j lt first.kept in
          let high = number-lt keep j old.index less s in
          let p = old.number in let q = first.number in
          let same = calm j n e (falls j n (omega arith) less e) in
          subst (λ (n : Node). (is_written n x ≡ false) × (is_written n y ≡ false)) same (b.kept (nu j) (retargeted (targets j) n) (omega arith) (omega arith) (stands l keep targets j n e s));
    }

  old-of : (k : ℕ) (n : Node) → slice_get m.nodes k ≡ Some n → ComesFrom l (goals.stays l) k
  old-of k n e = comes-from keep l k (let count = new-count l keep targets in let lt = slice_get_within m.nodes k n e in omega arith)

  move-calm : (n : Node) (mv : Move) → move_of n.op n.operands ≡ Some mv → leaps n.op ≡ false
  move-calm n mv e = ap leaps (move-is n.op n.operands mv e).0

  pub keeps-moves : HasNoIdleMoves l → HasNoIdleMoves (rewritten l (goals.stays l) targets)
  keeps-moves none k n mv e f =
      let o = old-of k n e in
      let one : n ≡ retargeted (targets o.index) o.node = some-same (sym e ∙ ap (slice_get m.nodes) (sym o.number) ∙ stands l keep targets o.index o.node o.here o.kept) in
      let same : n ≡ o.node = one ∙ calm o.index o.node o.here (ap (λ (x : Node). leaps x.op) (sym one) ∙ move-calm n mv f) in
      let h = none o.index o.node mv o.here (ap (λ (x : Node). move_of x.op x.operands) (sym same) ∙ f) in
      (h.0, λ b. h.1 (before mv.into mv.from k b o (old-of b.at b.node b.here)))
