-- What `select` owes for the items of a node that it appends, where those of each family are as they have to be.
use Rattle.std.proofs.Common.{◌≡◌, ℕ, ◌+◌, ◌-◌, ◌≤◌, Bool, true, List, length, None, Some, ap, ◌∙◌}
use Rattle.std.specs.Prelude.{slice_get, slice_index}
use Rattle.lg_base.specs.Layout.{code_base, most_code}
use Rattle.lg_buf.specs.Buffers.{Buffer, place_of}
use Rattle.lg_carry.specs.FinalNodes.{Code}
use Rattle.lg_op.specs.Forms.{forms_of, admit}
use Rattle.lg_op.specs.declared.node.Node.{Node}
use Rattle.lg_op.specs.declared.op.ControlOp.TheVariants as control
use Rattle.lg_op.specs.declared.op.LastOperand.TheVariants as last_operand
use Rattle.lg_op.specs.declared.op.Op.{Op}
use Rattle.lg_op.specs.declared.op.Op.TheVariants as op
use Rattle.lg_op.specs.declared.operand.Label.{Label}
use Rattle.lg_op.specs.declared.operand.Operand.{Operand}
use Rattle.lg_op.specs.declared.operand.Operand.TheVariants as operand
use Rattle.lg_op.specs.declared.operand.Reg.{Reg}
use Rattle.lg_sel.proofs.FamilyLemmas.{node_of}
use Rattle.lg_sel.proofs.ReachLemmas.{same-label}
use Rattle.lg_sel.specs.Asked.{IsAsked}
use Rattle.lg_sel.specs.Families.{Families, node_items}
use Rattle.lg_sel.specs.Finished.{AreAppended}
use Rattle.lg_sel.specs.Promises.{IsShortWhenFinished, IsAheadWhenFinished}
use Rattle.lg_sel.specs.Selected.{IsFinished, part_of}
use Rattle.lg_sel.specs.Shorts.{IsShort, IsAhead}
use Rattle.lg_sel.specs.Holes.{Holes, Each, fixes_of}
use Rattle.lg_sel.specs.TargetCodes.{TargetCode}
use Rattle.lg_sel.specs.Reaches.{reach_ahead, Leads, IsChecked, IsLeast, IsLeastAhead}
use Rattle.lg_sel.specs.declared.reach.Reach.{Reach}
use Rattle.lg_temp.specs.declared.choice.Choice.{Choice}
use Rattle.lg_temp.specs.declared.choice.Need.{Need}

-- the items of the node of an operation, which have this reach, were appended; they are in range, lead to the labels that are bound, and none of a shorter
-- reach do
pub record IsKnown {L I : Type 0} (H : Holes L I) (is_item : L → Type 0) (old new : Buffer) (to : ℕ → ℕ) (goal : ℕ) (items : Reach → List L) (r : Reach) (o : Op)
    (xs : List Operand) : Type 0 where
  pub admitted : admit (forms_of o) xs ≡ true
  pub appended : AreAppended H old new (items r)
  pub fit : Each is_item (items r)
  pub labels : (l : Label) → slice_get xs 0 ≡ Some (operand.Label l) → (place_of old.labels l.0 ≡ Some goal) × (to l.0 ≡ code_base + goal)
  pub checked : Each (IsChecked r old) (fixes_of H (length old.bytes) (items r))
  pub least : IsLeast (λ s. Each (Leads old) (fixes_of H (length old.bytes) (items s))) r

-- and so were they, with the reach with which code leads ahead to a label that is not bound yet
pub record IsKnownAhead {L I : Type 0} (H : Holes L I) (is_item : L → Type 0) (old new : Buffer) (items : Reach → List L) (r : Reach) (o : Op)
    (xs : List Operand) : Type 0 where
  pub admitted : admit (forms_of o) xs ≡ true
  pub appended : AreAppended H old new (items r)
  pub fit : Each is_item (items r)
  pub labels : (l : Label) → slice_get xs 0 ≡ Some (operand.Label l) → place_of old.labels l.0 ≡ None
  pub checked : Each (IsChecked r old) (fixes_of H (length old.bytes) (items r))
  pub least : IsLeastAhead (reach_ahead old.size) (λ s. Each (Leads old) (fixes_of H (length old.bytes) (items s))) r

module _ {L I : Type 0} (T : TargetCode) (needs : Op → List Need) (H : Holes L I) (is_item : L → Type 0) (F : Reach → Families L) where
  -- the items of a node were appended
  module _ (reach : Reach) (node : Node) (frame : ℕ) (live : Reg → Bool) (staged : List Bool) (choices : List Choice) (old new : Buffer)
      (asked : IsAsked T.target needs node live staged choices (length old.labels)) (appended : AreAppended H old new (node_items (F reach) node frame choices staged (length old.bytes)))
      (fit : Each is_item (node_items (F reach) node frame choices staged (length old.bytes))) where
    -- where those of nodes that lead to labels have the shortest form, they have
    module _ (short : (code : List ℕ) (c : Code) (i goal : ℕ) → IsFinished old new code c i → (r : Reach) (o : Op) (xs : List Operand) (l : Label)
        → slice_get xs 0 ≡ Some (operand.Label l)
        → IsKnown H is_item old new (slice_index c.addresses) goal (λ s. (F s).control o xs frame (length old.bytes)) r o xs
        → IsShort T o goal (length old.bytes) (part_of code (length old.bytes) (length new.bytes - length old.bytes))) where
      shortest-of : (code : List ℕ) (c : Code) (i goal : ℕ) → IsFinished old new code c i → (l : Label) (o : Op) (xs : List Operand) (line : ℕ)
          → slice_get xs 0 ≡ Some (operand.Label l)
          → IsKnown H is_item old new (slice_index c.addresses) goal (λ s. node_items (F s) (node_of o xs line) frame choices staged (length old.bytes)) reach o xs
          → IsShort T o goal (length old.bytes) (part_of code (length old.bytes) (length new.bytes - length old.bytes))
      shortest-of code c i goal f l (op.Branch o last) xs line first k = short code c i goal f reach (op.Branch o last) xs l first k
      shortest-of code c i goal f l (op.BranchSum o last) xs line first k = short code c i goal f reach (op.BranchSum o last) xs l first k
      shortest-of code c i goal f l (op.Control control.Jmp last_operand.Immediate) xs line first k =
          short code c i goal f reach (op.Control control.Jmp last_operand.Immediate) xs l first k
      shortest-of code c i goal f l (op.Control control.Call last_operand.Immediate) xs line first k =
          short code c i goal f reach (op.Control control.Call last_operand.Immediate) xs l first k
      shortest-of code c i goal f l (op.Control control.Finish last_operand.Immediate) xs line first k =
          short code c i goal f reach (op.Control control.Finish last_operand.Immediate) xs l first k
      shortest-of code c i goal f l o xs line first k = tt

      pub selected-shortest : Each (IsChecked reach old) (fixes_of H (length old.bytes) (node_items (F reach) node frame choices staged (length old.bytes)))
          → ((l : Label) (goal : ℕ) → slice_get node.operands 0 ≡ Some (operand.Label l) → place_of old.labels l.0 ≡ Some goal → length old.bytes ≤ most_code
          → IsLeast (λ r. Each (Leads old) (fixes_of H (length old.bytes) (node_items (F r) node frame choices staged (length old.bytes)))) reach)
          → IsShortWhenFinished T node old new
      selected-shortest checked least code c i goal l f low first bound address =
          let formed = asked.formed in
          shortest-of code c i goal f l node.op node.operands node.line first record {
            admitted = formed.forms;
            appended = appended;
            fit = fit;
            labels = λ m is. let same : m ≡ l = same-label node.operands m l is first in
                (ap (λ (k : Label). place_of old.labels k.0) same ∙ bound, ap (λ (k : Label). slice_index c.addresses k.0) same ∙ address);
            checked = checked;
            least = least l goal first bound low;
          }

    -- and where those of nodes that lead ahead have the form that the buffer's size asks for, they have
    module _ (ahead : (code : List ℕ) (c : Code) (i : ℕ) → IsFinished old new code c i → (r : Reach) (o : Op) (xs : List Operand) (l : Label)
        → slice_get xs 0 ≡ Some (operand.Label l) → IsKnownAhead H is_item old new (λ s. (F s).control o xs frame (length old.bytes)) r o xs
        → IsAhead T (reach_ahead old.size) o (length old.bytes) (part_of code (length old.bytes) (length new.bytes - length old.bytes))) where
      ahead-of : (code : List ℕ) (c : Code) (i : ℕ) → IsFinished old new code c i → (l : Label) (o : Op) (xs : List Operand) (line : ℕ)
          → slice_get xs 0 ≡ Some (operand.Label l)
          → IsKnownAhead H is_item old new (λ s. node_items (F s) (node_of o xs line) frame choices staged (length old.bytes)) reach o xs
          → IsAhead T (reach_ahead old.size) o (length old.bytes) (part_of code (length old.bytes) (length new.bytes - length old.bytes))
      ahead-of code c i f l (op.Branch o last) xs line first k = ahead code c i f reach (op.Branch o last) xs l first k
      ahead-of code c i f l (op.BranchSum o last) xs line first k = ahead code c i f reach (op.BranchSum o last) xs l first k
      ahead-of code c i f l (op.Control control.Jmp last_operand.Immediate) xs line first k =
          ahead code c i f reach (op.Control control.Jmp last_operand.Immediate) xs l first k
      ahead-of code c i f l (op.Control control.Call last_operand.Immediate) xs line first k =
          ahead code c i f reach (op.Control control.Call last_operand.Immediate) xs l first k
      ahead-of code c i f l (op.Control control.Finish last_operand.Immediate) xs line first k =
          ahead code c i f reach (op.Control control.Finish last_operand.Immediate) xs l first k
      ahead-of code c i f l o xs line first k = tt

      pub selected-ahead : Each (IsChecked reach old) (fixes_of H (length old.bytes) (node_items (F reach) node frame choices staged (length old.bytes)))
          → ((l : Label) → slice_get node.operands 0 ≡ Some (operand.Label l) → place_of old.labels l.0 ≡ None → length old.bytes ≤ most_code
          → IsLeastAhead (reach_ahead old.size)
          (λ r. Each (Leads old) (fixes_of H (length old.bytes) (node_items (F r) node frame choices staged (length old.bytes)))) reach)
          → IsAheadWhenFinished T node old new
      selected-ahead checked least code c i l f low first free =
          let formed = asked.formed in
          ahead-of code c i f l node.op node.operands node.line first record {
            admitted = formed.forms;
            appended = appended;
            fit = fit;
            labels = λ m is. let same : m ≡ l = same-label node.operands m l is first in ap (λ (k : Label). place_of old.labels k.0) same ∙ free;
            checked = checked;
            least = least l first free low;
          }
