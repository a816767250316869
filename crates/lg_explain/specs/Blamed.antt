-- The label and the word that a refusal blames, in the words of the check that refuses.
use Rattle.std.specs.Prelude.{◌≡◌, ◌↔◌, ℕ, ◌<◌, ◌≤◌, Bool, true, false, List, Some, Ok, is_some, slice_get}
use Rattle.lg_base.specs.declared.refusal.Refusal.{Refusal}
use Rattle.lg_base.specs.declared.refusal.RefusalKind.{RefusalKind}
use Rattle.lg_base.specs.declared.refusal.RefusalKind.TheVariants.{LabelMissing, TargetOutside, BadCall}
use Rattle.lg_meaning.specs.Addresses.{IsBound}
use Rattle.lg_node.specs.Checks.{NoneBefore, IsRefused, is_astray, is_missing, refusal_at}
use Rattle.lg_node.specs.Functions.{home}
use Rattle.lg_node.specs.Nodes.{LabelledNodes}
use Rattle.lg_node.specs.Preparations.{prepared_before}
use Rattle.lg_node.specs.declared.place.Place.TheVariants as place
use Rattle.lg_node.specs.declared.unit.Unit.{Unit as TextUnit}
use Rattle.lg_op.specs.Forms.{forms_of}
use Rattle.lg_op.specs.declared.form.Form.{Form}
use Rattle.lg_op.specs.declared.node.Node.{Node}
use Rattle.lg_op.specs.declared.operand.Label.{Label}
use Rattle.lg_op.specs.declared.operand.Operand.{Operand}
use Rattle.lg_op.specs.declared.operand.Operand.TheVariants as operand
use Rattle.lg_pre.specs.Expanded.{expanded}
use Rattle.lg_tst.specs.Units.{unit_of}
use Rattle.lg_explain.specs.Blames.{label_of}
use Rattle.lg_explain.specs.Lines.{shown}
use Rattle.lg_explain.specs.Words.{word_told}

-- the first operand with which something is wrong is this label
pub record IsFirstWrong (wrong : Operand → Bool) (operands : List Operand) (x : Label) : Type 0 where
  pub index : ℕ
  pub here : slice_get operands index ≡ Some (operand.Label x)
  pub is : wrong (operand.Label x) ≡ true
  pub before : (j : ℕ) (y : Operand) → j < index → slice_get operands j ≡ Some y → wrong y ≡ false

-- the same by the operands' forms
pub record IsFirstAstray (wrong : Form → Operand → Bool) (forms : List Form) (operands : List Operand) (x : Label) : Type 0 where
  pub index : ℕ
  pub form : Form
  pub formed : slice_get forms index ≡ Some form
  pub here : slice_get operands index ≡ Some (operand.Label x)
  pub is : wrong form (operand.Label x) ≡ true
  pub before : (j : ℕ) (f : Form) (y : Operand) → j < index → slice_get forms j ≡ Some f → slice_get operands j ≡ Some y → wrong f y ≡ false

-- of the labels that are bound at a node this is the first
pub record IsFirstBound (l : LabelledNodes) (i : ℕ) (x : Label) : Type 0 where
  pub bound : IsBound l x.0 (place.Node i)
  pub first : (j : ℕ) → IsBound l j (place.Node i) → x.0 ≤ j

-- what a kind blames at a node that it refuses: the first operand that is a label which nothing binds, the first that leads where it may not, or the first
-- label that is bound there while a call is being prepared
abbrev pub Blames : RefusalKind → LabelledNodes → ℕ → Node → Label → Type 0
Blames LabelMissing l i n x = IsFirstWrong (is_missing l.places) n.operands x
Blames TargetOutside l i n x = IsFirstAstray (is_astray l (home l.nodes i) n.op) (forms_of n.op) n.operands x
Blames BadCall l i n x = (is_some (prepared_before l.nodes i) ≡ true) × IsFirstBound l i x
Blames kind l i n x = ⊥

-- the first node that is refused is refused so, at its line, and the kind blames this label at it
pub record IsBlamed (l : LabelledNodes) (r : Refusal) (x : Label) : Type 0 where
  pub at : ℕ
  pub node : Node
  pub here : slice_get l.nodes at ≡ Some node
  pub refused : refusal_at l at ≡ Some r
  pub line : r.line ≡ node.line
  pub before : NoneBefore l at
  pub blames : Blames r.kind l at node x

-- such a label is the one that is reported of nodes that are refused so, and none is reported where there is none
abbrev pub LabelsAreBlamed : Type 0
LabelsAreBlamed = (l : LabelledNodes) (r : Refusal) (x : Label) → IsRefused l r → (label_of r.kind l ≡ Some x) ↔ IsBlamed l r x

-- a word is that of such a label, as it is shown
pub record IsWordBlamed (l : LabelledNodes) (r : Refusal) (word : List ℕ) : Type 0 where
  pub label : Label
  pub blamed : IsBlamed l r label
  pub text : List ℕ
  pub named : slice_get l.words label.0 ≡ Some text
  pub is : word ≡ shown text

-- and it is the word that is reported of what was read, whose unit is refused so
abbrev pub WordsAreBlamed : Type 0
WordsAreBlamed =
    (read text word : List ℕ) (unit : TextUnit) (r : Refusal) → expanded read ≡ Ok text → unit_of text ≡ Ok unit → IsRefused unit.nodes r
    → (word_told read r.kind ≡ Some word) ↔ IsWordBlamed unit.nodes r word
