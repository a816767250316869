-- The label that a refusal of nodes blames.
use Rattle.std.specs.Prelude.{ℕ, zero, suc, Bool, if◌then◌else◌, List, ◌∷◌, Option, Some, None, length, slice_get}
use Rattle.std.specs.List.{find, position}
use Rattle.std.specs.Option.{option_and_then, option_flatten, option_map, option_or}
use Rattle.lg_base.specs.declared.refusal.RefusalKind.{RefusalKind}
use Rattle.lg_base.specs.declared.refusal.RefusalKind.TheVariants.{LabelMissing, TargetOutside, BadCall}
use Rattle.lg_op.specs.Forms.{forms_of}
use Rattle.lg_op.specs.declared.form.Form.{Form}
use Rattle.lg_op.specs.declared.node.Node.{Node}
use Rattle.lg_op.specs.declared.operand.Label.{Label}
use Rattle.lg_op.specs.declared.operand.Operand.{Operand}
use Rattle.lg_op.specs.declared.operand.Operand.TheVariants as operand
use Rattle.lg_node.specs.Checks.{is_astray, is_bad_call, is_missing}
use Rattle.lg_node.specs.Functions.{home}
use Rattle.lg_node.specs.Labels.{is_at, is_labelled}
use Rattle.lg_node.specs.Nodes.{LabelledNodes}
use Rattle.lg_node.specs.Preparations.{prepared_before, varies_before}
use Rattle.lg_node.specs.declared.place.Place.{Place}
use Rattle.lg_node.specs.declared.preparation.Preparation.{Preparation}

-- ---- of a list of nodes
-- what the first of n nodes gives that gives something
unfoldable pub first_of : {A : Type 0} → (ℕ → Option A) → ℕ → Option A
first_of gives zero = None
first_of gives (suc i) = option_or (first_of gives i) (gives i)

-- what a node gives
abbrev pub of_node : {A : Type 0} → (ℕ → Node → Option A) → LabelledNodes → ℕ → Option A
of_node gives l i = option_and_then (gives i) (slice_get l.nodes i)

-- what the first node of all gives that gives something
abbrev pub first_in : {A : Type 0} → (ℕ → Node → Option A) → LabelledNodes → Option A
first_in gives l = first_of (of_node gives l) (length l.nodes)

abbrev pub label_in : Operand → Option Label
label_in (operand.Label l) = Some l
label_in x = None

-- ---- LabelMissing: the first operand that is a label that nothing binds
abbrev pub missing_in : List (Option Place) → List Operand → Option Label
missing_in places operands = option_and_then label_in (find (is_missing places) operands)

abbrev pub missing_at : LabelledNodes → ℕ → Node → Option Label
missing_at l i n = missing_in l.places n.operands

-- ---- TargetOutside: the first operand that leads where it may not by its form
abbrev pub found_by_form : (Form → Operand → Bool) → List Form → List Operand → Option Label
found_by_form test (f ∷ fs) (x ∷ xs) = if test f x then label_in x else found_by_form test fs xs
found_by_form test fs xs = None

abbrev pub astray_at : LabelledNodes → ℕ → Node → Option Label
astray_at l i n = found_by_form (is_astray l (home l.nodes i) n.op) (forms_of n.op) n.operands

-- ---- BadCall: where a call is being prepared, the first label that is bound at the node
abbrev pub label_at : List (Option Place) → ℕ → Option Label
label_at places i = option_map (λ k. record { 0 = k }) (position (is_at i) places)

abbrev pub label_between : Option Preparation → List (Option Place) → ℕ → Option Label
label_between None places i = None
label_between (Some call) places i = label_at places i

-- a node that is out of place gives the label, or that there is none
abbrev pub bad_call_at : LabelledNodes → ℕ → Node → Option (Option Label)
bad_call_at l i n =
    if is_bad_call (prepared_before l.nodes i) (varies_before l.nodes i) (is_labelled l.places i) n.op
    then Some (label_between (prepared_before l.nodes i) l.places i)
    else None

-- ---- the kinds
-- the label that a kind blames at the first node that it refuses
abbrev pub label_of : RefusalKind → LabelledNodes → Option Label
label_of LabelMissing l = first_in (missing_at l) l
label_of TargetOutside l = first_in (astray_at l) l
label_of BadCall l = option_flatten (first_in (bad_call_at l) l)
label_of kind l = None

abbrev pub word_of : LabelledNodes → Label → Option (List ℕ)
word_of l label = slice_get l.words label.0

-- and its word
abbrev pub word_in : RefusalKind → LabelledNodes → Option (List ℕ)
word_in kind l = option_and_then (word_of l) (label_of kind l)
