-- Where labels lead, and which are taken.
use Rattle.std.specs.Prelude.{ℕ, ◌==◌, Bool, true, false, not, ◌&&◌, List, Option, Some, None, length, map, slice_get}
use Rattle.std.specs.List.{list_any, range_with_len}
use Rattle.std.specs.Option.{option_flatten}
use Rattle.lg_op.specs.declared.op.Op.{Op}
use Rattle.lg_op.specs.declared.op.Op.TheVariants.{Control, Plain}
use Rattle.lg_op.specs.declared.op.ControlOp.TheVariants as control
use Rattle.lg_op.specs.declared.op.PlainOp.TheVariants as plain
use Rattle.lg_op.specs.declared.op.LastOperand.TheVariants as last_operand
use Rattle.lg_op.specs.declared.operand.Label.{Label}
use Rattle.lg_op.specs.declared.operand.Operand.{Operand}
use Rattle.lg_op.specs.declared.operand.Operand.TheVariants as operand
use Rattle.lg_op.specs.declared.node.Node.{Node}
use Rattle.lg_node.specs.declared.place.Place.{Place}
use Rattle.lg_node.specs.declared.place.Place.TheVariants as place
use Rattle.lg_node.specs.Nodes.{LabelledNodes}
use Rattle.lg_node.specs.Functions.{home, is_prolog_at}

-- the place at which a label is bound
abbrev pub place_of : List (Option Place) → Label → Option Place
place_of places label = option_flatten (slice_get places label.0)

-- a label is bound at a node
abbrev pub is_at : ℕ → Option Place → Bool
is_at i (Some (place.Node k)) = k == i
is_at i p = false

abbrev pub is_labelled : List (Option Place) → ℕ → Bool
is_labelled places i = list_any (is_at i) places

-- a place in the code, and not in the data
abbrev pub is_code : Option Place → Bool
is_code (Some (place.Node k)) = true
is_code p = false

-- the place is a `prolog`
abbrev pub is_entry : List Node → Option Place → Bool
is_entry nodes (Some (place.Node k)) = is_prolog_at (slice_get nodes k)
is_entry nodes p = false

-- node k is one of function p after its `prolog`
abbrev pub is_after_prolog : Option ℕ → ℕ → ℕ → Bool
is_after_prolog None p k = false
is_after_prolog (Some q) p k = (q == p) && not (k == p)

-- the place is a node of function p after its `prolog`
abbrev pub is_inside : List Node → ℕ → Option Place → Bool
is_inside nodes p (Some (place.Node k)) = is_after_prolog (home nodes k) p k
is_inside nodes p o = false

-- node k is one of some function after its `prolog`
abbrev pub is_inner : Option ℕ → ℕ → Bool
is_inner None k = false
is_inner (Some p) k = not (k == p)

-- the place is a node of some function after its `prolog`
abbrev pub is_inside_some : List Node → Option Place → Bool
is_inside_some nodes (Some (place.Node k)) = is_inner (home nodes k) k
is_inside_some nodes o = false

-- the operations that may have the address of a node as an immediate
abbrev pub takes_address : Op → Bool
takes_address (Plain plain.Movi) = true
takes_address (Control control.Pusharg last_operand.Immediate) = true
takes_address (Control control.Ret last_operand.Immediate) = true
takes_address op = false

abbrev pub is_label : ℕ → Operand → Bool
is_label label (operand.Label l) = l.0 == label
is_label label x = false

-- a node names a label as the number to be moved, pushed or returned
abbrev pub names_address : ℕ → Node → Bool
names_address label n = takes_address n.op && list_any (is_label label) n.operands

-- a label is taken where some such node names it and it is bound in some function after its `prolog`
abbrev pub is_taken : LabelledNodes → ℕ → Bool
is_taken l label = list_any (names_address label) l.nodes && is_inside_some l.nodes (option_flatten (slice_get l.places label))

-- of each label, whether it is taken
abbrev pub taken_labels : LabelledNodes → List Bool
taken_labels l = map (is_taken l) (range_with_len 0 (length l.places))
