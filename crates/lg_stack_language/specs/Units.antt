-- The units of the language.
use Rattle.std.specs.Prelude.{◌≡◌, ℕ, ◌≤◌, List, codes, length, slice_get, Some}
use Rattle.lg_op.specs.declared.op.Op.{Op}
use Rattle.lg_op.specs.declared.operand.Operand.{Operand}
use Rattle.lg_op.specs.declared.node.Node.{Node}
use Rattle.lg_node.specs.declared.place.Place.TheVariants as place
use Rattle.lg_node.specs.declared.unit.Unit.{Unit}
use Rattle.lg_node.specs.Nodes.{LabelledNodes}

abbrev pub node : Op → List Operand → ℕ → Node
node op operands line = record { op = op; operands = operands; line = line }

-- the data part: the format by which values are printed, ended by a zero byte
abbrev pub format : List ℕ
format = codes "%ld\n\0"

-- no label is bound after the end of that data part
abbrev pub AreInside : LabelledNodes → Type 0
AreInside l = (x k : ℕ) → slice_get l.places x ≡ Some (Some (place.Image k)) → k ≤ length format
