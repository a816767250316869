-- The nodes that branch, jump, call and return, `prolog`, `.align` and those without code are carried by their items.
use Rattle.std.specs.Prelude.{◌≡◌, ℕ, Bool, true, false, List, slice_index}
use Rattle.lg_op.specs.declared.node.Node.{Node}
use Rattle.lg_op.specs.declared.operand.Operand.{Operand}
use Rattle.lg_carry.specs.FinalNodes.{Code, saved_at}
use Rattle.lg_sel.specs.Control.Prologs.{IsHomesOf}
use Rattle.lg_carry.specs.NodeCode.{CarriesNode}
use Rattle.lg_carry.specs.TextNodes.{IsInText, IsFrameOf, HasPlaces}
use Rattle.lg_selx_values.specs.Processor.X86Rows.{x86_processor}
use Rattle.lg_sel.specs.declared.reach.Reach.{Reach}
use Rattle.lg_carry.specs.Nodes.Operands.{AreWords}
use Rattle.lg_selx_values.specs.Items.{settled}
use Rattle.lg_selx.specs.Control.Standing.{StandsInCode}
use Rattle.lg_sel.specs.Control.Control as target_control
use Rattle.lg_selx.specs.Control.ControlItems.{control_items, is_control}

-- a branch compares with no label
abbrev pub ends_in_label : List Operand → Bool
ends_in_label xs = target_control.ends_in_label xs

abbrev pub ControlNodesCarry : Type 0
ControlNodesCarry =
    (r : Reach) (code : List ℕ) (trash : ℕ) (c : Code) (i : ℕ) (n : Node) (frame homes saved : ℕ) (S : ℕ → Bool) → is_control n.op ≡ true → HasPlaces 1 c
    → AreWords c.addresses n.operands → ends_in_label n.operands ≡ false → IsFrameOf c i frame → IsHomesOf c i homes → saved_at c i ≡ saved → IsInText c i n
    → StandsInCode code trash c i (settled (slice_index c.addresses) (c.place i) (control_items r n.op n.operands frame homes saved (c.place i)))
    → CarriesNode (x86_processor code trash) c i n S
