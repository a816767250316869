-- The code of a node with the choices for its needs.
use Rattle.std.specs.Prelude.{◌≡◌, ℕ, Bool, List, length, Some}
use Rattle.std.specs.List.{All}
use Rattle.lg_buf.specs.Buffers.{Buffer, EndsWithin}
use Rattle.lg_op.specs.declared.node.Node.{Node}
use Rattle.lg_op.specs.declared.operand.Reg.{Reg}
use Rattle.lg_sel.specs.Promises.{IsAppended}
use Rattle.lg_sel.specs.TargetCodes.{TargetCode}
use Rattle.lg_temp.specs.Chosen.{around, choices_of}
use Rattle.lg_temp.specs.declared.choice.Choice.{Choice}
use Rattle.lg_temp.specs.declared.choice.Need.{Need}

-- the code of a node was appended to the old buffer, whose fixes end within its bytes, and which became the new one, with the choices for its needs
pub record HasCode (T : TargetCode) (needs : List Need) (node : Node) (frame homes saved : ℕ) (live : Reg → Bool) (staged : List Bool) (old new : Buffer) : Type 0 where
  pub choices : List Choice
  pub chosen : choices_of (around T.target node live staged) needs ≡ Some choices
  pub ends : All (EndsWithin (length old.bytes)) old.fixes
  pub appended : IsAppended T node frame homes saved live staged choices old new
