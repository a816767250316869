-- The locals of a function that is built node by node.
use Rattle.std.specs.Prelude.{ℕ, ◌+◌, ◌-◌, ◌*◌, ◌/◌, ◌^◌, ◌≤◌, [], ◌∷◌}
use Rattle.lg_op.specs.declared.op.Op.TheVariants.{Plain}
use Rattle.lg_op.specs.declared.op.PlainOp.TheVariants as plain
use Rattle.lg_op.specs.declared.operand.Operand.TheVariants as operand
use Rattle.lg_op.specs.declared.node.Node.{Node}

-- how many there are, and the bytes that they take
pub record LocalBytes : Type 0 where
  pub count : ℕ
  pub bytes : ℕ

-- each takes 8 bytes at least
pub record AreLocals (count bytes : ℕ) : Type 0 where
  pub few : 8 * count ≤ bytes
  pub most : bytes ≤ 65536

-- a size rounded up to a multiple of 8
abbrev pub rounded : ℕ → ℕ
rounded size = (size + 7) / 8 * 8

-- the node that makes a local of this size, with its number in the function
abbrev pub allocai : ℕ → ℕ → ℕ → Node
allocai size number line = record { op = Plain plain.Allocai; operands = operand.Number size ∷ operand.Slot number ∷ []; line = line }

-- the offset from FP of the last of locals that take this many bytes: they lie below the 128 bytes that a frame keeps under FP
abbrev pub offset_below : ℕ → ℕ
offset_below bytes = 2 ^ 64 - (128 + bytes)
