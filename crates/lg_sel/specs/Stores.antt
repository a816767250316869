-- How many stores the code of a node has, on every target.
use Rattle.std.specs.Prelude.{◌≡◌, ℕ, ◌+◌, ◌≤◌, Bool, List, length, count_by}
use Rattle.std.specs.List.{All}
use Rattle.lg_base.specs.declared.target.Target.{Target}
use Rattle.lg_base.specs.declared.target.Target.TheVariants.{X86_64, Riscv64}
use Rattle.lg_carry.specs.Blocks.{spellings}
use Rattle.lg_sel.specs.Control.Stores.{home_registers}
use Rattle.lg_op.specs.declared.op.ControlOp.TheVariants as control
use Rattle.lg_op.specs.declared.op.Op.{Op}
use Rattle.lg_op.specs.declared.op.Op.TheVariants as op
use Rattle.lg_op.specs.declared.op.PlainOp.TheVariants as plain
use Rattle.lg_op.specs.declared.op.StoreType.{StoreType}
use Rattle.lg_op.specs.declared.op.StoreType.TheVariants as store_type

-- ---- which nodes do
-- RV64 refuses a row of several bytes at an address that is no multiple of their number: there the code has the row, and for other addresses stores of one byte
-- each, or six for eight bytes
abbrev pub rows_stored_rv : StoreType → ℕ
rows_stored_rv store_type.Char = 1
rows_stored_rv store_type.Short = 3
rows_stored_rv store_type.Int = 5
rows_stored_rv store_type.Long = 7

-- how many rows store by a type
abbrev pub rows_stored : Target → StoreType → ℕ
rows_stored Riscv64 t = rows_stored_rv t
rows_stored target t = 1

-- a frame begins with the caller's FP, and with the return address where no call leaves it on the stack
abbrev pub frame_stores : Target → ℕ
frame_stores X86_64 = 1
frame_stores target = 2

-- the stores that a node has beside those that save its temporaries: a `prolog` stores these homes of register arguments, and saves this many of V0, V1 and
-- V2
abbrev pub own_stores : Target → ℕ → ℕ → Op → ℕ
own_stores target homes saved (op.Store t at) = rows_stored target t
own_stores target homes saved (op.Control control.Pusharg last) = 1
own_stores target homes saved (op.Plain plain.Prolog) = frame_stores target + length (home_registers target homes) + saved
own_stores target homes saved o = 0

-- ---- bytes that store seldom
-- they are the spellings, in a row, of instructions at most this many of which store
pub record StoresAtMost {I : Type 0} (spelling : I → List ℕ) (fits : I → Type 0) (is_store : I → Bool) (most : ℕ) (bytes : List ℕ) : Type 0 where
  pub instructions : List I
  pub fit : All fits instructions
  pub bytes_are : bytes ≡ spellings spelling instructions
  pub few : count_by is_store instructions ≤ most
