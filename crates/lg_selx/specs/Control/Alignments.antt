-- `.align`: instructions that do nothing, of one byte each, up to a multiple of the alignment.
use Rattle.std.specs.Prelude.{◌≡◌, ℕ, ◌+◌, ◌-◌, ◌%◌, true, List, length}
use Rattle.lg_op.specs.Forms.{is_alignment}
use Rattle.lg_x86.specs.Spelling.{spelling}
use Rattle.lg_x86.specs.declared.instruction.BareOp.TheVariants.{Nop}
use Rattle.lg_x86.specs.declared.instruction.Instr.{Instr}
use Rattle.lg_x86.specs.declared.instruction.Instr.TheVariants as instr
use Rattle.lg_carry.specs.Blocks.{spellings}
use Rattle.lg_sel.specs.Control.Paddings as paddings

-- how many bytes lead from an address to the next multiple
abbrev pub padding : ℕ → ℕ → ℕ
padding at n = (n - at % n) % n

-- the instruction that does nothing
abbrev pub no_op : Instr
no_op = instr.Bare Nop

abbrev pub idle : ℕ → List Instr
idle k = paddings.idle no_op k

abbrev pub align_code : ℕ → ℕ → List Instr
align_code at n = idle (padding at n)

-- after them is a multiple
abbrev pub AlignmentsAlign : Type 0
AlignmentsAlign = (at n : ℕ) → is_alignment n ≡ true → (at + length (spellings spelling (align_code at n))) % n ≡ 0
