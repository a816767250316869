-- The registers that instructions write.
use Rattle.std.specs.Prelude.{◌≡◌, ℕ, false, List, Option, Some, None, ⊤, Bool}
use Rattle.lg_base.specs.declared.target.Target.TheVariants.{Riscv64}
use Rattle.lg_rv.specs.declared.instruction.Instr.{Instr}
use Rattle.lg_rv.specs.declared.instruction.Instr.TheVariants.{Upper, Jal, Branch, Imm, Shift, Store, Reg}
use Rattle.lg_carry.specs.Blocks.{StaysOutside}
use Rattle.lg_carry.specs.Outside.{is_outside}
use Rattle.lg_selr_values.specs.Processor.RvRows.{rv_rows}

-- all but branches and stores write one
abbrev pub destination : Instr → Option ℕ
destination (Upper op rd imm) = Some rd
destination (Jal rd offset) = Some rd
destination (Branch op rs1 rs2 offset) = None
destination (Imm op rd rs1 imm) = Some rd
destination (Shift op rd rs1 amount) = Some rd
destination (Store op rs1 rs2 imm) = None
destination (Reg op rd rs1 rs2) = Some rd

-- a register that is not outside of the conventions, or none
abbrev pub IsWithin : Bool → Option ℕ → Type 0
IsWithin moves None = ⊤
IsWithin moves (Some rd) = is_outside Riscv64 moves rd ≡ false

-- an instruction writes none that is outside
abbrev pub WritesWithin : Bool → Instr → Type 0
WritesWithin moves i = IsWithin moves (destination i)

-- so it changes none
abbrev pub InstructionsStay : Type 0
InstructionsStay = (code : List ℕ) (trash : ℕ) (moves : Bool) (i : Instr) → WritesWithin moves i → StaysOutside (rv_rows code trash) moves i
