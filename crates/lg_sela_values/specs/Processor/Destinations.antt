-- The registers that instructions write.
use Rattle.std.specs.Prelude.{◌≡◌, ℕ, false, List, Option, Some, None, ⊤, Bool, ◌==◌, if◌then◌else◌}
use Rattle.lg_base.specs.Conventions.{link_register}
use Rattle.lg_base.specs.declared.target.Target.TheVariants.{Aarch64}
use Rattle.lg_a64.specs.declared.instruction.Instr.{Instr}
use Rattle.lg_a64.specs.declared.instruction.Instr.TheVariants.{Reg, Imm, Wide, MulAdd, Bitfield, Csinc, Reverse, Scaled, Ldrx, Unscaled, Branch, BranchIf, BranchReg, Nop}
use Rattle.lg_a64.specs.declared.instruction.ImmOp.{ImmOp}
use Rattle.lg_a64.specs.declared.instruction.ImmOp.TheVariants.{Addi, Subi, Addsi, Subsi}
use Rattle.lg_a64.specs.declared.instruction.RegOp.{RegOp}
use Rattle.lg_a64.specs.declared.instruction.RegOp.TheVariants.{Adds, Subs, Ands}
use Rattle.lg_a64.specs.declared.instruction.ScaledOp.{ScaledOp}
use Rattle.lg_a64.specs.declared.instruction.ScaledOp.TheVariants.{Str64, Str32, Str16, Str8}
use Rattle.lg_a64.specs.declared.instruction.UnscaledOp.{UnscaledOp}
use Rattle.lg_a64.specs.declared.instruction.UnscaledOp.TheVariants.{Ldur, Stur}
use Rattle.lg_a64.specs.declared.instruction.BranchOp.{BranchOp}
use Rattle.lg_a64.specs.declared.instruction.BranchOp.TheVariants.{B, Bl}
use Rattle.lg_a64.specs.declared.instruction.BranchRegOp.{BranchRegOp}
use Rattle.lg_a64.specs.declared.instruction.BranchRegOp.TheVariants.{Br, Blr, Ret}
use Rattle.lg_carry.specs.Blocks.{StaysOutside}
use Rattle.lg_carry.specs.Outside.{is_outside}
use Rattle.lg_sela_values.specs.Processor.A64Rows.{a64_rows}

-- loads write one, and stores none
abbrev pub scaled_destination : ScaledOp → ℕ → Option ℕ
scaled_destination Str64 rt = None
scaled_destination Str32 rt = None
scaled_destination Str16 rt = None
scaled_destination Str8 rt = None
scaled_destination op rt = Some rt

abbrev pub unscaled_destination : UnscaledOp → ℕ → Option ℕ
unscaled_destination Ldur rt = Some rt
unscaled_destination Stur rt = None

-- a jump that links writes the link
abbrev pub branch_destination : BranchOp → Option ℕ
branch_destination B = None
branch_destination Bl = link_register Aarch64

abbrev pub branch_reg_destination : BranchRegOp → Option ℕ
branch_reg_destination Br = None
branch_reg_destination Blr = link_register Aarch64
branch_reg_destination Ret = None

-- rows that set flags write 31, which is no stack pointer there, as 0 is written: nowhere
abbrev pub written : ℕ → Option ℕ
written rd = if rd == 31 then None else Some rd

abbrev pub reg_destination : RegOp → ℕ → Option ℕ
reg_destination Adds rd = written rd
reg_destination Subs rd = written rd
reg_destination Ands rd = written rd
reg_destination op rd = Some rd

abbrev pub imm_destination : ImmOp → ℕ → Option ℕ
imm_destination Addi rd = Some rd
imm_destination Subi rd = Some rd
imm_destination Addsi rd = written rd
imm_destination Subsi rd = written rd

abbrev pub destination : Instr → Option ℕ
destination (Reg op rd rn rm) = reg_destination op rd
destination (Imm op rd rn imm shifted) = imm_destination op rd
destination (Wide op rd imm hw) = Some rd
destination (MulAdd op rd rn rm ra) = Some rd
destination (Bitfield op rd rn immr imms) = Some rd
destination (Csinc rd rn rm cond) = Some rd
destination (Reverse op rd rn) = Some rd
destination (Scaled op rt rn imm) = scaled_destination op rt
destination (Ldrx rt rn rm) = Some rt
destination (Unscaled op rt rn imm) = unscaled_destination op rt
destination (Branch op words) = branch_destination op
destination (BranchIf cond words) = None
destination (BranchReg op rn) = branch_reg_destination op
destination Nop = None

-- a register that is not outside of the conventions, or none
abbrev pub IsWithin : Bool → Option ℕ → Type 0
IsWithin moves None = ⊤
IsWithin moves (Some rd) = is_outside Aarch64 moves rd ≡ false

-- an instruction writes none that is outside
abbrev pub WritesWithin : Bool → Instr → Type 0
WritesWithin moves i = IsWithin moves (destination i)

-- so it changes none
abbrev pub InstructionsStay : Type 0
InstructionsStay = (code : List ℕ) (trash : ℕ) (moves : Bool) (i : Instr) → WritesWithin moves i → StaysOutside (a64_rows code trash) moves i
