-- `ret`, `retr`, `reti` and `epilog`: those of V0, V1 and V2 of the caller that are saved, the return address and the caller's frame pointer come back from
-- the frame, the stack pointer rises to that of the caller, and the run continues after the call. Each word is loaded before the stack pointer rises above
-- it.
use Rattle.std.specs.Prelude.{ℕ, nat_lt, if◌then◌else◌, pos, negsuc, false, List, [], ◌∷◌, ◌++◌, take}
use Rattle.lg_base.specs.Conventions.{result_register}
use Rattle.lg_base.specs.declared.target.Target.TheVariants.{Aarch64}
use Rattle.lg_a64.specs.declared.instruction.BranchRegOp.TheVariants.{Ret}
use Rattle.lg_a64.specs.declared.instruction.ImmOp.TheVariants.{Addi}
use Rattle.lg_a64.specs.declared.instruction.Instr.{Instr}
use Rattle.lg_a64.specs.declared.instruction.Instr.TheVariants as instr
use Rattle.lg_a64.specs.declared.instruction.RegOp.TheVariants.{Orr}
use Rattle.lg_a64.specs.declared.instruction.UnscaledOp.TheVariants.{Ldur}
use Rattle.lg_a64.specs.declared.instruction.WideOp.TheVariants.{Movz, Movk}
use Rattle.lg_temp.specs.Abis.{register_of}
use Rattle.lg_sela_values.specs.Processor.A64Rows.{frame_pointer, stack_pointer, zero_register, link}
use Rattle.lg_sela_values.specs.Processor.Numbers.{number_code}
use Rattle.lg_sela_values.specs.Items.{low_quarter, next_quarter}
use Rattle.lg_sel.specs.Control.Returns.{Returned, NoWord, OfRegister, OfNumber, OfLabel}

-- the loads of V0, V1 and V2, for which x19, x20 and x21 stand
abbrev pub kept_loads : List Instr
kept_loads =
    instr.Unscaled Ldur 19 frame_pointer (negsuc 7) ∷ instr.Unscaled Ldur 20 frame_pointer (negsuc 15) ∷ instr.Unscaled Ldur 21 frame_pointer (negsuc 23) ∷ []

-- and of the first of them, this many of which are saved
abbrev pub restores : ℕ → List Instr
restores saved = take saved kept_loads

-- that of the return address
abbrev pub link_load : Instr
link_load = instr.Unscaled Ldur link frame_pointer (pos 8)

-- what follows where the size of the frame is a number of 12 bits
abbrev pub near_return : ℕ → List Instr
near_return frame =
    instr.Unscaled Ldur frame_pointer frame_pointer (pos 0) ∷ instr.Imm Addi stack_pointer stack_pointer frame false ∷ instr.BranchReg Ret link ∷ []

-- of a larger frame the stack pointer rises first to the word of the caller's frame pointer
abbrev pub far_return : List Instr
far_return =
    instr.Imm Addi stack_pointer frame_pointer 0 false ∷ instr.Unscaled Ldur frame_pointer stack_pointer (pos 0)
    ∷ instr.Imm Addi stack_pointer stack_pointer 16 false ∷ instr.BranchReg Ret link ∷ []

-- what is after the loads of V0, V1 and V2
abbrev pub leaving_code : ℕ → List Instr
leaving_code frame = link_load ∷ (if nat_lt frame 4096 then near_return frame else far_return)

abbrev pub return_code : ℕ → ℕ → List Instr
return_code saved frame = restores saved ++ leaving_code frame

-- the register of the result of a call, x0
abbrev pub result : ℕ
result = result_register Aarch64

-- the word that is returned is put there first: that of a register, a number, or the address of a label
abbrev pub result_code : Returned → List Instr
result_code NoWord = []
result_code (OfRegister a) = instr.Reg Orr result zero_register (register_of Aarch64 a) ∷ []
result_code (OfNumber v) = number_code result v
result_code (OfLabel address) = instr.Wide Movz result (low_quarter address) 0 ∷ instr.Wide Movk result (next_quarter address) 1 ∷ []

abbrev pub returned_code : ℕ → ℕ → Returned → List Instr
returned_code saved frame r = result_code r ++ return_code saved frame
