-- `ret`, `retr`, `reti` and `epilog`: those of V0, V1 and V2 of the caller that the code saves, the return address and the caller's frame pointer come back
-- from the frame, the stack pointer rises to that of the caller, and the run continues after the call. Each word is loaded before the stack pointer rises
-- above it.
use Rattle.std.specs.Prelude.{ℕ, nat_lt, if◌then◌else◌, pos, negsuc, List, [], ◌∷◌, ◌++◌, take}
use Rattle.lg_base.specs.declared.target.Target.TheVariants.{Riscv64}
use Rattle.lg_rv.specs.declared.instruction.Instr.{Instr}
use Rattle.lg_rv.specs.declared.instruction.Instr.TheVariants as instr
use Rattle.lg_rv.specs.declared.instruction.ImmOp.TheVariants.{Ld, Addi, Jalr}
use Rattle.lg_rv.specs.declared.instruction.UpperOp.TheVariants.{Lui}
use Rattle.lg_temp.specs.Abis.{register_of}
use Rattle.lg_selr_values.specs.Processor.Numbers.{number_code, high_part, low_part}
use Rattle.lg_sel.specs.Control.Returns.{Returned, NoWord, OfRegister, OfNumber, OfLabel}

-- x8 is FP, x1 the link, x2 the stack pointer; x9, x18 and x19 correspond to V0, V1 and V2, this many of which come back
abbrev pub restores : ℕ → List Instr
restores saved = take saved (instr.Imm Ld 9 8 (negsuc 7) ∷ instr.Imm Ld 18 8 (negsuc 15) ∷ instr.Imm Ld 19 8 (negsuc 23) ∷ [])

-- after them, where the size of the frame is a number of 12 bits
abbrev pub near_return : ℕ → List Instr
near_return frame =
    instr.Imm Ld 1 8 (pos 8) ∷ instr.Imm Ld 8 8 (pos 0) ∷ instr.Imm Addi 2 2 (pos frame) ∷ instr.Imm Jalr 0 1 (pos 0) ∷ []

-- of a larger frame the stack pointer rises first to the word of the caller's frame pointer
abbrev pub far_return : List Instr
far_return =
    instr.Imm Ld 1 8 (pos 8) ∷ instr.Imm Addi 2 8 (pos 0) ∷ instr.Imm Ld 8 2 (pos 0) ∷ instr.Imm Addi 2 2 (pos 16) ∷ instr.Imm Jalr 0 1 (pos 0) ∷ []

abbrev pub leaving_code : ℕ → List Instr
leaving_code frame = if nat_lt frame 2048 then near_return frame else far_return

abbrev pub return_code : ℕ → ℕ → List Instr
return_code saved frame = restores saved ++ leaving_code frame

-- the word that is returned is put into x10 first: that of a register, a number, or the address of a label
abbrev pub result_code : Returned → List Instr
result_code NoWord = []
result_code (OfRegister a) = instr.Imm Addi 10 (register_of Riscv64 a) (pos 0) ∷ []
result_code (OfNumber v) = number_code 10 v
result_code (OfLabel address) = instr.Upper Lui 10 (high_part address) ∷ instr.Imm Addi 10 10 (low_part address) ∷ []

abbrev pub returned_code : ℕ → ℕ → Returned → List Instr
returned_code saved frame r = result_code r ++ return_code saved frame
