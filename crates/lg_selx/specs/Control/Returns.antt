-- `ret`, `retr`, `reti` and `epilog`: those of V0, V1 and V2 of the caller that are saved, the stack pointer and the caller's frame pointer come back from
-- the frame, and the run goes on at the return address, which is popped.
use Rattle.std.specs.Prelude.{ℕ, pos, negsuc, List, [], ◌∷◌, ◌++◌, take}
use Rattle.lg_base.specs.Conventions.{result_register}
use Rattle.lg_base.specs.declared.target.Target.TheVariants.{X86_64}
use Rattle.lg_x86.specs.declared.instruction.BareOp.TheVariants.{Ret}
use Rattle.lg_x86.specs.declared.instruction.Instr.{Instr}
use Rattle.lg_x86.specs.declared.instruction.Instr.TheVariants as instr
use Rattle.lg_x86.specs.declared.instruction.LoadOp.TheVariants.{Ld64, Lea}
use Rattle.lg_x86.specs.declared.instruction.RmRegOp.TheVariants.{Mov}
use Rattle.lg_op.specs.declared.operand.Reg.TheVariants.{R0}
use Rattle.lg_temp.specs.Abis.{register_of}
use Rattle.lg_selx_values.specs.Processor.Numbers.{number_row}
use Rattle.lg_sel.specs.Control.Returns.{Returned, NoWord, OfRegister, OfNumber, OfLabel}

-- rbx, r13 and r14 correspond to V0, V1 and V2, this many of which are loaded; rbp is 5
abbrev pub restores : ℕ → List Instr
restores saved = take saved (instr.Load Ld64 3 5 (negsuc 7) ∷ instr.Load Ld64 13 5 (negsuc 15) ∷ instr.Load Ld64 14 5 (negsuc 23) ∷ [])

-- the stack pointer, rsp, 4, rises to the return address, and then FP is loaded
abbrev pub leave_code : List Instr
leave_code = instr.Load Lea 4 5 (pos 8) ∷ instr.Load Ld64 5 5 (pos 0) ∷ []

abbrev pub restore_code : ℕ → List Instr
restore_code saved = restores saved ++ leave_code

abbrev pub return_code : ℕ → List Instr
return_code saved = restore_code saved ++ (instr.Bare Ret ∷ [])

-- the register of the result of a call, rax
abbrev pub result : ℕ
result = result_register X86_64

-- the word that is returned is put there first: that of a register, a number, or the address of a label; that of R0, for which rax stands, is there
abbrev pub result_code : Returned → List Instr
result_code NoWord = []
result_code (OfRegister R0) = []
result_code (OfRegister a) = instr.RmReg Mov result (register_of X86_64 a) ∷ []
result_code (OfNumber v) = number_row result v ∷ []
result_code (OfLabel address) = instr.Movi32 result address ∷ []

-- the size of the frame does not matter, since FP is the frame's
abbrev pub returned_code : ℕ → ℕ → Returned → List Instr
returned_code saved frame r = result_code r ++ return_code saved
