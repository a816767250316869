-- An instruction has bytes, and not many.
use Rattle.std.proofs.Common.{◌≡◌, ℕ, ◌<◌, ◌≤◌, List, ◌++◌, length, take, ap, sym, ◌∙◌, arith}
use Rattle.std.proofs.lemmas.List.{take_at}
use Rattle.lg_x86.specs.declared.instruction.Instr.{Instr}
use Rattle.lg_x86.specs.Spelling.{spelling}
use Rattle.lg_x86.proofs.SizeLemmas.{sized}
use Rattle.lg_list.specs.declared.instruction.Instruction.{Instruction}
use Rattle.lg_list.specs.declared.instruction.Instruction.TheVariants as instruction
use Rattle.lg_list.specs.Instructions.{spelling as spelling_of}

pub x86_some : (i : Instr) → 0 < length (spelling i)
x86_some i = (sized i).some

-- at most 16 of any target
pub spelling-short : (i : Instruction) → length (spelling_of i) ≤ 16
spelling-short (instruction.X86_64 i) = omega (arith, (sized i).short)
spelling-short (instruction.Aarch64 i) = omega arith
spelling-short (instruction.Riscv64 i) = omega arith

-- where bytes begin with an instruction, this many of them are its own
pub first-are : (bytes own more : List ℕ) (n : ℕ) → bytes ≡ own ++ more → n ≡ length own → take n bytes ≡ own
first-are bytes own more n e l = ap (take n) e ∙ take_at own more n (sym l)
