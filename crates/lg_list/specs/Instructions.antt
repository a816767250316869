-- The instructions of all targets: their bytes and their text.
use Rattle.std.specs.Prelude.{ℕ, zero, suc, ◌≡◌, List, [], ◌∷◌, ◌++◌, length, drop, Option, Some, None}
use Rattle.std.specs.Option.{option_map}
use Rattle.lg_base.specs.declared.target.Target.{Target}
use Rattle.lg_base.specs.declared.target.Target.TheVariants as target
use Rattle.lg_list.specs.declared.instruction.Instruction.{Instruction}
use Rattle.lg_list.specs.declared.instruction.Instruction.TheVariants as instruction
use Rattle.lg_a64.specs.Spelling as a64_spelling
use Rattle.lg_a64.specs.Reading as a64_reading
use Rattle.lg_rv.specs.Spelling as rv_spelling
use Rattle.lg_rv.specs.Reading as rv_reading
use Rattle.lg_x86.specs.Spelling as x86_spelling
use Rattle.lg_x86.specs.Reading as x86_reading
use Rattle.lg_list.specs.Aarch64 as a64
use Rattle.lg_list.specs.Riscv64 as rv
use Rattle.lg_list.specs.X86_64 as x86

abbrev pub target_of : Instruction → Target
target_of (instruction.X86_64 i) = target.X86_64
target_of (instruction.Aarch64 i) = target.Aarch64
target_of (instruction.Riscv64 i) = target.Riscv64

-- its numbers are in its row's ranges
abbrev pub IsInstruction : Instruction → Type 0
IsInstruction (instruction.X86_64 i) = x86_spelling.IsInstr i
IsInstruction (instruction.Aarch64 i) = a64_spelling.IsInstr i
IsInstruction (instruction.Riscv64 i) = rv_spelling.IsInstr i

abbrev pub spelling : Instruction → List ℕ
spelling (instruction.X86_64 i) = x86_spelling.spelling i
spelling (instruction.Aarch64 i) = a64_spelling.spelling i
spelling (instruction.Riscv64 i) = rv_spelling.spelling i

-- its text at an address
abbrev pub text_of : ℕ → Instruction → List ℕ
text_of at (instruction.X86_64 i) = x86.text_of at i
text_of at (instruction.Aarch64 i) = a64.text_of at i
text_of at (instruction.Riscv64 i) = rv.text_of at i

-- the bytes begin with an instruction of a target
abbrev pub BeginsWith : Target → List ℕ → Instruction → Type 0
BeginsWith t bytes i = (target_of i ≡ t) × IsInstruction i × (more : List ℕ) × (bytes ≡ spelling i ++ more)

-- the instruction that the bytes begin with, and its length
unfoldable pub front : Target → List ℕ → Option (Instruction × ℕ)
front target.X86_64 bytes = option_map (λ f. (instruction.X86_64 f.0, f.1)) (x86_reading.front_of bytes)
front target.Aarch64 bytes = option_map (λ f. (instruction.Aarch64 f.0, f.1)) (a64_reading.front_of bytes)
front target.Riscv64 bytes = option_map (λ f. (instruction.Riscv64 f.0, f.1)) (rv_reading.front_of bytes)

-- the instructions of bytes, one after another, as far as there are any
abbrev pub begin_with : (ℕ → List Instruction) → Option (Instruction × ℕ) → List Instruction
begin_with rest None = []
begin_with rest (Some found) = found.0 ∷ rest found.1

abbrev pub first_instructions : ℕ → Target → List ℕ → List Instruction
first_instructions zero t bytes = []
first_instructions (suc k) t bytes = begin_with (λ n. first_instructions k t (drop n bytes)) (front t bytes)

abbrev pub instructions : Target → List ℕ → List Instruction
instructions t bytes = first_instructions (length bytes) t bytes
