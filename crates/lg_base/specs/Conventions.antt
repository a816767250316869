-- The calling conventions, System V AMD64, AAPCS64 and the integer convention of RISC-V, with registers by their numbers. Which registers correspond to R0,
-- R1, R2, V0, V1, V2 (the numbers 0 to 5) and for the carry is this assembler's choice.
use Rattle.std.specs.Prelude.{ℕ, ◌-◌, List, [], ◌∷◌, length, slice_index, slice_get, Option, Some, None, Bool, nat_eq}
use Rattle.std.specs.List.{list_any}
use Rattle.lg_base.specs.declared.target.Target.{Target}
use Rattle.lg_base.specs.declared.target.Target.TheVariants.{X86_64, Aarch64, Riscv64}

-- the registers of the first arguments, in their order; further arguments lie in stack words
abbrev pub argument_registers : Target → List ℕ
argument_registers X86_64 = 7 ∷ 6 ∷ 2 ∷ 1 ∷ 8 ∷ 9 ∷ []
argument_registers Aarch64 = 0 ∷ 1 ∷ 2 ∷ 3 ∷ 4 ∷ 5 ∷ 6 ∷ 7 ∷ []
argument_registers Riscv64 = 10 ∷ 11 ∷ 12 ∷ 13 ∷ 14 ∷ 15 ∷ 16 ∷ 17 ∷ []

-- the register of an argument, and None where it lies in a stack word
abbrev pub argument_register : Target → ℕ → Option ℕ
argument_register target i = slice_get (argument_registers target) i

-- the number of the stack word of an argument that has no register
abbrev pub argument_word : Target → ℕ → ℕ
argument_word target i = i - length (argument_registers target)

abbrev pub result_register : Target → ℕ
result_register X86_64 = 0
result_register Aarch64 = 0
result_register Riscv64 = 10

-- the registers that a call keeps
abbrev pub kept_registers : Target → List ℕ
kept_registers X86_64 = 3 ∷ 4 ∷ 5 ∷ 12 ∷ 13 ∷ 14 ∷ 15 ∷ []
kept_registers Aarch64 = 19 ∷ 20 ∷ 21 ∷ 22 ∷ 23 ∷ 24 ∷ 25 ∷ 26 ∷ 27 ∷ 28 ∷ 29 ∷ 31 ∷ []
kept_registers Riscv64 = 2 ∷ 8 ∷ 9 ∷ 18 ∷ 19 ∷ 20 ∷ 21 ∷ 22 ∷ 23 ∷ 24 ∷ 25 ∷ 26 ∷ 27 ∷ []

abbrev pub is_kept : Target → ℕ → Bool
is_kept target register = list_any (nat_eq register) (kept_registers target)

-- the registers that correspond to R0, R1, R2, V0, V1, V2
abbrev pub portable_registers : Target → List ℕ
portable_registers X86_64 = 0 ∷ 10 ∷ 11 ∷ 3 ∷ 13 ∷ 14 ∷ []
portable_registers Aarch64 = 9 ∷ 10 ∷ 11 ∷ 19 ∷ 20 ∷ 21 ∷ []
portable_registers Riscv64 = 5 ∷ 6 ∷ 7 ∷ 9 ∷ 18 ∷ 19 ∷ []

abbrev pub portable_register : Target → ℕ → ℕ
portable_register target r = slice_index (portable_registers target) r

-- the frame pointer, the stack pointer, and the link, which on x86-64 is on the stack
abbrev pub frame_register : Target → ℕ
frame_register X86_64 = 5
frame_register Aarch64 = 29
frame_register Riscv64 = 8

abbrev pub stack_register : Target → ℕ
stack_register X86_64 = 4
stack_register Aarch64 = 31
stack_register Riscv64 = 2

abbrev pub link_register : Target → Option ℕ
link_register X86_64 = None
link_register Aarch64 = Some 30
link_register Riscv64 = Some 1

-- the register of the carry, where it has one
abbrev pub carry_register : Target → Option ℕ
carry_register X86_64 = None
carry_register Aarch64 = None
carry_register Riscv64 = Some 31
