-- `prolog`: the stack pointer falls by the size of the frame, or first by this much of it that the frame's words lie near; the return address, the caller's
-- frame pointer, those of V0, V1 and V2 that are saved and the register arguments that are read are stored above it, FP is set, and the stack pointer falls
-- by what is left.
use Rattle.std.specs.Prelude.{ℕ, ◌+◌, ◌-◌, ◌/◌, ◌%◌, ◌==◌, ◌&&◌, nat_lt, nat_le, Bool, true, false, if◌then◌else◌, List, [], ◌∷◌, ◌++◌}
use Rattle.lg_base.specs.declared.target.Target.TheVariants.{Aarch64}
use Rattle.lg_a64.specs.declared.instruction.ImmOp.TheVariants.{Addi, Subi}
use Rattle.lg_a64.specs.declared.instruction.Instr.{Instr}
use Rattle.lg_a64.specs.declared.instruction.Instr.TheVariants as instr
use Rattle.lg_a64.specs.declared.instruction.ScaledOp.TheVariants.{Str64}
use Rattle.lg_sela_values.specs.Processor.A64Rows.{frame_pointer, stack_pointer, link}
use Rattle.lg_sel.specs.Control.Stores as stores

-- the registers that a `prolog` stores first: the link, FP and those of V0, V1 and V2, of this many
abbrev pub first_registers : ℕ → List ℕ
first_registers saved = stores.first_registers Aarch64 link saved

-- and from word 5 on those of the first arguments, of this many
abbrev pub home_registers : ℕ → List ℕ
home_registers homes = stores.home_registers Aarch64 homes

-- one is stored in word k below the caller's stack pointer, where the stack pointer has fallen by this many bytes, a multiple of 8: the row counts words
abbrev pub store_word : ℕ → ℕ → ℕ → Instr
store_word first r k = instr.Scaled Str64 r stack_pointer (first / 8 - (1 + k))

-- each is stored below the one before, from word k on
abbrev pub stores_below : ℕ → List ℕ → ℕ → List Instr
stores_below first rs k = stores.stores_below (store_word first) rs k

-- the stack pointer falls by this many bytes, of less than 2 ^ 24: where it is no number of 12 bits by whole multiples of 4,096, and then by what is left
abbrev pub fall_code : ℕ → List Instr
fall_code n =
    if nat_lt n 4096 then instr.Imm Subi stack_pointer stack_pointer n false ∷ []
    else instr.Imm Subi stack_pointer stack_pointer (n / 4096 % 4096) true ∷ instr.Imm Subi stack_pointer stack_pointer (n % 4096) false ∷ []

-- this much of a frame, with its words, and then what is left
abbrev pub framed_code : ℕ → ℕ → ℕ → List Instr → List Instr
framed_code saved first homes rest =
    instr.Imm Subi stack_pointer stack_pointer first false
    ∷ (stores_below first (first_registers saved) 0
    ++ (stores_below first (home_registers homes) 5 ++ (instr.Imm Addi frame_pointer stack_pointer (first - 16) false ∷ rest)))

-- a frame of at most 2,048 bytes, in whole words, is made at once, and another in two falls
abbrev pub is_near : ℕ → Bool
is_near size = nat_le size 2048 && (size % 8 == 0)

-- where this many of V0, V1 and V2 are saved, with this many homes
abbrev pub prolog_code : ℕ → ℕ → ℕ → List Instr
prolog_code saved size homes = if is_near size then framed_code saved size homes [] else framed_code saved 112 homes (fall_code (size - 112))
