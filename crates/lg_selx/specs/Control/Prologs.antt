-- `prolog`: the call has pushed the return address; the caller's frame pointer goes below it, FP is set to that word, those of V0, V1 and V2 that are saved
-- and the register arguments that are read go below, and the stack pointer falls by the size of the frame.
use Rattle.std.specs.Prelude.{ℕ, ◌-◌, ◌*◌, ℤ, negsuc, List, [], ◌∷◌, ◌++◌}
use Rattle.lg_base.specs.declared.target.Target.TheVariants.{X86_64}
use Rattle.lg_x86.specs.declared.instruction.Instr.{Instr}
use Rattle.lg_x86.specs.declared.instruction.Instr.TheVariants as instr
use Rattle.lg_x86.specs.declared.instruction.LoadOp.TheVariants.{Lea}
use Rattle.lg_x86.specs.declared.instruction.StoreOp.TheVariants.{St64}
use Rattle.lg_sel.specs.Control.Stores.{kept_registers, home_registers}
use Rattle.lg_sel.specs.Control.Stores as stores

-- a register is stored by FP in word k below the caller's stack pointer; word 1 is that at FP
abbrev pub store_word : ℕ → ℕ → Instr
store_word r k = instr.Store St64 5 (negsuc (8 * k - 9)) r

-- each is stored below the one before, from word k on
abbrev pub stores_below : List ℕ → ℕ → List Instr
stores_below rs k = stores.stores_below store_word rs k

-- this many of V0, V1 and V2 are stored from word 2 on, and this many homes from word 5 on
abbrev pub stored_code : ℕ → ℕ → List Instr
stored_code saved homes = stores_below (kept_registers X86_64 saved) 2 ++ stores_below (home_registers X86_64 homes) 5

-- how far the stack pointer, rsp, 4, lies from FP, rbp, 5, in a frame of this many bytes
abbrev pub lower : ℕ → ℤ
lower frame = negsuc (frame - 17)

abbrev pub lowered : ℕ → List Instr
lowered frame = instr.Load Lea 4 5 (lower frame) ∷ []

-- which saves this many, with a frame of this many bytes and this many homes
abbrev pub prolog_code : ℕ → ℕ → ℕ → List Instr
prolog_code saved size homes =
    instr.Store St64 4 (negsuc 7) 5 ∷ (instr.Load Lea 5 4 (negsuc 7) ∷ (stored_code saved homes ++ lowered size))
