-- The memory at the start of a run.
use Rattle.std.specs.Prelude.{ℕ, ◌+◌, ◌&&◌, nat_lt, nat_le, List, Option, Some, None, IsTrue, if◌then◌else◌}
use Rattle.lg_base.specs.Spaces.{readable}
use Rattle.lg_base.specs.Parts.{data_base, args_base, heap_base, stack_base, in_part}

-- the data part and the argument part as they are given, and zeros in heap and stack
abbrev pub start_bytes : List ℕ → List ℕ → ℕ → Option ℕ
start_bytes image args a =
    in_part data_base image a (in_part args_base args a
    (if nat_le heap_base a && nat_lt a (heap_base + 0x400000) then Some 0
    else if nat_le stack_base a && nat_lt a (stack_base + 0x100000) then Some 0
    else None))

-- a memory has room for them: what can be read at that start can be read in it
abbrev pub HasRoom : (ℕ → Option ℕ) → (image args : List ℕ) → Type 0
HasRoom bytes image args = (a : ℕ) → IsTrue (readable (start_bytes image args) a) → IsTrue (readable bytes a)
