-- The names that a function makes.
use Rattle.std.specs.Prelude.{ℕ, ◌+◌, ◌-◌, ◌*◌, ◌/◌, ◌%◌, ◌^◌, Bool, List, [], ◌∷◌, ◌++◌, Option, is_some, option_and_then, position, slice_get}
use Rattle.std.specs.Str.{bytes_eq}
use Rattle.lg_op.specs.declared.operand.Operand.{Operand}
use Rattle.lg_op.specs.declared.operand.Operand.TheVariants as operand

-- the names since the last `prolog` in their order, and for each the operand that it denotes: the number of an argument, or the
-- offset of a local; how many arguments and locals there are; and the offset of the last local as a word
pub record FunctionNames : Type 0 where
  pub words : List (List ℕ)
  pub meanings : List Operand
  pub arguments : ℕ
  pub locals : ℕ
  pub lowest : ℕ

-- the locals lie below the 128 bytes that a frame keeps below its pointer
abbrev pub no_names : FunctionNames
no_names = record { words = []; meanings = []; arguments = 0; locals = 0; lowest = 2 ^ 64 - 128 }

abbrev pub place_in : List (List ℕ) → List ℕ → Option ℕ
place_in words word = position (bytes_eq word) words

abbrev pub is_made : FunctionNames → List ℕ → Bool
is_made names word = is_some (place_in names.words word)

abbrev pub meaning_of : FunctionNames → List ℕ → Option Operand
meaning_of names word = option_and_then (slice_get names.meanings) (place_in names.words word)

abbrev pub with_name : FunctionNames → List ℕ → Operand → FunctionNames
with_name names word meaning = record names { words = names.words ++ word ∷ []; meanings = names.meanings ++ meaning ∷ [] }

-- `arg` makes the next argument
abbrev pub with_argument : FunctionNames → List ℕ → FunctionNames
with_argument names word = record (with_name names word (operand.Slot names.arguments)) { arguments = names.arguments + 1 }

-- this many bytes below an offset, rounded up to a multiple of 8
abbrev pub below : ℕ → ℕ → ℕ
below offset size = (offset + (2 ^ 64 - (size + 7) / 8 * 8)) % 2 ^ 64

-- `allocai` makes the next local
abbrev pub with_local : FunctionNames → List ℕ → ℕ → FunctionNames
with_local names word size = let offset = below names.lowest size in
    record (with_name names word (operand.Number offset)) { locals = names.locals + 1; lowest = offset }
