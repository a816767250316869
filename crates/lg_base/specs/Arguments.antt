-- The argument part: the words of the command, as C's main gets them.
use Rattle.std.specs.Prelude.{◌≡◌, ◌≤◌, ℕ, zero, suc, ◌+◌, ◌*◌, ◌/◌, ◌==◌, List, [], ◌∷◌, ◌++◌, length, take, drop, map, string_bytes, String, if◌then◌else◌}
use Rattle.std.specs.Int.{w64, to_le_bytes, from_le_bytes}
use Rattle.std.specs.declared.alloc.Global.{Global}
use Rattle.lg_base.specs.Parts.{args_base}
use Rattle.lg_base.specs.declared.refusal.Refusal.{Refusal}
use Rattle.lg_base.specs.declared.refusal.RefusalKind.TheVariants.{ArgsTooLong}

-- the texts of strings
abbrev pub texts_of : List (String Global) → List (List ℕ)
texts_of words = map string_bytes words

-- the strings, each ended by a zero byte, without gaps
abbrev pub strings : List (List ℕ) → List ℕ
strings [] = []
strings (w ∷ ws) = w ++ 0 ∷ strings ws

-- words that point to the strings, the first of which is at an address
abbrev pub pointers : ℕ → List (List ℕ) → List ℕ
pointers address [] = []
pointers address (w ∷ ws) = to_le_bytes w64 address ++ pointers (address + (length w + 1)) ws

-- a word for each string, which are after them and a word of 0
abbrev pub first_words : List (List ℕ) → List ℕ
first_words words = pointers (args_base + 8 * (length words + 1)) words

-- a word for each string, a word of 0, and the strings
abbrev pub args_of : List (List ℕ) → List ℕ
args_of words = first_words words ++ to_le_bytes w64 0 ++ strings words

-- the argument part has at most this many bytes
abbrev pub most_args : ℕ
most_args = 0x100000

-- the refusal of words that do not fit
abbrev pub args_too_long : Refusal
args_too_long = record { kind = ArgsTooLong; line = 0 }

-- how many of the first n words of 8 bytes are before the first that is 0
unfoldable pub words_before_zero : ℕ → List ℕ → ℕ
words_before_zero zero bytes = 0
words_before_zero (suc n) bytes = if from_le_bytes w64 (take 8 bytes) == 0 then 0 else suc (words_before_zero n (drop 8 bytes))

-- the number of strings of an argument part: its pointers are not 0, and a word of 0 follows them
abbrev pub argument_count : List ℕ → ℕ
argument_count args = words_before_zero (length args / 8) args

-- that number is the number of the words that the argument part is made of
abbrev pub CountsArguments : Type 0
CountsArguments = (words : List (List ℕ)) → length (args_of words) ≤ most_args → argument_count (args_of words) ≡ length words
