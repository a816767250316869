-- What the words of a text name: directives, operations, and floating point.
use Rattle.std.specs.Prelude.{ℕ, ◌==◌, Bool, false, ◌&&◌, ◌||◌, List, [], ◌∷◌, length, slice_index, Option, find, codes}
use Rattle.std.specs.Str.{bytes_eq}
use Rattle.lg_op.specs.Names.{named, names_from}
use Rattle.lg_op.specs.declared.op.Op.{Op}
use Rattle.lg_tst.specs.declared.words.Directive.{Directive}
use Rattle.lg_tst.specs.declared.words.Directive.TheVariants as directive

-- a byte that denotes a floating-point type: f or d
abbrev pub is_float_type : ℕ → Bool
is_float_type b = (b == 102) || (b == 100)

-- a _ comes, and then f or d is all that comes before the end or the next _
abbrev pub begins_float_part : List ℕ → Bool
begins_float_part (a ∷ b ∷ rest) = (a == 95) && (is_float_type b && ((length rest == 0) || (slice_index rest 0 == 95)))
begins_float_part bytes = false

-- f or d is a part of the word after some _ : `addr_f`, `extr_d_f`
unfoldable pub is_float_word : List ℕ → Bool
is_float_word [] = false
is_float_word (b ∷ rest) = begins_float_part (b ∷ rest) || is_float_word rest

abbrev pub directives : List Directive
directives = directive.Data ∷ directive.Code ∷ directive.Char ∷ directive.Short ∷ directive.Int ∷ directive.Long ∷ directive.Size ∷ directive.Align
    ∷ directive.Float ∷ directive.Double ∷ []

abbrev pub directive_word : Directive → List ℕ
directive_word directive.Data = codes ".data"
directive_word directive.Code = codes ".code"
directive_word directive.Char = codes ".c"
directive_word directive.Short = codes ".s"
directive_word directive.Int = codes ".i"
directive_word directive.Long = codes ".l"
directive_word directive.Size = codes ".size"
directive_word directive.Align = codes ".align"
directive_word directive.Float = codes ".f"
directive_word directive.Double = codes ".d"

abbrev pub directive_of : List ℕ → Option Directive
directive_of word = find (λ d. bytes_eq word (directive_word d)) directives

-- the operation that a word names
abbrev pub op_of : List ℕ → Option Op
op_of word = named word (names_from (slice_index word 0))
