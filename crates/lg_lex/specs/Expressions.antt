-- How an expression is read: from left to right, its value and levels at once. What an expression is, the grammar of Trees says.
-- Places are those of a list of bytes, and each part that is read ends after the blanks that follow it.
use Rattle.std.specs.Prelude.{ℕ, zero, suc, ◌+◌, max, nat_le, ◌==◌, if◌then◌else◌, ℤ, List, length, drop, slice_index, Option, Some, None, option_map, option_and_then}
use Rattle.std.specs.Int.{w64, cast_signed}
use Rattle.lg_lex.specs.Blanks.{after_blanks}
use Rattle.lg_lex.specs.Escapes.{character_at}
use Rattle.lg_lex.specs.Numbers.{unsigned_at}
use Rattle.lg_lex.specs.Operators.{level_of, double_symbol, single_symbol, sign_symbol, is_zero, binary_value, unary_value}
use Rattle.lg_lex.specs.declared.numbers.Literal.{Literal}
use Rattle.lg_lex.specs.declared.operators.Operator.{Operator}
use Rattle.lg_lex.specs.declared.operators.Sign.{Sign}
use Rattle.lg_lex.specs.declared.expressions.Reading.{Reading}

-- ---- the parts of an expression

-- after one byte at a place, and the blanks that follow it
unfoldable pub after_byte : List ℕ → ℕ → ℕ → Option ℕ
after_byte bytes b place = if slice_index bytes place == b then Some (after_blanks bytes (place + 1)) else None

abbrev pub or_single : ℕ → Option Operator → Option (Operator × ℕ)
or_single a (Some operator) = Some (operator, 2)
or_single a None = option_map (λ operator. (operator, 1)) (single_symbol a)

-- the longest operator at a place, with its length
unfoldable pub symbol_at : List ℕ → ℕ → Option (Operator × ℕ)
symbol_at bytes place = or_single (slice_index bytes place) (double_symbol (slice_index bytes place) (slice_index bytes (place + 1)))

abbrev pub in_level : List ℕ → ℕ → ℕ → Operator × ℕ → Option (Operator × ℕ)
in_level bytes level place found = if level_of found.0 == level then Some (found.0, after_blanks bytes (place + found.1)) else None

-- the operator at a place, where it is one of a level, with the place after it
unfoldable pub operator_at : List ℕ → ℕ → ℕ → Option (Operator × ℕ)
operator_at bytes level place = option_and_then (in_level bytes level place) (symbol_at bytes place)

-- the sign at a place, with the place after it
unfoldable pub sign_at : List ℕ → ℕ → Option (Sign × ℕ)
sign_at bytes place = option_map (λ sign. (sign, after_blanks bytes (place + 1))) (sign_symbol (slice_index bytes place))

-- a number without a sign, or a character
unfoldable pub literal_at : List ℕ → Option Literal
literal_at bytes = if slice_index bytes 0 == 39 then character_at bytes else unsigned_at bytes

-- ---- readers: what is read from a place on

abbrev pub Reader : Type 0
Reader = ℕ → Option Reading

abbrev pub constant : List ℕ → ℕ → Literal → Reading
constant bytes place literal =
    record { value = cast_signed w64 literal.value; levels = 0; end = after_blanks bytes (place + literal.len) }

unfoldable pub constant_at : List ℕ → Reader
constant_at bytes place = option_map (constant bytes place) (literal_at (drop place bytes))

abbrev pub signed : Sign → Reading → Reading
signed sign operand = record { value = unary_value sign operand.value; levels = 1 + operand.levels; end = operand.end }

abbrev pub enclosed : Reading → ℕ → Reading
enclosed inner end = record { value = inner.value; levels = 1 + inner.levels; end = end }

-- an expression in parentheses, from its ) on
unfoldable pub closed : List ℕ → Reading → Option Reading
closed bytes inner = option_map (enclosed inner) (after_byte bytes 41 inner.end)

unfoldable pub unary_by : List ℕ → Reader → Reader → ℕ → Option (Sign × ℕ) → Option Reading
unary_by bytes unary whole place (Some found) = option_map (signed found.0) (unary found.1)
unary_by bytes unary whole place None =
    if slice_index bytes place == 40 then option_and_then (closed bytes) (whole (after_blanks bytes (place + 1)))
    else constant_at bytes place

-- a sign and its operand, an expression in parentheses, a number or a character
unfoldable pub unary_of : List ℕ → Reader → Reader → Reader
unary_of bytes unary whole place = unary_by bytes unary whole place (sign_at bytes place)

abbrev pub paired : Reading → Reading → ℤ → Reading
paired left right value = record { value = value; levels = max left.levels right.levels; end = right.end }

unfoldable pub combined : Operator → Reading → Reading → Option Reading
combined operator left right = option_map (paired left right) (binary_value operator left.value right.value)

abbrev pub joined_by : Reader → Reading → (Reading → Option Reading) → Option (Operator × ℕ) → Option Reading
joined_by operand left more None = Some left
joined_by operand left more (Some found) = option_and_then (λ right. option_and_then more (combined found.0 left right)) (operand found.1)

-- operands joined by the operators of a level, from left to right; fewer than k operators
unfoldable pub joined : List ℕ → Reader → ℕ → ℕ → Reading → Option Reading
joined bytes operand level zero left = None
joined bytes operand level (suc k) left = joined_by operand left (joined bytes operand level k) (operator_at bytes level left.end)

-- the operators up to a level
unfoldable pub binary_of : List ℕ → Reader → ℕ → Reader
binary_of bytes unary zero place = unary place
binary_of bytes unary (suc level) place =
    option_and_then (joined bytes (binary_of bytes unary level) (suc level) (suc (length bytes))) (binary_of bytes unary level place)

-- a conditional of three operands, where it has at most this many levels
unfoldable pub chosen : ℕ → Reading → Reading → Reading → Option Reading
chosen most test first second = let levels = 1 + max test.levels (max first.levels second.levels) in
    if nat_le levels most then Some (record { value = if is_zero test.value then second.value else first.value; levels = levels; end = second.end })
    else None

unfoldable pub chosen_by : List ℕ → Reader → ℕ → Reading → Option ℕ → Option Reading
chosen_by bytes inner most test None = Some test
chosen_by bytes inner most test (Some next) = option_and_then
    (λ first. option_and_then (λ after. option_and_then (chosen most test first) (inner after)) (after_byte bytes 58 first.end))
    (inner next)

-- operators, and where a ? follows a conditional
unfoldable pub whole_of : List ℕ → Reader → Reader → ℕ → Reader
whole_of bytes unary inner most place =
    option_and_then (λ test. chosen_by bytes inner most test (after_byte bytes 63 test.end)) (binary_of bytes unary 10 place)

-- ---- levels

pub record Readers : Type 0 where
  pub unary : Reader
  pub whole : Reader

-- what may be below a parenthesis, a sign or a conditional where this many levels are left: nothing where none is
unfoldable pub readers_in : List ℕ → ℕ → Readers
readers_in bytes zero = record { unary = λ _. None; whole = λ _. None }
readers_in bytes (suc n) = let inner = readers_in bytes n in let unary = unary_of bytes inner.unary inner.whole in
    record { unary = unary; whole = whole_of bytes unary inner.whole n }

unfoldable pub inner_unary : List ℕ → ℕ → Reader
inner_unary bytes n = (readers_in bytes n).unary

unfoldable pub inner_whole : List ℕ → ℕ → Reader
inner_whole bytes n = (readers_in bytes n).whole

-- an operand of at most n levels
unfoldable pub unary_at : List ℕ → ℕ → Reader
unary_at bytes n = unary_of bytes (inner_unary bytes n) (inner_whole bytes n)

-- an expression of at most n levels
unfoldable pub whole_at : List ℕ → ℕ → Reader
whole_at bytes n = whole_of bytes (unary_at bytes n) (inner_whole bytes n) n

unfoldable pub ended : List ℕ → Reading → Option Reading
ended bytes read = if slice_index bytes read.end == 41 then Some read else None

-- the expression of a token that begins with $( : it has at most 64 levels and is followed by )
unfoldable pub expression_at : List ℕ → Option Reading
expression_at bytes = option_and_then (ended bytes) (whole_at bytes 64 (after_blanks bytes 2))
