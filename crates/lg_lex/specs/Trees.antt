-- The grammar of expressions: C's trees, how they are spelled, and their values.
use Rattle.std.specs.Prelude.{ℕ, ◌+◌, ◌-◌, ◌≤◌, ◌≡◌, max, if◌then◌else◌, ℤ, List, drop, slice_index, Option, Some, option_map, option_and_then}
use Rattle.std.specs.Int.{w64, cast_signed}
use Rattle.lg_lex.specs.Blanks.{after_blanks}
use Rattle.lg_lex.specs.Expressions.{literal_at, symbol_at}
use Rattle.lg_lex.specs.Operators.{level_of, sign_symbol, is_zero, binary_value, unary_value}
use Rattle.lg_lex.specs.declared.numbers.Literal.{Literal}
use Rattle.lg_lex.specs.declared.operators.Operator.{Operator}
use Rattle.lg_lex.specs.declared.operators.Sign.{Sign}

-- a number or a character, an expression in parentheses, a sign and its operand, two operands and their operator, a conditional
pub data Tree : Type 0 where
  literal : Literal → Tree
  parens : Tree → Tree
  unary : Sign → Tree → Tree
  binary : Operator → Tree → Tree → Tree
  conditional : Tree → Tree → Tree → Tree

-- the value of an expression, where each of its operands has one; a literal above 2^63 - 1 wraps
abbrev pub value_of : Tree → Option ℤ
value_of (literal l) = Some (cast_signed w64 l.value)
value_of (parens tree) = value_of tree
value_of (unary sign tree) = option_map (unary_value sign) (value_of tree)
value_of (binary operator left right) = option_and_then (λ a. option_and_then (binary_value operator a) (value_of right)) (value_of left)
value_of (conditional test first second) =
    option_and_then (λ a. option_and_then (λ b. option_map (λ c. if is_zero a then c else b) (value_of second)) (value_of first)) (value_of test)

-- the height of an expression, in parentheses, signs and conditionals
abbrev pub levels_of : Tree → ℕ
levels_of (literal l) = 0
levels_of (parens tree) = 1 + levels_of tree
levels_of (unary sign tree) = 1 + levels_of tree
levels_of (binary operator left right) = max (levels_of left) (levels_of right)
levels_of (conditional test first second) = 1 + max (levels_of test) (max (levels_of first) (levels_of second))

-- the bytes between two places spell a tree, the blanks after it included. The level says what may be there:
-- 0 an operand, 1 to 10 the operators up to that level, 11 every expression. Operators of one level group to the left, conditionals to the right
abbrev pub Spells : List ℕ → ℕ → Tree → ℕ → ℕ → Type 0
Spells bytes level (literal l) from to = (literal_at (drop from bytes) ≡ Some l) × (to ≡ after_blanks bytes (from + l.len))
Spells bytes level (parens tree) from to =
    (slice_index bytes from ≡ 40) × (end : ℕ) × Spells bytes 11 tree (after_blanks bytes (from + 1)) end
    × (slice_index bytes end ≡ 41) × (to ≡ after_blanks bytes (end + 1))
Spells bytes level (unary sign tree) from to =
    (sign_symbol (slice_index bytes from) ≡ Some sign) × Spells bytes 0 tree (after_blanks bytes (from + 1)) to
Spells bytes level (binary operator left right) from to =
    (level_of operator ≤ level) × (end : ℕ) × Spells bytes (level_of operator) left from end
    × (n : ℕ) × (symbol_at bytes end ≡ Some (operator, n)) × Spells bytes (level_of operator - 1) right (after_blanks bytes (end + n)) to
Spells bytes level (conditional test first second) from to =
    (11 ≤ level) × (end : ℕ) × Spells bytes 10 test from end × (slice_index bytes end ≡ 63)
    × (mid : ℕ) × Spells bytes 11 first (after_blanks bytes (end + 1)) mid × (slice_index bytes mid ≡ 58)
    × Spells bytes 11 second (after_blanks bytes (mid + 1)) to

-- bytes that begin with $( have an expression of this many bytes and of this value in front: $(, blanks, a tree of at most 64 levels, and )
pub record IsExpression (bytes : List ℕ) (len : ℕ) (value : ℤ) : Type 0 where
  pub tree : Tree
  pub end : ℕ
  pub spelled : Spells bytes 11 tree (after_blanks bytes 2) end
  pub closed : slice_index bytes end ≡ 41
  pub len_is : len ≡ end + 1
  pub value_is : value_of tree ≡ Some value
  pub low : levels_of tree ≤ 64
