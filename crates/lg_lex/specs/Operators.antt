-- The operators of expressions: their symbols, their levels and what they compute, as in C, on signed values of 64 bits that wrap.
use Rattle.std.specs.Prelude.{ℕ, ◌==◌, nat_lt, Bool, not, ◌&&◌, ◌||◌, if◌then◌else◌, ℤ, pos, ◌+ℤ◌, ◌-ℤ◌, ◌*ℤ◌, neg_ℤ, int_lt, int_rem, Option, Some, None, option_map}
use Rattle.std.specs.Int.{w64, cast_unsigned, int_wrap, int_wrapping_div, int_shl, int_shr, int_bit_and, int_bit_or, int_bit_xor, int_bit_not}
use Rattle.lg_lex.specs.declared.operators.Operator.{Operator}
use Rattle.lg_lex.specs.declared.operators.Operator.TheVariants.{Multiply, Divide, Remainder, Add, Subtract, ShiftLeft, ShiftRight, Less, LessEqual, Greater, GreaterEqual, Equal, NotEqual, BitAnd, BitXor, BitOr, And, Or}
use Rattle.lg_lex.specs.declared.operators.Sign.{Sign}
use Rattle.lg_lex.specs.declared.operators.Sign.TheVariants.{Plus, Minus, Complement, Not}

-- how loosely an operator binds: 1 the tightest, 10 the loosest
abbrev pub level_of : Operator → ℕ
level_of Multiply = 1
level_of Divide = 1
level_of Remainder = 1
level_of Add = 2
level_of Subtract = 2
level_of ShiftLeft = 3
level_of ShiftRight = 3
level_of Less = 4
level_of LessEqual = 4
level_of Greater = 4
level_of GreaterEqual = 4
level_of Equal = 5
level_of NotEqual = 5
level_of BitAnd = 6
level_of BitXor = 7
level_of BitOr = 8
level_of And = 9
level_of Or = 10

-- the operators of two bytes: || && == << >> != <= >=
abbrev pub double_symbol : ℕ → ℕ → Option Operator
double_symbol a b =
    if (a == 124) && (b == 124) then Some Or else (if (a == 38) && (b == 38) then Some And
    else (if (a == 61) && (b == 61) then Some Equal else (if (a == 33) && (b == 61) then Some NotEqual
    else (if (a == 60) && (b == 60) then Some ShiftLeft else (if (a == 62) && (b == 62) then Some ShiftRight
    else (if (a == 60) && (b == 61) then Some LessEqual else (if (a == 62) && (b == 61) then Some GreaterEqual else None)))))))

-- the operators of one byte: * / % + - < > & ^ |
abbrev pub single_symbol : ℕ → Option Operator
single_symbol a =
    if a == 42 then Some Multiply else (if a == 47 then Some Divide else (if a == 37 then Some Remainder
    else (if a == 43 then Some Add else (if a == 45 then Some Subtract
    else (if a == 60 then Some Less else (if a == 62 then Some Greater
    else (if a == 38 then Some BitAnd else (if a == 94 then Some BitXor else (if a == 124 then Some BitOr else None)))))))))

-- + - ~ ! before an operand
abbrev pub sign_symbol : ℕ → Option Sign
sign_symbol a =
    if a == 43 then Some Plus else (if a == 45 then Some Minus else (if a == 126 then Some Complement else (if a == 33 then Some Not else None)))

abbrev pub truth : Bool → ℤ
truth b = if b then pos 1 else pos 0

abbrev pub is_zero : ℤ → Bool
is_zero a = cast_unsigned w64 a == 0

-- the same number of bits, or none where it is not 0 to 63
abbrev pub shift_count : ℤ → Option ℕ
shift_count a = let n = cast_unsigned w64 a in if nat_lt n 64 then Some n else None

-- what an operator makes of two values: nothing of a zero divisor or of a shift count outside 0 to 63
abbrev pub binary_value : Operator → ℤ → ℤ → Option ℤ
binary_value Multiply a b = Some (int_wrap w64 (a *ℤ b))
binary_value Divide a b = if is_zero b then None else Some (int_wrapping_div w64 a b)
binary_value Remainder a b = if is_zero b then None else Some (int_rem a b)
binary_value Add a b = Some (int_wrap w64 (a +ℤ b))
binary_value Subtract a b = Some (int_wrap w64 (a -ℤ b))
binary_value ShiftLeft a b = option_map (λ n. int_shl w64 a n) (shift_count b)
binary_value ShiftRight a b = option_map (λ n. int_shr a n) (shift_count b)
binary_value Less a b = Some (truth (int_lt a b))
binary_value LessEqual a b = Some (truth (not (int_lt b a)))
binary_value Greater a b = Some (truth (int_lt b a))
binary_value GreaterEqual a b = Some (truth (not (int_lt a b)))
binary_value Equal a b = Some (truth (cast_unsigned w64 a == cast_unsigned w64 b))
binary_value NotEqual a b = Some (truth (not (cast_unsigned w64 a == cast_unsigned w64 b)))
binary_value BitAnd a b = Some (int_bit_and w64 a b)
binary_value BitXor a b = Some (int_bit_xor w64 a b)
binary_value BitOr a b = Some (int_bit_or w64 a b)
binary_value And a b = Some (truth (not (is_zero a) && not (is_zero b)))
binary_value Or a b = Some (truth (not (is_zero a) || not (is_zero b)))

-- what a sign makes of a value
abbrev pub unary_value : Sign → ℤ → ℤ
unary_value Plus a = a
unary_value Minus a = int_wrap w64 (neg_ℤ a)
unary_value Complement a = int_bit_not w64 a
unary_value Not a = truth (is_zero a)
