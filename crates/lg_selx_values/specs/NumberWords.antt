-- The code of operations on a register and a number that set no carry gives a register its word.
use Rattle.std.specs.Prelude.{◌≡◌, ◌≢◌, ℕ, ◌==◌, ◌||◌, ◌^◌, ◌<◌, Bool, false, List, Some}
use Rattle.lg_op.specs.declared.op.BinaryOp.{BinaryOp}
use Rattle.lg_op.specs.declared.op.BinaryOp.TheVariants as binary
use Rattle.lg_op.specs.declared.op.WideOp.{WideOp}
use Rattle.lg_op.specs.Operators.{binary_value, sets_carry, wide_value}
use Rattle.lg_temp.specs.declared.choice.Choice.{Choice}
use Rattle.lg_carry.specs.Nodes.Straight.{is_taken}
use Rattle.lg_carry.specs.Values.Computers.{Held}
use Rattle.lg_selx_values.specs.BinaryCode.{number_form_code}
use Rattle.lg_selx_values.specs.WideCode.{wide_number_code}
use Rattle.lg_selx_values.specs.WordLaws.{IsInFrame}
use Rattle.lg_selx_values.specs.Words.{MakesWord, MakesPair}

-- the registers that the code spoils, besides that of its result
abbrev pub number_spoils : BinaryOp → ℕ → Bool
number_spoils binary.Div r = (r == 0) || (r == 2)
number_spoils binary.DivU r = (r == 0) || (r == 2)
number_spoils binary.Rem r = (r == 0) || (r == 2)
number_spoils binary.RemU r = (r == 0) || (r == 2)
number_spoils o r = false

abbrev pub NumbersAreMade : Type 0
NumbersAreMade =
    (choices : List Choice) (frame d a v : ℕ) (q : Held) → d ≢ 5 → d ≢ 4 → v < 2 ^ 64 → IsInFrame frame q
    → (o : BinaryOp) (z : ℕ) → sets_carry o ≡ false → ((r : ℕ) → is_taken choices r ≡ false → r ≢ d → number_spoils o r ≡ false)
    → binary_value o (q.registers a) v ≡ Some z → MakesWord choices (number_form_code o frame d a v) d z q

-- and that of an operation on a register and a number with two results gives two registers theirs
abbrev pub WideNumbersAreMade : Type 0
WideNumbersAreMade =
    (choices : List Choice) (frame d e a v : ℕ) (q : Held) → d ≢ e → d ≢ 2 → e ≢ 2 → d ≢ 5 → e ≢ 5 → d ≢ 4 → e ≢ 4 → v < 2 ^ 64 → IsInFrame frame q
    → ((r : ℕ) → is_taken choices r ≡ false → r ≢ d → r ≢ e → ((r == 0) || (r == 2)) ≡ false)
    → (o : WideOp) (p : ℕ × ℕ) → wide_value o (q.registers a) v ≡ Some p → MakesPair choices (wide_number_code o frame d e a v) d e p q
