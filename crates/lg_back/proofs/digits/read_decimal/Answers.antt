use Rattle.std.proofs.Common.{◌≡◌, ℕ, ◌≤◌, true, Some, get_or, take, ap, sym, ◌∙◌, arith}
use Rattle.std.specs.Char.{is_ascii_digit}
use Rattle.std.specs.Str.Parse.{digits_value}
use Rattle.lg_back.proofs.WordLemmas.{digits-below, digit-there, digit-told, digits-more, digits-all}
use Rattle.lg_back.proofs.digits.read_decimal.Goals as goal

pub returns-then-number-from : goal.returns-then-number-from
returns-then-number-from c n lt e =
    let below : digits_value 10 (take c.loop-byte.byte-index c.args.text.now) ≤ n = digits-below c.args.text.now c.loop-byte.byte-index n (omega arith) e in
    absurd (omega (arith, below, c.loop-byte.invariant, c.if-number-from.true, c.from.ensures))

pub returns-then-not-is_ascii_digit : goal.returns-then-not-is_ascii_digit
returns-then-not-is_ascii_digit c n lt e =
    let told : is_ascii_digit (get_or c.args.text.now c.loop-byte.byte-index 0) ≡ true = digit-told _ (digit-there c.args.text.now c.loop-byte.byte-index n (omega arith) e c.loop-byte-test.true) in
    cc (told, c.is_ascii_digit.ensures.value, c.if-not-is_ascii_digit.true)

pub loop-byte-preserved : goal.loop-byte-preserved
loop-byte-preserved c =
    let told : is_ascii_digit (get_or c.args.text.now c.loop-byte.byte-index 0) ≡ true = sym c.is_ascii_digit.ensures.value ∙ c.if-not-is_ascii_digit.false in
    let more = digits-more c.args.text.now c.loop-byte.byte-index c.loop-byte-test.true told in
    omega (arith, more, c.loop-byte.invariant, c.from-in-loop-byte.ensures)

pub returns-then-number-from-2 : goal.returns-then-number-from-2
returns-then-number-from-2 c n lt e =
    let all : digits_value 10 (take c.loop-byte.byte-index c.args.text.now) ≡ n = digits-all c.args.text.now c.loop-byte.byte-index n (omega arith) e c.loop-byte-test.false in
    absurd (omega (arith, all, c.loop-byte.invariant, c.if-number-from-2.true, c.from-2.ensures))

pub returns-else-number-from-2 : goal.returns-else-number-from-2
returns-else-number-from-2 c n lt e =
    let all : digits_value 10 (take c.loop-byte.byte-index c.args.text.now) ≡ n = digits-all c.args.text.now c.loop-byte.byte-index n (omega arith) e c.loop-byte-test.false in
    let inv : c.loop-byte.number ≡ digits_value 10 (take c.loop-byte.byte-index c.args.text.now) = c.loop-byte.invariant in
    ap (λ (k : ℕ). Some k) (inv ∙ all)
