use Rattle.std.proofs.Common.{◌≡◌, ◌+◌, ◌*◌, ℕ, ap, ap₂, ◌∙◌}
use Rattle.std.specs.Char.{digit_value}
use Rattle.lg_lex.proofs.DigitLemmas.{digit_or, sum_narrowed, product_wide}
use Rattle.lg_lex.proofs.numbers.with_digit.Goals as goal

pub returns : goal.returns
returns c =
    let digit : c.from-3.result ≡ digit_value c.args.b = c.from-3.ensures ∙ c.unwrap_or-digit.ensures ∙ digit_or c.args.b c.to_digit.result (rw c.from.ensures at c.to_digit.ensures.value) in
    let product : c.in_ok-checked_mul.field-0 ≡ c.args.value * c.args.radix = c.in_ok-checked_mul.ensures.1 ∙ ap (λ (r : ℕ). c.args.value * r) c.from-2.ensures in
    sum_narrowed c.checked_add.result _ _ c.checked_add.ensures (ap₂ (λ (a : ℕ) (b : ℕ). a + b) product digit)

pub returns-in_err-checked_mul : goal.returns-in_err-checked_mul
returns-in_err-checked_mul c = c.from_residual.ensures ∙ product_wide c.args.value c.from-2.result c.args.radix (digit_value c.args.b) c.in_err-checked_mul.ensures c.from-2.ensures
