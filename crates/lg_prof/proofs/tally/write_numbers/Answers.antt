use Rattle.std.proofs.Common.{◌≡◌, ◌∙◌}
use Rattle.lg_io.specs.Radixes.{digits_in}
use Rattle.lg_io.specs.declared.digits.Radix.TheVariants.{Decimal}
use Rattle.lg_prof.proofs.tally.write_numbers.Goals as goal

pub returns : goal.returns
returns g c =
    let line : c.as_slice.result.now ≡ digits_in Decimal c.args.line = c.as_slice.ensures.value ∙ c.of-line.ensures in
    let ran : c.as_slice-2.result.now ≡ digits_in Decimal c.args.ran = c.as_slice-2.ensures.value ∙ c.of-ran.ensures in
    let spent : c.as_slice-3.result.now ≡ digits_in Decimal c.args.spent = c.as_slice-3.ensures.value ∙ c.of-spent.ensures in
    rw (← line, ← ran, ← spent) c.write_parts.ensures
