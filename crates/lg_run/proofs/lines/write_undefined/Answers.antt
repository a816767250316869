use Rattle.std.proofs.Common.{◌≡◌, ◌∙◌, ap}
use Rattle.lg_io.specs.Radixes.{digits_in}
use Rattle.lg_io.specs.declared.digits.Radix.TheVariants.{Decimal}
use Rattle.lg_run.proofs.lines.write_undefined.Goals as goal

pub returns : goal.returns
returns g c =
    let line : c.as_slice.result.now ≡ digits_in Decimal c.args.line = c.as_slice.ensures.value ∙ c.of-line.ensures ∙ ap (digits_in Decimal) c.from.ensures in
    let steps : c.as_slice-2.result.now ≡ digits_in Decimal c.args.steps = c.as_slice-2.ensures.value ∙ c.of-steps.ensures in
    rw (← line, ← steps) c.write_parts.ensures
