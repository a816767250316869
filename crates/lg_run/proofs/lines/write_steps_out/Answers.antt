use Rattle.std.proofs.Common.{◌≡◌, ◌∙◌}
use Rattle.lg_io.specs.Radixes.{digits_in}
use Rattle.lg_io.specs.declared.digits.Radix.TheVariants.{Decimal}
use Rattle.lg_run.proofs.lines.write_steps_out.Goals as goal

pub returns : goal.returns
returns g c =
    let steps : c.as_slice.result.now ≡ digits_in Decimal c.args.steps = c.as_slice.ensures.value ∙ c.of-steps.ensures in
    rw (← steps) c.write_parts.ensures
