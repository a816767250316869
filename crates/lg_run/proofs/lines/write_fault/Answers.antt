use Rattle.std.proofs.Common.{◌≡◌, ◌∙◌}
use Rattle.lg_base.specs.Faults.{name_of_fault}
use Rattle.lg_io.specs.Radixes.{digits_in}
use Rattle.lg_io.specs.declared.digits.Radix.TheVariants.{Decimal, Hexadecimal}
use Rattle.lg_run.proofs.lines.write_fault.Goals as goal

pub returns : goal.returns
returns g c =
    let name : c.as_bytes.result.now ≡ name_of_fault c.args.kind = c.as_bytes.ensures.value ∙ c.name.ensures in
    let pc : c.as_slice.result.now ≡ digits_in Hexadecimal c.args.pc = c.as_slice.ensures.value ∙ c.of-pc.ensures in
    let steps : c.as_slice-2.result.now ≡ digits_in Decimal c.args.steps = c.as_slice-2.ensures.value ∙ c.of-steps.ensures in
    rw (← name, ← pc, ← steps) c.write_parts.ensures
