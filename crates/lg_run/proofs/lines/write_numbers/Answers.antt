use Rattle.std.proofs.Common.{◌≡◌, ◌∙◌}
use Rattle.lg_io.specs.Radixes.{digits_in}
use Rattle.lg_io.specs.declared.digits.Radix.TheVariants.{Decimal}
use Rattle.lg_run.proofs.lines.write_numbers.Goals as goal

pub returns : goal.returns
returns g c =
    let bytes : c.as_slice.result.now ≡ digits_in Decimal c.args.bytes = c.as_slice.ensures.value ∙ c.of-bytes.ensures in
    let nodes : c.as_slice-2.result.now ≡ digits_in Decimal c.args.nodes = c.as_slice-2.ensures.value ∙ c.of-nodes.ensures in
    let spills : c.as_slice-3.result.now ≡ digits_in Decimal c.args.spills = c.as_slice-3.ensures.value ∙ c.of-spills.ensures in
    let steps : c.as_slice-4.result.now ≡ digits_in Decimal c.args.steps = c.as_slice-4.ensures.value ∙ c.of-steps.ensures in
    rw (← bytes, ← nodes, ← spills, ← steps) c.write_parts.ensures
