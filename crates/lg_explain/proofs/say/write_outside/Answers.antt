use Rattle.std.proofs.Common.{◌≡◌, ap, ◌∙◌}
use Rattle.lg_io.specs.Radixes.{digits_in}
use Rattle.lg_io.specs.declared.digits.Radix.TheVariants.{Decimal, Hexadecimal}
use Rattle.lg_explain.proofs.say.write_outside.Goals as goal

pub returns : goal.returns
returns g c =
    let width : c.as_slice.result.now ≡ digits_in Decimal c.args.width = c.as_slice.ensures.value ∙ c.of-width.ensures ∙ ap (digits_in Decimal) c.from.ensures in
    let address : c.as_slice-2.result.now ≡ digits_in Hexadecimal c.args.address = c.as_slice-2.ensures.value ∙ c.of-address.ensures in
    rw (← width, ← address) c.write_two.ensures
