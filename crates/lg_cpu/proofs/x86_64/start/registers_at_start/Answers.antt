use Rattle.std.proofs.Common.{◌≡◌, ◌∙◌, ap, arith, length}
use Rattle.std.specs.Prelude.{slice_set}
use Rattle.std.proofs.Math.ListN.{length-set}
use Rattle.lg_base.specs.Spaces.{with_byte}
use Rattle.lg_base.proofs.SpaceLemmas.{slice_index-set}
use Rattle.lg_cpu.proofs.x86_64.start.registers_at_start.Goals as goal

pub returns : goal.returns
returns c =
    let xs = c.trash_registers-registers.result in
    let long = c.trash_registers-registers.ensures.long in
    let one = slice_set xs 6 671088640 in
    let two = slice_set one 7 c.args.count in
    let long1 : length one ≡ 16 = length-set xs 6 671088640 ∙ long in
    let long2 : length two ≡ 16 = length-set one 7 c.args.count ∙ long1 in
    slice_index-set two 4 1073741816 (omega (arith, long2))
    ∙ ap (λ f. with_byte f 4 1073741816)
    (slice_index-set one 7 c.args.count (omega (arith, long1))
    ∙ ap (λ f. with_byte f 7 c.args.count)
    (slice_index-set xs 6 671088640 (omega (arith, long))
    ∙ ap (λ f. with_byte f 6 671088640) c.trash_registers-registers.ensures.registers))
