use Rattle.std.proofs.Common.{◌≡◌, ◌+◌, ◌-◌, ◌/◌, ◌%◌, sym, ap, ◌∙◌, arith}
use Rattle.std.specs.Prelude.{slice_index}
use Rattle.lg_base.specs.Spaces.{written}
use Rattle.lg_base.proofs.SpaceLemmas.{written-none, written-step, slice_index-set}
use Rattle.lg_base.proofs.memory.write_number_of.Goals as goal

pub loop-i-preserved : goal.loop-i-preserved
loop-i-preserved c =
    let i = c.loop-i.invariant in
    let at = c.args.at + c.loop-i.i in
    let next : c.args.at + (c.loop-i.i + 1) ≡ at + 1 = omega arith in
    let set = slice_index-set c.loop-i.bytes at (c.loop-i.rest % 256) (omega (arith, c.loop-i.auto.bytes)) in
    ap (λ f. written f (c.args.at + (c.loop-i.i + 1)) (c.args.width - (c.loop-i.i + 1)) (c.loop-i.rest / 256)) set
    ∙ sym (written-step (slice_index c.loop-i.bytes) at (c.args.width - c.loop-i.i) (c.args.at + (c.loop-i.i + 1)) (c.args.width - (c.loop-i.i + 1)) c.loop-i.rest next (omega arith))
    ∙ i

pub returns : goal.returns
returns c = sym (written-none (slice_index c.loop-i.bytes) (c.args.at + c.loop-i.i) (c.args.width - c.loop-i.i) c.loop-i.rest (omega arith)) ∙ c.loop-i.invariant
