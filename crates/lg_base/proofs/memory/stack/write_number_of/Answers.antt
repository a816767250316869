use Rattle.std.proofs.Common.{◌≡◌, ◌+◌, ◌-◌, ◌/◌, ◌%◌, sym, ap, ◌∙◌, arith}
use Rattle.std.specs.Prelude.{slice_index}
use Rattle.lg_base.specs.Held.{turned}
use Rattle.lg_base.specs.Spaces.{written}
use Rattle.lg_base.proofs.HeldLemmas.{turned-set}
use Rattle.lg_base.proofs.SpaceLemmas.{written-none, written-step}
use Rattle.lg_base.proofs.memory.stack.write_number_of.Goals as goal

pub loop-i-preserved : goal.loop-i-preserved
loop-i-preserved c =
    let i = c.loop-i.invariant in
    let at = c.args.at + c.loop-i.i in
    let next : c.args.at + (c.loop-i.i + 1) ≡ at + 1 = omega arith in
    let set = turned-set 0x100000 c.loop-i.held at (c.loop-i.rest % 256) (omega arith) (omega (arith, c.loop-i.auto.held)) in
    ap (λ f. written f (c.args.at + (c.loop-i.i + 1)) (c.args.width - (c.loop-i.i + 1)) (c.loop-i.rest / 256)) set
    ∙ sym (written-step (turned 0x100000 (slice_index c.loop-i.held)) at (c.args.width - c.loop-i.i) (c.args.at + (c.loop-i.i + 1)) (c.args.width - (c.loop-i.i + 1)) c.loop-i.rest next (omega arith))
    ∙ i

pub returns : goal.returns
returns c = sym (written-none (turned 0x100000 (slice_index c.loop-i.held)) (c.args.at + c.loop-i.i) (c.args.width - c.loop-i.i) c.loop-i.rest (omega arith)) ∙ c.loop-i.invariant
