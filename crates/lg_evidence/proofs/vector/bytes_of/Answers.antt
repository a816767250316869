use Rattle.std.proofs.Common.{ℕ, ◌+◌, ◌*◌, arith, refl, length-append}
use Rattle.lg_evidence.proofs.HexLemmas.{one_more}
use Rattle.lg_evidence.proofs.vector.bytes_of.Goals as goal

pub loop-k-preserved : goal.loop-k-preserved
loop-k-preserved c =
    let high = c.in_ok-digit.ensures in
    let low = c.in_ok-digit-2.ensures in
    (rw c.push.ensures (omega (arith, length-append {A = ℕ})), rw c.push.ensures (one_more c.loop-k.bytes c.as_bytes-digits.result.now c.loop-k.k c.in_ok-digit.field-0 c.in_ok-digit-2.field-0 (c.in_ok-digit.field-0 * 16 + c.in_ok-digit-2.field-0) (omega arith) c.loop-k.invariant.1 high.1 low.1 low.0 refl))
