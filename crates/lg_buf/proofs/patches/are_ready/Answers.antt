use Rattle.std.proofs.Common.{◌≡◌, subst, sym, arith, ⊎_elim}
use Rattle.std.specs.Prelude.{slice_index_or}
use Rattle.std.proofs.lemmas.Bool.{cases_lt}
use Rattle.std.proofs.lemmas.List.{get_or_default}
use Rattle.lg_buf.specs.Buffers.{IsReady}
use Rattle.lg_buf.proofs.patches.are_ready.Goals as goal

pub fixes-preserved : goal.fixes-preserved
fixes-preserved c k lt d = ⊎_elim
    (λ below. c.fixes.invariant k below d)
    (λ above.
    let same : k ≡ c.fixes.fix-index = omega (arith, lt, above) in
    subst (λ n. IsReady c.args.labels.now (slice_index_or c.args.fixes.now n d)) (sym same) (subst (IsReady c.args.labels.now) (get_or_default c.args.fixes.now c.fixes.fix-index _ d c.fixes-test.true) (c.is_ready.ensures.0 c.if-not-is_ready.false)))
    (cases_lt k c.fixes.fix-index)
