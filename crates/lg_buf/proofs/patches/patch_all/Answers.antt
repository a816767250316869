use Rattle.std.proofs.Common.{ℕ, get_or, Option, sym, ap, subst, ◌∙◌}
use Rattle.std.specs.Option.{unwrap_or}
use Rattle.lg_buf.specs.declared.fixes.FixKind.TheVariants.{X86Rel8}
use Rattle.lg_buf.specs.declared.fixes.Fix.{Fix}
use Rattle.lg_buf.specs.Fixing.{Fits}
use Rattle.lg_buf.proofs.PatchLemmas.{one_more}
use Rattle.lg_buf.proofs.patches.patch_all.Goals as goal

-- a fix that corresponds to those past the end
abbrev any_fix : Fix
any_fix = record { place = 0; kind = X86Rel8; label = record { 0 = 0 } }

pub bound_place-target-requires-clause-bound : goal.bound_place-target-requires-clause-bound
bound_place-target-requires-clause-bound c = let ready = c.requires.ready c.fixes.fix-index any_fix c.fixes-test.true in (ready.0, ready.1)

pub patch_fitting-requires-clause-fits : goal.patch_fitting-requires-clause-fits
patch_fitting-requires-clause-fits c =
    let n = c.fixes.fix-index in
    let f : Fix = get_or c.args.fixes.now n any_fix in
    let ready = c.requires.ready n any_fix c.fixes-test.true in
    subst (λ t. Fits f.kind f.place t) (ap (λ (o : Option ℕ). unwrap_or o 0) (sym ready.1 ∙ c.bound_place-target.ensures)) ready.2

pub fixes-preserved : goal.fixes-preserved
fixes-preserved c =
    let n = c.fixes.fix-index in (
      one_more c.args.labels.now c.args.fixes.now n c.bound_place-target.result any_fix c.args.store.now.items c.fixes.store.items c.patch_fitting.new.store.items c.fixes-test.true
          (λ d. c.requires.sound.apart n c.fixes-test.true d) c.bound_place-target.ensures c.patch_fitting.ensures.patched c.fixes.invariant.0,
      c.patch_fitting.ensures.size ∙ c.fixes.invariant.1,
    )
