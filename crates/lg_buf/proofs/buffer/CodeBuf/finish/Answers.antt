use Rattle.std.proofs.Common.{ℕ, List, Option, sym, ap, subst, ◌∙◌}
use Rattle.std.specs.List.{All}
use Rattle.lg_buf.specs.declared.fixes.Fix.{Fix}
use Rattle.lg_buf.specs.Buffers.{Buffer, IsReady}
use Rattle.lg_buf.proofs.buffer.CodeBuf.finish.Goals as goal

pub patch_all-requires-clause-ready : goal.patch_all-requires-clause-ready
patch_all-requires-clause-ready c =
    let labels = c.as_slice.ensures.value ∙ ap (λ (v : Buffer). v.labels) c.self.view_is in
    let fixes = c.as_slice-2.ensures.value ∙ ap (λ (v : Buffer). v.fixes) c.self.view_is in
    subst (λ (p : List (Option ℕ) × List Fix). All (IsReady p.0) p.1) (λ j. (sym labels j, sym fixes j)) c.requires
