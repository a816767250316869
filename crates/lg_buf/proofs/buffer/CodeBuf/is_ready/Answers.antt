use Rattle.std.proofs.Common.{subst}
use Rattle.std.specs.Prelude.{◌↔◌, IsTrue}
use Rattle.std.specs.List.{All}
use Rattle.lg_buf.specs.Buffers.{IsReady}
use Rattle.lg_buf.proofs.buffer.CodeBuf.is_ready.Goals as goal

pub returns : goal.returns
returns c = rw (← c.self.view_is)
    (subst (λ labels. IsTrue c.are_ready.result ↔ All (IsReady labels) c.self.inside.fixes.items) c.as_slice.ensures.value
    (subst (λ fixes. IsTrue c.are_ready.result ↔ All (IsReady c.as_slice.result.now) fixes) c.as_slice-2.ensures.value c.are_ready.ensures))
