use Rattle.lg_pre.specs.Expanded.{expanded}
use Rattle.lg_replacement.proofs.ExpansionLemmas.{counts_blames}
use Rattle.lg_pre.proofs.StopLemmas.{reads_from}
use Rattle.lg_pre.proofs.expander.expand_lines.Goals as goal

pub returns-in_err-read_text : goal.returns-in_err-read_text
unfolding expanded
returns-in_err-read_text c = reads_from c.from_residual-in_err-read_text.result c.in_err-read_text.field-0.0 _ c.from_residual-in_err-read_text.ensures.1
    (counts_blames c.in_err-read_text.field-0.0 _ _ _ (rw c.in_ok-expander.ensures at c.in_err-read_text.ensures) (λ fault e. e))
