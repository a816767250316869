use Rattle.lg_sela_values.proofs.OfProcessor.RowLemmas.{are-rows}
use Rattle.lg_sela_values.proofs.processor.laws.instructions_are_rows.Goals as goal

pub returns : goal.returns
returns c = are-rows
