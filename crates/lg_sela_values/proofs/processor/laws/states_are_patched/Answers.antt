use Rattle.lg_sela_values.proofs.OfProcessor.TouchLemmas.{states-are-patched}
use Rattle.lg_sela_values.proofs.processor.laws.states_are_patched.Goals as goal

pub returns : goal.returns
returns c = states-are-patched
