use Rattle.lg_prof.specs.Counts.{has_meant, meant_line}
use Rattle.lg_prof.proofs.CountLemmas.{meant_below}
use Rattle.lg_prof.proofs.SumLemmas.{adds_up}
use Rattle.lg_prof.proofs.laws.counts_add_up.Goals as goal

pub returns : goal.returns
returns c = λ nodes meaning top k some below. adds_up (has_meant meaning) (meant_line nodes meaning) top (λ n made. meant_below nodes meaning top n some below) k
