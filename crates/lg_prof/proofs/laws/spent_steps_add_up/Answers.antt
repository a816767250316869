use Rattle.std.proofs.Common.{suc}
use Rattle.lg_prof.specs.Spent.{code_line, has_run, line_after}
use Rattle.lg_prof.proofs.SpentLemmas.{after_below}
use Rattle.lg_prof.proofs.SumLemmas.{adds_up}
use Rattle.lg_prof.proofs.laws.spent_steps_add_up.Goals as goal

pub returns : goal.returns
returns c = λ nodes places run top n some below.
    adds_up (has_run run) (λ k. line_after (code_line nodes places) run (suc k)) top (λ k made. after_below nodes places run top some below (suc k)) n
