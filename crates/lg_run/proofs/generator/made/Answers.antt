use Rattle.lg_run.specs.Made.{calls, functions, head, made, main_end, main_head}
use Rattle.lg_run.proofs.RowLemmas.{five}
use Rattle.lg_run.proofs.generator.made.Goals as goal

pub returns : goal.returns
unfolding made
returns c =
    five _ _ _ _ _ _ head (functions 18 0 c.args.seed) main_head (calls 18 0) main_end c.new-text.ensures c.in_ok-push_row.ensures c.in_ok-push_functions.ensures
    c.in_ok-push_row-2.ensures c.in_ok-push_calls.ensures c.in_ok-push_row-3.ensures
