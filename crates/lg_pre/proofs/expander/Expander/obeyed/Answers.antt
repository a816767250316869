use Rattle.std.proofs.Common.{sym, ◌∙◌, List}
use Rattle.lg_pre.specs.declared.conditions.Condition.{Condition}
use Rattle.lg_pre.proofs.StopLemmas.{counts_put}
use Rattle.lg_pre.proofs.expander.Expander.obeyed.Goals as goal

pub returns-then-is_skipping : goal.returns-then-is_skipping
returns-then-is_skipping c = rw (sym c.is_skipping.ensures ∙ c.if-is_skipping.true) (counts_put c.skip.result c.skip.new.self _ (λ (next : List Condition). record c.args.self.now { conditions = next }) c.skip.ensures)

pub returns-else-is_skipping : goal.returns-else-is_skipping
returns-else-is_skipping c = rw (sym c.is_skipping.ensures ∙ c.if-is_skipping.false) c.read.ensures
