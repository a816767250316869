use Rattle.std.proofs.Common.{◌∙◌, sym, List}
use Rattle.lg_pre.specs.declared.conditions.Condition.{Condition}
use Rattle.lg_pre.proofs.StopLemmas.{counts_from, counts_put, gives_bound}
use Rattle.lg_pre.proofs.expander.Expander.open_if.Goals as goal

pub returns-in_err-chosen : goal.returns-in_err-chosen
returns-in_err-chosen c = rw (sym c.is_full.ensures ∙ c.if-is_full.false) (counts_from c.from_residual.result c.in_err-chosen.field-0.0 _ _ c.from_residual.ensures.1 (gives_bound c.in_err-chosen.field-0.0 _ _ _ c.in_err-chosen.ensures))

pub returns : goal.returns
returns c = rw (sym c.is_full.ensures ∙ c.if-is_full.false, c.in_ok-chosen.ensures)
    (counts_put c.open.result c.open.new.self _ (λ (next : List Condition). record c.args.self.now { conditions = next; sum = c.asks.new.sum }) (rw (sym c.is_full.ensures ∙ c.if-is_full.false) at c.open.ensures))
