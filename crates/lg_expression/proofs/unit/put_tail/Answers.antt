use Rattle.lg_expression.proofs.NodeLemmas.{next}
use Rattle.lg_expression.proofs.unit.put_tail.Goals as goal

pub returns : goal.returns
returns c =
    next _ _ _ _ _ c.in_ok-put.ensures
    (next _ _ _ _ _ c.in_ok-put-2.ensures
    (next _ _ _ _ _ c.in_ok-put-3.ensures
    (next _ _ _ _ _ c.in_ok-put-4.ensures
    (next _ _ _ _ _ c.in_ok-put-5.ensures
    (next _ _ _ _ _ c.in_ok-put-6.ensures c.in_ok-put-7.ensures)))))
