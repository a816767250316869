use Rattle.std.proofs.Common.{[], drop}
use Rattle.lg_pre.proofs.EarlyLemmas.{agree_leads, flushes_stop, gives_agree}
use Rattle.lg_pre.proofs.WindowLemmas.{leads_from}
use Rattle.lg_pre.proofs.expander.Expander.give_front.Goals as goal

pub returns-in_err-n : goal.returns-in_err-n
returns-in_err-n c = leads_from c.from_residual.result c.in_err-n.field-0.0 [] [] c.args.self.now _ c.from_residual.ensures.1
    (flushes_stop c.in_err-n.field-0.0 c.args.self.now c.flush_front.new.given c.flush_front.new.work.sum c.requires c.in_err-n.ensures.gives)

pub returns : goal.returns
returns c = rw c.drop_first.ensures (agree_leads c.args.self.now (record c.args.self.now { lines = drop c.in_ok-n.n c.args.self.now.lines; given = c.flush_front.new.given; sum = c.flush_front.new.work.sum })
    (gives_agree c.args.self.now c.in_ok-n.n c.flush_front.new.given c.flush_front.new.work.sum c.requires c.in_ok-n.ensures.gives))
