use Rattle.lg_run.proofs.CauseLemmas.{causes}
use Rattle.lg_run.proofs.top.lightning.Goals as goal

pub returns : goal.returns
returns g c = record {
  says = c.answer.ensures.says;
  causes = causes _ _ _ _ _ c.answer.ensures.says;
  once = c.answer.ensures.once;
  unread = c.answer.ensures.unread;
  few = c.answer.ensures.few;
}
