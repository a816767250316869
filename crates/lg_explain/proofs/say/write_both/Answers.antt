use Rattle.lg_explain.proofs.WriteLemmas.{then_wrote}
use Rattle.lg_explain.proofs.say.write_both.Goals as goal

pub returns-in-Ok : goal.returns-in-Ok
returns-in-Ok g c = then_wrote _ _ _ _ _ _ _ _ _ c.in-Ok.ensures.ok c.in-Ok.ensures.cause.kept c.write_said-in-Ok.ensures
