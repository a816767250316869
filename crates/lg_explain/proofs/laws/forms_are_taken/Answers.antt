use Rattle.lg_explain.proofs.FormsTakenLemmas.{forms_are}
use Rattle.lg_explain.proofs.laws.forms_are_taken.Goals as goal

pub returns : goal.returns
returns c = forms_are
