use Rattle.lg_prof.proofs.TableLemmas.{tables}
use Rattle.lg_prof.proofs.laws.tables_have_the_lines.Goals as goal

pub returns : goal.returns
returns c = tables
