use Rattle.std.proofs.Common.{refl}
use Rattle.lg_list.proofs.WriteLemmas.{tail_call}
use Rattle.lg_run.proofs.ListLemmas.{first_written}
use Rattle.lg_run.proofs.lines.write_lines.Goals as goal

pub returns-in-Ok : goal.returns-in-Ok
returns-in-Ok g c = tail_call _ _ _ _ _ _ _ _ _ _ (first_written _ _ _ _ _ _ c.in-Ok.ensures.ok c.in-Ok.ensures.cause.kept) refl c.write_line.ensures
