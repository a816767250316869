use Rattle.lg_replacement.proofs.CallLaws.{bodies-filled, calls-replace}
use Rattle.lg_replacement.proofs.laws.calls_replace_names.Goals as goal

pub returns : goal.returns
returns c = record { replaced = calls-replace; filled = bodies-filled }
