use Rattle.std.proofs.Common.{◌≤◌, length, sym, subst}
use Rattle.lg_base.specs.Arguments.{most_args}
use Rattle.lg_run.specs.Says.{ReadsFile}
use Rattle.lg_run.proofs.work.see_file.Goals as goal

pub returns : goal.returns
returns c none = none (subst ReadsFile (sym c.requires.file) tt) (subst (λ a. length a ≤ most_args) c.requires.args c.requires.args_size)
