use Rattle.lg_run.proofs.ListLemmas.{code_addressed}
use Rattle.lg_test_surface.proofs.program.listed.Goals as goal

pub list-requires-clause-addressed : goal.list-requires-clause-addressed
list-requires-clause-addressed g c = rw (c.nodes.ensures, c.labels.ensures, c.places.ensures) (code_addressed c.args.code.now c.target.ensures.code)
