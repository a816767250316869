use Rattle.lg_asm.proofs.ListLemmas.{code_addressed}
use Rattle.lg_asm.proofs.code.Code.list.Goals as goal

pub list-requires-clause-addressed : goal.list-requires-clause-addressed
list-requires-clause-addressed g c = rw (c.nodes.ensures, c.labels.ensures, c.places.ensures) (code_addressed c.args.self.now c.target.ensures.code)
