use Rattle.std.proofs.Common.{sym, ◌∙◌}
use Rattle.lg_asm.proofs.HomesLemmas.{range}
use Rattle.lg_asm.proofs.homes.stored_homes.Goals as goal

pub homes_of-requires-clause-order : goal.homes_of-requires-clause-order
homes_of-requires-clause-order c =
    (range c.args.list.now c.args.shape.now c.requires.shape c.args.index c.in-Some.function c.entry.result c.last.result
    (sym c.in-Some.is ∙ c.function_of.ensures.value) c.entry.ensures c.last.ensures).0

pub homes_of-requires-clause-within : goal.homes_of-requires-clause-within
homes_of-requires-clause-within c =
    (range c.args.list.now c.args.shape.now c.requires.shape c.args.index c.in-Some.function c.entry.result c.last.result
    (sym c.in-Some.is ∙ c.function_of.ensures.value) c.entry.ensures c.last.ensures).1
