use Rattle.std.proofs.Common.{◌≡◌, ◌∙◌, ap, sym, subst, arith, Some}
use Rattle.lg_live.specs.RegSets.{has}
use Rattle.lg_live.specs.declared.reg_set.RegSet.{RegSet}
use Rattle.lg_temp.specs.Chosen.{spills}
use Rattle.lg_asm.specs.NodeChoices.{node_choices}
use Rattle.lg_asm.proofs.CountLemmas.{spills-are, saved-of}
use Rattle.lg_asm.proofs.counts.saved_by.Goals as goal

pub set_after-live_after-requires : goal.set_after-live_after-requires
set_after-live_after-requires c = let i = c.requires.index in let n = c.requires.live in omega (arith, i, n)

pub returns : goal.returns
returns c =
    c.spills.ensures ∙ (sym (spills-are c.as_slice.result.now) ∙ (ap spills c.as_slice.ensures.value
    ∙ saved-of c.args.target c.args.nodes.now.nodes c.args.live.now c.args.index c.args.passed c.node.result c.node_choices-choices.result (sym c.node.ensures.node) c.requires.passed
    (subst (λ (s : RegSet). node_choices c.args.target (has s) c.args.passed c.node.result ≡ Some c.node_choices-choices.result) c.set_after-live_after.ensures c.node_choices-choices.ensures)))
