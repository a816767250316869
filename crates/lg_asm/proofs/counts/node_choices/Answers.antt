use Rattle.std.proofs.Common.{◌≡◌, Bool, List, Some, subst}
use Rattle.lg_live.specs.RegSets.{has}
use Rattle.lg_sel.specs.Selected.{first_arguments}
use Rattle.lg_temp.specs.Chosen.{around, choices_of}
use Rattle.lg_temp.specs.declared.choice.Need.{Need}
use Rattle.lg_asm.proofs.counts.node_choices.Goals as goal

pub returns : goal.returns
returns c =
    let Chosen : List Bool → List Need → Type 0 = λ staged needs. choices_of (around c.args.target c.args.node.now (has c.args.live_after) staged) needs ≡ Some c.choices_for.result in
    subst (λ needs. Chosen (first_arguments c.args.passed) needs) c.needs.ensures (subst (λ staged. Chosen staged c.needs.result) c.first.ensures c.choices_for.ensures)
