use Rattle.std.proofs.Common.{◌≡◌, Some, sym, ap, ◌∙◌}
use Rattle.std.specs.Prelude.{max, slice_get}
use Rattle.std.proofs.lemmas.Option.{get_or_from_slice_get}
use Rattle.lg_asm.specs.Lowered.{saves_by}
use Rattle.lg_asm.specs.NodeChoices.{set_after}
use Rattle.lg_asm.proofs.SavesLemmas.{none, one-more}
use Rattle.lg_asm.proofs.saves.frame_saves.Goals as goal

pub nodes-init : goal.nodes-init
nodes-init c = none c.args.nodes.now.nodes c.args.live.now

pub nodes-preserved : goal.nodes-preserved
nodes-preserved c =
    let sets = c.args.live.now in
    let i = c.nodes.index in
    let set : c.after.result ≡ set_after sets i =
    sym (get_or_from_slice_get sets.behind i c.after.result (record { 0 = 0 }) (sym c.after.ensures)) in
    let own = c.saves_by.ensures.value ∙ ap (saves_by (Some c.node.result)) set ∙ ap (λ o. saves_by o (set_after sets i)) c.node.ensures.node in
    c.larger-saves.ensures ∙ ap (max c.nodes.saves) own ∙ ap (λ k. max k (saves_by (slice_get c.args.nodes.now.nodes i) (set_after sets i))) c.nodes.invariant ∙ sym (one-more c.args.nodes.now.nodes sets i)
