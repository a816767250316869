use Rattle.std.proofs.Common.{◌++◌, ◌∷◌, [], Bool, List, map, sym, ap, ◌∙◌, arith}
use Rattle.std.specs.List.{range_with_len}
use Rattle.std.proofs.lemmas.List.FromFn.{map-range_with_len_more}
use Rattle.lg_node.specs.Labels.{is_taken}
use Rattle.lg_node.proofs.taken.taken_labels.Goals as goal

pub loop-label-preserved : goal.loop-label-preserved
loop-label-preserved c =
    c.in_ok-push.ensures.items
    ∙ ap (λ (xs : List Bool). xs ++ c.is_taken.result ∷ []) c.loop-label.invariant
    ∙ ap (λ (b : Bool). map (is_taken c.args.nodes.now) (range_with_len 0 c.loop-label.label) ++ b ∷ []) c.is_taken.ensures
    ∙ sym (map-range_with_len_more (is_taken c.args.nodes.now) 0 c.loop-label.label c.loop-label.label (omega arith))
