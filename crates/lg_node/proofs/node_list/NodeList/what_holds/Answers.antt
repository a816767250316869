use Rattle.std.proofs.Common.{◌≡◌, true, subst}
use Rattle.std.specs.List.{All}
use Rattle.std.proofs.lemmas.List.Elements.{All-map}
use Rattle.lg_node.specs.Nodes.{LabelledNodes, is_word}
use Rattle.lg_node.proofs.node_list.NodeList.what_holds.Goals as goal

pub returns-clause-words : goal.returns-clause-words
returns-clause-words c =
    let P : LabelledNodes → Type 0 = λ l. All (λ w. is_word w ≡ true) l.words in
    subst P c.self.view_is (All-map (λ w. is_word w ≡ true) (λ w. w.items) c.self.inside.words.keys c.self.invariant.worded)
