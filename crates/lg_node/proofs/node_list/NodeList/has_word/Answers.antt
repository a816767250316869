use Rattle.std.proofs.Common.{ap, sym, ◌∙◌}
use Rattle.lg_node.specs.Nodes.{LabelledNodes}
use Rattle.lg_node.specs.Unused.{is_mentioned}
use Rattle.lg_node.proofs.NodeListLemmas.{any-map}
use Rattle.lg_node.proofs.node_list.NodeList.has_word.Goals as goal

pub returns : goal.returns
returns c = c.contains.ensures ∙ sym (any-map (λ v. v.items) c.args.word.now c.self.inside.words.keys) ∙ ap (λ (l : LabelledNodes). is_mentioned l.words c.args.word.now) c.self.view_is
