use Rattle.std.proofs.Common.{ap, sym, ◌∙◌}
use Rattle.lg_node.proofs.NodeListLemmas.{any-map}
use Rattle.lg_explain.specs.Twice.{is_made}
use Rattle.lg_explain.proofs.made.Made.has.Goals as goal

pub returns : goal.returns
returns c = c.contains.ensures ∙ sym (any-map (λ v. v.items) c.args.word.now c.self.inside.words.keys) ∙ ap (λ ws. is_made ws c.args.word.now) c.self.view_is
