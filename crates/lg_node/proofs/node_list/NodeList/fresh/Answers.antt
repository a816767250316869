use Rattle.std.proofs.Common.{◌∙◌, ap}
use Rattle.std.specs.Str.{bytes_eq}
use Rattle.lg_node.specs.Nodes.{mentioned, number_of}
use Rattle.lg_node.specs.Unused.{numbered}
use Rattle.lg_node.proofs.UnusedLemmas.{if-ok, on-ok, next-number, new-label}
use Rattle.lg_node.proofs.node_list.NodeList.fresh.Goals as goal

pub returns-in-Some-clause-number : goal.returns-in-Some-clause-number
returns-in-Some-clause-number c =
    let words = c.args.self.now.words in
    let number = ap (number_of words) c.numbered.ensures.value ∙ next-number (bytes_eq (numbered c.in-Some.number)) words c.in-Some.ensures.unused in
    if-ok c.label.result _ _ (λ l e. e ∙ number) c.label.ensures.number

pub returns-in-Some-clause-ok : goal.returns-in-Some-clause-ok
returns-in-Some-clause-ok c =
    let old = c.args.self.now in
    let new = ap (mentioned old) c.numbered.ensures.value ∙ new-label old (numbered c.in-Some.number) c.in-Some.ensures.unused in
    on-ok c.label.result _ _ (λ e. (c.in-Some.number, c.in-Some.ensures, e ∙ new)) c.label.ensures.ok
