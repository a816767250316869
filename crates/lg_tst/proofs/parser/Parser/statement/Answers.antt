use Rattle.std.proofs.Common.{sym, ap, ◌∙◌, Ok}
use Rattle.lg_node.specs.Nodes.{is_word}
use Rattle.lg_tst.specs.Streams.{text_of, without_last}
use Rattle.lg_tst.specs.Units.{State}
use Rattle.lg_tst.proofs.StatementLemmas.{label_mark}
use Rattle.lg_tst.proofs.parser.Parser.statement.Goals as goal

pub label-requires-clause-word : goal.label-requires-clause-word
label-requires-clause-word c =
    let mark = label_mark _ c.args.token.kind c.text_of-text.result.now (sym c.statement_of.ensures ∙ c.in-Ok-Label.is ∙ ap (λ s. Ok s) c.in-Ok-Label.field-0-is) in
    ap is_word (c.without_last.ensures ∙ ap without_last c.text_of-text.ensures) ∙ ap (λ (s : State). is_word (without_last (text_of s.source.text c.args.token))) c.self.view_is ∙ c.requires.token.label mark
