use Rattle.std.proofs.Common.{◌≡◌, ◌++◌, true, length, drop, codes, nat_eq, ap, ap₂, sym, ◌∙◌}
use Rattle.std.specs.List.{starts_with}
use Rattle.lg_node.specs.Nodes.{is_word}
use Rattle.lg_list.specs.Lines.{address, label_line}
use Rattle.lg_back.specs.Words.{until}
use Rattle.lg_back.proofs.InstructionLemmas.{starts-again, starts-front, not-both}
use Rattle.lg_back.proofs.LineLemmas.{label-word, label-found, label-front, label-end, label-length}
use Rattle.lg_back.proofs.entry.read_label.Goals as goal

pub returns-then-not-starts_with-clause-none : goal.returns-then-not-starts_with-clause-none
returns-then-not-starts_with-clause-none c t word h =
    let front : c.as_slice.result.now ≡ address c.args.at ++ codes " " = c.as_slice.ensures.value ∙ c.write_label_front.ensures in
    not-both _ _ c.if-not-starts_with.true c.starts_with.ensures.value (starts-again c.args.text.now c.as_slice.result.now _ (label-front t c.args.at word c.args.text.now h ∙ ap (λ x. x ++ (word ++ (codes ":\n" ++ h.rest))) (sym front)))

pub returns-then-not-is_word-clause-none : goal.returns-then-not-is_word-clause-none
returns-then-not-is_word-clause-none c t word h =
    let same : c.until-word.result.now ≡ word = c.until-word.ensures ∙ ap (until 58) c.behind-rest.ensures ∙ label-word t c.args.at word c.args.text.now h in
    not-both _ _ c.if-not-is_word.true c.is_word.ensures (ap is_word same ∙ h.form)

pub returns-then-starts_with-clause-found : goal.returns-then-starts_with-clause-found
returns-then-starts_with-clause-found c =
    let word = c.until-word.result.now in
    let front : c.as_slice.result.now ≡ address c.args.at ++ codes " " = c.as_slice.ensures.value ∙ c.write_label_front.ensures in
    let begins : c.args.text.now ≡ (address c.args.at ++ codes " ") ++ drop 9 c.args.text.now =
    starts-front c.args.text.now (address c.args.at ++ codes " ") (ap (starts_with nat_eq c.args.text.now) (sym front) ∙ sym c.starts_with.ensures.value ∙ c.if-not-starts_with.false) in
    let is : word ≡ until 58 (drop 9 c.args.text.now) = c.until-word.ensures ∙ ap (until 58) c.behind-rest.ensures in
    let end : c.behind.result.now ≡ drop (length word) (drop 9 c.args.text.now) = c.behind.ensures ∙ ap (drop (length word)) c.behind-rest.ensures in
    let colon : c.behind.result.now ≡ codes ":\n" ++ drop 2 c.behind.result.now = starts-front c.behind.result.now (codes ":\n") (sym c.starts_with-2.ensures.value ∙ c.if-starts_with.true) in
    let whole : c.args.text.now ≡ label_line c.args.at word ++ drop 2 c.behind.result.now = label-found c.args.at c.args.text.now word c.behind.result.now begins is end colon in
    let form : is_word word ≡ true = sym c.is_word.ensures ∙ c.if-not-is_word.false in
    (word, (λ t. record { form = form; rest = drop 2 c.behind.result.now; text_is = whole }), label-length c.args.at word)

pub returns-else-starts_with-clause-none : goal.returns-else-starts_with-clause-none
returns-else-starts_with-clause-none c t word h =
    let same : c.until-word.result.now ≡ word = c.until-word.ensures ∙ ap (until 58) c.behind-rest.ensures ∙ label-word t c.args.at word c.args.text.now h in
    let end : c.behind.result.now ≡ codes ":\n" ++ h.rest = c.behind.ensures ∙ ap₂ (λ w r. drop (length w) r) same c.behind-rest.ensures ∙ label-end t c.args.at word c.args.text.now h in
    not-both _ _ c.if-starts_with.false c.starts_with-2.ensures.value (starts-again c.behind.result.now (codes ":\n") h.rest end)
