use Rattle.std.proofs.Common.{◌≡◌, [], Some, Ok, sym, ap, ◌∙◌, subst}
use Rattle.std.specs.Option.{option_map}
use Rattle.lg_lex.specs.Tokens.{AreInOrder}
use Rattle.lg_lex.specs.declared.token.Token.{Token}
use Rattle.lg_tst.specs.Streams.{text_of}
use Rattle.lg_explain.specs.Lines.{shown}
use Rattle.lg_explain.specs.Twice.{again, forms_after, labels_after, made_twice, names_after, twice_from}
use Rattle.lg_explain.proofs.TwiceLemmas.{at_end, found_here, left_after, next}
use Rattle.lg_explain.proofs.twice.first_again.Goals.{in_default, in_default-2}
use Rattle.lg_explain.proofs.twice.first_again.Goals as goal

pub loop-token-init : goal.loop-token-init
loop-token-init c =
    let e = c.new-lexer.ensures in
    let text = c.args.text.now in
    record {
      place = 0;
      order = subst (λ t. AreInOrder text 0 t.0) (sym e.tokens) e.order;
      same = λ i. twice_from text (e.tokens i).0 (c.requires.labels i) (c.requires.names i) [];
    }

pub text_of-bytes-requires-clause-order : goal.text_of-bytes-requires-clause-order
text_of-bytes-requires-clause-order c = (next c.args.text.now _ _ _ _ _ _ _ _ c.loop-token.invariant c.next.ensures (c.in-Ok-Some.is ∙ ap (λ o. Ok o) c.in-Ok-Some.field-0-is)).start

pub text_of-bytes-requires-clause-within : goal.text_of-bytes-requires-clause-within
text_of-bytes-requires-clause-within c = (next c.args.text.now _ _ _ _ _ _ _ _ c.loop-token.invariant c.next.ensures (c.in-Ok-Some.is ∙ ap (λ o. Ok o) c.in-Ok-Some.field-0-is)).end

pub returns-in-Some : goal.returns-in-Some
returns-in-Some c =
    let text = c.args.text.now in
    let token = c.in-Ok-Some.token in
    let l = c.loop-token in
    let h = next text _ _ _ _ _ _ _ token l.invariant c.next.ensures (c.in-Ok-Some.is ∙ ap (λ o. Ok o) c.in-Ok-Some.field-0-is) in
    let bytes : c.text_of-bytes.result.now ≡ text_of text token = c.text_of-bytes.ensures in
    found_here text (made_twice text) token c.next.new.self l.labels l.names l.forms.now c.in-Some.word h
    (sym c.in-Some.is ∙ c.again.ensures ∙ ap (λ b. option_map shown (again l.forms.now token.kind b l.labels l.names)) bytes)

pub loop-token-preserved : goal.loop-token-preserved
loop-token-preserved c =
    let text = c.args.text.now in
    let token = c.in-Ok-Some.token in
    let l = c.loop-token in
    let h = next text _ _ _ _ _ _ _ token l.invariant c.next.ensures (c.in-Ok-Some.is ∙ ap (λ o. Ok o) c.in-Ok-Some.field-0-is) in
    let bytes : c.text_of-bytes.result.now ≡ text_of text token = c.text_of-bytes.ensures in
    left_after text (made_twice text) token c.next.new.self l.labels l.names l.forms.now c.make_label.new.labels c.make_name.new.names c.forms_after-forms.result.now h
    (sym c.in_default-again.is ∙ c.again.ensures ∙ ap (λ b. option_map shown (again l.forms.now token.kind b l.labels l.names)) bytes)
    (c.in_ok-make_label.ensures ∙ ap (λ b. labels_after l.forms.now token.kind b l.labels) bytes)
    (c.in_ok-make_name.ensures ∙ ap (λ b. names_after l.forms.now token.kind b l.names) bytes)
    (c.forms_after-forms.ensures ∙ ap (λ b. forms_after l.forms.now token.kind b) bytes)

pub returns : goal.returns
returns c =
    let text = c.args.text.now in
    let l = c.loop-token in
    let none : (token : Token) → c.next.result ≡ Ok (Some token) → ⊥ = λ token e. elim c.match-next.branch [
      | in_default w ↦ (let no = sym w.in_default.is ∙ e in cc)
      | in_default-2 w ↦ (let no = sym w.in_default.is ∙ e in cc)
    ] in
    sym (ap (option_map shown) (at_end text (made_twice text) l.lexer l.labels l.names l.forms.now c.next.result c.next.new.self l.invariant c.next.ensures none))
