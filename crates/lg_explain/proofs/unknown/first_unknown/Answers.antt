use Rattle.std.proofs.Common.{◌≡◌, [], Some, Ok, sym, ap, ◌∙◌, subst}
use Rattle.std.specs.Option.{option_map}
use Rattle.lg_lex.specs.Tokens.{AreInOrder}
use Rattle.lg_lex.specs.declared.token.Token.{Token}
use Rattle.lg_tst.specs.Streams.{text_of}
use Rattle.lg_explain.specs.Lines.{shown}
use Rattle.lg_explain.specs.Unknown.{first_unknown, forms_after, part_after, rest_after, unknown, unknown_from}
use Rattle.lg_explain.specs.declared.place.Part.TheVariants.{First}
use Rattle.lg_explain.specs.declared.place.Rest.TheVariants.{Nothing}
use Rattle.lg_explain.proofs.UnknownLemmas.{at_end, found_here, left_after, next}
use Rattle.lg_explain.proofs.unknown.first_unknown.Goals.{in_default, in_default-2}
use Rattle.lg_explain.proofs.unknown.first_unknown.Goals as goal

pub loop-token-init : goal.loop-token-init
loop-token-init c =
    let e = c.new-lexer.ensures in
    let text = c.args.text.now in
    record {
      place = 0;
      order = subst (λ t. AreInOrder text 0 t.0) (sym e.tokens) e.order;
      same = λ i. unknown_from text (e.tokens i).0 First [] Nothing;
    }

pub text_of-bytes-requires-clause-order : goal.text_of-bytes-requires-clause-order
text_of-bytes-requires-clause-order c = (next c.args.text.now _ _ _ _ _ _ _ _ c.loop-token.invariant c.next.ensures (c.in-Ok-Some.is ∙ ap (λ o. Ok o) c.in-Ok-Some.field-0-is)).start

pub text_of-bytes-requires-clause-within : goal.text_of-bytes-requires-clause-within
text_of-bytes-requires-clause-within c = (next c.args.text.now _ _ _ _ _ _ _ _ c.loop-token.invariant c.next.ensures (c.in-Ok-Some.is ∙ ap (λ o. Ok o) c.in-Ok-Some.field-0-is)).end

pub returns-in-Some : goal.returns-in-Some
returns-in-Some c =
    let text = c.args.text.now in
    let token = c.in-Ok-Some.token in
    let l = c.loop-token in
    let h = next text _ _ _ _ _ _ _ token l.invariant c.next.ensures (c.in-Ok-Some.is ∙ ap (λ o. Ok o) c.in-Ok-Some.field-0-is) in
    let bytes : c.text_of-bytes.result.now ≡ text_of text token = c.text_of-bytes.ensures in
    found_here text (first_unknown text) token c.next.new.self l.part l.forms.now l.rest c.in-Some.word h
    (sym c.in-Some.is ∙ c.unknown.ensures ∙ ap (λ b. option_map shown (unknown l.part l.forms.now l.rest token.kind b)) bytes)

pub loop-token-preserved : goal.loop-token-preserved
loop-token-preserved c =
    let text = c.args.text.now in
    let token = c.in-Ok-Some.token in
    let l = c.loop-token in
    let h = next text _ _ _ _ _ _ _ token l.invariant c.next.ensures (c.in-Ok-Some.is ∙ ap (λ o. Ok o) c.in-Ok-Some.field-0-is) in
    let bytes : c.text_of-bytes.result.now ≡ text_of text token = c.text_of-bytes.ensures in
    left_after text (first_unknown text) token c.next.new.self l.part l.forms.now l.rest c.part_after-part.result c.forms_after-forms.result.now c.rest_after-rest.result h
    (sym c.in_default-unknown.is ∙ c.unknown.ensures ∙ ap (λ b. option_map shown (unknown l.part l.forms.now l.rest token.kind b)) bytes)
    (c.part_after-part.ensures ∙ ap (λ b. part_after l.part l.forms.now l.rest token.kind b) bytes)
    (c.forms_after-forms.ensures ∙ ap (λ b. forms_after l.part l.forms.now l.rest token.kind b) bytes)
    (c.rest_after-rest.ensures ∙ ap (λ b. rest_after l.part l.forms.now l.rest token.kind b) bytes)

pub returns : goal.returns
returns c =
    let text = c.args.text.now in
    let l = c.loop-token in
    let none : (token : Token) → c.next.result ≡ Ok (Some token) → ⊥ = λ token e. elim c.match-next.branch [
      | in_default w ↦ (let no = sym w.in_default.is ∙ e in cc)
      | in_default-2 w ↦ (let no = sym w.in_default.is ∙ e in cc)
    ] in
    sym (ap (option_map shown) (at_end text (first_unknown text) l.lexer l.part l.forms.now l.rest c.next.result c.next.new.self l.invariant c.next.ensures none))
