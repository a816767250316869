use Rattle.std.proofs.Common.{length, sym, ap, subst, ◌∙◌, arith}
use Rattle.std.proofs.lemmas.List.{length-drop}
use Rattle.lg_lex.specs.declared.fronts.Front.TheVariants.{Finds}
use Rattle.lg_lex.specs.Fronts.{IsFront, front_at}
use Rattle.lg_lex.specs.Lines.{IsSolid}
use Rattle.lg_lex.proofs.PlainLemmas.{front_lies, front_solid, place_after_solid}
use Rattle.lg_lex.proofs.TokenLemmas.{gives_token}
use Rattle.lg_lex.proofs.lexer.Lexer.next.Goals as goal

pub pass_solid-requires : goal.pass_solid-requires
pass_solid-requires c =
    let bytes = c.from_place-bytes.result.now in
    let found = c.in-Some-Finds in
    let is : IsFront bytes (Finds found.kind found.n found.value) = λ fresh. found.ensures.value fresh ∙ found.field-0-is in
    let inside = front_lies bytes _ is in
    let at = c.pass_spaces.ensures.place in
    let left = ap length c.from_place-bytes.ensures ∙ length-drop c.pass_spaces.new.place.offset c.self.inside.text.now in
    omega (arith, at.0, at.1, inside.1, left)

pub overflow_cast-result-in-Some-Finds : goal.overflow_cast-result-in-Some-Finds
overflow_cast-result-in-Some-Finds c =
    let bytes = c.from_place-bytes.result.now in
    let found = c.in-Some-Finds in
    let is : IsFront bytes (Finds found.kind found.n found.value) = λ fresh. found.ensures.value fresh ∙ found.field-0-is in
    let inside = front_lies bytes _ is in
    let at = c.pass_spaces.ensures.place in
    let left = ap length c.from_place-bytes.ensures ∙ length-drop c.pass_spaces.new.place.offset c.self.inside.text.now in
    omega (arith, c.pass_solid.ensures.offset, at.0, at.1, inside.1, left)

pub invariant_of-self : goal.invariant_of-self
invariant_of-self c =
    let place = c.pass_spaces.new.place in
    let bytes = c.from_place-bytes.result.now in
    let found = c.in-Some-Finds in
    let passed = c.pass_solid.ensures in
    let is : IsFront bytes (Finds found.kind found.n found.value) = λ fresh. found.ensures.value fresh ∙ found.field-0-is in
    let inside = front_lies bytes _ is in
    let stays = front_solid bytes (Finds found.kind found.n found.value) is (subst IsSolid found.field-0-is found.ensures.solid) in
    place_after_solid _ place.offset place.line found.n _ _ place.fresh _ bytes c.pass_spaces.ensures.place c.from_place-bytes.ensures inside.1 stays passed.offset passed.line passed.fresh

pub returns-in-Some-Finds : goal.returns-in-Some-Finds
returns-in-Some-Finds c =
    let place = c.pass_spaces.new.place in
    let bytes = c.from_place-bytes.result.now in
    let found = c.in-Some-Finds in
    let is : IsFront bytes (Finds found.kind found.n found.value) = λ fresh. found.ensures.value fresh ∙ found.field-0-is in
    let inside = front_lies bytes _ is in
    let front = ap (front_at place.fresh) (sym c.from_place-bytes.ensures) ∙ is place.fresh in
    gives_token _ place.offset place.line place.fresh c.pass_spaces.ensures.place _ (c.pass_spaces.ensures.tokens ∙ c.self.view_is) found.kind found.n found.value _ inside.0 c.pass_solid.ensures.offset front
