use Rattle.std.proofs.Common.{◌≡◌, true, drop, refl, sym, ap, subst, ◌∙◌}
use Rattle.std.specs.Prelude.{slice_index}
use Rattle.lg_lex.specs.Bytes.{is_space}
use Rattle.lg_lex.specs.declared.fronts.Front.TheVariants.{Finds}
use Rattle.lg_lex.specs.Fronts.{front_at}
use Rattle.lg_lex.specs.Lines.{StaysInLine}
use Rattle.lg_lex.specs.Tokens.{tokens_at}
use Rattle.lg_lex.proofs.LineLemmas.{FrontStays, front_stays}
use Rattle.lg_lex.proofs.TokenLemmas.{byte_after, place_after, place_after_byte, one_space, piece_end, gives_end, gives_fault, skipped, space_skipped, gives_token}
use Rattle.lg_lex.proofs.lexer.Lexer.any_token.Goals as goal

pub returns-in-Nothing : goal.returns-in-Nothing
returns-in-Nothing c =
    let place = c.pieces.self-inside.place in
    let is = ap (front_at place.fresh) (sym c.behind-bytes.ensures) ∙ sym c.front_of.ensures.value ∙ c.in-Nothing.is in
    gives_end _ place.offset place.line place.fresh c.pieces.invariant.0 _ c.pieces.invariant.1 is

pub pieces-preserved-then-is_space : goal.pieces-preserved-then-is_space
pieces-preserved-then-is_space c =
    let text = c.pieces.self-inside.text.now in
    let place = c.pieces.self-inside.place in
    let passed = c.pass_byte.ensures in
    let here : c.byte_at-b.result ≡ slice_index (drop place.offset text) 0 = c.byte_at-b.ensures ∙ byte_after text place.offset in
    let space : is_space (slice_index (drop place.offset text) 0) ≡ true = ap is_space (sym here) ∙ sym c.is_space.ensures ∙ c.if-is_space.true in (
      place_after_byte text place.offset place.line c.byte_at-b.result _ _ place.fresh _ (drop place.offset text) c.pieces.invariant.0 refl here (one_space _ space).1 passed.offset passed.line passed.fresh,
      ap (tokens_at text) passed.offset ∙ space_skipped text place.offset space ∙ c.pieces.invariant.1,
    )

pub pass_token-requires-clause-stays : goal.pass_token-requires-clause-stays
pass_token-requires-clause-stays c word =
    let place = c.pieces.self-inside.place in
    let bytes = c.behind-bytes.result.now in
    let is = sym c.front_of.ensures.value ∙ c.in-Finds.is in
    let stays : FrontStays bytes (Finds c.in-Finds.kind c.in-Finds.n c.in-Finds.value) = subst (FrontStays bytes) is (front_stays place.fresh bytes) in
    subst StaysInLine (sym c.ahead-in-Finds.ensures) (stays word)

pub pieces-preserved : goal.pieces-preserved
pieces-preserved c =
    let place = c.pieces.self-inside.place in
    let passed = c.passed-self-inside.ensures in
    let inside = c.in-Skips.ensures.inside in
    let is = ap (front_at place.fresh) (sym c.behind-bytes.ensures) ∙ sym c.front_of.ensures.value ∙ c.in-Skips.is in (
      place_after _ place.offset place.line c.in-Skips.n _ _ place.fresh _ _ _ c.pieces.invariant.0 c.behind-bytes.ensures c.ahead.ensures inside.1 passed.offset passed.line passed.fresh,
      skipped _ place.offset place.line place.fresh c.pieces.invariant.0 _ c.pieces.invariant.1 c.in-Skips.n _ inside.0 (piece_end place.offset _ c.in-Skips.n _ _ c.ahead.ensures inside.1 passed.offset) is,
    )

pub invariant_of-self-in-Finds : goal.invariant_of-self-in-Finds
invariant_of-self-in-Finds c =
    let place = c.pieces.self-inside.place in
    let passed = c.pass_token.ensures in
    place_after _ place.offset place.line c.in-Finds.n _ _ place.fresh _ _ _ c.pieces.invariant.0 c.behind-bytes.ensures c.ahead-in-Finds.ensures c.in-Finds.ensures.inside.1 passed.offset passed.line passed.fresh

pub returns-in-Finds : goal.returns-in-Finds
returns-in-Finds c =
    let place = c.pieces.self-inside.place in
    let inside = c.in-Finds.ensures.inside in
    let is = ap (front_at place.fresh) (sym c.behind-bytes.ensures) ∙ sym c.front_of.ensures.value ∙ c.in-Finds.is in
    gives_token _ place.offset place.line place.fresh c.pieces.invariant.0 _ c.pieces.invariant.1 c.in-Finds.kind c.in-Finds.n c.in-Finds.value _ inside.0 (piece_end place.offset _ c.in-Finds.n _ _ c.ahead-in-Finds.ensures inside.1 c.pass_token.ensures.offset) is

pub returns-in-Fails : goal.returns-in-Fails
returns-in-Fails c =
    let place = c.pieces.self-inside.place in
    let is = ap (front_at place.fresh) (sym c.behind-bytes.ensures) ∙ sym c.front_of.ensures.value ∙ c.in-Fails.is in
    gives_fault _ place.offset place.line place.fresh c.pieces.invariant.0 _ c.pieces.invariant.1 c.in-Fails.kind is
