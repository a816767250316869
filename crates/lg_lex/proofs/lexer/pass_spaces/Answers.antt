use Rattle.std.proofs.Common.{◌≡◌, true, drop, refl, sym, ap, ◌∙◌}
use Rattle.std.specs.Prelude.{slice_index}
use Rattle.lg_lex.specs.Bytes.{is_space}
use Rattle.lg_lex.specs.Tokens.{tokens_at}
use Rattle.lg_lex.proofs.TokenLemmas.{byte_after, place_after_byte, one_space, space_skipped}
use Rattle.lg_lex.proofs.lexer.pass_spaces.Goals as goal

pub spaces-preserved-then-b-eq32 : goal.spaces-preserved-then-b-eq32
spaces-preserved-then-b-eq32 c =
    let text = c.args.text.now in
    let place = c.spaces.place in
    let passed = c.pass_byte.ensures in
    let here : c.byte_at-b.result ≡ slice_index (drop place.offset text) 0 = c.byte_at-b.ensures ∙ byte_after text place.offset in
    let space : is_space (slice_index (drop place.offset text) 0) ≡ true = ap is_space (sym here ∙ c.if-b-eq32.true) in (
      place_after_byte text place.offset place.line c.byte_at-b.result _ _ place.fresh _ (drop place.offset text) c.spaces.invariant.0 refl here (one_space _ space).1 passed.offset passed.line passed.fresh,
      ap (tokens_at text) passed.offset ∙ space_skipped text place.offset space ∙ c.spaces.invariant.1,
    )

pub spaces-preserved : goal.spaces-preserved
spaces-preserved c =
    let text = c.args.text.now in
    let place = c.spaces.place in
    let passed = c.pass_byte-in-spaces.ensures in
    let here : c.byte_at-b.result ≡ slice_index (drop place.offset text) 0 = c.byte_at-b.ensures ∙ byte_after text place.offset in
    let space : is_space (slice_index (drop place.offset text) 0) ≡ true = ap is_space (sym here) ∙ sym c.is_space.ensures ∙ c.if-not-is_space.false in (
      place_after_byte text place.offset place.line c.byte_at-b.result _ _ place.fresh _ (drop place.offset text) c.spaces.invariant.0 refl here (one_space _ space).1 passed.offset passed.line passed.fresh,
      ap (tokens_at text) passed.offset ∙ space_skipped text place.offset space ∙ c.spaces.invariant.1,
    )
