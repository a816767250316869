use Rattle.std.proofs.Common.{sym, ap, ◌∙◌}
use Rattle.std.specs.Prelude.{option_and_then, slice_get}
use Rattle.lg_tst.specs.Names.{FunctionNames, place_in}
use Rattle.lg_tst.proofs.NameLemmas.{place_held}
use Rattle.lg_tst.proofs.names.Names.meaning.Goals as goal

pub returns-in-Some : goal.returns-in-Some
returns-in-Some c =
    let place = ap (λ (n : FunctionNames). place_in n.words c.args.word.now) (sym c.self.view_is) ∙ place_held (λ v. v.items) c.args.word.now c.self.inside.words.keys ∙ sym c.get_index_of.ensures.index ∙ c.in-Some.is in
    c.meaning_at.ensures ∙ sym (ap (option_and_then (slice_get c.args.self.now.meanings)) place)

pub returns-in-None : goal.returns-in-None
returns-in-None c =
    let place = ap (λ (n : FunctionNames). place_in n.words c.args.word.now) (sym c.self.view_is) ∙ place_held (λ v. v.items) c.args.word.now c.self.inside.words.keys ∙ sym c.get_index_of.ensures.index ∙ c.in-None.is in
    sym (ap (option_and_then (slice_get c.args.self.now.meanings)) place)
