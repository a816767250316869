use Rattle.std.proofs.Common.{ℕ, ◌/◌, false, List, [], ◌∷◌, ◌++◌, ap, ap₂, sym, ◌∙◌}
use Rattle.std.specs.Fmt.{digit_glyph}
use Rattle.lg_list.proofs.DigitLemmas.{decimal-three}
use Rattle.lg_list.proofs.line.Line.push_three.Goals as goal

pub returns-clause-value : goal.returns-clause-value
returns-clause-value c =
    c.push.ensures
    ∙ ap (λ (d : ℕ). c.args.self.now ++ d ∷ c.digit-2.result ∷ c.digit-3.result ∷ []) c.digit.ensures
    ∙ ap₂ (λ (d e : ℕ). c.args.self.now ++ digit_glyph false (c.args.number / 10 / 10) ∷ d ∷ e ∷ []) c.digit-2.ensures c.digit-3.ensures
    ∙ ap (λ (t : List ℕ). c.args.self.now ++ t) (sym (decimal-three c.args.number c.requires.low c.requires.high))
