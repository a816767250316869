use Rattle.std.proofs.Common.{ℕ, List, [], ◌∷◌, ◌++◌, ap, ap₂, sym, ◌∙◌, arith}
use Rattle.lg_list.proofs.DigitLemmas.{decimal-one, decimal-two}
use Rattle.lg_list.proofs.line.Line.push_decimal.Goals as goal

pub returns-then-number-lt10-clause-value : goal.returns-then-number-lt10-clause-value
returns-then-number-lt10-clause-value c =
    c.push_byte.ensures ∙ ap (λ (d : ℕ). c.args.self.now ++ d ∷ []) c.digit.ensures ∙ ap (λ (t : List ℕ). c.args.self.now ++ t) (sym (decimal-one c.args.number (omega arith)))

pub returns-then-number-lt100-clause-value : goal.returns-then-number-lt100-clause-value
returns-then-number-lt100-clause-value c =
    c.push.ensures
    ∙ ap₂ (λ (d e : ℕ). c.args.self.now ++ d ∷ e ∷ []) c.digit-then-number-lt100.ensures c.digit-then-number-lt100-2.ensures
    ∙ ap (λ (t : List ℕ). c.args.self.now ++ t) (sym (decimal-two c.args.number (omega arith) (omega arith)))
