use Rattle.std.proofs.Common.{◌≡◌, ◌∷◌, [], ◌++◌, length}
use Rattle.lg_lex.specs.Escapes.{string_left}
use Rattle.lg_tst.specs.Units.{stored}
use Rattle.lg_tst.proofs.parser.Parser.string.Given as goal

abbrev pub decreases-loop-byte : goal.decreases-loop-byte
decreases-loop-byte l = length (string_left l.text l.at)

abbrev pub invariant-loop-byte : goal.invariant-loop-byte
invariant-loop-byte l = (l.self.source ≡ l.fn.self.source) × (
    stored l.line (length (string_left l.text l.at ++ 0 ∷ [])) (string_left l.text l.at ++ 0 ∷ []) l.self
    ≡ stored l.line (length (string_left l.text 0 ++ 0 ∷ [])) (string_left l.text 0 ++ 0 ∷ []) l.fn.self)
