-- Texts that are too long.
use Rattle.std.proofs.Common.{ℕ, zero, suc, ◌<◌, List, [], ◌∷◌, length, Option, Some, None, IfSome, sym, arith}
use Rattle.lg_io.specs.NamedTexts.{NamedTexts, Selects}
use Rattle.lg_run.specs.Reads.{IsLongText}
use Rattle.lg_run.specs.Refused.{most_text}

-- a list that is longer than a number
longer : (n : ℕ) → (t : List ℕ) × (n < length t)
longer zero = (0 ∷ [], omega arith)
longer (suc n) = let t = longer n in (0 ∷ t.0, let lt = t.1 in omega (arith, lt))

-- what is left of a selected text that is too long
pub long_text : (held : Option NamedTexts) (name : List ℕ) (left : Option (List ℕ)) → Selects held left name → IfSome left (λ t. most_text < length t) → IsLongText held name
long_text None name left is long = let t = longer most_text in (t.0, tt, t.1)
long_text (Some texts) name None is long = let some = is.1 in cc
long_text (Some texts) name (Some t) is long = (t, sym is.0, long)
