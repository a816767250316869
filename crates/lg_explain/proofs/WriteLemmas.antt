-- Bytes that are written in two parts.
use Rattle.std.proofs.Common.{◌≡◌, ℕ, List, ◌++◌, Option, Ok, Err, sym, ap, ◌∙◌, arith}
use Rattle.std.specs.Prelude.{Result}
use Rattle.std.specs.Io.KnownBytes.{Appends}
use Rattle.std.proofs.KnownBytes.{Appends-trans}
use Rattle.std.proofs.lemmas.List.{append-nil}
use Rattle.lg_io.specs.Wrote.{Wrote}
use Rattle.lg_io.proofs.CountLemmas.{Rose-earlier}
use Rattle.lg_io.proofs.WroteLemmas.{AppendsPrefix-after}

-- the first part was written, and a call wrote the second, or a part of it
pub then_wrote : {X Y : Type 0} (a b c : Option (List ℕ)) (f g h : ℕ) (xs ys : List ℕ) (r : Result X Y) → Appends a b xs → g ≡ f → Wrote b c g h r ys → Wrote a c f h r (xs ++ ys)
then_wrote a b c f g h xs ys (Ok x) told kept w = record {
  ok = Appends-trans a b c xs ys told w.ok;
  err = tt;
  cause = let same = w.cause.kept ∙ kept in record { later = omega (arith, same); kept = same; failed = tt };
}
then_wrote a b c f g h xs ys (Err x) told kept w = record {
  ok = tt;
  err = AppendsPrefix-after a b c xs ys _ (xs ++ ys) (ap (λ t. xs ++ t) (sym (append-nil ys))) told w.err;
  cause = let later = w.cause.later in record { later = omega (arith, kept, later); kept = tt; failed = Rose-earlier f g h (omega (arith, kept)) w.cause.failed };
}
