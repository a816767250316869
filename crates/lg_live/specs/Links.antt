-- A point's number that may be missing, in one word.
use Rattle.std.specs.Prelude.{◌≡◌, ℕ, zero, suc, Option, Some, None, refl}
use Rattle.std.proofs.Common.{ap}
use Rattle.lg_live.specs.declared.link.Link.TheInside.{Inside}

-- the word is 0, or one more than the number
abbrev pub number_in : ℕ → Option ℕ
number_in zero = None
number_in (suc point) = Some point

abbrev pub word_of : Option ℕ → ℕ
word_of None = zero
word_of (Some point) = suc point

abbrev pub link_of : Inside → Option ℕ
link_of link = number_in link.word

abbrev pub linked : Option ℕ → Inside
linked point = record { word = word_of point }

still : (word : ℕ) → word_of (number_in word) ≡ word
still zero = refl
still (suc point) = refl

pub is_kept : (link : Inside) → linked (link_of link) ≡ link
is_kept link = ap (λ w. record { word = w }) (still link.word)
