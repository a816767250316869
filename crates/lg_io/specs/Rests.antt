-- What is left of one of several texts.
use Rattle.std.specs.Prelude.{◌≡◌, ◌<◌, ℕ, List, length, [], Option, Some, None, drop, slice_index_or}
use Rattle.lg_io.specs.NamedTexts.{NamedTexts, text_under}

-- what is left of the text at a place, from an offset on
abbrev pub rest_of : NamedTexts → Option ℕ → ℕ → List ℕ
rest_of texts None offset = []
rest_of texts (Some place) offset = drop offset (slice_index_or texts place ([], [])).1

-- the place is among the texts, and its text is the first of the name
abbrev pub IsPlaceOf : NamedTexts → List ℕ → ℕ → Type 0
IsPlaceOf texts name place = (place < length texts) × (text_under texts name ≡ Some (rest_of texts (Some place) 0))
