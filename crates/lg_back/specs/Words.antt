-- The words of a line, decided by what is after them.
use Rattle.std.specs.Prelude.{ℕ, ◌+◌, ◌==◌, Bool, true, false, if◌then◌else◌, List, [], ◌∷◌, length, drop}

-- what is in front of the first such byte, or all where there is none
abbrev pub until : ℕ → List ℕ → List ℕ
until byte [] = []
until byte (c ∷ cs) = if c == byte then [] else (c ∷ until byte cs)

-- there is no such byte
abbrev pub is_free : ℕ → List ℕ → Bool
is_free byte [] = true
is_free byte (c ∷ cs) = if c == byte then false else is_free byte cs

-- the two words of a line `; FIRST SECOND`
abbrev pub first_word : List ℕ → List ℕ
first_word text = until 32 (drop 2 text)

abbrev pub second_word : List ℕ → List ℕ
second_word text = until 10 (drop (length (first_word text) + 1) (drop 2 text))
