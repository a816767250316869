-- The lines of a text, by its line feeds.
use Rattle.std.specs.Prelude.{◌≡◌, ℕ, ◌+◌, ◌==◌, true, if◌then◌else◌, List, [], ◌∷◌, ◌++◌, codes}
use Rattle.lg_back.specs.Words.{is_free}

-- how many line feeds there are
abbrev pub feeds : List ℕ → ℕ
feeds [] = 0
feeds (c ∷ cs) = (if c == 10 then 1 else 0) + feeds cs

-- bytes are one line: they end with their one line feed
pub record IsLine (bytes : List ℕ) : Type 0 where
  pub front : List ℕ
  pub is : bytes ≡ front ++ codes "\n"
  pub free : is_free 10 front ≡ true
