-- What instruction bytes begin with.
use Rattle.std.specs.Prelude.{◌≡◌, ◌++◌, ℕ, List}

-- the bytes begin with the spelling of an instruction that fits
abbrev pub BeginsWith : {I : Type 0} → (I → List ℕ) → (I → Type 0) → List ℕ → I → Type 0
BeginsWith spelling fits bytes i = fits i × (more : List ℕ) × (bytes ≡ spelling i ++ more)
