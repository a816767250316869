-- Texts by their names.
use Rattle.std.specs.Prelude.{◌≡◌, ℕ, Bool, true, List, [], ◌∷◌, Option, Some, None, IsSome, Result, is_ok, ⊤, if◌then◌else◌}
use Rattle.std.specs.Str.{bytes_eq}

-- names, each with its text
abbrev pub NamedTexts : Type 0
NamedTexts = List (List ℕ × List ℕ)

-- the first text of a name
abbrev pub text_under : NamedTexts → List ℕ → Option (List ℕ)
text_under [] name = None
text_under (named ∷ texts) name = if bytes_eq named.0 name then Some named.1 else text_under texts name

-- where the texts are shown, one of that name is among them, and it is what is left to be read
abbrev pub Selects : Option NamedTexts → Option (List ℕ) → List ℕ → Type 0
Selects None left name = ⊤
Selects (Some texts) left name = (left ≡ text_under texts name) × IsSome left

-- the texts are shown, and one of that name is among them
abbrev pub IsHeld : Option NamedTexts → List ℕ → Type 0
IsHeld None name = ⊥
IsHeld (Some texts) name = IsSome (text_under texts name)

-- a source that is sure stays so, and selecting a name that it holds does not fail
abbrev pub SelectsSurely : {E : Type 0} → (before now : Bool) → Option NamedTexts → List ℕ → Result Unit E → Type 0
SelectsSurely before now held name result = before ≡ true → (now ≡ true) × (IsHeld held name → is_ok result ≡ true)

-- and no read of it fails
abbrev pub ReadsSurely : {T E : Type 0} → (before now : Bool) → Result T E → Type 0
ReadsSurely before now result = before ≡ true → (now ≡ true) × (is_ok result ≡ true)
