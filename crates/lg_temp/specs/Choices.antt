-- What holds of each choice, for the code that takes it.
use Rattle.std.specs.Prelude.{◌≡◌, ℕ, ◌==◌, ◌||◌, Bool, true, false, List, [], ◌∷◌, ◌++◌, Some, ⊤}
use Rattle.std.specs.List.{list_all, list_any}
use Rattle.lg_temp.specs.declared.choice.Need.{Need}
use Rattle.lg_temp.specs.declared.choice.Need.TheVariants.{Any, Only}
use Rattle.lg_temp.specs.declared.choice.Choice.{Choice}
use Rattle.lg_temp.specs.declared.choice.Choice.TheVariants.{Free, Own, Spill}
use Rattle.lg_temp.specs.Chosen.{Around, order, stands_in, is_named, is_chosen, spills, is_own, is_busy, is_barred, choices_of}

-- a register for a need that names none, after choices that are made: one that is tried, that the node neither reads nor writes, that no need names and that
-- is not chosen already
pub record IsTaken (a : Around) (needs : List Need) (made : List Choice) (r : ℕ) : Type 0 where
  pub tried : list_any (λ x. x == r) (order a.target) ≡ true
  pub own : is_own a r ≡ false
  pub unnamed : is_named needs r ≡ false
  pub unchosen : is_chosen made r ≡ false

-- a register that the node does not write
abbrev pub IsUnwritten : Around → ℕ → Type 0
IsUnwritten a r = stands_in a.target a.writes r ≡ false

-- a free register is neither read nor written by the node, and nothing after the node needs it; the node's own is written; a saved one is not written, and
-- has the next slot
abbrev pub IsFor : Around → List Need → List Choice → Need → Choice → Type 0
IsFor a needs made Any (Free r) = IsTaken a needs made r × (is_busy a r ≡ false)
IsFor a needs made Any (Own r) = ⊥
IsFor a needs made Any (Spill r slot) = IsTaken a needs made r × (slot ≡ spills made)
IsFor a needs made (Only x) (Free r) = (r ≡ x) × IsUnwritten a r × (stands_in a.target a.reads r ≡ false) × (is_busy a r ≡ false)
IsFor a needs made (Only x) (Own r) = (r ≡ x) × (stands_in a.target a.writes r ≡ true)
IsFor a needs made (Only x) (Spill r slot) = (r ≡ x) × IsUnwritten a r × (slot ≡ spills made) × ((stands_in a.target a.reads r || is_busy a r) ≡ true)

-- one choice for each need, in order
abbrev pub AreFor : Around → List Need → List Choice → List Need → List Choice → Type 0
AreFor a needs made [] [] = ⊤
AreFor a needs made (need ∷ left) (choice ∷ choices) = IsFor a needs made need choice × AreFor a needs (made ++ choice ∷ []) left choices
AreFor a needs made left choices = ⊥

abbrev pub ChoicesAreForNeeds : Type 0
ChoicesAreForNeeds = (a : Around) (needs : List Need) (choices : List Choice) → choices_of a needs ≡ Some choices → AreFor a needs [] needs choices

-- the first of a list that is not refused
abbrev pub IsFirst : (ℕ → Bool) → List ℕ → ℕ → Type 0
IsFirst refused registers r =
    (before : List ℕ) × (behind : List ℕ) × (registers ≡ before ++ r ∷ behind) × (list_all refused before ≡ true) × (refused r ≡ false)

-- whether a need that names no register can only have one that is saved
abbrev pub is_refused : Around → List Need → List Choice → ℕ → Bool
is_refused a needs made r = is_barred a needs made r || is_busy a r

-- a need that names no register takes the first in the order that is neither barred nor busy; only where there is none, the first that is not barred is
-- saved
abbrev pub IsFirstFor : Around → List Need → List Choice → Need → Choice → Type 0
IsFirstFor a needs made Any (Free r) = IsFirst (is_refused a needs made) (order a.target) r
IsFirstFor a needs made Any (Own r) = ⊥
IsFirstFor a needs made Any (Spill r slot) = (list_all (is_refused a needs made) (order a.target) ≡ true) × IsFirst (is_barred a needs made) (order a.target) r
IsFirstFor a needs made (Only x) choice = ⊤

abbrev pub AreFirst : Around → List Need → List Choice → List Need → List Choice → Type 0
AreFirst a needs made [] [] = ⊤
AreFirst a needs made (need ∷ left) (choice ∷ choices) = IsFirstFor a needs made need choice × AreFirst a needs (made ++ choice ∷ []) left choices
AreFirst a needs made left choices = ⊥

abbrev pub ChoicesAreFirst : Type 0
ChoicesAreFirst = (a : Around) (needs : List Need) (choices : List Choice) → choices_of a needs ≡ Some choices → AreFirst a needs [] needs choices
