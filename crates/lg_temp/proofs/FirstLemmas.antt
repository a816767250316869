-- Each choice is the first of the order that can be had.
use Rattle.std.proofs.Common.{◌≡◌, ℕ, Bool, true, false, List, [], ◌∷◌, ◌++◌, Option, Some, None, refl, sym, ap, ◌∙◌, subst, append_assoc, append-nil}
use Rattle.std.specs.Prelude.{◌&&◌, not, find, if◌then◌else◌}
use Rattle.std.specs.List.{list_all}
use Rattle.std.specs.Option.{option_and_then}
use Rattle.std.proofs.lemmas.Option.{same_Some}
use Rattle.lg_temp.specs.declared.choice.Need.{Need}
use Rattle.lg_temp.specs.declared.choice.Need.TheVariants.{Any, Only}
use Rattle.lg_temp.specs.declared.choice.Choice.{Choice}
use Rattle.lg_temp.specs.declared.choice.Choice.TheVariants.{Free, Spill}
use Rattle.lg_temp.specs.Chosen.{Around, order, spills, is_barred, first_free, first_saved, free_or_saved, pick_any, pick, chosen}
use Rattle.lg_temp.specs.Choices.{IsFirst, IsFirstFor, AreFirst, ChoicesAreFirst, is_refused}

-- what is found is the first that passes
finds-first : (p : ℕ → Bool) (xs : List ℕ) (r : ℕ) → find (λ x. not (p x)) xs ≡ Some r → IsFirst p xs r
finds-first p [] r e = cc
finds-first p (x ∷ xs) r e = by (p x) refl e (finds-first p xs r)
  where
    by : (b : Bool) → p x ≡ b → (if not b then Some x else find (λ x. not (p x)) xs) ≡ Some r → (find (λ x. not (p x)) xs ≡ Some r → IsFirst p xs r) → IsFirst p (x ∷ xs) r
    by true h e again =
        let k = again e in
        (x ∷ k.0, k.1, ap (λ l. x ∷ l) k.2, (λ i. h i && k.3 i), k.4)
    by false h e again = let z : x ≡ r = same_Some x r e in ([], xs, ap (λ y. y ∷ xs) z, refl, ap p (sym z) ∙ h)

-- where none is found, none passes
finds-none : (p : ℕ → Bool) (xs : List ℕ) → find (λ x. not (p x)) xs ≡ None → list_all p xs ≡ true
finds-none p [] e = refl
finds-none p (x ∷ xs) e = by (p x) refl e (finds-none p xs)
  where
    by : (b : Bool) → p x ≡ b → (if not b then Some x else find (λ x. not (p x)) xs) ≡ None → (find (λ x. not (p x)) xs ≡ None → list_all p xs ≡ true) → (p x && list_all p xs) ≡ true
    by true h e again = λ i. h i && again e i
    by false h e again = cc

first-any : (a : Around) (needs : List Need) (made : List Choice) (choice : Choice) → pick_any a needs made ≡ Some choice → IsFirstFor a needs made Any choice
first-any a needs made choice e = by (first_free a needs made (order a.target)) (first_saved a needs made (order a.target)) refl refl e
  where
    by : (free saved : Option ℕ) → first_free a needs made (order a.target) ≡ free → first_saved a needs made (order a.target) ≡ saved → free_or_saved free saved (spills made) ≡ Some choice → IsFirstFor a needs made Any choice
    by (Some r) saved f s e = subst (IsFirstFor a needs made Any) (same_Some (Free r) choice e) (finds-first (is_refused a needs made) (order a.target) r f)
    by None (Some r) f s e =
        subst (IsFirstFor a needs made Any) (same_Some (Spill r (spills made)) choice e)
        (finds-none (is_refused a needs made) (order a.target) f, finds-first (is_barred a needs made) (order a.target) r s)
    by None None f s e = cc

first-picked : (a : Around) (needs : List Need) (made : List Choice) (need : Need) (choice : Choice) → pick a needs made need ≡ Some choice → IsFirstFor a needs made need choice
first-picked a needs made Any choice e = first-any a needs made choice e
first-picked a needs made (Only r) choice e = tt

-- the choices after those that are made
first-after : (a : Around) (needs left : List Need) (made choices : List Choice) → chosen a needs left made ≡ Some choices → (rest : List Choice) × (choices ≡ made ++ rest) × AreFirst a needs made left rest
first-after a needs [] made choices e = ([], sym (same_Some made choices e) ∙ sym (append-nil made), tt)
first-after a needs (need ∷ left) made choices e = by (pick a needs made need) refl e (λ choice. first-after a needs left (made ++ choice ∷ []) choices)
  where
    by : (o : Option Choice) → pick a needs made need ≡ o → option_and_then (λ choice. chosen a needs left (made ++ choice ∷ [])) o ≡ Some choices
        → ((choice : Choice) → chosen a needs left (made ++ choice ∷ []) ≡ Some choices → (rest : List Choice) × (choices ≡ (made ++ choice ∷ []) ++ rest) × AreFirst a needs (made ++ choice ∷ []) left rest)
        → (rest : List Choice) × (choices ≡ made ++ rest) × AreFirst a needs made (need ∷ left) rest
    by None p e again = cc
    by (Some choice) p e again =
        let k = again choice e in
        (choice ∷ k.0, k.1 ∙ append_assoc made (choice ∷ []) k.0, (first-picked a needs made need choice p, k.2))

pub choices-are-first : ChoicesAreFirst
choices-are-first a needs choices e =
    let k = first-after a needs needs [] choices e in
    subst (AreFirst a needs [] needs) (sym k.1) k.2
