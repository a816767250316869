-- What holds of each choice.
use Rattle.std.proofs.Common.{◌≡◌, ℕ, Bool, true, false, List, [], ◌∷◌, ◌++◌, Option, Some, None, refl, sym, ap, ◌∙◌, subst, append_assoc, append-nil}
use Rattle.std.specs.Prelude.{◌==◌, ◌||◌, not, find, if◌then◌else◌}
use Rattle.std.specs.List.{list_any}
use Rattle.std.specs.Option.{option_and_then}
use Rattle.std.proofs.lemmas.Bool.{or_parts, eq-eqb, or_right}
use Rattle.std.proofs.lemmas.Option.{same_Some}
use Rattle.lg_temp.specs.declared.choice.Need.{Need}
use Rattle.lg_temp.specs.declared.choice.Need.TheVariants.{Any, Only}
use Rattle.lg_temp.specs.declared.choice.Choice.{Choice}
use Rattle.lg_temp.specs.declared.choice.Choice.TheVariants.{Free, Own, Spill}
use Rattle.lg_temp.specs.Chosen.{Around, order, stands_in, is_named, is_chosen, spills, is_own, is_busy, is_barred, first_free, first_saved, free_or_saved, pick_any, pick_only, pick, chosen}
use Rattle.lg_temp.specs.Choices.{IsTaken, IsFor, AreFor, ChoicesAreForNeeds}

-- what is found is one of the list, and passes the test
found : (p : ℕ → Bool) (xs : List ℕ) (r : ℕ) → find (λ x. not (p x)) xs ≡ Some r → (list_any (λ x. x == r) xs ≡ true) × (p r ≡ false)
found p [] r e = cc
found p (x ∷ xs) r e = by (p x) refl e (found p xs r)
  where
    by : (b : Bool) → p x ≡ b → (if not b then Some x else find (λ x. not (p x)) xs) ≡ Some r → (find (λ x. not (p x)) xs ≡ Some r → (list_any (λ x. x == r) xs ≡ true) × (p r ≡ false)) → (((x == r) || list_any (λ x. x == r) xs) ≡ true) × (p r ≡ false)
    by true h e again = let k = again e in (ap (λ b. (x == r) || b) k.0 ∙ or_right (x == r) true refl, k.1)
    by false h e again = let z : x ≡ r = same_Some x r e in (ap (λ b. b || list_any (λ x. x == r) xs) (ap (λ y. x == y) (sym z) ∙ eq-eqb x x refl), ap p (sym z) ∙ h)

taken : (a : Around) (needs : List Need) (made : List Choice) (r : ℕ) → list_any (λ x. x == r) (order a.target) ≡ true → is_barred a needs made r ≡ false → IsTaken a needs made r
taken a needs made r tried e =
    let k = or_parts (is_own a r) (is_named needs r || is_chosen made r) e in
    let l = or_parts (is_named needs r) (is_chosen made r) k.1 in
    record { tried = tried; own = k.0; unnamed = l.0; unchosen = l.1 }

picked-any : (a : Around) (needs : List Need) (made : List Choice) (choice : Choice) → pick_any a needs made ≡ Some choice → IsFor a needs made Any choice
picked-any a needs made choice e = by (first_free a needs made (order a.target)) (first_saved a needs made (order a.target)) refl refl e
  where
    by : (free saved : Option ℕ) → first_free a needs made (order a.target) ≡ free → first_saved a needs made (order a.target) ≡ saved → free_or_saved free saved (spills made) ≡ Some choice → IsFor a needs made Any choice
    by (Some r) saved f s e =
        let k = found (λ r. is_barred a needs made r || is_busy a r) (order a.target) r f in
        let l = or_parts (is_barred a needs made r) (is_busy a r) k.1 in
        subst (IsFor a needs made Any) (same_Some (Free r) choice e) (taken a needs made r k.0 l.0, l.1)
    by None (Some r) f s e =
        let k = found (is_barred a needs made) (order a.target) r s in
        subst (IsFor a needs made Any) (same_Some (Spill r (spills made)) choice e) (taken a needs made r k.0 k.1, refl)
    by None None f s e = cc

picked-only : (a : Around) (needs : List Need) (made : List Choice) (r : ℕ) → IsFor a needs made (Only r) (pick_only a made r)
picked-only a needs made r = by (stands_in a.target a.writes r) (stands_in a.target a.reads r) (is_busy a r) refl refl refl
  where
    by : (w v b : Bool) → stands_in a.target a.writes r ≡ w → stands_in a.target a.reads r ≡ v → is_busy a r ≡ b → IsFor a needs made (Only r) (if w then Own r else (if v || b then Spill r (spills made) else Free r))
    by true v b x y z = (refl, x)
    by false true b x y z = (refl, x, refl, ap (λ u. u || is_busy a r) y)
    by false false true x y z = (refl, x, refl, λ i. y i || z i)
    by false false false x y z = (refl, x, y, z)

picked : (a : Around) (needs : List Need) (made : List Choice) (need : Need) (choice : Choice) → pick a needs made need ≡ Some choice → IsFor a needs made need choice
picked a needs made Any choice e = picked-any a needs made choice e
picked a needs made (Only r) choice e = subst (IsFor a needs made (Only r)) (same_Some (pick_only a made r) choice e) (picked-only a needs made r)

-- the choices after those that are made
chosen-after : (a : Around) (needs left : List Need) (made choices : List Choice) → chosen a needs left made ≡ Some choices → (rest : List Choice) × (choices ≡ made ++ rest) × AreFor a needs made left rest
chosen-after a needs [] made choices e = ([], sym (same_Some made choices e) ∙ sym (append-nil made), tt)
chosen-after a needs (need ∷ left) made choices e = by (pick a needs made need) refl e (λ choice. chosen-after a needs left (made ++ choice ∷ []) choices)
  where
    by : (o : Option Choice) → pick a needs made need ≡ o → option_and_then (λ choice. chosen a needs left (made ++ choice ∷ [])) o ≡ Some choices
        → ((choice : Choice) → chosen a needs left (made ++ choice ∷ []) ≡ Some choices → (rest : List Choice) × (choices ≡ (made ++ choice ∷ []) ++ rest) × AreFor a needs (made ++ choice ∷ []) left rest)
        → (rest : List Choice) × (choices ≡ made ++ rest) × AreFor a needs made (need ∷ left) rest
    by None p e again = cc
    by (Some choice) p e again =
        let k = again choice e in
        (choice ∷ k.0, k.1 ∙ append_assoc made (choice ∷ []) k.0, (picked a needs made need choice p, k.2))

pub choices-are-for : ChoicesAreForNeeds
choices-are-for a needs choices e =
    let k = chosen-after a needs needs [] choices e in
    subst (AreFor a needs [] needs) (sym k.1) k.2
