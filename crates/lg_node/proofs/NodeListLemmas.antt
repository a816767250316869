-- What is kept of a list of nodes and of its labels as they grow.
use Rattle.std.proofs.Common.{◌≡◌, ◌⊎◌, inl, inr, ℕ, ◌+◌, ◌<◌, ◌≤◌, Bool, true, false, not, ◌||◌, cond, if◌then◌else◌, List, [], ◌∷◌, ◌++◌, Option, Some, None, refl, ap, subst, ◌∙◌, nat_lt, length, length-append, map, position, arith}
use Rattle.std.proofs.lemmas.Bool.{cases_lt}
use Rattle.std.specs.List.{All, list_any, position_or_len}
use Rattle.std.specs.Str.{bytes_eq}
use Rattle.std.proofs.lemmas.List.Elements.{All-push}
use Rattle.lg_node.specs.Nodes.{mentioned}
use Rattle.lg_op.specs.declared.node.Node.{Node}
use Rattle.lg_node.specs.declared.place.Place.{Place}

pub longer : {A : Type 0} → (xs ys : List A) (x : A) → ys ≡ xs ++ x ∷ [] → length ys ≡ length xs + 1
longer xs ys x e = ap length e ∙ length-append xs (x ∷ [])

pub all_longer : {A : Type 0} (P : A → Type 0) (xs ys : List A) (x : A) → ys ≡ xs ++ x ∷ [] → All P xs → P x → All P ys
all_longer P xs ys x e all p = rw e (All-push P xs x all p)

module _ {K : Type 0} (test : K → Bool) where
  -- a place that is found is the first at which the test holds
  pub found_at : (ks : List K) (i : ℕ) → position test ks ≡ Some i → position_or_len test ks ≡ i
  found_at ks i e = by _ refl e
    where
      by : (b : Bool) → nat_lt (position_or_len test ks) (length ks) ≡ b → cond b (Some (position_or_len test ks)) None ≡ Some i → position_or_len test ks ≡ i
      by true t e = cc
      by false t e = cc

-- words are held as keys, each with its bytes
module _ {K : Type 0} (bytes_of : K → List ℕ) (q : List ℕ) where
  pub any-map : (ks : List K) → list_any (bytes_eq q) (map bytes_of ks) ≡ list_any (λ k. bytes_eq q (bytes_of k)) ks
  any-map [] = refl
  any-map (k ∷ ks) = ap (λ b. bytes_eq q (bytes_of k) || b) (any-map ks)

  pub place-map : (ks : List K) → position_or_len (bytes_eq q) (map bytes_of ks) ≡ position_or_len (λ k. bytes_eq q (bytes_of k)) ks
  place-map [] = refl
  place-map (k ∷ ks) = ap (λ n. cond (not (bytes_eq q (bytes_of k))) (1 + n) 0) (place-map ks)

  pub map-push : (xs : List K) (k : K) → bytes_of k ≡ q → map bytes_of (xs ++ k ∷ []) ≡ map bytes_of xs ++ q ∷ []
  map-push [] k same = ap (λ w. w ∷ []) same
  map-push (x ∷ xs) k same = ap (λ l. bytes_of x ∷ l) (map-push xs k same)

  -- the keys after a word that was not there
  pub keys-new : (ks new : List K) (k : K) → bytes_of k ≡ q → list_any (λ x. bytes_eq q (bytes_of x)) ks ≡ false → new ≡ (if list_any (λ x. bytes_eq (bytes_of k) (bytes_of x)) ks then ks else ks ++ k ∷ []) → new ≡ ks ++ k ∷ []
  keys-new ks new k same absent e = e ∙ ap (λ b. if b then ks else ks ++ k ∷ []) (ap (λ w. list_any (λ x. bytes_eq w (bytes_of x)) ks) same ∙ absent)

  pub mentioned-new : (ks : List K) (nodes : List Node) (places : List (Option Place)) → list_any (λ x. bytes_eq q (bytes_of x)) ks ≡ false → mentioned record { nodes = nodes; words = map bytes_of ks; places = places } q ≡ record { nodes = nodes; words = map bytes_of ks ++ q ∷ []; places = places ++ None ∷ [] }
  mentioned-new ks nodes places absent = rw (any-map ks, absent) refl

-- what holds of a number and of all before it holds of all before the next
pub up_to : (P : ℕ → Type 0) (n : ℕ) → ((k : ℕ) → k < n → P k) → P n → (k : ℕ) → k < n + 1 → P k
up_to P n below at k h = by (cases_lt k n)
  where
    by : (k < n) ⊎ (n ≤ k) → P k
    by (inl less) = below k less
    by (inr more) = subst P (omega (arith, more, h)) at
