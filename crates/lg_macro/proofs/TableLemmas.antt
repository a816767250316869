-- The names beside the macros of a table are theirs, in the same order.
use Rattle.std.proofs.Common.{◌≡◌, ℕ, suc, ◌+◌, ◌<◌, arith, nat_lt, Bool, true, false, not, cond, List, [], ◌∷◌, ◌++◌, Some, None, is_some, refl, sym, ap, ◌∙◌, map, position, take, drop, length}
use Rattle.std.specs.Prelude.{◌||◌}
use Rattle.std.specs.List.{list_any, position_or_len, remove, drop-map}
use Rattle.std.specs.Set.{remove_key}
use Rattle.std.specs.Str.{bytes_eq}
use Rattle.std.proofs.lemmas.List.{length-map, map-append, take-map}
use Rattle.std.proofs.lemmas.Option.{same_Some}
use Rattle.std.proofs.lemmas.Bool.{true≢false}

module _ {K : Type 0} (bytes_of : K → List ℕ) (q : List ℕ) where
  place-map : (ks : List K) → position_or_len (bytes_eq q) (map bytes_of ks) ≡ position_or_len (λ k. bytes_eq q (bytes_of k)) ks
  place-map [] = refl
  place-map (k ∷ ks) = ap (λ n. cond (not (bytes_eq q (bytes_of k))) (1 + n) 0) (place-map ks)

  -- the place of a name among what has names
  held : (ks : List K) → position (bytes_eq q) (map bytes_of ks) ≡ position (λ k. bytes_eq q (bytes_of k)) ks
  held ks = rw (place-map ks, length-map ks bytes_of) refl

module _ {K : Type 0} (test : K → Bool) where
  -- what passes a test is taken out at the first place where it passes
  removed-at : (ks : List K) → position_or_len test ks < length ks → remove_key test ks ≡ remove ks (position_or_len test ks)
  removed-at [] lt = absurd (omega (arith, lt))
  removed-at (k ∷ ks) lt = by (test k) refl (removed-at ks)
    where
      by : (b : Bool) → test k ≡ b → (position_or_len test ks < length ks → remove_key test ks ≡ remove ks (position_or_len test ks))
          → cond (test k) ks (k ∷ remove_key test ks) ≡ remove (k ∷ ks) (position_or_len test (k ∷ ks))
      by true e rest = rw e refl
      by false e rest =
          let m : cond (not (test k)) (1 + position_or_len test ks) 0 < length (k ∷ ks) = lt in
          let f : cond (not (test k)) (1 + position_or_len test ks) 0 ≡ 1 + position_or_len test ks = rw e refl in
          let p : cond (not (test k)) (1 + position_or_len test ks) 0 ≡ suc (position_or_len test ks) = omega (arith, f) in
          ap (λ b. cond b ks (k ∷ remove_key test ks)) e ∙ ap (λ l. k ∷ l) (rest (omega (arith, m, f))) ∙ sym (ap (remove (k ∷ ks)) p)

  pub removed : (ks : List K) (i : ℕ) → position test ks ≡ Some i → remove_key test ks ≡ remove ks i
  removed ks i e = by (nat_lt (position_or_len test ks) (length ks)) refl e
    where
      by : (b : Bool) → nat_lt (position_or_len test ks) (length ks) ≡ b → cond b (Some (position_or_len test ks)) None ≡ Some i → remove_key test ks ≡ remove ks i
      by true t e = removed-at ks (grind (arith, t)) ∙ ap (remove ks) (same_Some (position_or_len test ks) i e)
      by false t e = cc

  -- where nothing passes there is no place
  none-at : (ks : List K) → list_any test ks ≡ false → position_or_len test ks ≡ length ks
  none-at [] e = refl
  none-at (k ∷ ks) e = by (test k) refl e (none-at ks)
    where
      by : (b : Bool) → test k ≡ b → (test k || list_any test ks) ≡ false → (list_any test ks ≡ false → position_or_len test ks ≡ length ks)
          → cond (not (test k)) (1 + position_or_len test ks) 0 ≡ length (k ∷ ks)
      by true f e rest = absurd (true≢false (sym (ap (λ b. b || list_any test ks) f) ∙ e))
      by false f e rest = let n = rest (ap (λ b. b || list_any test ks) (sym f) ∙ e) in rw f (omega (arith, n))

  pub none : (ks : List K) → list_any test ks ≡ false → position test ks ≡ None
  none ks e = rw (none-at ks e) (grind arith)

  -- and nothing passes where there is none
  some-at : (ks : List K) → list_any test ks ≡ true → position_or_len test ks < length ks
  some-at [] e = cc
  some-at (k ∷ ks) e = by (test k) refl e (some-at ks)
    where
      by : (b : Bool) → test k ≡ b → (test k || list_any test ks) ≡ true → (list_any test ks ≡ true → position_or_len test ks < length ks)
          → cond (not (test k)) (1 + position_or_len test ks) 0 < length (k ∷ ks)
      by true f e rest = rw f (omega arith)
      by false f e rest = let lt = rest (ap (λ b. b || list_any test ks) (sym f) ∙ e) in rw f (omega (arith, lt))

  -- so something passes just where there is a place
  is-among : (ks : List K) → list_any test ks ≡ is_some (position test ks)
  is-among ks = by (list_any test ks) refl
    where
      by : (b : Bool) → list_any test ks ≡ b → list_any test ks ≡ is_some (position test ks)
      by false f = f ∙ sym (ap is_some (none ks f))
      by true f =
          let lt = some-at ks f in
          let there : nat_lt (position_or_len test ks) (length ks) ≡ true = grind (arith, lt) in
          f ∙ sym (ap (λ b. is_some (cond b (Some (position_or_len test ks)) None)) there)

module _ {K M : Type 0} (bytes_of : K → List ℕ) (name_of : M → List ℕ) where
  -- it is the same in both lists
  pub same-place : (q : List ℕ) (ks : List K) (ms : List M) → map bytes_of ks ≡ map name_of ms
      → position (λ k. bytes_eq q (bytes_of k)) ks ≡ position (λ m. bytes_eq q (name_of m)) ms
  same-place q ks ms e = sym (held bytes_of q ks) ∙ ap (position (bytes_eq q)) e ∙ held name_of q ms

  -- and it is in both or in none; `added` says whether it was not there, so that it is there now
  pub was-there : (q : List ℕ) (ks : List K) (ms : List M) (added : Bool) → map bytes_of ks ≡ map name_of ms
      → added ≡ not (list_any (λ k. bytes_eq q (bytes_of k)) ks) → is_some (position (λ m. bytes_eq q (name_of m)) ms) ≡ not added
  was-there q ks ms added e is = sym (ap not is ∙ not-not (list_any (λ k. bytes_eq q (bytes_of k)) ks) ∙ is-among (λ k. bytes_eq q (bytes_of k)) ks ∙ ap is_some (same-place q ks ms e))
    where
      not-not : (b : Bool) → not (not b) ≡ b
      not-not true = refl
      not-not false = refl

  -- where one is taken out of both, or put after both, they stay so
  pub one-out : (i : ℕ) (ks : List K) (ms : List M) → map bytes_of ks ≡ map name_of ms → map bytes_of (remove ks i) ≡ map name_of (remove ms i)
  one-out i ks ms e = removed bytes_of ks ∙ ap (λ l. remove l i) e ∙ sym (removed name_of ms)
    where
      removed : {X : Type 0} (f : X → List ℕ) (xs : List X) → map f (remove xs i) ≡ remove (map f xs) i
      removed f xs = map-append f (take i xs) (drop (suc i) xs) ∙ ap (λ l. l ++ map f (drop (suc i) xs)) (sym (take-map f i xs)) ∙ ap (λ l. take i (map f xs) ++ l) (sym (drop-map f (suc i) xs))

  pub one-more : (k : K) (m : M) (ks : List K) (ms : List M) → bytes_of k ≡ name_of m → map bytes_of ks ≡ map name_of ms → map bytes_of (ks ++ k ∷ []) ≡ map name_of (ms ++ m ∷ [])
  one-more k m ks ms same e = map-append bytes_of ks (k ∷ []) ∙ ap (λ l. l ++ bytes_of k ∷ []) e ∙ ap (λ b. map name_of ms ++ b ∷ []) same ∙ sym (map-append name_of ms (m ∷ []))
