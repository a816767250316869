-- Lists of items.
use Rattle.std.proofs.Common.{◌≡◌, ℕ, ◌+◌, ◌<◌, ◌≤◌, Bool, true, false, List, [], ◌∷◌, ◌++◌, length, refl, ap, sym, ◌∙◌, add_assoc, zero-add, append_assoc, arith, length-append}
use Rattle.std.specs.Prelude.{◌||◌}
use Rattle.std.specs.List.{All, list_any}
use Rattle.std.proofs.lemmas.List.Elements.{All-head, All-tail}
use Rattle.lg_carry.specs.Blocks.{spellings}
use Rattle.lg_sel.specs.Holes.{Holes, words_in, blanks, settled, fixes_of, Each, ones}

-- ---- instructions
pub spellings-append : {I : Type 0} (spelling : I → List ℕ) (is js : List I) → spellings spelling (is ++ js) ≡ spellings spelling is ++ spellings spelling js
spellings-append spelling [] js = refl
spellings-append spelling (i ∷ is) js = ap (λ l. spelling i ++ l) (spellings-append spelling is js)
    ∙ sym (append_assoc (spelling i) (spellings spelling is) (spellings spelling js))

-- ---- two lists in a row
pub any-front : (p : ℕ → Bool) (xs ys : List ℕ) → list_any p xs ≡ true → list_any p (xs ++ ys) ≡ true
any-front p [] ys h = cc
any-front p (x ∷ xs) ys h = by (p x) (any-front p xs ys) h
  where
    by : (b : Bool) → (list_any p xs ≡ true → list_any p (xs ++ ys) ≡ true) → (b || list_any p xs) ≡ true → (b || list_any p (xs ++ ys)) ≡ true
    by true rest h = refl
    by false rest h = rest h

pub each-append : {L : Type 0} (P : L → Type 0) (xs ys : List L) → Each P xs → Each P ys → Each P (xs ++ ys)
each-append P [] ys a b = b
each-append P (x ∷ xs) ys a b = (a.0, each-append P xs ys a.1 b)

pub each-weaker : {L : Type 0} (P R : L → Type 0) → ((x : L) → P x → R x) → (xs : List L) → Each P xs → Each R xs
each-weaker P R less [] h = tt
each-weaker P R less (x ∷ xs) h = (less x h.0, each-weaker P R less xs h.1)

pub ones-append : {L I : Type 0} (one : I → L) (is js : List I) → ones one (is ++ js) ≡ ones one is ++ ones one js
ones-append one [] js = refl
ones-append one (i ∷ is) js = ap (λ l. one i ∷ l) (ones-append one is js)

module _ {L I : Type 0} (H : Holes L I) where
  pub words_append : (xs ys : List L) → words_in H (xs ++ ys) ≡ words_in H xs + words_in H ys
  words_append [] ys = sym (zero-add (words_in H ys))
  words_append (x ∷ xs) ys = ap (λ n. H.words x + n) (words_append xs ys) ∙ sym (add_assoc (H.words x) (words_in H xs) (words_in H ys))

  pub settled-append : (to : ℕ → ℕ) (p : ℕ) (xs ys : List L) → settled H to p (xs ++ ys) ≡ settled H to p xs ++ settled H to (p + length (blanks H xs)) ys
  settled-append to p [] ys = let z : p ≡ p + 0 = omega arith in ap (λ a. settled H to a ys) z
  settled-append to p (x ∷ xs) ys =
      let q = p + length (H.blank x) in
      let size = length-append (H.blank x) (blanks H xs) in
      let z : q + length (blanks H xs) ≡ p + length (blanks H (x ∷ xs)) = omega (arith, size) in
      ap (λ l. H.settle to p x ++ l) (settled-append to q xs ys ∙ ap (λ a. settled H to q xs ++ settled H to a ys) z)
      ∙ sym (append_assoc (H.settle to p x) (settled H to q xs) (settled H to (p + length (blanks H (x ∷ xs))) ys))

  pub fixes-append : (p : ℕ) (xs ys : List L) → fixes_of H p (xs ++ ys) ≡ fixes_of H p xs ++ fixes_of H (p + length (blanks H xs)) ys
  fixes-append p [] ys = let z : p ≡ p + 0 = omega arith in ap (λ a. fixes_of H a ys) z
  fixes-append p (x ∷ xs) ys =
      let q = p + length (H.blank x) in
      let size = length-append (H.blank x) (blanks H xs) in
      let z : q + length (blanks H xs) ≡ p + length (blanks H (x ∷ xs)) = omega (arith, size) in
      ap (λ l. H.fix_of p x ++ l) (fixes-append q xs ys ∙ ap (λ a. fixes_of H q xs ++ fixes_of H a ys) z)
      ∙ sym (append_assoc (H.fix_of p x) (fixes_of H q xs) (fixes_of H (p + length (blanks H (x ∷ xs))) ys))

  -- each item has an instruction
  pub length_words : ((x : L) → 0 < H.words x) → (xs : List L) → length xs ≤ words_in H xs
  length_words some [] = omega arith
  length_words some (x ∷ xs) = let h = length_words some xs in let s = some x in omega (arith, h, s)

  -- ---- instructions that name no label
  module _ (one : I → L) where
    pub words-ones : ((i : I) → H.words (one i) ≡ 1) → (is : List I) → words_in H (ones one is) ≡ length is
    words-ones single [] = refl
    words-ones single (i ∷ is) = let h = words-ones single is in let s = single i in omega (arith, h, s)

    pub settled-ones : ((to : ℕ → ℕ) (p : ℕ) (i : I) → H.settle to p (one i) ≡ i ∷ []) → (to : ℕ → ℕ) (p : ℕ) (is : List I) → settled H to p (ones one is) ≡ is
    settled-ones same to p [] = refl
    settled-ones same to p (i ∷ is) =
        let q = p + length (H.blank (one i)) in
        ap (λ l. l ++ settled H to q (ones one is)) (same to p i) ∙ ap (λ l. i ∷ l) (settled-ones same to q is)

    pub fixes-ones : ((p : ℕ) (i : I) → H.fix_of p (one i) ≡ []) → (p : ℕ) (is : List I) → fixes_of H p (ones one is) ≡ []
    fixes-ones none p [] = refl
    fixes-ones none p (i ∷ is) =
        let q = p + length (H.blank (one i)) in
        ap (λ l. l ++ fixes_of H q (ones one is)) (none p i) ∙ fixes-ones none q is

-- ---- a fact of each instruction is one of each item
module _ {L I : Type 0} (P : L → Type 0) (one : I → L) where
  pub each-ones : (R : I → Type 0) → ((i : I) → R i → P (one i)) → (is : List I) → Each R is → Each P (ones one is)
  each-ones R less [] h = tt
  each-ones R less (i ∷ is) h = (less i h.0, each-ones R less is h.1)

  pub all-ones : (R : I → Type 0) → ((i : I) → R i → P (one i)) → (is : List I) → All R is → Each P (ones one is)
  all-ones R less [] h = tt
  all-ones R less (i ∷ is) h = (less i (All-head R i is h), all-ones R less is (All-tail R i is h))

  pub any-ones : ((i : I) → P (one i)) → (is : List I) → Each P (ones one is)
  any-ones h [] = tt
  any-ones h (i ∷ is) = (h i, any-ones h is)
