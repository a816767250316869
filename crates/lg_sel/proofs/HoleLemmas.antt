-- Items that are in a buffer become instructions when its fixes are patched.
use Rattle.std.proofs.Common.{◌≡◌, ℕ, ◌+◌, ◌<◌, ◌≤◌, inl, inr, List, [], ◌∷◌, ◌++◌, length, drop, get_or, Option, refl, sym, ap, subst, ◌∙◌, arith}
use Rattle.std.proofs.Common.{append_assoc, length-append}
use Rattle.std.proofs.Math.Seq.{get_or-append_seam}
use Rattle.std.specs.List.{All}
use Rattle.std.proofs.lemmas.List.{drop-drop}
use Rattle.std.proofs.lemmas.List.Elements.{All-nil, All-cons, All-append, All-weaker}
use Rattle.lg_base.specs.Layout.{code_base}
use Rattle.lg_buf.specs.declared.fixes.Fix.{Fix}
use Rattle.lg_buf.specs.Buffers.{AreDone, IsDone, IsOutside}
use Rattle.lg_carry.specs.Blocks.{spellings}
use Rattle.lg_cpu.specs.Laws.{AreBytes}
use Rattle.lg_sel.proofs.ListLemmas.{spellings-append}
use Rattle.lg_sel.specs.Holes.{Holes, words_in, blanks, settled, fixes_of, Each, IsWithin, IsApartFrom, HaveAddresses, IsPatched, IsSettled, AreHoles}
use Rattle.lg_sel.specs.Holes.{StandAt, ItemsAreSettled}

-- what is after a list
dropped : (xs ys : List ℕ) → drop (length xs) (xs ++ ys) ≡ ys
dropped [] ys = refl
dropped (x ∷ xs) ys = dropped xs ys

apart-less : (p q n m : ℕ) → p ≤ q → q + m ≤ p + n → (f : Fix) → IsApartFrom p n f → IsApartFrom q m f
apart-less p q n m from to f (inl h) = inl (omega arith)
apart-less p q n m from to f (inr h) = inr (omega arith)

apart-outside : (p n i : ℕ) → p ≤ i → i < p + n → (f : Fix) → IsApartFrom p n f → IsOutside i f
apart-outside p n i from to f (inl h) = inr (omega arith)
apart-outside p n i from to f (inr h) = inl (omega arith)

module _ {L I : Type 0} (H : Holes L I) (spelling : I → List ℕ) (fits : I → Type 0) (is_item : L → Type 0) (ok : AreHoles H spelling fits is_item) where
  -- as many instructions as the items say
  pub settled-words : (to : ℕ → ℕ) (p : ℕ) (xs : List L) → Each is_item xs → length (settled H to p xs) ≡ words_in H xs
  settled-words to p [] each = refl
  settled-words to p (x ∷ xs) each =
      let q = p + length (H.blank x) in
      let size = length-append (H.settle to p x) (settled H to q xs) in
      let here = ok.counted to p x each.0 in let rest = settled-words to q xs each.1 in omega (arith, size, here, rest)

  -- and as many bytes as were emitted
  pub settled-bytes : (to : ℕ → ℕ) (p : ℕ) (xs : List L) → Each is_item xs → length (spellings spelling (settled H to p xs)) ≡ length (blanks H xs)
  settled-bytes to p [] each = refl
  settled-bytes to p (x ∷ xs) each =
      let q = p + length (H.blank x) in
      let split = ap length (spellings-append spelling (H.settle to p x) (settled H to q xs)) in
      let sum = length-append (spellings spelling (H.settle to p x)) (spellings spelling (settled H to q xs)) in
      let size = length-append (H.blank x) (blanks H xs) in
      let here = ok.long to p x each.0 in let rest = settled-bytes to q xs each.1 in omega (arith, split, sum, size, here, rest)

  -- the fixes of items lie after the place where they begin
  fixes-after : (p q : ℕ) (items : List L) → Each is_item items → q ≤ p → All (λ f. q ≤ f.place) (fixes_of H p items)
  fixes-after p q [] each h = All-nil (λ f. q ≤ f.place)
  fixes-after p q (x ∷ xs) each h =
      All-append (λ f. q ≤ f.place) (H.fix_of p x) (fixes_of H (p + length (H.blank x)) xs)
      (All-weaker (IsWithin p (length (H.blank x))) (λ f. q ≤ f.place) (λ f w. omega (arith, w.0, h)) (H.fix_of p x) (ok.within p x each.0))
      (fixes-after (p + length (H.blank x)) q xs each.1 (omega (arith, h)))

  -- the fixes of an item have none of the bytes after it
  fixes-apart : (p n : ℕ) (x : L) → is_item x → All (IsApartFrom (p + length (H.blank x)) n) (H.fix_of p x)
  fixes-apart p n x item = All-weaker (IsWithin p (length (H.blank x))) (IsApartFrom (p + length (H.blank x)) n) (λ f w. inl w.1) (H.fix_of p x)
      (ok.within p x item)

  -- the items after the first
  next : (emitted : List ℕ) (fixes : List Fix) (p : ℕ) (x : L) (xs : List L) → is_item x → StandAt H emitted fixes p (x ∷ xs)
      → StandAt H emitted fixes (p + length (H.blank x)) xs
  next emitted fixes p x xs item s =
      let q = p + length (H.blank x) in
      let size = length-append (H.blank x) (blanks H xs) in
      let less = apart-less p q (length (blanks H (x ∷ xs))) (length (blanks H xs)) (omega arith) (omega (arith, size)) in
      record {
        rest = s.rest;
        bytes = sym (drop-drop (length (H.blank x)) p emitted) ∙ ap (drop (length (H.blank x))) (s.bytes ∙ append_assoc (H.blank x) (blanks H xs) s.rest)
            ∙ dropped (H.blank x) (blanks H xs ++ s.rest);
        before = s.before ++ H.fix_of p x;
        behind = s.behind;
        fixes = s.fixes ∙ simp append_assoc;
        apart_before = All-append (IsApartFrom q (length (blanks H xs))) s.before (H.fix_of p x)
            (All-weaker (IsApartFrom p (length (blanks H (x ∷ xs)))) (IsApartFrom q (length (blanks H xs))) less s.before s.apart_before)
            (fixes-apart p (length (blanks H xs)) x item);
        apart_after = All-weaker (IsApartFrom p (length (blanks H (x ∷ xs)))) (IsApartFrom q (length (blanks H xs))) less s.behind s.apart_after;
      }

  module _ (labels : List (Option ℕ)) (fixes : List Fix) (emitted finished : List ℕ) (to : ℕ → ℕ) (done : AreDone labels fixes (length fixes) emitted finished)
      (small : AreBytes finished) (addresses : HaveAddresses labels to) where
    -- a fix among those of the buffer is done
    fix-done : (before rest : List Fix) (f : Fix) → fixes ≡ before ++ f ∷ rest → IsDone labels emitted finished f
    fix-done before rest f e =
        subst (IsDone labels emitted finished) (ap (λ l. get_or l (length before) f) e ∙ get_or-append_seam before f rest f)
        (done.each (length before) (let l = ap length e in let a = length-append before (f ∷ rest) in omega (arith, l, a)) f)

    all-done : (before own rest : List Fix) → fixes ≡ before ++ (own ++ rest) → All (IsDone labels emitted finished) own
    all-done before [] rest e = All-nil (IsDone labels emitted finished)
    all-done before (f ∷ own) rest e = All-cons (IsDone labels emitted finished) f own (fix-done before (own ++ rest) f e)
        (all-done (before ++ f ∷ []) own rest (e ∙ simp append_assoc))

    patched : (p : ℕ) (x : L) (xs : List L) → is_item x → Each is_item xs → StandAt H emitted fixes p (x ∷ xs) → IsPatched H labels emitted finished p x
    patched p x xs item each s =
        let q = p + length (H.blank x) in
        let size = length-append (H.blank x) (blanks H xs) in
        record {
          rest = blanks H xs ++ s.rest;
          stands = s.bytes ∙ append_assoc (H.blank x) (blanks H xs) s.rest;
          long = done.long;
          bytes = small;
          done = all-done s.before (H.fix_of p x) (fixes_of H q xs ++ s.behind)
              (s.fixes ∙ ap (λ l. s.before ++ l) (append_assoc (H.fix_of p x) (fixes_of H q xs) s.behind));
          others = λ i from below own.
              let inside : i < p + length (blanks H (x ∷ xs)) = omega (arith, below, size) in
              let before = All-weaker (IsApartFrom p (length (blanks H (x ∷ xs)))) (IsOutside i)
              (apart-outside p (length (blanks H (x ∷ xs))) i from inside) s.before s.apart_before in
              let after = All-weaker (IsApartFrom p (length (blanks H (x ∷ xs)))) (IsOutside i)
              (apart-outside p (length (blanks H (x ∷ xs))) i from inside) s.behind s.apart_after in
              let later = All-weaker (λ f. q ≤ f.place) (IsOutside i) (λ f h. inl (omega (arith, h, below))) (fixes_of H q xs)
              (fixes-after q q xs each (omega arith)) in
              let all : All (IsOutside i) fixes = subst (All (IsOutside i)) (sym s.fixes)
              (All-append (IsOutside i) s.before (fixes_of H p (x ∷ xs) ++ s.behind) before
              (All-append (IsOutside i) (fixes_of H p (x ∷ xs)) s.behind (All-append (IsOutside i) (H.fix_of p x) (fixes_of H q xs) own later) after)) in
              done.others i (λ k lt d. all k d lt);
        }

    pub settle-all : (p : ℕ) (items : List L) → Each is_item items → StandAt H emitted fixes p items
        → IsSettled spelling fits finished p (p + length (blanks H items)) (settled H to (code_base + p) items)
    settle-all p [] each s = record { stands = (let z : p ≡ p + 0 = omega arith in ap (λ n. drop n finished) z); fit = All-nil fits }
    settle-all p (x ∷ xs) each s =
        let q = p + length (H.blank x) in
        let here = ok.settles labels emitted finished to p x each.0 addresses (patched p x xs each.0 each.1 s) in
        let rest = settle-all q xs each.1 (next emitted fixes p x xs each.0 s) in
        let is : List I = H.settle to (code_base + p) x in
        let e : code_base + q ≡ code_base + p + length (H.blank x) = omega arith in
        let js : List I = settled H to (code_base + p + length (H.blank x)) xs in
        let size = length-append (H.blank x) (blanks H xs) in
        let z : q + length (blanks H xs) ≡ p + length (blanks H (x ∷ xs)) = omega (arith, size) in
        record {
          stands = here.stands ∙ ap (λ l. spellings spelling is ++ l)
              (rest.stands ∙ ap (λ a. spellings spelling (settled H to a xs) ++ drop (q + length (blanks H xs)) finished) e
              ∙ ap (λ n. spellings spelling js ++ drop n finished) z)
              ∙ sym (append_assoc (spellings spelling is) (spellings spelling js) (drop (p + length (blanks H (x ∷ xs))) finished))
              ∙ ap (λ l. l ++ drop (p + length (blanks H (x ∷ xs))) finished) (sym (spellings-append spelling is js));
          fit = All-append fits is js here.fit (subst (λ a. All fits (settled H to a xs)) e rest.fit);
        }

  pub items-are-settled : ItemsAreSettled H spelling fits is_item
  items-are-settled labels fixes emitted finished to place items done small addresses each s =
      settle-all labels fixes emitted finished to done small addresses place items each s
