-- One fix more is done, and those before it stay done.
use Rattle.std.proofs.Common.{◌≡◌, ℕ, ◌+◌, ◌*◌, ◌<◌, ◌≤◌, inl, inr, List, length, get_or, Option, Some, pos, ◌+ℤ◌, ◌*ℤ◌, refl, ap, subst, ◌∙◌, arith, below_more}
use Rattle.std.proofs.lemmas.List.{get_or_default}
use Rattle.lg_base.specs.Fields.{part, signed}
use Rattle.lg_base.specs.Immediates.{branch_bits, jump_bits}
use Rattle.lg_base.specs.WordFronts.{word_at}
use Rattle.lg_buf.specs.declared.fixes.FixKind.{FixKind}
use Rattle.lg_buf.specs.declared.fixes.FixKind.TheVariants.{X86Rel8, X86Rel32, X86Abs32, A64Branch26, A64Cond19, A64MovPair, RvBranch, RvJal, RvLuiAddi, RvAuipcJalr}
use Rattle.lg_buf.specs.declared.fixes.Fix.{Fix}
use Rattle.lg_buf.specs.FixFields.{fix_len, field_number, field_rest, branch_rest, cond_rest, move_rest}
use Rattle.lg_buf.specs.Fixing.{Patched, origin_of}
use Rattle.lg_buf.specs.Buffers.{AreApart, IsOutside, IsDone, AreDone, place_of}

module _ (new old : List ℕ) where
  -- the count bytes from the place on are the same
  abbrev SameIn : ℕ → ℕ → Type 0
  SameIn place count = (i : ℕ) → place ≤ i → i < place + count → get_or new i 0 ≡ get_or old i 0

  word_same : (place : ℕ) → SameIn place 4 → word_at new place ≡ word_at old place
  word_same place same =
      let a = same place (omega arith) (omega arith) in let b = same (place + 1) (omega arith) (omega arith) in
      let c = same (place + 2) (omega arith) (omega arith) in let d = same (place + 3) (omega arith) (omega arith) in
      λ j. a j + 256 * b j + 65536 * c j + 16777216 * d j

  first_same : (place : ℕ) → SameIn place 8 → word_at new place ≡ word_at old place
  first_same place same = word_same place (λ i from to. same i from (omega arith))

  second_same : (place : ℕ) → SameIn place 8 → word_at new (place + 4) ≡ word_at old (place + 4)
  second_same place same = word_same (place + 4) (λ i from to. same i (omega arith) (omega arith))

  -- the field's number and the rest are the same where the fix's bytes are
  pub number_same : (kind : FixKind) (place : ℕ) → SameIn place (fix_len kind) → field_number kind new place ≡ field_number kind old place
  number_same X86Rel8 place same = ap (signed 128) (same place (omega arith) (omega arith))
  number_same X86Rel32 place same = ap (signed 2147483648) (word_same place same)
  number_same X86Abs32 place same = ap pos (word_same place same)
  number_same A64Branch26 place same = ap (λ w. signed 33554432 (part 0 26 w) *ℤ pos 4) (word_same place same)
  number_same A64Cond19 place same = ap (λ w. signed 262144 (part 5 19 w) *ℤ pos 4) (word_same place same)
  number_same A64MovPair place same = λ j. pos (part 5 16 (first_same place same j) + part 5 16 (second_same place same j) * 65536)
  number_same RvBranch place same = ap (λ w. signed 4096 (branch_bits w)) (word_same place same)
  number_same RvJal place same = ap (λ w. signed 1048576 (jump_bits w)) (word_same place same)
  number_same RvLuiAddi place same = λ j. (signed 524288 (part 12 20 (first_same place same j)) *ℤ pos 4096) +ℤ signed 2048 (part 20 12 (second_same place same j))
  number_same RvAuipcJalr place same = λ j. (signed 524288 (part 12 20 (first_same place same j)) *ℤ pos 4096) +ℤ signed 2048 (part 20 12 (second_same place same j))

  pub rest_same : (kind : FixKind) (place : ℕ) → SameIn place (fix_len kind) → field_rest kind new place ≡ field_rest kind old place
  rest_same A64Branch26 place same = ap (λ w. (part 26 6 w, 0)) (word_same place same)
  rest_same A64Cond19 place same = ap (λ w. (cond_rest w, 0)) (word_same place same)
  rest_same A64MovPair place same = λ j. (move_rest (first_same place same j), move_rest (second_same place same j))
  rest_same RvBranch place same = ap (λ w. (branch_rest w, 0)) (word_same place same)
  rest_same RvJal place same = ap (λ w. (part 0 12 w, 0)) (word_same place same)
  rest_same RvLuiAddi place same = λ j. (part 0 12 (first_same place same j), part 0 20 (second_same place same j))
  rest_same RvAuipcJalr place same = λ j. (part 0 12 (first_same place same j), part 0 20 (second_same place same j))
  rest_same other place same = refl

-- a byte of one fix is none of a fix that is apart
byte_outside : (i : ℕ) (f g : Fix) → AreApart f g → f.place ≤ i → i < f.place + fix_len f.kind → IsOutside i g
byte_outside i f g (inl after) from to = inr (omega arith)
byte_outside i f g (inr before) from to = inl (omega arith)

apart_sym : (f g : Fix) → AreApart f g → AreApart g f
apart_sym f g (inl after) = inr after
apart_sym f g (inr before) = inl before

pub one_more : (labels : List (Option ℕ)) (fixes : List Fix) (n target : ℕ) (e : Fix) (old mid new : List ℕ) → n < length fixes
    → ((d : Fix) (j : ℕ) → j < n → (c : Fix) → AreApart (get_or fixes j c) (get_or fixes n d))
    → place_of labels (get_or fixes n e).label.0 ≡ Some target
    → Patched (get_or fixes n e).kind (get_or fixes n e).place target mid new
    → AreDone labels fixes n old mid → AreDone labels fixes (n + 1) old new
one_more labels fixes n target e old mid new inside apart bound patched done =
    let f : Fix = get_or fixes n e in record {
      long = patched.long ∙ done.long;
      others = λ i outside. patched.others i (outside n (omega arith) e) ∙ done.others i (λ k below d. outside k (omega arith) d);
      each = below_more _ _
          (λ k below d.
          let g : Fix = get_or fixes k d in let was = done.each k below d in
          let same = λ (i : ℕ) (from : g.place ≤ i) (to : i < g.place + fix_len g.kind). patched.others i (byte_outside i g f (apart e k below d) from to) in
          (was.0, was.1, ap (λ z. pos (origin_of g.kind g.place) +ℤ z) (number_same new mid g.kind g.place same) ∙ was.2, rest_same new mid g.kind g.place same ∙ was.3))
          (λ d. subst (IsDone labels old new) (get_or_default fixes n e d inside)
          (target, bound, patched.fixed, patched.rest ∙ rest_same mid old f.kind f.place (λ i from to. done.others i (λ k below d. byte_outside i f (get_or fixes k d) (apart_sym (get_or fixes k d) f (apart e k below d)) from to))));
    }
