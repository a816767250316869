-- The numbers of lines in two lists.
use Rattle.std.proofs.Common.{◌≡◌, ℕ, zero, suc, ◌+◌, ◌<◌, ◌≤◌, Bool, true, false, List, [], ◌∷◌, ◌++◌, take, drop, replicate, length, get_or, set, refl, sym, ap, ◌∙◌, subst, arith, inl, inr}
use Rattle.std.specs.Prelude.{◌==◌, if◌then◌else◌, slice_index_or}
use Rattle.std.proofs.lemmas.Bool.{cases_lt, eq-eqb}
use Rattle.std.proofs.lemmas.Grind.{get_or-set_at}
use Rattle.std.proofs.lemmas.List.{get_or-replicate, get_or-set_other, get_or_default, get_or_past, length-replicate}
use Rattle.std.proofs.Math.Seq.{take-append_seam}
use Rattle.lg_op.specs.declared.node.Node.{Node}
use Rattle.lg_prof.specs.Tallies.{AreBelow, no_counts, ran_at, spent_at, zipped}
use Rattle.lg_prof.specs.declared.tally.Counts.{Counts}

abbrev counts_of : (ran spent : ℕ) → Counts
counts_of r s = record { ran = r; spent = s }

-- one more at a place
pub more_at : (xs : List ℕ) (i x : ℕ) → i < length xs → x ≡ get_or xs i x → (j : ℕ) → get_or (set xs i (x + 1)) j 0 ≡ (if j == i then get_or xs j 0 + 1 else get_or xs j 0)
more_at xs i x lt read j = at (j == i) refl
  where
    at : (b : Bool) → (j == i) ≡ b → get_or (set xs i (x + 1)) j 0 ≡ (if b then get_or xs j 0 + 1 else get_or xs j 0)
    at true e =
        let same : j ≡ i = grind (arith, e) in
        get_or-set_at xs i j (x + 1) 0 same lt ∙ ap (λ y. y + 1) (read ∙ get_or_default xs i x 0 lt ∙ ap (λ k. get_or xs k 0) (sym same))
    at false e = get_or-set_other xs i j (x + 1) 0 (λ s. let t = sym e ∙ eq-eqb j i s in cc)

-- what a vector is after a slice of all of it was written
pub written_back : (xs ys : List ℕ) (len : ℕ) → len ≡ length ys → take len (ys ++ drop (length ys) xs) ≡ ys
written_back xs ys len e = ap (λ n. take n (ys ++ drop (length ys) xs)) e ∙ take-append_seam ys (drop (length ys) xs)

-- where there is a node, there is a line
pub some_line : (nodes : List Node) (at top : ℕ) → at < length nodes → AreBelow nodes top → 0 < top
some_line [] at top lt below = absurd (omega (arith, lt))
some_line (n ∷ nodes) at top lt below = let here = below 0 n refl in omega (arith, here)

-- there are as many
pub length_zipped : (ran spent : List ℕ) → length spent ≡ length ran → length (zipped ran spent) ≡ length ran
length_zipped [] [] same = refl
length_zipped [] (s ∷ spent) same = absurd (omega (arith, same))
length_zipped (r ∷ ran) [] same = absurd (omega (arith, same))
length_zipped (r ∷ ran) (s ∷ spent) same = let rest = length_zipped ran spent (omega (arith, same)) in omega (arith, rest)

-- those of a line
pub counts_at : (ran spent : List ℕ) → length spent ≡ length ran → (line : ℕ)
    → slice_index_or (zipped ran spent) line no_counts ≡ record { ran = slice_index_or ran line 0; spent = slice_index_or spent line 0 }
counts_at [] [] same line = refl
counts_at [] (s ∷ spent) same line = absurd (omega (arith, same))
counts_at (r ∷ ran) [] same line = absurd (omega (arith, same))
counts_at (r ∷ ran) (s ∷ spent) same zero = refl
counts_at (r ∷ ran) (s ∷ spent) same (suc line) = counts_at ran spent (omega (arith, same)) line

pub ran_zipped : (ran spent : List ℕ) → length spent ≡ length ran → (line : ℕ) → ran_at (zipped ran spent) line ≡ slice_index_or ran line 0
ran_zipped ran spent same line = ap (λ (x : Counts). x.ran) (counts_at ran spent same line)

pub spent_zipped : (ran spent : List ℕ) → length spent ≡ length ran → (line : ℕ) → spent_at (zipped ran spent) line ≡ slice_index_or spent line 0
spent_zipped ran spent same line = ap (λ (x : Counts). x.spent) (counts_at ran spent same line)

-- and of a tally, whose value they are
module _ (ran spent : List ℕ) (tally : List Counts) (same : length spent ≡ length ran) (is : zipped ran spent ≡ tally) where
  pub length_is : length tally ≡ length ran
  length_is = ap (λ (t : List Counts). length t) (sym is) ∙ length_zipped ran spent same

  pub ran_is : (line : ℕ) → ran_at tally line ≡ slice_index_or ran line 0
  ran_is line = ap (λ (t : List Counts). ran_at t line) (sym is) ∙ ran_zipped ran spent same line

  pub spent_is : (line : ℕ) → spent_at tally line ≡ slice_index_or spent line 0
  spent_is line = ap (λ (t : List Counts). spent_at t line) (sym is) ∙ spent_zipped ran spent same line

  -- the numbers of a line, as they were read
  pub counts_read : (line r s : ℕ) → r ≡ get_or ran line r → s ≡ get_or spent line s → line < length ran
      → ◌≡◌ {A = Counts} (record { ran = r; spent = s }) (slice_index_or tally line no_counts)
  counts_read line r s first second lt =
      let r' : r ≡ slice_index_or ran line 0 = first ∙ get_or_default ran line r 0 lt in
      let s' : s ≡ slice_index_or spent line 0 = second ∙ get_or_default spent line s 0 (omega (arith, same, lt)) in
      ap (λ (x : ℕ). counts_of x s) r' ∙ ap (λ (x : ℕ). counts_of (slice_index_or ran line 0) x) s' ∙ sym (counts_at ran spent same line) ∙ ap (λ (t : List Counts). slice_index_or t line no_counts) is

  pub counts_past : (line : ℕ) → length ran ≤ line → ◌≡◌ {A = Counts} (record { ran = 0; spent = 0 }) (slice_index_or tally line no_counts)
  counts_past line le =
      ap (λ (x : ℕ). counts_of x 0) (sym (get_or_past ran line 0 le)) ∙ ap (λ (x : ℕ). counts_of (slice_index_or ran line 0) x) (sym (get_or_past spent line 0 (omega (arith, same, le))))
      ∙ sym (counts_at ran spent same line) ∙ ap (λ (t : List Counts). slice_index_or t line no_counts) is

-- ---- numbers that are all 0
zeros_at : (n line : ℕ) → ◌≡◌ {A = ℕ} (get_or (replicate n 0) line 0) 0
zeros_at n line = elim (cases_lt line n) [
  | inl less ↦ get_or-replicate n line 0 0 less
  | inr other ↦ get_or_past (replicate n 0) line 0 (subst (λ k. k ≤ line) (sym (length-replicate n 0)) other)
]

module _ (ran spent : List ℕ) (n : ℕ) (first : ran ≡ replicate n 0) (second : spent ≡ replicate n 0) where
  pub zeros_length : length (zipped ran spent) ≡ n
  zeros_length = length_zipped ran spent (ap (λ (x : List ℕ). length x) (second ∙ sym first)) ∙ ap (λ (x : List ℕ). length x) first ∙ length-replicate n 0

  pub zeros_ran : (line : ℕ) → ran_at (zipped ran spent) line ≡ 0
  zeros_ran line = ran_zipped ran spent (ap (λ (x : List ℕ). length x) (second ∙ sym first)) line ∙ ap (λ x. get_or x line 0) first ∙ zeros_at n line

  pub zeros_spent : (line : ℕ) → spent_at (zipped ran spent) line ≡ 0
  zeros_spent line = spent_zipped ran spent (ap (λ (x : List ℕ). length x) (second ∙ sym first)) line ∙ ap (λ x. get_or x line 0) second ∙ zeros_at n line
