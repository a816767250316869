-- Sums of the numbers of lines.
use Rattle.std.proofs.Common.{◌≡◌, ℕ, zero, suc, ◌+◌, ◌-◌, ◌<◌, ◌≤◌, Bool, true, false, refl, sym, ap, ◌∙◌, arith, inl, inr, add-one}
use Rattle.std.specs.Prelude.{◌==◌, ◌&&◌, if◌then◌else◌}
use Rattle.std.proofs.lemmas.Bool.{cases_lt, eq-eqb}
use Rattle.lg_prof.specs.Counted.{all_made, counted, total}

pub counted_zero : (made : ℕ → Bool) (line_of : ℕ → ℕ) (line : ℕ) → counted made line_of line 0 ≡ 0
unfolding counted
counted_zero made line_of line = refl

-- one step more
pub counted_more : (made : ℕ → Bool) (line_of : ℕ → ℕ) (line n : ℕ) → counted made line_of line (suc n) ≡ counted made line_of line n + (if made n && line_of n == line then 1 else 0)
unfolding counted
counted_more made line_of line n = refl

-- the sum of sums
total_sum : (f g h : ℕ → ℕ) → ((line : ℕ) → f line ≡ g line + h line) → (top : ℕ) → total f top ≡ total g top + total h top
unfolding total
total_sum f g h each zero = refl
total_sum f g h each (suc top) = let before = total_sum f g h each top in let here = each top in omega (arith, before, here)

-- no step
total_none : (f : ℕ → ℕ) → ((line : ℕ) → f line ≡ 0) → (top : ℕ) → total f top ≡ 0
unfolding total
total_none f each zero = refl
total_none f each (suc top) = let before = total_none f each top in let here = each top in omega (arith, before, here)

-- one step counts once below a number that is above its line, and not at all where it was not made
abbrev one : Bool → ℕ → ℕ → ℕ
one made at line = if made && at == line then 1 else 0

not_at : (at line : ℕ) → line < at → (at == line) ≡ false
not_at at line lt = grind (arith, lt)

total_before : (at top : ℕ) → top ≤ at → total (one true at) top ≡ 0
unfolding total
total_before at zero le = refl
total_before at (suc top) le =
    let before = total_before at top (omega (arith, le)) in
    let here : one true at top ≡ 0 = ap (λ b. if b then 1 else 0) (not_at at top (omega (arith, le))) in
    omega (arith, before, here)

not_after : (at line : ℕ) → at < line → (at == line) ≡ false
not_after at line lt = grind (arith, lt)

total_one : (at top : ℕ) → at < top → total (one true at) top ≡ 1
unfolding total
total_one at zero lt = absurd (omega (arith, lt))
total_one at (suc top) lt = elim (cases_lt at top) [
  | inl less ↦
      let before = total_one at top less in
      let here : one true at top ≡ 0 = ap (λ b. if b then 1 else 0) (not_after at top less) in
      omega (arith, before, here)
  | inr other ↦
      let same : at ≡ top = omega (arith, lt, other) in
      let before = total_before at top other in
      let here : one true at top ≡ 1 = ap (λ b. if b then 1 else 0) (eq-eqb at top same) in
      omega (arith, before, here)
]

total_step : (made : Bool) (at top : ℕ) → (made ≡ true → at < top) → total (one made at) top ≡ (if made then 1 else 0)
total_step true at top lt = total_one at top (lt refl)
total_step false at top lt = total_none (one false at) (λ line. refl) top

-- the numbers of the lines below a number that is above the line of each step that was made add up to all of these steps
pub adds_up : (made : ℕ → Bool) (line_of : ℕ → ℕ) (top : ℕ) → ((k : ℕ) → made k ≡ true → line_of k < top) → (n : ℕ)
    → total (λ line. counted made line_of line n) top ≡ all_made made n
unfolding all_made
adds_up made line_of top below zero = total_none (λ line. counted made line_of line 0) (counted_zero made line_of) top
adds_up made line_of top below (suc n) =
    let before = adds_up made line_of top below n in
    let here = total_step (made n) (line_of n) top (below n) in
    let both = total_sum (λ line. counted made line_of line (suc n)) (λ line. counted made line_of line n) (one (made n) (line_of n)) (λ line. counted_more made line_of line n) top in
    both ∙ ap (λ a. a + total (one (made n) (line_of n)) top) before ∙ ap (λ a. all_made made n + a) here

pub unmade_same : (made : ℕ → Bool) (line_of : ℕ → ℕ) (line n : ℕ) → made n ≡ false → counted made line_of line (n + 1) ≡ counted made line_of line n
unmade_same made line_of line n is =
    let k = counted made line_of line n in
    let none : k + 0 ≡ k = omega arith in
    ap (counted made line_of line) (add-one n) ∙ counted_more made line_of line n ∙ ap (λ m. k + (if m && line_of n == line then 1 else 0)) is ∙ none

-- where no step from one on was made, no more is counted
pub unmade_later : (made : ℕ → Bool) (line_of : ℕ → ℕ) (line n : ℕ) → ((k : ℕ) → n ≤ k → made k ≡ false) → (k : ℕ) → counted made line_of line (n + k) ≡ counted made line_of line n
unmade_later made line_of line n none zero = let same : n + 0 ≡ n = omega arith in ap (counted made line_of line) same
unmade_later made line_of line n none (suc k) =
    let same : n + suc k ≡ n + k + 1 = omega arith in
    ap (counted made line_of line) same ∙ unmade_same made line_of line (n + k) (none (n + k) (omega arith)) ∙ unmade_later made line_of line n none k

pub unmade_until : (made : ℕ → Bool) (line_of : ℕ → ℕ) (line n most : ℕ) → n ≤ most → ((k : ℕ) → n ≤ k → made k ≡ false) → counted made line_of line most ≡ counted made line_of line n
unmade_until made line_of line n most le none =
    let same : n + (most - n) ≡ most = omega (arith, le) in
    ap (counted made line_of line) (sym same) ∙ unmade_later made line_of line n none (most - n)

-- where each step of the first was made, these are all
pub all_are_made : (made : ℕ → Bool) (n : ℕ) → ((k : ℕ) → k < n → made k ≡ true) → all_made made n ≡ n
unfolding all_made
all_are_made made zero each = refl
all_are_made made (suc n) each =
    let before = all_are_made made n (λ k lt. each k (omega (arith, lt))) in
    let here : ◌≡◌ {A = ℕ} (if made n then 1 else 0) 1 = ap (λ b. if b then 1 else 0) (each n (omega arith)) in
    omega (arith, before, here)
