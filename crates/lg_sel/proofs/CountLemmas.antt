-- How many arguments are staged.
use Rattle.std.proofs.Common.{◌≡◌, ℕ, zero, suc, ◌+◌, ◌-◌, Bool, true, false, List, ◌++◌, refl, ap, ◌∙◌, arith}
use Rattle.std.specs.Prelude.{replicate, cond}
use Rattle.std.specs.List.{fold}
use Rattle.lg_sel.specs.Families.{staged_count}
use Rattle.lg_sel.specs.Selected.{first_arguments}

abbrev counted : ℕ → List Bool → ℕ
counted a xs = fold (λ (k : ℕ) (b : Bool). k + cond b 1 0) a xs

count-false : (m a : ℕ) → counted a (replicate m false) ≡ a
count-false zero a = refl
count-false (suc m) a = let h = count-false m (a + 0) in omega (arith, h)

count-first : (n m a : ℕ) → counted a (replicate n true ++ replicate m false) ≡ a + n
count-first zero m a = let h = count-false m a in omega (arith, h)
count-first (suc n) m a = let h = count-first n m (a + 1) in omega (arith, h)

pub count-is : (n : ℕ) (staged : List Bool) → staged ≡ first_arguments n → staged_count staged ≡ n
count-is n staged e = ap staged_count e ∙ (count-first n (16 - n) 0 ∙ omega arith)
