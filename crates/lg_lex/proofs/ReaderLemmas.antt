-- The readers of expressions, one step at a time.
use Rattle.std.proofs.Common.{◌≡◌, ℕ, zero, suc, ◌-◌, ◌<◌, List, length, refl, sym, ap, ◌∙◌, arith, Option, Some, None}
use Rattle.lg_lex.specs.declared.operators.Operator.{Operator}
use Rattle.lg_lex.specs.declared.expressions.Reading.{Reading}
use Rattle.lg_lex.specs.Expressions.{Reader, operator_at, after_byte, combined, joined, binary_of, chosen_by, whole_of, readers_in, inner_unary, inner_whole, unary_at, whole_at}

module _ (bytes : List ℕ) (unary : Reader) where
  -- below all operators stands an operand
  pub binary_lowest : (level place : ℕ) → level ≡ 0 → unary place ≡ binary_of bytes unary level place
  unfolding binary_of
  binary_lowest zero place h = refl
  binary_lowest (suc level) place h = absurd (omega arith)

  pub binary_none : (level place : ℕ) → 0 < level → binary_of bytes unary (level - 1) place ≡ None → binary_of bytes unary level place ≡ None
  unfolding binary_of
  binary_none zero place h is = absurd (omega arith)
  binary_none (suc level) place h is = let one : suc level - 1 ≡ level = omega arith in let is' = ap (λ n. binary_of bytes unary n place) (sym one) ∙ is in rw is' refl

  pub binary_first : (level place : ℕ) (left : Reading) → 0 < level → binary_of bytes unary (level - 1) place ≡ Some left → joined bytes (binary_of bytes unary (level - 1)) level (suc (length bytes)) left ≡ binary_of bytes unary level place
  unfolding binary_of
  binary_first zero place left h is = absurd (omega arith)
  binary_first (suc level) place left h is =
      let one : suc level - 1 ≡ level = omega arith in
      let is' = ap (λ n. binary_of bytes unary n place) (sym one) ∙ is in
      ap (λ n. joined bytes (binary_of bytes unary n) (suc level) (suc (length bytes)) left) one ∙ rw is' refl

-- the readers of a chain of operators
module _ (bytes : List ℕ) (operand : Reader) (level : ℕ) where
  joined_before : (k : ℕ) (left right both : Reading) (op : Operator) (next : ℕ) → 0 < k → operator_at bytes level left.end ≡ Some (op, next) → operand next ≡ Some right → combined op left right ≡ Some both → joined bytes operand level (k - 1) both ≡ joined bytes operand level k left
  unfolding joined
  joined_before zero left right both op next h o r b = absurd (omega arith)
  joined_before (suc k) left right both op next h o r b = let one : suc k - 1 ≡ k = omega arith in rw (o, r, b, one) refl

  joined_bad_operand : (k : ℕ) (left : Reading) (op : Operator) (next : ℕ) → operator_at bytes level left.end ≡ Some (op, next) → operand next ≡ None → joined bytes operand level k left ≡ None
  unfolding joined
  joined_bad_operand zero left op next o r = refl
  joined_bad_operand (suc k) left op next o r = rw (o, r) refl

  joined_bad_value : (k : ℕ) (left right : Reading) (op : Operator) (next : ℕ) → operator_at bytes level left.end ≡ Some (op, next) → operand next ≡ Some right → combined op left right ≡ None → joined bytes operand level k left ≡ None
  unfolding joined
  joined_bad_value zero left right op next o r b = refl
  joined_bad_value (suc k) left right op next o r b = rw (o, r, b) refl

  joined_last : (k : ℕ) (left : Reading) → 0 < k → operator_at bytes level left.end ≡ None → joined bytes operand level k left ≡ Some left
  unfolding joined
  joined_last zero left h o = absurd (omega arith)
  joined_last (suc k) left h o = rw o refl

-- what a chain of operators leads to, one operator more, at a fault, and at its end
module _ (bytes : List ℕ) (operand : Reader) (level k : ℕ) (left : Reading) (whole : Option Reading) (same : joined bytes operand level k left ≡ whole) where
  pub joined_more : (right both : Reading) (op : Operator) (next : ℕ) → 0 < k → operator_at bytes level left.end ≡ Some (op, next) → operand next ≡ Some right → combined op left right ≡ Some both → joined bytes operand level (k - 1) both ≡ whole
  joined_more right both op next h o r b = joined_before bytes operand level k left right both op next h o r b ∙ same

  pub joined_no_operand : (op : Operator) (next : ℕ) (read : Option Reading) → operator_at bytes level left.end ≡ Some (op, next) → operand next ≡ None → read ≡ None → read ≡ whole
  joined_no_operand op next read o r none = none ∙ sym (joined_bad_operand bytes operand level k left op next o r) ∙ same

  pub joined_no_value : (right : Reading) (op : Operator) (next : ℕ) (read : Option Reading) → operator_at bytes level left.end ≡ Some (op, next) → operand next ≡ Some right → combined op left right ≡ None → read ≡ None → read ≡ whole
  joined_no_value right op next read o r b none = none ∙ sym (joined_bad_value bytes operand level k left right op next o r b) ∙ same

  pub joined_end : 0 < k → operator_at bytes level left.end ≡ None → Some left ≡ whole
  joined_end h o = sym (joined_last bytes operand level k left h o) ∙ same

-- one level less
pub inner_unary_below : (bytes : List ℕ) (n place : ℕ) → 0 < n → unary_at bytes (n - 1) place ≡ inner_unary bytes n place
unfolding unary_at inner_unary inner_whole readers_in
inner_unary_below bytes zero place h = absurd (omega arith)
inner_unary_below bytes (suc n) place h = let one : suc n - 1 ≡ n = omega arith in ap (λ k. unary_at bytes k place) one

pub inner_whole_below : (bytes : List ℕ) (n place : ℕ) → 0 < n → whole_at bytes (n - 1) place ≡ inner_whole bytes n place
unfolding whole_at unary_at inner_unary inner_whole readers_in
inner_whole_below bytes zero place h = absurd (omega arith)
inner_whole_below bytes (suc n) place h = let one : suc n - 1 ≡ n = omega arith in ap (λ k. whole_at bytes k place) one

-- no ? follows the operators
pub whole_plain : (bytes : List ℕ) (n place : ℕ) (test : Reading) → binary_of bytes (unary_at bytes n) 10 place ≡ Some test → after_byte bytes 63 test.end ≡ None → whole_at bytes n place ≡ Some test
unfolding whole_at whole_of chosen_by
whole_plain bytes n place test is none = rw (is, none) refl
