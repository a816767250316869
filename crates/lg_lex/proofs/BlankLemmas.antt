-- One byte of a comment more, and one blank more.
use Rattle.std.proofs.Common.{◌≡◌, ℕ, zero, suc, ◌+◌, ◌-◌, ◌<◌, ◌≤◌, true, false, ◌&&◌, cond, eqb, List, length, get_or, drop, refl, sym, ap, ◌∙◌, arith, Some, None}
use Rattle.std.proofs.lemmas.List.{drop_more, drop_all}
use Rattle.lg_lex.specs.Bytes.{further}
use Rattle.lg_lex.specs.Blanks.{block_rest, blank_at, after_most_blanks}
use Rattle.lg_lex.proofs.ByteLemmas.{first_of_drop, further-further}

block_rest_at : (bytes : List ℕ) (i : ℕ) → i < length bytes → block_rest (drop i bytes) ≡ cond (eqb (get_or bytes i 0) 42 && eqb (get_or bytes (i + 1) 0) 47) (Some 2) (further 1 (block_rest (drop (i + 1) bytes)))
unfolding block_rest
block_rest_at bytes i h =
    ap block_rest (drop_more bytes i 0 h)
    ∙ ap (λ b. cond (eqb (get_or bytes i 0) 42 && eqb b 47) (Some 2) (further 1 (block_rest (drop (i + 1) bytes)))) (first_of_drop bytes (i + 1))

-- at */ the comment ends
pub block_rest_end : (bytes : List ℕ) (i : ℕ) → i < length bytes → (eqb (get_or bytes i 0) 42 && eqb (get_or bytes (i + 1) 0) 47) ≡ true → further i (block_rest (drop i bytes)) ≡ Some (i + 2)
block_rest_end bytes i h test = rw (block_rest_at bytes i h, test) refl

-- at any other byte it goes on
pub block_rest_more : (bytes : List ℕ) (i : ℕ) → i < length bytes → (eqb (get_or bytes i 0) 42 && eqb (get_or bytes (i + 1) 0) 47) ≡ false → further (i + 1) (block_rest (drop (i + 1) bytes)) ≡ further i (block_rest (drop i bytes))
block_rest_more bytes i h test = rw (block_rest_at bytes i h, test) (sym (further-further i 1 (block_rest (drop (i + 1) bytes))))

pub block_rest_none : (bytes : List ℕ) (i : ℕ) → length bytes ≤ i → further i (block_rest (drop i bytes)) ≡ None
unfolding block_rest
block_rest_none bytes i h = ap (λ rest. further i (block_rest rest)) (drop_all i bytes h)

pub blanks_more : (k : ℕ) (bytes : List ℕ) (at n : ℕ) → 0 < k → blank_at (drop at bytes) ≡ Some n → after_most_blanks (k - 1) bytes (at + n) ≡ after_most_blanks k bytes at
unfolding after_most_blanks
blanks_more zero bytes at n h is = absurd (omega arith)
blanks_more (suc k) bytes at n h is = let one : suc k - 1 ≡ k = omega arith in rw (one, is) refl

pub blanks_end : (k : ℕ) (bytes : List ℕ) (at : ℕ) → blank_at (drop at bytes) ≡ None → after_most_blanks k bytes at ≡ at
unfolding after_most_blanks
blanks_end zero bytes at is = refl
blanks_end (suc k) bytes at is = rw is refl
