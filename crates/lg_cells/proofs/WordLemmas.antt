-- Numbers of two, four and eight bytes, from those of half as many.
use Rattle.std.proofs.Common.{◌≡◌, ℕ, suc, ◌+◌, ◌*◌, ◌/◌, ◌%◌, ◌≤◌, refl, sym, ap, ◌∙◌, arith, List, length}
use Rattle.std.specs.Prelude.{slice_index, slice_set}
use Rattle.lg_base.specs.Spaces.{number_at, written, with_byte}
use Rattle.lg_base.proofs.SpaceLemmas.{number_at-step, number_at-none, written-step, written-none, slice_index-set}

pub number_1 : (m : ℕ → ℕ) (a : ℕ) → number_at m a 1 ≡ m a
number_1 m a = number_at-step m a 1 (a + 1) 0 refl refl ∙ (let e = number_at-none m (a + 1) 0 refl in rw e (omega arith))

pub number_2 : (m : ℕ → ℕ) (a : ℕ) → number_at m a 2 ≡ m a + 256 * m (a + 1)
number_2 m a = number_at-step m a 2 (a + 1) 1 refl refl ∙ ap (λ x. m a + 256 * x) (number_1 m (a + 1))

-- two more bytes before others
number_more : (m : ℕ → ℕ) (a b n k : ℕ) → b ≡ a + 2 → k ≡ suc (suc n) → number_at m a k ≡ m a + 256 * m (a + 1) + 65536 * number_at m b n
number_more m a b n k e f =
    let p = number_at-step m a k (a + 1) (suc n) refl f in
    let q = number_at-step m (a + 1) (suc n) b n (omega arith) refl in
    omega (arith, p, q)

pub number_4 : (m : ℕ → ℕ) (a : ℕ) → number_at m a 4 ≡ number_at m a 2 + 65536 * number_at m (a + 2) 2
number_4 m a = let p = number_more m a (a + 2) 2 4 refl refl in let q = number_2 m a in omega (arith, p, q)

pub number_8 : (m : ℕ → ℕ) (a : ℕ) → number_at m a 8 ≡ number_at m a 4 + 4294967296 * number_at m (a + 4) 4
number_8 m a =
    let p = number_more m a (a + 2) 6 8 refl refl in
    let q = number_more m (a + 2) (a + 4) 4 6 (omega arith) refl in
    let r = number_4 m a in
    let s = number_2 m a in
    let t = number_2 m (a + 2) in
    omega (arith, p, q, r, s, t)

pub written_1 : (l : List ℕ) (a v : ℕ) → a + 1 ≤ length l → slice_index (slice_set l a (v % 256)) ≡ written (slice_index l) a 1 v
written_1 l a v h =
    slice_index-set l a (v % 256) (omega arith)
    ∙ sym (written-step (slice_index l) a 1 (a + 1) 0 v refl refl ∙ written-none (with_byte (slice_index l) a (v % 256)) (a + 1) 0 (v / 256) refl)

pub written_2 : (m : ℕ → ℕ) (a v : ℕ) → written m a 2 v ≡ written (written m a 1 v) (a + 1) 1 (v / 256)
written_2 m a v =
    written-step m a 2 (a + 1) 1 v refl refl
    ∙ ap (λ f. written f (a + 1) 1 (v / 256)) (sym (written-step m a 1 (a + 1) 0 v refl refl ∙ written-none (with_byte m a (v % 256)) (a + 1) 0 (v / 256) refl))

-- two more bytes before others
written_more : (m : ℕ → ℕ) (a b n k v w : ℕ) → b ≡ a + 2 → k ≡ suc (suc n) → w ≡ v / 65536 → written m a k v ≡ written (written m a 2 v) b n w
written_more m a b n k v w e f g =
    let two : written m a 2 v ≡ with_byte (with_byte m a (v % 256)) (a + 1) (v / 256 % 256) =
    written-step m a 2 (a + 1) 1 v refl refl ∙ written-step (with_byte m a (v % 256)) (a + 1) 1 (a + 1 + 1) 0 (v / 256) refl refl ∙ written-none (with_byte (with_byte m a (v % 256)) (a + 1) (v / 256 % 256)) (a + 1 + 1) 0 (v / 256 / 256) refl in
    let rest : v / 256 / 256 ≡ w = omega arith in
    written-step m a k (a + 1) (suc n) v refl f
    ∙ written-step (with_byte m a (v % 256)) (a + 1) (suc n) b n (v / 256) (omega arith) refl
    ∙ ap (λ x. written (with_byte (with_byte m a (v % 256)) (a + 1) (v / 256 % 256)) b n x) rest
    ∙ ap (λ x. written x b n w) (sym two)

pub written_4 : (m : ℕ → ℕ) (a v : ℕ) → written m a 4 v ≡ written (written m a 2 v) (a + 2) 2 (v / 65536)
written_4 m a v = written_more m a (a + 2) 2 4 v (v / 65536) refl refl refl

pub written_8 : (m : ℕ → ℕ) (a v : ℕ) → written m a 8 v ≡ written (written m a 4 v) (a + 4) 4 (v / 4294967296)
written_8 m a v =
    written_more m a (a + 2) 6 8 v (v / 65536) refl refl refl
    ∙ written_more (written m a 2 v) (a + 2) (a + 4) 4 6 (v / 65536) (v / 4294967296) (omega arith) refl (omega arith)
    ∙ ap (λ f. written f (a + 4) 4 (v / 4294967296)) (sym (written_4 m a v))
