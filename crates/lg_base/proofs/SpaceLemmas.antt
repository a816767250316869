-- Bytes after a store, and a part of the memory as numbers by their places.
use Rattle.std.proofs.Common.{◌≡◌, ◌≢◌, ℕ, zero, suc, ◌+◌, ◌-◌, ◌*◌, ◌/◌, ◌%◌, ◌^◌, ◌<◌, ◌≤◌, ◌⊎◌, inl, inr, Option, Some, None, Bool, true, false, refl, sym, ap, ◌∙◌, subst, arith, ⊎_elim}
use Rattle.std.specs.Prelude.{is_some, unwrap_or, ◌&&◌, if◌then◌else◌, List, length, slice_index, slice_set}
use Rattle.std.proofs.lemmas.Bool.{cases_eq}
use Rattle.std.proofs.Math.Nat.{pow-le-pow_right}
use Rattle.std.proofs.lemmas.List.{get_or-set_same, get_or-set_other}
use mathlib.Core.Path.{fun_ext}
use Rattle.lg_base.specs.Spaces.{put_some, mapped, number_at, byte_or_zero, loaded, stored, with_byte, written}

pub put_some_same : (m : ℕ → Option ℕ) (a v j : ℕ) → j ≡ a → put_some m a v j ≡ Some v
put_some_same m a v j h = grind arith

pub put_some_other : (m : ℕ → Option ℕ) (a v j : ℕ) → j ≢ a → put_some m a v j ≡ m j
put_some_other m a v j h = grind arith

pub with_byte_same : (f : ℕ → ℕ) (i v j : ℕ) → j ≡ i → with_byte f i v j ≡ v
with_byte_same f i v j h = grind arith

pub with_byte_other : (f : ℕ → ℕ) (i v j : ℕ) → j ≢ i → with_byte f i v j ≡ f j
with_byte_other f i v j h = grind arith

-- each byte of a run of mapped ones is there
pub mapped-each : (m : ℕ → Option ℕ) (a w j : ℕ) → mapped m a w ≡ true → a ≤ j → j < a + w → is_some (m j) ≡ true
unfolding mapped
mapped-each m a zero j h le lt = absurd (omega arith)
mapped-each m a (suc w) j h le lt = split (is_some (m a)) (mapped m (a + 1) w) refl h (λ f le' lt'. mapped-each m (a + 1) w j f le' lt')
  where
    split : (b c : Bool) → is_some (m a) ≡ b → (b && c) ≡ true → (c ≡ true → a + 1 ≤ j → j < a + 1 + w → is_some (m j) ≡ true) → is_some (m j) ≡ true
    split true true e t rest = ⊎_elim
        (λ same. subst (λ k. is_some (m k) ≡ true) (sym same) e)
        (λ other. rest refl (omega arith) (omega arith))
        (cases_eq j a)
    split true false e t rest = cc
    split false c e t rest = cc

pub mapped-all : (m : ℕ → Option ℕ) (a w : ℕ) → ((j : ℕ) → a ≤ j → j < a + w → is_some (m j) ≡ true) → mapped m a w ≡ true
unfolding mapped
mapped-all m a zero h = refl
mapped-all m a (suc w) h =
    let here = h a (omega arith) (omega arith) in
    let rest = mapped-all m (a + 1) w (λ j le lt. h j (omega arith) (omega arith)) in
    rw (here, rest) refl

pub number_at-shift : (m n : ℕ → ℕ) (a b w : ℕ) → ((j : ℕ) → j < w → m (a + j) ≡ n (b + j)) → number_at m a w ≡ number_at n b w
unfolding number_at
number_at-shift m n a b zero h = refl
number_at-shift m n a b (suc w) h =
    let first : m a ≡ n b = ap m (let z : a ≡ a + 0 = omega arith in z) ∙ h 0 (omega arith) ∙ ap n (let z : b + 0 ≡ b = omega arith in z) in
    let rest : number_at m (a + 1) w ≡ number_at n (b + 1) w = number_at-shift m n (a + 1) (b + 1) w (λ j lt. ap m (let z : a + 1 + j ≡ a + suc j = omega arith in z) ∙ h (suc j) (omega arith) ∙ ap n (let z : b + suc j ≡ b + 1 + j = omega arith in z)) in
    cc

pub number_at-step : (m : ℕ → ℕ) (a k b n : ℕ) → b ≡ a + 1 → k ≡ suc n → number_at m a k ≡ m a + 256 * number_at m b n
unfolding number_at
number_at-step m a k b n e f = rw (e, f) refl

pub number_at-none : (m : ℕ → ℕ) (a k : ℕ) → k ≡ 0 → number_at m a k ≡ 0
unfolding number_at
number_at-none m a k e = rw e refl

pub number_at-lt : (m : ℕ → ℕ) (a w : ℕ) → ((j : ℕ) → m j < 256) → number_at m a w < 256 ^ w
unfolding number_at
number_at-lt m a zero h = omega arith
number_at-lt m a (suc w) h = let rest : number_at m (a + 1) w < 256 ^ w = number_at-lt m (a + 1) w h in omega (arith, h a, rest)

-- at most 7 bytes leave room for one more
pub number_at-room : (m : ℕ → ℕ) (a w : ℕ) → ((j : ℕ) → m j < 256) → w ≤ 7 → number_at m a w < 256 ^ 7
number_at-room m a w h k = let p : number_at m a w < 256 ^ w = number_at-lt m a w h in let q : 256 ^ w ≤ 256 ^ 7 = pow-le-pow_right {n = 256} (omega arith) k in omega (arith, p, q)

-- four bytes make half a word
pub number_at-half : (m : ℕ → ℕ) (a w : ℕ) → ((j : ℕ) → m j < 256) → w ≤ 4 → number_at m a w < 2 ^ 32
number_at-half m a w h k = let p : number_at m a w < 256 ^ w = number_at-lt m a w h in let q : 256 ^ w ≤ 256 ^ 4 = pow-le-pow_right {n = 256} (omega arith) k in omega (arith, p, q)

-- eight bytes are two halves
pub number_at-halves : (m : ℕ → ℕ) (a b : ℕ) → b ≡ a + 4 → number_at m a 8 ≡ number_at m a 4 + number_at m b 4 * 0x100000000
number_at-halves m a b e =
    let s0 = number_at-step m a 8 (a + 1) 7 (omega arith) (omega arith) in
    let s1 = number_at-step m (a + 1) 7 (a + 2) 6 (omega arith) (omega arith) in
    let s2 = number_at-step m (a + 2) 6 (a + 3) 5 (omega arith) (omega arith) in
    let s3 = number_at-step m (a + 3) 5 b 4 (omega (arith, e)) (omega arith) in
    let t0 = number_at-step m a 4 (a + 1) 3 (omega arith) (omega arith) in
    let t1 = number_at-step m (a + 1) 3 (a + 2) 2 (omega arith) (omega arith) in
    let t2 = number_at-step m (a + 2) 2 (a + 3) 1 (omega arith) (omega arith) in
    let t3 = number_at-step m (a + 3) 1 b 0 (omega (arith, e)) (omega arith) in
    let t4 = number_at-none m b 0 (omega arith) in
    omega (arith, s0, s1, s2, s3, t0, t1, t2, t3, t4)

pub written-none : (m : ℕ → ℕ) (a n v : ℕ) → n ≡ 0 → written m a n v ≡ m
unfolding written
written-none m a n v e = rw e refl

pub written-step : (m : ℕ → ℕ) (a k b n v : ℕ) → b ≡ a + 1 → k ≡ suc n → written m a k v ≡ written (with_byte m a (v % 256)) b n (v / 256)
unfolding written
written-step m a k b n v e f = rw (e, f) refl

pub stored-none : (m : ℕ → Option ℕ) (a n v : ℕ) → n ≡ 0 → stored m a n v ≡ m
unfolding stored
stored-none m a n v e = rw e refl

pub stored-step : (m : ℕ → Option ℕ) (a k b n v : ℕ) → b ≡ a + 1 → k ≡ suc n → stored m a k v ≡ stored (put_some m a (v % 256)) b n (v / 256)
unfolding stored
stored-step m a k b n v e f = rw (e, f) refl

-- a byte outside a store is as before
pub stored-out : (m : ℕ → Option ℕ) (a w v j : ℕ) → (j < a) ⊎ (a + w ≤ j) → stored m a w v j ≡ m j
unfolding stored
stored-out m a zero v j h = refl
stored-out m a (suc w) v j h =
    let o : (j < a + 1) ⊎ (a + 1 + w ≤ j) = ⊎_elim (λ x. inl (omega (arith, x))) (λ x. inr (omega (arith, x))) h in
    stored-out (put_some m a (v % 256)) (a + 1) w (v / 256) j o ∙ put_some_other m a (v % 256) j (⊎_elim (λ x. omega (arith, x)) (λ x. omega (arith, x)) h)

-- a store into a part is the one into its numbers
pub stored-shift : (m : ℕ → Option ℕ) (n : ℕ → ℕ) (lo hi a w v : ℕ) → ((j : ℕ) → lo ≤ j → j < hi → m j ≡ Some (n (j - lo))) → lo ≤ a → a + w ≤ hi
    → (j : ℕ) → lo ≤ j → j < hi → stored m a w v j ≡ Some (written n (a - lo) w v (j - lo))
unfolding stored written
stored-shift m n lo hi a zero v h p q j r s = h j r s
stored-shift m n lo hi a (suc w) v h p q j r s =
    let k : (j : ℕ) → lo ≤ j → j < hi → put_some m a (v % 256) j ≡ Some (with_byte n (a - lo) (v % 256) (j - lo)) =
    λ j r s. ⊎_elim
    (λ e. put_some_same m a (v % 256) j e ∙ ap Some (sym (with_byte_same n (a - lo) (v % 256) (j - lo) (omega (arith, e)))))
    (λ ne. put_some_other m a (v % 256) j ne ∙ h j r s ∙ ap Some (sym (with_byte_other n (a - lo) (v % 256) (j - lo) (omega (arith, ne)))))
    (cases_eq j a) in
    let z : a + 1 - lo ≡ a - lo + 1 = omega arith in
    stored-shift (put_some m a (v % 256)) (with_byte n (a - lo) (v % 256)) lo hi (a + 1) w (v / 256) k (omega arith) (omega arith) j r s
    ∙ ap (λ b. Some (written (with_byte n (a - lo) (v % 256)) b w (v / 256) (j - lo))) z

-- a write into a list is one into its numbers
pub slice_index-set : (l : List ℕ) (i v : ℕ) → i < length l → slice_index (slice_set l i v) ≡ with_byte (slice_index l) i v
slice_index-set l i v h = fun_ext (λ j. ⊎_elim
    (λ e. let p : slice_index (slice_set l i v) j ≡ v = rw e (get_or-set_same l i v 0 h) in p ∙ sym (with_byte_same (slice_index l) i v j e))
    (λ ne. let p : slice_index (slice_set l i v) j ≡ slice_index l j = get_or-set_other l i j v 0 ne in p ∙ sym (with_byte_other (slice_index l) i v j ne))
    (cases_eq j i))

-- ---- what was stored is loaded
pub stored-first : (m : ℕ → Option ℕ) (a w v : ℕ) → stored m a (suc w) v a ≡ Some (v % 256)
stored-first m a w v =
    ap (λ f. f a) (stored-step m a (suc w) (a + 1) w v refl refl)
    ∙ stored-out (put_some m a (v % 256)) (a + 1) w (v / 256) a (inl (omega arith))
    ∙ put_some_same m a (v % 256) a refl

pub mapped-stored : (m : ℕ → Option ℕ) (a w v : ℕ) → mapped (stored m a w v) a w ≡ true
unfolding mapped
mapped-stored m a zero v = refl
mapped-stored m a (suc w) v =
    let first : is_some (stored m a (suc w) v a) ≡ true = ap is_some (stored-first m a w v) in
    let rest : mapped (stored m a (suc w) v) (a + 1) w ≡ true = ap (λ f. mapped f (a + 1) w) (stored-step m a (suc w) (a + 1) w v refl refl) ∙ mapped-stored (put_some m a (v % 256)) (a + 1) w (v / 256) in
    rw (first, rest) refl

pub number_at-stored : (m : ℕ → Option ℕ) (a w v : ℕ) → v < 256 ^ w → number_at (byte_or_zero (stored m a w v)) a w ≡ v
number_at-stored m a zero v h = number_at-none (byte_or_zero (stored m a zero v)) a zero refl ∙ omega arith
number_at-stored m a (suc w) v h =
    let f = byte_or_zero (stored m a (suc w) v) in
    let first : f a ≡ v % 256 = ap (λ o. unwrap_or o 0) (stored-first m a w v) in
    let rest : number_at f (a + 1) w ≡ v / 256 =
    ap (λ g. number_at (byte_or_zero g) (a + 1) w) (stored-step m a (suc w) (a + 1) w v refl refl)
    ∙ number_at-stored (put_some m a (v % 256)) (a + 1) w (v / 256) (smaller w v h) in
    number_at-step f a (suc w) (a + 1) w refl refl ∙ omega (arith, first, rest)
  where
    smaller : (w v : ℕ) → v < 256 ^ suc w → v / 256 < 256 ^ w
    smaller w v h = grind arith

pub loaded-stored : (m : ℕ → Option ℕ) (a w v : ℕ) → v < 256 ^ w → loaded (stored m a w v) a w ≡ Some v
loaded-stored m a w v h =
    ap (λ b. if b then Some (number_at (byte_or_zero (stored m a w v)) a w) else None) (mapped-stored m a w v)
    ∙ ap Some (number_at-stored m a w v h)
