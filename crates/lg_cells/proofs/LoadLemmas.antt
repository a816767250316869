-- Numbers of several bytes, byte by byte.
use Rattle.std.proofs.Common.{◌≡◌, ℕ, zero, suc, ◌+◌, ◌*◌, ◌^◌, ◌<◌, ◌≤◌, Bool, true, false, Option, Some, None, refl, sym, ap, ◌∙◌, arith}
use Rattle.std.specs.Prelude.{◌&&◌, is_some, if◌then◌else◌}
use Rattle.std.proofs.Math.Nat.{pow-le-pow_right}
use Rattle.std.proofs.lemmas.Bool.{and_parts}
use Rattle.lg_base.specs.Spaces.{mapped, number_at, byte_or_zero, loaded}
use Rattle.lg_cells.specs.Memories.{writable}

pub loaded_empty : (m : ℕ → Option ℕ) (a n : ℕ) → n ≡ 0 → loaded m a n ≡ Some 0
unfolding mapped number_at
loaded_empty m a n e = rw e

-- a byte below the others
pub loaded_more : (m : ℕ → Option ℕ) (a k b n v x : ℕ) → b ≡ a + 1 → k ≡ suc n → m a ≡ Some x → loaded m b n ≡ Some v → loaded m a k ≡ Some (v * 256 + x)
unfolding mapped number_at
loaded_more m a k b n v x e f h g = rw (f, h, ← e) (by (mapped m b n) g)
  where
    by : (t : Bool) → (if t then Some (number_at (byte_or_zero m) b n) else None) ≡ Some v → (if t then Some (x + 256 * number_at (byte_or_zero m) b n) else None) ≡ Some (v * 256 + x)
    by true p = let q : number_at (byte_or_zero m) b n ≡ v = cc in let z : x + 256 * number_at (byte_or_zero m) b n ≡ v * 256 + x = rw q (omega arith) in ap Some z
    by false p = cc

pub mapped_missing : (m : ℕ → Option ℕ) (a w j : ℕ) → j < w → m (a + j) ≡ None → mapped m a w ≡ false
unfolding mapped
mapped_missing m a zero j lt h = absurd (omega arith)
mapped_missing m a (suc w) zero lt h = let e : a + 0 ≡ a = omega arith in let f : m a ≡ None = ap m (sym e) ∙ h in rw f
mapped_missing m a (suc w) (suc j) lt h =
    let e : a + suc j ≡ a + 1 + j = omega arith in
    let f : mapped m (a + 1) w ≡ false = mapped_missing m (a + 1) w j (omega arith) (ap m (sym e) ∙ h) in
    rw f (and_false (is_some (m a)))
  where
    and_false : (b : Bool) → b && false ≡ false
    and_false true = refl
    and_false false = refl

pub loaded_missing : (m : ℕ → Option ℕ) (a w j : ℕ) → j < w → m (a + j) ≡ None → loaded m a w ≡ None
loaded_missing m a w j lt h = rw (mapped_missing m a w j lt h)

pub writable_empty : (p : ℕ → Bool) (a n : ℕ) → n ≡ 0 → writable p a n ≡ true
unfolding writable
writable_empty p a n e = rw e

pub writable_step : (p : ℕ → Bool) (a k b n : ℕ) → b ≡ a + 1 → k ≡ suc n → writable p a k ≡ p a && writable p b n
unfolding writable
writable_step p a k b n e f = rw (e, f)

-- each of the addresses can be written
pub writable_at : (p : ℕ → Bool) (a w j : ℕ) → writable p a w ≡ true → j < w → p (a + j) ≡ true
unfolding writable
writable_at p a zero j h lt = absurd (omega arith)
writable_at p a (suc w) zero h lt = let e : a + 0 ≡ a = omega arith in ap p e ∙ (and_parts (p a) (writable p (a + 1) w) h).0
writable_at p a (suc w) (suc j) h lt =
    let e : a + suc j ≡ a + 1 + j = omega arith in
    ap p e ∙ writable_at p (a + 1) w j (and_parts (p a) (writable p (a + 1) w) h).1 (omega arith)

pub writable_fails : (p : ℕ → Bool) (a k b n : ℕ) → b ≡ a + 1 → k ≡ suc n → p a ≡ false → writable p a k ≡ false
writable_fails p a k b n e f h = writable_step p a k b n e f ∙ rw h

pub writable_goes : (p : ℕ → Bool) (a k b n : ℕ) → b ≡ a + 1 → k ≡ suc n → p a ≡ true → writable p b n ≡ writable p a k
writable_goes p a k b n e f h = sym (writable_step p a k b n e f ∙ rw h)

pub pow7 : (v k w : ℕ) → v < 256 ^ k → k ≤ 7 → v < 256 ^ 7
pow7 v k w h le = let q : 256 ^ k ≤ 256 ^ 7 = pow-le-pow_right {n = 256} (omega arith) le in omega (arith, h, q)

pub pow_more : (v x k j : ℕ) → j ≡ suc k → v < 256 ^ k → x < 256 → v * 256 + x < 256 ^ j
pow_more v x k j e h hx = rw e (omega (arith, h, hx))
