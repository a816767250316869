-- The bytes of an access, one by one.
use Rattle.lg_base.specs.declared.target.Target.TheVariants.{Riscv64}
use Rattle.lg_carry.specs.Memory.Accesses.{LiesAbove}
use Rattle.std.proofs.Common.{◌≡◌, ◌≢◌, ℕ, zero, suc, ◌+◌, ◌*◌, ◌/◌, ◌%◌, ◌^◌, ◌<◌, ◌≤◌, ◌⊎◌, inl, inr, Bool, true, false, Option, Some, None, refl, sym, ap, ◌∙◌, arith}
use Rattle.std.specs.Prelude.{is_some, unwrap_or, if◌then◌else◌}
use Rattle.std.proofs.Math.Nat.{div-div-eq-div-mul, pow-succ'}
use Rattle.std.proofs.lemmas.Bool.{cases_lt}
use Rattle.lg_base.specs.Spaces.{mapped, number_at, byte_or_zero, loaded, stored}
use Rattle.lg_base.specs.Wide.{byte_of}
use Rattle.lg_base.proofs.SpaceLemmas.{mapped-each, mapped-all, number_at-step, stored-out}
use Rattle.lg_cells.proofs.LoadLemmas.{loaded_empty, loaded_more}
use Rattle.lg_carry.specs.Processors.{Seen, is_below}
use Rattle.lg_carry.specs.Spills.{in_slots}
use Rattle.lg_carry.specs.Memory.Loads.{IsReadable}
use Rattle.lg_carry.specs.Memory.Stores.{IsWritable, IsOffSlots}
use Rattle.lg_carry.proofs.OfNodes.ByteLemmas.{mapped-where, byte-small}

-- a byte that stands off the slots, at or above the stack pointer if in the stack part
pub record IsByte (s : Seen) (sp fp x b : ℕ) : Type 0 where
  pub high : is_below Riscv64 sp x ≡ false
  pub off : in_slots fp x ≡ false
  pub is : s.bytes x ≡ Some b
  pub small : b < 256

-- a place off the slots where a byte is, and at or above the stack pointer
pub record IsThere (s : Seen) (sp fp x : ℕ) : Type 0 where
  pub high : is_below Riscv64 sp x ≡ false
  pub off : in_slots fp x ≡ false
  pub there : is_some (s.bytes x) ≡ true

-- ---- numbers and their bytes
first-byte : (b n v : ℕ) → b < 256 → b + 256 * n ≡ v → (v % 256 ≡ b) × (v / 256 ≡ n)
first-byte b n v h e = (omega (arith, h, e), omega (arith, h, e))

byte-after : (v j : ℕ) → byte_of v (suc j) ≡ byte_of (v / 256) j
byte-after v j = ap (λ n. v / n % 256) (pow-succ' 256 j) ∙ ap (λ n. n % 256) (sym (div-div-eq-div-mul v 256 (256 ^ j)))

byte-first : (v : ℕ) → byte_of v 0 ≡ v % 256
byte-first v = omega arith

number-bytes : (m : ℕ → ℕ) → ((x : ℕ) → m x < 256) → (a w v j : ℕ) → j < w → number_at m a w ≡ v → m (a + j) ≡ byte_of v j
number-bytes m small a zero v j lt e = absurd (omega (arith, lt))
number-bytes m small a (suc w) v zero lt e =
    let p = first-byte (m a) (number_at m (a + 1) w) v (small a) (sym (number_at-step m a (suc w) (a + 1) w refl refl) ∙ e) in
    ap m (let z : a + 0 ≡ a = omega arith in z) ∙ sym p.0 ∙ sym (byte-first v)
number-bytes m small a (suc w) v (suc j) lt e =
    let p = first-byte (m a) (number_at m (a + 1) w) v (small a) (sym (number_at-step m a (suc w) (a + 1) w refl refl) ∙ e) in
    ap m (let z : a + suc j ≡ a + 1 + j = omega arith in z) ∙ number-bytes m small (a + 1) w (v / 256) j (omega (arith, lt)) (sym p.1) ∙ sym (byte-after v j)

some-is : (o : Option ℕ) (b : ℕ) → is_some o ≡ true → unwrap_or o 0 ≡ b → o ≡ Some b
some-is None b t e = cc
some-is (Some x) b t e = ap Some e

-- ---- what is readable, byte by byte
-- a byte of it is none of a slot: else it would be gone where the slots are empty
readable-off : (s : Seen) (fp a w v j : ℕ) → IsReadable s fp a w v → j < w → in_slots fp (a + j) ≡ false
readable-off s fp a w v j readable lt = by (in_slots fp (a + j)) refl (mapped-each empty a w (a + j) there (omega arith) (omega (arith, lt)))
  where
    empty : ℕ → Option ℕ
    empty y = if in_slots fp y then None else s.bytes y

    there : mapped empty a w ≡ true
    there = (mapped-where (mapped empty a w) (number_at (byte_or_zero empty) a w) v (readable empty (λ y off. ap (λ b. if b then None else s.bytes y) off))).0

    by : (b : Bool) → in_slots fp (a + j) ≡ b → is_some (if in_slots fp (a + j) then None else s.bytes (a + j)) ≡ true → in_slots fp (a + j) ≡ false
    by false e h = e
    by true e h = let gone : is_some (if in_slots fp (a + j) then None else s.bytes (a + j)) ≡ false = ap (λ b. is_some (if b then None else s.bytes (a + j))) e in let z : true ≡ false = sym h ∙ gone in cc

pub readable-byte : (s : Seen) (sp fp a w v j : ℕ) → ((x b : ℕ) → s.bytes x ≡ Some b → b < 256) → IsReadable s fp a w v → LiesAbove Riscv64 sp a w → j < w → IsByte s sp fp (a + j) (byte_of v j)
readable-byte s sp fp a w v j bytes readable safe lt =
    let k = mapped-where (mapped s.bytes a w) (number_at (byte_or_zero s.bytes) a w) v (readable s.bytes (λ y off. refl)) in
    record {
      high = safe (a + j) (omega arith) (omega (arith, lt));
      off = readable-off s fp a w v j readable lt;
      is = some-is (s.bytes (a + j)) (byte_of v j) (mapped-each s.bytes a w (a + j) k.0 (omega arith) (omega (arith, lt))) (number-bytes (byte_or_zero s.bytes) (byte-small s.bytes bytes) a w v j lt k.1);
      small = let m = v / 256 ^ j in let z : m % 256 < 256 = omega arith in z;
    }

-- one byte is read there
pub loaded-one : (m : ℕ → Option ℕ) (x b : ℕ) → m x ≡ Some b → loaded m x 1 ≡ Some b
loaded-one m x b e = let z : 0 * 256 + b ≡ b = omega arith in loaded_more m x 1 (x + 1) 0 0 b refl refl e (loaded_empty m (x + 1) 0 refl) ∙ ap Some z

-- ---- what is writable, byte by byte
pub writable-byte : (s : Seen) (sp fp a w j : ℕ) → IsWritable s fp a w → LiesAbove Riscv64 sp a w → IsOffSlots fp a w → j < w → IsThere s sp fp (a + j)
writable-byte s sp fp a w j writable safe off lt = record { high = safe (a + j) (omega arith) (omega (arith, lt)); off = off j lt; there = mapped-each s.bytes a w (a + j) (writable s.bytes (λ y out. refl)) (omega arith) (omega (arith, lt)) }

pub mapped-one : (m : ℕ → Option ℕ) (x : ℕ) → is_some (m x) ≡ true → mapped m x 1 ≡ true
mapped-one m x e = mapped-all m x 1 (λ y le lt. let z : y ≡ x = omega (arith, le, lt) in ap (λ k. is_some (m k)) z ∙ e)

-- a byte that is stored elsewhere changes none
pub apart-stored : (m : ℕ → Option ℕ) (x v y : ℕ) → y ≢ x → stored m x 1 v y ≡ m y
apart-stored m x v y ne = stored-out m x 1 v y (by (cases_lt y x))
  where
    by : (y < x) ⊎ (x ≤ y) → (y < x) ⊎ (x + 1 ≤ y)
    by (inl lt) = inl lt
    by (inr le) = inr (omega (arith, le, ne))
