-- The decoded instructions that are cached of code.
use Rattle.std.specs.Prelude.{◌≡◌, ℕ, ◌-◌, ◌<◌, Bool, true, List, drop, length, slice_index_or, Option, Some}
use Rattle.lg_base.specs.Layout.{code_base}
use Rattle.lg_cpu.specs.Fetches.{in_code}
use Rattle.lg_cpu.specs.declared.decode_cache.Decoded.{Decoded}

-- this instruction of this length is decoded at an aligned address of the code
pub record IsDecodedAt {I : Type 0} (front : List ℕ → Option (I × ℕ)) (valid : I → Type 0) (aligned : ℕ → Bool) (code : List ℕ) (pc : ℕ) (i : I) (len : ℕ) : Type 0 where
  pub inside : in_code code pc ≡ true
  pub stands : aligned pc ≡ true
  pub is : front (drop (pc - code_base) code) ≡ Some (i, len)
  pub holds : valid i

-- each entry whose address has the entry's slot holds what is decoded at that address; any other entry is empty
abbrev pub AreDecodings : {I : Type 0} → (List ℕ → Option (I × ℕ)) → (I → Type 0) → (ℕ → Bool) → (ℕ → ℕ) → List ℕ → List (Decoded I) → Type 0
AreDecodings {I} front valid aligned slot code entries = (k : ℕ) (d : Decoded I) → k < length entries → slot (slice_index_or entries k d).pc ≡ k
    → IsDecodedAt front valid aligned code (slice_index_or entries k d).pc (slice_index_or entries k d).instr (slice_index_or entries k d).len

-- every entry is empty: its address has another slot
abbrev pub AreEmpty : {I : Type 0} → (ℕ → ℕ) → List (Decoded I) → Type 0
AreEmpty {I} slot entries = (k : ℕ) (d : Decoded I) → k < length entries → slot (slice_index_or entries k d).pc ≡ k → ⊥
