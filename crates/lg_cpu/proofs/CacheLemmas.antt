-- The cache of decoded instructions.
use Rattle.std.proofs.Common.{◌≡◌, ◌≢◌, ℕ, zero, suc, ◌<◌, Bool, List, length, slice_index_or, Option, refl, sym, ap, ◌∙◌, subst, arith}
use Rattle.lg_cpu.specs.Decodings.{AreEmpty, AreDecodings, IsDecodedAt}
use Rattle.lg_cpu.specs.declared.decode_cache.Decoded.{Decoded}

-- the entries of an empty cache are decodings of any code
pub empty_right : {I : Type 0} (front : List ℕ → Option (I × ℕ)) (valid : I → Type 0) (aligned : ℕ → Bool) (slot : ℕ → ℕ) (code : List ℕ) (entries : List (Decoded I)) → AreEmpty slot entries → AreDecodings front valid aligned slot code entries
empty_right front valid aligned slot code entries none k d below e = absurd (none k d below e)

-- the address that `outside` gives has another slot
pub outside_is : (slot : ℕ → ℕ) (k pc : ℕ) → slot 0 ≡ 0 → slot 4 ≢ 0 → (k ≡ 0 → pc ≡ 4) → (k ≢ 0 → pc ≡ 0) → slot pc ≡ k → ⊥
outside_is slot zero pc first other h0 h1 is = other (ap slot (sym (h0 refl)) ∙ is)
outside_is slot (suc k) pc first other h0 h1 is =
    let some : suc k ≢ 0 = λ e. absurd (omega (arith, e)) in
    let none : suc k ≡ 0 = sym is ∙ ap slot (h1 some) ∙ first in
    absurd (omega (arith, none))

-- an entry with the address that is looked up holds what is decoded there
pub decoded_at : {I : Type 0} (front : List ℕ → Option (I × ℕ)) (valid : I → Type 0) (aligned : ℕ → Bool) (slot : ℕ → ℕ) (code : List ℕ) (entries : List (Decoded I)) (k pc : ℕ) (x : Decoded I)
    → AreDecodings front valid aligned slot code entries → k < length entries → k ≡ slot pc → x ≡ slice_index_or entries k x → ((d : Decoded I) → (slice_index_or entries k d).pc ≡ pc) → IsDecodedAt front valid aligned code pc x.instr x.len
decoded_at {I} front valid aligned slot code entries k pc x right below at is of =
    let stands : slot (slice_index_or entries k x).pc ≡ k = ap slot (of x) ∙ sym at in
    let there = right k x below stands in
    let here : IsDecodedAt front valid aligned code x.pc x.instr x.len = subst (λ (y : Decoded I). IsDecodedAt front valid aligned code y.pc y.instr y.len) (sym is) there in
    let same : x.pc ≡ pc = ap (λ (y : Decoded I). y.pc) is ∙ of x in
    subst (λ (n : ℕ). IsDecodedAt front valid aligned code n x.instr x.len) same here

-- so does a copy of the entry's instruction, with the entry's length
pub copied_at : {I : Type 0} (front : List ℕ → Option (I × ℕ)) (valid : I → Type 0) (aligned : ℕ → Bool) (slot : ℕ → ℕ) (code : List ℕ) (entries : List (Decoded I)) (k pc : ℕ) (x : Decoded I) (i : I)
    → AreDecodings front valid aligned slot code entries → k < length entries → k ≡ slot pc → x ≡ slice_index_or entries k x → ((d : Decoded I) → (slice_index_or entries k d).pc ≡ pc)
    → i ≡ (slice_index_or entries k x).instr → IsDecodedAt front valid aligned code pc i (slice_index_or entries k x).len
copied_at {I} front valid aligned slot code entries k pc x i right below at is of same =
    let here = decoded_at front valid aligned slot code entries k pc x right below at is of in
    let there = subst (λ (y : Decoded I). IsDecodedAt front valid aligned code pc y.instr y.len) is here in
    subst (λ (j : I). IsDecodedAt front valid aligned code pc j (slice_index_or entries k x).len) (sym same) there
