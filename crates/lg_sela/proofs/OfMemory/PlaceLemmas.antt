-- How an address is made: the code computes it into the link, or changes nothing.
use Rattle.std.proofs.Common.{◌≡◌, ◌≢◌, ℕ, ◌+◌, ◌-◌, ◌*◌, ◌/◌, ◌%◌, ◌^◌, ◌<◌, Bool, true, false, List, [], ◌∷◌, ◌++◌, refl, ap, ◌∙◌, arith}
use Rattle.std.specs.Prelude.{◌==◌, ◌&&◌, not, nat_lt, pos, negsuc, if◌then◌else◌}
use Rattle.std.proofs.Math.Nat.{div-add-mod, mul_comm}
use Rattle.std.proofs.lemmas.Bool.{and_parts}
use Rattle.lg_base.specs.Fields.{word_of}
use Rattle.lg_base.specs.Words.{add_words, sub_words, negated, signed_view}
use Rattle.lg_base.specs.declared.flags.Flags.{Flags}
use Rattle.lg_base.specs.declared.target.Target.TheVariants.{Aarch64}
use Rattle.lg_op.specs.declared.operand.Reg.{Reg}
use Rattle.lg_a64.specs.declared.instruction.Instr.{Instr}
use Rattle.lg_a64.specs.declared.instruction.Instr.TheVariants as instr
use Rattle.lg_a64.specs.declared.instruction.ImmOp.TheVariants.{Addi, Subi}
use Rattle.lg_a64.specs.declared.instruction.RegOp.TheVariants as row
use Rattle.lg_cpu.specs.HostSteps.{put}
use Rattle.lg_cpu.specs.A64Step.{read}
use Rattle.lg_temp.specs.Abis.{register_of}
use Rattle.lg_sela_values.specs.Processor.A64Rows.{link, nzcv}
use Rattle.lg_sela_values.specs.Processor.Computations.{computes, all_compute, holding, computed_by, computed}
use Rattle.lg_sela_values.specs.Processor.Numbers.{number_code, LoadsNumber}
use Rattle.lg_sela_values.proofs.OfProcessor.HeldLemmas.{read-is, write-is, put-same, put-other, put-twice}
use Rattle.lg_sela_values.proofs.OfProcessor.NumberCodeLemmas.{numbers-are-loaded}
use Rattle.lg_sela_values.proofs.OfProcessor.RegisterLemmas.{register-small, register-off-link}
use Rattle.lg_carry.proofs.OfValues.ComputationLemmas.{computed-append}
use Rattle.lg_carry.specs.Memory.Accesses.{Address, Base, At, Sum, Index, address_word, IsAddress}
use Rattle.lg_carry.proofs.OfMemory.AfterLemmas.{all-compute-append}
use Rattle.lg_sela.specs.Memory.Accesses.{Place, at_link, is_scaled, is_small, sum_code, is_close, is_counted, place_of}

-- the code computes the address into the link alone, or none, and keeps the flags; an access has this many bytes
pub record IsPlaced (bytes : ℕ) (p : Place) (w : ℕ → ℕ) (f : Flags) (a : ℕ) : Type 0 where
  pub computes : all_compute p.code ≡ true
  pub keeps : (x : ℕ) → x ≢ link → (computed p.code (holding w (nzcv f))).registers x ≡ w x
  pub flags : (computed p.code (holding w (nzcv f))).flags ≡ nzcv f
  pub makes : add_words ((computed p.code (holding w (nzcv f))).registers p.base) (p.count * bytes) ≡ a

-- ---- words
pub none-after : (bytes a : ℕ) → a < 2 ^ 64 → add_words a (0 * bytes) ≡ a
none-after bytes a h = ap (λ z. add_words a z) (let z : 0 * bytes ≡ 0 = omega arith in z) ∙ (let z : add_words a 0 ≡ a = omega (arith, h) in z)

sum-small : (b c : ℕ) → add_words b c < 2 ^ 64
sum-small b c = omega arith

-- a number of whole accesses
whole : (bytes v : ℕ) → (v % bytes == 0) ≡ true → v / bytes * bytes ≡ v
whole bytes v e =
    let z : v % bytes ≡ 0 = grind (arith, e) in
    let d : bytes * (v / bytes) + v % bytes ≡ v = div-add-mod v bytes in
    mul_comm (v / bytes) bytes ∙ (let k : bytes * (v / bytes) ≡ v = omega (arith, d, z) in k)

scaled : (bytes v : ℕ) → is_scaled bytes v ≡ true → v / bytes * bytes ≡ v
scaled bytes v e = whole bytes v (and_parts (v % bytes == 0) (nat_lt (v / bytes) 4096) e).0

less-negated : (x v : ℕ) → x < 2 ^ 64 → v < 2 ^ 64 → sub_words x (negated v) ≡ add_words x v
less-negated x v h k = omega (arith, h, k)

-- a number for which the row that counts bytes is taken
pub close_of : (bytes v : ℕ) → is_counted bytes v ≡ true → is_close v ≡ true
close_of bytes v e = (and_parts (not (is_scaled bytes v)) (is_close v) (and_parts (bytes == 8) (not (is_scaled bytes v) && is_close v) e).1).1

-- a word by its signed view
pub view-word : (v : ℕ) → v < 2 ^ 64 → word_of (signed_view v) ≡ v
view-word v h = by (nat_lt v (2 ^ 63)) refl
  where
    by : (b : Bool) → nat_lt v (2 ^ 63) ≡ b → word_of (if b then pos v else negsuc (2 ^ 64 - 1 - v)) ≡ v
    by true e = refl
    by false e = omega (arith, h)

-- ---- a word in the link
module _ (bytes : ℕ) (w : ℕ → ℕ) (f : Flags) where
  -- the code puts a word into the link alone
  in-link : (is : List Instr) (v : ℕ) → v < 2 ^ 64 → all_compute is ≡ true → computed is (holding w (nzcv f)) ≡ holding (put w link v) (nzcv f) → IsPlaced bytes (at_link is) w f v
  in-link is v small h e = record {
    computes = h;
    keeps = λ x ne. ap (λ u. u.registers x) e ∙ put-other w link v x ne;
    flags = ap (λ u. u.flags) e;
    makes = ap (λ u. add_words (u.registers link) (0 * bytes)) e ∙ ap (λ z. add_words z (0 * bytes)) (put-same w link v) ∙ none-after bytes v small;
  }

  -- a sum of two registers into it
  pub sum-is : (u : ℕ → ℕ) (a b x y : ℕ) → a < 31 → b < 31 → u a ≡ x → u b ≡ y → computed (instr.Reg row.Add link a b ∷ []) (holding u (nzcv f)) ≡ holding (put u link (add_words x y)) (nzcv f)
  sum-is u a b x y la lb e g =
      ap (λ r. holding r (nzcv f)) (write-is u link (add_words (read u a) (read u b)) (omega arith) ∙ (λ i. put u link (add_words ((read-is u a la ∙ e) i) ((read-is u b lb ∙ g) i))))

  number-placed : (v : ℕ) → v < 2 ^ 64 → IsPlaced bytes (at_link (number_code link v)) w f v
  number-placed v small = let l : LoadsNumber link v = numbers-are-loaded link v (omega arith) small in in-link (number_code link v) v small l.computes (l.value (holding w (nzcv f)))

  -- an instruction that holds the number
  held-placed : (a : Reg) (v : ℕ) → v < 2 ^ 64 → w (register_of Aarch64 a) < 2 ^ 64 → (b : Bool)
      → IsPlaced bytes (at_link (if b then instr.Imm Addi link (register_of Aarch64 a) v false ∷ [] else instr.Imm Subi link (register_of Aarch64 a) (negated v) false ∷ [])) w f (add_words (w (register_of Aarch64 a)) v)
  held-placed a v small word true = in-link (instr.Imm Addi link (register_of Aarch64 a) v false ∷ []) (add_words (w (register_of Aarch64 a)) v) (sum-small (w (register_of Aarch64 a)) v) refl refl
  held-placed a v small word false =
      in-link (instr.Imm Subi link (register_of Aarch64 a) (negated v) false ∷ []) (add_words (w (register_of Aarch64 a)) v) (sum-small (w (register_of Aarch64 a)) v) refl
      (ap (λ x. holding (put w link x) (nzcv f)) (less-negated (w (register_of Aarch64 a)) v word small))

  sum-placed : (a : Reg) (v : ℕ) → v < 2 ^ 64 → w (register_of Aarch64 a) < 2 ^ 64 → IsPlaced bytes (at_link (sum_code (register_of Aarch64 a) v)) w f (add_words (w (register_of Aarch64 a)) v)
  sum-placed a v small word = by (is_small v) (is_small (negated v))
    where
      by : (b c : Bool)
          → IsPlaced bytes
          (at_link (if b then instr.Imm Addi link (register_of Aarch64 a) v false ∷ [] else if c then instr.Imm Subi link (register_of Aarch64 a) (negated v) false ∷ []
          else number_code link v ++ instr.Reg row.Add link (register_of Aarch64 a) link ∷ []))
          w f (add_words (w (register_of Aarch64 a)) v)
      by true c = held-placed a v small word true
      by false true = held-placed a v small word false
      by false false =
          let r = register_of Aarch64 a in
          let l : LoadsNumber link v = numbers-are-loaded link v (omega arith) small in
          let sum = instr.Reg row.Add link r link ∷ [] in
          in-link (number_code link v ++ sum) (add_words (w r) v) (sum-small (w r) v) (all-compute-append computes (number_code link v) sum l.computes refl)
          (computed-append computed_by (number_code link v) sum (holding w (nzcv f))
          ∙ ap (computed sum) (l.value (holding w (nzcv f)))
          ∙ sum-is (put w link v) r link (w r) v (let s = register-small a in omega (arith, s)) (omega arith) (put-other w link v r (register-off-link a)) (put-same w link v)
          ∙ ap (λ u. holding u (nzcv f)) (put-twice w link v (add_words (w r) v)))

  indexed-placed : (a : Reg) (v : ℕ) → v < 2 ^ 64 → w (register_of Aarch64 a) < 2 ^ 64 → (b : Bool) → is_scaled bytes v ≡ b
      → IsPlaced bytes (if b then record { code = []; base = register_of Aarch64 a; count = v / bytes } else at_link (sum_code (register_of Aarch64 a) v)) w f (add_words (w (register_of Aarch64 a)) v)
  indexed-placed a v small word true near = record { computes = refl; keeps = λ x ne. refl; flags = refl; makes = ap (add_words (w (register_of Aarch64 a))) (scaled bytes v near) }
  indexed-placed a v small word false far = sum-placed a v small word

  pub placed : (at : Address) → IsAddress at → ((x : ℕ) → w x < 2 ^ 64) → IsPlaced bytes (place_of bytes at) w f (address_word Aarch64 w at)
  placed (Base a) ok words = record { computes = refl; keeps = λ x ne. refl; flags = refl; makes = none-after bytes (w (register_of Aarch64 a)) (words (register_of Aarch64 a)) }
  placed (At v) ok words = number-placed v ok
  placed (Sum a b) ok words =
      let ra = register_of Aarch64 a in
      let rb = register_of Aarch64 b in
      in-link (instr.Reg row.Add link ra rb ∷ []) (add_words (w ra) (w rb)) (sum-small (w ra) (w rb)) refl
      (sum-is w ra rb (w ra) (w rb) (let s = register-small a in omega (arith, s)) (let s = register-small b in omega (arith, s)) refl refl)
  placed (Index a v) ok words = indexed-placed a v ok (words (register_of Aarch64 a)) (is_scaled bytes v) refl
