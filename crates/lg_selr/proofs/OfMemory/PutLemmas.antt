-- Code that puts an operand's word into a register.
use Rattle.std.proofs.Common.{◌≡◌, ◌≢◌, ℕ, ◌+◌, ◌-◌, ◌*◌, ◌%◌, ◌^◌, ◌<◌, ◌≤◌, Bool, true, false, List, [], ◌∷◌, refl, sym, ap, ◌∙◌, arith, subst, length}
use Rattle.std.specs.Prelude.{pos, negsuc, nat_lt, if◌then◌else◌}
use Rattle.lg_base.specs.Fields.{word_of}
use Rattle.lg_base.specs.HostNames.{host_address}
use Rattle.lg_base.specs.Layout.{code_base, most_code}
use Rattle.lg_base.specs.Words.{add_words, sign_32}
use Rattle.lg_base.specs.declared.target.Target.TheVariants.{Riscv64}
use Rattle.lg_op.specs.declared.operand.Operand.{Operand}
use Rattle.lg_op.specs.declared.operand.Operand.TheVariants as operand
use Rattle.lg_op.specs.declared.operand.Reg.{Reg}
use Rattle.lg_rv.specs.declared.instruction.Instr.{Instr}
use Rattle.lg_rv.specs.declared.instruction.Instr.TheVariants as instr
use Rattle.lg_rv.specs.declared.instruction.ImmOp.TheVariants.{Addi}
use Rattle.lg_rv.specs.declared.instruction.UpperOp.TheVariants.{Lui}
use Rattle.lg_cpu.specs.HostSteps.{put}
use Rattle.lg_cpu.specs.RvStep.{read}
use Rattle.lg_temp.specs.Abis.{register_of}
use Rattle.lg_selr_values.specs.Processor.Computations.{all_compute, computed}
use Rattle.lg_selr_values.specs.Processor.Numbers.{high_part, low_part, number_code}
use Rattle.lg_selr_values.proofs.OfProcessor.ComputationLemmas.{put-again}
use Rattle.lg_selr_values.proofs.OfProcessor.NumberCodeLemmas.{numbers-are-loaded}
use Rattle.lg_selr_values.proofs.OfProcessor.RegisterLemmas.{read-of}
use Rattle.lg_carry.specs.Memory.Pushes.{IsPassed}
use Rattle.lg_carry.proofs.OfMemory.ReadLemmas.{same-some}
use Rattle.lg_selr_values.specs.Items.{settled}
use Rattle.lg_selr_values.proofs.ItemLemmas.{settled-ones}
use Rattle.lg_selr.specs.Memory.PushCode.{into}

-- it computes that register alone, which gets this word
pub record Puts (is : List Instr) (w : ℕ → ℕ) (rd v : ℕ) : Type 0 where
  pub computes : all_compute is ≡ true
  pub some : 0 < length is
  pub puts : (y : ℕ) → computed is w y ≡ put w rd v y

-- ---- a register
put-register : (a : Reg) (w : ℕ → ℕ) (rd v : ℕ) → w (register_of Riscv64 a) ≡ v → v < 2 ^ 64 → Puts (instr.Imm Addi rd (register_of Riscv64 a) (pos 0) ∷ []) w rd v
put-register a w rd v e lt = record {
  computes = refl;
  some = omega arith;
  puts = λ y. let z : add_words (read w (register_of Riscv64 a)) 0 ≡ v = ap (λ x. add_words x 0) (read-of w a ∙ e) ∙ small v lt in ap (λ x. put w rd x y) z;
}
  where
    small : (v : ℕ) → v < 2 ^ 64 → add_words v 0 ≡ v
    small v lt = grind (arith, lt)

-- ---- a number
put-number : (w : ℕ → ℕ) (rd v : ℕ) → rd ≢ 0 → rd < 32 → v < 2 ^ 64 → Puts (number_code rd v) w rd v
put-number w rd v some few lt = let k = numbers-are-loaded rd v some few lt in record { computes = k.computes; some = k.some; puts = λ y. k.value w y }

-- ---- the address of a label
address-made : (v : ℕ) → code_base ≤ v → v ≤ code_base + most_code → add_words (sign_32 (high_part v * 4096)) (word_of (low_part v)) ≡ v
address-made v low high = by (nat_lt (v % 4096) 2048) refl
  where
    by : (b : Bool) → nat_lt (v % 4096) 2048 ≡ b → add_words (sign_32 (high_part v * 4096)) (word_of (if b then pos (v % 4096) else negsuc (4095 - v % 4096))) ≡ v
    by true e = grind (arith, low, high, e)
    by false e = grind (arith, low, high, e)

put-address : (w : ℕ → ℕ) (rd v : ℕ) → rd ≢ 0 → code_base ≤ v → v ≤ code_base + most_code → Puts (instr.Upper Lui rd (high_part v) ∷ instr.Imm Addi rd rd (low_part v) ∷ []) w rd v
put-address w rd v some low high = record {
  computes = refl;
  some = omega arith;
  puts = λ y. ap (λ f. f y) (put-again w rd (sign_32 (high_part v * 4096)) (λ z. add_words z (word_of (low_part v))) some) ∙ ap (λ z. put w rd z y) (address-made v low high);
}

-- ---- an operand
pub put-operand : (x : Operand) (to : ℕ → ℕ) (at : ℕ) (w : ℕ → ℕ) (rd v : ℕ) → rd ≢ 0 → rd < 32 → IsPassed Riscv64 w to x v → Puts (settled to at (into rd x)) w rd v
put-operand (operand.Reg a) to at w rd v some few p = put-register a w rd v (same-some (w (register_of Riscv64 a)) v p.word) p.small
put-operand (operand.Number m) to at w rd v some few p =
    let e = same-some m v p.word in
    subst (λ is. Puts is w rd v) (sym (settled-ones to at (number_code rd m))) (subst (λ z. Puts (number_code rd m) w rd z) e (put-number w rd m some few (subst (λ z. z < 2 ^ 64) (sym e) p.small)))
put-operand (operand.Host name) to at w rd v some few p =
    let e = same-some (host_address name) v p.word in
    subst (λ is. Puts is w rd v) (sym (settled-ones to at (number_code rd (host_address name))))
    (subst (λ z. Puts (number_code rd (host_address name)) w rd z) e (put-number w rd (host_address name) some few (subst (λ z. z < 2 ^ 64) (sym e) p.small)))
put-operand (operand.Label l) to at w rd v some few p =
    let e = same-some (to l.0) v p.word in let k = p.label l refl in
    subst (λ z. Puts (instr.Upper Lui rd (high_part (to l.0)) ∷ instr.Imm Addi rd rd (low_part (to l.0)) ∷ []) w rd z) e (put-address w rd (to l.0) some (omega (arith, e, k.0)) (omega (arith, e, k.1)))
put-operand (operand.Slot k) to at w rd v some few p = absurd (let z = p.word in cc)
