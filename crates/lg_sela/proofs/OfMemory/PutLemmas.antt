-- Code that puts an operand's word into a register.
use Rattle.std.proofs.Common.{◌≡◌, ℕ, ◌+◌, ◌*◌, ◌^◌, ◌<◌, ◌≤◌, true, List, [], ◌∷◌, refl, sym, ap, ◌∙◌, arith, subst, length}
use Rattle.lg_base.specs.HostNames.{host_address}
use Rattle.lg_base.specs.Layout.{code_base, most_code}
use Rattle.lg_base.specs.declared.flags.Flags.{Flags}
use Rattle.lg_base.specs.declared.target.Target.TheVariants.{Aarch64}
use Rattle.lg_op.specs.declared.operand.Operand.{Operand}
use Rattle.lg_op.specs.declared.operand.Operand.TheVariants as operand
use Rattle.lg_op.specs.declared.operand.Reg.{Reg}
use Rattle.lg_a64.specs.declared.instruction.Instr.{Instr}
use Rattle.lg_a64.specs.declared.instruction.Instr.TheVariants as instr
use Rattle.lg_a64.specs.declared.instruction.RegOp.TheVariants.{Orr}
use Rattle.lg_a64.specs.declared.instruction.WideOp.TheVariants.{Movz, Movk}
use Rattle.lg_cpu.specs.A64Operators.{reg_value, replaced}
use Rattle.lg_cpu.specs.A64Step.{read}
use Rattle.lg_cpu.specs.HostSteps.{put}
use Rattle.lg_temp.specs.Abis.{register_of}
use Rattle.lg_sela_values.specs.Processor.A64Rows.{zero_register, nzcv}
use Rattle.lg_sela_values.specs.Processor.Computations.{all_compute, holding, computed}
use Rattle.lg_sela_values.specs.Processor.Numbers.{number_code, LoadsNumber}
use Rattle.lg_sela_values.proofs.OfProcessor.HeldLemmas.{read-is, write-is}
use Rattle.lg_sela_values.proofs.OfProcessor.NumberCodeLemmas.{first, more, numbers-are-loaded}
use Rattle.lg_sela_values.proofs.OfProcessor.RegisterLemmas.{register-small}
use Rattle.lg_carry.specs.Memory.Pushes.{IsPassed}
use Rattle.lg_carry.proofs.OfMemory.ReadLemmas.{same-some}
use Rattle.lg_sela_values.specs.Items.{low_quarter, next_quarter, settled}
use Rattle.lg_sela_values.proofs.ItemLemmas.{settled-ones}
use Rattle.lg_sela.specs.Memory.PushCode.{into}

-- it computes that register alone, which gets this word, and keeps the flags
pub record Puts (is : List Instr) (w : ℕ → ℕ) (f : Flags) (rd v : ℕ) : Type 0 where
  pub computes : all_compute is ≡ true
  pub some : 0 < length is
  pub puts : computed is (holding w (nzcv f)) ≡ holding (put w rd v) (nzcv f)

module _ (w : ℕ → ℕ) (f : Flags) (rd : ℕ) (within : rd < 31) where
  -- ---- a register
  put-register : (a : Reg) (v : ℕ) → w (register_of Aarch64 a) ≡ v → Puts (instr.Reg Orr rd zero_register (register_of Aarch64 a) ∷ []) w f rd v
  put-register a v e =
      let small : register_of Aarch64 a < 31 = (let h = register-small a in omega (arith, h)) in
      record {
        computes = refl;
        some = omega arith;
        puts = ap (λ r. holding r (nzcv f)) (write-is w rd (reg_value Orr (nzcv f) 0 (read w (register_of Aarch64 a))) within ∙ ap (put w rd) (read-is w (register_of Aarch64 a) small ∙ e));
      }

  -- ---- a number
  put-number : (v : ℕ) → v < 2 ^ 64 → Puts (number_code rd v) w f rd v
  put-number v small = let l : LoadsNumber rd v = numbers-are-loaded rd v within small in record { computes = l.computes; some = l.some; puts = l.value (holding w (nzcv f)) }

  -- ---- the address of a label
  address-made : (v : ℕ) → v ≤ code_base + most_code → replaced (low_quarter v * 1) (2 ^ 16) (next_quarter v) ≡ v
  address-made v high = omega (arith, high)

  put-address : (v : ℕ) → v ≤ code_base + most_code → Puts (instr.Wide Movz rd (low_quarter v) 0 ∷ instr.Wide Movk rd (next_quarter v) 1 ∷ []) w f rd v
  put-address v high = record {
    computes = refl;
    some = omega arith;
    puts = ap (computed (instr.Wide Movk rd (next_quarter v) 1 ∷ [])) (first rd within (holding w (nzcv f)) (low_quarter v * 1))
        ∙ more rd within (holding w (nzcv f)) (low_quarter v * 1) (next_quarter v) 1
        ∙ ap (λ z. holding (put w rd z) (nzcv f)) (address-made v high);
  }

  -- ---- an operand
  pub put-operand : (x : Operand) (to : ℕ → ℕ) (at v : ℕ) → IsPassed Aarch64 w to x v → Puts (settled to at (into rd x)) w f rd v
  put-operand (operand.Reg a) to at v p = put-register a v (same-some (w (register_of Aarch64 a)) v p.word)
  put-operand (operand.Number m) to at v p =
      let e = same-some m v p.word in
      subst (λ is. Puts is w f rd v) (sym (settled-ones to at (number_code rd m))) (subst (λ z. Puts (number_code rd m) w f rd z) e (put-number m (subst (λ z. z < 2 ^ 64) (sym e) p.small)))
  put-operand (operand.Host name) to at v p =
      let e = same-some (host_address name) v p.word in
      subst (λ is. Puts is w f rd v) (sym (settled-ones to at (number_code rd (host_address name))))
      (subst (λ z. Puts (number_code rd (host_address name)) w f rd z) e (put-number (host_address name) (subst (λ z. z < 2 ^ 64) (sym e) p.small)))
  put-operand (operand.Label l) to at v p =
      let e = same-some (to l.0) v p.word in
      let k = p.label l refl in
      subst (λ z. Puts (instr.Wide Movz rd (low_quarter (to l.0)) 0 ∷ instr.Wide Movk rd (next_quarter (to l.0)) 1 ∷ []) w f rd z) e (put-address (to l.0) (omega (arith, e, k.1)))
  put-operand (operand.Slot k) to at v p = absurd (let z = p.word in cc)
