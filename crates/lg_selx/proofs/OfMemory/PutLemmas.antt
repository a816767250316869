-- Code that puts an operand's word into a register.
use Rattle.std.proofs.Common.{◌≡◌, ℕ, ◌<◌, ◌^◌, [], ◌∷◌, Option, Some, sym, ap, ◌∙◌, subst}
use Rattle.std.specs.Option.{option_and_then}
use Rattle.lg_base.specs.HostNames.{host_address}
use Rattle.lg_base.specs.declared.flags.Flags.{Flags}
use Rattle.lg_base.specs.declared.target.Target.TheVariants.{X86_64}
use Rattle.lg_op.specs.declared.operand.Operand.{Operand}
use Rattle.lg_op.specs.declared.operand.Operand.TheVariants as operand
use Rattle.lg_cpu.specs.HostSteps.{put}
use Rattle.lg_temp.specs.Abis.{register_of}
use Rattle.lg_selx_values.specs.Processor.MakingNodes.{scene}
use Rattle.lg_selx_values.specs.Processor.Makings.{makes}
use Rattle.lg_selx_values.specs.Processor.Numbers.{number_row}
use Rattle.lg_selx_values.proofs.OfProcessor.NumberCodeLemmas.{row-loads}
use Rattle.lg_carry.specs.Memory.Pushes.{IsPassed}
use Rattle.lg_carry.proofs.OfMemory.ReadLemmas.{same-some}
use Rattle.lg_selx_values.specs.Items.{settled}
use Rattle.lg_selx.specs.Memory.PushCode.{into}

module _ (w : ℕ → ℕ) (f : Flags) (m : ℕ → Option ℕ) (rd : ℕ) (within : rd < 16) where
  number-put : (x v : ℕ) → x < 2 ^ 64 → x ≡ v → makes (number_row rd x ∷ []) (scene w f m) ≡ Some (scene (put w rd v) f m)
  number-put x v small e =
      ap (option_and_then (makes [])) ((row-loads rd x within small).value (scene w f m)) ∙ ap (λ z. Some (scene (put w rd z) f m)) e

  -- it changes no other register, and keeps flags and memory
  pub operand-put : (x : Operand) (to : ℕ → ℕ) (at v : ℕ) → IsPassed X86_64 w to x v → makes (settled to at (into rd x)) (scene w f m) ≡ Some (scene (put w rd v) f m)
  operand-put (operand.Reg a) to at v p = ap (λ z. Some (scene (put w rd z) f m)) (same-some (w (register_of X86_64 a)) v p.word)
  operand-put (operand.Number x) to at v p = let e = same-some x v p.word in number-put x v (subst (λ z. z < 2 ^ 64) (sym e) p.small) e
  operand-put (operand.Host name) to at v p =
      let e = same-some (host_address name) v p.word in number-put (host_address name) v (subst (λ z. z < 2 ^ 64) (sym e) p.small) e
  operand-put (operand.Label l) to at v p = ap (λ z. Some (scene (put w rd z) f m)) (same-some (to l.0) v p.word)
  operand-put (operand.Slot k) to at v p = absurd (let z = p.word in cc)
