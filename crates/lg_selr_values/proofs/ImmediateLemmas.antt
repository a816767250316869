-- The items of an immediate load its word, as the text gives it.
use Rattle.std.proofs.Common.{◌≡◌, ◌≢◌, ℕ, ◌-◌, ◌*◌, ◌%◌, ◌^◌, ◌<◌, Bool, true, false, List, [], ◌∷◌, Some, refl, ap, ◌∙◌, arith}
use Rattle.std.specs.Prelude.{nat_lt, pos, negsuc, if◌then◌else◌, slice_index}
use Rattle.lg_base.specs.Fields.{word_of}
use Rattle.lg_base.specs.HostNames.{host_address}
use Rattle.lg_base.specs.Words.{add_words, sign_32}
use Rattle.lg_base.specs.declared.host_name.HostName.{HostName}
use Rattle.lg_base.specs.declared.host_name.HostName.TheVariants.{Printf}
use Rattle.lg_op.specs.declared.operand.Operand.{Operand}
use Rattle.lg_op.specs.declared.operand.Operand.TheVariants as operand
use Rattle.lg_op.specs.Forms.{admits}
use Rattle.lg_op.specs.declared.form.Form.TheVariants.{Immediate}
use Rattle.lg_rv.specs.declared.instruction.Instr.{Instr}
use Rattle.lg_rv.specs.declared.instruction.Instr.TheVariants.{Upper, Imm}
use Rattle.lg_rv.specs.declared.instruction.UpperOp.TheVariants.{Lui}
use Rattle.lg_rv.specs.declared.instruction.ImmOp.TheVariants.{Addi}
use Rattle.lg_cpu.specs.HostSteps.{put}
use Rattle.lg_meaning.specs.States.{State, value}
use Rattle.lg_selr_values.specs.Processor.Numbers.{high_part, low_part, number_code}
use Rattle.lg_selr_values.proofs.OfProcessor.ComputationLemmas.{put-again}
use Rattle.lg_selr_values.specs.Items.{settled}
use Rattle.lg_selr_values.proofs.ItemLemmas.{settled-ones}
use Rattle.lg_selr_values.specs.ValueItems.{load_items}
use Rattle.lg_carry.specs.Nodes.Operands.{IsWord}
use Rattle.lg_selr_values.proofs.LoadCodeLemmas.{LoadsWord, loads-number}

address-made : (v : ℕ) → v < 2 ^ 30 → add_words (sign_32 (high_part v * 4096)) (word_of (low_part v)) ≡ v
address-made v small = by (nat_lt (v % 4096) 2048) refl
  where
    by : (b : Bool) → nat_lt (v % 4096) 2048 ≡ b → add_words (sign_32 (high_part v * 4096)) (word_of (if b then pos (v % 4096) else negsuc (4095 - v % 4096))) ≡ v
    by true h = grind (arith, small, h)
    by false h = grind (arith, small, h)

host-small : (name : HostName) → host_address name < 2 ^ 64
host-small Printf = omega arith
host-small name = omega arith

-- the code that the items become, and the word that it loads
pub record IsLoad (addresses : List ℕ) (t : ℕ) (x : Operand) : Type 0 where
  pub code : List Instr
  pub settles : (at : ℕ) → settled (slice_index addresses) at (load_items t x) ≡ code
  pub word : ℕ
  pub loads : LoadsWord code t word
  pub given : (s : State) → value addresses s x ≡ Some word

pub is-load : (addresses : List ℕ) (t : ℕ) (x : Operand) → t ≢ 0 → t < 32 → admits Immediate x ≡ true → IsWord addresses x → IsLoad addresses t x
is-load addresses t (operand.Reg r) ne within a h = cc
is-load addresses t (operand.Slot k) ne within a h = cc
is-load addresses t (operand.Number v) ne within a h = record { code = number_code t v; settles = λ at. settled-ones (slice_index addresses) at (number_code t v); word = v; loads = loads-number t v ne within h; given = λ s. refl }
is-load addresses t (operand.Host name) ne within a h =
    record { code = number_code t (host_address name); settles = λ at. settled-ones (slice_index addresses) at (number_code t (host_address name)); word = host_address name; loads = loads-number t (host_address name) ne within (host-small name); given = λ s. refl }
is-load addresses t (operand.Label l) ne within a h =
    let v = slice_index addresses l.0 in
    record {
      code = Upper Lui t (high_part v) ∷ Imm Addi t t (low_part v) ∷ [];
      settles = λ at. refl;
      word = v;
      loads = record { computes = refl; value = λ w. put-again w t (sign_32 (high_part v * 4096)) (λ z. add_words z (word_of (low_part v))) ne ∙ ap (put w t) (address-made v h); small = omega (arith, h) };
      given = λ s. refl;
    }
