-- The items of an immediate load its word, as the text gives it.
use Rattle.std.proofs.Common.{◌≡◌, ℕ, ◌*◌, ◌^◌, ◌<◌, List, [], ◌∷◌, Some, refl, ap, ◌∙◌, arith, true}
use Rattle.std.specs.Prelude.{slice_index}
use Rattle.lg_base.specs.HostNames.{host_address}
use Rattle.lg_base.specs.declared.host_name.HostName.{HostName}
use Rattle.lg_base.specs.declared.host_name.HostName.TheVariants.{Printf}
use Rattle.lg_op.specs.declared.operand.Operand.{Operand}
use Rattle.lg_op.specs.declared.operand.Operand.TheVariants as operand
use Rattle.lg_op.specs.Forms.{admits}
use Rattle.lg_op.specs.declared.form.Form.TheVariants.{Immediate}
use Rattle.lg_a64.specs.declared.instruction.Instr.{Instr}
use Rattle.lg_a64.specs.declared.instruction.Instr.TheVariants.{Wide}
use Rattle.lg_a64.specs.declared.instruction.WideOp.TheVariants.{Movz, Movk}
use Rattle.lg_cpu.specs.A64Operators.{replaced}
use Rattle.lg_cpu.specs.HostSteps.{put}
use Rattle.lg_meaning.specs.States.{State, value}
use Rattle.lg_carry.specs.Values.Computers.{Held}
use Rattle.lg_sela_values.specs.Processor.Computations.{holding, computed}
use Rattle.lg_sela_values.specs.Processor.Numbers.{number_code}
use Rattle.lg_sela_values.proofs.OfProcessor.NumberCodeLemmas.{first, more}
use Rattle.lg_sela_values.specs.Items.{low_quarter, next_quarter, settled}
use Rattle.lg_sela_values.proofs.ItemLemmas.{settled-ones}
use Rattle.lg_sela_values.specs.ValueItems.{load_items}
use Rattle.lg_carry.specs.Nodes.Operands.{IsWord}
use Rattle.lg_sela_values.proofs.LoadCodeLemmas.{LoadsWord, loads-number}

address-made : (v : ℕ) → v < 2 ^ 30 → replaced (low_quarter v * 1) (2 ^ 16) (next_quarter v) ≡ v
address-made v small = omega (arith, small)

address-loaded : (t v : ℕ) → t < 31 → v < 2 ^ 30 → (w : Held) → computed (Wide Movz t (low_quarter v) 0 ∷ Wide Movk t (next_quarter v) 1 ∷ []) w ≡ holding (put w.registers t v) w.flags
address-loaded t v within small w =
    ap (computed (Wide Movk t (next_quarter v) 1 ∷ [])) (first t within w (low_quarter v * 1))
    ∙ more t within w (low_quarter v * 1) (next_quarter v) 1
    ∙ ap (λ z. holding (put w.registers t z) w.flags) (address-made v small)

host-small : (name : HostName) → host_address name < 2 ^ 64
host-small Printf = omega arith
host-small name = omega arith

-- the code that the items become, and the word that it loads
pub record IsLoad (addresses : List ℕ) (t : ℕ) (x : Operand) : Type 0 where
  pub code : List Instr
  pub settles : (at : ℕ) → settled (slice_index addresses) at (load_items t x) ≡ code
  pub word : ℕ
  pub loads : LoadsWord code t word
  pub given : (s : State) → value addresses s x ≡ Some word

pub is-load : (addresses : List ℕ) (t : ℕ) (x : Operand) → t < 31 → admits Immediate x ≡ true → IsWord addresses x → IsLoad addresses t x
is-load addresses t (operand.Reg r) within a h = cc
is-load addresses t (operand.Slot k) within a h = cc
is-load addresses t (operand.Number v) within a h = record { code = number_code t v; settles = λ at. settled-ones (slice_index addresses) at (number_code t v); word = v; loads = loads-number t v within h; given = λ s. refl }
is-load addresses t (operand.Host name) within a h =
    record { code = number_code t (host_address name); settles = λ at. settled-ones (slice_index addresses) at (number_code t (host_address name)); word = host_address name; loads = loads-number t (host_address name) within (host-small name); given = λ s. refl }
is-load addresses t (operand.Label l) within a h =
    let v = slice_index addresses l.0 in
    record {
      code = Wide Movz t (low_quarter v) 0 ∷ Wide Movk t (next_quarter v) 1 ∷ [];
      settles = λ at. refl;
      word = v;
      loads = record { computes = refl; value = λ w. address-loaded t v within h w; small = omega (arith, h) };
      given = λ s. refl;
    }
