-- The words that immediates give.
use Rattle.std.proofs.Common.{◌≡◌, ℕ, ◌^◌, ◌<◌, true, List, [], ◌∷◌, Some, refl, sym, ap, arith}
use Rattle.std.specs.Prelude.{nat_lt, if◌then◌else◌, slice_index}
use Rattle.std.proofs.lemmas.Bool.Decides.{nat_tests}
use Rattle.lg_base.specs.HostNames.{host_address}
use Rattle.lg_base.specs.Words.{signed_view, is_half}
use Rattle.lg_base.specs.declared.host_name.HostName.{HostName}
use Rattle.lg_base.specs.declared.host_name.HostName.TheVariants.{Printf}
use Rattle.lg_op.specs.Forms.{admits}
use Rattle.lg_op.specs.declared.form.Form.TheVariants.{Immediate}
use Rattle.lg_op.specs.declared.op.BinaryOp.{BinaryOp}
use Rattle.lg_op.specs.declared.op.WideOp.{WideOp}
use Rattle.lg_op.specs.declared.operand.Operand.{Operand}
use Rattle.lg_op.specs.declared.operand.Operand.TheVariants as operand
use Rattle.lg_meaning.specs.States.{State, value}
use Rattle.lg_x86.specs.declared.instruction.Instr.TheVariants.{Movi32, Movs32, Movi64}
use Rattle.lg_selx_values.specs.Processor.Numbers.{number_row}
use Rattle.lg_selx_values.specs.Items.{ones}
use Rattle.lg_selx_values.specs.ValueItems.{load_items, binary_number_code, binary_items, wide_items}
use Rattle.lg_carry.specs.Nodes.Operands.{IsWord}
use Rattle.lg_selx_values.specs.ValueLaws.{IsUnlabelled}
use Rattle.lg_selx_values.specs.WideCode.{wide_number_code}
use Rattle.lg_selx_values.proofs.SettledLemmas.{Settles, settles-ones}

pub host-small : (name : HostName) → host_address name < 2 ^ 64
host-small Printf = omega arith
host-small name = omega arith

-- a number of 32 bits is moved by the shortest row
short-row : (r v : ℕ) → v < 2 ^ 32 → number_row r v ≡ Movi32 r v
short-row r v small =
    let e : nat_lt v (2 ^ 32) ≡ true = grind (arith, nat_tests, small) in
    ap (λ b. if b then Movi32 r v else if is_half v then Movs32 r (signed_view v) else Movi64 r v) e

-- the word of an immediate, which its items load
pub record IsLoad (addresses : List ℕ) (t : ℕ) (x : Operand) : Type 0 where
  pub word : ℕ
  pub small : word < 2 ^ 64
  pub given : (s : State) → value addresses s x ≡ Some word
  pub loads : Settles (slice_index addresses) (load_items t x) (number_row t word ∷ [])

pub is-load : (addresses : List ℕ) (t : ℕ) (x : Operand) → admits Immediate x ≡ true → IsWord addresses x → IsLoad addresses t x
is-load addresses t (operand.Reg r) a h = cc
is-load addresses t (operand.Slot k) a h = cc
is-load addresses t (operand.Number v) a h = record { word = v; small = h; given = λ s. refl; loads = settles-ones (slice_index addresses) (number_row t v ∷ []) (number_row t v ∷ []) refl }
is-load addresses t (operand.Host name) a h =
    let v = host_address name in
    record { word = v; small = host-small name; given = λ s. refl; loads = settles-ones (slice_index addresses) (number_row t v ∷ []) (number_row t v ∷ []) refl }
is-load addresses t (operand.Label l) a h =
    let v = slice_index addresses l.0 in
    record { word = v; small = omega (arith, h); given = λ s. refl; loads = record { become = λ at. ap (λ i. i ∷ []) (sym (short-row t v (omega (arith, h)))) } }

-- one that is no label, in the items of an operation
pub record IsGiven (addresses : List ℕ) (x : Operand) : Type 0 where
  pub word : ℕ
  pub small : word < 2 ^ 64
  pub given : (s : State) → value addresses s x ≡ Some word
  pub binary : (o : BinaryOp) (frame d a : ℕ) → binary_items o frame d a x ≡ ones (binary_number_code o frame d a word)
  pub wide : (o : WideOp) (frame d e a : ℕ) → wide_items o frame d e a x ≡ ones (wide_number_code o frame d e a word)

pub is-given : (addresses : List ℕ) (x : Operand) → admits Immediate x ≡ true → IsWord addresses x → IsUnlabelled x → IsGiven addresses x
is-given addresses (operand.Reg r) a h u = cc
is-given addresses (operand.Slot k) a h u = cc
is-given addresses (operand.Number v) a h u = record { word = v; small = h; given = λ s. refl; binary = λ o frame d b. refl; wide = λ o frame d e b. refl }
is-given addresses (operand.Host name) a h u = record { word = host_address name; small = host-small name; given = λ s. refl; binary = λ o frame d b. refl; wide = λ o frame d e b. refl }
is-given addresses (operand.Label l) a h u = absurd u
