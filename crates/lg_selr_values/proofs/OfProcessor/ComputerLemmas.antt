-- RV64IM is a processor with instructions that only compute: what they make of all that is held is what they make of the registers.
use Rattle.std.proofs.Common.{◌≡◌, ◌≢◌, ℕ, Bool, true, false, List, [], ◌∷◌, Option, Some, refl, sym, ap, ◌∙◌, arith}
use Rattle.lg_base.specs.Flags.{carry_of}
use Rattle.lg_base.specs.Words.{add_words}
use Rattle.lg_base.specs.declared.flags.Flags.TheVariants.{NoFlags}
use Rattle.lg_base.specs.declared.target.Target.TheVariants.{Riscv64}
use Rattle.lg_op.specs.declared.operand.Reg.{Reg}
use Rattle.lg_rv.specs.declared.instruction.Instr.{Instr}
use Rattle.lg_cpu.specs.Steps.{after, status_of}
use Rattle.lg_cpu.specs.RvStep.{goes, act}
use Rattle.lg_op.specs.declared.carry.Carry.{Carry}
use Rattle.lg_op.specs.declared.carry.Carry.TheVariants as carry
use Rattle.lg_temp.specs.declared.choice.Choice.{Choice}
use Rattle.lg_carry.specs.Registers.{HoldsCarry}
use Rattle.lg_carry.specs.Nodes.Straight.{is_taken}
use Rattle.lg_carry.specs.Values.Computers.{Held}
use Rattle.lg_carry.specs.Values.Computers as computer
use Rattle.lg_carry.specs.Values.Values.{StandsForNone, ComputesInto, KeepsCarry}
use Rattle.lg_selr_values.specs.Processor.RvComputers.{rv_scratch, held_by, rv_computer, InstructionsCompute}
use Rattle.lg_selr_values.specs.Processor.RvRows.{rv_does}
use Rattle.lg_selr_values.specs.Processor.Computations.{all_compute, computed_by, computed}
use Rattle.lg_selr_values.proofs.OfProcessor.ComputationLemmas.{computes-act, computes-above}
use Rattle.lg_selr_values.proofs.OfProcessor.RowLemmas.{went}
use Rattle.lg_selr_values.proofs.OfProcessor.SlotLemmas.{pc-next, goes-on}

abbrev bare : (ℕ → ℕ) → Held
bare w = record { registers = w; flags = NoFlags }

pub is-computer : InstructionsCompute
is-computer code trash i q h runs low high =
    let e : rv_does i q ≡ after q (goes (add_words q.state.pc 4) (computed_by i q.state.registers) q.state.bytes q.state.mark) = went q (act i q.state) runs ∙ ap (after q) (computes-act i q.state h) in
    record {
      above = computes-above i q h;
      runs = ap (λ s. status_of s.progress) e ∙ goes-on q.state.pc low (omega (arith, high));
      behind = ap (λ s. s.state.pc) e ∙ pc-next q.state.pc (omega (arith, high));
      holds = ap (λ s. bare s.state.registers) e;
      bytes = λ a. ap (λ s. s.state.bytes a) e;
      mark = ap (λ s. s.state.mark) e;
    }

-- ---- lists of instructions
pub registers-computed : (is : List Instr) (w : Held) → (computer.computed held_by is w).registers ≡ computed is w.registers
registers-computed [] w = refl
registers-computed (i ∷ is) w = registers-computed is (held_by i w)

-- a register after them
pub held-at : (is : List Instr) (w : Held) (r v : ℕ) → computed is w.registers r ≡ v → (computer.computed held_by is w).registers r ≡ v
held-at is w r v e = ap (λ u. u r) (registers-computed is w) ∙ e

-- ---- code of a node
off-link : (x : ℕ) → rv_scratch x ≡ false → x ≢ 1
off-link x e = λ z. absurd (grind (arith, e, z))

off-carry : (x : ℕ) → Some 31 ≢ Some x → x ≢ 31
off-carry x e = λ z. e (ap Some (sym z))

-- instructions that compute, and keep each register but these results, temporaries, the link and the carry
pub record KeepsBut (results : List Reg) (choices : List Choice) (body : List Instr) : Type 0 where
  pub computes : all_compute body ≡ true
  pub keeps : (w : ℕ → ℕ) (r : ℕ) → StandsForNone Riscv64 results r → is_taken choices r ≡ false → r ≢ 1 → r ≢ 31 → computed body w r ≡ w r

pub into : (code : List ℕ) (trash : ℕ) (results : List Reg) (choices : List Choice) (body : List Instr) → KeepsBut results choices body → ComputesInto (rv_computer code trash) rv_scratch results choices body
into code trash results choices body h = record {
  computes = h.computes;
  keeps = λ w x apart taken off carry. held-at body w x (w.registers x) (h.keeps w.registers x apart taken (off-link x off) (off-carry x carry));
}

-- the carry is where its register has it, whatever flags there are
pub carry-again : (k : Carry) (w v : ℕ → ℕ) (f g : Option Bool) → v 31 ≡ w 31 → HoldsCarry Riscv64 w f k → HoldsCarry Riscv64 v g k
carry-again carry.Undefined w v f g e h = tt
carry-again (carry.Sum b) w v f g e h = e ∙ h
carry-again (carry.Difference b) w v f g e h = e ∙ h

-- code that keeps that register keeps the carry
pub carry-kept : (code : List ℕ) (trash : ℕ) (body : List Instr) → ((w : ℕ → ℕ) → computed body w 31 ≡ w 31) → KeepsCarry (rv_computer code trash) body
carry-kept code trash body h w k e =
    let u = computer.computed held_by body w in
    carry-again k w.registers u.registers (carry_of w.flags) (carry_of u.flags) (held-at body w 31 (w.registers 31) (h w.registers)) e
