-- AArch64 is a processor with instructions that only compute.
use Rattle.lg_sela_values.specs.Processor.A64Touched.{touched}
use Rattle.lg_carry.proofs.BlockLemmas.{nothing-off}
use Rattle.lg_carry.specs.Processors.{IsOff}
use Rattle.std.proofs.Common.{◌≡◌, ◌≢◌, ℕ, ◌*◌, Bool, true, false, List, [], ◌∷◌, Option, Some, refl, ap, ◌∙◌, arith, length}
use Rattle.std.specs.Prelude.{not}
use Rattle.lg_base.specs.Words.{add_words}
use Rattle.lg_base.specs.declared.flags.Flags.{Flags}
use Rattle.lg_base.specs.declared.target.Target.TheVariants.{Aarch64}
use Rattle.lg_op.specs.declared.operand.Reg.{Reg as Portable}
use Rattle.lg_a64.specs.Spelling.{spelling}
use Rattle.lg_a64.specs.declared.instruction.Cond.{Cond}
use Rattle.lg_a64.specs.declared.instruction.Cond.TheVariants as cond
use Rattle.lg_a64.specs.declared.instruction.ImmOp.{ImmOp}
use Rattle.lg_a64.specs.declared.instruction.ImmOp.TheVariants.{Addi}
use Rattle.lg_a64.specs.declared.instruction.RegOp.{RegOp}
use Rattle.lg_a64.specs.declared.instruction.RegOp.TheVariants as row
use Rattle.lg_a64.specs.declared.instruction.Instr.{Instr}
use Rattle.lg_a64.specs.declared.instruction.Instr.TheVariants.{Reg, Imm, Wide, MulAdd, Bitfield, Csinc, Reverse, Scaled, Ldrx, Unscaled, Branch, BranchIf, BranchReg, Nop}
use Rattle.lg_cpu.specs.A64Operators.{reg_value, reg_flags, imm_number, imm_flags, csinc_value, condition_holds}
use Rattle.lg_cpu.specs.A64Step.{read, write, act}
use Rattle.lg_cpu.specs.States.{CpuState}
use Rattle.lg_cpu.specs.Steps.{Effect, after, arrived, status_of, Run}
use Rattle.lg_op.specs.declared.carry.Carry.{Carry}
use Rattle.lg_op.specs.declared.carry.Carry.TheVariants as carry
use Rattle.lg_temp.specs.declared.choice.Choice.{Choice}
use Rattle.lg_carry.specs.Blocks.{spellings}
use Rattle.lg_carry.specs.Registers.{HoldsCarry}
use Rattle.lg_carry.specs.Nodes.Straight.{is_taken}
use Rattle.lg_carry.specs.Values.Computers.{Held}
use Rattle.lg_carry.specs.Values.Values.{StandsForNone, ComputesInto}
use Rattle.lg_sela_values.specs.Processor.A64Computers.{a64_scratch, a64_computer, InstructionsCompute}
use Rattle.lg_sela_values.specs.Processor.A64Rows.{link, nzcv, a64_does, is_straight, a64_above}
use Rattle.lg_sela_values.specs.Processor.Computations.{computes, all_compute, holding, carry_or_false, known, computed_by, computed}
use Rattle.lg_sela_values.proofs.OfProcessor.RowLemmas.{went}
use Rattle.lg_sela_values.proofs.OfProcessor.SlotLemmas.{pc-next, goes-on}

-- ---- flags
-- what is read of the flags, and what is made of them, is the same of those that are seen
value-same : (op : RegOp) (f : Flags) (a b : ℕ) → reg_value op f a b ≡ reg_value op (known (nzcv f)) a b
value-same row.Add f a b = refl
value-same op f a b = refl

flags-same : (op : RegOp) (f : Flags) (a b : ℕ) → nzcv (reg_flags op f a b) ≡ reg_flags op (known (nzcv f)) a b
flags-same row.Add f a b = refl
flags-same op f a b = refl

imm-same : (op : ImmOp) (f : Flags) (a n : ℕ) → nzcv (imm_flags op f a n) ≡ imm_flags op (known (nzcv f)) a n
imm-same Addi f a n = refl
imm-same op f a n = refl

holds-same : (c : Cond) (f : Flags) → condition_holds c f ≡ condition_holds c (known (nzcv f))
holds-same cond.Eq f = refl
holds-same c f = refl

-- ---- one instruction
abbrev before : CpuState → Held
before q = holding q.registers (nzcv q.flags)

-- it makes this, and the next one follows
record Makes (i : Instr) (q : CpuState) (e : Effect CpuState) : Type 0 where
  progress : e.progress ≡ arrived (add_words q.pc 4)
  pc : e.to.pc ≡ add_words q.pc 4
  registers : e.to.registers ≡ (computed_by i (before q)).registers
  flags : nzcv e.to.flags ≡ (computed_by i (before q)).flags
  bytes : e.to.bytes ≡ q.bytes
  mark : e.to.mark ≡ q.mark

makes : (i : Instr) (q : CpuState) → computes i ≡ true → Makes i q (act i q)
makes (Reg op rd rn rm) q h =
    let a = read q.registers rn in
    let b = read q.registers rm in
    record { progress = refl; pc = refl; registers = ap (write q.registers rd) (value-same op q.flags a b); flags = flags-same op q.flags a b; bytes = refl; mark = refl }
makes (Imm op rd rn imm shifted) q h =
    record { progress = refl; pc = refl; registers = refl; flags = imm-same op q.flags (q.registers rn) (imm_number imm shifted); bytes = refl; mark = refl }
makes (Wide op rd imm hw) q h = record { progress = refl; pc = refl; registers = refl; flags = refl; bytes = refl; mark = refl }
makes (MulAdd op rd rn rm ra) q h = record { progress = refl; pc = refl; registers = refl; flags = refl; bytes = refl; mark = refl }
makes (Bitfield op rd rn immr imms) q h = record { progress = refl; pc = refl; registers = refl; flags = refl; bytes = refl; mark = refl }
makes (Csinc rd rn rm c) q h =
    record {
      progress = refl;
      pc = refl;
      registers = ap (λ b. write q.registers rd (csinc_value b (read q.registers rn) (read q.registers rm))) (holds-same c q.flags);
      flags = refl;
      bytes = refl;
      mark = refl;
    }
makes (Reverse op rd rn) q h = record { progress = refl; pc = refl; registers = refl; flags = refl; bytes = refl; mark = refl }
makes (Scaled op rt rn imm) q h = cc
makes (Ldrx rt rn rm) q h = cc
makes (Unscaled op rt rn imm) q h = cc
makes (Branch op words) q h = cc
makes (BranchIf c words) q h = cc
makes (BranchReg op rn) q h = cc
makes Nop q h = record { progress = refl; pc = refl; registers = refl; flags = refl; bytes = refl; mark = refl }

pub computes-straight : (i : Instr) → computes i ≡ true → is_straight i ≡ true
computes-straight (Branch op words) h = cc
computes-straight (BranchIf cond words) h = cc
computes-straight (BranchReg op rn) h = cc
computes-straight i h = refl

-- it touches nothing
computes-off : (hidden : ℕ → Bool) (i : Instr) (w : ℕ → ℕ) → computes i ≡ true → IsOff hidden (touched i w)
computes-off hidden (Scaled op rt rn imm) w h = cc
computes-off hidden (Ldrx rt rn rm) w h = cc
computes-off hidden (Unscaled op rt rn imm) w h = cc
computes-off hidden i w h = nothing-off hidden

pub computes-above : (i : Instr) (q : Run CpuState) → computes i ≡ true → a64_above i q
computes-above i q h = computes-off _ i q.state.registers h

pub is-computer : InstructionsCompute
is-computer code trash i q h runs low high =
    let e : a64_does i q ≡ after q (act i q.state) = went q (act i q.state) runs in
    let m = makes i q.state h in
    record {
      above = computes-above i q h;
      runs = ap (λ s. status_of s.progress) e ∙ ap status_of m.progress ∙ goes-on q.state.pc low (omega (arith, high));
      behind = ap (λ s. s.state.pc) e ∙ m.pc ∙ pc-next q.state.pc (omega (arith, high));
      holds = ap (λ s. holding s.state.registers (nzcv s.state.flags)) e ∙ (λ j. holding (m.registers j) (m.flags j));
      bytes = λ a. ap (λ s. s.state.bytes a) e ∙ ap (λ g. g a) m.bytes;
      mark = ap (λ s. s.state.mark) e ∙ m.mark;
    }

-- ---- code of a node
pub spellings-long : (is : List Instr) → length (spellings spelling is) ≡ 4 * length is
spellings-long [] = refl
spellings-long (i ∷ is) = let h = spellings-long is in omega (arith, h)

off-link : (x : ℕ) → a64_scratch x ≡ false → x ≢ link
off-link x e = λ z. absurd (grind (arith, e, z))

-- instructions that compute, and keep each register but these results, temporaries and the link
pub record KeepsBut (results : List Portable) (choices : List Choice) (body : List Instr) : Type 0 where
  pub computes : all_compute body ≡ true
  pub keeps : (w : Held) (r : ℕ) → StandsForNone Aarch64 results r → is_taken choices r ≡ false → r ≢ link → (computed body w).registers r ≡ w.registers r

pub into : (code : List ℕ) (trash : ℕ) (results : List Portable) (choices : List Choice) (body : List Instr) → KeepsBut results choices body
    → ComputesInto (a64_computer code trash) a64_scratch results choices body
into code trash results choices body h = record {
  computes = h.computes;
  keeps = λ w x apart taken off carry. h.keeps w x apart taken (off-link x off);
}

-- where a carry that is known stays, the carry is kept
pub carry-stays : (k : Carry) (w v : ℕ → ℕ) (f g : Option Bool) → ((b : Bool) → f ≡ Some b → g ≡ Some b) → HoldsCarry Aarch64 w f k → HoldsCarry Aarch64 v g k
carry-stays carry.Undefined w v f g stays h = tt
carry-stays (carry.Sum b) w v f g stays h = stays b h
carry-stays (carry.Difference b) w v f g stays h = stays (not b) h

-- the flags that are read have the carry
pub known-carry : (f : Option Bool) (b : Bool) → f ≡ Some b → Some (carry_or_false f) ≡ Some b
known-carry f b e = ap (λ z. Some (carry_or_false z)) e
