-- Instructions that write no register that is outside of the conventions keep these registers.
use Rattle.std.proofs.Common.{◌≡◌, ◌≢◌, ℕ, ◌*◌, Bool, true, false, Option, Some, None, refl, sym, ap, ◌∙◌, arith}
use Rattle.std.specs.Prelude.{◌==◌, if◌then◌else◌}
use Rattle.std.proofs.lemmas.Bool.Decides.{nat_tests}
use Rattle.lg_a64.specs.declared.instruction.RegOp.TheVariants.{Adds, Subs, Ands}
use Rattle.lg_a64.specs.declared.instruction.RegOp.{RegOp}
use Rattle.lg_base.specs.Fields.{word_of}
use Rattle.lg_base.specs.Spaces.{mapped, loaded, stored}
use Rattle.lg_base.specs.Words.{add_words}
use Rattle.lg_base.specs.declared.fault.FaultKind.TheVariants.{Memory}
use Rattle.lg_base.specs.declared.target.Target.TheVariants.{Aarch64}
use Rattle.lg_a64.specs.declared.instruction.Instr.{Instr}
use Rattle.lg_a64.specs.declared.instruction.Instr.TheVariants.{Reg, Imm, Wide, MulAdd, Bitfield, Csinc, Reverse, Scaled, Ldrx, Unscaled, Branch, BranchIf, BranchReg, Nop}
use Rattle.lg_a64.specs.declared.instruction.ImmOp.{ImmOp}
use Rattle.lg_a64.specs.declared.instruction.ImmOp.TheVariants.{Addi, Addsi, Subi, Subsi}
use Rattle.lg_a64.specs.declared.instruction.ScaledOp.{ScaledOp}
use Rattle.lg_a64.specs.declared.instruction.ScaledOp.TheVariants.{Ldr64, Str64, Ldr32, Ldrs32, Str32, Ldr16, Ldrs16, Str16, Ldr8, Ldrs8, Str8}
use Rattle.lg_a64.specs.declared.instruction.UnscaledOp.{UnscaledOp}
use Rattle.lg_a64.specs.declared.instruction.UnscaledOp.TheVariants.{Ldur, Stur}
use Rattle.lg_a64.specs.declared.instruction.BranchOp.{BranchOp}
use Rattle.lg_a64.specs.declared.instruction.BranchOp.TheVariants.{B, Bl}
use Rattle.lg_a64.specs.declared.instruction.BranchRegOp.{BranchRegOp}
use Rattle.lg_a64.specs.declared.instruction.BranchRegOp.TheVariants.{Br, Blr, Ret}
use Rattle.lg_cpu.specs.A64Operators.{imm_number, imm_value}
use Rattle.lg_cpu.specs.A64Step.{read, write, imm_registers, loads, load_at, store_at, scaled_width, scaled_effect, unscaled_effect, branch_effect, branch_reg_effect, away, act}
use Rattle.lg_cpu.specs.HostSteps.{put}
use Rattle.lg_cpu.specs.States.{CpuState, arrives}
use Rattle.lg_cpu.specs.Steps.{Progress, Goes, EndedWith, Faulted, Effect, after, on_going, faults}
use Rattle.lg_carry.specs.Outside.{is_outside}
use Rattle.lg_sela_values.specs.Processor.Destinations.{IsWithin, scaled_destination, unscaled_destination, branch_destination, branch_reg_destination, WritesWithin, InstructionsStay, written, reg_destination, imm_destination}

choice : (P : Effect CpuState → Type 0) (b : Bool) (e f : Effect CpuState) → P e → P f → P (if b then e else f)
choice P true e f h k = h
choice P false e f h k = k

-- ---- what an instruction does to a register
module _ (moves : Bool) (r : ℕ) (out : is_outside Aarch64 moves r ≡ true) where
  abbrev Keeps : CpuState → Effect CpuState → Type 0
  Keeps q e = e.to.registers r ≡ q.registers r

  differs : (rd : ℕ) → is_outside Aarch64 moves rd ≡ false → r ≡ rd → ⊥
  differs rd within e = no (sym out ∙ ap (is_outside Aarch64 moves) e ∙ within)
    where
      no : true ≡ false → ⊥
      no e = cc

  other : (rd : ℕ) → is_outside Aarch64 moves rd ≡ false → (r == rd) ≡ false
  other rd within = let n : r ≢ rd = differs rd within in grind (arith, nat_tests)

  puts : (w : ℕ → ℕ) (rd v : ℕ) → is_outside Aarch64 moves rd ≡ false → put w rd v r ≡ w r
  puts w rd v within = ap (λ (b : Bool). if b then v else w r) (other rd within)

  writes : (w : ℕ → ℕ) (rd v : ℕ) → is_outside Aarch64 moves rd ≡ false → write w rd v r ≡ w r
  writes w rd v within = by (rd == 31)
    where
      by : (b : Bool) → (if b then w r else put w rd v r) ≡ w r
      by true = refl
      by false = puts w rd v within

  -- 31 is not written where flags are set
  writes-flagged : (w : ℕ → ℕ) (rd v : ℕ) → IsWithin moves (written rd) → write w rd v r ≡ w r
  writes-flagged w rd v within = by (rd == 31) within
    where
      by : (b : Bool) → IsWithin moves (if b then None else Some rd) → (if b then w r else put w rd v r) ≡ w r
      by true h = refl
      by false h = puts w rd v h

  regs : (op : RegOp) (w : ℕ → ℕ) (rd v : ℕ) → IsWithin moves (reg_destination op rd) → write w rd v r ≡ w r
  regs Adds w rd v within = writes-flagged w rd v within
  regs Subs w rd v within = writes-flagged w rd v within
  regs Ands w rd v within = writes-flagged w rd v within
  regs op w rd v within = writes w rd v within

  imms : (op : ImmOp) (w : ℕ → ℕ) (rd v : ℕ) → IsWithin moves (imm_destination op rd) → imm_registers op w rd v r ≡ w r
  imms Addi w rd v within = puts w rd v within
  imms Subi w rd v within = puts w rd v within
  imms Addsi w rd v within = writes-flagged w rd v within
  imms Subsi w rd v within = writes-flagged w rd v within

  module _ (q : CpuState) where
    keep-loads : (to width : ℕ) (signed : Bool) (o : Option ℕ) → is_outside Aarch64 moves to ≡ false → Keeps q (loads q to width signed o)
    keep-loads to width signed None h = refl
    keep-loads to width signed (Some value) h = writes q.registers to _ h

    keep-load : (to address width : ℕ) (signed : Bool) → is_outside Aarch64 moves to ≡ false → Keeps q (load_at q to address width signed)
    keep-load to address width signed h = keep-loads to width signed (loaded q.bytes address width) h

    keep-store : (address width value : ℕ) → Keeps q (store_at q address width value)
    keep-store address width value =
        choice (Keeps q) (mapped q.bytes address width) (arrives (add_words q.pc 4) q.registers q.flags (stored q.bytes address width value) q.mark) (faults q Memory) refl refl

    keep-scaled : (op : ScaledOp) (rt a : ℕ) → IsWithin moves (scaled_destination op rt) → Keeps q (scaled_effect op rt a q)
    keep-scaled Ldr64 rt a h = keep-load rt a 8 false h
    keep-scaled Str64 rt a h = keep-store a 8 (read q.registers rt)
    keep-scaled Ldr32 rt a h = keep-load rt a 4 false h
    keep-scaled Ldrs32 rt a h = keep-load rt a 4 true h
    keep-scaled Str32 rt a h = keep-store a 4 (read q.registers rt)
    keep-scaled Ldr16 rt a h = keep-load rt a 2 false h
    keep-scaled Ldrs16 rt a h = keep-load rt a 2 true h
    keep-scaled Str16 rt a h = keep-store a 2 (read q.registers rt)
    keep-scaled Ldr8 rt a h = keep-load rt a 1 false h
    keep-scaled Ldrs8 rt a h = keep-load rt a 1 true h
    keep-scaled Str8 rt a h = keep-store a 1 (read q.registers rt)

    keep-unscaled : (op : UnscaledOp) (rt a : ℕ) → IsWithin moves (unscaled_destination op rt) → Keeps q (unscaled_effect op rt a q)
    keep-unscaled Ldur rt a h = keep-load rt a 8 false h
    keep-unscaled Stur rt a h = keep-store a 8 (read q.registers rt)

    keep-branch : (op : BranchOp) (target : ℕ) → IsWithin moves (branch_destination op) → Keeps q (branch_effect op target q)
    keep-branch B target h = refl
    keep-branch Bl target h = puts q.registers 30 _ h

    keep-branch-reg : (op : BranchRegOp) (target : ℕ) → IsWithin moves (branch_reg_destination op) → Keeps q (branch_reg_effect op target q)
    keep-branch-reg Br target h = refl
    keep-branch-reg Blr target h = puts q.registers 30 _ h
    keep-branch-reg Ret target h = refl

    keep-act : (i : Instr) → WritesWithin moves i → Keeps q (act i q)
    keep-act (Reg op rd rn rm) h = regs op q.registers rd _ h
    keep-act (Imm op rd rn imm shifted) h = imms op q.registers rd (imm_value op (q.registers rn) (imm_number imm shifted)) h
    keep-act (Wide op rd imm hw) h = writes q.registers rd _ h
    keep-act (MulAdd op rd rn rm ra) h = writes q.registers rd _ h
    keep-act (Bitfield op rd rn immr imms) h = writes q.registers rd _ h
    keep-act (Csinc rd rn rm cond) h = writes q.registers rd _ h
    keep-act (Reverse op rd rn) h = writes q.registers rd _ h
    keep-act (Scaled op rt rn imm) h = keep-scaled op rt (add_words (q.registers rn) (imm * scaled_width op)) h
    keep-act (Ldrx rt rn rm) h = keep-load rt (add_words (q.registers rn) (read q.registers rm)) 8 false h
    keep-act (Unscaled op rt rn imm) h = keep-unscaled op rt (add_words (q.registers rn) (word_of imm)) h
    keep-act (Branch op words) h = keep-branch op (away q.pc (word_of words)) h
    keep-act (BranchIf cond words) h = refl
    keep-act (BranchReg op rn) h = keep-branch-reg op (read q.registers rn) h
    keep-act Nop h = refl

-- an instruction that writes no register that is outside keeps these registers
pub instructions-stay : InstructionsStay
instructions-stay code trash moves i within q r out = by q.progress
  where
    by : (x : Progress) → (on_going x (after q (act i q.state)) q).state.registers r ≡ q.state.registers r
    by Goes = keep-act moves r out q.state i within
    by (EndedWith n) = refl
    by (Faulted kind) = refl
