-- Instructions that write no register that is outside of the conventions keep these registers.
use Rattle.std.proofs.Common.{◌≡◌, ◌≢◌, ℕ, ◌*◌, ◌/◌, ◌%◌, Bool, true, false, Option, Some, None, refl, sym, ap, ◌∙◌, arith}
use Rattle.std.specs.Prelude.{◌==◌, if◌then◌else◌}
use Rattle.std.proofs.lemmas.Bool.Decides.{nat_tests}
use Rattle.lg_base.specs.Fields.{word_of}
use Rattle.lg_base.specs.Spaces.{mapped, loaded, stored}
use Rattle.lg_base.specs.Words.{add_words}
use Rattle.lg_base.specs.declared.fault.FaultKind.TheVariants.{Align, Memory}
use Rattle.lg_base.specs.declared.target.Target.TheVariants.{Riscv64}
use Rattle.lg_rv.specs.declared.instruction.Instr.{Instr}
use Rattle.lg_rv.specs.declared.instruction.Instr.TheVariants.{Upper, Jal, Branch, Imm, Shift, Store, Reg}
use Rattle.lg_rv.specs.declared.instruction.UpperOp.TheVariants.{Lui, Auipc}
use Rattle.lg_rv.specs.declared.instruction.ImmOp.{ImmOp}
use Rattle.lg_rv.specs.declared.instruction.ImmOp.TheVariants.{Jalr, Lb, Lh, Lw, Ld, Lbu, Lhu, Lwu}
use Rattle.lg_cpu.specs.HostSteps.{put}
use Rattle.lg_cpu.specs.RvOperators.{is_taken}
use Rattle.lg_cpu.specs.RvStep.{read, goes, loads, load_at, store_at, store_width, jump_to, branch_to, imm_effect, act}
use Rattle.lg_cpu.specs.States.{CpuState}
use Rattle.lg_cpu.specs.Steps.{Progress, Goes, EndedWith, Faulted, Effect, after, on_going, faults}
use Rattle.lg_carry.specs.Outside.{is_outside}
use Rattle.lg_selr_values.specs.Processor.Destinations.{WritesWithin, InstructionsStay}

choice : (P : Effect CpuState → Type 0) (b : Bool) (e f : Effect CpuState) → P e → P f → P (if b then e else f)
choice P true e f h k = h
choice P false e f h k = k

-- ---- what an instruction does to a register
module _ (moves : Bool) (r : ℕ) (out : is_outside Riscv64 moves r ≡ true) where
  abbrev Keeps : CpuState → Effect CpuState → Type 0
  Keeps q e = e.to.registers r ≡ q.registers r

  differs : (rd : ℕ) → is_outside Riscv64 moves rd ≡ false → r ≡ rd → ⊥
  differs rd within e = no (sym out ∙ ap (is_outside Riscv64 moves) e ∙ within)
    where
      no : true ≡ false → ⊥
      no e = cc

  other : (rd : ℕ) → is_outside Riscv64 moves rd ≡ false → (r == rd) ≡ false
  other rd within = let n : r ≢ rd = differs rd within in grind (arith, nat_tests)

  puts : (w : ℕ → ℕ) (rd v : ℕ) → is_outside Riscv64 moves rd ≡ false → put w rd v r ≡ w r
  puts w rd v within = ap (λ (b : Bool). if b then v else w r) (other rd within)

  module _ (q : CpuState) where
    keep-loads : (to width : ℕ) (signed : Bool) (o : Option ℕ) → is_outside Riscv64 moves to ≡ false → Keeps q (loads q to width signed o)
    keep-loads to width signed None h = refl
    keep-loads to width signed (Some value) h = puts q.registers to _ h

    keep-load : (to address width : ℕ) (signed : Bool) → is_outside Riscv64 moves to ≡ false → Keeps q (load_at q to address width signed)
    keep-load to address width signed h = choice (Keeps q) (address % width == 0) (loads q to width signed (loaded q.bytes address width)) (faults q Align) (keep-loads to width signed (loaded q.bytes address width) h) refl

    keep-store : (address width value : ℕ) → Keeps q (store_at q address width value)
    keep-store address width value =
        choice (Keeps q) (address % width == 0) (if mapped q.bytes address width then goes (add_words q.pc 4) q.registers (stored q.bytes address width value) q.mark else faults q Memory) (faults q Align)
        (choice (Keeps q) (mapped q.bytes address width) (goes (add_words q.pc 4) q.registers (stored q.bytes address width value) q.mark) (faults q Memory) refl refl) refl

    keep-jump : (link target : ℕ) → is_outside Riscv64 moves link ≡ false → Keeps q (jump_to q link target)
    keep-jump link target h = choice (Keeps q) (target % 4 == 0) (goes target (put q.registers link (add_words q.pc 4)) q.bytes q.mark) (faults q Align) (puts q.registers link _ h) refl

    keep-branch : (target : ℕ) (taken : Bool) → Keeps q (branch_to q target taken)
    keep-branch target true = choice (Keeps q) (target % 4 == 0) (goes target q.registers q.bytes q.mark) (faults q Align) refl refl
    keep-branch target false = refl

    keep-imm : (op : ImmOp) (rd a n : ℕ) → is_outside Riscv64 moves rd ≡ false → Keeps q (imm_effect op rd a n q)
    keep-imm Jalr rd a n h = keep-jump rd (add_words a n / 2 * 2) h
    keep-imm Lb rd a n h = keep-load rd (add_words a n) 1 true h
    keep-imm Lh rd a n h = keep-load rd (add_words a n) 2 true h
    keep-imm Lw rd a n h = keep-load rd (add_words a n) 4 true h
    keep-imm Ld rd a n h = keep-load rd (add_words a n) 8 false h
    keep-imm Lbu rd a n h = keep-load rd (add_words a n) 1 false h
    keep-imm Lhu rd a n h = keep-load rd (add_words a n) 2 false h
    keep-imm Lwu rd a n h = keep-load rd (add_words a n) 4 false h
    keep-imm op rd a n h = puts q.registers rd _ h

    keep-act : (i : Instr) → WritesWithin moves i → Keeps q (act i q)
    keep-act (Upper Lui rd imm) h = puts q.registers rd _ h
    keep-act (Upper Auipc rd imm) h = puts q.registers rd _ h
    keep-act (Jal rd offset) h = keep-jump rd (add_words q.pc (word_of offset)) h
    keep-act (Branch op rs1 rs2 offset) h = keep-branch (add_words q.pc (word_of offset)) (is_taken op (read q.registers rs1) (read q.registers rs2))
    keep-act (Imm op rd rs1 imm) h = keep-imm op rd (read q.registers rs1) (word_of imm) h
    keep-act (Shift op rd rs1 amount) h = puts q.registers rd _ h
    keep-act (Store op rs1 rs2 imm) h = keep-store (add_words (read q.registers rs1) (word_of imm)) (store_width op) (read q.registers rs2)
    keep-act (Reg op rd rs1 rs2) h = puts q.registers rd _ h

-- an instruction that writes no register that is outside keeps these registers
pub instructions-stay : InstructionsStay
instructions-stay code trash moves i within q r out = by q.progress
  where
    by : (x : Progress) → (on_going x (after q (act i q.state)) q).state.registers r ≡ q.state.registers r
    by Goes = keep-act moves r out q.state i within
    by (EndedWith n) = refl
    by (Faulted kind) = refl
