-- What instructions write, and where they go on.
use Rattle.std.proofs.Common.{◌≡◌, ℕ, ◌*◌, ◌/◌, ◌%◌, Bool, true, false, [], Option, Some, None, refl}
use Rattle.std.specs.Prelude.{◌==◌, pos, if◌then◌else◌, is_some}
use Rattle.lg_base.specs.Fields.{word_of}
use Rattle.lg_base.specs.Runs.{Running}
use Rattle.lg_base.specs.Spaces.{mapped, loaded, stored}
use Rattle.lg_base.specs.Words.{add_words}
use Rattle.lg_base.specs.declared.fault.FaultKind.TheVariants.{Align, Memory}
use Rattle.lg_rv.specs.declared.instruction.Instr.{Instr}
use Rattle.lg_rv.specs.declared.instruction.Instr.TheVariants.{Upper, Jal, Branch, Imm, Shift, Store, Reg}
use Rattle.lg_rv.specs.declared.instruction.UpperOp.TheVariants.{Lui, Auipc}
use Rattle.lg_rv.specs.declared.instruction.ImmOp.{ImmOp}
use Rattle.lg_rv.specs.declared.instruction.ImmOp.TheVariants.{Jalr, Lb, Lh, Lw, Ld, Lbu, Lhu, Lwu}
use Rattle.lg_cpu.specs.Steps.{Effect, faults, status_of}
use Rattle.lg_cpu.specs.HostSteps.{put}
use Rattle.lg_cpu.specs.RvOperators.{is_taken}
use Rattle.lg_cpu.specs.States.{CpuState}
use Rattle.lg_cpu.specs.RvStep.{read, goes, loads, load_at, store_at, store_width, jump_to, branch_to, imm_effect, act}
use Rattle.lg_selr_values.specs.Processor.RvRows.{is_straight}
use Rattle.lg_carry.proofs.SpillLemmas.{stored-there}

choice : (P : Effect CpuState → Type 0) (b : Bool) (e f : Effect CpuState) → P e → P f → P (if b then e else f)
choice P true e f h k = h
choice P false e f h k = k

-- ---- nothing is written
abbrev Silent : Effect CpuState → Type 0
Silent e = e.written ≡ []

silent_loads : (q : CpuState) (to width : ℕ) (signed : Bool) (o : Option ℕ) → Silent (loads q to width signed o)
silent_loads q to width signed None = refl
silent_loads q to width signed (Some value) = refl

silent_load : (q : CpuState) (to address width : ℕ) (signed : Bool) → Silent (load_at q to address width signed)
silent_load q to address width signed = choice Silent (address % width == 0) (loads q to width signed (loaded q.bytes address width)) (faults q Align) (silent_loads q to width signed (loaded q.bytes address width)) refl

silent_store : (q : CpuState) (address width value : ℕ) → Silent (store_at q address width value)
silent_store q address width value =
    choice Silent (address % width == 0) (if mapped q.bytes address width then goes (add_words q.pc 4) q.registers (stored q.bytes address width value) q.mark else faults q Memory) (faults q Align)
    (choice Silent (mapped q.bytes address width) (goes (add_words q.pc 4) q.registers (stored q.bytes address width value) q.mark) (faults q Memory) refl refl) refl

silent_jump : (q : CpuState) (link target : ℕ) → Silent (jump_to q link target)
silent_jump q link target = choice Silent (target % 4 == 0) (goes target (put q.registers link (add_words q.pc 4)) q.bytes q.mark) (faults q Align) refl refl

silent_branch : (q : CpuState) (target : ℕ) (taken : Bool) → Silent (branch_to q target taken)
silent_branch q target true = choice Silent (target % 4 == 0) (goes target q.registers q.bytes q.mark) (faults q Align) refl refl
silent_branch q target false = refl

silent_imm : (op : ImmOp) (rd a n : ℕ) (q : CpuState) → Silent (imm_effect op rd a n q)
silent_imm Jalr rd a n q = silent_jump q rd (add_words a n / 2 * 2)
silent_imm Lb rd a n q = silent_load q rd (add_words a n) 1 true
silent_imm Lh rd a n q = silent_load q rd (add_words a n) 2 true
silent_imm Lw rd a n q = silent_load q rd (add_words a n) 4 true
silent_imm Ld rd a n q = silent_load q rd (add_words a n) 8 false
silent_imm Lbu rd a n q = silent_load q rd (add_words a n) 1 false
silent_imm Lhu rd a n q = silent_load q rd (add_words a n) 2 false
silent_imm Lwu rd a n q = silent_load q rd (add_words a n) 4 false
silent_imm op rd a n q = refl

pub silent_act : (i : Instr) (q : CpuState) → Silent (act i q)
silent_act (Jal rd offset) q = silent_jump q rd (add_words q.pc (word_of offset))
silent_act (Branch op rs1 rs2 offset) q = silent_branch q (add_words q.pc (word_of offset)) (is_taken op (read q.registers rs1) (read q.registers rs2))
silent_act (Imm op rd rs1 imm) q = silent_imm op rd (read q.registers rs1) (word_of imm) q
silent_act (Store op rs1 rs2 imm) q = silent_store q (add_words (read q.registers rs1) (word_of imm)) (store_width op) (read q.registers rs2)
silent_act (Upper Lui rd imm) q = refl
silent_act i q = refl

-- ---- the heap mark stays, and no byte is taken away
pub record Steady (q : CpuState) (e : Effect CpuState) : Type 0 where
  pub mark : e.to.mark ≡ q.mark
  pub grows : (a : ℕ) → is_some (q.bytes a) ≡ true → is_some (e.to.bytes a) ≡ true

steady_loads : (q : CpuState) (to width : ℕ) (signed : Bool) (o : Option ℕ) → Steady q (loads q to width signed o)
steady_loads q to width signed None = record { mark = refl; grows = λ a h. h }
steady_loads q to width signed (Some value) = record { mark = refl; grows = λ a h. h }

steady_load : (q : CpuState) (to address width : ℕ) (signed : Bool) → Steady q (load_at q to address width signed)
steady_load q to address width signed = choice (Steady q) (address % width == 0) (loads q to width signed (loaded q.bytes address width)) (faults q Align) (steady_loads q to width signed (loaded q.bytes address width)) record { mark = refl; grows = λ a h. h }

steady_store : (q : CpuState) (address width value : ℕ) → Steady q (store_at q address width value)
steady_store q address width value =
    choice (Steady q) (address % width == 0) (if mapped q.bytes address width then goes (add_words q.pc 4) q.registers (stored q.bytes address width value) q.mark else faults q Memory) (faults q Align)
    (choice (Steady q) (mapped q.bytes address width) (goes (add_words q.pc 4) q.registers (stored q.bytes address width value) q.mark) (faults q Memory) record { mark = refl; grows = λ a h. stored-there q.bytes address width value a h } record { mark = refl; grows = λ a h. h }) record { mark = refl; grows = λ a h. h }

steady_jump : (q : CpuState) (link target : ℕ) → Steady q (jump_to q link target)
steady_jump q link target = choice (Steady q) (target % 4 == 0) (goes target (put q.registers link (add_words q.pc 4)) q.bytes q.mark) (faults q Align) record { mark = refl; grows = λ a h. h } record { mark = refl; grows = λ a h. h }

steady_branch : (q : CpuState) (target : ℕ) (taken : Bool) → Steady q (branch_to q target taken)
steady_branch q target true = choice (Steady q) (target % 4 == 0) (goes target q.registers q.bytes q.mark) (faults q Align) record { mark = refl; grows = λ a h. h } record { mark = refl; grows = λ a h. h }
steady_branch q target false = record { mark = refl; grows = λ a h. h }

steady_imm : (op : ImmOp) (rd a n : ℕ) (q : CpuState) → Steady q (imm_effect op rd a n q)
steady_imm Jalr rd a n q = steady_jump q rd (add_words a n / 2 * 2)
steady_imm Lb rd a n q = steady_load q rd (add_words a n) 1 true
steady_imm Lh rd a n q = steady_load q rd (add_words a n) 2 true
steady_imm Lw rd a n q = steady_load q rd (add_words a n) 4 true
steady_imm Ld rd a n q = steady_load q rd (add_words a n) 8 false
steady_imm Lbu rd a n q = steady_load q rd (add_words a n) 1 false
steady_imm Lhu rd a n q = steady_load q rd (add_words a n) 2 false
steady_imm Lwu rd a n q = steady_load q rd (add_words a n) 4 false
steady_imm op rd a n q = record { mark = refl; grows = λ a h. h }

pub steady_act : (i : Instr) (q : CpuState) → Steady q (act i q)
steady_act (Jal rd offset) q = steady_jump q rd (add_words q.pc (word_of offset))
steady_act (Branch op rs1 rs2 offset) q = steady_branch q (add_words q.pc (word_of offset)) (is_taken op (read q.registers rs1) (read q.registers rs2))
steady_act (Imm op rd rs1 imm) q = steady_imm op rd (read q.registers rs1) (word_of imm) q
steady_act (Store op rs1 rs2 imm) q = steady_store q (add_words (read q.registers rs1) (word_of imm)) (store_width op) (read q.registers rs2)
steady_act (Upper Lui rd imm) q = record { mark = refl; grows = λ a h. h }
steady_act i q = record { mark = refl; grows = λ a h. h }

-- ---- the next instruction follows, or the step faults
abbrev Next : CpuState → Effect CpuState → Type 0
Next q e = status_of e.progress ≡ Running → e.to.pc ≡ add_words q.pc 4

next_loads : (q : CpuState) (to width : ℕ) (signed : Bool) (o : Option ℕ) → Next q (loads q to width signed o)
next_loads q to width signed None e = cc
next_loads q to width signed (Some value) e = refl

next_load : (q : CpuState) (to address width : ℕ) (signed : Bool) → Next q (load_at q to address width signed)
next_load q to address width signed = choice (Next q) (address % width == 0) (loads q to width signed (loaded q.bytes address width)) (faults q Align) (next_loads q to width signed (loaded q.bytes address width)) (λ e. cc)

next_store : (q : CpuState) (address width value : ℕ) → Next q (store_at q address width value)
next_store q address width value =
    choice (Next q) (address % width == 0) (if mapped q.bytes address width then goes (add_words q.pc 4) q.registers (stored q.bytes address width value) q.mark else faults q Memory) (faults q Align)
    (choice (Next q) (mapped q.bytes address width) (goes (add_words q.pc 4) q.registers (stored q.bytes address width value) q.mark) (faults q Memory) (λ e. refl) (λ e. cc)) (λ e. cc)

next_imm : (op : ImmOp) (rd rs1 a n : ℕ) (q : CpuState) → is_straight (Imm op rd rs1 (pos 0)) ≡ true → Next q (imm_effect op rd a n q)
next_imm Jalr rd rs1 a n q h = λ e. cc
next_imm Lb rd rs1 a n q h = next_load q rd (add_words a n) 1 true
next_imm Lh rd rs1 a n q h = next_load q rd (add_words a n) 2 true
next_imm Lw rd rs1 a n q h = next_load q rd (add_words a n) 4 true
next_imm Ld rd rs1 a n q h = next_load q rd (add_words a n) 8 false
next_imm Lbu rd rs1 a n q h = next_load q rd (add_words a n) 1 false
next_imm Lhu rd rs1 a n q h = next_load q rd (add_words a n) 2 false
next_imm Lwu rd rs1 a n q h = next_load q rd (add_words a n) 4 false
next_imm op rd rs1 a n q h = λ e. refl

pub next_act : (i : Instr) (q : CpuState) → is_straight i ≡ true → Next q (act i q)
next_act (Upper Lui rd imm) q h = λ e. refl
next_act (Upper Auipc rd imm) q h = λ e. refl
next_act (Jal rd offset) q h = λ e. cc
next_act (Branch op rs1 rs2 offset) q h = λ e. cc
next_act (Imm op rd rs1 imm) q h = next_imm op rd rs1 (read q.registers rs1) (word_of imm) q (same op h)
  where
    same : (op : ImmOp) → is_straight (Imm op rd rs1 imm) ≡ true → is_straight (Imm op rd rs1 (pos 0)) ≡ true
    same Jalr h = cc
    same op h = refl
next_act (Shift op rd rs1 amount) q h = λ e. refl
next_act (Store op rs1 rs2 imm) q h = next_store q (add_words (read q.registers rs1) (word_of imm)) (store_width op) (read q.registers rs2)
next_act (Reg op rd rs1 rs2) q h = λ e. refl
