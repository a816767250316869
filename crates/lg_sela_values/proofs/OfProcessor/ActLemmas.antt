-- What instructions write, and where they go on.
use Rattle.std.proofs.Common.{◌≡◌, ℕ, ◌*◌, Bool, true, false, [], Option, Some, None, refl}
use Rattle.std.specs.Prelude.{if◌then◌else◌, is_some}
use Rattle.lg_base.specs.Fields.{word_of}
use Rattle.lg_base.specs.Runs.{Running}
use Rattle.lg_base.specs.Spaces.{mapped, loaded, stored}
use Rattle.lg_base.specs.Words.{add_words}
use Rattle.lg_base.specs.declared.fault.FaultKind.TheVariants.{Memory}
use Rattle.lg_a64.specs.declared.instruction.Instr.{Instr}
use Rattle.lg_a64.specs.declared.instruction.Instr.TheVariants.{Scaled, Ldrx, Unscaled, Branch, BranchIf, BranchReg}
use Rattle.lg_a64.specs.declared.instruction.ScaledOp.{ScaledOp}
use Rattle.lg_a64.specs.declared.instruction.ScaledOp.TheVariants.{Ldr64, Str64, Ldr32, Ldrs32, Str32, Ldr16, Ldrs16, Str16, Ldr8, Ldrs8, Str8}
use Rattle.lg_a64.specs.declared.instruction.UnscaledOp.{UnscaledOp}
use Rattle.lg_a64.specs.declared.instruction.UnscaledOp.TheVariants.{Ldur, Stur}
use Rattle.lg_a64.specs.declared.instruction.BranchOp.{BranchOp}
use Rattle.lg_a64.specs.declared.instruction.BranchOp.TheVariants.{B, Bl}
use Rattle.lg_a64.specs.declared.instruction.BranchRegOp.{BranchRegOp}
use Rattle.lg_a64.specs.declared.instruction.BranchRegOp.TheVariants.{Br}
use Rattle.lg_cpu.specs.Steps.{Effect, faults, status_of}
use Rattle.lg_cpu.specs.States.{CpuState, arrives}
use Rattle.lg_cpu.specs.A64Step.{read, loads, load_at, store_at, scaled_width, scaled_effect, unscaled_effect, branch_effect, branch_reg_effect, away, act}
use Rattle.lg_sela_values.specs.Processor.A64Rows.{is_straight}
use Rattle.lg_carry.proofs.SpillLemmas.{stored-there}

choice : (P : Effect CpuState → Type 0) (b : Bool) (e f : Effect CpuState) → P e → P f → P (if b then e else f)
choice P true e f h k = h
choice P false e f h k = k

-- nothing is written, the heap mark stays, no byte is taken away, and where the run goes on and the instruction is straight, the next one follows
pub record Steady (straight : Bool) (q : CpuState) (e : Effect CpuState) : Type 0 where
  pub silent : e.written ≡ []
  pub mark : e.to.mark ≡ q.mark
  pub grows : (a : ℕ) → is_some (q.bytes a) ≡ true → is_some (e.to.bytes a) ≡ true
  pub next : straight ≡ true → status_of e.progress ≡ Running → e.to.pc ≡ add_words q.pc 4

still : (q : CpuState) (e : Effect CpuState) → e.written ≡ [] → e.to.mark ≡ q.mark → e.to.bytes ≡ q.bytes → e.to.pc ≡ add_words q.pc 4 → Steady true q e
still q e w m b p = record { silent = w; mark = m; grows = λ a h. rw b h; next = λ s r. p }

steady_loads : (q : CpuState) (to width : ℕ) (signed : Bool) (o : Option ℕ) → Steady true q (loads q to width signed o)
steady_loads q to width signed None = record { silent = refl; mark = refl; grows = λ a h. h; next = λ s e. cc }
steady_loads q to width signed (Some value) = record { silent = refl; mark = refl; grows = λ a h. h; next = λ s e. refl }

steady_load : (q : CpuState) (to address width : ℕ) (signed : Bool) → Steady true q (load_at q to address width signed)
steady_load q to address width signed = steady_loads q to width signed (loaded q.bytes address width)

steady_store : (q : CpuState) (address width value : ℕ) → Steady true q (store_at q address width value)
steady_store q address width value =
    choice (Steady true q) (mapped q.bytes address width) (arrives (add_words q.pc 4) q.registers q.flags (stored q.bytes address width value) q.mark) (faults q Memory)
    record { silent = refl; mark = refl; grows = λ a h. stored-there q.bytes address width value a h; next = λ s e. refl }
    record { silent = refl; mark = refl; grows = λ a h. h; next = λ s e. cc }

steady_scaled : (op : ScaledOp) (rt a : ℕ) (q : CpuState) → Steady true q (scaled_effect op rt a q)
steady_scaled Ldr64 rt a q = steady_load q rt a 8 false
steady_scaled Str64 rt a q = steady_store q a 8 (read q.registers rt)
steady_scaled Ldr32 rt a q = steady_load q rt a 4 false
steady_scaled Ldrs32 rt a q = steady_load q rt a 4 true
steady_scaled Str32 rt a q = steady_store q a 4 (read q.registers rt)
steady_scaled Ldr16 rt a q = steady_load q rt a 2 false
steady_scaled Ldrs16 rt a q = steady_load q rt a 2 true
steady_scaled Str16 rt a q = steady_store q a 2 (read q.registers rt)
steady_scaled Ldr8 rt a q = steady_load q rt a 1 false
steady_scaled Ldrs8 rt a q = steady_load q rt a 1 true
steady_scaled Str8 rt a q = steady_store q a 1 (read q.registers rt)

steady_unscaled : (op : UnscaledOp) (rt a : ℕ) (q : CpuState) → Steady true q (unscaled_effect op rt a q)
steady_unscaled Ldur rt a q = steady_load q rt a 8 false
steady_unscaled Stur rt a q = steady_store q a 8 (read q.registers rt)

steady_branch : (op : BranchOp) (target : ℕ) (q : CpuState) → Steady false q (branch_effect op target q)
steady_branch B target q = record { silent = refl; mark = refl; grows = λ a h. h; next = λ s e. cc }
steady_branch Bl target q = record { silent = refl; mark = refl; grows = λ a h. h; next = λ s e. cc }

steady_branch_reg : (op : BranchRegOp) (target : ℕ) (q : CpuState) → Steady false q (branch_reg_effect op target q)
steady_branch_reg Br target q = record { silent = refl; mark = refl; grows = λ a h. h; next = λ s e. cc }
steady_branch_reg o target q = record { silent = refl; mark = refl; grows = λ a h. h; next = λ s e. cc }

pub steady_act : (i : Instr) (q : CpuState) → Steady (is_straight i) q (act i q)
steady_act (Scaled op rt rn imm) q = steady_scaled op rt (add_words (q.registers rn) (imm * scaled_width op)) q
steady_act (Ldrx rt rn rm) q = steady_load q rt (add_words (q.registers rn) (read q.registers rm)) 8 false
steady_act (Unscaled op rt rn imm) q = steady_unscaled op rt (add_words (q.registers rn) (word_of imm)) q
steady_act (Branch op words) q = steady_branch op (away q.pc (word_of words)) q
steady_act (BranchIf cond words) q = record { silent = refl; mark = refl; grows = λ a h. h; next = λ s e. cc }
steady_act (BranchReg op rn) q = steady_branch_reg op (read q.registers rn) q
steady_act i q = still q _ refl refl refl refl
