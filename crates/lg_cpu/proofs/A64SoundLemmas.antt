-- Words stay words, on AArch64.
use Rattle.std.proofs.Common.{◌≡◌, ℕ, ◌+◌, ◌-◌, ◌*◌, ◌%◌, ◌^◌, ◌<◌, Bool, true, false, List, ◌++◌, drop, Option, Some, None, refl, arith}
use Rattle.std.specs.Prelude.{◌==◌, IfSome, if◌then◌else◌}
use Rattle.lg_base.specs.Fields.{word_of}
use Rattle.lg_base.specs.Layout.{code_base}
use Rattle.lg_base.specs.Words.{add_words}
use Rattle.lg_base.specs.Spaces.{mapped, loaded, stored}
use Rattle.lg_base.specs.declared.flags.Flags.{Flags}
use Rattle.lg_base.specs.HostNames.{host_by_address}
use Rattle.lg_base.specs.declared.host_name.HostName.{HostName}
use Rattle.lg_base.specs.declared.target.Target.TheVariants as target
use Rattle.lg_base.specs.declared.fault.FaultKind.TheVariants.{Align, Memory, Fetch, Host}
use Rattle.lg_base.proofs.WordFrontLemmas.{word_spells}
use Rattle.lg_a64.specs.Reading.{instr_of, front_of}
use Rattle.lg_a64.specs.Spelling as a64
use Rattle.lg_a64.proofs.SpellsLemmas.{read_spells}
use Rattle.lg_a64.specs.declared.instruction.Instr.{Instr}
use Rattle.lg_a64.specs.declared.instruction.Instr.TheVariants.{Reg, Imm, Wide, MulAdd, Bitfield, Csinc, Reverse, Scaled, Ldrx, Unscaled, Branch, BranchIf, BranchReg, Nop}
use Rattle.lg_a64.specs.declared.instruction.ImmOp.{ImmOp}
use Rattle.lg_a64.specs.declared.instruction.ImmOp.TheVariants.{Addi, Addsi, Subi, Subsi}
use Rattle.lg_a64.specs.declared.instruction.ScaledOp.{ScaledOp}
use Rattle.lg_a64.specs.declared.instruction.ScaledOp.TheVariants.{Ldr64, Str64, Ldr32, Ldrs32, Str32, Ldr16, Ldrs16, Str16, Ldr8, Ldrs8, Str8}
use Rattle.lg_a64.specs.declared.instruction.UnscaledOp.{UnscaledOp}
use Rattle.lg_a64.specs.declared.instruction.UnscaledOp.TheVariants.{Ldur, Stur}
use Rattle.lg_a64.specs.declared.instruction.BranchOp.{BranchOp}
use Rattle.lg_a64.specs.declared.instruction.BranchOp.TheVariants.{B, Bl}
use Rattle.lg_a64.specs.declared.instruction.BranchRegOp.{BranchRegOp}
use Rattle.lg_a64.specs.declared.instruction.BranchRegOp.TheVariants.{Br, Blr, Ret}
use Rattle.lg_cpu.specs.Steps.{faults}
use Rattle.lg_cpu.specs.HostSteps.{answer_at, put, after_call}
use Rattle.lg_cpu.specs.Loads.{extended_by}
use Rattle.lg_cpu.specs.Fetches.{in_code}
use Rattle.lg_cpu.specs.States.{CpuState, arrives}
use Rattle.lg_cpu.specs.A64Operators.{reg_value, imm_value, imm_number, condition_holds}
use Rattle.lg_cpu.specs.A64Step.{read, write, computes, sets, loads, load_at, store_at, link_to, imm_registers, scaled_width, scaled_effect, unscaled_effect, branch_effect, branch_reg_effect, away, act, decoded, fetch, trash_flags, host_effect, enter_host, effect_at, effect}
use Rattle.lg_cpu.specs.Laws.{IsSound, AreBytes}
use Rattle.lg_cpu.proofs.OperatorLemmas.{low_word, choice_word, sign_1_word, sign_2_word, sign_4_word}
use Rattle.lg_cpu.proofs.A64OperatorLemmas.{a64-reg-word, a64-imm-word, a64-wide-word, a64-mul-add-word, a64-bitfield-word, a64-csinc-word, a64-reverse-word}
use Rattle.lg_cpu.proofs.WordLemmas.{AreWords, loaded_lt, stored_sound, put_words, sound_arrives, sound_goes_on, sound_choice, drop_bytes, after_words, sound_host_step}

-- ---- registers
read_word : (f : ℕ → ℕ) (r : ℕ) → AreWords f → read f r < 2 ^ 64
read_word f r h = choice_word (r == 31) 0 (f r) (omega arith) (h r)

write_words : (f : ℕ → ℕ) (to value : ℕ) → AreWords f → value < 2 ^ 64 → AreWords (write f to value)
write_words f to value h k r = choice_word (to == 31) (f r) (put f to value r) (h r) (put_words f to value h k r)

-- ---- effects
sound_computes : (q : CpuState) (registers : ℕ → ℕ) (flags : Flags) → IsSound q → AreWords registers → IsSound (computes q registers flags).to
sound_computes q registers flags s h = sound_arrives q (add_words q.pc 4) registers flags q.bytes s (low_word (q.pc + 4)) h s.bytes

sound_sets : (q : CpuState) (to value : ℕ) → IsSound q → value < 2 ^ 64 → IsSound (sets q to value).to
sound_sets q to value s v = sound_computes q (write q.registers to value) q.flags s (write_words q.registers to value s.words v)

sound_loads : (q : CpuState) (to width : ℕ) (signed : Bool) (o : Option ℕ) → IsSound q → ((v : ℕ) → o ≡ Some v → extended_by signed width v < 2 ^ 64) → IsSound (loads q to width signed o).to
sound_loads q to width signed None s h = s
sound_loads q to width signed (Some v) s h = sound_sets q to (extended_by signed width v) s (h v refl)

sound_load : (q : CpuState) (to address width : ℕ) (signed : Bool) → IsSound q → ((v : ℕ) → v < 256 ^ width → extended_by signed width v < 2 ^ 64) → IsSound (load_at q to address width signed).to
sound_load q to address width signed s h = sound_loads q to width signed (loaded q.bytes address width) s (λ v e. h v (loaded_lt q.bytes address width v s.bytes e))

sound_store : (q : CpuState) (address width value : ℕ) → IsSound q → IsSound (store_at q address width value).to
sound_store q address width value s =
    sound_choice (mapped q.bytes address width) (arrives (add_words q.pc 4) q.registers q.flags (stored q.bytes address width value) q.mark) (faults q Memory)
    (sound_arrives q (add_words q.pc 4) q.registers q.flags (stored q.bytes address width value) s (low_word (q.pc + 4)) s.words (stored_sound q.bytes address width value s.bytes)) s

sound_link : (q : CpuState) (target : ℕ) → IsSound q → target < 2 ^ 64 → IsSound (link_to q target).to
sound_link q target s t = sound_arrives q target (put q.registers 30 (add_words q.pc 4)) q.flags q.bytes s t (put_words q.registers 30 (add_words q.pc 4) s.words (low_word (q.pc + 4))) s.bytes

imm_words : (op : ImmOp) (f : ℕ → ℕ) (rd value : ℕ) → AreWords f → value < 2 ^ 64 → AreWords (imm_registers op f rd value)
imm_words Addi f rd value h k = put_words f rd value h k
imm_words Subi f rd value h k = put_words f rd value h k
imm_words Addsi f rd value h k = write_words f rd value h k
imm_words Subsi f rd value h k = write_words f rd value h k

sound_scaled : (op : ScaledOp) (rt a : ℕ) (q : CpuState) → IsSound q → IsSound (scaled_effect op rt a q).to
sound_scaled Ldr64 rt a q s = sound_load q rt a 8 false s (λ v e. omega (arith, e))
sound_scaled Str64 rt a q s = sound_store q a 8 (read q.registers rt) s
sound_scaled Ldr32 rt a q s = sound_load q rt a 4 false s (λ v e. omega (arith, e))
sound_scaled Ldrs32 rt a q s = sound_load q rt a 4 true s (λ v e. sign_4_word v)
sound_scaled Str32 rt a q s = sound_store q a 4 (read q.registers rt) s
sound_scaled Ldr16 rt a q s = sound_load q rt a 2 false s (λ v e. omega (arith, e))
sound_scaled Ldrs16 rt a q s = sound_load q rt a 2 true s (λ v e. sign_2_word v)
sound_scaled Str16 rt a q s = sound_store q a 2 (read q.registers rt) s
sound_scaled Ldr8 rt a q s = sound_load q rt a 1 false s (λ v e. omega (arith, e))
sound_scaled Ldrs8 rt a q s = sound_load q rt a 1 true s (λ v e. sign_1_word v)
sound_scaled Str8 rt a q s = sound_store q a 1 (read q.registers rt) s

sound_unscaled : (op : UnscaledOp) (rt a : ℕ) (q : CpuState) → IsSound q → IsSound (unscaled_effect op rt a q).to
sound_unscaled Ldur rt a q s = sound_load q rt a 8 false s (λ v e. omega (arith, e))
sound_unscaled Stur rt a q s = sound_store q a 8 (read q.registers rt) s

sound_branch : (op : BranchOp) (target : ℕ) (q : CpuState) → IsSound q → target < 2 ^ 64 → IsSound (branch_effect op target q).to
sound_branch B target q s t = sound_goes_on q target s t
sound_branch Bl target q s t = sound_link q target s t

sound_branch_reg : (op : BranchRegOp) (target : ℕ) (q : CpuState) → IsSound q → target < 2 ^ 64 → IsSound (branch_reg_effect op target q).to
sound_branch_reg Br target q s t = sound_goes_on q target s t
sound_branch_reg Blr target q s t = sound_link q target s t
sound_branch_reg Ret target q s t = sound_goes_on q target s t

sound_act : (i : Instr) (q : CpuState) → a64.IsInstr i → IsSound q → IsSound (act i q).to
sound_act (Reg op rd rn rm) q ok s =
    sound_computes q (write q.registers rd (reg_value op q.flags (read q.registers rn) (read q.registers rm))) _ s
    (write_words q.registers rd (reg_value op q.flags (read q.registers rn) (read q.registers rm)) s.words (a64-reg-word op q.flags (read q.registers rn) (read q.registers rm) (read_word q.registers rn s.words) (read_word q.registers rm s.words)))
sound_act (Imm op rd rn imm shifted) q ok s =
    sound_computes q (imm_registers op q.registers rd (imm_value op (q.registers rn) (imm_number imm shifted))) _ s
    (imm_words op q.registers rd (imm_value op (q.registers rn) (imm_number imm shifted)) s.words (a64-imm-word op (q.registers rn) (imm_number imm shifted)))
sound_act (Wide op rd imm hw) q ok s = sound_sets q rd _ s (a64-wide-word op (read q.registers rd) imm hw (read_word q.registers rd s.words) ok.1)
sound_act (MulAdd op rd rn rm ra) q ok s = sound_sets q rd _ s (a64-mul-add-word op (read q.registers rn) (read q.registers rm) (read q.registers ra))
sound_act (Bitfield op rd rn immr imms) q ok s = sound_sets q rd _ s (a64-bitfield-word op (read q.registers rn) immr imms ok.3)
sound_act (Csinc rd rn rm cond) q ok s = sound_sets q rd _ s (a64-csinc-word (condition_holds cond q.flags) (read q.registers rn) (read q.registers rm) (read_word q.registers rn s.words))
sound_act (Reverse op rd rn) q ok s = sound_sets q rd _ s (a64-reverse-word op (read q.registers rn))
sound_act (Scaled op rt rn imm) q ok s = sound_scaled op rt (add_words (q.registers rn) (imm * scaled_width op)) q s
sound_act (Ldrx rt rn rm) q ok s = sound_load q rt (add_words (q.registers rn) (read q.registers rm)) 8 false s (λ v e. omega (arith, e))
sound_act (Unscaled op rt rn imm) q ok s = sound_unscaled op rt (add_words (q.registers rn) (word_of imm)) q s
sound_act (Branch op words) q ok s = sound_branch op (away q.pc (word_of words)) q s (low_word _)
sound_act (BranchIf cond words) q ok s = sound_goes_on q (if condition_holds cond q.flags then away q.pc (word_of words) else add_words q.pc 4) s (choice_word (condition_holds cond q.flags) (away q.pc (word_of words)) (add_words q.pc 4) (low_word _) (low_word (q.pc + 4)))
sound_act (BranchReg op rn) q ok s = sound_branch_reg op (read q.registers rn) q s (read_word q.registers rn s.words)
sound_act Nop q ok s = sound_computes q q.registers q.flags s s.words

-- ---- fetching
sound_decoded : (o : Option (Instr × ℕ)) (q : CpuState) → IfSome o (λ found. a64.IsInstr found.0) → IsSound q → IsSound (decoded o q).to
sound_decoded None q ok s = s
sound_decoded (Some (i, len)) q ok s = sound_act i q ok s

only_form : (bytes : List ℕ) (o : Option (Instr × ℕ)) → IfSome o (λ found. (a64.IsInstr found.0 × (more : List ℕ) × (bytes ≡ a64.spelling found.0 ++ more)) × (found.1 ≡ 4)) → IfSome o (λ found. a64.IsInstr found.0)
only_form bytes None h = tt
only_form bytes (Some x) h = h.0.0

sound_fetch : (code : List ℕ) (q : CpuState) → AreBytes code → IsSound q → IsSound (fetch code q).to
sound_fetch code q bytes s =
    let front = drop (q.pc - code_base) code in
    let ok = only_form front (front_of front) (word_spells instr_of a64.word_of a64.IsInstr read_spells front (drop_bytes code (q.pc - code_base) bytes)) in
    sound_choice (q.pc % 4 == 0) _ (faults q Align)
    (sound_choice (in_code code q.pc) (decoded (front_of front) q) (faults q Fetch) (sound_decoded (front_of front) q ok s) s)
    s

-- ---- host functions
sound_host : (name : HostName) (trash : ℕ) (q : CpuState) → trash < 2 ^ 64 → IsSound q → IsSound (enter_host name trash q).to
sound_host name trash q t s =
    sound_choice (q.registers 31 % 16 == 0) (host_effect (answer_at target.Aarch64 name (q.registers 31) q) trash q) (faults q Host)
    (sound_host_step target.Aarch64 name (q.registers 31) q (q.registers 30) (after_call target.Aarch64 32 q.registers trash) (trash_flags trash) (s.words 30) (λ v small. after_words target.Aarch64 32 q.registers trash v s.words t small) s) s

sound_at : (o : Option HostName) (code : List ℕ) (trash : ℕ) (q : CpuState) → AreBytes code → trash < 2 ^ 64 → IsSound q → IsSound (effect_at o code trash q).to
sound_at None code trash q bytes t s = sound_fetch code q bytes s
sound_at (Some name) code trash q bytes t s = sound_host name trash q t s

pub a64-stays-sound : (code : List ℕ) (trash : ℕ) (q : CpuState) → AreBytes code → trash < 2 ^ 64 → IsSound q → IsSound (effect code trash q).to
a64-stays-sound code trash q bytes t s = sound_at (host_by_address q.pc) code trash q bytes t s
