-- Words stay words on RV64IM.
use Rattle.std.proofs.Common.{◌≡◌, ℕ, ◌+◌, ◌-◌, ◌*◌, ◌/◌, ◌%◌, ◌^◌, ◌<◌, Bool, true, false, List, ◌++◌, drop, Option, Some, None, refl, arith}
use Rattle.std.specs.Prelude.{◌==◌, IfSome, ℤ, pos, negsuc, ◌≤ℤ◌}
use Rattle.std.proofs.lemmas.Int.{ints}
use Rattle.lg_base.specs.Fields.{word_of}
use Rattle.lg_base.specs.Layout.{code_base}
use Rattle.lg_base.specs.Words.{add_words, sign_32}
use Rattle.lg_base.specs.Spaces.{mapped, loaded, stored}
use Rattle.lg_base.specs.HostNames.{host_by_address}
use Rattle.lg_base.specs.declared.host_name.HostName.{HostName}
use Rattle.lg_base.specs.declared.target.Target.TheVariants as target
use Rattle.lg_base.specs.declared.fault.FaultKind.TheVariants.{Align, Memory, Fetch, Host}
use Rattle.lg_base.specs.declared.flags.Flags.TheVariants.{NoFlags}
use Rattle.lg_base.proofs.WordFrontLemmas.{word_spells}
use Rattle.lg_rv.specs.Reading.{instr_of, front_of}
use Rattle.lg_rv.specs.Spelling as rv
use Rattle.lg_rv.proofs.SpellsLemmas.{read_spells}
use Rattle.lg_rv.specs.declared.instruction.Instr.{Instr}
use Rattle.lg_rv.specs.declared.instruction.Instr.TheVariants.{Upper, Jal, Branch, Imm, Shift, Store, Reg}
use Rattle.lg_rv.specs.declared.instruction.UpperOp.TheVariants.{Lui, Auipc}
use Rattle.lg_rv.specs.declared.instruction.ImmOp.{ImmOp}
use Rattle.lg_rv.specs.declared.instruction.ImmOp.TheVariants.{Jalr, Lb, Lh, Lw, Ld, Lbu, Lhu, Lwu, Addi, Slti, Sltiu, Xori, Ori, Andi, Addiw}
use Rattle.lg_rv.specs.declared.instruction.RegOp.TheVariants.{Add, Slt, Sltu, Xor, Or, And, Addw}
use Rattle.lg_cpu.specs.Steps.{faults}
use Rattle.lg_cpu.specs.HostSteps.{answer_at, put, after_call}
use Rattle.lg_cpu.specs.RvOperators.{reg_value, is_taken}
use Rattle.lg_cpu.specs.States.{CpuState}
use Rattle.lg_cpu.specs.Loads.{extended_by}
use Rattle.lg_cpu.specs.RvStep.{read, goes, sets, loads, load_at, store_at, store_width, jump_to, branch_to, imm_effect, act, decoded, fetch, host_effect, enter_host, effect_at, effect}
use Rattle.lg_cpu.specs.Fetches.{in_code}
use Rattle.lg_cpu.specs.Laws.{IsSound, AreBytes}
use Rattle.lg_cpu.proofs.WordLemmas.{AreWords, loaded_lt, stored_sound, put_words, sound_arrives, sound_choice, drop_bytes, after_words, sound_host_step}
use Rattle.lg_cpu.proofs.OperatorLemmas.{low_word, sign_32_word, choice_word, reg_word, shift_word, sign_1_word, sign_2_word, sign_4_word}

-- ---- registers
read_word : (f : ℕ → ℕ) (r : ℕ) → AreWords f → read f r < 2 ^ 64
read_word f r h = choice_word (r == 0) 0 (f r) (omega arith) (h r)

-- ---- effects
sound_sets : (q : CpuState) (to value : ℕ) → IsSound q → value < 2 ^ 64 → IsSound (sets q to value).to
sound_sets q to value s v = sound_arrives q (add_words q.pc 4) (put q.registers to value) NoFlags q.bytes s (low_word (q.pc + 4)) (put_words q.registers to value s.words v) s.bytes

sound_loads : (q : CpuState) (to width : ℕ) (signed : Bool) (o : Option ℕ) → IsSound q → ((v : ℕ) → o ≡ Some v → extended_by signed width v < 2 ^ 64) → IsSound (loads q to width signed o).to
sound_loads q to width signed None s h = s
sound_loads q to width signed (Some v) s h = sound_sets q to (extended_by signed width v) s (h v refl)

sound_load : (q : CpuState) (to address width : ℕ) (signed : Bool) → IsSound q → ((v : ℕ) → v < 256 ^ width → extended_by signed width v < 2 ^ 64) → IsSound (load_at q to address width signed).to
sound_load q to address width signed s h =
    sound_choice (address % width == 0) (loads q to width signed (loaded q.bytes address width)) (faults q Align)
    (sound_loads q to width signed (loaded q.bytes address width) s (λ v e. h v (loaded_lt q.bytes address width v s.bytes e))) s

sound_store : (q : CpuState) (address width value : ℕ) → IsSound q → IsSound (store_at q address width value).to
sound_store q address width value s =
    sound_choice (address % width == 0) _ (faults q Align)
    (sound_choice (mapped q.bytes address width) (goes (add_words q.pc 4) q.registers (stored q.bytes address width value) q.mark) (faults q Memory)
    (sound_arrives q (add_words q.pc 4) q.registers NoFlags (stored q.bytes address width value) s (low_word (q.pc + 4)) s.words (stored_sound q.bytes address width value s.bytes)) s)
    s

sound_jump : (q : CpuState) (link target : ℕ) → IsSound q → target < 2 ^ 64 → IsSound (jump_to q link target).to
sound_jump q link target s t =
    sound_choice (target % 4 == 0) (goes target (put q.registers link (add_words q.pc 4)) q.bytes q.mark) (faults q Align)
    (sound_arrives q target (put q.registers link (add_words q.pc 4)) NoFlags q.bytes s t (put_words q.registers link (add_words q.pc 4) s.words (low_word (q.pc + 4))) s.bytes) s

sound_branch : (q : CpuState) (target : ℕ) (taken : Bool) → IsSound q → target < 2 ^ 64 → IsSound (branch_to q target taken).to
sound_branch q target true s t =
    sound_choice (target % 4 == 0) (goes target q.registers q.bytes q.mark) (faults q Align) (sound_arrives q target q.registers NoFlags q.bytes s t s.words s.bytes) s
sound_branch q target false s t = sound_arrives q (add_words q.pc 4) q.registers NoFlags q.bytes s (low_word (q.pc + 4)) s.words s.bytes

even_word : (n : ℕ) → n < 2 ^ 64 → n / 2 * 2 < 2 ^ 64
even_word n h = omega (arith, h)

sound_imm : (op : ImmOp) (rd a n : ℕ) (q : CpuState) → IsSound q → a < 2 ^ 64 → n < 2 ^ 64 → IsSound (imm_effect op rd a n q).to
sound_imm Jalr rd a n q s h k = sound_jump q rd (add_words a n / 2 * 2) s (even_word (add_words a n) (low_word (a + n)))
sound_imm Lb rd a n q s h k = sound_load q rd (add_words a n) 1 true s (λ v e. sign_1_word v)
sound_imm Lh rd a n q s h k = sound_load q rd (add_words a n) 2 true s (λ v e. sign_2_word v)
sound_imm Lw rd a n q s h k = sound_load q rd (add_words a n) 4 true s (λ v e. sign_4_word v)
sound_imm Ld rd a n q s h k = sound_load q rd (add_words a n) 8 false s (λ v e. omega (arith, e))
sound_imm Lbu rd a n q s h k = sound_load q rd (add_words a n) 1 false s (λ v e. omega (arith, e))
sound_imm Lhu rd a n q s h k = sound_load q rd (add_words a n) 2 false s (λ v e. omega (arith, e))
sound_imm Lwu rd a n q s h k = sound_load q rd (add_words a n) 4 false s (λ v e. omega (arith, e))
sound_imm Addi rd a n q s h k = sound_sets q rd (reg_value Add a n) s (reg_word Add a n h k)
sound_imm Slti rd a n q s h k = sound_sets q rd (reg_value Slt a n) s (reg_word Slt a n h k)
sound_imm Sltiu rd a n q s h k = sound_sets q rd (reg_value Sltu a n) s (reg_word Sltu a n h k)
sound_imm Xori rd a n q s h k = sound_sets q rd (reg_value Xor a n) s (reg_word Xor a n h k)
sound_imm Ori rd a n q s h k = sound_sets q rd (reg_value Or a n) s (reg_word Or a n h k)
sound_imm Andi rd a n q s h k = sound_sets q rd (reg_value And a n) s (reg_word And a n h k)
sound_imm Addiw rd a n q s h k = sound_sets q rd (reg_value Addw a n) s (reg_word Addw a n h k)

imm_word : (z : ℤ) → z ≤ℤ pos 2047 → word_of z < 2 ^ 64
imm_word (pos k) h = grind (arith, ints, h)
imm_word (negsuc k) h = omega arith

sound_act : (i : Instr) (q : CpuState) → rv.IsInstr i → IsSound q → IsSound (act i q).to
sound_act (Upper Lui rd imm) q ok s = sound_sets q rd (sign_32 (imm * 4096)) s (sign_32_word (imm * 4096))
sound_act (Upper Auipc rd imm) q ok s = sound_sets q rd (add_words q.pc (sign_32 (imm * 4096))) s (low_word (q.pc + sign_32 (imm * 4096)))
sound_act (Jal rd offset) q ok s = sound_jump q rd (add_words q.pc (word_of offset)) s (low_word (q.pc + word_of offset))
sound_act (Branch op rs1 rs2 offset) q ok s = sound_branch q (add_words q.pc (word_of offset)) (is_taken op (read q.registers rs1) (read q.registers rs2)) s (low_word (q.pc + word_of offset))
sound_act (Imm op rd rs1 imm) q ok s = sound_imm op rd (read q.registers rs1) (word_of imm) q s (read_word q.registers rs1 s.words) (imm_word imm ok.3)
sound_act (Shift op rd rs1 amount) q ok s = sound_sets q rd _ s (shift_word op (read q.registers rs1) amount (read_word q.registers rs1 s.words) (omega (arith, ok.2)))
sound_act (Store op rs1 rs2 imm) q ok s = sound_store q (add_words (read q.registers rs1) (word_of imm)) (store_width op) (read q.registers rs2) s
sound_act (Reg op rd rs1 rs2) q ok s = sound_sets q rd _ s (reg_word op (read q.registers rs1) (read q.registers rs2) (read_word q.registers rs1 s.words) (read_word q.registers rs2 s.words))

-- ---- fetching
sound_decoded : (o : Option (Instr × ℕ)) (q : CpuState) → IfSome o (λ found. rv.IsInstr found.0) → IsSound q → IsSound (decoded o q).to
sound_decoded None q ok s = s
sound_decoded (Some (i, len)) q ok s = sound_act i q ok s

only_form : (bytes : List ℕ) (o : Option (Instr × ℕ)) → IfSome o (λ found. (rv.IsInstr found.0 × (more : List ℕ) × (bytes ≡ rv.spelling found.0 ++ more)) × (found.1 ≡ 4)) → IfSome o (λ found. rv.IsInstr found.0)
only_form bytes None h = tt
only_form bytes (Some x) h = h.0.0

sound_fetch : (code : List ℕ) (q : CpuState) → AreBytes code → IsSound q → IsSound (fetch code q).to
sound_fetch code q bytes s =
    let front = drop (q.pc - code_base) code in
    let ok = only_form front (front_of front) (word_spells instr_of rv.word_of rv.IsInstr read_spells front (drop_bytes code (q.pc - code_base) bytes)) in
    sound_choice (q.pc % 4 == 0) _ (faults q Align)
    (sound_choice (in_code code q.pc) (decoded (front_of front) q) (faults q Fetch) (sound_decoded (front_of front) q ok s) s)
    s

-- ---- host functions
sound_host : (name : HostName) (trash : ℕ) (q : CpuState) → trash < 2 ^ 64 → IsSound q → IsSound (enter_host name trash q).to
sound_host name trash q t s =
    sound_choice (q.registers 2 % 16 == 0) (host_effect (answer_at target.Riscv64 name (q.registers 2) q) trash q) (faults q Host)
    (sound_host_step target.Riscv64 name (q.registers 2) q (q.registers 1) (after_call target.Riscv64 32 q.registers trash) NoFlags (s.words 1) (λ v small. after_words target.Riscv64 32 q.registers trash v s.words t small) s) s

sound_at : (o : Option HostName) (code : List ℕ) (trash : ℕ) (q : CpuState) → AreBytes code → trash < 2 ^ 64 → IsSound q → IsSound (effect_at o code trash q).to
sound_at None code trash q bytes t s = sound_fetch code q bytes s
sound_at (Some name) code trash q bytes t s = sound_host name trash q t s

pub stays-sound : (code : List ℕ) (trash : ℕ) (q : CpuState) → AreBytes code → trash < 2 ^ 64 → IsSound q → IsSound (effect code trash q).to
stays-sound code trash q bytes t s = sound_at (host_by_address q.pc) code trash q bytes t s
