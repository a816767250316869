-- A step of RV64 leaves alone what it does not touch.
use Rattle.std.proofs.Common.{◌≡◌, ℕ, ◌+◌, ◌-◌, ◌%◌, ◌^◌, ◌<◌, ◌≤◌, Bool, true, false, List, Option, Some, None, refl, sym, ap, ◌∙◌, subst, drop}
use Rattle.std.specs.Prelude.{◌==◌, if◌then◌else◌}
use mathlib.Core.Path.{fun_ext}
use Rattle.lg_base.specs.Fields.{word_of}
use Rattle.lg_base.specs.HostNames.{host_by_address}
use Rattle.lg_base.specs.Layout.{code_base}
use Rattle.lg_base.specs.Spaces.{mapped, loaded, stored}
use Rattle.lg_base.specs.Words.{add_words}
use Rattle.lg_base.specs.declared.fault.FaultKind.TheVariants.{Fetch, Decode, Memory, Align, Host}
use Rattle.lg_base.specs.declared.flags.Flags.{Flags}
use Rattle.lg_base.specs.declared.flags.Flags.TheVariants.{NoFlags}
use Rattle.lg_base.specs.declared.host_name.HostName.{HostName}
use Rattle.lg_base.specs.declared.target.Target.TheVariants.{Riscv64}
use Rattle.lg_host.specs.Host.{Host as Answer}
use Rattle.lg_host.specs.Host.{Gives, Exits, Undefined}
use Rattle.lg_rv.specs.Reading.{front_of}
use Rattle.lg_rv.specs.declared.instruction.Instr.{Instr}
use Rattle.lg_rv.specs.declared.instruction.Instr.TheVariants.{Upper, Jal, Branch, Imm, Shift, Store, Reg}
use Rattle.lg_rv.specs.declared.instruction.UpperOp.TheVariants.{Lui, Auipc}
use Rattle.lg_rv.specs.declared.instruction.ImmOp.{ImmOp}
use Rattle.lg_rv.specs.declared.instruction.ImmOp.TheVariants.{Jalr, Lb, Lh, Lw, Ld, Lbu, Lhu, Lwu}
use Rattle.lg_cpu.proofs.SoundLemmas.{stays-sound}
use Rattle.lg_cpu.specs.Fetches.{in_code}
use Rattle.lg_cpu.specs.HostSteps.{answer_at}
use Rattle.lg_cpu.specs.Laws.{AreBytes}
use Rattle.lg_cpu.specs.RvOperators.{is_taken}
use Rattle.lg_cpu.specs.RvStep.{read, goes, sets, loads, load_at, store_at, store_width, jump_to, branch_to, imm_effect, act, decoded, fetch, host_effect, enter_host, effect_at, effect}
use Rattle.lg_cpu.specs.States.{CpuState}
use Rattle.lg_cpu.specs.Steps.{Effect, Run, faults, stepped}
use Rattle.lg_carry.specs.Disturbed.{AreSame, hidden_in}
use Rattle.lg_carry.specs.Processors.{IsSeen, IsOff}
use Rattle.lg_carry.proofs.TouchLemmas.{Alike, choose, arriving-alike, faulting-alike, storing-alike, mapped-alike, loaded-alike, Grows, grows-if, seen-stays, same-stepped, hidden-stays}
use Rattle.lg_selr_values.specs.Processor.RvRows.{rv_processor, rv_seen}
use Rattle.lg_selr_values.specs.Processor.RvTouched.{load_width, touched, touched_by, touched_at}
use Rattle.lg_selr_values.specs.Processor.Touches.{StepsLeave, StepsOverlook, StepsAreAlike, StatesArePatched}
use Rattle.lg_selr_values.proofs.OfProcessor.ActLemmas.{steady_act}

-- no flag is seen
abbrev see : Flags → Flags
see f = NoFlags

module _ (hidden : ℕ → Bool) (q : CpuState) (flags : Flags) (m : ℕ → Option ℕ) (same : (a : ℕ) → hidden a ≡ false → m a ≡ q.bytes a) where
  abbrev t : CpuState
  t = record { pc = q.pc; registers = q.registers; flags = flags; bytes = m; mark = q.mark }

  abbrev Same : Effect CpuState → Effect CpuState → Type 0
  Same e f = Alike see hidden m e f

  going : (pc : ℕ) (w : ℕ → ℕ) → Same (goes pc w q.bytes q.mark) (goes pc w m q.mark)
  going pc w = arriving-alike see hidden m q flags same refl pc w w NoFlags NoFlags refl refl

  setting : (to v : ℕ) → Same (sets q to v) (sets t to v)
  setting to v = going _ _

  loading-of : (to width : ℕ) (signed : Bool) (o : Option ℕ) → Same (loads q to width signed o) (loads t to width signed o)
  loading-of to width signed None = faulting-alike see hidden m q flags same refl Memory
  loading-of to width signed (Some v) = setting to _

  loading : (to a width : ℕ) (signed : Bool) → ((j : ℕ) → a ≤ j → j < a + width → hidden j ≡ false)
      → Same (load_at q to a width signed) (load_at t to a width signed)
  loading to a width signed off =
      choose see hidden m (a % width == 0) (loads q to width signed (loaded q.bytes a width)) (faults q Align)
      (loads t to width signed (loaded m a width)) (faults t Align)
      (subst (λ o. Same (loads q to width signed (loaded q.bytes a width)) (loads t to width signed o))
      (sym (loaded-alike see hidden m q flags same refl a width off)) (loading-of to width signed (loaded q.bytes a width)))
      (faulting-alike see hidden m q flags same refl Align)

  storing : (a width v : ℕ) → ((j : ℕ) → a ≤ j → j < a + width → hidden j ≡ false) → Same (store_at q a width v) (store_at t a width v)
  storing a width v off =
      let there : Effect CpuState = goes (add_words q.pc 4) q.registers (stored q.bytes a width v) q.mark in
      let there' : Effect CpuState = goes (add_words q.pc 4) q.registers (stored m a width v) q.mark in
      choose see hidden m (a % width == 0) (if mapped q.bytes a width then there else faults q Memory) (faults q Align)
      (if mapped m a width then there' else faults t Memory) (faults t Align)
      (subst (λ b. Same (if mapped q.bytes a width then there else faults q Memory) (if b then there' else faults t Memory))
      (sym (mapped-alike see hidden m q flags same refl a width off))
      (choose see hidden m (mapped q.bytes a width) there (faults q Memory) there' (faults t Memory)
      (storing-alike see hidden m q flags same refl a width off (add_words q.pc 4) v q.registers NoFlags NoFlags refl)
      (faulting-alike see hidden m q flags same refl Memory)))
      (faulting-alike see hidden m q flags same refl Align)

  jumping : (link target : ℕ) → Same (jump_to q link target) (jump_to t link target)
  jumping link target = choose see hidden m (target % 4 == 0) _ _ _ _ (going target _) (faulting-alike see hidden m q flags same refl Align)

  branching : (target : ℕ) (b : Bool) → Same (branch_to q target b) (branch_to t target b)
  branching target true = choose see hidden m (target % 4 == 0) _ _ _ _ (going target q.registers) (faulting-alike see hidden m q flags same refl Align)
  branching target false = going (add_words q.pc 4) q.registers

  numbered : (o : ImmOp) (rd a n : ℕ) → ((j : ℕ) → add_words a n ≤ j → j < add_words a n + load_width o → hidden j ≡ false)
      → Same (imm_effect o rd a n q) (imm_effect o rd a n t)
  numbered Jalr rd a n off = jumping rd _
  numbered Lb rd a n off = loading rd (add_words a n) 1 true off
  numbered Lh rd a n off = loading rd (add_words a n) 2 true off
  numbered Lw rd a n off = loading rd (add_words a n) 4 true off
  numbered Ld rd a n off = loading rd (add_words a n) 8 false off
  numbered Lbu rd a n off = loading rd (add_words a n) 1 false off
  numbered Lhu rd a n off = loading rd (add_words a n) 2 false off
  numbered Lwu rd a n off = loading rd (add_words a n) 4 false off
  numbered o rd a n off = setting rd _

  acts-alike : (i : Instr) → IsOff hidden (touched i q.registers) → Same (act i q) (act i t)
  acts-alike (Upper Lui rd imm) off = setting rd _
  acts-alike (Upper Auipc rd imm) off = setting rd _
  acts-alike (Jal rd offset) off = jumping rd _
  acts-alike (Branch o rs1 rs2 offset) off = branching (add_words q.pc (word_of offset)) (is_taken o (read q.registers rs1) (read q.registers rs2))
  acts-alike (Imm o rd rs1 imm) off = numbered o rd (read q.registers rs1) (word_of imm) off
  acts-alike (Shift o rd rs1 amount) off = setting rd _
  acts-alike (Store o rs1 rs2 imm) off = storing _ (store_width o) (read q.registers rs2) off
  acts-alike (Reg o rd rs1 rs2) off = setting rd _

  decoded-alike : (o : Option (Instr × ℕ)) → IsOff hidden (touched_by o q.registers) → Same (decoded o q) (decoded o t)
  decoded-alike None off = faulting-alike see hidden m q flags same refl Decode
  decoded-alike (Some (i, len)) off = acts-alike i off

  fetched-alike : (code : List ℕ) → IsOff hidden (touched_at code q.pc q.registers) → Same (fetch code q) (fetch code t)
  fetched-alike code off =
      choose see hidden m (q.pc % 4 == 0) _ _ _ _
      (choose see hidden m (in_code code q.pc) _ _ _ _ (decoded-alike (front_of (drop (q.pc - code_base) code)) off)
      (faulting-alike see hidden m q flags same refl Fetch))
      (faulting-alike see hidden m q flags same refl Align)

-- ---- memory does not shrink
grows-decoded : (o : Option (Instr × ℕ)) (q : CpuState) → Grows q (decoded o q)
grows-decoded None q = record { mark = refl; grows = λ a h. h }
grows-decoded (Some (i, len)) q = let s = steady_act i q in record { mark = s.mark; grows = s.grows }

grows-fetch : (code : List ℕ) (q : CpuState) → Grows q (fetch code q)
grows-fetch code q =
    grows-if (q.pc % 4 == 0) q _ _
    (grows-if (in_code code q.pc) q _ _ (grows-decoded (front_of (drop (q.pc - code_base) code)) q) record { mark = refl; grows = λ a h. h })
    record { mark = refl; grows = λ a h. h }

-- ---- the step
module _ (code : List ℕ) (trash : ℕ) (bytes : AreBytes code) (word : trash < 2 ^ 64) (q r : Run CpuState) (low : q.state.pc < 2 ^ 64)
    (no-host : host_by_address q.state.pc ≡ None) (hidden : ℕ → Bool) (off : IsOff hidden (touched_at code q.state.pc q.state.registers))
    (same : AreSame (rv_processor code trash) hidden q r) where
  abbrev s : CpuState
  s = record { pc = q.state.pc; registers = q.state.registers; flags = r.state.flags; bytes = r.state.bytes; mark = q.state.mark }

  other : s ≡ r.state
  other = λ i.
      record { pc = sym same.look.pc i; registers = sym same.look.registers i; flags = r.state.flags; bytes = r.state.bytes; mark = sym same.look.mark i }

  fetches : (z : CpuState) → host_by_address z.pc ≡ None → effect code trash z ≡ fetch code z
  fetches z e = ap (λ o. effect_at o code trash z) e

  no-host-there : host_by_address r.state.pc ≡ None
  no-host-there = ap host_by_address same.look.pc ∙ no-host

  alike : Alike see hidden r.state.bytes (effect code trash q.state) (effect code trash r.state)
  alike =
      subst (λ e. Alike see hidden r.state.bytes e (effect code trash r.state)) (sym (fetches q.state no-host))
      (subst (λ f. Alike see hidden r.state.bytes (fetch code q.state) f) (sym (fetches r.state no-host-there))
      (subst (λ z. Alike see hidden r.state.bytes (fetch code q.state) (fetch code z)) other
      (fetched-alike hidden q.state r.state.flags r.state.bytes same.look.bytes code off)))

  there : IsSeen (rv_seen r) → IsSeen (rv_seen (stepped (effect code trash) r))
  there h = seen-stays Riscv64 see (effect code trash) (touched_at code) r
      (stays-sound code trash r.state bytes word
      record { pc = subst (λ pc. pc < 2 ^ 64) (sym same.look.pc) low; words = h.words; bytes = h.bytes; mark = h.high })
      (subst (Grows r.state) (sym (fetches r.state no-host-there)) (grows-fetch code r.state)) h

pub steps-leave : StepsLeave
steps-leave code trash q hidden bytes word low no-host off r seen same =
    let a = alike code trash bytes word q r low no-host hidden off same in (
      same-stepped Riscv64 see (effect code trash) (touched_at code) hidden q r same a,
      there code trash bytes word q r low no-host hidden off same seen,
      hidden-stays Riscv64 see (effect code trash) (touched_at code) hidden q r same a,
    )

pub steps-overlook : StepsOverlook
steps-overlook code trash q bytes word low no-host off r seen same =
    let l = steps-leave code trash q (hidden_in (rv_processor code trash) q) bytes word low no-host off r seen same in (l.0, l.1)

-- ---- a host function's step
-- from two states that are the same but for flags
module _ (q : CpuState) (flags : Flags) where
  abbrev none : ℕ → Bool
  none a = false

  abbrev u : CpuState
  u = record { pc = q.pc; registers = q.registers; flags = flags; bytes = q.bytes; mark = q.mark }

  abbrev Level : Effect CpuState → Effect CpuState → Type 0
  Level e f = Alike see none q.bytes e f

  answers-alike : (a : Answer) (trash : ℕ) → Level (host_effect a trash q) (host_effect a trash u)
  answers-alike (Gives value changes mark bytes) trash =
      record { progress = refl; written = refl; pc = refl; registers = refl; mark = refl; flags = refl; bytes = λ a e. refl; stays = λ a on. cc }
  answers-alike (Exits status) trash =
      record { progress = refl; written = refl; pc = refl; registers = refl; mark = refl; flags = refl; bytes = λ a e. refl; stays = λ a on. cc }
  answers-alike Undefined trash = faulting-alike see none q.bytes q flags (λ a e. refl) refl Host

  enters-alike : (name : HostName) (trash : ℕ) → Level (enter_host name trash q) (enter_host name trash u)
  enters-alike name trash =
      choose see none q.bytes (q.registers 2 % 16 == 0) _ _ _ _ (answers-alike (answer_at Riscv64 name (q.registers 2) q) trash)
      (faulting-alike see none q.bytes q flags (λ a e. refl) refl Host)

  at-alike : (o : Option HostName) (code : List ℕ) (trash : ℕ) → Level (effect_at o code trash q) (effect_at o code trash u)
  at-alike None code trash = fetched-alike none q flags q.bytes (λ a e. refl) code (λ a le lt. refl)
  at-alike (Some name) code trash = enters-alike name trash

pub steps-are-alike : StepsAreAlike
steps-are-alike code trash q r same =
    let bytes : q.state.bytes ≡ r.state.bytes = sym (fun_ext (λ a. same.look.bytes a refl)) in
    let other : record { pc = q.state.pc; registers = q.state.registers; flags = r.state.flags; bytes = q.state.bytes; mark = q.state.mark } ≡ r.state =
    λ i. record { pc = sym same.look.pc i; registers = sym same.look.registers i; flags = r.state.flags; bytes = bytes i; mark = sym same.look.mark i } in
    let a : Alike see (λ a. false) q.state.bytes (effect code trash q.state) (effect code trash r.state) =
    subst (λ z. Alike see (λ a. false) q.state.bytes (effect code trash q.state) (effect code trash z)) other
    (at-alike q.state r.state.flags (host_by_address q.state.pc) code trash) in
    same-stepped Riscv64 see (effect code trash) (touched_at code) (λ a. false) q r same
    (subst (λ m. Alike see (λ a. false) m (effect code trash q.state) (effect code trash r.state)) bytes a)

pub states-are-patched : StatesArePatched
states-are-patched code trash = record {
  patch = λ m q.
      record {
        state = record { pc = q.state.pc; registers = q.state.registers; flags = q.state.flags; bytes = m; mark = q.state.mark };
        progress = q.progress;
        out = q.out;
      };
  is = λ m q. record { status = refl; out = refl; look = record { pc = refl; registers = refl; bytes = λ a e. cc; mark = refl; flags = refl } };
  bytes = λ m q. refl;
}
