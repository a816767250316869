-- A step of AArch64 leaves alone what it does not touch.
use Rattle.std.proofs.Common.{◌≡◌, ℕ, ◌+◌, ◌-◌, ◌*◌, ◌%◌, ◌^◌, ◌<◌, ◌≤◌, Bool, true, false, List, Option, Some, None, refl, sym, ap, ◌∙◌, subst, drop}
use Rattle.std.specs.Prelude.{◌==◌, if◌then◌else◌}
use mathlib.Core.Path.{fun_ext}
use Rattle.lg_base.specs.Fields.{word_of}
use Rattle.lg_base.specs.HostNames.{host_by_address}
use Rattle.lg_base.specs.Layout.{code_base}
use Rattle.lg_base.specs.Spaces.{mapped, loaded, stored}
use Rattle.lg_base.specs.Words.{add_words}
use Rattle.lg_base.specs.declared.fault.FaultKind.TheVariants.{Fetch, Decode, Memory, Align, Host}
use Rattle.lg_base.specs.declared.flags.Flags.{Flags}
use Rattle.lg_base.specs.declared.host_name.HostName.{HostName}
use Rattle.lg_base.specs.declared.target.Target.TheVariants.{Aarch64}
use Rattle.lg_host.specs.Host.{Host as Answer}
use Rattle.lg_host.specs.Host.{Gives, Exits, Undefined}
use Rattle.lg_a64.specs.Reading.{front_of}
use Rattle.lg_a64.specs.declared.instruction.Cond.{Cond}
use Rattle.lg_a64.specs.declared.instruction.Cond.TheVariants as cond
use Rattle.lg_a64.specs.declared.instruction.Instr.{Instr}
use Rattle.lg_a64.specs.declared.instruction.Instr.TheVariants.{Reg, Imm, Wide, MulAdd, Bitfield, Csinc, Reverse, Scaled, Ldrx, Unscaled, Branch, BranchIf, BranchReg, Nop}
use Rattle.lg_a64.specs.declared.instruction.ImmOp.{ImmOp}
use Rattle.lg_a64.specs.declared.instruction.ImmOp.TheVariants.{Addi}
use Rattle.lg_a64.specs.declared.instruction.RegOp.{RegOp}
use Rattle.lg_a64.specs.declared.instruction.RegOp.TheVariants as row
use Rattle.lg_a64.specs.declared.instruction.ScaledOp.{ScaledOp}
use Rattle.lg_a64.specs.declared.instruction.ScaledOp.TheVariants.{Ldr64, Str64, Ldr32, Ldrs32, Str32, Ldr16, Ldrs16, Str16, Ldr8, Ldrs8, Str8}
use Rattle.lg_a64.specs.declared.instruction.UnscaledOp.{UnscaledOp}
use Rattle.lg_a64.specs.declared.instruction.UnscaledOp.TheVariants.{Ldur, Stur}
use Rattle.lg_a64.specs.declared.instruction.BranchOp.{BranchOp}
use Rattle.lg_a64.specs.declared.instruction.BranchOp.TheVariants.{B, Bl}
use Rattle.lg_a64.specs.declared.instruction.BranchRegOp.{BranchRegOp}
use Rattle.lg_a64.specs.declared.instruction.BranchRegOp.TheVariants.{Br, Blr, Ret}
use Rattle.lg_cpu.proofs.A64SoundLemmas.{a64-stays-sound}
use Rattle.lg_cpu.specs.A64Operators.{reg_value, reg_flags, imm_number, imm_flags, csinc_value, condition_holds}
use Rattle.lg_cpu.specs.A64Step.{read, write, sets, loads, load_at, store_at, link_to, branch_to, scaled_width, scaled_effect, unscaled_effect, away, branch_effect, branch_reg_effect, act, decoded, fetch, host_effect, enter_host, effect_at, effect}
use Rattle.lg_cpu.specs.Fetches.{in_code}
use Rattle.lg_cpu.specs.HostSteps.{answer_at}
use Rattle.lg_cpu.specs.Laws.{AreBytes}
use Rattle.lg_cpu.specs.States.{CpuState, arrives, goes_on}
use Rattle.lg_cpu.specs.Steps.{Effect, Run, faults, stepped}
use Rattle.lg_carry.specs.Disturbed.{AreSame, hidden_in}
use Rattle.lg_carry.specs.Processors.{IsSeen, IsOff}
use Rattle.lg_carry.proofs.TouchLemmas.{Alike, choose, arriving-alike, faulting-alike, storing-alike, mapped-alike, loaded-alike, Grows, grows-if, seen-stays, same-stepped, hidden-stays}
use Rattle.lg_sela_values.specs.Processor.A64Rows.{nzcv, a64_processor, a64_seen}
use Rattle.lg_sela_values.specs.Processor.A64Touched.{touched, touched_by, touched_at}
use Rattle.lg_sela_values.specs.Processor.Touches.{StepsLeave, StepsOverlook, StepsAreAlike, StatesArePatched}
use Rattle.lg_sela_values.proofs.OfProcessor.ActLemmas.{steady_act}

-- ---- what is read of the flags, and what is made of them, is the same of those that are seen
value-seen : (op : RegOp) (f : Flags) (a b : ℕ) → reg_value op f a b ≡ reg_value op (nzcv f) a b
value-seen row.Add f a b = refl
value-seen op f a b = refl

flags-seen : (op : RegOp) (f : Flags) (a b : ℕ) → nzcv (reg_flags op f a b) ≡ reg_flags op (nzcv f) a b
flags-seen row.Add f a b = refl
flags-seen op f a b = refl

imm-seen : (op : ImmOp) (f : Flags) (a n : ℕ) → nzcv (imm_flags op f a n) ≡ imm_flags op (nzcv f) a n
imm-seen Addi f a n = refl
imm-seen op f a n = refl

holds-seen : (c : Cond) (f : Flags) → condition_holds c f ≡ condition_holds c (nzcv f)
holds-seen cond.Eq f = refl
holds-seen c f = refl

module _ (hidden : ℕ → Bool) (q : CpuState) (flags : Flags) (m : ℕ → Option ℕ) (same : (a : ℕ) → hidden a ≡ false → m a ≡ q.bytes a)
    (level : nzcv flags ≡ nzcv q.flags) where
  abbrev t : CpuState
  t = record { pc = q.pc; registers = q.registers; flags = flags; bytes = m; mark = q.mark }

  abbrev Same : Effect CpuState → Effect CpuState → Type 0
  Same e f = Alike nzcv hidden m e f

  value-level : (op : RegOp) (a b : ℕ) → reg_value op flags a b ≡ reg_value op q.flags a b
  value-level op a b = value-seen op flags a b ∙ ap (λ f. reg_value op f a b) level ∙ sym (value-seen op q.flags a b)

  flags-level : (op : RegOp) (a b : ℕ) → nzcv (reg_flags op flags a b) ≡ nzcv (reg_flags op q.flags a b)
  flags-level op a b = flags-seen op flags a b ∙ ap (λ f. reg_flags op f a b) level ∙ sym (flags-seen op q.flags a b)

  imm-level : (op : ImmOp) (a n : ℕ) → nzcv (imm_flags op flags a n) ≡ nzcv (imm_flags op q.flags a n)
  imm-level op a n = imm-seen op flags a n ∙ ap (λ f. imm_flags op f a n) level ∙ sym (imm-seen op q.flags a n)

  holds-level : (c : Cond) → condition_holds c flags ≡ condition_holds c q.flags
  holds-level c = holds-seen c flags ∙ ap (condition_holds c) level ∙ sym (holds-seen c q.flags)

  going : (pc : ℕ) (w v : ℕ → ℕ) (f g : Flags) → v ≡ w → nzcv g ≡ nzcv f → Same (arrives pc w f q.bytes q.mark) (arrives pc v g m q.mark)
  going pc w v f g e h = arriving-alike nzcv hidden m q flags same level pc w v f g e h

  setting : (to v : ℕ) → Same (sets q to v) (sets t to v)
  setting to v = going _ _ _ q.flags flags refl level

  loading-of : (to width : ℕ) (signed : Bool) (o : Option ℕ) → Same (loads q to width signed o) (loads t to width signed o)
  loading-of to width signed None = faulting-alike nzcv hidden m q flags same level Memory
  loading-of to width signed (Some v) = setting to _

  loading : (to a width : ℕ) (signed : Bool) → ((j : ℕ) → a ≤ j → j < a + width → hidden j ≡ false)
      → Same (load_at q to a width signed) (load_at t to a width signed)
  loading to a width signed off =
      subst (λ o. Same (loads q to width signed (loaded q.bytes a width)) (loads t to width signed o))
      (sym (loaded-alike nzcv hidden m q flags same level a width off)) (loading-of to width signed (loaded q.bytes a width))

  storing : (a width v : ℕ) → ((j : ℕ) → a ≤ j → j < a + width → hidden j ≡ false) → Same (store_at q a width v) (store_at t a width v)
  storing a width v off =
      let there : Effect CpuState = arrives (add_words q.pc 4) q.registers q.flags (stored q.bytes a width v) q.mark in
      let there' : Effect CpuState = arrives (add_words q.pc 4) q.registers flags (stored m a width v) q.mark in
      subst (λ b. Same (if mapped q.bytes a width then there else faults q Memory) (if b then there' else faults t Memory))
      (sym (mapped-alike nzcv hidden m q flags same level a width off))
      (choose nzcv hidden m (mapped q.bytes a width) there (faults q Memory) there' (faults t Memory)
      (storing-alike nzcv hidden m q flags same level a width off (add_words q.pc 4) v q.registers q.flags flags level)
      (faulting-alike nzcv hidden m q flags same level Memory))

  scaled : (op : ScaledOp) (rt a : ℕ) → ((j : ℕ) → a ≤ j → j < a + scaled_width op → hidden j ≡ false) → Same (scaled_effect op rt a q) (scaled_effect op rt a t)
  scaled Ldr64 rt a off = loading rt a 8 false off
  scaled Str64 rt a off = storing a 8 (read q.registers rt) off
  scaled Ldr32 rt a off = loading rt a 4 false off
  scaled Ldrs32 rt a off = loading rt a 4 true off
  scaled Str32 rt a off = storing a 4 (read q.registers rt) off
  scaled Ldr16 rt a off = loading rt a 2 false off
  scaled Ldrs16 rt a off = loading rt a 2 true off
  scaled Str16 rt a off = storing a 2 (read q.registers rt) off
  scaled Ldr8 rt a off = loading rt a 1 false off
  scaled Ldrs8 rt a off = loading rt a 1 true off
  scaled Str8 rt a off = storing a 1 (read q.registers rt) off

  unscaled : (op : UnscaledOp) (rt a : ℕ) → ((j : ℕ) → a ≤ j → j < a + 8 → hidden j ≡ false) → Same (unscaled_effect op rt a q) (unscaled_effect op rt a t)
  unscaled Ldur rt a off = loading rt a 8 false off
  unscaled Stur rt a off = storing a 8 (read q.registers rt) off

  moving : (target : ℕ) → Same (goes_on q target) (goes_on t target)
  moving target = going target q.registers q.registers q.flags flags refl level

  linking : (target : ℕ) → Same (link_to q target) (link_to t target)
  linking target = going target _ _ q.flags flags refl level

  branching : (op : BranchOp) (target : ℕ) → Same (branch_effect op target q) (branch_effect op target t)
  branching B target = moving target
  branching Bl target = linking target

  branching-reg : (op : BranchRegOp) (target : ℕ) → Same (branch_reg_effect op target q) (branch_reg_effect op target t)
  branching-reg Br target = moving target
  branching-reg Blr target = linking target
  branching-reg Ret target = moving target

  acts-alike : (i : Instr) → IsOff hidden (touched i q.registers) → Same (act i q) (act i t)
  acts-alike (Reg op rd rn rm) off =
      going _ _ _ _ _ (ap (λ v. write q.registers rd v) (value-level op (read q.registers rn) (read q.registers rm)))
      (flags-level op (read q.registers rn) (read q.registers rm))
  acts-alike (Imm op rd rn imm shifted) off = going _ _ _ _ _ refl (imm-level op (q.registers rn) (imm_number imm shifted))
  acts-alike (Wide op rd imm hw) off = setting rd _
  acts-alike (MulAdd op rd rn rm ra) off = setting rd _
  acts-alike (Bitfield op rd rn immr imms) off = setting rd _
  acts-alike (Csinc rd rn rm c) off =
      going _ _ _ q.flags flags (ap (λ b. write q.registers rd (csinc_value b (read q.registers rn) (read q.registers rm))) (holds-level c)) level
  acts-alike (Reverse op rd rn) off = setting rd _
  acts-alike (Scaled op rt rn imm) off = scaled op rt (add_words (q.registers rn) (imm * scaled_width op)) off
  acts-alike (Ldrx rt rn rm) off = loading rt (add_words (q.registers rn) (read q.registers rm)) 8 false off
  acts-alike (Unscaled op rt rn imm) off = unscaled op rt (add_words (q.registers rn) (word_of imm)) off
  acts-alike (Branch op words) off = branching op (away q.pc (word_of words))
  acts-alike (BranchIf c words) off =
      subst (λ b. Same (branch_to q (condition_holds c q.flags) (away q.pc (word_of words))) (branch_to t b (away q.pc (word_of words))))
      (sym (holds-level c)) (moving (if condition_holds c q.flags then away q.pc (word_of words) else add_words q.pc 4))
  acts-alike (BranchReg op rn) off = branching-reg op (read q.registers rn)
  acts-alike Nop off = going _ _ _ q.flags flags refl level

  decoded-alike : (o : Option (Instr × ℕ)) → IsOff hidden (touched_by o q.registers) → Same (decoded o q) (decoded o t)
  decoded-alike None off = faulting-alike nzcv hidden m q flags same level Decode
  decoded-alike (Some (i, len)) off = acts-alike i off

  fetched-alike : (code : List ℕ) → IsOff hidden (touched_at code q.pc q.registers) → Same (fetch code q) (fetch code t)
  fetched-alike code off =
      choose nzcv hidden m (q.pc % 4 == 0) _ _ _ _
      (choose nzcv hidden m (in_code code q.pc) _ _ _ _ (decoded-alike (front_of (drop (q.pc - code_base) code)) off)
      (faulting-alike nzcv hidden m q flags same level Fetch))
      (faulting-alike nzcv hidden m q flags same level Align)

-- ---- memory does not shrink
grows-decoded : (o : Option (Instr × ℕ)) (q : CpuState) → Grows q (decoded o q)
grows-decoded None q = record { mark = refl; grows = λ a h. h }
grows-decoded (Some (i, len)) q = let s = steady_act i q in record { mark = s.mark; grows = s.grows }

grows-fetch : (code : List ℕ) (q : CpuState) → Grows q (fetch code q)
grows-fetch code q =
    grows-if (q.pc % 4 == 0) q _ _
    (grows-if (in_code code q.pc) q _ _ (grows-decoded (front_of (drop (q.pc - code_base) code)) q) record { mark = refl; grows = λ a h. h })
    record { mark = refl; grows = λ a h. h }

-- ---- the step
module _ (code : List ℕ) (trash : ℕ) (bytes : AreBytes code) (word : trash < 2 ^ 64) (q r : Run CpuState) (low : q.state.pc < 2 ^ 64)
    (no-host : host_by_address q.state.pc ≡ None) (hidden : ℕ → Bool) (off : IsOff hidden (touched_at code q.state.pc q.state.registers))
    (same : AreSame (a64_processor code trash) hidden q r) where
  abbrev s : CpuState
  s = record { pc = q.state.pc; registers = q.state.registers; flags = r.state.flags; bytes = r.state.bytes; mark = q.state.mark }

  other : s ≡ r.state
  other = λ i.
      record { pc = sym same.look.pc i; registers = sym same.look.registers i; flags = r.state.flags; bytes = r.state.bytes; mark = sym same.look.mark i }

  fetches : (z : CpuState) → host_by_address z.pc ≡ None → effect code trash z ≡ fetch code z
  fetches z e = ap (λ o. effect_at o code trash z) e

  no-host-there : host_by_address r.state.pc ≡ None
  no-host-there = ap host_by_address same.look.pc ∙ no-host

  alike : Alike nzcv hidden r.state.bytes (effect code trash q.state) (effect code trash r.state)
  alike =
      subst (λ e. Alike nzcv hidden r.state.bytes e (effect code trash r.state)) (sym (fetches q.state no-host))
      (subst (λ f. Alike nzcv hidden r.state.bytes (fetch code q.state) f) (sym (fetches r.state no-host-there))
      (subst (λ z. Alike nzcv hidden r.state.bytes (fetch code q.state) (fetch code z)) other
      (fetched-alike hidden q.state r.state.flags r.state.bytes same.look.bytes same.look.flags code off)))

  there : IsSeen (a64_seen r) → IsSeen (a64_seen (stepped (effect code trash) r))
  there h = seen-stays Aarch64 nzcv (effect code trash) (touched_at code) r
      (a64-stays-sound code trash r.state bytes word
      record { pc = subst (λ pc. pc < 2 ^ 64) (sym same.look.pc) low; words = h.words; bytes = h.bytes; mark = h.high })
      (subst (Grows r.state) (sym (fetches r.state no-host-there)) (grows-fetch code r.state)) h

pub steps-leave : StepsLeave
steps-leave code trash q hidden bytes word low no-host off r seen same =
    let a = alike code trash bytes word q r low no-host hidden off same in (
      same-stepped Aarch64 nzcv (effect code trash) (touched_at code) hidden q r same a,
      there code trash bytes word q r low no-host hidden off same seen,
      hidden-stays Aarch64 nzcv (effect code trash) (touched_at code) hidden q r same a,
    )

pub steps-overlook : StepsOverlook
steps-overlook code trash q bytes word low no-host off r seen same =
    let l = steps-leave code trash q (hidden_in (a64_processor code trash) q) bytes word low no-host off r seen same in (l.0, l.1)

-- ---- a host function's step
-- from two states that are the same but for flags
module _ (q : CpuState) (flags : Flags) (level : nzcv flags ≡ nzcv q.flags) where
  abbrev none : ℕ → Bool
  none a = false

  abbrev u : CpuState
  u = record { pc = q.pc; registers = q.registers; flags = flags; bytes = q.bytes; mark = q.mark }

  abbrev Level : Effect CpuState → Effect CpuState → Type 0
  Level e f = Alike nzcv none q.bytes e f

  answers-alike : (a : Answer) (trash : ℕ) → Level (host_effect a trash q) (host_effect a trash u)
  answers-alike (Gives value changes mark bytes) trash =
      record { progress = refl; written = refl; pc = refl; registers = refl; mark = refl; flags = refl; bytes = λ a e. refl; stays = λ a on. cc }
  answers-alike (Exits status) trash =
      record { progress = refl; written = refl; pc = refl; registers = refl; mark = refl; flags = level; bytes = λ a e. refl; stays = λ a on. cc }
  answers-alike Undefined trash = faulting-alike nzcv none q.bytes q flags (λ a e. refl) level Host

  enters-alike : (name : HostName) (trash : ℕ) → Level (enter_host name trash q) (enter_host name trash u)
  enters-alike name trash =
      choose nzcv none q.bytes (q.registers 31 % 16 == 0) _ _ _ _ (answers-alike (answer_at Aarch64 name (q.registers 31) q) trash)
      (faulting-alike nzcv none q.bytes q flags (λ a e. refl) level Host)

  at-alike : (o : Option HostName) (code : List ℕ) (trash : ℕ) → Level (effect_at o code trash q) (effect_at o code trash u)
  at-alike None code trash = fetched-alike none q flags q.bytes (λ a e. refl) level code (λ a le lt. refl)
  at-alike (Some name) code trash = enters-alike name trash

pub steps-are-alike : StepsAreAlike
steps-are-alike code trash q r same =
    let bytes : q.state.bytes ≡ r.state.bytes = sym (fun_ext (λ a. same.look.bytes a refl)) in
    let other : record { pc = q.state.pc; registers = q.state.registers; flags = r.state.flags; bytes = q.state.bytes; mark = q.state.mark } ≡ r.state =
    λ i. record { pc = sym same.look.pc i; registers = sym same.look.registers i; flags = r.state.flags; bytes = bytes i; mark = sym same.look.mark i } in
    let a : Alike nzcv (λ a. false) q.state.bytes (effect code trash q.state) (effect code trash r.state) =
    subst (λ z. Alike nzcv (λ a. false) q.state.bytes (effect code trash q.state) (effect code trash z)) other
    (at-alike q.state r.state.flags same.look.flags (host_by_address q.state.pc) code trash) in
    same-stepped Aarch64 nzcv (effect code trash) (touched_at code) (λ a. false) q r same
    (subst (λ m. Alike nzcv (λ a. false) m (effect code trash q.state) (effect code trash r.state)) bytes a)

pub states-are-patched : StatesArePatched
states-are-patched code trash = record {
  patch = λ m q.
      record {
        state = record { pc = q.state.pc; registers = q.state.registers; flags = q.state.flags; bytes = m; mark = q.state.mark };
        progress = q.progress;
        out = q.out;
      };
  is = λ m q. record { status = refl; out = refl; look = record { pc = refl; registers = refl; bytes = λ a e. cc; mark = refl; flags = refl } };
  bytes = λ m q. refl;
}
