-- A step of x86-64 leaves alone what it does not touch.
use Rattle.std.proofs.Common.{◌≡◌, ℕ, ◌+◌, ◌-◌, ◌^◌, ◌<◌, ◌≤◌, Bool, true, false, List, Option, Some, None, refl, sym, ap, ◌∙◌, subst, drop}
use Rattle.std.specs.Prelude.{if◌then◌else◌, ⊤}
use mathlib.Core.Path.{fun_ext}
use Rattle.lg_base.specs.Fields.{word_of}
use Rattle.lg_base.specs.Flags.{carry_of}
use Rattle.lg_base.specs.HostNames.{host_by_address}
use Rattle.lg_base.specs.Layout.{code_base}
use Rattle.lg_base.specs.Spaces.{mapped, loaded, stored}
use Rattle.lg_base.specs.Wide.{quotient_wide, quotient_wide_signed}
use Rattle.lg_base.specs.Words.{add_words, sub_words}
use Rattle.lg_base.specs.declared.fault.FaultKind.{FaultKind}
use Rattle.lg_base.specs.declared.fault.FaultKind.TheVariants.{Fetch, Decode, Memory, Flag}
use Rattle.lg_base.specs.declared.flags.Flags.{Flags}
use Rattle.lg_base.specs.declared.target.Target.TheVariants.{X86_64}
use Rattle.lg_x86.specs.Reading.{front_of}
use Rattle.lg_x86.specs.declared.instruction.Instr.{Instr}
use Rattle.lg_x86.specs.declared.instruction.Instr.TheVariants.{RmReg, Imm, RegRm, Load, Store, Lea2, Movi32, Movs32, Movi64, Unary, Shift, Bswap, Stack, JumpIfShort, JumpIfNear, Set, JumpShort, JumpNear, JumpReg, Bare}
use Rattle.lg_x86.specs.declared.instruction.BareOp.TheVariants.{Cqo, Ret, Nop}
use Rattle.lg_x86.specs.declared.instruction.JumpNearOp.TheVariants.{Jmp32, Call32}
use Rattle.lg_x86.specs.declared.instruction.JumpRegOp.TheVariants.{Jmpr, Callr}
use Rattle.lg_x86.specs.declared.instruction.LoadOp.{LoadOp}
use Rattle.lg_x86.specs.declared.instruction.LoadOp.TheVariants.{Ld64, Ld32u, Ld32s, Ld8u, Ld16u, Ld8s, Ld16s, Lea}
use Rattle.lg_x86.specs.declared.instruction.RmRegOp.{RmRegOp}
use Rattle.lg_x86.specs.declared.instruction.StackOp.TheVariants.{Push, Pop}
use Rattle.lg_x86.specs.declared.instruction.UnaryOp.{UnaryOp}
use Rattle.lg_x86.specs.declared.instruction.UnaryOp.TheVariants.{Div, Idiv}
use Rattle.lg_cpu.proofs.X86SoundLemmas.{x86-stays-sound}
use Rattle.lg_cpu.specs.Fetches.{in_code}
use Rattle.lg_cpu.specs.HostSteps.{put}
use Rattle.lg_cpu.specs.Laws.{AreBytes}
use Rattle.lg_cpu.specs.States.{CpuState, arrives}
use Rattle.lg_cpu.specs.Steps.{Effect, Run, faults, stepped}
use Rattle.lg_cpu.specs.X86Operators.{bit, carry_for, alu_value, alu_flags, alu_of, is_kept_by, condition_holds}
use Rattle.lg_cpu.specs.X86Step.{Scene, scene_of, with_flags, with_register, with_carry, sets_loaded, loads, load_width, store_width, stores, sets_quotient, one_register, pops, pushes, sets_byte, made}
use Rattle.lg_cpu.specs.X86Step.{fault_of, goes_with, goes_where, returns, does, decoded, fetch, effect_at, effect}
use Rattle.lg_carry.specs.Disturbed.{AreSame, hidden_in}
use Rattle.lg_carry.specs.Processors.{IsSeen, IsOff}
use Rattle.lg_carry.proofs.TouchLemmas.{Alike, choose, arriving-alike, faulting-alike, mapped-alike, loaded-alike, stored-alike, stored-stays, Grows, grows-if, seen-stays, same-stepped, hidden-stays}
use Rattle.lg_selx_values.specs.Processor.X86Rows.{x86_processor, x86_seen}
use Rattle.lg_selx_values.specs.Processor.X86Touched.{touched, touched_by, touched_at}
use Rattle.lg_selx_values.specs.Processor.Touches.{StepsLeave, StepsOverlook, StepsAreAlike, StatesArePatched}
use Rattle.lg_selx_values.proofs.OfProcessor.ActLemmas.{steady-does}

-- the flags are seen as they are
abbrev see : Flags → Flags
see f = f

module _ (hidden : ℕ → Bool) (q : CpuState) (m : ℕ → Option ℕ) (same : (a : ℕ) → hidden a ≡ false → m a ≡ q.bytes a) where
  abbrev t : CpuState
  t = record { pc = q.pc; registers = q.registers; flags = q.flags; bytes = m; mark = q.mark }

  abbrev Same : Effect CpuState → Effect CpuState → Type 0
  Same e f = Alike see hidden m e f

  -- ---- scenes
  record Scenes (s u : Scene) : Type 0 where
    pub registers : u.registers ≡ s.registers
    pub flags : u.flags ≡ s.flags
    pub bytes : (a : ℕ) → hidden a ≡ false → u.bytes a ≡ s.bytes a
    pub stays : (a : ℕ) → hidden a ≡ true → u.bytes a ≡ m a

  abbrev Both : Option Scene → Option Scene → Type 0
  Both None None = ⊤
  Both (Some s) (Some u) = Scenes s u
  Both o p = ⊥

  abbrev here : Scene
  here = scene_of q

  abbrev there : Scene
  there = scene_of t

  plain : (w : ℕ → ℕ) (f : Flags) → Scenes (record { registers = w; flags = f; bytes = q.bytes }) (record { registers = w; flags = f; bytes = m })
  plain w f = record { registers = refl; flags = refl; bytes = same; stays = λ a on. refl }

  either : (b : Bool) (s s' u u' : Scene) → Scenes s u → Scenes s' u' → Scenes (if b then s else s') (if b then u else u')
  either true s s' u u' x y = x
  either false s s' u u' x y = y

  with-carry : (op : RmRegOp) (rm b : ℕ) (o : Option Bool) → Both (with_carry op rm b here o) (with_carry op rm b there o)
  with-carry op rm b None = tt
  with-carry op rm b (Some c) =
      either (is_kept_by op) (with_flags here (alu_flags op q.flags (q.registers rm) b (bit c)))
      (with_register here rm (alu_value op (q.registers rm) b (bit c)) (alu_flags op q.flags (q.registers rm) b (bit c)))
      (with_flags there (alu_flags op q.flags (q.registers rm) b (bit c)))
      (with_register there rm (alu_value op (q.registers rm) b (bit c)) (alu_flags op q.flags (q.registers rm) b (bit c)))
      (plain _ _) (plain _ _)

  sets-loaded : (op : LoadOp) (reg : ℕ) (o : Option ℕ) → Both (sets_loaded op reg here o) (sets_loaded op reg there o)
  sets-loaded op reg None = tt
  sets-loaded op reg (Some v) = plain _ _

  module _ (a width : ℕ) (off : (j : ℕ) → a ≤ j → j < a + width → hidden j ≡ false) where
    level : loaded m a width ≡ loaded q.bytes a width
    level = loaded-alike see hidden m q q.flags same refl a width off

    loading : (op : LoadOp) (reg : ℕ) → Both (sets_loaded op reg here (loaded q.bytes a width)) (sets_loaded op reg there (loaded m a width))
    loading op reg = subst (λ o. Both (sets_loaded op reg here (loaded q.bytes a width)) (sets_loaded op reg there o)) (sym level)
        (sets-loaded op reg (loaded q.bytes a width))

    storing : (w : ℕ → ℕ) (v : ℕ) → Both (stores here w a width v) (stores there w a width v)
    storing w v =
        subst (λ b. Both (stores here w a width v) (if b then Some (record { registers = w; flags = q.flags; bytes = stored m a width v }) else None))
        (sym (mapped-alike see hidden m q q.flags same refl a width off)) (by (mapped q.bytes a width))
      where
        by : (b : Bool) → Both (if b then Some (record { registers = w; flags = q.flags; bytes = stored q.bytes a width v }) else None)
            (if b then Some (record { registers = w; flags = q.flags; bytes = stored m a width v }) else None)
        by true = record {
          registers = refl;
          flags = refl;
          bytes = λ j e. stored-alike see hidden m q q.flags same refl a width off v j e;
          stays = λ j on. stored-stays see hidden m q q.flags same refl a width off v j on;
        }
        by false = tt

  load : (op : LoadOp) (reg a : ℕ) → ((j : ℕ) → a ≤ j → j < a + load_width op → hidden j ≡ false) → Both (loads op reg a here) (loads op reg a there)
  load Lea reg a off = plain _ _
  load Ld64 reg a off = loading a 8 off Ld64 reg
  load Ld32u reg a off = loading a 4 off Ld32u reg
  load Ld32s reg a off = loading a 4 off Ld32s reg
  load Ld8u reg a off = loading a 1 off Ld8u reg
  load Ld16u reg a off = loading a 2 off Ld16u reg
  load Ld8s reg a off = loading a 1 off Ld8s reg
  load Ld16s reg a off = loading a 2 off Ld16s reg

  quotient : (o : Option (ℕ × ℕ)) → Both (sets_quotient here o) (sets_quotient there o)
  quotient None = tt
  quotient (Some p) = plain _ _

  one : (op : UnaryOp) (rm : ℕ) → Both (one_register op rm here) (one_register op rm there)
  one Div rm = quotient (quotient_wide (q.registers 2) (q.registers 0) (q.registers rm))
  one Idiv rm = quotient (quotient_wide_signed (q.registers 2) (q.registers 0) (q.registers rm))
  one o rm = plain _ _

  pop : (reg : ℕ) (o : Option ℕ) → Both (pops reg here o) (pops reg there o)
  pop reg None = tt
  pop reg (Some v) = plain _ _

  push : (v : ℕ) → ((j : ℕ) → sub_words (q.registers 4) 8 ≤ j → j < sub_words (q.registers 4) 8 + 8 → hidden j ≡ false) → Both (pushes v here) (pushes v there)
  push v off = storing (sub_words (q.registers 4) 8) 8 off (put q.registers 4 (sub_words (q.registers 4) 8)) v

  byte : (rm : ℕ) (o : Option Bool) → Both (sets_byte rm here o) (sets_byte rm there o)
  byte rm None = tt
  byte rm (Some b) = plain _ _

  makes : (i : Instr) → IsOff hidden (touched i q.registers) → Both (made i here) (made i there)
  makes (RmReg op rm reg) off = with-carry op rm (q.registers reg) (carry_for op (carry_of q.flags))
  makes (Imm op rm imm) off = with-carry (alu_of op) rm (word_of imm) (carry_for (alu_of op) (carry_of q.flags))
  makes (RegRm op reg rm) off = plain _ _
  makes (Load op reg base disp) off = load op reg (add_words (q.registers base) (word_of disp)) off
  makes (Store op base disp reg) off = storing (add_words (q.registers base) (word_of disp)) (store_width op) off q.registers (q.registers reg)
  makes (Lea2 reg base index) off = plain _ _
  makes (Movi32 reg imm) off = plain _ _
  makes (Movs32 rm imm) off = plain _ _
  makes (Movi64 reg imm) off = plain _ _
  makes (Unary op rm) off = one op rm
  makes (Shift op rm count) off = plain _ _
  makes (Bswap reg) off = plain _ _
  makes (Stack Push reg) off = push (q.registers reg) off
  makes (Stack Pop reg) off =
      subst (λ o. Both (pops reg here (loaded q.bytes (q.registers 4) 8)) (pops reg there o)) (sym (level (q.registers 4) 8 off))
      (pop reg (loaded q.bytes (q.registers 4) 8))
  makes (Set cond rm) off = byte rm (condition_holds cond q.flags)
  makes (Bare Cqo) off = plain _ _
  makes (Bare Nop) off = plain _ _
  makes (Bare Ret) off = tt
  makes o off = tt

  -- ---- effects
  faulting : (kind : FaultKind) → Same (faults q kind) (faults t kind)
  faulting kind = faulting-alike see hidden m q q.flags same refl kind

  going : (pc : ℕ) (w : ℕ → ℕ) → Same (arrives pc w q.flags q.bytes q.mark) (arrives pc w q.flags m q.mark)
  going pc w = arriving-alike see hidden m q q.flags same refl pc w w q.flags q.flags refl refl

  with-scene : (pc : ℕ) (kind : FaultKind) (o p : Option Scene) → Both o p → Same (goes_with q pc kind o) (goes_with t pc kind p)
  with-scene pc kind None None b = faulting kind
  with-scene pc kind (Some s) (Some u) b =
      record { progress = refl; written = refl; pc = refl; registers = b.registers; mark = refl; flags = b.flags; bytes = b.bytes; stays = b.stays }
  with-scene pc kind None (Some u) b = absurd b
  with-scene pc kind (Some s) None b = absurd b

  where-to : (next target : ℕ) (o : Option Bool) → Same (goes_where q next target o) (goes_where t next target o)
  where-to next target None = faulting Flag
  where-to next target (Some b) = going _ q.registers

  return : (o : Option ℕ) → Same (returns q o) (returns t o)
  return None = faulting Memory
  return (Some target) = going target _

  made-alike : (i : Instr) (next : ℕ) → IsOff hidden (touched i q.registers)
      → Same (goes_with q next (fault_of i) (made i here)) (goes_with t next (fault_of i) (made i there))
  made-alike i next off = with-scene next (fault_of i) (made i here) (made i there) (makes i off)

  does-alike : (i : Instr) (next : ℕ) → IsOff hidden (touched i q.registers) → Same (does i next q) (does i next t)
  does-alike (RmReg op rm reg) next off = made-alike (RmReg op rm reg) next off
  does-alike (Imm op rm imm) next off = made-alike (Imm op rm imm) next off
  does-alike (RegRm op reg rm) next off = made-alike (RegRm op reg rm) next off
  does-alike (Load op reg base disp) next off = made-alike (Load op reg base disp) next off
  does-alike (Store op base disp reg) next off = made-alike (Store op base disp reg) next off
  does-alike (Lea2 reg base index) next off = made-alike (Lea2 reg base index) next off
  does-alike (Movi32 reg imm) next off = made-alike (Movi32 reg imm) next off
  does-alike (Movs32 rm imm) next off = made-alike (Movs32 rm imm) next off
  does-alike (Movi64 reg imm) next off = made-alike (Movi64 reg imm) next off
  does-alike (Unary op rm) next off = made-alike (Unary op rm) next off
  does-alike (Shift op rm count) next off = made-alike (Shift op rm count) next off
  does-alike (Bswap reg) next off = made-alike (Bswap reg) next off
  does-alike (Stack Push reg) next off = made-alike (Stack Push reg) next off
  does-alike (Stack Pop reg) next off = made-alike (Stack Pop reg) next off
  does-alike (Set cond rm) next off = made-alike (Set cond rm) next off
  does-alike (Bare Cqo) next off = made-alike (Bare Cqo) next off
  does-alike (Bare Nop) next off = made-alike (Bare Nop) next off
  does-alike (Bare Ret) next off =
      subst (λ o. Same (returns q (loaded q.bytes (q.registers 4) 8)) (returns t o)) (sym (level (q.registers 4) 8 off))
      (return (loaded q.bytes (q.registers 4) 8))
  does-alike (JumpIfShort cond distance) next off = where-to next (add_words next (word_of distance)) (condition_holds cond q.flags)
  does-alike (JumpIfNear cond distance) next off = where-to next (add_words next (word_of distance)) (condition_holds cond q.flags)
  does-alike (JumpShort distance) next off = going _ q.registers
  does-alike (JumpNear Jmp32 distance) next off = going _ q.registers
  does-alike (JumpNear Call32 distance) next off = with-scene (add_words next (word_of distance)) Memory (pushes next here) (pushes next there) (push next off)
  does-alike (JumpReg Jmpr rm) next off = going _ q.registers
  does-alike (JumpReg Callr rm) next off = with-scene (q.registers rm) Memory (pushes next here) (pushes next there) (push next off)

  decoded-alike : (o : Option (Instr × ℕ)) → IsOff hidden (touched_by o q.registers) → Same (decoded o q) (decoded o t)
  decoded-alike None off = faulting Decode
  decoded-alike (Some (i, len)) off = does-alike i (add_words q.pc len) off

  fetched-alike : (code : List ℕ) → IsOff hidden (touched_at code q.pc q.registers) → Same (fetch code q) (fetch code t)
  fetched-alike code off =
      choose see hidden m (in_code code q.pc) _ _ _ _ (decoded-alike (front_of (drop (q.pc - code_base) code)) off) (faulting Fetch)

-- ---- memory does not shrink
grows-decoded : (o : Option (Instr × ℕ)) (q : CpuState) → Grows q (decoded o q)
grows-decoded None q = record { mark = refl; grows = λ a h. h }
grows-decoded (Some (i, len)) q = let s = steady-does i (add_words q.pc len) q in record { mark = s.mark; grows = s.grows }

grows-fetch : (code : List ℕ) (q : CpuState) → Grows q (fetch code q)
grows-fetch code q =
    grows-if (in_code code q.pc) q _ _ (grows-decoded (front_of (drop (q.pc - code_base) code)) q) record { mark = refl; grows = λ a h. h }

-- ---- the step
module _ (code : List ℕ) (trash : ℕ) (bytes : AreBytes code) (word : trash < 2 ^ 64) (q r : Run CpuState) (low : q.state.pc < 2 ^ 64)
    (no-host : host_by_address q.state.pc ≡ None) (hidden : ℕ → Bool) (off : IsOff hidden (touched_at code q.state.pc q.state.registers))
    (same : AreSame (x86_processor code trash) hidden q r) where
  abbrev s : CpuState
  s = record { pc = q.state.pc; registers = q.state.registers; flags = q.state.flags; bytes = r.state.bytes; mark = q.state.mark }

  other : s ≡ r.state
  other = λ i.
      record { pc = sym same.look.pc i; registers = sym same.look.registers i; flags = sym same.look.flags i; bytes = r.state.bytes; mark = sym same.look.mark i }

  fetches : (z : CpuState) → host_by_address z.pc ≡ None → effect code trash z ≡ fetch code z
  fetches z e = ap (λ o. effect_at o code trash z) e

  no-host-there : host_by_address r.state.pc ≡ None
  no-host-there = ap host_by_address same.look.pc ∙ no-host

  alike : Alike see hidden r.state.bytes (effect code trash q.state) (effect code trash r.state)
  alike =
      subst (λ e. Alike see hidden r.state.bytes e (effect code trash r.state)) (sym (fetches q.state no-host))
      (subst (λ f. Alike see hidden r.state.bytes (fetch code q.state) f) (sym (fetches r.state no-host-there))
      (subst (λ z. Alike see hidden r.state.bytes (fetch code q.state) (fetch code z)) other
      (fetched-alike hidden q.state r.state.bytes same.look.bytes code off)))

  behind : IsSeen (x86_seen r) → IsSeen (x86_seen (stepped (effect code trash) r))
  behind h = seen-stays X86_64 see (effect code trash) (touched_at code) r
      (x86-stays-sound code trash r.state bytes word
      record { pc = subst (λ pc. pc < 2 ^ 64) (sym same.look.pc) low; words = h.words; bytes = h.bytes; mark = h.high })
      (subst (Grows r.state) (sym (fetches r.state no-host-there)) (grows-fetch code r.state)) h

pub steps-leave : StepsLeave
steps-leave code trash q hidden bytes word low no-host off r seen same =
    let a = alike code trash bytes word q r low no-host hidden off same in (
      same-stepped X86_64 see (effect code trash) (touched_at code) hidden q r same a,
      behind code trash bytes word q r low no-host hidden off same seen,
      hidden-stays X86_64 see (effect code trash) (touched_at code) hidden q r same a,
    )

pub steps-overlook : StepsOverlook
steps-overlook code trash q bytes word low no-host off r seen same =
    let l = steps-leave code trash q (hidden_in (x86_processor code trash) q) bytes word low no-host off r seen same in (l.0, l.1)

-- ---- any step
pub steps-are-alike : StepsAreAlike
steps-are-alike code trash q r same =
    let bytes : q.state.bytes ≡ r.state.bytes = sym (fun_ext (λ a. same.look.bytes a refl)) in
    let other : q.state ≡ r.state =
    λ i. record { pc = sym same.look.pc i; registers = sym same.look.registers i; flags = sym same.look.flags i; bytes = bytes i; mark = sym same.look.mark i } in
    same-stepped X86_64 see (effect code trash) (touched_at code) (λ a. false) q r same
    (subst (λ z. Alike see (λ a. false) r.state.bytes (effect code trash q.state) (effect code trash z)) other
    record { progress = refl; written = refl; pc = refl; registers = refl; mark = refl; flags = refl; bytes = λ a e. refl; stays = λ a on. cc })

pub states-are-patched : StatesArePatched
states-are-patched code trash = record {
  patch = λ m q.
      record {
        state = record { pc = q.state.pc; registers = q.state.registers; flags = q.state.flags; bytes = m; mark = q.state.mark };
        progress = q.progress;
        out = q.out;
      };
  is = λ m q. record { status = refl; out = refl; look = record { pc = refl; registers = refl; bytes = λ a e. cc; mark = refl; flags = refl } };
  bytes = λ m q. refl;
}
