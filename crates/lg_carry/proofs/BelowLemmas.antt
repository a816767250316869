-- Bytes below the stack pointer do not count where states correspond to each other.
use Rattle.std.proofs.Common.{◌≡◌, ℕ, ◌-◌, ◌<◌, ◌≤◌, ◌⊎◌, inl, inr, Bool, true, false, List, [], ◌∷◌, Option, Some, None, refl, sym, ap, ◌∙◌, subst, arith, ⊎_elim, length}
use Rattle.std.specs.Prelude.{◌==◌, not}
use Rattle.std.proofs.lemmas.Bool.{or_cases}
use Rattle.lg_base.specs.Conventions.{stack_register, frame_register, link_register}
use Rattle.lg_base.specs.Flags.{carry_of}
use Rattle.lg_base.specs.Layout.{return_word}
use Rattle.lg_base.specs.declared.target.Target.{Target}
use Rattle.lg_base.specs.declared.target.Target.TheVariants.{X86_64, Aarch64, Riscv64}
use Rattle.lg_node.specs.Functions.{home}
use Rattle.lg_node.specs.Labels.{is_inner}
use Rattle.lg_meaning.specs.States.{Frame, State, in_locals, in_any_locals, is_open}
use Rattle.lg_meaning.specs.Fits.{IsTopOf, AreLinked, entry_stack}
use Rattle.lg_carry.specs.FinalNodes.{Code, is_inside}
use Rattle.lg_carry.specs.Homes.{homes_at}
use Rattle.lg_carry.specs.Frames.{at_call, arriving, IsLinked, IsArriving, IsRunning, MayHoldCaller}
use Rattle.lg_carry.specs.Outer.{HoldsOuter, OuterIs, outer_stack}
use Rattle.lg_carry.specs.Places.{AreStacked, ArePassedFew, HaveFewArguments}
use Rattle.lg_carry.specs.Processors.{Seen, IsSeen, Processor, is_below, stack_of, IsOff, TouchesAbove}
use Rattle.lg_carry.specs.Registers.{HoldsRegisters, HoldsCarry, HoldsResult, HoldsArguments}
use Rattle.lg_carry.specs.Stands.{lowest, StatesAgree}
use Rattle.lg_carry.proofs.AgreeInFrameLemmas.{settled, running}
use Rattle.lg_carry.proofs.KeptLemmas.{stack_arguments-kept, frames-kept, running-kept}
use Rattle.lg_carry.proofs.OuterLemmas.{bottom-words, keeps-on, after-entry, outer-inside, outer-called, called-outer, outer-room}
use Rattle.lg_carry.proofs.StackLemmas.{stacked, few-arguments, stacked-running, words-above, within-where, locals-above, open-where}
use Rattle.lg_carry.proofs.WordLemmas.{word-kept}
use Rattle.lg_carry.specs.Below.{LooksSame, StatesAreKept, StandsAreKept}

-- at and above the stack pointer, and off the stack part, all counts
pub not-below : (target : Target) (stack a : ℕ) → (a < 0x3FF00000) ⊎ (stack ≤ a) → is_below target stack a ≡ false
not-below X86_64 stack a h = grind (arith, h)
not-below other stack a h = grind (arith, h)

-- before its `prolog` a frame has no size and no locals
empty : (b : Bool) (l at p : ℕ) → not (at == p) ≡ b → b ≡ false → at ≡ p
empty true l at p e f = cc
empty false l at p e f = grind (arith, e)

linked-kept : (o : Option ℕ) (m n : ℕ → Option ℕ) (w v : ℕ → ℕ) (stack address : ℕ) → 8 ≤ stack → v ≡ w → ((a : ℕ) → arriving o stack ≤ a → n a ≡ m a)
    → IsLinked o m w stack address → IsLinked o n v stack address
linked-kept (Some x) m n w v stack address some e same h = ap (λ g. g x) e ∙ h
linked-kept None m n w v stack address some e same h = word-kept m n (return_word stack) address (λ j le lt. same j (omega (arith, le))) h

-- a stack pointer that is arriving lies at or below the frame's
arriving-low : (target : Target) (stack : ℕ) → arriving (link_register target) stack ≤ stack
arriving-low X86_64 stack = omega arith
arriving-low other stack = omega arith

module _ (target : Target) (c : Code) (live : Frame → ℕ → Bool) (s : State) (q r : Seen) (S : ℕ → Bool) (few : ArePassedFew c.nodes.nodes)
    (st : StatesAgree target c live s q S) (seen : IsSeen r) (look : LooksSame (is_below target (stack_of target q)) q r) where
  kept : (a : ℕ) → (a < 0x3FF00000) ⊎ (stack_of target q ≤ a) → r.bytes a ≡ q.bytes a
  kept a h = look.bytes a (not-below target (stack_of target q) a h)

  -- where the stack pointer is at or below the frame, and what is open lies off it
  module _ (low : stack_of target q ≤ lowest s.frame) (room : (a : ℕ) → is_open s a ≡ true → (a < 0x3FF00000) ⊎ (stack_of target q ≤ a))
      (frame : IsRunning (is_inside c s.at) target c.place r.bytes r.registers s.frame s.callers (live (at_call s.frame)) (homes_at c s.at))
      (outer : OuterIs (is_inside c s.at) target c s.at s.frame s.callers r) where
    tower : AreStacked s.frame.sp s.callers
    tower = stacked c.nodes c.shape s.frame s.callers st.fits.linked

    args-few : HaveFewArguments (s.frame ∷ s.callers)
    args-few = few-arguments c.nodes c.shape s.frame s.callers few st.fits.linked

    pushed-few : length s.pushed ≤ 16
    pushed-few = let p = st.fits.pushed in let k = few s.at (let i = st.fits.inside in omega (arith, i)) in omega (arith, p, k)

    above : (a : ℕ) → lowest s.frame ≤ a → r.bytes a ≡ q.bytes a
    above a le = kept a (inr (omega (arith, le, low)))

    agree : StatesAgree target c live s r S
    agree = record {
      fits = st.fits;
      low = st.low;
      seen = seen;
      parts = record {
        data_small = st.parts.data_small;
        args_small = st.parts.args_small;
        data_whole = st.parts.data_whole;
        args_whole = st.parts.args_whole;
        same = λ a le lt. kept a (inl (omega (arith, lt))) ∙ st.parts.same a le lt;
      };
      here = look.pc ∙ st.here;
      registers = subst (λ w. HoldsRegisters target w s.regs S) (sym look.registers) st.registers;
      carry = subst (λ w. HoldsCarry target w (carry_of r.flags) s.carry) (sym look.registers)
          (subst (λ f. HoldsCarry target q.registers (carry_of f) s.carry) (sym look.flags) st.carry);
      result = subst (λ w. HoldsResult target w s.answer) (sym look.registers) st.result;
      pushed = subst (λ w. HoldsArguments target w s.pushed) (sym look.registers) st.pushed;
      outgoing = stack_arguments-kept target q.bytes r.bytes (lowest s.frame) s.pushed pushed-few (λ a le lt. above a le) st.outgoing;
      incoming = stack_arguments-kept target q.bytes r.bytes s.frame.sp s.frame.args args-few.0 (λ a le lt. above a (omega (arith, le))) st.incoming;
      frame = frame;
      callers = frames-kept target c.place live (homes_at c) q.bytes r.bytes s.frame.sp s.frame.back s.callers tower args-few.1
          (λ a i. let k = words-above s.frame.sp s.callers a tower i in above a (omega (arith, k))) st.callers;
      entry = st.entry;
      outer = outer;
      memory = record { is = λ a b e. kept a (room a (st.fits.memory a b e)) ∙ st.memory.is a b e };
      mark = look.mark ∙ st.mark;
    }

  -- ---- after a `prolog`
  inside-agrees : is_inside c s.at ≡ true → StatesAgree target c live s r S
  inside-agrees inside =
      let stack = stacked-running c.nodes c.shape s st.fits inside st.low in
      let before = settled target (is_inside c s.at) c.place q.bytes q.registers s.frame s.callers (live (at_call s.frame)) (homes_at c s.at) inside st.frame in
      let at = before.stack in
      agree (omega (arith, at))
      (λ a can. ⊎_elim (λ below. inl (omega (arith, below)))
      (λ locals. let k = locals-above (lowest s.frame) (s.frame ∷ s.callers) a stack locals in inr (omega (arith, k, at)))
      (open-where s q.bytes a st.parts (let m = st.mark in let h = st.seen.high in omega (arith, m, h)) can))
      (running target (is_inside c s.at) c.place r.bytes r.registers s.frame s.callers (live (at_call s.frame)) (homes_at c s.at) inside
      (running-kept target c.place q.bytes r.bytes q.registers r.registers s.frame s.callers (live (at_call s.frame)) (homes_at c s.at) (omega (arith, stack.0, stack.1))
      (λ a le lt. kept a (inr (omega (arith, le, at, stack.0, stack.1)))) (ap (λ w. w (frame_register target)) look.registers)
      (ap (λ w. w (stack_register target)) look.registers) before))
      (outer-inside (is_inside c s.at) target c s.at s.frame s.callers r inside
      (let o = after-entry (is_inside c s.at) target c s.at s.frame s.callers q inside st.outer in record {
        entry = o.entry;
        keeps = keeps-on target c q.bytes r.bytes (outer-room c.nodes c.shape s.frame s.callers (outer_stack target c) st.fits.linked st.entry)
            (λ a lo hi. let w = words-above (lowest s.frame) (s.frame ∷ s.callers) a stack (bottom-words s.frame s.callers (outer_stack target c) st.entry a lo hi) in
            kept a (inr (omega (arith, w, at)))) o.keeps;
      }))

  -- ---- before one
  no-size : (o : Option ℕ) → is_inner o s.at ≡ false → IsTopOf c.nodes c.shape s o → (s.frame.size ≡ 0) × (s.frame.locals ≡ 0)
  no-size None e t = (t.size, t.locals)
  no-size (Some p) e t = let b = t.top.before (empty false 0 s.at p e refl ∙ sym t.entry) in (b.0, b.1)

  outside-agrees : is_inside c s.at ≡ false → StatesAgree target c live s r S
  outside-agrees outside =
      let none = no-size (home c.nodes.nodes s.at) outside st.fits.top in
      let arrives : IsArriving target c.place q.bytes q.registers s.frame s.callers (live (at_call s.frame)) =
      subst (λ x. IsRunning x target c.place q.bytes q.registers s.frame s.callers (live (at_call s.frame)) (homes_at c s.at)) outside st.frame in
      let at = arrives.stack in
      let under = arriving-low target s.frame.sp in
      let high = st.low in
      agree (omega (arith, at, under, none.0))
      (λ a can. ⊎_elim (λ below. inl (omega (arith, below)))
      (λ locals. ⊎_elim
      (λ here. let w = within-where (s.frame.sp - 144 - s.frame.locals) s.frame.locals a here in absurd (omega (arith, w.0, w.1, none.1)))
      (λ there. let k = locals-above s.frame.sp s.callers a (stacked c.nodes c.shape s.frame s.callers st.fits.linked) there in inr (omega (arith, k, at, under)))
      (or_cases (in_locals s.frame a) (in_any_locals s.callers a) locals))
      (open-where s q.bytes a st.parts (let m = st.mark in let h = st.seen.high in omega (arith, m, h)) can))
      (subst (λ x. IsRunning x target c.place r.bytes r.registers s.frame s.callers (live (at_call s.frame)) (homes_at c s.at)) (sym outside) record {
        stack = ap (λ w. w (stack_register target)) look.registers ∙ at;
        link = linked-kept (link_register target) q.bytes r.bytes q.registers r.registers s.frame.sp _ (omega (arith, high, none.0)) look.registers
            (λ a le. kept a (inr (omega (arith, le, at)))) arrives.link;
        caller = subst (λ w. MayHoldCaller target w s.frame s.callers (live (at_call s.frame))) (sym look.registers) arrives.caller;
        arguments = subst (λ w. HoldsArguments target w s.frame.args) (sym look.registers) arrives.arguments;
      })
      (outer-there s.callers refl st.fits.linked st.entry st.outer)
    where
      outer-there : (gs : List Frame) → s.callers ≡ gs → AreLinked c.nodes c.shape s.frame gs → entry_stack s.frame gs ≡ outer_stack target c
          → OuterIs (is_inside c s.at) target c s.at s.frame gs q → OuterIs (is_inside c s.at) target c s.at s.frame gs r
      outer-there [] e linked from o =
          let b = subst (λ x. OuterIs x target c s.at s.frame [] q) outside o in
          subst (λ x. OuterIs x target c s.at s.frame [] r) (sym outside) record { enters = b.enters; holds = subst (HoldsOuter target c) (sym look.registers) b.holds }
      outer-there (g ∷ gs) e linked from o =
          let b = called-outer (is_inside c s.at) target c s.at s.frame g gs q o in
          let tower = stacked c.nodes c.shape s.frame (g ∷ gs) linked in
          let arrives : IsArriving target c.place q.bytes q.registers s.frame s.callers (live (at_call s.frame)) =
          subst (λ x. IsRunning x target c.place q.bytes q.registers s.frame s.callers (live (at_call s.frame)) (homes_at c s.at)) outside st.frame in
          let at = arrives.stack in
          let under = arriving-low target s.frame.sp in
          outer-called (is_inside c s.at) target c s.at s.frame g gs r record {
            entry = b.entry;
            keeps = keeps-on target c q.bytes r.bytes (outer-room c.nodes c.shape g gs (outer_stack target c) linked.1 from)
                (λ a lo hi. let w = words-above s.frame.sp (g ∷ gs) a tower (bottom-words g gs (outer_stack target c) from a lo hi) in kept a (inr (omega (arith, w, at, under)))) b.keeps;
          }

  pub state-kept : StatesAgree target c live s r S
  state-kept = by (is_inside c s.at) refl
    where
      by : (b : Bool) → is_inside c s.at ≡ b → StatesAgree target c live s r S
      by true e = inside-agrees e
      by false e = outside-agrees e

pub states-kept : StatesAreKept
states-kept = state-kept

-- what the instruction at the program counter touches, it does by the program counter and the registers
pub touches-same : {Q : Type 0} (P : Processor Q) (hidden : ℕ → Bool) (q r : Q) → LooksSame hidden (P.seen q) (P.seen r) → TouchesAbove P q → TouchesAbove P r
touches-same P hidden q r look h =
    subst (λ w. IsOff (is_below P.target (w (stack_register P.target))) (P.touches (P.seen r).pc w)) (sym look.registers)
    (subst (λ pc. IsOff (is_below P.target ((P.seen q).registers (stack_register P.target))) (P.touches pc (P.seen q).registers)) (sym look.pc) h)

pub stands-kept : {Q : Type 0} (P : Processor Q) → StandsAreKept P
stands-kept P c live s out q r S few st d = record {
  runs = d.status ∙ st.runs;
  wrote = d.out ∙ st.wrote;
  state = state-kept P.target c live s (P.seen q) (P.seen r) S few st.state (d.seen st.state.seen) d.look;
}
