-- A step does the same whatever is where it touches nothing: what the processors' instructions have in common.
use Rattle.std.proofs.Common.{◌≡◌, ℕ, zero, suc, ◌+◌, ◌/◌, ◌%◌, ◌<◌, ◌≤◌, ◌⊎◌, inl, inr, ⊎_elim, Bool, true, false, ◌++◌, Option, Some, refl, sym, ap, ◌∙◌, arith}
use Rattle.std.specs.Prelude.{◌==◌, if◌then◌else◌, is_some}
use Rattle.std.proofs.lemmas.Bool.{cases_lt}
use Rattle.lg_base.proofs.SpaceLemmas.{stored-out}
use Rattle.lg_base.specs.Spaces.{put_some, mapped, loaded, stored}
use Rattle.lg_base.specs.declared.fault.FaultKind.{FaultKind}
use Rattle.lg_base.specs.declared.flags.Flags.{Flags}
use Rattle.lg_base.specs.declared.target.Target.{Target}
use Rattle.lg_cpu.specs.Laws.{IsSound}
use Rattle.lg_cpu.specs.States.{CpuState, arrives}
use Rattle.lg_cpu.specs.Steps.{Progress, Goes, EndedWith, Faulted, Effect, Run, faults, after, on_going, stepped, status_of, machine}
use Rattle.lg_carry.specs.Disturbed.{AreSame}
use Rattle.lg_carry.specs.Processors.{Seen, IsSeen, Processor, Span}
use Rattle.lg_carry.proofs.WordLemmas.{mapped-same, loaded-same}

-- a byte after a store of the same bytes
pub stored-same : (m n : ℕ → Option ℕ) (a w v j : ℕ) → n j ≡ m j → stored n a w v j ≡ stored m a w v j
unfolding stored
stored-same m n a zero v j h = h
stored-same m n a (suc w) v j h =
    stored-same (put_some m a (v % 256)) (put_some n a (v % 256)) (a + 1) w (v / 256) j (ap (λ o. if j == a then Some (v % 256) else o) h)

-- a byte that is not touched
untouched : (hidden : ℕ → Bool) (from width a : ℕ) → ((j : ℕ) → from ≤ j → j < from + width → hidden j ≡ false) → hidden a ≡ true → (a < from) ⊎ (from + width ≤ a)
untouched hidden from width a off on = ⊎_elim
    (λ (lt : a < from). inl lt)
    (λ (ge : from ≤ a). ⊎_elim (λ (lt : a < from + width). let z : true ≡ false = sym on ∙ off a ge lt in cc) (λ (out : from + width ≤ a). inr out) (cases_lt a (from + width)))
    (cases_lt a from)

-- the second effect, of a state, is the first one but for hidden bytes, and leaves these as they were; see says what is seen of flags
pub record Alike (see : Flags → Flags) (hidden : ℕ → Bool) (m : ℕ → Option ℕ) (e f : Effect CpuState) : Type 0 where
  pub progress : f.progress ≡ e.progress
  pub written : f.written ≡ e.written
  pub pc : f.to.pc ≡ e.to.pc
  pub registers : f.to.registers ≡ e.to.registers
  pub mark : f.to.mark ≡ e.to.mark
  pub flags : see f.to.flags ≡ see e.to.flags
  pub bytes : (a : ℕ) → hidden a ≡ false → f.to.bytes a ≡ e.to.bytes a
  pub stays : (a : ℕ) → hidden a ≡ true → f.to.bytes a ≡ m a

module _ (see : Flags → Flags) (hidden : ℕ → Bool) (m : ℕ → Option ℕ) where
  pub choose : (b : Bool) (e e' f f' : Effect CpuState) → Alike see hidden m e f → Alike see hidden m e' f'
      → Alike see hidden m (if b then e else e') (if b then f else f')
  choose true e e' f f' x y = x
  choose false e e' f f' x y = y

  -- of two states that are the same but for hidden bytes
  module _ (q : CpuState) (flags : Flags) (same : (a : ℕ) → hidden a ≡ false → m a ≡ q.bytes a) (level : see flags ≡ see q.flags) where
    pub arriving-alike : (pc : ℕ) (w v : ℕ → ℕ) (f g : Flags) → v ≡ w → see g ≡ see f
        → Alike see hidden m (arrives pc w f q.bytes q.mark) (arrives pc v g m q.mark)
    arriving-alike pc w v f g e h = record { progress = refl; written = refl; pc = refl; registers = e; mark = refl; flags = h; bytes = same; stays = λ a on. refl }

    pub faulting-alike : (kind : FaultKind)
        → Alike see hidden m (faults q kind) (faults (record { pc = q.pc; registers = q.registers; flags = flags; bytes = m; mark = q.mark }) kind)
    faulting-alike kind =
        record { progress = refl; written = refl; pc = refl; registers = refl; mark = refl; flags = level; bytes = same; stays = λ a on. refl }

    module _ (a width : ℕ) (off : (j : ℕ) → a ≤ j → j < a + width → hidden j ≡ false) where
      pub storing-alike : (pc v : ℕ) (w : ℕ → ℕ) (f g : Flags) → see g ≡ see f
          → Alike see hidden m (arrives pc w f (stored q.bytes a width v) q.mark) (arrives pc w g (stored m a width v) q.mark)
      storing-alike pc v w f g h = record {
        progress = refl;
        written = refl;
        pc = refl;
        registers = refl;
        mark = refl;
        flags = h;
        bytes = λ j e. stored-same q.bytes m a width v j (same j e);
        stays = λ j on. stored-out m a width v j (untouched hidden a width j off on);
      }

      pub mapped-alike : mapped m a width ≡ mapped q.bytes a width
      mapped-alike = mapped-same q.bytes m a width (λ j le lt. same j (off j le lt))

      pub loaded-alike : loaded m a width ≡ loaded q.bytes a width
      loaded-alike = loaded-same q.bytes m a width (λ j le lt. same j (off j le lt))

      pub stored-alike : (v j : ℕ) → hidden j ≡ false → stored m a width v j ≡ stored q.bytes a width v j
      stored-alike v j e = stored-same q.bytes m a width v j (same j e)

      pub stored-stays : (v j : ℕ) → hidden j ≡ true → stored m a width v j ≡ m j
      stored-stays v j on = stored-out m a width v j (untouched hidden a width j off on)

-- ---- nothing is taken away
pub record Grows (q : CpuState) (e : Effect CpuState) : Type 0 where
  pub mark : e.to.mark ≡ q.mark
  pub grows : (a : ℕ) → is_some (q.bytes a) ≡ true → is_some (e.to.bytes a) ≡ true

pub grows-if : (b : Bool) (q : CpuState) (e f : Effect CpuState) → Grows q e → Grows q f → Grows q (if b then e else f)
grows-if true q e f x y = x
grows-if false q e f x y = y

-- ---- a processor of such states
module _ (target : Target) (see : Flags → Flags) (effect : CpuState → Effect CpuState) (touches : ℕ → (ℕ → ℕ) → Span) where
  abbrev look : Run CpuState → Seen
  look r = record { pc = r.state.pc; registers = r.state.registers; bytes = r.state.bytes; mark = r.state.mark; flags = see r.state.flags }

  abbrev P : Processor (Run CpuState)
  P = record { target = target; machine = machine effect; seen = look; touches = touches }

  -- words stay words
  pub seen-stays : (r : Run CpuState) → IsSound (effect r.state).to → Grows r.state (effect r.state) → IsSeen (look r) → IsSeen (look (stepped effect r))
  seen-stays r sound steady h = by r.progress
    where
      next : IsSeen (look (after r (effect r.state)))
      next = record {
        words = sound.words;
        bytes = sound.bytes;
        heap = λ a w. steady.grows a (h.heap a w);
        stack = λ a w. steady.grows a (h.stack a w);
        low = let m = steady.mark in let l = h.low in omega (arith, l, m);
        high = let m = steady.mark in let l = h.high in omega (arith, l, m);
      }

      by : (p : Progress) → IsSeen (look (on_going p (after r (effect r.state)) r))
      by Goes = next
      by (EndedWith n) = h
      by (Faulted kind) = h

  module _ (hidden : ℕ → Bool) (q r : Run CpuState) (same : AreSame P hidden q r)
      (alike : Alike see hidden r.state.bytes (effect q.state) (effect r.state)) where
    pub same-stepped : AreSame P hidden (stepped effect q) (stepped effect r)
    same-stepped = by q.progress r.progress same.status
      where
        by : (p p' : Progress) → status_of p' ≡ status_of p
            → AreSame P hidden (on_going p (after q (effect q.state)) q) (on_going p' (after r (effect r.state)) r)
        by Goes Goes e = record {
          status = ap status_of alike.progress;
          out = (λ i. same.out i ++ alike.written i);
          look = record { pc = alike.pc; registers = alike.registers; bytes = alike.bytes; mark = alike.mark; flags = alike.flags };
        }
        by (EndedWith n) (EndedWith m) e = same
        by (Faulted kind) (Faulted k) e = same
        by p p' e = cc

    pub hidden-stays : (a : ℕ) → hidden a ≡ true → (stepped effect r).state.bytes a ≡ r.state.bytes a
    hidden-stays a on = by r.progress
      where
        by : (p : Progress) → (on_going p (after r (effect r.state)) r).state.bytes a ≡ r.state.bytes a
        by Goes = alike.stays a on
        by (EndedWith n) = refl
        by (Faulted kind) = refl
