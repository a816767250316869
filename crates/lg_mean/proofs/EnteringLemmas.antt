-- What is left of a run when a function is called from outside.
use Rattle.std.proofs.Common.{◌≡◌, ℕ, ◌≤◌, ◌<◌, Bool, true, false, Option, Some, None, List, [], length, refl, subst, sym, ap, ◌∙◌, arith}
use Rattle.std.specs.Prelude.{if◌then◌else◌, nat_lt}
use mathlib.Core.Path.{fun_ext}
use Rattle.lg_base.specs.Parts.{stack_base}
use Rattle.lg_cells.specs.Cells.{within}
use Rattle.lg_cells.specs.Memories.{without}
use Rattle.lg_meaning.specs.States.{Frame, State, is_part, is_open}
use Rattle.lg_meaning.specs.Starts.{IsEntryStack, IsHeapMark, Entry, MayEnter, entered_state, entry_after, entry_frame, outside_stack}
use Rattle.lg_meaning.specs.Steps.{started}
use Rattle.lg_mean.specs.Entering.{BeginsAlike}
use Rattle.lg_mean.proofs.FrameLemmas.{inside, low_part, part_enter}
use Rattle.lg_va.specs.Calls.{calling_stack}

below_stack : (a : ℕ) → nat_lt a stack_base ≡ true → a < stack_base
below_stack a h = grind arith

-- bytes of the stack that are taken out are none of those outside
pub stack_alone : (mem : ℕ → Option ℕ) (lo n : ℕ) → stack_base ≤ lo → outside_stack (without mem lo n) ≡ outside_stack mem
stack_alone mem lo n low = fun_ext (λ a. by a (nat_lt a stack_base) refl (within lo n a) refl)
  where
    by : (a : ℕ) (b : Bool) → nat_lt a stack_base ≡ b → (w : Bool) → within lo n a ≡ w → (if b then (if w then None else mem a) else None) ≡ (if b then mem a else None)
    by a false e w h = refl
    by a true e false h = refl
    by a true e true h = absurd (omega (arith, low, below_stack a e, (inside lo n a h).0))

-- where only the bytes of the stack differ, a call begins with the same
pub alike_outside : (s : State) (mem : ℕ → Option ℕ) → outside_stack mem ≡ outside_stack s.mem → BeginsAlike s (record s { mem = mem })
alike_outside s mem e = λ sp args. ap (λ (m : ℕ → Option ℕ). record (entry_after s sp args) { mem = m }) e

-- where each byte lies in the data, the arguments or the heap, all are outside of the stack
pub all_outside : (mem : ℕ → Option ℕ) (d g mark : ℕ) → d ≤ 0x1000000 → g ≤ 0x100000 → mark ≤ 0x30400000 → ((a b : ℕ) → mem a ≡ Some b → is_part d g mark [] a ≡ true)
    → mem ≡ outside_stack mem
all_outside mem d g mark hd hg hm parts = fun_ext (λ a. by a (nat_lt a stack_base) refl (mem a) refl)
  where
    by : (a : ℕ) (b : Bool) → nat_lt a stack_base ≡ b → (o : Option ℕ) → mem a ≡ o → o ≡ (if b then o else None)
    by a true e o h = refl
    by a false e None h = refl
    by a false e (Some v) h =
        let l = low_part d g mark a hd hg hm (grind arith) in
        let p : false ≡ true = rw (l.0, l.1, l.2) at (parts a v h) in
        cc

-- the stack pointer of a call from outside is one with which a run may begin
pub calling_stack_enters : (count : ℕ) → count ≤ 16 → IsEntryStack (calling_stack count)
calling_stack_enters count few = record { whole = omega (arith, few); room = omega (arith, few); high = omega (arith, few) }

-- at the start of a function that is called from outside, over what a run left outside of the stack
pub restarted : (s t : State) (node sp : ℕ) (args : List ℕ) → t.callers ≡ [] → BeginsAlike s t
    → record (started t node) { frame = entry_frame sp args; mem = outside_stack t.mem } ≡ entered_state (entry_after s sp args) node
restarted s t node sp args alone alike =
    ap (λ (fs : List Frame). record (started t node) { frame = entry_frame sp args; mem = outside_stack t.mem; callers = fs }) alone
    ∙ ap (λ e. entered_state e node) (alike sp args)

-- a run may begin with what a machine begins with, whose bytes lie in its parts and whose mark is in the heap
pub may_enter : (e : Entry) (k : ℕ) (s : State) → s ≡ entered_state e k → IsEntryStack e.sp → length e.args ≤ 16
    → ((a b : ℕ) → s.mem a ≡ Some b → is_open s a ≡ true) → IsHeapMark s.mark → MayEnter e
may_enter e k s same stack few memory heap =
    let none = part_enter e.data_size e.args_size e.mark (entry_frame e.sp e.args) [] refl in
    record {
      stack = stack;
      few = few;
      heap = subst (λ (t : State). IsHeapMark t.mark) same heap;
      parts = λ a b h. sym (ap (λ (p : ℕ → Bool). p a) none) ∙ subst (λ (t : State). (a b : ℕ) → t.mem a ≡ Some b → is_open t a ≡ true) same memory a b h;
    }
