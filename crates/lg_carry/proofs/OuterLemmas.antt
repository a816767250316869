-- What the code keeps for who calls the entry stays.
use Rattle.std.proofs.Common.{◌≡◌, ℕ, ◌+◌, ◌<◌, ◌≤◌, inl, inr, Bool, true, false, List, [], ◌∷◌, Option, refl, sym, ap, ◌∙◌, subst, arith}
use Rattle.lg_base.specs.Conventions.{portable_register, frame_register, stack_register}
use Rattle.lg_base.specs.Layout.{frame_pointer, saved_word}
use Rattle.lg_base.specs.declared.target.Target.{Target}
use Rattle.lg_node.specs.Nodes.{LabelledNodes}
use Rattle.lg_node.specs.Shapes.{TextShape}
use Rattle.lg_meaning.specs.Fits.{AreLinked, entry_stack}
use Rattle.lg_meaning.specs.States.{Frame}
use Rattle.lg_meaning.specs.Steps.{Ending, Exited, Left}
use Rattle.lg_carry.specs.Entries.{entry_at}
use Rattle.lg_carry.specs.FinalNodes.{Code, function_at, is_entry}
use Rattle.lg_carry.specs.Outer.{HoldsOuter, KeepsOuter, bottom_at, IsAfterEntry, OuterIs, HasEnded, outer_stack}
use Rattle.lg_carry.specs.Places.{InWords}
use Rattle.lg_carry.specs.Processors.{Seen}
use Rattle.lg_carry.specs.Registers.{HoldsResult}
use Rattle.lg_carry.proofs.WordLemmas.{word-kept}
use Rattle.lg_meaning.specs.Starts.{IsEntryStack}
use Rattle.lg_base.specs.HostNames.{host_by_address}

-- ---- where it is
-- the words of the entry's frame are those of one of the frames
pub bottom-words : (f : Frame) (gs : List Frame) (stack : ℕ) → entry_stack f gs ≡ stack → (a : ℕ) → stack ≤ a + 104 → a < stack → InWords (f ∷ gs) a
bottom-words f [] stack e a low high = inl (omega (arith, e, low), omega (arith, e, high))
bottom-words f (g ∷ gs) stack e a low high = inr (bottom-words g gs stack e a low high)

-- there is room for it
entry-room : (l : LabelledNodes) (shape : TextShape) (f : Frame) (gs : List Frame) → AreLinked l shape f gs → IsEntryStack (entry_stack f gs)
entry-room l shape f [] linked = linked.0
entry-room l shape f (g ∷ gs) linked = entry-room l shape g gs linked.1

pub outer-room : (l : LabelledNodes) (shape : TextShape) (f : Frame) (gs : List Frame) (stack : ℕ) → AreLinked l shape f gs → entry_stack f gs ≡ stack → 104 ≤ stack
outer-room l shape f gs stack linked e = let k = entry-room l shape f gs linked in omega (arith, k.room, e)

pub keeps-on : (target : Target) (c : Code) (m n : ℕ → Option ℕ) → 104 ≤ outer_stack target c
    → ((a : ℕ) → outer_stack target c ≤ a + 104 → a < outer_stack target c → n a ≡ m a) → KeepsOuter target c m → KeepsOuter target c n
keeps-on target c m n room same k = record {
  pointer = word-kept m n (frame_pointer (outer_stack target c)) (c.outer (frame_register target)) (λ j le lt. same j (omega (arith, le)) (omega (arith, lt, room))) k.pointer;
  saved = λ v lt few. word-kept m n (saved_word (frame_pointer (outer_stack target c)) v) (c.outer (portable_register target (v + 3)))
      (λ j le l. same j (omega (arith, le, lt)) (omega (arith, l, lt, room))) (k.saved v lt few);
}

-- ---- whose it is
pub bottom-same : (c : Code) (at to : ℕ) (f : Frame) (gs : List Frame) → function_at c to ≡ function_at c at → is_entry c (function_at c (bottom_at at f gs)) ≡ true
    → is_entry c (function_at c (bottom_at to f gs)) ≡ true
bottom-same c at to f [] same e = ap (is_entry c) same ∙ e
bottom-same c at to f (g ∷ gs) same e = e

-- after a `prolog` it is in the words of the frame
pub after-entry : (b : Bool) (target : Target) (c : Code) (at : ℕ) (f : Frame) (gs : List Frame) (q : Seen) → b ≡ true → OuterIs b target c at f gs q → IsAfterEntry target c at f gs q.bytes
after-entry b target c at f gs q e k = subst (λ x. OuterIs x target c at f gs q) e k

pub outer-inside : (b : Bool) (target : Target) (c : Code) (at : ℕ) (f : Frame) (gs : List Frame) (q : Seen) → b ≡ true → IsAfterEntry target c at f gs q.bytes → OuterIs b target c at f gs q
outer-inside b target c at f gs q e k = subst (λ x. OuterIs x target c at f gs q) (sym e) k

-- and so it is where there are callers
pub outer-called : (b : Bool) (target : Target) (c : Code) (at : ℕ) (f g : Frame) (gs : List Frame) (q : Seen) → IsAfterEntry target c at f (g ∷ gs) q.bytes → OuterIs b target c at f (g ∷ gs) q
outer-called true target c at f g gs q k = k
outer-called false target c at f g gs q k = k

pub called-outer : (b : Bool) (target : Target) (c : Code) (at : ℕ) (f g : Frame) (gs : List Frame) (q : Seen) → OuterIs b target c at f (g ∷ gs) q → IsAfterEntry target c at f (g ∷ gs) q.bytes
called-outer true target c at f g gs q k = k
called-outer false target c at f g gs q k = k

-- ---- registers that are the same
pub holds-on : (target : Target) (c : Code) (w v : ℕ → ℕ) → v (frame_register target) ≡ w (frame_register target)
    → ((r : ℕ) → r < 6 → v (portable_register target r) ≡ w (portable_register target r)) → HoldsOuter target c w → HoldsOuter target c v
holds-on target c w v pointer portable h = record { pointer = pointer ∙ h.pointer; saved = λ x lt few. portable (x + 3) (omega (arith, lt)) ∙ h.saved x lt few }

-- a state that looks the same, from which control goes on in the function, or on the way to that with which the run begins
pub outer-on : (b : Bool) (target : Target) (c : Code) (at to : ℕ) (f : Frame) (gs : List Frame) (q u : Seen)
    → (b ≡ true → function_at c to ≡ function_at c at) → (b ≡ false → gs ≡ [] → entry_at c.nodes to ≡ entry_at c.nodes at)
    → u.registers (frame_register target) ≡ q.registers (frame_register target)
    → ((r : ℕ) → r < 6 → u.registers (portable_register target r) ≡ q.registers (portable_register target r))
    → u.bytes ≡ q.bytes → OuterIs b target c at f gs q → OuterIs b target c to f gs u
outer-on true target c at to f gs q u same enters pointer portable bytes k = record {
  entry = bottom-same c at to f gs (same refl) k.entry;
  keeps = subst (KeepsOuter target c) (sym bytes) k.keeps;
}
outer-on false target c at to f (g ∷ gs) q u same enters pointer portable bytes k = record { entry = k.entry; keeps = subst (KeepsOuter target c) (sym bytes) k.keeps }
outer-on false target c at to f [] q u same enters pointer portable bytes k = record { enters = ap c.outward (enters refl refl) ∙ k.enters; holds = holds-on target c q.registers u.registers pointer portable k.holds }

-- ---- at an end
pub ended-on : (target : Target) (c : Code) (e : Ending) (q u : Seen) → u.pc ≡ q.pc → u.registers ≡ q.registers → HasEnded target c e q → HasEnded target c e u
ended-on target c (Exited status) q u pc registers h = (h.0, ap host_by_address pc ∙ h.1)
ended-on target c (Left result) q u pc registers h = record {
  here = pc ∙ h.here;
  stack = ap (λ w. w (stack_register target)) registers ∙ h.stack;
  outer = subst (HoldsOuter target c) (sym registers) h.outer;
  result = subst (λ w. HoldsResult target w result) (sym registers) h.result;
}
