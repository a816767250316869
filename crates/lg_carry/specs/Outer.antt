-- What the code keeps for who calls the entry: FP and as many of V0 to V2 as the frames of such functions save.
use Rattle.std.specs.Prelude.{◌≡◌, ℕ, ◌+◌, ◌<◌, Bool, true, false, List, [], ◌∷◌, Option, Some}
use Rattle.lg_base.specs.Conventions.{portable_register, frame_register, stack_register, link_register}
use Rattle.lg_base.specs.Layout.{stop_address, frame_pointer, saved_word}
use Rattle.lg_base.specs.declared.target.Target.{Target}
use Rattle.lg_meaning.specs.States.{Frame}
use Rattle.lg_meaning.specs.Steps.{Ending, Exited, Left}
use Rattle.lg_carry.specs.Entries.{entry_at}
use Rattle.lg_carry.specs.FinalNodes.{Code, function_at, is_entry}
use Rattle.lg_carry.specs.Processors.{Seen}
use Rattle.lg_carry.specs.Registers.{HasWord, HoldsResult}
use Rattle.lg_carry.specs.Frames.{leaving}
use Rattle.lg_base.specs.HostNames.{host_by_address}
use Rattle.lg_base.specs.declared.host_name.HostName.{HostName}

-- the stack pointer of the caller at the call
abbrev pub outer_stack : Target → Code → ℕ
outer_stack target c = leaving (link_register target) (c.outer (stack_register target))

-- they are in their registers
pub record HoldsOuter (target : Target) (c : Code) (registers : ℕ → ℕ) : Type 0 where
  pub pointer : registers (frame_register target) ≡ c.outer (frame_register target)
  pub saved : (v : ℕ) → v < 3 → v < c.first → registers (portable_register target (v + 3)) ≡ c.outer (portable_register target (v + 3))

-- or in the words of the entry's frame
pub record KeepsOuter (target : Target) (c : Code) (bytes : ℕ → Option ℕ) : Type 0 where
  pub pointer : HasWord bytes (frame_pointer (outer_stack target c)) (c.outer (frame_register target))
  pub saved : (v : ℕ) → v < 3 → v < c.first → HasWord bytes (saved_word (frame_pointer (outer_stack target c)) v) (c.outer (portable_register target (v + 3)))

-- a node of the function whose frame is the entry's: that at which a state with these frames stands, or that of the return to this frame
abbrev pub bottom_at : ℕ → Frame → List Frame → ℕ
bottom_at at f [] = at
bottom_at at f (g ∷ gs) = bottom_at f.back g gs

-- before the first `prolog`, that of the function with which the run begins
pub record IsBeforeEntry (target : Target) (c : Code) (at : ℕ) (registers : ℕ → ℕ) : Type 0 where
  pub enters : c.outward (entry_at c.nodes at) ≡ true
  pub holds : HoldsOuter target c registers

-- and after it
pub record IsAfterEntry (target : Target) (c : Code) (at : ℕ) (f : Frame) (gs : List Frame) (bytes : ℕ → Option ℕ) : Type 0 where
  pub entry : is_entry c (function_at c (bottom_at at f gs)) ≡ true
  pub keeps : KeepsOuter target c bytes

abbrev pub OuterIs : Bool → Target → Code → ℕ → Frame → List Frame → Seen → Type 0
OuterIs true target c at f gs q = IsAfterEntry target c at f gs q.bytes
OuterIs false target c at f (g ∷ gs) q = IsAfterEntry target c at f (g ∷ gs) q.bytes
OuterIs false target c at f [] q = IsBeforeEntry target c at q.registers

-- ---- after a return from the entry's frame
-- control is at the return address, the stack pointer is that of the call, FP and V0 to V2 hold what they held then, and the result is in its register
pub record HasLeft (target : Target) (c : Code) (answer : Option ℕ) (q : Seen) : Type 0 where
  pub here : q.pc ≡ stop_address
  pub stack : q.registers (stack_register target) ≡ outer_stack target c
  pub outer : HoldsOuter target c q.registers
  pub result : HoldsResult target q.registers answer

-- after an end by a host function control is still at its entry, so it is at no return address
abbrev pub IsAtHost : Seen → Type 0
IsAtHost q = (name : HostName) × (host_by_address q.pc ≡ Some name)

-- how the processor is left where the run has ended so
abbrev pub HasEnded : Target → Code → Ending → Seen → Type 0
HasEnded target c (Exited status) q = IsAtHost q
HasEnded target c (Left result) q = HasLeft target c result q
