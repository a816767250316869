-- Bytes below the stack pointer, which do not count.
use Rattle.std.specs.Prelude.{◌≡◌, ℕ, Bool, false, List}
use Rattle.lg_base.specs.declared.target.Target.{Target}
use Rattle.lg_carry.specs.FinalNodes.{Code}
use Rattle.lg_carry.specs.Places.{ArePassedFew}
use Rattle.lg_carry.specs.Processors.{Seen, IsSeen, Processor, is_below, stack_of}
use Rattle.lg_carry.specs.Stands.{Stands, StatesAgree}
use Rattle.lg_meaning.specs.States.{Frame, State}

-- the second look is the first one but for bytes at some addresses
pub record LooksSame (hidden : ℕ → Bool) (q r : Seen) : Type 0 where
  pub pc : r.pc ≡ q.pc
  pub registers : r.registers ≡ q.registers
  pub bytes : (a : ℕ) → hidden a ≡ false → r.bytes a ≡ q.bytes a
  pub mark : r.mark ≡ q.mark
  pub flags : r.flags ≡ q.flags

-- some bytes below the stack pointer changed, and are bytes
pub record Disturbs {Q : Type 0} (P : Processor Q) (q r : Q) : Type 0 where
  pub status : P.machine.status r ≡ P.machine.status q
  pub out : P.machine.out r ≡ P.machine.out q
  pub seen : IsSeen (P.seen q) → IsSeen (P.seen r)
  pub look : LooksSame (is_below P.target (stack_of P.target (P.seen q))) (P.seen q) (P.seen r)

-- a state that corresponds to a portable one does so whatever is below its stack pointer
abbrev pub StatesAreKept : Type 0
StatesAreKept =
    (target : Target) (c : Code) (live : Frame → ℕ → Bool) (s : State) (q r : Seen) (S : ℕ → Bool) → ArePassedFew c.nodes.nodes
    → StatesAgree target c live s q S → IsSeen r → LooksSame (is_below target (stack_of target q)) q r → StatesAgree target c live s r S

abbrev pub StandsAreKept : {Q : Type 0} → Processor Q → Type 0
StandsAreKept {Q} P =
    (c : Code) (live : Frame → ℕ → Bool) (s : State) (out : List ℕ) (q r : Q) (S : ℕ → Bool) → ArePassedFew c.nodes.nodes
    → Stands P c live s out q S → Disturbs P q r → Stands P c live s out r S
