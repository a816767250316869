-- A processor whose bytes below the stack pointer change in any way after each step, as a signal's handler on its stack changes them; and when the code of a
-- node leads there where it leads without that.
use Rattle.std.specs.Prelude.{◌≡◌, ℕ, suc, ◌+◌, ◌<◌, ◌≤◌, ◌⊎◌, Bool, true, false, List, Option, None, length, slice_get}
use Rattle.lg_base.specs.Runs.{Status, Running, Ended, Bad, iter}
use Rattle.lg_base.specs.HostNames.{host_by_address}
use Rattle.lg_carry.specs.Carries.{sinks_at, Leads}
use Rattle.lg_carry.specs.FinalNodes.{Code}
use Rattle.lg_carry.specs.Places.{ArePassedFew}
use Rattle.lg_carry.specs.Processors.{IsSeen, Processor, is_below, stack_of, DoesNotFall, DoesNotRise}
use Rattle.lg_carry.specs.Stands.{Stands}
use Rattle.lg_meaning.specs.States.{Frame, State}
use Rattle.lg_meaning.specs.Steps.{Outcome}
use Rattle.lg_carry.specs.Below.{LooksSame, Disturbs}

-- ---- one step
-- two states are the same but for bytes at some addresses
pub record AreSame {Q : Type 0} (P : Processor Q) (hidden : ℕ → Bool) (q r : Q) : Type 0 where
  pub status : P.machine.status r ≡ P.machine.status q
  pub out : P.machine.out r ≡ P.machine.out q
  pub look : LooksSame hidden (P.seen q) (P.seen r)

-- the addresses that do not count in a state
abbrev pub hidden_in : {Q : Type 0} → Processor Q → Q → ℕ → Bool
hidden_in P q a = is_below P.target (stack_of P.target (P.seen q)) a

-- the step from a state goes in one way whatever is at addresses that do not count: so it loads none of them, and what it stores there does not count
abbrev pub Overlooks : {Q : Type 0} → Processor Q → Q → Type 0
Overlooks {Q} P q = (r : Q) → IsSeen (P.seen r) → AreSame P (hidden_in P q) q r
    → AreSame P (hidden_in P q) (P.machine.step q) (P.machine.step r) × IsSeen (P.seen (P.machine.step r))

-- ---- the processor
-- what changes the bytes that do not count, after each step by its number
abbrev pub IsDisturber : {Q : Type 0} → Processor Q → (ℕ → Q → Q) → Type 0
IsDisturber {Q} P d = (n : ℕ) (q : Q) → Disturbs P q (d n q)

abbrev pub next_of : {Q : Type 0} → Processor Q → (ℕ → Q → Q) → Status → Q × ℕ → Q × ℕ
next_of P d Running x = (d x.1 (P.machine.step x.0), suc x.1)
next_of P d (Ended status) x = x
next_of P d Bad x = x

-- the same processor with such changes
abbrev pub disturbed : {Q : Type 0} → Processor Q → (ℕ → Q → Q) → Processor (Q × ℕ)
disturbed P d = record {
  target = P.target;
  machine = record { step = λ x. next_of P d (P.machine.status x.0) x; status = λ x. P.machine.status x.0; out = λ x. P.machine.out x.0 };
  seen = λ x. P.seen x.0;
  touches = P.touches;
}

-- ---- a node
-- where each step of the way runs, overlooks what does not count, and does not let the stack pointer fall, the way leads there with such changes too
pub record IsSteady {Q : Type 0} (P : Processor Q) (steps : ℕ) (q : Q) : Type 0 where
  pub runs : (j : ℕ) → j < steps → P.machine.status (iter P.machine.step j q) ≡ Running
  pub overlooks : (j : ℕ) → j < steps → Overlooks P (iter P.machine.step j q)
  pub falls_not : (j : ℕ) → j < steps → DoesNotFall P (iter P.machine.step j q)

abbrev pub SteadyWaysLead : {Q : Type 0} → Processor Q → Type 0
SteadyWaysLead {Q} P =
    (d : ℕ → Q → Q) (c : Code) (live : Frame → ℕ → Bool) (after : State → ℕ → Bool) (i : ℕ) (next : Outcome) (out : List ℕ)
    (q : Q) (n : ℕ) → IsDisturber P d → ArePassedFew c.nodes.nodes → IsSeen (P.seen q) → (way : Leads P c live after i next out q)
    → IsSteady P way.steps q → Leads (disturbed P d) c live after i next out (q, n)

-- ---- a node whose code lets the stack pointer fall
-- the step from a state goes in one way whatever is at some addresses, and leaves what is there
abbrev pub LeavesAlone : {Q : Type 0} → Processor Q → (ℕ → Bool) → Q → Type 0
LeavesAlone {Q} P hidden q = (r : Q) → IsSeen (P.seen r) → AreSame P hidden q r
    → AreSame P hidden (P.machine.step q) (P.machine.step r) × IsSeen (P.seen (P.machine.step r))
    × ((a : ℕ) → hidden a ≡ true → (P.seen (P.machine.step r)).bytes a ≡ (P.seen r).bytes a)

-- the step leads from what looks the same to what looks the same
abbrev pub IsAlike : {Q : Type 0} → Processor Q → Q → Type 0
IsAlike {Q} P q = (r : Q) → AreSame P (λ a. false) q r → AreSame P (λ a. false) (P.machine.step q) (P.machine.step r)

-- each step of the way runs, and leads from what looks the same to what looks the same; each but the last one, which may be a host function's, leaves
-- alone what does not count, and does not let the stack pointer rise
pub record IsSinking {Q : Type 0} (P : Processor Q) (steps : ℕ) (q : Q) : Type 0 where
  pub runs : (j : ℕ) → j < steps → P.machine.status (iter P.machine.step j q) ≡ Running
  pub alike : (j : ℕ) → j < steps → IsAlike P (iter P.machine.step j q)
  pub leaves : (j : ℕ) → j + 1 < steps → (hidden : ℕ → Bool) → ((a : ℕ) → hidden a ≡ true → hidden_in P (iter P.machine.step j q) a ≡ true)
      → LeavesAlone P hidden (iter P.machine.step j q)
  pub falls : (j : ℕ) → j + 1 < steps → DoesNotRise P (iter P.machine.step j q)

-- a state with other bytes
pub record Patches {Q : Type 0} (P : Processor Q) : Type 0 where
  pub patch : (ℕ → Option ℕ) → Q → Q
  pub is : (m : ℕ → Option ℕ) (q : Q) → AreSame P (λ a. true) q (patch m q)
  pub bytes : (m : ℕ → Option ℕ) (q : Q) → (P.seen (patch m q)).bytes ≡ m

-- the way of a node has steps, and sinks
pub record SinksTo {Q : Type 0} (P : Processor Q) (c : Code) (live : Frame → ℕ → Bool) (after : State → ℕ → Bool) (i : ℕ) (next : Outcome) (out : List ℕ)
    (q : Q) : Type 0 where
  pub way : Leads P c live after i next out q
  pub some : 0 < way.steps
  pub sinks : IsSinking P way.steps q

-- no node begins within the bytes of node i, but at the first, nor at the entry of a host function
abbrev pub LiesApart : Code → ℕ → Type 0
LiesApart c i =
    (k : ℕ) → k < length c.nodes.nodes → ((c.place k ≤ c.place i) ⊎ (c.place (i + 1) ≤ c.place k)) × (host_by_address (c.place k) ≡ None)

-- where the ways of a `prolog` or call from all states that correspond to one sink, they lead there with such changes too
abbrev pub SinkingWaysLead : {Q : Type 0} → Processor Q → Type 0
SinkingWaysLead {Q} P =
    (d : ℕ → Q → Q) (c : Code) (live : Frame → ℕ → Bool) (after : State → ℕ → Bool) (i : ℕ) (s : State) (S : ℕ → Bool) (next : Outcome) (out : List ℕ)
    (n : ℕ) (q : Q) → Patches P → IsDisturber P d → ArePassedFew c.nodes.nodes → sinks_at (slice_get c.nodes.nodes i) ≡ true → LiesApart c i
    → Stands P c live s out q S → ((p : Q) → Stands P c live s out p S → SinksTo P c live after i next out p)
    → Leads (disturbed P d) c live after i next out (q, n)
