-- Whatever changes below the stack pointer between two instructions, code that withstands it agrees with the portable meaning.
use Rattle.std.specs.Prelude.{◌≡◌, ℕ, ◌+◌, ◌<◌, ◌≤◌, ◌⊎◌, Bool, true, List, [], length, slice_get}
use Rattle.lg_base.specs.Runs.{IsMachine}
use Rattle.lg_carry.specs.Carries.{sinks_at, Leads, Carries}
use Rattle.lg_carry.specs.FinalNodes.{Code}
use Rattle.lg_carry.specs.Places.{ArePassedFew}
use Rattle.lg_base.specs.Layout.{code_base, most_code}
use Rattle.lg_node.specs.Functions.{is_prolog_at}
use Rattle.lg_carry.specs.Processors.{Seen, Processor, IsOff, TouchesAbove}
use Rattle.lg_carry.specs.Stands.{Stands}
use Rattle.lg_meaning.specs.Means.{run_at}
use Rattle.lg_meaning.specs.Means as mean
use Rattle.lg_meaning.specs.States.{Frame, State}
use Rattle.lg_meaning.specs.Steps.{Undefined}
use Rattle.lg_meaning.specs.Texts.{step}
use Rattle.lg_temp.specs.Agrees.{AgreesAt}
use Rattle.lg_carry.specs.Disturbed.{IsDisturber, disturbed, Overlooks, IsAlike, LeavesAlone, IsSteady, Patches, SinksTo, LiesApart}

-- from a state that corresponds to one at node i, the way of the node is steady, or it is a `prolog` or call and those of all such states sink
abbrev pub HoldsUp : {Q : Type 0} → Processor Q → Code → (Frame → ℕ → Bool) → (State → ℕ → Bool) → ℕ → State → (ℕ → Bool) → List ℕ → Q → Type 0
HoldsUp {Q} P c live after i s S out q =
    ((way : Leads P c live after i (step c.nodes c.shape c.addresses s) out q) × IsSteady P way.steps q)
    ⊎ ((sinks_at (slice_get c.nodes.nodes i) ≡ true)
    × ((p : Q) → Stands P c live s out p S → SinksTo P c live after i (step c.nodes c.shape c.addresses s) out p))

-- a node holds up, for the registers that are live before each node
pub record Withstands {Q : Type 0} (P : Processor Q) (c : Code) (before : ℕ → ℕ → Bool) (i : ℕ) : Type 0 where
  pub order : c.place i ≤ c.place (i + 1)
  pub short : c.place (i + 1) ≤ c.place i + 256
  pub apart : LiesApart c i
  pub holds : (s : State) (out : List ℕ) (q : Q) → s.at ≡ i → Stands P c (λ f. before f.back) s out q (before i)
      → (step c.nodes c.shape c.addresses s ≡ Undefined) ⊎ HoldsUp P c (λ f. before f.back) (λ t. before t.at) i s (before i) out q

-- ---- when nodes do
-- control is in the code part
abbrev pub IsInPart : Seen → Type 0
IsInPart q = (code_base ≤ q.pc) × (q.pc < code_base + most_code)

-- each step of the processor in the code part goes in one way whatever is where it touches nothing, and each leads from what looks the same to what looks the
-- same; and there is a state with any other bytes
pub record IsBlind {Q : Type 0} (P : Processor Q) : Type 0 where
  pub overlooks : (q : Q) → IsInPart (P.seen q) → TouchesAbove P q → Overlooks P q
  pub leaves : (hidden : ℕ → Bool) (q : Q) → IsInPart (P.seen q) → IsOff hidden (P.touches (P.seen q).pc (P.seen q).registers) → LeavesAlone P hidden q
  pub alike : (q : Q) → IsAlike P q
  pub patches : Patches P

-- the bytes of node i lie in the code part, a `prolog` has some, and no other node begins within them
pub record IsPlaced (c : Code) (i : ℕ) : Type 0 where
  pub low : code_base ≤ c.place i
  pub high : c.place (i + 1) ≤ code_base + most_code
  pub begins : is_prolog_at (slice_get c.nodes.nodes i) ≡ true → c.place i < c.place (i + 1)
  pub apart : LiesApart c i

-- so each node that is carried withstands the changes
abbrev pub CarriedNodesWithstand : {Q : Type 0} → Processor Q → Type 0
CarriedNodesWithstand {Q} P =
    (c : Code) (before : ℕ → ℕ → Bool) (i : ℕ) → IsBlind P → IsMachine P.machine → IsPlaced c i → Carries P c before i → Withstands P c before i

-- ---- the code
abbrev pub DisturbedCodeAgrees : {Q : Type 0} → Processor Q → Type 0
DisturbedCodeAgrees {Q} P =
    (d : ℕ → Q → Q) (c : Code) (before : ℕ → ℕ → Bool) (s : State) (q : Q) (k n : ℕ) → Patches P → IsDisturber P d → IsMachine P.machine
    → ArePassedFew c.nodes.nodes → ((i : ℕ) → i < length c.nodes.nodes → Withstands P c before i)
    → Stands P c (λ f. before f.back) s [] q (before s.at)
    → AgreesAt (mean.machine c.nodes c.shape c.addresses) (disturbed P d).machine (length c.nodes.nodes) (run_at s []) (q, k) n
