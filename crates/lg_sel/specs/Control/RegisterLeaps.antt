-- `jmpr`, `callr` and `finishr`: what a target's code of them does, wherever it is, and that nodes with this code are carried.
use Rattle.std.specs.Prelude.{◌≡◌, ℕ, Bool, List, [], ◌∷◌, false}
use Rattle.lg_base.specs.Conventions.{stack_register}
use Rattle.lg_base.specs.HostNames.{host_address}
use Rattle.lg_base.specs.Runs.{Running}
use Rattle.lg_base.specs.declared.host_name.HostName.{HostName}
use Rattle.lg_op.specs.declared.op.Op.TheVariants as op
use Rattle.lg_op.specs.declared.op.ControlOp.TheVariants as control
use Rattle.lg_op.specs.declared.op.LastOperand.TheVariants as last_operand
use Rattle.lg_op.specs.declared.operand.Operand.TheVariants as operand
use Rattle.lg_op.specs.declared.operand.Reg.{Reg}
use Rattle.lg_op.specs.declared.node.Node.{Node}
use Rattle.lg_temp.specs.Abis.{register_of}
use Rattle.lg_carry.specs.FinalNodes.{Code}
use Rattle.lg_carry.specs.NodeCode.{CarriesNode}
use Rattle.lg_carry.specs.Outside.{calls_move}
use Rattle.lg_carry.specs.Passages.{IsNodeCode}
use Rattle.lg_carry.specs.Rows.{Rows}
use Rattle.lg_carry.specs.TextNodes.{IsInText, IsFrameOf}
use Rattle.lg_carry.specs.Nodes.Leaps.{HasPlaces, IsThere, HostArrival}
use Rattle.lg_carry.specs.Nodes.Stretches.{HasFrame, StandsAt, behind, Arrival}
use Rattle.lg_sel.specs.Control.Walks.{Walk}

-- ---- what the code does; the word of the register is the address to which it leads
-- a jump walks there
abbrev pub RegisterJumpsWalk : {Q I : Type 0} → Rows Q I → (I → Type 0) → (ℕ → Reg → List I) → Type 0
RegisterJumpsWalk {Q} R fits code =
    (frame from to : ℕ) (a : Reg) (q : Q) → HasFrame R.processor.target frame (R.processor.seen q) → StandsAt R false fits from (code frame a) → IsThere R.is_place to
    → R.processor.machine.status q ≡ Running → (R.processor.seen q).pc ≡ from → (R.processor.seen q).registers (register_of R.processor.target a) ≡ to
    → Walk R.processor from (behind R from (code frame a)) to q

-- a call of a function arrives there
abbrev pub RegisterCallsLead : {Q I : Type 0} → Rows Q I → (I → Type 0) → (ℕ → Reg → List I) → Type 0
RegisterCallsLead {Q} R fits code =
    (frame from to : ℕ) (a : Reg) (q : Q) → HasFrame R.processor.target frame (R.processor.seen q)
    → StandsAt R (calls_move R.processor.target) fits from (code frame a) → IsThere R.is_place to
    → R.processor.machine.status q ≡ Running → (R.processor.seen q).pc ≡ from → (R.processor.seen q).registers (register_of R.processor.target a) ≡ to
    → Arrival R.processor from (behind R from (code frame a)) ((R.processor.seen q).registers (stack_register R.processor.target))
    (behind R from (code frame a)) to q

-- and so does one of a host function, with the registers as that asks
abbrev pub RegisterHostCallsLead : {Q I : Type 0} → Rows Q I → (HostName → (ℕ → ℕ) → Bool) → (I → Type 0) → (ℕ → Reg → List I) → Type 0
RegisterHostCallsLead {Q} R ready fits code =
    (frame from : ℕ) (name : HostName) (a : Reg) (q : Q) → HasFrame R.processor.target frame (R.processor.seen q)
    → StandsAt R (calls_move R.processor.target) fits from (code frame a)
    → R.processor.machine.status q ≡ Running → (R.processor.seen q).pc ≡ from
    → (R.processor.seen q).registers (register_of R.processor.target a) ≡ host_address name
    → HostArrival R.processor ready from (behind R from (code frame a)) ((R.processor.seen q).registers (stack_register R.processor.target))
    (behind R from (code frame a)) name q

-- ---- the nodes
abbrev pub jmpr_node : Reg → ℕ → Node
jmpr_node a line = record { op = op.Control control.Jmp last_operand.Register; operands = operand.Reg a ∷ []; line = line }

abbrev pub callr_node : Reg → ℕ → Node
callr_node a line = record { op = op.Control control.Call last_operand.Register; operands = operand.Reg a ∷ []; line = line }

abbrev pub finishr_node : Reg → ℕ → Node
finishr_node a line = record { op = op.Control control.Finish last_operand.Register; operands = operand.Reg a ∷ []; line = line }

-- a node on a register is carried by such code
abbrev pub RegisterLeapsCarry : {Q I : Type 0} → Rows Q I → (I → Type 0) → (ℕ → Reg → List I) → (Reg → ℕ → Node) → Type 0
RegisterLeapsCarry R fits code node =
    (c : Code) (i : ℕ) (a : Reg) (line frame : ℕ) (S : ℕ → Bool) → HasPlaces R c → IsInText c i (node a line) → IsFrameOf c i frame
    → IsNodeCode R fits c i (code frame a) → CarriesNode R.processor c i (node a line) S
