-- Branches and calls: what a target's code of them does, wherever it is, and that nodes with this code are carried.
use Rattle.std.specs.Prelude.{◌≡◌, ◌≢◌, ℕ, ◌+◌, ◌%◌, ◌^◌, ◌<◌, ◌≤◌, Bool, true, false, List, [], ◌∷◌, ◌++◌, slice_index, Option, Some, if◌then◌else◌, ⊤}
use Rattle.lg_base.specs.Conventions.{result_register, stack_register, link_register, is_kept}
use Rattle.lg_base.specs.HostNames.{host_address, host_by_address}
use Rattle.lg_base.specs.Layout.{code_base, most_code, stack_end}
use Rattle.lg_base.specs.Parts.{stack_base}
use Rattle.lg_base.specs.Runs.{Running, Ended}
use Rattle.lg_base.specs.Spaces.{readable}
use Rattle.lg_base.specs.declared.host_name.HostName.{HostName}
use Rattle.lg_base.specs.declared.target.Target.{Target}
use Rattle.lg_host.specs.Blocks.{over}
use Rattle.lg_host.specs.Host.{Host, Gives, Exits, memory, host_of}
use Rattle.lg_cpu.specs.HostSteps.{argument_words}
use Rattle.lg_op.specs.declared.op.Condition.{Condition}
use Rattle.lg_op.specs.declared.op.ControlOp.TheVariants as control
use Rattle.lg_op.specs.declared.op.LastOperand.{LastOperand}
use Rattle.lg_op.specs.declared.op.LastOperand.TheVariants as last_operand
use Rattle.lg_op.specs.declared.op.Op.TheVariants as op
use Rattle.lg_op.specs.declared.operand.Label.{Label}
use Rattle.lg_op.specs.declared.operand.Operand.{Operand}
use Rattle.lg_op.specs.declared.operand.Operand.TheVariants as operand
use Rattle.lg_op.specs.declared.operand.Reg.{Reg}
use Rattle.lg_op.specs.declared.node.Node.{Node}
use Rattle.lg_op.specs.Operators.{holds}
use Rattle.lg_temp.specs.Abis.{register_of}
use Rattle.lg_carry.specs.Carries.{KeepsMemory}
use Rattle.lg_carry.specs.FinalNodes.{Code}
use Rattle.lg_carry.specs.Frames.{arriving, IsLinked}
use Rattle.lg_carry.specs.NodeCode.{CarriesNode}
use Rattle.lg_carry.specs.Passages.{IsNodeCode}
use Rattle.lg_carry.specs.Processors.{IsSeen, Processor}
use Rattle.lg_carry.specs.Rows.{Rows}
use Rattle.lg_carry.specs.Nodes.Immediates.{immediate}
use Rattle.lg_carry.specs.Outside.{calls_move}
use Rattle.lg_carry.specs.TextNodes.{IsInText, IsFrameOf}
use Rattle.lg_carry.specs.TextNodes as text_nodes
use Rattle.lg_carry.specs.Nodes.Stretches.{HasFrame, StandsAt, behind, Way, Arrival}

-- ---- places
-- an instruction may be at each multiple of a unit, and the nodes to which the code may jump are at such
pub record HasPlaces {Q I : Type 0} (R : Rows Q I) (c : Code) : Type 0 where
  pub unit : ℕ
  pub units : (pc : ℕ) → pc % unit ≡ 0 → R.is_place pc ≡ true
  pub nodes : text_nodes.HasPlaces unit c

-- an address to which code may lead
pub record IsThere (is_place : ℕ → Bool) (to : ℕ) : Type 0 where
  pub low : code_base ≤ to
  pub high : to ≤ code_base + most_code
  pub place : is_place to ≡ true

-- ---- branches
-- the word of the second operand
abbrev pub second_word : Target → (ℕ → ℕ) → Operand → Option ℕ
second_word target w (operand.Reg b) = Some (w (register_of target b))
second_word target w x = immediate x

-- the code of a branch that is at an address leads to another one where the condition holds, and else continues after itself
abbrev pub BranchesLead : {Q I : Type 0} → Rows Q I → (ℕ → Bool) → (I → Type 0) → (ℕ → Condition → Reg → Operand → ℕ → ℕ → List I) → Type 0
BranchesLead {Q} {I} R scratch fits code =
    (frame : ℕ) (o : Condition) (a : Reg) (b : Operand) (x y from to : ℕ) (q : Q) → HasFrame R.processor.target frame (R.processor.seen q)
    → StandsAt R false fits from (code frame o a b from to) → (holds o x y ≡ true → IsThere R.is_place to)
    → IsThere R.is_place (behind R from (code frame o a b from to))
    → R.processor.machine.status q ≡ Running → (R.processor.seen q).pc ≡ from → (R.processor.seen q).registers (register_of R.processor.target a) ≡ x
    → second_word R.processor.target (R.processor.seen q).registers b ≡ Some y → y < 2 ^ 64
    → Way R.processor scratch from (behind R from (code frame o a b from to)) (R.processor.seen q).registers
    (if holds o x y then to else behind R from (code frame o a b from to)) q

abbrev pub last_of : Operand → LastOperand
last_of (operand.Reg b) = last_operand.Register
last_of x = last_operand.Immediate

abbrev pub branch_node : Condition → Label → Reg → Operand → ℕ → Node
branch_node c l a x line = record { op = op.Branch c (last_of x); operands = operand.Label l ∷ operand.Reg a ∷ x ∷ []; line = line }

-- a register, or a word that denotes itself
abbrev pub IsSecond : Operand → Type 0
IsSecond (operand.Reg b) = ⊤
IsSecond x = (v : ℕ) × (immediate x ≡ Some v) × (v < 2 ^ 64)

abbrev pub BranchesCarry : {Q I : Type 0} → Rows Q I → (ℕ → Bool) → (I → Type 0) → (ℕ → Condition → Reg → Operand → ℕ → ℕ → List I) → Type 0
BranchesCarry {Q} {I} R scratch fits code =
    (c : Code) (i : ℕ) (o : Condition) (l : Label) (a : Reg) (x : Operand) (line frame : ℕ) (S : ℕ → Bool) → IsSecond x → HasPlaces R c
    → IsInText c i (branch_node o l a x line) → IsFrameOf c i frame
    → IsNodeCode R fits c i (code frame o a x (c.place i) (slice_index c.addresses l.0)) → CarriesNode R.processor c i (branch_node o l a x line) S

-- ---- calls
-- the code of a call of an address, a place of the code or the entry of a host function, arrives there
abbrev pub CallsLead : {Q I : Type 0} → Rows Q I → (I → Type 0) → (ℕ → ℕ → List I) → Type 0
CallsLead {Q} {I} R fits code =
    (frame from to : ℕ) (q : Q) → HasFrame R.processor.target frame (R.processor.seen q) → StandsAt R (calls_move R.processor.target) fits from (code from to)
    → IsThere R.is_place to
    → R.processor.machine.status q ≡ Running → (R.processor.seen q).pc ≡ from
    → Arrival R.processor from (behind R from (code from to))
    ((R.processor.seen q).registers (stack_register R.processor.target)) (behind R from (code from to)) to q

-- at the entry of a host function besides the registers are as the convention asks: ready says of those
pub record HostArrival {Q : Type 0} (P : Processor Q) (ready : HostName → (ℕ → ℕ) → Bool) (low high stack back : ℕ) (name : HostName) (q : Q) : Type 0 where
  pub arrival : Arrival P low high stack back (host_address name) q
  pub ready_is : ready name (P.seen arrival.end).registers ≡ true

abbrev pub HostCallsLead : {Q I : Type 0} → Rows Q I → (HostName → (ℕ → ℕ) → Bool) → (I → Type 0) → (HostName → List I) → Type 0
HostCallsLead {Q} {I} R ready fits code =
    (frame from : ℕ) (name : HostName) (q : Q) → HasFrame R.processor.target frame (R.processor.seen q) → StandsAt R (calls_move R.processor.target) fits from (code name)
    → R.processor.machine.status q ≡ Running → (R.processor.seen q).pc ≡ from
    → HostArrival R.processor ready from (behind R from (code name))
    ((R.processor.seen q).registers (stack_register R.processor.target)) (behind R from (code name)) name q

abbrev pub call_node : Label → ℕ → Node
call_node l line = record { op = op.Control control.Call last_operand.Immediate; operands = operand.Label l ∷ []; line = line }

abbrev pub finish_node : Label → ℕ → Node
finish_node l line = record { op = op.Control control.Finish last_operand.Immediate; operands = operand.Label l ∷ []; line = line }

abbrev pub host_call_node : HostName → ℕ → Node
host_call_node name line = record { op = op.Control control.Call last_operand.Immediate; operands = operand.Host name ∷ []; line = line }

abbrev pub host_finish_node : HostName → ℕ → Node
host_finish_node name line = record { op = op.Control control.Finish last_operand.Immediate; operands = operand.Host name ∷ []; line = line }

-- a node that calls a function is carried
abbrev pub CallsCarry : {Q I : Type 0} → Rows Q I → (I → Type 0) → (ℕ → ℕ → List I) → Type 0
CallsCarry {Q} {I} R fits code =
    (c : Code) (i : ℕ) (l : Label) (line : ℕ) (S : ℕ → Bool) → HasPlaces R c → IsInText c i (call_node l line) → (frame : ℕ) → IsFrameOf c i frame
    → IsNodeCode R fits c i (code (c.place i) (slice_index c.addresses l.0))
    → CarriesNode R.processor c i (call_node l line) S

abbrev pub FinishesCarry : {Q I : Type 0} → Rows Q I → (I → Type 0) → (ℕ → ℕ → List I) → Type 0
FinishesCarry {Q} {I} R fits code =
    (c : Code) (i : ℕ) (l : Label) (line : ℕ) (S : ℕ → Bool) → HasPlaces R c → IsInText c i (finish_node l line) → (frame : ℕ) → IsFrameOf c i frame
    → IsNodeCode R fits c i (code (c.place i) (slice_index c.addresses l.0))
    → CarriesNode R.processor c i (finish_node l line) S

-- so is one that calls a host function
abbrev pub HostCallsCarry : {Q I : Type 0} → Rows Q I → (I → Type 0) → (HostName → List I) → Type 0
HostCallsCarry {Q} {I} R fits code =
    (c : Code) (i : ℕ) (name : HostName) (line : ℕ) (S : ℕ → Bool) → HasPlaces R c → IsInText c i (host_call_node name line) → (frame : ℕ)
    → IsFrameOf c i frame → IsNodeCode R fits c i (code name)
    → CarriesNode R.processor c i (host_call_node name line) S

abbrev pub HostFinishesCarry : {Q I : Type 0} → Rows Q I → (I → Type 0) → (HostName → List I) → Type 0
HostFinishesCarry {Q} {I} R fits code =
    (c : Code) (i : ℕ) (name : HostName) (line : ℕ) (S : ℕ → Bool) → HasPlaces R c → IsInText c i (host_finish_node name line) → (frame : ℕ)
    → IsFrameOf c i frame → IsNodeCode R fits c i (code name)
    → CarriesNode R.processor c i (host_finish_node name line) S

-- ---- the step of a host function
-- at the entry, with the stack pointer and the return address of a call
pub record HasArrived {Q : Type 0} (P : Processor Q) (ready : HostName → (ℕ → ℕ) → Bool) (stack back : ℕ) (name : HostName) (q : Q) : Type 0 where
  pub ready_is : ready name (P.seen q).registers ≡ true
  pub runs : P.machine.status q ≡ Running
  pub entry : host_by_address (P.seen q).pc ≡ Some name
  pub small : (P.seen q).pc < 2 ^ 64
  pub seen : IsSeen (P.seen q)
  pub pointer : (P.seen q).registers (stack_register P.target) ≡ arriving (link_register P.target) stack
  pub link : IsLinked (link_register P.target) (P.seen q).bytes (P.seen q).registers stack back
  pub low : stack_base + 8 ≤ stack
  pub high : stack ≤ stack_end
  pub whole : stack % 16 ≡ 0

-- what the function makes of the arguments that a call finds and of the memory
abbrev pub host_answer : {Q : Type 0} → Processor Q → HostName → ℕ → Q → Host
host_answer P name stack q =
    host_of name (argument_words P.target (P.seen q).registers (P.seen q).bytes stack) true
    (memory (P.seen q).bytes (readable (P.seen q).bytes) (P.seen q).mark)

-- after an answer control is at the return address, the stack pointer is that of the call, registers that a call keeps stay, and memory changes by the answer
pub record Answers {Q : Type 0} (P : Processor Q) (stack back v : ℕ) (d : ℕ → Option ℕ) (to : ℕ) (bytes : List ℕ) (q u : Q) : Type 0 where
  pub runs : code_base ≤ back → P.machine.status u ≡ Running
  pub out : P.machine.out u ≡ P.machine.out q ++ bytes
  pub here : (P.seen u).pc ≡ back
  pub pointer : (P.seen u).registers (stack_register P.target) ≡ stack
  pub result : (P.seen u).registers (result_register P.target) ≡ v
  pub kept : (x : ℕ) → is_kept P.target x ≡ true → x ≢ stack_register P.target → (P.seen u).registers x ≡ (P.seen q).registers x
  pub memory_is : (a : ℕ) → (P.seen u).bytes a ≡ over d (P.seen q).bytes a
  pub mark : (P.seen u).mark ≡ to
  pub words : (r : ℕ) → (P.seen u).registers r < 2 ^ 64
  pub small : (a b : ℕ) → (P.seen u).bytes a ≡ Some b → b < 256
  pub high : to ≤ 0x30400000

pub record EntersHosts {Q : Type 0} (P : Processor Q) (ready : HostName → (ℕ → ℕ) → Bool) : Type 0 where
  pub gives : (q : Q) (name : HostName) (stack back v : ℕ) (d : ℕ → Option ℕ) (to : ℕ) (bytes : List ℕ) → HasArrived P ready stack back name q
      → host_answer P name stack q ≡ Gives v d to bytes → Answers P stack back v d to bytes q (P.machine.step q)
  pub exits : (q : Q) (name : HostName) (stack back status : ℕ) → HasArrived P ready stack back name q → host_answer P name stack q ≡ Exits status
      → (P.machine.status (P.machine.step q) ≡ Ended status) × (P.machine.out (P.machine.step q) ≡ P.machine.out q)
      × KeepsMemory (P.seen q) (P.seen (P.machine.step q)) × ((P.seen (P.machine.step q)).pc ≡ (P.seen q).pc)
