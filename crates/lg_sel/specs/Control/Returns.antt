-- Returns: what a target's code of them does, wherever it is, and that nodes with this code are carried.
use Rattle.std.specs.Prelude.{◌≡◌, ℕ, ◌+◌, ◌^◌, ◌<◌, ◌≤◌, ◌⊎◌, List, [], ◌∷◌, slice_index, Bool, Option, Some, None, true}
use Rattle.lg_carry.specs.Carries.{Rises}
use Rattle.lg_base.specs.Conventions.{portable_register, frame_register, result_register, stack_register}
use Rattle.lg_base.specs.Layout.{code_base, stop_address, frame_pointer, return_word, saved_word}
use Rattle.lg_base.specs.Runs.{Running, Ended}
use Rattle.lg_base.specs.declared.target.Target.{Target}
use Rattle.lg_op.specs.declared.op.Op.TheVariants as op
use Rattle.lg_op.specs.declared.op.ControlOp.TheVariants as control
use Rattle.lg_op.specs.declared.op.LastOperand.TheVariants as last_operand
use Rattle.lg_op.specs.declared.op.PlainOp.TheVariants as plain
use Rattle.lg_op.specs.declared.operand.Label.{Label}
use Rattle.lg_op.specs.declared.operand.Operand.{Operand}
use Rattle.lg_op.specs.declared.operand.Operand.TheVariants as operand
use Rattle.lg_op.specs.declared.operand.Reg.{Reg}
use Rattle.lg_op.specs.declared.node.Node.{Node}
use Rattle.lg_temp.specs.Abis.{register_of}
use Rattle.lg_carry.specs.FinalNodes.{Code, saved_at}
use Rattle.lg_carry.specs.NodeCode.{CarriesNode}
use Rattle.lg_carry.specs.Passages.{IsNodeCode}
use Rattle.lg_carry.specs.Processors.{Processor}
use Rattle.lg_carry.specs.Registers.{HasWord}
use Rattle.lg_carry.specs.Rows.{Rows}
use Rattle.lg_carry.specs.TextNodes.{IsInText, IsFrameOf}
use Rattle.lg_carry.specs.Nodes.Immediates.{immediate}
use Rattle.lg_carry.specs.Nodes.Leaps.{HasPlaces, IsThere}
use Rattle.lg_carry.specs.Nodes.Stretches.{HasFrame, StandsAt, behind, PassesIn}

-- ---- what is returned
-- nothing, the word of a register, a number, or the address of a label
pub data Returned : Type 0 where
  NoWord : Returned
  OfRegister : (a : Reg) → Returned
  OfNumber : (v : ℕ) → Returned
  OfLabel : (address : ℕ) → Returned

abbrev pub returned_word : Target → (ℕ → ℕ) → Returned → Option ℕ
returned_word target w NoWord = None
returned_word target w (OfRegister a) = Some (w (register_of target a))
returned_word target w (OfNumber v) = Some v
returned_word target w (OfLabel address) = Some address

-- a number is a word, and labels lie low
abbrev pub IsReturned : Returned → Type 0
IsReturned NoWord = Unit {0}
IsReturned (OfRegister a) = Unit {0}
IsReturned (OfNumber v) = v < 2 ^ 64
IsReturned (OfLabel address) = address < 2 ^ 30

-- ---- what the code does
-- at most 64 steps from one address to another, in none of which the stack pointer falls, leave a frame, whose caller's is this: the run goes on at the
-- return address, or has ended where that is the stop address. This many of V0 to V2 and FP get what the frame saved of them, and the result is in its
-- register; memory stays
pub record Departure {Q : Type 0} (P : Processor Q) (low high stack kept back : ℕ) (v : Option ℕ) (q : Q) : Type 0 where
  pub end : Q
  pub steps : ℕ
  pub passes : PassesIn P true low high steps q end
  pub rises : Rises P steps q
  pub few : steps ≤ 64
  pub some : 0 < steps
  pub runs : code_base ≤ back → P.machine.status end ≡ Running
  pub ends : back ≡ stop_address → P.machine.status end ≡ Ended 0
  pub here : (P.seen end).pc ≡ back
  pub stack_is : (P.seen end).registers (stack_register P.target) ≡ stack
  pub pointer : (x : ℕ) → HasWord (P.seen q).bytes (frame_pointer stack) x → (P.seen end).registers (frame_register P.target) ≡ x
  pub saved : (j x : ℕ) → j < kept → j < 3 → HasWord (P.seen q).bytes (saved_word (frame_pointer stack) j) x
      → (P.seen end).registers (portable_register P.target (j + 3)) ≡ x
  pub result : (x : ℕ) → v ≡ Some x → (P.seen end).registers (result_register P.target) ≡ x
  pub bytes : (P.seen end).bytes ≡ (P.seen q).bytes
  pub mark : (P.seen end).mark ≡ (P.seen q).mark

-- an address to which a function may return
abbrev pub IsBack : {Q I : Type 0} → Rows Q I → ℕ → Type 0
IsBack R back = IsThere R.is_place back ⊎ (back ≡ stop_address)

-- the code of a return that is at an address leaves the frame, which saves this many of V0 to V2
abbrev pub ReturnsLead : {Q I : Type 0} → Rows Q I → (I → Type 0) → ℕ → (ℕ → Returned → List I) → Type 0
ReturnsLead {Q} R fits saved code =
    (frame from back : ℕ) (r : Returned) (q : Q) → IsReturned r → HasFrame R.processor.target frame (R.processor.seen q) → StandsAt R true fits from (code frame r)
    → IsBack R back
    → HasWord (R.processor.seen q).bytes (return_word ((R.processor.seen q).registers (stack_register R.processor.target) + frame)) back
    → R.processor.machine.status q ≡ Running → (R.processor.seen q).pc ≡ from
    → Departure R.processor from (behind R from (code frame r)) ((R.processor.seen q).registers (stack_register R.processor.target) + frame) saved back
    (returned_word R.processor.target (R.processor.seen q).registers r) q

-- ---- the nodes
abbrev pub ret_node : ℕ → Node
ret_node line = record { op = op.Plain plain.Ret; operands = []; line = line }

abbrev pub epilog_node : ℕ → Node
epilog_node line = record { op = op.Plain plain.Epilog; operands = []; line = line }

abbrev pub retr_node : Reg → ℕ → Node
retr_node a line = record { op = op.Control control.Ret last_operand.Register; operands = operand.Reg a ∷ []; line = line }

abbrev pub reti_node : Operand → ℕ → Node
reti_node x line = record { op = op.Control control.Ret last_operand.Immediate; operands = x ∷ []; line = line }

-- a node that returns is carried by such code, where the code saves this many
abbrev pub IsReturnOf : {Q I : Type 0} → Rows Q I → (I → Type 0) → ℕ → (ℕ → Returned → List I) → Code → ℕ → Node → Returned → Type 0
IsReturnOf R fits saved code c i n r =
    (frame : ℕ) (S : ℕ → Bool) → HasPlaces R c → IsInText c i n → IsFrameOf c i frame → saved_at c i ≡ saved → IsNodeCode R fits c i (code frame r)
    → CarriesNode R.processor c i n S

pub record ReturnsCarry {Q I : Type 0} (R : Rows Q I) (fits : I → Type 0) (saved : ℕ) (code : ℕ → Returned → List I) : Type 0 where
  pub rets : (c : Code) (i line : ℕ) → IsReturnOf R fits saved code c i (ret_node line) NoWord
  pub epilogs : (c : Code) (i line : ℕ) → IsReturnOf R fits saved code c i (epilog_node line) NoWord
  pub retrs : (c : Code) (i line : ℕ) (a : Reg) → IsReturnOf R fits saved code c i (retr_node a line) (OfRegister a)
  pub retis : (c : Code) (i line : ℕ) (x : Operand) (v : ℕ) → immediate x ≡ Some v → v < 2 ^ 64 → IsReturnOf R fits saved code c i (reti_node x line) (OfNumber v)
  pub labels : (c : Code) (i line : ℕ) (l : Label) → slice_index c.addresses l.0 < 2 ^ 30
      → IsReturnOf R fits saved code c i (reti_node (operand.Label l) line) (OfLabel (slice_index c.addresses l.0))
