-- Code that only moves on: jumps and `.align`, also before the first `prolog`, and that nodes with this code are carried.
use Rattle.std.specs.Prelude.{◌≡◌, ℕ, ◌<◌, ◌≤◌, Bool, true, List, [], ◌∷◌, length, slice_index, Some, false}
use Rattle.lg_base.specs.Conventions.{argument_registers, portable_register, frame_register, stack_register, link_register}
use Rattle.lg_base.specs.Runs.{Running}
use Rattle.lg_op.specs.Forms.{is_alignment}
use Rattle.lg_op.specs.declared.op.Op.TheVariants as op
use Rattle.lg_op.specs.declared.op.ControlOp.TheVariants as control
use Rattle.lg_op.specs.declared.op.LastOperand.TheVariants as last_operand
use Rattle.lg_op.specs.declared.op.PlainOp.TheVariants as plain
use Rattle.lg_op.specs.declared.operand.Label.{Label}
use Rattle.lg_op.specs.declared.operand.Operand.TheVariants as operand
use Rattle.lg_op.specs.declared.node.Node.{Node}
use Rattle.lg_carry.specs.FinalNodes.{Code}
use Rattle.lg_carry.specs.NodeCode.{CarriesNode}
use Rattle.lg_carry.specs.Passages.{IsNodeCode}
use Rattle.lg_carry.specs.Processors.{Processor}
use Rattle.lg_carry.specs.Rows.{Rows}
use Rattle.lg_carry.specs.TextNodes.{IsInText}
use Rattle.lg_carry.specs.Nodes.Leaps.{HasPlaces, IsThere}
use Rattle.lg_carry.specs.Nodes.Stretches.{StandsAt, behind, PassesIn}

-- at most 64 steps from one address to another lead to a run that goes on at an address; no register of the conventions changes but that of the carry,
-- and no byte. Only where there is no room between the addresses are there no steps
pub record Walk {Q : Type 0} (P : Processor Q) (low high to : ℕ) (q : Q) : Type 0 where
  pub end : Q
  pub steps : ℕ
  pub passes : PassesIn P false low high steps q end
  pub few : steps ≤ 64
  pub some : low < high → 0 < steps
  pub runs : P.machine.status end ≡ Running
  pub here : (P.seen end).pc ≡ to
  pub portable : (r : ℕ) → r < 6 → (P.seen end).registers (portable_register P.target r) ≡ (P.seen q).registers (portable_register P.target r)
  pub arguments : (j : ℕ) → j < length (argument_registers P.target)
      → (P.seen end).registers (slice_index (argument_registers P.target) j) ≡ (P.seen q).registers (slice_index (argument_registers P.target) j)
  pub pointer : (P.seen end).registers (frame_register P.target) ≡ (P.seen q).registers (frame_register P.target)
  pub stack : (P.seen end).registers (stack_register P.target) ≡ (P.seen q).registers (stack_register P.target)
  pub link : (x : ℕ) → link_register P.target ≡ Some x → (P.seen end).registers x ≡ (P.seen q).registers x
  pub bytes : (P.seen end).bytes ≡ (P.seen q).bytes
  pub mark : (P.seen end).mark ≡ (P.seen q).mark

-- ---- `jmpi`
-- the code of a jump that is at an address walks to another one
abbrev pub JumpsWalk : {Q I : Type 0} → Rows Q I → (I → Type 0) → (ℕ → ℕ → List I) → Type 0
JumpsWalk {Q} R fits code =
    (from to : ℕ) (q : Q) → StandsAt R false fits from (code from to) → IsThere R.is_place to → R.processor.machine.status q ≡ Running
    → (R.processor.seen q).pc ≡ from
    → Walk R.processor from (behind R from (code from to)) to q

abbrev pub jump_node : Label → ℕ → Node
jump_node l line = record { op = op.Control control.Jmp last_operand.Immediate; operands = operand.Label l ∷ []; line = line }

abbrev pub JumpsCarry : {Q I : Type 0} → Rows Q I → (I → Type 0) → (ℕ → ℕ → List I) → Type 0
JumpsCarry R fits code =
    (c : Code) (i : ℕ) (l : Label) (line : ℕ) (S : ℕ → Bool) → HasPlaces R c → IsInText c i (jump_node l line)
    → IsNodeCode R fits c i (code (c.place i) (slice_index c.addresses l.0)) → CarriesNode R.processor c i (jump_node l line) S

-- ---- `.align`
-- the code that is at an address before a multiple of a number continues after itself
abbrev pub AlignmentsWalk : {Q I : Type 0} → Rows Q I → (I → Type 0) → (ℕ → ℕ → List I) → Type 0
AlignmentsWalk {Q} R fits code =
    (from n : ℕ) (q : Q) → is_alignment n ≡ true → StandsAt R false fits from (code from n) → IsThere R.is_place (behind R from (code from n))
    → R.processor.machine.status q ≡ Running → (R.processor.seen q).pc ≡ from
    → Walk R.processor from (behind R from (code from n)) (behind R from (code from n)) q

abbrev pub align_node : ℕ → ℕ → Node
align_node n line = record { op = op.Plain plain.Align; operands = operand.Number n ∷ []; line = line }

abbrev pub AlignmentsCarry : {Q I : Type 0} → Rows Q I → (I → Type 0) → (ℕ → ℕ → List I) → Type 0
AlignmentsCarry R fits code =
    (c : Code) (i n line : ℕ) (S : ℕ → Bool) → HasPlaces R c → IsInText c i (align_node n line) → IsNodeCode R fits c i (code (c.place i) n)
    → CarriesNode R.processor c i (align_node n line) S
