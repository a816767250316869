-- `prolog`: what a target's code of it does, wherever it is, and that the node with this code is carried.
use Rattle.std.specs.Prelude.{◌≡◌, ℕ, ◌+◌, ◌-◌, ◌%◌, ◌<◌, ◌≤◌, ◌⊎◌, Bool, List, [], length, slice_index, slice_get, Some, true}
use Rattle.lg_base.specs.Conventions.{argument_registers, portable_register, frame_register, stack_register, link_register}
use Rattle.lg_base.specs.Layout.{frame_pointer, return_word, saved_word, home_word, least_frame, stack_end}
use Rattle.lg_base.specs.Runs.{Running}
use Rattle.lg_op.specs.declared.op.Op.TheVariants as op
use Rattle.lg_op.specs.declared.op.PlainOp.TheVariants as plain
use Rattle.lg_op.specs.declared.node.Node.{Node}
use Rattle.lg_node.specs.declared.function.Function.{Function}
use Rattle.lg_node.specs.Functions.{frame_of, is_prolog_at}
use Rattle.lg_meaning.specs.Steps.{function_here}
use Rattle.lg_carry.specs.FinalNodes.{Code, saved_at}
use Rattle.lg_carry.specs.Frames.{arriving, IsLinked}
use Rattle.lg_carry.specs.Homes.{homes_at}
use Rattle.lg_carry.specs.Carries.{Sinks}
use Rattle.lg_carry.specs.NodeCode.{CarriesNode}
use Rattle.lg_carry.specs.Passages.{IsNodeCode}
use Rattle.lg_carry.specs.Processors.{IsSeen, Processor}
use Rattle.lg_carry.specs.Registers.{HasWord}
use Rattle.lg_carry.specs.Rows.{Rows}
use Rattle.lg_carry.specs.TextNodes.{IsInText}
use Rattle.lg_carry.specs.Nodes.Stretches.{StandsAt, behind, PassesIn}

-- at most 64 steps from one address to another, in none of which the stack pointer rises, make a frame of this many bytes below that of the caller. Its words
-- hold the return address, the caller's FP and this many of V0 to V2, and of the arguments that have registers those with this many homes; FP and the stack
-- pointer are those of the frame, and no other register of the conventions changes but the link and that of the carry, nor a byte outside of the words of a
-- frame
pub record Entrance {Q : Type 0} (P : Processor Q) (low high stack size homes_read kept : ℕ) (q : Q) : Type 0 where
  pub end : Q
  pub steps : ℕ
  pub passes : PassesIn P true low high steps q end
  pub sinks : Sinks P low steps q
  pub few : steps ≤ 64
  pub some : 0 < steps
  pub runs : P.machine.status end ≡ Running
  pub here : (P.seen end).pc ≡ high
  pub back : (address : ℕ) → IsLinked (link_register P.target) (P.seen q).bytes (P.seen q).registers stack address
      → HasWord (P.seen end).bytes (return_word stack) address
  pub caller : HasWord (P.seen end).bytes (frame_pointer stack) ((P.seen q).registers (frame_register P.target))
  pub saved : (v : ℕ) → v < kept → v < 3
      → HasWord (P.seen end).bytes (saved_word (frame_pointer stack) v) ((P.seen q).registers (portable_register P.target (v + 3)))
  pub homes : (j : ℕ) → j < homes_read → j < length (argument_registers P.target)
      → HasWord (P.seen end).bytes (home_word (frame_pointer stack) j) ((P.seen q).registers (slice_index (argument_registers P.target) j))
  pub pointer : (P.seen end).registers (frame_register P.target) ≡ frame_pointer stack
  pub stack_is : (P.seen end).registers (stack_register P.target) ≡ stack - size
  pub portable : (r : ℕ) → r < 6 → (P.seen end).registers (portable_register P.target r) ≡ (P.seen q).registers (portable_register P.target r)
  pub arguments : (j : ℕ) → j < length (argument_registers P.target)
      → (P.seen end).registers (slice_index (argument_registers P.target) j) ≡ (P.seen q).registers (slice_index (argument_registers P.target) j)
  pub bytes : (a : ℕ) → (a + 144 < stack) ⊎ (stack ≤ a) → (P.seen end).bytes a ≡ (P.seen q).bytes a
  pub mark : (P.seen end).mark ≡ (P.seen q).mark

-- the code of a `prolog` that is at an address makes the frame, with this many homes, and saves this many of V0 to V2, where a call has arrived and there is
-- room for it
abbrev pub PrologsLead : {Q I : Type 0} → Rows Q I → (I → Type 0) → ℕ → (ℕ → ℕ → List I) → Type 0
PrologsLead {Q} R fits saved code =
    (frame homes from stack : ℕ) (q : Q) → IsSeen (R.processor.seen q) → 272 ≤ frame → least_frame + frame ≤ stack → stack ≤ stack_end → stack % 16 ≡ 0
    → (R.processor.seen q).registers (stack_register R.processor.target) ≡ arriving (link_register R.processor.target) stack
    → StandsAt R true fits from (code frame homes)
    → R.processor.machine.status q ≡ Running → (R.processor.seen q).pc ≡ from → Entrance R.processor from (behind R from (code frame homes)) stack frame homes saved q

abbrev pub prolog_node : ℕ → Node
prolog_node line = record { op = op.Plain plain.Prolog; operands = []; line = line }

-- a `prolog` with this many homes stores those that the function which begins at the node reads, and may store more
abbrev pub IsHomesOf : Code → ℕ → ℕ → Type 0
IsHomesOf c i homes = is_prolog_at (slice_get c.nodes.nodes i) ≡ true → homes_at c i ≤ homes

-- the frame is that of the function that begins at the node, the homes are at least those that it reads, and this many are saved as its frames save
abbrev pub PrologsCarry : {Q I : Type 0} → Rows Q I → (I → Type 0) → ℕ → (ℕ → ℕ → List I) → Type 0
PrologsCarry R fits saved code =
    (c : Code) (i line homes : ℕ) (f : Function) (S : ℕ → Bool) → IsInText c i (prolog_node line) → function_here c.shape.functions i ≡ Some f → saved_at c i ≡ saved
    → homes_at c i ≤ homes → IsNodeCode R fits c i (code (frame_of f) homes) → CarriesNode R.processor c i (prolog_node line) S
