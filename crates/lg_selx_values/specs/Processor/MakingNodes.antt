-- Nodes whose code makes registers and flags of what it finds, and goes on to the next node. It may read the memory and the flags, fault where the portable
-- step is undefined, and spoil FP and make it again from the stack pointer.
use Rattle.std.specs.Prelude.{◌≡◌, ℕ, ◌⊎◌, List, [], Option, Some}
use Rattle.lg_base.specs.declared.flags.Flags.{Flags}
use Rattle.lg_base.specs.declared.target.Target.TheVariants.{X86_64}
use Rattle.lg_op.specs.declared.node.Node.{Node}
use Rattle.lg_x86.specs.declared.instruction.Instr.{Instr}
use Rattle.lg_cpu.specs.X86Step.{Scene}
use Rattle.lg_meaning.specs.States.{State}
use Rattle.lg_meaning.specs.Steps.{Goes, Undefined}
use Rattle.lg_meaning.specs.Texts.{step}
use Rattle.lg_temp.specs.declared.choice.Choice.{Choice}
use Rattle.lg_carry.specs.FinalNodes.{Code}
use Rattle.lg_carry.specs.Processors.{Seen}
use Rattle.lg_carry.specs.Nodes.Straight.{GoesOn, HoldsRead, HoldsWritten, IsKept, ComputesNode}
use Rattle.lg_selx_values.specs.Processor.Makings.{makes}
use Rattle.lg_selx_values.specs.Processor.X86Computers.{x86_scratch}
use Rattle.lg_selx_values.specs.Processor.X86Rows.{x86_rows}

-- a scene of registers and flags over a memory
abbrev pub scene : (ℕ → ℕ) → Flags → (ℕ → Option ℕ) → Scene
scene registers flags bytes = record { registers = registers; flags = flags; bytes = bytes }

-- from state s the step goes to a state whose words the code makes, over any memory, and this stays
pub record StepsBy (c : Code) (n : Node) (choices : List Choice) (body : List Instr) (s : State) (q : Seen) : Type 0 where
  pub to : State
  pub goes : step c.nodes c.shape c.addresses s ≡ Goes to []
  pub on : GoesOn s to
  pub end : ℕ → ℕ
  pub flags : Flags
  pub makes_it : (bytes : ℕ → Option ℕ) → makes body (scene q.registers q.flags bytes) ≡ Some (scene end flags bytes)
  pub keeps : (x : ℕ) → IsKept X86_64 x86_scratch n choices x → end x ≡ q.registers x
  pub holds : HoldsWritten X86_64 n s to end flags

pub record MakesNode (c : Code) (i : ℕ) (n : Node) (frame : ℕ) (choices : List Choice) (body : List Instr) : Type 0 where
  pub steps : (s : State) (q : Seen) → s.at ≡ i → HoldsRead X86_64 n frame s q → (step c.nodes c.shape c.addresses s ≡ Undefined) ⊎ StepsBy c n choices body s q

-- such a node is one whose code goes straight on
abbrev pub MakingNodesCompute : Type 0
MakingNodesCompute =
    (code : List ℕ) (trash : ℕ) (c : Code) (i : ℕ) (n : Node) (frame : ℕ) (choices : List Choice) (body : List Instr)
    → MakesNode c i n frame choices body → ComputesNode (x86_rows code trash) x86_scratch c i n frame choices body
