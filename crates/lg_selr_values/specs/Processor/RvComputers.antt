-- RV64IM as a target: its scratch registers, and its instructions that only compute.
use Rattle.std.specs.Prelude.{ℕ, ◌==◌, ◌^◌, ◌<◌, ◌≤◌, ◌||◌, Bool, List, length}
use Rattle.lg_base.specs.Layout.{most_code}
use Rattle.lg_op.specs.declared.node.Node.{Node}
use Rattle.lg_rv.specs.Spelling.{IsInstr}
use Rattle.lg_rv.specs.declared.instruction.Instr.{Instr}
use Rattle.lg_cpu.specs.Laws.{AreBytes}
use Rattle.lg_cpu.specs.States.{CpuState}
use Rattle.lg_cpu.specs.Steps.{Run}
use Rattle.lg_temp.specs.declared.choice.Choice.{Choice}
use Rattle.lg_carry.specs.FinalNodes.{Code}
use Rattle.lg_carry.specs.Nodes.Isas.{IsIsa}
use Rattle.lg_carry.specs.Values.Computers.{Held, Computer, IsComputer, ComputingNode}
use Rattle.lg_selr_values.specs.Processor.Computations.{computes, computed_by}
use Rattle.lg_selr_values.specs.Processor.RvRows.{rv_rows}

-- after a `prolog` the link, x1, holds nothing that is needed, and x0 never does
abbrev pub rv_scratch : ℕ → Bool
rv_scratch x = (x == 0) || (x == 1)

abbrev pub InstructionsAreIsa : Type 0
InstructionsAreIsa = (code : List ℕ) (trash : ℕ) → length code ≤ most_code → AreBytes code → trash < 2 ^ 64 → IsIsa (rv_rows code trash) rv_scratch IsInstr

-- there are no flags, so they stay
abbrev pub held_by : Instr → Held → Held
held_by i w = record { registers = computed_by i w.registers; flags = w.flags }

abbrev pub rv_computer : List ℕ → ℕ → Computer (Run CpuState) Instr
rv_computer code trash = record { rows = rv_rows code trash; computes = computes; computed_by = held_by }

abbrev pub InstructionsCompute : Type 0
InstructionsCompute = (code : List ℕ) (trash : ℕ) → IsComputer (rv_computer code trash)

-- the instructions compute the node, whatever code runs
abbrev pub IsComputed : Code → ℕ → Node → List Choice → List Instr → Type 0
IsComputed c i n choices body = (code : List ℕ) (trash : ℕ) → ComputingNode (rv_computer code trash) rv_scratch c i n choices body
