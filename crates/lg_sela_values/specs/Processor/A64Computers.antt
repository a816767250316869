-- AArch64 as a target: its scratch register, and its instructions that only compute.
use Rattle.std.specs.Prelude.{ℕ, ◌==◌, ◌^◌, ◌<◌, ◌≤◌, Bool, false, List, length, Option, Some, None}
use Rattle.lg_base.specs.Conventions.{link_register}
use Rattle.lg_base.specs.Layout.{most_code}
use Rattle.lg_base.specs.declared.target.Target.TheVariants.{Aarch64}
use Rattle.lg_op.specs.declared.node.Node.{Node}
use Rattle.lg_a64.specs.Spelling.{IsInstr}
use Rattle.lg_a64.specs.declared.instruction.Instr.{Instr}
use Rattle.lg_cpu.specs.Laws.{AreBytes}
use Rattle.lg_cpu.specs.States.{CpuState}
use Rattle.lg_cpu.specs.Steps.{Run}
use Rattle.lg_temp.specs.declared.choice.Choice.{Choice}
use Rattle.lg_carry.specs.FinalNodes.{Code}
use Rattle.lg_carry.specs.Nodes.Isas.{IsIsa}
use Rattle.lg_carry.specs.Values.Computers.{Computer, IsComputer, ComputingNode}
use Rattle.lg_sela_values.specs.Processor.A64Rows.{a64_rows}
use Rattle.lg_sela_values.specs.Processor.Computations.{computes, computed_by}

-- after a `prolog` the link, x30, holds nothing that is needed
abbrev pub is_register : Option ℕ → ℕ → Bool
is_register None x = false
is_register (Some r) x = x == r

abbrev pub a64_scratch : ℕ → Bool
a64_scratch x = is_register (link_register Aarch64) x

abbrev pub InstructionsAreIsa : Type 0
InstructionsAreIsa = (code : List ℕ) (trash : ℕ) → length code ≤ most_code → AreBytes code → trash < 2 ^ 64 → IsIsa (a64_rows code trash) a64_scratch IsInstr

abbrev pub a64_computer : List ℕ → ℕ → Computer (Run CpuState) Instr
a64_computer code trash = record { rows = a64_rows code trash; computes = computes; computed_by = computed_by }

abbrev pub InstructionsCompute : Type 0
InstructionsCompute = (code : List ℕ) (trash : ℕ) → IsComputer (a64_computer code trash)

-- the instructions compute the node, whatever code runs
abbrev pub IsComputed : Code → ℕ → Node → List Choice → List Instr → Type 0
IsComputed c i n choices body = (code : List ℕ) (trash : ℕ) → ComputingNode (a64_computer code trash) a64_scratch c i n choices body
