-- Where the code of a node stands.
use Rattle.std.specs.Prelude.{ℕ, List}
use Rattle.lg_a64.specs.Spelling.{IsInstr}
use Rattle.lg_a64.specs.declared.instruction.Instr.{Instr}
use Rattle.lg_carry.specs.FinalNodes.{Code}
use Rattle.lg_sela_values.specs.Processor.A64Rows.{a64_rows}
use Rattle.lg_sel.specs.Control.Standing as standing

-- the code that the processor runs, in which these instructions are those of node i
abbrev pub StandsInCode : List ℕ → ℕ → Code → ℕ → List Instr → Type 0
StandsInCode code trash c i is = standing.StandsInCode (a64_rows code trash) IsInstr trash c i is
