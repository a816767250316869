-- Where the code of a node stands.
use Rattle.std.specs.Prelude.{ℕ, List}
use Rattle.lg_x86.specs.Spelling.{IsInstr}
use Rattle.lg_x86.specs.declared.instruction.Instr.{Instr}
use Rattle.lg_carry.specs.FinalNodes.{Code}
use Rattle.lg_selx_values.specs.Processor.X86Rows.{x86_rows}
use Rattle.lg_sel.specs.Control.Standing as standing

-- the code that the processor runs, in which these instructions are those of node i
abbrev pub StandsInCode : List ℕ → ℕ → Code → ℕ → List Instr → Type 0
StandsInCode code trash c i is = standing.StandsInCode (x86_rows code trash) IsInstr trash c i is
