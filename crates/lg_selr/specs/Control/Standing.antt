-- Where the code of a node stands.
use Rattle.std.specs.Prelude.{ℕ, List}
use Rattle.lg_rv.specs.Spelling.{IsInstr}
use Rattle.lg_rv.specs.declared.instruction.Instr.{Instr}
use Rattle.lg_carry.specs.FinalNodes.{Code}
use Rattle.lg_selr_values.specs.Processor.RvRows.{rv_rows}
use Rattle.lg_sel.specs.Control.Standing as standing

-- the code that the processor runs, in which these instructions are those of node i
abbrev pub StandsInCode : List ℕ → ℕ → Code → ℕ → List Instr → Type 0
StandsInCode code trash c i is = standing.StandsInCode (rv_rows code trash) IsInstr trash c i is
