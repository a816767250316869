-- Where the code of a node lies.
use Rattle.std.specs.Prelude.{ℕ, ◌^◌, ◌<◌, ◌≤◌, List, length}
use Rattle.lg_base.specs.Layout.{most_code}
use Rattle.lg_a64.specs.Spelling.{IsInstr}
use Rattle.lg_a64.specs.declared.instruction.Instr.{Instr}
use Rattle.lg_cpu.specs.Laws.{AreBytes}
use Rattle.lg_carry.specs.FinalNodes.{Code}
use Rattle.lg_carry.specs.NodeBlocks.{IsNodeBlock}
use Rattle.lg_sela_values.specs.Processor.A64Rows.{a64_rows}

-- the code that the processor runs, in which these instructions are those of node i
pub record IsInCode (code : List ℕ) (trash : ℕ) (c : Code) (i : ℕ) (is : List Instr) : Type 0 where
  pub small : length code ≤ most_code
  pub bytes : AreBytes code
  pub word : trash < 2 ^ 64
  pub block : IsNodeBlock (a64_rows code trash) IsInstr c i is
