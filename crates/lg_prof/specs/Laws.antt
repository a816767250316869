-- The numbers of the lines add up.
use Rattle.std.specs.Prelude.{◌≡◌, ℕ, ◌+◌, ◌<◌, List, length}
use Rattle.lg_cpu.specs.States.{CpuState}
use Rattle.lg_cpu.specs.Steps.{Run}
use Rattle.lg_meaning.specs.Means as means
use Rattle.lg_node.specs.Nodes.{LabelledNodes}
use Rattle.lg_op.specs.declared.node.Node.{Node}
use Rattle.lg_prof.specs.Places.{AreLines}
use Rattle.lg_prof.specs.Tallies.{AreBelow}
use Rattle.lg_prof.specs.Counted.{all_made, total}
use Rattle.lg_prof.specs.Counts.{count, has_meant}
use Rattle.lg_cpu.specs.LineCounts.{table_line}
use Rattle.lg_prof.specs.Spent.{code_line, has_run, spent}

-- the steps of the meaning that went or ended, by lines: where each node's line is below a number, the numbers of the lines below it add up to them all
abbrev pub CountsAddUp : Type 0
CountsAddUp =
    (nodes : LabelledNodes) (meaning : ℕ → means.Run) (top k : ℕ) → 0 < top → AreBelow nodes.nodes top
    → total (λ line. count nodes meaning line k) top ≡ all_made (has_meant meaning) k

-- and those of a processor, where the lines of the code's nodes are below it
abbrev pub SpentAddsUp : Type 0
SpentAddsUp =
    (nodes : List Node) (places : List ℕ) (run : ℕ → Run CpuState) (top n : ℕ) → 0 < top → AreBelow nodes top
    → total (λ line. spent (code_line nodes places) run line n) top ≡ all_made (has_run run) n

-- a table of the lines has for each program counter the line of the node whose bytes hold it
abbrev pub TablesHaveLines : Type 0
TablesHaveLines =
    (nodes : List Node) (places lines : List ℕ) → length places ≡ length nodes + 1 → AreLines nodes places lines
    → (pc : ℕ) → table_line lines pc ≡ code_line nodes places pc
