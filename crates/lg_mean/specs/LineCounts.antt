-- How many of the steps of a run have a node of a line.
use Rattle.std.specs.Prelude.{◌≡◌, ◌<◌, ℕ, zero, suc, ◌+◌, ◌==◌, nat_lt, if◌then◌else◌, List, length, slice_get, slice_index_or, Some}
use Rattle.lg_base.specs.Runs.{iter}
use Rattle.lg_op.specs.declared.node.Node.{Node}
use Rattle.lg_node.specs.Nodes.{LabelledNodes}
use Rattle.lg_meaning.specs.States.{State}
use Rattle.lg_meaning.specs.Steps.{Outcome}
use Rattle.lg_meaning.specs.Means.{Run, run_at, run_step}
use Rattle.lg_meaning.specs.Texts.{line_at}

-- the lines of nodes are below a number
abbrev pub AreBelow : List Node → ℕ → Type 0
AreBelow nodes top = (i : ℕ) (n : Node) → slice_get nodes i ≡ Some n → n.line < top

-- how many of the first n steps of a run have a node of a line
unfoldable pub at_line : LabelledNodes → (ℕ → Run) → (line n : ℕ) → ℕ
at_line nodes meaning line zero = 0
at_line nodes meaning line (suc n) = at_line nodes meaning line n + (if line_at nodes (meaning n).state == line then 1 else 0)

-- the numbers of the lines before and after the first n steps of a run, each of which counts for the line of its node. An empty list counts nothing
abbrev pub CountsSteps : LabelledNodes → (ℕ → Run) → (n : ℕ) → (ran ran' : List ℕ) → Type 0
CountsSteps nodes meaning n ran ran' = 0 < length ran → (line : ℕ) → slice_index_or ran' line 0 ≡ slice_index_or ran line 0 + at_line nodes meaning line n

-- the same of one step, whose node has a line
abbrev pub CountsStep : (line : ℕ) → (ran ran' : List ℕ) → Type 0
CountsStep at ran ran' = 0 < length ran → (line : ℕ) → slice_index_or ran' line 0 ≡ slice_index_or ran line 0 + (if at == line then 1 else 0)

-- how many steps were begun, of which this many went: one more where fewer went than the most
abbrev pub begun : (went most : ℕ) → ℕ
begun went most = if nat_lt went most then went + 1 else went

-- the run from a state before which these bytes were written, by what the step of each state does
abbrev pub run_from : (State → Outcome) → State → (bytes : List ℕ) → ℕ → Run
run_from f s bytes n = iter (run_step f) n (run_at s bytes)
