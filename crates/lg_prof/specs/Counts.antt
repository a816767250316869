-- How many of the steps of the portable meaning belong to a line.
use Rattle.std.specs.Prelude.{ℕ, suc, Bool, true, false, not, ◌&&◌}
use Rattle.lg_base.specs.Runs.{Status, Running, Ended, Bad}
use Rattle.lg_meaning.specs.Means.{Run}
use Rattle.lg_meaning.specs.Texts.{line_at}
use Rattle.lg_node.specs.Nodes.{LabelledNodes}
use Rattle.lg_prof.specs.Counted.{counted}

abbrev pub is_running : Status → Bool
is_running Running = true
is_running (Ended status) = false
is_running Bad = false

abbrev pub is_bad : Status → Bool
is_bad Running = false
is_bad (Ended status) = false
is_bad Bad = true

-- the step after the first n went or ended
abbrev pub has_meant : (ℕ → Run) → ℕ → Bool
has_meant meaning n = is_running (meaning n).status && not (is_bad (meaning (suc n)).status)

-- the line of its node
abbrev pub meant_line : LabelledNodes → (ℕ → Run) → ℕ → ℕ
meant_line nodes meaning n = line_at nodes (meaning n).state

-- how many of the first k steps went or ended and have a node of this line
abbrev pub count : LabelledNodes → (ℕ → Run) → (line k : ℕ) → ℕ
count nodes meaning line k = counted (has_meant meaning) (meant_line nodes meaning) line k
