-- How many of the steps of a processor belong to a line.
use Rattle.std.specs.Prelude.{ℕ, suc, ◌-◌, Bool, true, false, not, ◌&&◌, nat_le, nat_lt, if◌then◌else◌, Option, Some, None, List, [], ◌∷◌, drop}
use Rattle.lg_base.specs.Layout.{code_base}
use Rattle.lg_cpu.specs.LineCounts.{line_by}
use Rattle.lg_cpu.specs.States.{CpuState}
use Rattle.lg_cpu.specs.Steps.{Progress, Run, Goes, EndedWith, Faulted}
use Rattle.lg_op.specs.declared.node.Node.{Node}
use Rattle.lg_prof.specs.Counted.{counted}

-- a place lies from the first of the places to before the second
abbrev pub lies_first : List ℕ → ℕ → Bool
lies_first (from ∷ to ∷ places) place = nat_le from place && nat_lt place to
lies_first places place = false

-- the line of the node i whose bytes hold a place, which lies from place i to before place i + 1
abbrev pub line_here : List Node → List ℕ → ℕ → Option ℕ
line_here [] places place = None
line_here (n ∷ nodes) places place = if lies_first places place then Some n.line else line_here nodes (drop 1 places) place

-- the same of a program counter
abbrev pub code_line : List Node → (places : List ℕ) → (pc : ℕ) → Option ℕ
code_line nodes places pc = if nat_le code_base pc then line_here nodes places (pc - code_base) else None

-- the line of the last of the first n steps whose program counter lay in the code: a host step, which begins outside, counts for the line of the code step
-- before it. No line of a node is 0, and the first step begins in the code
abbrev pub line_after : (line_of : ℕ → Option ℕ) → (ℕ → Run CpuState) → ℕ → ℕ
line_after line_of run n = line_by line_of run 0 n

abbrev pub is_going : Progress → Bool
is_going Goes = true
is_going (EndedWith status) = false
is_going (Faulted kind) = false

abbrev pub is_fault : Progress → Bool
is_fault Goes = false
is_fault (EndedWith status) = false
is_fault (Faulted kind) = true

-- the step after the first n went or ended
abbrev pub has_run : (ℕ → Run CpuState) → ℕ → Bool
has_run run n = is_going (run n).progress && not (is_fault (run (suc n)).progress)

-- how many of the first n steps went or ended and count for this line
abbrev pub spent : (line_of : ℕ → Option ℕ) → (ℕ → Run CpuState) → (line n : ℕ) → ℕ
spent line_of run line n = counted (has_run run) (λ k. line_after line_of run (suc k)) line n
