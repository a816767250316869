-- How far a function runs: from a `prolog` to the next `epilog`, both included, over a `prolog` inside it, and to the last node where no
-- `epilog` follows.
use Rattle.std.specs.Prelude.{◌≡◌, ℕ, ◌+◌, ◌<◌, ◌≤◌, true, List, length, slice_get, slice_range}
use Rattle.std.specs.List.{sum_by}
use Rattle.lg_op.specs.declared.node.Node.{Node}
use Rattle.lg_node.specs.declared.function.Function.{Function}
use Rattle.lg_node.specs.Functions.{is_prolog_at, is_epilog_at, local_size}

-- an `epilog` is among the nodes from p on and before i
abbrev pub HasEpilog : List Node → ℕ → ℕ → Type 0
HasEpilog nodes p i = (j : ℕ) × (p ≤ j) × (j < i) × (is_epilog_at (slice_get nodes j) ≡ true)

-- a function begins at p and runs to i: a `prolog` is at p and no `epilog` from there on before i, and after each `prolog` before p stands an `epilog` before
-- p, so that p is no `prolog` inside a function
pub record RunsTo (nodes : List Node) (p i : ℕ) : Type 0 where
  pub order : p ≤ i
  pub begins : is_prolog_at (slice_get nodes p) ≡ true
  pub goes_on : HasEpilog nodes p i → ⊥
  pub outside : (q : ℕ) → q < p → is_prolog_at (slice_get nodes q) ≡ true → HasEpilog nodes q p

-- a function that runs from its entry to its last node, an `epilog`; its locals are those of all its nodes
pub record IsEndedRun (nodes : List Node) (f : Function) : Type 0 where
  pub within : f.last < length nodes
  pub runs : RunsTo nodes f.entry f.last
  pub ends : is_epilog_at (slice_get nodes f.last) ≡ true
  pub locals : f.locals ≡ sum_by local_size (slice_range nodes f.entry (f.last + 1))
