-- The functions that end before a node, and before the next one.
use Rattle.std.proofs.Common.{◌≡◌, ℕ, ◌+◌, ◌≤◌, List, [], ◌++◌, Option, Some, None, refl, ap, length, add-one, arith}
use Rattle.std.specs.Prelude.{slice_get}
use Rattle.std.specs.Option.{option_to_list}
use Rattle.std.proofs.lemmas.Grind.{common_steps}
use Rattle.lg_op.specs.declared.node.Node.{Node}
use Rattle.lg_node.specs.declared.function.Function.{Function}
use Rattle.lg_node.specs.Functions.{home, ended_at, functions_before}
use Rattle.lg_node.specs.Tables.{number_in, number_of}
use Rattle.lg_node.proofs.WalkLemmas.{home_past}

pub functions_start : (nodes : List Node) → functions_before nodes 0 ≡ []
unfolding functions_before
functions_start nodes = refl

pub functions_on : (nodes : List Node) (i : ℕ) (n : Node) → slice_get nodes i ≡ Some n → functions_before nodes (i + 1) ≡ functions_before nodes i ++ option_to_list (ended_at nodes (home nodes i) i (Some n))
unfolding functions_before
functions_on nodes i n e = rw (add-one, e) refl

-- at most one function ends at a node
pub few_on : (before behind : List Function) (o : Option Function) (i : ℕ) → behind ≡ before ++ option_to_list o → length before ≤ i → length behind ≤ i + 1
few_on before behind None i e h = grind (arith, common_steps)
few_on before behind (Some f) i e h = grind (arith, common_steps)

pub number_past : (nodes : List Node) (i : ℕ) → length nodes ≤ i → number_of nodes i ≡ None
number_past nodes i h = ap (number_in (length (functions_before nodes i))) (home_past nodes i h)
