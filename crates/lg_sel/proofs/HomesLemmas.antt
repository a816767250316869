-- A function reads at most 16 homes, so a `prolog` that stores 16 serves every function.
use Rattle.std.proofs.Common.{◌≡◌, ℕ, suc, ◌+◌, ◌<◌, ◌≤◌, Bool, true, false, List, [], ◌∷◌, Option, Some, None, refl, arith}
use Rattle.std.specs.Prelude.{nat_lt, if◌then◌else◌, slice_range}
use Rattle.std.proofs.lemmas.Bool.Decides.{nat_tests}
use Rattle.lg_carry.specs.FinalNodes.{Code}
use Rattle.lg_carry.specs.Homes.{homes_to, homes_by, homes_of, homes_in}
use Rattle.lg_meaning.specs.Steps.{function_here, operand_at, slot}
use Rattle.lg_node.specs.declared.function.Function.{Function}
use Rattle.lg_op.specs.declared.node.Node.{Node}
use Rattle.lg_op.specs.declared.op.Op.{Op}
use Rattle.lg_op.specs.declared.op.Op.TheVariants as op
use Rattle.lg_op.specs.declared.op.PlainOp.TheVariants as plain
use Rattle.lg_sel.specs.Control.Prologs.{IsHomesOf}

to-few : (k : ℕ) → homes_to k ≤ 16
to-few k = by (nat_lt k 16) refl
  where
    by : (b : Bool) → nat_lt k 16 ≡ b → (if b then suc k else 0) ≤ 16
    by true e = let lt : k < 16 = grind (arith, nat_tests, e) in omega (arith, lt)
    by false e = omega arith

by-few : (o : Op) (n : Node) → homes_by o n ≤ 16
by-few (op.Getarg t) n = to-few (slot (operand_at n 1))
by-few (op.Plain plain.VaArg) n = omega arith
by-few o n = omega arith

of-few : (ns : List Node) → homes_of ns ≤ 16
of-few [] = omega arith
of-few (n ∷ ns) = let one = by-few n.op n in let more = of-few ns in omega (arith, one, more)

in-few : (nodes : List Node) (f : Option Function) → homes_in nodes f ≤ 16
in-few nodes None = omega arith
in-few nodes (Some f) = of-few (slice_range nodes f.entry (f.last + 1))

pub sixteen-are-all : (c : Code) (i : ℕ) → IsHomesOf c i 16
sixteen-are-all c i is = in-few c.nodes.nodes (function_here c.shape.functions i)
