-- The calls that are being prepared: from the node after a `prepare` up to and with the next `finishr` or `finishi`.
use Rattle.std.specs.Prelude.{ℕ, zero, suc, ◌+◌, Bool, true, false, List, Option, Some, None, slice_get}
use Rattle.lg_op.specs.declared.op.Op.{Op}
use Rattle.lg_op.specs.declared.op.Op.TheVariants.{Control, Plain}
use Rattle.lg_op.specs.declared.op.ControlOp.TheVariants as control
use Rattle.lg_op.specs.declared.op.PlainOp.TheVariants as plain
use Rattle.lg_op.specs.declared.node.Node.{Node}
use Rattle.lg_node.specs.declared.preparation.Preparation.{Preparation}

-- what is being prepared after an operation
abbrev pub prepared_after : Option Preparation → Op → Option Preparation
prepared_after current (Plain plain.Prepare) = Some record { pushed = 0; variadic = false }
prepared_after current (Control control.Finish last) = None
prepared_after (Some call) (Plain plain.Ellipsis) = Some record call { variadic = true }
prepared_after (Some call) (Control control.Pusharg last) = Some record call { pushed = call.pushed + 1 }
prepared_after current op = current

abbrev pub prepared_after_at : Option Preparation → Option Node → Option Preparation
prepared_after_at current None = current
prepared_after_at current (Some n) = prepared_after current n.op

-- the call that is being prepared before a node
unfoldable pub prepared_before : List Node → ℕ → Option Preparation
prepared_before nodes zero = None
prepared_before nodes (suc i) = prepared_after_at (prepared_before nodes i) (slice_get nodes i)

-- whether the function that is open has variable arguments, after an operation: its own `ellipsis` came, which is where no call is prepared
abbrev pub varies_after : Bool → Option Preparation → Op → Bool
varies_after varies call (Plain plain.Prolog) = false
varies_after varies None (Plain plain.Ellipsis) = true
varies_after varies call op = varies

abbrev pub varies_after_at : Bool → Option Preparation → Option Node → Bool
varies_after_at varies call None = varies
varies_after_at varies call (Some n) = varies_after varies call n.op

-- the function that is open before a node has variable arguments
unfoldable pub varies_before : List Node → ℕ → Bool
varies_before nodes zero = false
varies_before nodes (suc i) = varies_after_at (varies_before nodes i) (prepared_before nodes i) (slice_get nodes i)

abbrev pub pushed_of : Option Preparation → ℕ
pushed_of None = 0
pushed_of (Some call) = call.pushed

abbrev pub variadic_of : Option Preparation → Option Bool
variadic_of None = None
variadic_of (Some call) = Some call.variadic

-- how many arguments are pushed before a node, and, where a call is being prepared, whether an `ellipsis` came
abbrev pub pushed : List Node → ℕ → ℕ
pushed nodes i = pushed_of (prepared_before nodes i)

abbrev pub variadic : List Node → ℕ → Option Bool
variadic nodes i = variadic_of (prepared_before nodes i)
