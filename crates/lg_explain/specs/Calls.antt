-- What is known of a call that is being prepared, where it is only asked which node is out of place.
use Rattle.std.specs.Prelude.{Bool, true, false, ◌&&◌, ◌||◌, Option, Some, None}
use Rattle.lg_op.specs.declared.op.Op.{Op}
use Rattle.lg_op.specs.declared.op.Op.TheVariants.{Control, Plain}
use Rattle.lg_op.specs.declared.op.ControlOp.TheVariants as control
use Rattle.lg_op.specs.declared.op.PlainOp.TheVariants as plain
use Rattle.lg_node.specs.Checks.{breaks_preparation, is_ellipsis, is_out_of_turn, needs_preparation}

-- whether an `ellipsis` came, of a call that is being prepared after an operation
abbrev pub variadic_after : Option Bool → Op → Option Bool
variadic_after current (Plain plain.Prepare) = Some false
variadic_after current (Control control.Finish last) = None
variadic_after (Some variadic) (Plain plain.Ellipsis) = Some true
variadic_after current op = current

-- an operation is out of place
abbrev pub is_bad : Option Bool → Bool → Bool → Op → Bool
is_bad None varies labelled op = needs_preparation op || ((varies && is_ellipsis op) || is_out_of_turn varies op)
is_bad (Some variadic) varies labelled op = labelled || (breaks_preparation op || ((variadic && is_ellipsis op) || is_out_of_turn varies op))

-- whether a function has variable arguments, after an operation
abbrev pub varies_by : Bool → Option Bool → Op → Bool
varies_by varies call (Plain plain.Prolog) = false
varies_by varies None (Plain plain.Ellipsis) = true
varies_by varies call op = varies
