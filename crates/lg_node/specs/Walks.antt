-- What is known before a node when the nodes are walked in order.
use Rattle.std.specs.Prelude.{ℕ, ◌+◌, ◌≤◌, Bool, true, false, not, ◌&&◌, ◌||◌, cond, if◌then◌else◌, List, Option, is_none, is_some}
use Rattle.std.specs.List.{list_any}
use Rattle.lg_op.specs.declared.node.Node.{Node}
use Rattle.lg_op.specs.declared.op.Op.{Op}
use Rattle.lg_op.specs.declared.op.Op.TheVariants.{Control, Plain}
use Rattle.lg_op.specs.declared.operand.Operand.{Operand}
use Rattle.lg_node.specs.declared.walk.Walk.{Walk}
use Rattle.lg_node.specs.Functions.{is_prolog, home_of, open_after, open_before, local_size}
use Rattle.lg_node.specs.Preparations.{prepared_after, prepared_before, pushed_of, varies_after, varies_before}
use Rattle.lg_node.specs.Checks.{is_label, is_arg, is_begun, args_before, locals_before}

abbrev pub walk_at : List Node → ℕ → Walk
walk_at nodes i = record {
  function = open_before nodes i;
  begun = is_begun nodes i;
  args = args_before nodes i;
  locals = locals_before nodes i;
  call = prepared_before nodes i;
  varies = varies_before nodes i;
}

-- what is known after a node: counts are kept while a function is open
abbrev pub after_in : Option ℕ → Walk → Node → Walk
after_in function w n = record {
  function = function;
  begun = w.begun || is_prolog n.op;
  args = if is_some function then w.args + cond (is_arg n.op) 1 0 else 0;
  locals = if is_some function then w.locals + local_size n else 0;
  call = prepared_after w.call n.op;
  varies = varies_after w.varies w.call n.op;
}

abbrev pub walk_after : Walk → ℕ → Node → Walk
walk_after w i n = after_in (open_after (home_of w.function i n.op) n.op) w n

-- what may change it within a function
abbrev pub is_mark : Op → Bool
is_mark (Plain o) = true
is_mark (Control o last) = true
is_mark o = false

-- nothing refuses it, as is seen at once: no mark, within a function, where no call is prepared, that names no label
abbrev pub is_quiet : Walk → Op → List Operand → Bool
is_quiet w o xs = is_some w.function && (is_none w.call && (not (is_mark o) && not (list_any is_label xs)))

-- the limits of a function and of a call
pub record IsWithinLimits (w : Walk) : Type 0 where
  pub args : w.args ≤ 16
  pub locals : w.locals ≤ 65536
  pub pushed : pushed_of w.call ≤ 16
