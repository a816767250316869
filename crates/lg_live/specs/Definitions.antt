-- Which nodes only make words.
use Rattle.std.specs.Prelude.{not, Bool, true, false}
use Rattle.lg_op.specs.declared.op.Op.{Op}
use Rattle.lg_op.specs.declared.op.Op.TheVariants as op
use Rattle.lg_op.specs.declared.op.PlainOp.TheVariants as plain
use Rattle.lg_op.specs.Operators.{sets_carry}
use Rattle.lg_live.specs.declared.definitions.Sought.{Sought}
use Rattle.lg_live.specs.declared.definitions.Sought.TheVariants as sought

-- a definition writes registers and goes on, and changes neither memory nor the carry nor what is pushed: a plain node, a load, `getarg`, `retval`,
-- `qmul` and `qdiv`, but none of those that set the carry
abbrev pub defines : Op → Bool
defines (op.Binary o last) = not (sets_carry o)
defines (op.Wide o last) = true
defines (op.Unary o) = true
defines (op.Plain plain.Movi) = true
defines (op.Load ty at) = true
defines (op.Retval ty) = true
defines (op.Getarg ty) = true
defines o = false

-- the operations whose reads count only where what they write is required: none for what is live, the definitions for what is needed
abbrev pub feeding : Sought → Op → Bool
feeding sought.Live o = false
feeding sought.Needed o = defines o
