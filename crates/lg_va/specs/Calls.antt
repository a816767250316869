-- Calls of a function from outside of the code.
use Rattle.std.specs.Prelude.{ℕ, ◌+◌, ◌-◌, ◌*◌, ◌/◌}
use Rattle.lg_base.specs.Layout.{stack_end}

-- the stack pointer of a call that passes this many words. It is the same for every target, a multiple of 16, and has room from it on for the words after the
-- sixth, which is the first that lies on the stack on some target
abbrev pub calling_stack : ℕ → ℕ
calling_stack count = stack_end - 16 * ((count - 6 + 1) / 2)
