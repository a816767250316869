-- Where the arguments of a function are, by its frame pointer.
use Rattle.std.specs.Prelude.{ℕ, ◌+◌, ◌-◌, ◌*◌, nat_lt, pos, negsuc, ℤ, length, if◌then◌else◌}
use Rattle.lg_base.specs.Conventions.{argument_registers}
use Rattle.lg_base.specs.declared.target.Target.{Target}

-- how far from FP argument k is: in its home below, or in the caller's stack word above
abbrev pub home : Target → ℕ → ℤ
home target k = if nat_lt k (length (argument_registers target)) then negsuc (31 + 8 * k) else pos (16 + 8 * (k - length (argument_registers target)))
