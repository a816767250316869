-- What differs by target of where instructions are.
use Rattle.std.specs.Prelude.{ℕ}
use Rattle.lg_base.specs.declared.target.Target.{Target}
use Rattle.lg_base.specs.declared.target.Target.TheVariants.{X86_64}

-- they are at multiples of this many bytes
abbrev pub alignment_of : Target → ℕ
alignment_of X86_64 = 1
alignment_of target = 4
