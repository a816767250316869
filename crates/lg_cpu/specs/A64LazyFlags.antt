-- The flags of AArch64 by what set them last.
use Rattle.std.specs.Prelude.{ℕ, false}
use Rattle.lg_base.specs.declared.flags.Flags.{Flags}
use Rattle.lg_cpu.specs.A64Operators.{sum_flags, difference_flags, result_flags}
use Rattle.lg_cpu.specs.declared.aarch64.lazy_flags.Setter.{Setter}
use Rattle.lg_cpu.specs.declared.aarch64.lazy_flags.Setter.TheVariants as setter

-- the flags after a sum or a difference of two words, after bits, or those that are known
abbrev pub lazy_flags : Setter → ℕ → ℕ → Flags → Flags
lazy_flags setter.Known a b known = known
lazy_flags setter.Sum a b known = sum_flags a b 0
lazy_flags setter.Difference a b known = difference_flags a b 0
lazy_flags setter.Bits a b known = result_flags a false false
