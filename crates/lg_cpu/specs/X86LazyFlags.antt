-- The flags of x86-64 by what set them last.
use Rattle.std.specs.Prelude.{ℕ}
use Rattle.lg_base.specs.Words.{add_words, sub_words}
use Rattle.lg_base.specs.declared.flags.Flags.{Flags}
use Rattle.lg_cpu.specs.X86Operators.{sum_flags, difference_flags, bit_flags}
use Rattle.lg_cpu.specs.declared.x86_64.lazy_flags.Setter.{Setter}
use Rattle.lg_cpu.specs.declared.x86_64.lazy_flags.Setter.TheVariants as setter

-- the flags after a sum or a difference of two words, after bits, or those that are known
abbrev pub lazy_flags : Setter → ℕ → ℕ → Flags → Flags
lazy_flags setter.Known a b known = known
lazy_flags setter.Sum a b known = sum_flags a b 0 (add_words a b)
lazy_flags setter.Difference a b known = difference_flags a b 0 (sub_words a b)
lazy_flags setter.Bits a b known = bit_flags a
