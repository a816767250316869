use Rattle.std.proofs.Common.{◌≡◌, ◌+◌, drop}
use Rattle.std.specs.Prelude.{sum_by, length}
use Rattle.lg_base.specs.Arguments.{texts_of}
use Rattle.lg_base.specs.Lengths.{args_len}
use Rattle.lg_base.proofs.args.fits.Given as goal

abbrev pub invariant-loop-word : goal.invariant-loop-word
invariant-loop-word l = l.len + sum_by (λ w. length w + 1) (texts_of (drop l.word-index l.words.items)) ≡ args_len (texts_of l.words.items)
