use Rattle.std.proofs.Common.{◌≡◌, ◌+◌, ◌*◌, ◌++◌, drop}
use Rattle.std.specs.Prelude.{sum_by, length}
use Rattle.lg_base.specs.Parts.{args_base}
use Rattle.lg_base.specs.Arguments.{texts_of, pointers}
use Rattle.lg_base.specs.Lengths.{args_len}
use Rattle.lg_base.proofs.args.push_pointers.Given as goal

abbrev pub invariant-loop-word : goal.invariant-loop-word
invariant-loop-word l = record {
  room : l.address + sum_by (λ w. length w + 1) (texts_of (drop l.word-index l.words.items)) ≡ args_base + args_len (texts_of l.words.items);
  front : l.bytes.items ++ pointers l.address (texts_of (drop l.word-index l.words.items)) ≡ l.fn.bytes.items ++ pointers (args_base + 8 * (length (texts_of l.words.items) + 1)) (texts_of l.words.items);
}
