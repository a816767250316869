use Rattle.std.proofs.Common.{length, ◌-◌}
use Rattle.lg_back.proofs.ReaderLemmas.{IsRead}
use Rattle.lg_back.proofs.reader.read_lines.Given as goal

abbrev pub invariant-loop-at : goal.invariant-loop-at
invariant-loop-at l = IsRead l.text l.head.target l.head.count l.bytes.items l.bytes.room l.at l.line l.done

abbrev pub decreases-loop-at : goal.decreases-loop-at
decreases-loop-at l = length l.initial.text - l.at
