use Rattle.std.proofs.Common.{ℕ, ◌+◌, ◌-◌, ◌≤◌, map, drop, length}
use Rattle.lg_list.specs.Instructions.{first_instructions, instructions}
use Rattle.lg_list.specs.Lines.{rendered}
use Rattle.lg_list.specs.Lines.Entry.{Code}
use Rattle.lg_list.proofs.WriteLemmas.{Progress}
use Rattle.lg_list.proofs.listing.write_instructions.Given as goal

abbrev pub invariant-loop-done : goal.invariant-loop-done
invariant-loop-done g l = record {
  fuel : ℕ;
  enough : length l.bytes ≤ fuel + l.done;
  within : l.done ≤ length l.bytes;
  written : Progress (g.O.Sink.taken l.fn.out) (g.O.Sink.taken l.out) (g.O.Sink.faults l.fn.out) (g.O.Sink.faults l.out)
      (rendered (l.at + l.done) (map Code (first_instructions fuel l.target (drop l.done l.bytes))))
      (rendered l.at (map Code (instructions l.target l.bytes)));
}

abbrev pub decreases-loop-done : goal.decreases-loop-done
decreases-loop-done g l = length l.bytes - l.done
