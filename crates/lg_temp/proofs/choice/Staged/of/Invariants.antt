use Rattle.std.proofs.Common.{◌≡◌, ◌==◌, ℕ, false, length, take}
use Rattle.std.specs.Prelude.{slice_index_or}
use Rattle.std.specs.List.{list_any}
use Rattle.lg_temp.proofs.choice.Staged.of.Given as goal

abbrev pub invariant-loop-index : goal.invariant-loop-index
invariant-loop-index l = record {
  each : (i : ℕ) → slice_index_or l.staged.arguments i false ≡ list_any (λ k. k == i) (take l.index-index l.list);
  count : length l.staged.arguments ≡ 16;
}
