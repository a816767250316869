use Rattle.std.proofs.Common.{◌≡◌, ◌+◌, ◌≤◌, ◌++◌, map, take, length, vec_len, vec_capacity}
use Rattle.lg_macro.specs.PieceParts.{moved}
use Rattle.lg_macro.proofs.pieces.push_moved.Given as goal

abbrev pub invariant-loop-part : goal.invariant-loop-part
invariant-loop-part l = record {
  items : l.parts.items ≡ l.fn.parts.items ++ map (moved l.from l.to) (take l.part-index l.others);
  room : vec_len l.parts + length l.others ≤ vec_capacity l.parts + l.part-index;
}
