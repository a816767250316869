use Rattle.std.proofs.Common.{◌≡◌, ◌++◌, map, take, drop}
use Rattle.lg_macro.specs.PieceParts.{moved}
use Rattle.lg_macro.proofs.pieces.move_to_front.Given as goal

abbrev pub invariant-loop-part : goal.invariant-loop-part
invariant-loop-part l = l.parts ≡ map (moved l.from 0) (take l.part-index l.fn.parts) ++ drop l.part-index l.fn.parts
