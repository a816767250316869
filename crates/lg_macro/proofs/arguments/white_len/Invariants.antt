use Rattle.std.proofs.Common.{◌≡◌, ◌≤◌, ◌+◌, ◌-◌, take, drop}
use Rattle.std.specs.List.{prefix_len}
use Rattle.lg_macro.specs.Pieces.{is_white}
use Rattle.lg_macro.proofs.arguments.white_len.Given as goal

abbrev pub invariant-white : goal.invariant-white
invariant-white l = (l.n ≤ l.end) × (l.n + prefix_len (λ p. is_white p.kind) (drop l.n (take l.end (drop l.from l.pieces))) ≡ prefix_len (λ p. is_white p.kind) (take l.end (drop l.from l.pieces)))

abbrev pub decreases-white : goal.decreases-white
decreases-white l = l.end - l.n
