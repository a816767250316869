use Rattle.std.proofs.Common.{◌≡◌, ℕ, ◌<◌, false}
use Rattle.lg_opt.specs.Hops.{jump_at}
use Rattle.lg_opt.proofs.hops.any_jumps.Given as goal

abbrev pub invariant-loop-index : goal.invariant-loop-index
invariant-loop-index l = (i : ℕ) → i < l.index → jump_at l.nodes i ≡ false
