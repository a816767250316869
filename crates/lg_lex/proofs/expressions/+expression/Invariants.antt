-- The six readers call one another where fewer levels are left, or at a lower level of operators.
use Rattle.std.proofs.Common.{◌≡◌, ℕ, ◌+◌, ◌-◌, ◌*◌, ◌<◌, ◌≤◌, length}
use Rattle.lg_lex.specs.Expressions.{unary_at, binary_of, joined}
use Rattle.lg_lex.proofs.expressions.+expression.Given as goal

abbrev pub decreases-unary : goal.decreases-unary
decreases-unary l = l.levels * 16 + 1

abbrev pub decreases-inner_unary : goal.decreases-inner_unary
decreases-inner_unary l = l.levels * 16

abbrev pub decreases-inner_whole : goal.decreases-inner_whole
decreases-inner_whole l = l.levels * 16

abbrev pub decreases-binary : goal.decreases-binary
decreases-binary l = l.levels * 16 + l.level + 2

abbrev pub decreases-conditional : goal.decreases-conditional
decreases-conditional l = l.levels * 16 + 13

abbrev pub decreases-whole : goal.decreases-whole
decreases-whole l = l.levels * 16 + 14

-- the operands so far lead to the same reading
abbrev pub invariant-binary-operators : goal.invariant-binary-operators
invariant-binary-operators l =
    (l.fn.place < l.left.end) × (l.left.end ≤ length l.bytes) × (l.left.levels ≤ l.levels)
    × ((k : ℕ) × (length l.bytes < l.left.end + k)
    × (joined l.bytes (binary_of l.bytes (unary_at l.bytes l.levels) (l.level - 1)) l.level k l.left
    ≡ binary_of l.bytes (unary_at l.bytes l.levels) l.level l.fn.place))

abbrev pub decreases-binary-operators : goal.decreases-binary-operators
decreases-binary-operators l = length l.bytes - l.left.end
