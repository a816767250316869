use Rattle.std.proofs.Common.{ℕ, ◌+◌, ◌-◌, ◌*◌, ◌<◌, ◌≤◌, ◌≡◌, [], length, drop}
use Rattle.lg_replacement.specs.Expansion.{walk, each, expand_in}
use Rattle.lg_replacement.proofs.expansion.+expand.Given as goal

abbrev pub decreases-expand : goal.decreases-expand
decreases-expand l = l.levels * 8 + 0

abbrev pub decreases-put : goal.decreases-put
decreases-put l = l.levels * 8 + 1

abbrev pub decreases-each : goal.decreases-each
decreases-each l = l.levels * 8 + 1

abbrev pub decreases-with_arguments : goal.decreases-with_arguments
decreases-with_arguments l = l.levels * 8 + 2

abbrev pub decreases-called : goal.decreases-called
decreases-called l = l.levels * 8 + 3

abbrev pub decreases-opened : goal.decreases-opened
decreases-opened l = l.levels * 8 + 4

abbrev pub decreases-object : goal.decreases-object
decreases-object l = l.levels * 8 + 2

abbrev pub decreases-at_macro : goal.decreases-at_macro
decreases-at_macro l = l.levels * 8 + 5

abbrev pub decreases-step : goal.decreases-step
decreases-step l = l.levels * 8 + 6

-- the pieces so far lead to the same outcome
abbrev pub invariant-expand-pieces : goal.invariant-expand-pieces
invariant-expand-pieces l =
    (l.end ≡ length l.pieces) × (l.at ≤ l.end) × (0 < l.levels) × (l.work.hidden.items ≡ l.fn.work.hidden.items)
    × ((k : ℕ) × (length l.pieces ≤ l.at + k)
    × (walk l.table (expand_in l.table (l.levels - 1)) k l.work.hidden.items (drop l.at l.pieces) (l.out, l.work.sum)
    ≡ expand_in l.table l.levels l.line l.fn.work.hidden.items l.pieces (l.fn.out, l.fn.work.sum)))

abbrev pub decreases-expand-pieces : goal.decreases-expand-pieces
decreases-expand-pieces l = l.end - l.at

-- the arguments so far lead to the same ones
abbrev pub invariant-each-raw : goal.invariant-each-raw
invariant-each-raw l =
    (l.work.hidden.items ≡ l.fn.work.hidden.items)
    × (each (expand_in l.table l.levels) l.line l.work.hidden.items (drop l.i l.raw) l.done.items l.work.sum
    ≡ each (expand_in l.table l.levels) l.line l.fn.work.hidden.items l.raw [] l.fn.work.sum)
