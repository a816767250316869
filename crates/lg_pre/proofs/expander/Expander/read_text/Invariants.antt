use Rattle.std.proofs.Common.{◌≡◌, ◌≤◌, ◌+◌, ◌-◌, ◌++◌, length, drop}
use Rattle.lg_macro.specs.Text.{pieces_on}
use Rattle.lg_pre.specs.Windows.{rest_of}
use Rattle.lg_pre.proofs.expander.Expander.read_text.Given as goal

abbrev pub invariant-parts : goal.invariant-parts
invariant-parts l = (l.end ≡ length l.text) × (l.at ≤ l.end) × (l.line ≤ 1 + l.at)
    × (rest_of (l.pieces ++ pieces_on l.line (drop l.at l.text)) l.self ≡ rest_of (pieces_on 1 l.text) l.fn.self)

abbrev pub decreases-parts : goal.decreases-parts
decreases-parts l = l.end - l.at
