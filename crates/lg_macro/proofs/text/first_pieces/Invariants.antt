use Rattle.std.proofs.Common.{◌≡◌, ◌≤◌, ◌+◌, ◌-◌, ◌++◌, ℕ, length, drop, map}
use Rattle.lg_macro.specs.PieceParts.{AreParts, piece_of}
use Rattle.lg_macro.specs.Text.{text_pieces, pieces_on}
use Rattle.lg_macro.proofs.text.first_pieces.Given as goal

abbrev pub invariant-pieces : goal.invariant-pieces
invariant-pieces l = (l.end ≡ length l.text) × (l.at ≤ l.end) × (l.line ≤ l.first + l.at) × (length l.parts.items ≤ l.at)
    × ((k : ℕ) × (length l.text ≤ l.at + k) × (map (piece_of l.text) l.parts.items ++ text_pieces k l.line (drop l.at l.text) ≡ pieces_on l.first l.text))
    × AreParts l.text l.at l.parts.items

abbrev pub decreases-pieces : goal.decreases-pieces
decreases-pieces l = l.end - l.at
