use Rattle.std.proofs.Common.{◌≤◌, length, sym, subst, ◌∙◌}
use Rattle.lg_explain.specs.Lines.{most_shown}
use Rattle.lg_explain.proofs.ShownLemmas.{piece_added, shown_short}
use Rattle.lg_explain.proofs.line.Shown.of_row.Goals as goal

pub append-requires : goal.append-requires
append-requires c = subst (λ s. length s ≤ most_shown) (sym c.loop-piece.invariant) (shown_short _)

pub loop-piece-preserved : goal.loop-piece-preserved
loop-piece-preserved c =
    c.append.ensures ∙ piece_added c.args.pieces.now c.loop-piece.shown c.loop-piece.piece-index _ c.loop-piece-test.true c.loop-piece.invariant
