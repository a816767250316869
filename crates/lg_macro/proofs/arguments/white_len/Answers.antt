use Rattle.std.proofs.Common.{◌<◌, length, drop, take, sym, ap, ◌∙◌, arith, length-drop}
use Rattle.std.proofs.lemmas.List.{get_or-drop, get_or-take, length-take-le}
use Rattle.std.proofs.lemmas.List.Sums.{prefix_len-drop_no}
use Rattle.lg_macro.specs.Pieces.{Piece, is_white, no_piece}
use Rattle.lg_macro.proofs.arguments.white_len.Goals as goal

pub returns-else-is_white-clause-value : goal.returns-else-is_white-clause-value
returns-else-is_white-clause-value c =
    let pieces = drop c.args.from c.args.pieces.now in
    let lt : c.white.n < length (take c.args.end pieces) = omega (arith, length-take-le c.args.end pieces (omega (arith, length-drop c.args.from c.args.pieces.now, c.requires))) in
    let none = prefix_len-drop_no (λ (p : Piece). is_white p.kind) (take c.args.end pieces) c.white.n no_piece lt
    (ap (λ (p : Piece). is_white p.kind) (get_or-take c.args.end pieces c.white.n no_piece (omega arith) ∙ get_or-drop c.args.from c.args.pieces.now c.white.n no_piece)
    ∙ ap is_white (sym c.kind.ensures) ∙ sym c.is_white.ensures ∙ c.if-is_white.false) in
    omega (arith, none, c.white.invariant.1)
