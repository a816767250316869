use Rattle.std.proofs.Common.{ap, length, sym, ◌∙◌}
use Rattle.lg_macro.proofs.PieceLemmas.{bytes_of_pieces}
use Rattle.lg_macro.proofs.RowLemmas.{widths_are}
use Rattle.lg_macro.proofs.pieces.Pieces.size.Goals as goal

pub returns : goal.returns
returns c = ap length c.as_slice.ensures.value
    ∙ sym (bytes_of_pieces c.self.inside.bytes.items c.self.inside.parts.items c.args.self.now c.self.view_is c.self.invariant.0 (widths_are c.self.inside.bytes.items c.self.inside.parts.items c.self.invariant))
