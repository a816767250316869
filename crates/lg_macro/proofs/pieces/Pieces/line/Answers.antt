use Rattle.std.proofs.Common.{sym, ap}
use Rattle.lg_macro.specs.Pieces.{Piece}
use Rattle.lg_macro.proofs.PieceLemmas.{held}
use Rattle.lg_macro.proofs.pieces.Pieces.line.Goals as goal

pub returns : goal.returns
returns c = sym (ap (λ (p : Piece). p.line) (held c.self.inside.bytes.items c.self.inside.parts.items c.args.self.now c.args.at c.index.result.now c.self.view_is c.requires c.index.ensures))
