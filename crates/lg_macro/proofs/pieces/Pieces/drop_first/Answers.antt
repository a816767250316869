use Rattle.std.proofs.Common.{◌∙◌, ap, ℕ}
use Rattle.lg_macro.specs.Pieces.{between}
use Rattle.lg_macro.proofs.CallLemmas.{between_rest}
use Rattle.lg_macro.proofs.pieces.Pieces.drop_first.Goals as goal

pub returns : goal.returns
returns c = c.cut_at.ensures ∙ ap (λ (n : ℕ). between c.args.n n c.args.self.now) c.len-end.ensures ∙ between_rest c.args.n c.args.self.now
