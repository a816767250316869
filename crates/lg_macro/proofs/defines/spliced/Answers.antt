use Rattle.std.proofs.Common.{◌++◌, ap, ◌∙◌, sym, arith}
use Rattle.lg_macro.specs.Defines.{spliced}
use Rattle.lg_macro.specs.Pieces.{between}
use Rattle.lg_macro.proofs.DefineLemmas.{spliced_end}
use Rattle.lg_macro.proofs.defines.spliced.Goals as goal

pub pieces-init : goal.pieces-init
pieces-init c =
    ap (λ l. l ++ spliced (between c.straight_end-straight.result c.args.end c.args.pieces.now))
    (c.in_ok-append_between.ensures ∙ ap (λ l. l ++ between c.args.from c.straight_end-straight.result c.args.pieces.now) c.take-out.ensures)
    ∙ c.straight_end-straight.ensures.value

pub pieces-preserved : goal.pieces-preserved
pieces-preserved c = c.in_ok-push_spliced.ensures ∙ c.pieces.invariant

pub returns : goal.returns
returns c = sym (spliced_end c.pieces.at c.args.end c.args.pieces.now c.pieces.out (omega arith)) ∙ c.pieces.invariant
