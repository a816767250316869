use Rattle.std.proofs.Common.{◌∙◌, sym, arith}
use Rattle.lg_macro.specs.Substitution.{substituted}
use Rattle.lg_macro.proofs.FillLemmas.{filled_end}
use Rattle.lg_macro.proofs.substitution.substituted.Goals as goal

pub returns : goal.returns
unfolding substituted
returns c = c.in_ok-append.ensures ∙ sym (filled_end c.args.line c.body.at c.min-end.result c.args.entry.now.body c.args.entry.now.marks c.args.raw.now c.args.full.now c.body.done c.body.now (omega (arith, c.min-end.ensures, c.len.ensures, c.len-2.ensures)) (omega arith)) ∙ c.body.invariant
