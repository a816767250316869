use Rattle.std.proofs.Common.{◌∙◌, sym, arith}
use Rattle.lg_macro.specs.Defines.{with_plain}
use Rattle.lg_macro.proofs.DefineLemmas.{folded, folded_end}
use Rattle.lg_macro.proofs.body.push_plain.Goals as goal

pub gap-preserved : goal.gap-preserved
gap-preserved c = folded with_plain c.args.gap.now c.gap._at c.gap.marks c.push.new.self (omega arith) c.in_ok-push.ensures ∙ c.gap.invariant

pub returns : goal.returns
returns c = sym (folded_end with_plain c.args.gap.now c.gap._at c.gap.marks (omega arith)) ∙ c.gap.invariant
