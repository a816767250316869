use Rattle.std.proofs.Common.{◌∙◌, sym}
use Rattle.lg_macro.proofs.DefineLemmas.{splice_more, spaced_more}
use Rattle.lg_macro.proofs.defines.push_spliced.Goals as goal

pub returns-then-is_splice : goal.returns-then-is_splice
returns-then-is_splice c = splice_more c.args.at c.args.end c.args.pieces.now c.args.out.now c.requires.order c.requires.inside (sym c.is_splice.ensures ∙ c.if-is_splice.true)

pub returns : goal.returns
returns c = spaced_more c.args.at c.args.end c.args.pieces.now c.args.out.now c.push_spaced.new.out c.requires.order c.requires.inside (sym c.is_splice.ensures ∙ c.if-is_splice.false) c.in_ok-push_spaced.ensures
