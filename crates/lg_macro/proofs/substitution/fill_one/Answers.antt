use Rattle.std.proofs.Common.{refl, sym, ◌∙◌}
use Rattle.lg_macro.specs.Pieces.{piece_at}
use Rattle.lg_macro.specs.Substitution.{stands}
use Rattle.lg_macro.proofs.FillLemmas.{filled_glued, filled_apart, filled_settled}
use Rattle.lg_macro.proofs.substitution.fill_one.Goals as goal

pub returns-then-mark : goal.returns-then-mark
returns-then-mark c = filled_glued c.args.line c.args.at c.args.entry.now.body c.args.entry.now.marks c.args.raw.now c.args.full.now c.args.done.now c.args.now.now c.in_ok-part.part c.in_ok-now.field-0 c.at-mark.result c.requires.body c.requires.marks c.at-mark.ensures c.if-mark.true c.in_ok-part.ensures c.in_ok-now.ensures

pub returns-then-is_glued : goal.returns-then-is_glued
returns-then-is_glued c = filled_apart c.args.line c.args.at c.args.entry.now.body c.args.entry.now.marks c.args.raw.now c.args.full.now c.args.done.now c.args.now.now c.push_part.new.out c.append.new.self c.at-mark.result c.requires.body c.requires.marks c.at-mark.ensures c.if-mark.false (rw c.clear.ensures at c.in_ok-push_part.ensures) c.in_ok-append.ensures

pub returns : goal.returns
returns c = rw c.clear.ensures (filled_settled c.args.line c.args.at c.args.entry.now.body c.args.entry.now.marks c.args.raw.now c.args.full.now c.args.done.now c.args.now.now (stands c.args.raw.now c.args.full.now c.args.line (piece_at c.args.entry.now.body c.args.at) c.at-mark.result) c.push_part-2.new.out c.at-mark.result c.requires.body c.requires.marks c.at-mark.ensures c.if-mark.false refl (sym c.is_glued.ensures ∙ c.if-is_glued.false) (rw c.in_ok-append.ensures at c.in_ok-push_part-2.ensures))
