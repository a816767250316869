use Rattle.std.proofs.Common.{drop, ap, sym, ◌∙◌}
use Rattle.std.proofs.lemmas.Slice.{between_is}
use Rattle.lg_macro.proofs.pieces.cut.Goals as goal

pub returns-then-from-gt0 : goal.returns-then-from-gt0
returns-then-from-gt0 g c = c.drop_front.ensures ∙ ap (drop c.args.from) c.truncate.ensures.items ∙ sym (between_is c.args.items.now.items c.args.from c.args.end)
