use Rattle.std.proofs.Common.{sym, ◌∙◌}
use Rattle.lg_pre.proofs.expander.Expander.flush_lines.Goals as goal

pub returns-then-is_skipping : goal.returns-then-is_skipping
returns-then-is_skipping c = rw (sym c.is_skipping.ensures ∙ c.if-is_skipping.true) c.feed_lines.ensures

pub returns-else-is_skipping : goal.returns-else-is_skipping
returns-else-is_skipping c = rw (sym c.is_skipping.ensures ∙ c.if-is_skipping.false) c.give_lines.ensures
