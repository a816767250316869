use Rattle.std.proofs.Common.{sym, ◌∙◌}
use Rattle.lg_pre.proofs.EarlyLemmas.{feeds_leads}
use Rattle.lg_pre.proofs.expander.Expander.give_early.Goals as goal

pub returns-then-is_skipping : goal.returns-then-is_skipping
returns-then-is_skipping c = feeds_leads c.feed_lines.result c.args.self.now c.feed_lines.new.self (sym c.is_skipping.ensures ∙ c.if-is_skipping.true) c.feed_lines.ensures
