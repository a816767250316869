use Rattle.std.proofs.Common.{length}
use Rattle.lg_selx_values.proofs.values.+saved_items.Given as goal

-- the choices that are left
abbrev pub decreases-saved_items : goal.decreases-saved_items
decreases-saved_items l = length l.choices.now
