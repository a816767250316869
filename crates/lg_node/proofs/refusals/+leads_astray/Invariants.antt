use Rattle.std.proofs.Common.{length}
use Rattle.lg_node.proofs.refusals.+leads_astray.Given as goal

abbrev pub decreases-leads_astray : goal.decreases-leads_astray
decreases-leads_astray l = length l.forms.now
