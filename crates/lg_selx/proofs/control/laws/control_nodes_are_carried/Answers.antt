use Rattle.lg_selx.proofs.OfControl.ControlLemmas.{control-nodes-carry}
use Rattle.lg_selx.proofs.control.laws.control_nodes_are_carried.Goals as goal

pub returns : goal.returns
returns c = control-nodes-carry
