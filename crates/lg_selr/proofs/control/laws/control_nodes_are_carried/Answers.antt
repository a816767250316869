use Rattle.lg_selr.proofs.OfControl.ControlLemmas.{control-nodes-carry}
use Rattle.lg_selr.proofs.control.laws.control_nodes_are_carried.Goals as goal

pub returns : goal.returns
returns c = control-nodes-carry
