use Rattle.lg_meaning.proofs.FrameLemmas.{frame_runs, frame_begins}
use Rattle.lg_meaning.proofs.laws.running_frames_are_of_their_functions.Goals as goal

pub returns : goal.returns
returns c = λ l shape s p is fits h.
    let w = c.accepted_nodes_are_well_shaped.ensures l is.accepted in
    let has = c.accepted_nodes_have_functions.ensures l is.accepted in
    (frame_runs l shape s p is w has fits h, frame_begins l shape s p is w has fits h)
