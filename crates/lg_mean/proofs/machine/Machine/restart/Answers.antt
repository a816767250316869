use Rattle.std.proofs.Common.{ℕ, ap, ◌∙◌, length}
use Rattle.lg_meaning.specs.States.{Frame, State}
use Rattle.lg_meaning.specs.Starts.{entry_frame, outside_stack}
use Rattle.lg_meaning.specs.Steps.{started}
use Rattle.lg_mean.specs.Machines.{state_of, frame_in}
use Rattle.lg_va.specs.Calls.{calling_stack}
use Rattle.lg_mean.proofs.EnteringLemmas.{restarted}
use Rattle.lg_mean.proofs.machine.Machine.restart.Goals as goal

pub returns : goal.returns
returns c =
    let s = state_of c.args.self.now in
    let t = state_of c.close_frames.new.self in
    let words = c.args.words.now in
    let closed = c.close_frames.ensures in
    c.put_first.ensures
    ∙ ap (λ (u : State). record u { frame = frame_in c.entry_frame.result; mem = outside_stack u.mem }) c.start.ensures
    ∙ ap (λ (f : Frame). record (started t c.args.node) { frame = f; mem = outside_stack t.mem }) (c.entry_frame.ensures ∙ ap (λ (sp : ℕ). entry_frame sp words) c.calling_stack.ensures)
    ∙ restarted s t c.args.node (calling_stack (length words)) words closed.alone closed.alike
