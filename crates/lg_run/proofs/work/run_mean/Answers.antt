use Rattle.std.proofs.Common.{◌≡◌, ap, ◌∙◌, subst}
use Rattle.lg_base.specs.Arguments.{args_of, texts_of}
use Rattle.lg_command.specs.Commands.{shown}
use Rattle.lg_meaning.specs.Means as means
use Rattle.lg_meaning.specs.Starts.{start_state}
use Rattle.lg_mean.specs.Machines.{state_of}
use Rattle.lg_io.specs.SinkChanges.{on_sink}
use Rattle.lg_run.specs.Means.{meaning_from}
use Rattle.lg_run.specs.Runs.{MeanSays}
use Rattle.lg_run.specs.Says.{code_meaning}
use Rattle.lg_run.proofs.WorkLemmas.{mean_started, shape_is}
use Rattle.lg_run.proofs.work.run_mean.Goals as goal

pub returns-in-Ok-clause-says : goal.returns-in-Ok-clause-says
returns-in-Ok-clause-says g c =
    let unit = c.args.text.now.unit in
    let shape = c.args.text.now.shape in
    let command = shown c.args.command.now in
    let code = c.args.code.now in
    let out = on_sink g.O.Sink.taken g.O.Sink.faults c.args.out.now c.run_meaning.new.out in
    let made = c.in-Ok.ensures in
    let start : state_of c.in-Ok.machine.machine ≡ start_state unit.image (args_of (texts_of c.args.command.now.arguments.items)) = made.start ∙ ap (start_state unit.image) c.requires.args in
    let labels : c.in-Ok.machine.labels.addresses ≡ code.labels = made.addresses ∙ c.labels-2.ensures in
    let same : meaning_from unit.nodes shape c.in-Ok.machine ≡ code_meaning command code unit =
    λ i n. means.mean_from unit.nodes (shape_is unit.nodes shape c.requires.checked i) (labels i) (start i) n in
    mean_started command code unit out c.run_meaning.result.steps c.run_meaning.result.answer
    (subst (λ m. MeanSays unit.nodes m command.steps c.run_meaning.result.steps out c.run_meaning.result.answer) same c.run_meaning.ensures.says)
