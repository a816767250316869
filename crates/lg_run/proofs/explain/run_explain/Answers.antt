use Rattle.std.proofs.Common.{◌≡◌, ℕ, List, ap, ◌∙◌, subst}
use Rattle.lg_base.specs.Arguments.{args_of, texts_of}
use Rattle.lg_carry.specs.Agreement.{shape_of_unit}
use Rattle.lg_command.specs.Commands.{shown}
use Rattle.lg_meaning.specs.Means as means
use Rattle.lg_meaning.specs.Starts.{start_state}
use Rattle.lg_mean.specs.Machines.{state_of}
use Rattle.lg_node.specs.Shapes.{TextShape}
use Rattle.lg_io.specs.SinkChanges.{on_sink}
use Rattle.lg_run.specs.Explanations.{StuckWhere, is_undefined}
use Rattle.lg_run.specs.Means.{meaning_from}
use Rattle.lg_run.specs.Runs.{MeanSays}
use Rattle.lg_run.specs.Says.{code_meaning}
use Rattle.lg_run.proofs.ExplainLemmas.{explain_tells}
use Rattle.lg_run.proofs.WorkLemmas.{mean_started, shape_is}
use Rattle.lg_run.proofs.explain.run_explain.Goals as goal

pub returns-in-Ok-clause-says : goal.returns-in-Ok-clause-says
returns-in-Ok-clause-says g c =
    let unit = c.args.text.now.unit in
    let shape = c.args.text.now.shape in
    let command = shown c.args.command.now in
    let code = c.args.code.now in
    let ran = c.run_explained.result.ran in
    let out = on_sink g.O.Sink.taken g.O.Sink.faults c.args.out.now c.run_explained.new.out in
    let made = c.in-Ok.ensures in
    let start : state_of c.in-Ok.machine.machine ≡ start_state unit.image (args_of (texts_of c.args.command.now.arguments.items)) = made.start ∙ ap (start_state unit.image) c.requires.args in
    let labels : c.in-Ok.machine.labels.addresses ≡ code.labels = made.addresses ∙ c.labels-2.ensures in
    let same : meaning_from unit.nodes shape c.in-Ok.machine ≡ code_meaning command code unit =
    λ i n. means.mean_from unit.nodes (shape_is unit.nodes shape c.requires.checked i) (labels i) (start i) n in
    mean_started command code unit out ran.steps ran.answer
    (subst (λ m. MeanSays unit.nodes m command.steps ran.steps out ran.answer) same c.run_explained.ensures.says)

pub returns-in-Ok-clause-told : goal.returns-in-Ok-clause-told
returns-in-Ok-clause-told g c =
    let unit = c.args.text.now.unit in
    let shape = c.args.text.now.shape in
    let command = shown c.args.command.now in
    let code = c.args.code.now in
    let p = c.run_explained.result in
    let made = c.in-Ok.ensures in
    let start : state_of c.in-Ok.machine.machine ≡ start_state unit.image (args_of (texts_of c.args.command.now.arguments.items)) = made.start ∙ ap (start_state unit.image) c.requires.args in
    let labels : c.in-Ok.machine.labels.addresses ≡ code.labels = made.addresses ∙ c.labels-2.ensures in
    let shaped : shape ≡ shape_of_unit unit = shape_is unit.nodes shape c.requires.checked in
    explain_tells command code unit p c.requires.explain c.run_explained.ensures.none
    (subst (λ (x : TextShape × List ℕ). StuckWhere (is_undefined p.ran.answer) unit.nodes x.0 x.1 (code_meaning command code unit p.ran.steps).state p.stuck) (λ i. (shaped i, labels i))
    (subst (λ s. StuckWhere (is_undefined p.ran.answer) unit.nodes shape c.in-Ok.machine.labels.addresses s p.stuck) (λ i. (means.mean_from unit.nodes (shaped i) (labels i) (start i) p.ran.steps).state) c.run_explained.ensures.stuck))
