use Rattle.std.proofs.Common.{◌≡◌, ℕ, ◌∙◌, ap, refl, sym, subst}
use Rattle.lg_base.specs.Arguments.{args_of}
use Rattle.lg_command.specs.Commands.{shown as shown_command}
use Rattle.lg_command.specs.Plans.{report_of}
use Rattle.lg_cpu.specs.Machines.{shown, shown_at_start}
use Rattle.lg_cpu.specs.Series.{run_from}
use Rattle.lg_cpu.specs.States.{CpuState}
use Rattle.lg_cpu.specs.Steps.{Run}
use Rattle.lg_io.specs.SinkChanges.{on_sink}
use Rattle.lg_mean.specs.Machines.{state_of}
use Rattle.lg_meaning.specs.Means as means
use Rattle.lg_run.specs.Explanations.{StuckFor, tells_stuck}
use Rattle.lg_run.specs.ProfileStarts.{IsStartOf}
use Rattle.lg_run.specs.Profiles.{TableFor, is_run_end, table_of}
use Rattle.lg_run.specs.Runs.{RunSays}
use Rattle.lg_run.specs.Says.{code_meaning, code_run, trash_word}
use Rattle.lg_run.proofs.ProfileLemmas.{final_below, table_lines_below, told, told_in_profile}
use Rattle.lg_run.proofs.WorkLemmas.{run_started, shape_is}
use Rattle.lg_run.proofs.profile.run_profile.Goals as goal

pub run_start-requires-clause-lines : goal.run_start-requires-clause-lines
run_start-requires-clause-lines g c =
    let code = c.args.code.now in
    let e = c.in-Ok.ensures in
    table_lines_below code.nodes.nodes code.places c.in-Ok.start.lines _ c.target.ensures.code.ordered.long e.lines
    (final_below c.args.text.now.unit.nodes code.nodes code.origin _ c.requires.rewritten.from e.stands.below)

pub returns-in-Ok-clause-says : goal.returns-in-Ok-clause-says
returns-in-Ok-clause-says g c =
    let unit = c.args.text.now.unit in
    let command = shown_command c.args.command.now in
    let code = c.args.code.now in
    let started = c.in-Ok.ensures.cpu
    ∙ ap (λ t. shown_at_start t code.bytes unit.image c.args.args.now trash_word) c.requires.target
    ∙ ap (λ a. shown_at_start command.target code.bytes unit.image a trash_word) c.requires.args in
    let runs : run_from (shown c.in-Ok.start.cpu) ≡ code_run command code unit = ap run_from started in
    let out = on_sink g.O.Sink.taken g.O.Sink.faults c.args.out.now c.run_start.new.out in
    let ran = c.run_start.result.ran in
    run_started command code unit out ran.steps ran.answer (subst (λ (f : ℕ → Run CpuState). RunSays f command.steps ran.steps out ran.answer) runs c.run_start.ensures.says)

pub returns-in-Ok-clause-told : goal.returns-in-Ok-clause-told
returns-in-Ok-clause-told g c =
    let unit = c.args.text.now.unit in
    let shape = c.args.text.now.shape in
    let command = shown_command c.args.command.now in
    let code = c.args.code.now in
    let s = c.in-Ok.start in
    let e : IsStartOf unit shape code (args_of command.arguments) s = subst (λ a. IsStartOf unit shape code a s) c.requires.args c.in-Ok.ensures in
    let started = e.cpu ∙ ap (λ t. shown_at_start t code.bytes unit.image (args_of command.arguments) trash_word) c.requires.target in
    let runs : run_from (shown s.cpu) ≡ code_run command code unit = ap run_from started in
    let meant : means.mean_from unit.nodes shape s.machine.labels.addresses (state_of s.machine.machine) ≡ code_meaning command code unit =
    λ i n. means.mean_from unit.nodes (shape_is unit.nodes shape c.requires.checked i) (e.addresses i) (e.state i) n in
    let ran = c.run_start.result.ran in
    let lines = table_of c.run_start.result.tally in (
      subst (λ b. TableFor b command code unit ran.steps lines) (sym (told_in_profile (report_of command.mode) ran.answer c.requires.profile))
          (told command code unit shape s command.steps e c.target.ensures.code.ordered.long c.tables_have_the_lines.ensures runs meant refl (is_run_end ran.answer) ran.steps c.run_start.result.tally c.run_start.ensures.told),
      subst (λ m. StuckFor (tells_stuck m ran.answer) command code unit ran.steps c.run_start.result.stuck) (sym c.requires.profile) c.run_start.ensures.stuck,
    )
