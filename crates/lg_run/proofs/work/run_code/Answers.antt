use Rattle.std.proofs.Common.{◌≡◌, ℕ, ◌∙◌, ap, subst}
use Rattle.lg_command.specs.Commands.{shown as shown_command}
use Rattle.lg_cpu.specs.Machines.{shown, shown_at_start}
use Rattle.lg_cpu.specs.States.{CpuState}
use Rattle.lg_cpu.specs.Steps.{Run}
use Rattle.lg_io.specs.SinkChanges.{on_sink}
use Rattle.lg_cpu.specs.Series.{run_from}
use Rattle.lg_run.specs.Runs.{RunSays}
use Rattle.lg_run.specs.Says.{code_run, trash_word}
use Rattle.lg_run.proofs.WorkLemmas.{run_started}
use Rattle.lg_run.proofs.work.run_code.Goals as goal

pub returns-in-Ok-clause-says : goal.returns-in-Ok-clause-says
returns-in-Ok-clause-says g c =
    let unit = c.args.text.now.unit in
    let command = shown_command c.args.command.now in
    let code = c.args.code.now in
    let started = c.in-Ok.ensures
    ∙ ap (λ t. shown_at_start t c.bytes.result.now.items unit.image c.args.args.now trash_word) (c.target.ensures.value ∙ c.requires.target)
    ∙ ap (λ b. shown_at_start command.target b unit.image c.args.args.now trash_word) c.bytes.ensures
    ∙ ap (λ a. shown_at_start command.target code.bytes unit.image a trash_word) c.requires.args in
    let runs : run_from (shown c.in-Ok.cpu) ≡ code_run command code unit = ap run_from started in
    let out = on_sink g.O.Sink.taken g.O.Sink.faults c.args.out.now c.run.new.out in
    run_started command code unit out c.run.result.steps c.run.result.answer (subst (λ (f : ℕ → Run CpuState). RunSays f command.steps c.run.result.steps out c.run.result.answer) runs c.run.ensures.says)
