use Rattle.std.proofs.Common.{◌∙◌, ap}
use Rattle.lg_cpu.specs.Machines.{shown_at_start}
use Rattle.lg_run.specs.Says.{trash_word}
use Rattle.lg_run.proofs.profile.begin.Goals as goal

pub returns : goal.returns
returns c =
    let unit = c.args.text.now.unit in
    let machine = c.in_ok-machine.ensures in
    let tally = c.in_ok-tally.ensures in
    record {
      stands = record {
        below = tally.below;
        some = tally.some;
        ran = tally.ran;
        spent = tally.spent;
        fits = machine.fits;
        made = machine.made;
        running = machine.running;
        steps = machine.steps;
      };
      cpu = c.in_ok-cpu.ensures
          ∙ ap (λ t. shown_at_start t c.bytes.result.now.items unit.image c.args.args.now trash_word) c.target.ensures.value
          ∙ ap (λ b. shown_at_start c.args.code.now.target b unit.image c.args.args.now trash_word) c.bytes.ensures;
      lines = c.in_ok-lines.ensures;
      state = machine.start;
      addresses = machine.addresses ∙ c.labels-2.ensures;
    }
