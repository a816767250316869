use Rattle.std.proofs.Common.{◌-◌, subst, sym}
use Rattle.lg_cpu.specs.LineCounts.{Adds}
use Rattle.lg_cpu.specs.Machines.{inner, shown_of}
use Rattle.lg_cpu.specs.Series.{Advances, run_from}
use Rattle.lg_cpu.proofs.cpu.Cpu.advance.Goals as goal

pub returns : goal.returns
returns g c =
    let p = inner c.args.self.now.processor in
    let x = c.run-answer in
    let new = shown_of (inner x.new.self) x.result.answer x.result.steps in
    record {
      says = subst (λ a. Advances (shown_of p a c.args.self.now.steps) new c.args.most (g.O.Sink.taken c.args.out.now) (g.O.Sink.taken x.new.out) (g.O.Sink.faults c.args.out.now)
          (g.O.Sink.faults x.new.out) x.result.answer) (sym c.requires.going) x.ensures.says;
      later = x.ensures.later;
      counts = subst (λ a. Adds c.args.lines.now (run_from (shown_of p a c.args.self.now.steps)) (x.result.steps - c.args.self.now.steps) c.args.counts.now x.new.counts) (sym c.requires.going)
          x.ensures.counts;
    }
