use Rattle.std.proofs.Common.{subst, sym}
use Rattle.lg_cpu.specs.Machines.{shown}
use Rattle.lg_cpu.specs.Series.{AdvancesAfter}
use Rattle.lg_cpu.proofs.LineCountLemmas.{adds_over}
use Rattle.lg_cpu.proofs.cpu.Cpu.run_counted.Goals as goal

pub returns-in-Went-clause-says : goal.returns-in-Went-clause-says
returns-in-Went-clause-says g c = subst (λ a. AdvancesAfter a (shown c.args.self.now) (shown c.advance.new.self) c.args.most (g.O.Sink.taken c.args.out.now) (g.O.Sink.taken c.advance.new.out)
    (g.O.Sink.faults c.args.out.now) (g.O.Sink.faults c.advance.new.out) c.advance.result) (sym c.in-Went.is) c.advance.ensures.says

pub returns-in_default-clause-counts : goal.returns-in_default-clause-counts
returns-in_default-clause-counts g c = adds_over _ _ _ _
