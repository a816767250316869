use Rattle.std.proofs.Common.{◌≡◌, subst, arith}
use Rattle.std.proofs.lemmas.Bool.Decides.{nat_tests}
use Rattle.lg_cpu.specs.Machines.{Inner, StepSays, effect_in}
use Rattle.lg_cpu.specs.declared.answer.CpuStep.TheVariants as cpu
use Rattle.lg_cpu.proofs.SaysLemmas.{says-quiet}
use Rattle.lg_cpu.proofs.SeriesLemmas.{none_but_one, none_went, one_went}
use Rattle.lg_cpu.proofs.series.step.Goals as goal

pub returns-then-went-eq1-clause-says : goal.returns-then-went-eq1-clause-says
returns-then-went-eq1-clause-says g c =
    let p = g.P.Stepping.inner c.args.processor.now in
    let x = c.execute_code-answer in
    let q = g.P.Stepping.inner x.new.processor in
    let one : x.result.went ≡ 1 = grind (arith, nat_tests, c.if-went-eq1.true) in
    says-quiet (effect_in p) p q (g.O.Sink.taken c.args.out.now) (g.O.Sink.faults c.args.out.now) cpu.Went (one_went p q x.result.answer x.result.went one x.ensures.executes)

pub returns-in-Went-clause-says : goal.returns-in-Went-clause-says
returns-in-Went-clause-says g c =
    let p = g.P.Stepping.inner c.args.processor.now in
    let x = c.execute_code-answer in
    let q = g.P.Stepping.inner x.new.processor in
    let few = x.ensures.executes.few in
    let none : x.result.went ≡ 0 = grind (arith, nat_tests, few, c.if-went-eq1.false) in
    subst (λ (y : Inner). StepSays (effect_in y) y (g.P.Stepping.inner c.step_elsewhere.new.self) (g.O.Sink.taken c.args.out.now) (g.O.Sink.taken c.step_elsewhere.new.out)
    (g.O.Sink.faults c.args.out.now) (g.O.Sink.faults c.step_elsewhere.new.out) c.step_elsewhere.result) (none_went p q x.result.answer x.result.went none x.ensures.executes c.in-Went.is)
    c.step_elsewhere.ensures.says

pub returns-in_default : goal.returns-in_default
returns-in_default g c =
    let p = g.P.Stepping.inner c.args.processor.now in
    let x = c.execute_code-answer in
    let q = g.P.Stepping.inner x.new.processor in
    let few = x.ensures.executes.few in
    let none : x.result.went ≡ 0 = grind (arith, nat_tests, few, c.if-went-eq1.false) in
    record {
      says = says-quiet (effect_in p) p q (g.O.Sink.taken c.args.out.now) (g.O.Sink.faults c.args.out.now) x.result.answer
          (none_but_one p q x.result.answer x.result.went none x.ensures.executes c.in_default.not-Went);
      later = omega arith;
    }
