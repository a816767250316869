use Rattle.std.proofs.Common.{◌≡◌, Option, subst, arith, IfNone}
use Rattle.std.proofs.lemmas.Bool.Decides.{nat_tests}
use Rattle.lg_meaning.specs.States.{State}
use Rattle.lg_meaning.specs.Texts.{step, line_at}
use Rattle.lg_mean.specs.declared.mean_step.MeanStep.{MeanStep}
use Rattle.lg_mean.specs.declared.mean_step.MeanStep.TheVariants as mean
use Rattle.lg_mean.specs.Says.{Steps}
use Rattle.lg_mean.specs.Machines.{state_of}
use Rattle.lg_mean.specs.Programs.{LabelTable}
use Rattle.lg_mean.proofs.ResolvedLemmas.{goes_says, if_none}
use Rattle.lg_mean.proofs.RunLemmas.{none_gone, one_gone}
use Rattle.lg_mean.proofs.portable.Portable.go.Goals as goal

pub returns-then-run_resolved-eq1-clause-says : goal.returns-then-run_resolved-eq1-clause-says
returns-then-run_resolved-eq1-clause-says g c =
    let l = c.args.unit.now.nodes in
    let shape = c.args.shape.now in
    let A = c.args.self.now.labels.addresses in
    let s = state_of c.args.self.now.machine in
    let u = state_of c.run_resolved.new.self.machine in
    let out = g.O.Sink.taken c.args.out.now in
    let faults = g.O.Sink.faults c.args.out.now in
    let one : c.run_resolved.result ≡ 1 = grind (arith, nat_tests, c.if-run_resolved-eq1.true) in
    if_none c.args.self.now.over (Steps (step l shape A s) (line_at l s) s mean.Went u out out faults faults)
    (goes_says l shape A s u (line_at l s) out faults (one_gone (step l shape A) c.run_resolved.result s u one c.run_resolved.ensures.goes))

pub returns-clause-says : goal.returns-clause-says
returns-clause-says g c =
    let l = c.args.unit.now.nodes in
    let shape = c.args.shape.now in
    let A = c.args.self.now.labels.addresses in
    let s = state_of c.args.self.now.machine in
    let m = c.run_resolved.new.self in
    let t = state_of m.machine in
    let u = state_of c.step_by_node.new.self.machine in
    let out = g.O.Sink.taken c.args.out.now in
    let out' = g.O.Sink.taken c.step_by_node.new.out in
    let faults = g.O.Sink.faults c.args.out.now in
    let faults' = g.O.Sink.faults c.step_by_node.new.out in
    let answer = c.step_by_node.result in
    let few = c.run_resolved.ensures.few in
    let none : c.run_resolved.result ≡ 0 = grind (arith, nat_tests, few, c.if-run_resolved-eq1.false) in
    let now : Steps (step l shape m.labels.addresses t) (line_at l t) t answer u out out' faults faults' =
    subst (λ (o : Option MeanStep). IfNone o (Steps (step l shape m.labels.addresses t) (line_at l t) t answer u out out' faults faults')) c.run_resolved.ensures.over c.step_by_node.ensures.says in
    if_none c.args.self.now.over (Steps (step l shape A s) (line_at l s) s answer u out out' faults faults')
    (subst (λ (x : State). Steps (step l shape A x) (line_at l x) x answer u out out' faults faults') (none_gone (step l shape A) c.run_resolved.result s t none c.run_resolved.ensures.goes)
    (subst (λ (x : LabelTable). Steps (step l shape x.addresses t) (line_at l t) t answer u out out' faults faults') c.run_resolved.ensures.labels now))
