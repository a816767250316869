use Rattle.std.proofs.Common.{◌≡◌, ◌-◌, ◌+◌, arith, refl, sym, subst, ap, length, ◌∙◌}
use Rattle.lg_meaning.specs.Means.{Run, mean_from}
use Rattle.lg_meaning.specs.Texts.{line_at}
use Rattle.lg_mean.specs.declared.mean_step.MeanStep.TheVariants as mean
use Rattle.lg_mean.specs.LineCounts.{AreBelow, CountsSteps}
use Rattle.lg_mean.specs.Machines.{state_of}
use Rattle.lg_mean.proofs.LineLemmas.{counts_all, counts_less, counts_none, counts_some, one_counted, room_left}
use Rattle.lg_mean.proofs.RunLemmas.{starts, goes_at_once, goes_for, then_says, ended, undefined, faulted, counted, running_on}
use Rattle.lg_mean.proofs.portable.Portable.run_counted.Goals as goal

pub loop-taken-init : goal.loop-taken-init
loop-taken-init g c = record {
  fits = c.requires.fits;
  running = c.requires.running;
  labels = refl;
  steps = omega arith;
  goes = goes_at_once _ (state_of c.args.self.now.machine) (g.O.Sink.taken c.args.out.now) (starts c.args.unit.now.nodes c.args.shape.now c.args.self.now.labels.addresses (state_of c.args.self.now.machine));
  same = refl;
  within = omega arith;
  kept = refl;
  ran = counts_none c.args.unit.now.nodes (mean_from c.args.unit.now.nodes c.args.shape.now c.args.self.now.labels.addresses (state_of c.args.self.now.machine)) c.args.ran.now;
}

pub returns-in-Ended-clause-says : goal.returns-in-Ended-clause-says
returns-in-Ended-clause-says g c =
    let l = c.args.unit.now.nodes in
    let i = c.loop-taken.invariant in
    let x = c.run_resolved-taken in
    let m = x.new.self in
    let k = c.loop-taken.taken + x.result in
    let start = state_of c.args.self.now.machine in
    let before = i.steps in
    let led = x.ensures.steps in
    let there = goes_for l c.args.shape.now c.args.self.now.labels c.loop-taken.self.labels start c.loop-taken.taken x.result (state_of c.loop-taken.self.machine) (state_of m.machine) (g.O.Sink.taken c.args.out.now) (g.O.Sink.taken c.loop-taken.out) i.labels i.goes x.ensures.goes in
    let runs = mean_from l c.args.shape.now c.args.self.now.labels.addresses start in
    let steps = counted m.over m.steps c.step_by_node.new.self.steps c.step_by_node.result (mean.Ended c.in-Ended.status) x.ensures.over c.in-Ended.is c.step_by_node.ensures.steps in
    ended runs (line_at l) k (c.step_by_node.new.self.steps - c.args.self.now.steps) c.args.most (state_of c.step_by_node.new.self.machine) _ _ (g.O.Sink.faults c.args.out.now) (g.O.Sink.faults c.step_by_node.new.out) c.in-Ended.status (omega (arith, steps, before, led)) c.if-taken-most.true
    (then_says c.steps_are_those_of_the_meaning.ensures l c.args.shape.now c.args.self.now.labels m.labels start k (line_at l) (state_of m.machine) (state_of c.step_by_node.new.self.machine) m.over c.step_by_node.result (mean.Ended c.in-Ended.status) _ _ _ _ _ x.ensures.over (x.ensures.labels ∙ i.labels) c.in-Ended.is there c.step_by_node.ensures.says)

pub returns-in-Undefined-clause-says : goal.returns-in-Undefined-clause-says
returns-in-Undefined-clause-says g c =
    let l = c.args.unit.now.nodes in
    let i = c.loop-taken.invariant in
    let x = c.run_resolved-taken in
    let m = x.new.self in
    let k = c.loop-taken.taken + x.result in
    let start = state_of c.args.self.now.machine in
    let before = i.steps in
    let led = x.ensures.steps in
    let there = goes_for l c.args.shape.now c.args.self.now.labels c.loop-taken.self.labels start c.loop-taken.taken x.result (state_of c.loop-taken.self.machine) (state_of m.machine) (g.O.Sink.taken c.args.out.now) (g.O.Sink.taken c.loop-taken.out) i.labels i.goes x.ensures.goes in
    let runs = mean_from l c.args.shape.now c.args.self.now.labels.addresses start in
    let steps = counted m.over m.steps c.step_by_node.new.self.steps c.step_by_node.result (mean.Undefined c.in-Undefined.line) x.ensures.over c.in-Undefined.is c.step_by_node.ensures.steps in
    undefined runs (line_at l) k (c.step_by_node.new.self.steps - c.args.self.now.steps) c.args.most (state_of c.step_by_node.new.self.machine) _ _ (g.O.Sink.faults c.args.out.now) (g.O.Sink.faults c.step_by_node.new.out) c.in-Undefined.line (omega (arith, steps, before, led)) c.if-taken-most.true
    (then_says c.steps_are_those_of_the_meaning.ensures l c.args.shape.now c.args.self.now.labels m.labels start k (line_at l) (state_of m.machine) (state_of c.step_by_node.new.self.machine) m.over c.step_by_node.result (mean.Undefined c.in-Undefined.line) _ _ _ _ _ x.ensures.over (x.ensures.labels ∙ i.labels) c.in-Undefined.is there c.step_by_node.ensures.says)

pub returns-in-WriteFault-clause-says : goal.returns-in-WriteFault-clause-says
returns-in-WriteFault-clause-says g c =
    let l = c.args.unit.now.nodes in
    let i = c.loop-taken.invariant in
    let x = c.run_resolved-taken in
    let m = x.new.self in
    let k = c.loop-taken.taken + x.result in
    let start = state_of c.args.self.now.machine in
    let before = i.steps in
    let led = x.ensures.steps in
    let there = goes_for l c.args.shape.now c.args.self.now.labels c.loop-taken.self.labels start c.loop-taken.taken x.result (state_of c.loop-taken.self.machine) (state_of m.machine) (g.O.Sink.taken c.args.out.now) (g.O.Sink.taken c.loop-taken.out) i.labels i.goes x.ensures.goes in
    let runs = mean_from l c.args.shape.now c.args.self.now.labels.addresses start in
    let steps = counted m.over m.steps c.step_by_node.new.self.steps c.step_by_node.result mean.WriteFault x.ensures.over c.in-WriteFault.is c.step_by_node.ensures.steps in
    faulted runs (line_at l) k (c.step_by_node.new.self.steps - c.args.self.now.steps) c.args.most (state_of c.step_by_node.new.self.machine) _ _ (g.O.Sink.faults c.args.out.now) (g.O.Sink.faults c.step_by_node.new.out) (g.O.Sink.faults c.loop-taken.out) (omega (arith, i.same)) (omega (arith, steps, before, led)) c.if-taken-most.true
    (then_says c.steps_are_those_of_the_meaning.ensures l c.args.shape.now c.args.self.now.labels m.labels start k (line_at l) (state_of m.machine) (state_of c.step_by_node.new.self.machine) m.over c.step_by_node.result mean.WriteFault _ _ _ _ _ x.ensures.over (x.ensures.labels ∙ i.labels) c.in-WriteFault.is there c.step_by_node.ensures.says)

pub loop-taken-preserved-in-Went : goal.loop-taken-preserved-in-Went
loop-taken-preserved-in-Went g c =
    let l = c.args.unit.now.nodes in
    let i = c.loop-taken.invariant in
    let x = c.run_resolved-taken in
    let m = x.new.self in
    let k = c.loop-taken.taken + x.result in
    let start = state_of c.args.self.now.machine in
    let before = i.steps in
    let led = x.ensures.steps in
    let there = goes_for l c.args.shape.now c.args.self.now.labels c.loop-taken.self.labels start c.loop-taken.taken x.result (state_of c.loop-taken.self.machine) (state_of m.machine) (g.O.Sink.taken c.args.out.now) (g.O.Sink.taken c.loop-taken.out) i.labels i.goes x.ensures.goes in
    record {
      fits = c.step_by_node.ensures.fits;
      running = running_on m.over c.step_by_node.new.self.over c.step_by_node.result mean.Went x.ensures.over c.in-Went.is c.step_by_node.ensures.over;
      labels = c.step_by_node.ensures.labels ∙ (x.ensures.labels ∙ i.labels);
      steps = omega (arith, before, led, counted m.over m.steps c.step_by_node.new.self.steps c.step_by_node.result mean.Went x.ensures.over c.in-Went.is c.step_by_node.ensures.steps);
      goes = then_says c.steps_are_those_of_the_meaning.ensures l c.args.shape.now c.args.self.now.labels m.labels start k (line_at l) (state_of m.machine) (state_of c.step_by_node.new.self.machine) m.over c.step_by_node.result mean.Went _ _ _ (g.O.Sink.faults c.loop-taken.out) (g.O.Sink.faults c.step_by_node.new.out) x.ensures.over (x.ensures.labels ∙ i.labels) c.in-Went.is there c.step_by_node.ensures.says;
      same = (rw c.in-Went.is at c.step_by_node.ensures.kept) ∙ i.same;
      within = omega (arith, c.if-taken-most.true);
      kept = x.ensures.kept ∙ i.kept;
      ran = counts_some l c.args.shape.now c.args.self.now.labels c.loop-taken.self.labels start (state_of c.loop-taken.self.machine) c.loop-taken.taken x.result c.args.most (g.O.Sink.taken c.args.out.now) (g.O.Sink.taken c.loop-taken.out) c.args.ran.now c.loop-taken.ran x.new.ran i.labels i.kept i.goes i.ran x.ensures.ran c.if-taken-most.true;
    }

pub loop-taken-preserved : goal.loop-taken-preserved
loop-taken-preserved g c =
    let l = c.args.unit.now.nodes in
    let i = c.loop-taken.invariant in
    let x = c.run_resolved-taken in
    let m = x.new.self in
    let k = c.loop-taken.taken + x.result in
    let start = state_of c.args.self.now.machine in
    let before = i.steps in
    let led = x.ensures.steps in
    let there = goes_for l c.args.shape.now c.args.self.now.labels c.loop-taken.self.labels start c.loop-taken.taken x.result (state_of c.loop-taken.self.machine) (state_of m.machine) (g.O.Sink.taken c.args.out.now) (g.O.Sink.taken c.loop-taken.out) i.labels i.goes x.ensures.goes in
    let few = x.ensures.few in
    record {
      fits = x.ensures.fits;
      running = x.ensures.over;
      labels = x.ensures.labels ∙ i.labels;
      steps = omega (arith, before, led);
      goes = there;
      same = i.same;
      within = omega (arith, few, c.loop-taken-test.true);
      kept = x.ensures.kept ∙ i.kept;
      ran = counts_all l c.args.shape.now c.args.self.now.labels c.loop-taken.self.labels start (state_of c.loop-taken.self.machine) c.loop-taken.taken x.result c.args.most (g.O.Sink.taken c.args.out.now) (g.O.Sink.taken c.loop-taken.out) c.args.ran.now c.loop-taken.ran x.new.ran i.labels i.kept i.goes i.ran x.ensures.ran (omega (arith, c.if-taken-most.false));
    }

pub returns-clause-says : goal.returns-clause-says
returns-clause-says g c =
    let i = c.loop-taken.invariant in
    let within = i.within in
    let all : c.loop-taken.taken ≡ c.args.most = omega (arith, c.loop-taken-test.false, within) in
    let n : c.loop-taken.self.steps - c.args.self.now.steps ≡ c.loop-taken.taken = omega (arith, i.steps) in
    rw n (all, i.goes)

pub run_resolved-taken-requires-clause-lines : goal.run_resolved-taken-requires-clause-lines
run_resolved-taken-requires-clause-lines g c = λ some.
    let kept = c.loop-taken.invariant.kept in
    subst (AreBelow c.args.unit.now.nodes.nodes) (sym kept) (c.requires.lines (omega (arith, kept, some)))

pub run_resolved-taken-requires-clause-room : goal.run_resolved-taken-requires-clause-room
run_resolved-taken-requires-clause-room g c =
    let l = c.args.unit.now.nodes in
    let i = c.loop-taken.invariant in
    let runs = mean_from l c.args.shape.now c.args.self.now.labels.addresses (state_of c.args.self.now.machine) in
    room_left l runs c.loop-taken.taken c.args.most c.args.ran.now c.loop-taken.ran i.kept i.within c.requires.room i.ran

pub returns-in-Ended-clause-ran : goal.returns-in-Ended-clause-ran
returns-in-Ended-clause-ran g c =
    let l = c.args.unit.now.nodes in
    let i = c.loop-taken.invariant in
    let x = c.run_resolved-taken in
    let m = x.new.self in
    let k = c.loop-taken.taken + x.result in
    let start = state_of c.args.self.now.machine in
    let runs = mean_from l c.args.shape.now c.args.self.now.labels.addresses start in
    let before = i.steps in
    let led = x.ensures.steps in
    let steps = counted m.over m.steps c.step_by_node.new.self.steps c.step_by_node.result (mean.Ended c.in-Ended.status) x.ensures.over c.in-Ended.is c.step_by_node.ensures.steps in
    let n : k + 1 ≡ c.step_by_node.new.self.steps - c.args.self.now.steps = omega (arith, steps, before, led) in
    subst (λ n. CountsSteps l runs n c.args.ran.now x.new.ran) n (counts_some l c.args.shape.now c.args.self.now.labels c.loop-taken.self.labels start (state_of c.loop-taken.self.machine) c.loop-taken.taken x.result c.args.most (g.O.Sink.taken c.args.out.now) (g.O.Sink.taken c.loop-taken.out) c.args.ran.now c.loop-taken.ran x.new.ran i.labels i.kept i.goes i.ran x.ensures.ran c.if-taken-most.true)

pub take_back-requires-clause-here : goal.take_back-requires-clause-here
take_back-requires-clause-here g c = c.step_by_node.ensures.fits.inside

pub take_back-requires-clause-lines : goal.take_back-requires-clause-lines
take_back-requires-clause-lines g c = λ some.
    let kept : length c.run_resolved-taken.new.ran ≡ length c.args.ran.now = c.run_resolved-taken.ensures.kept ∙ c.loop-taken.invariant.kept in
    subst (AreBelow c.args.unit.now.nodes.nodes) (sym kept) (c.requires.lines (omega (arith, kept, some)))

pub take_back-requires-clause-some : goal.take_back-requires-clause-some
take_back-requires-clause-some g c =
    let l = c.args.unit.now.nodes in
    let i = c.loop-taken.invariant in
    let x = c.run_resolved-taken in
    let m = x.new.self in
    let k = c.loop-taken.taken + x.result in
    let start = state_of c.args.self.now.machine in
    let runs = mean_from l c.args.shape.now c.args.self.now.labels.addresses start in
    let there = goes_for l c.args.shape.now c.args.self.now.labels c.loop-taken.self.labels start c.loop-taken.taken x.result (state_of c.loop-taken.self.machine) (state_of m.machine) (g.O.Sink.taken c.args.out.now) (g.O.Sink.taken c.loop-taken.out) i.labels i.goes x.ensures.goes in
    let kept : length x.new.ran ≡ length c.args.ran.now = x.ensures.kept ∙ i.kept in
    let t = then_says c.steps_are_those_of_the_meaning.ensures l c.args.shape.now c.args.self.now.labels m.labels start k (line_at l) (state_of m.machine) (state_of c.step_by_node.new.self.machine) m.over c.step_by_node.result (mean.Undefined c.in-Undefined.line) _ _ _ (g.O.Sink.faults c.loop-taken.out) (g.O.Sink.faults c.step_by_node.new.out) x.ensures.over (x.ensures.labels ∙ i.labels) c.in-Undefined.is there c.step_by_node.ensures.says in
    one_counted l runs k (line_at l (state_of c.step_by_node.new.self.machine)) c.args.ran.now x.new.ran kept (ap (λ (r : Run). line_at l r.state) t.0.stands) (counts_some l c.args.shape.now c.args.self.now.labels c.loop-taken.self.labels start (state_of c.loop-taken.self.machine) c.loop-taken.taken x.result c.args.most (g.O.Sink.taken c.args.out.now) (g.O.Sink.taken c.loop-taken.out) c.args.ran.now c.loop-taken.ran x.new.ran i.labels i.kept i.goes i.ran x.ensures.ran c.if-taken-most.true)

pub returns-in-Undefined-clause-ran : goal.returns-in-Undefined-clause-ran
returns-in-Undefined-clause-ran g c =
    let l = c.args.unit.now.nodes in
    let i = c.loop-taken.invariant in
    let x = c.run_resolved-taken in
    let m = x.new.self in
    let k = c.loop-taken.taken + x.result in
    let start = state_of c.args.self.now.machine in
    let runs = mean_from l c.args.shape.now c.args.self.now.labels.addresses start in
    let there = goes_for l c.args.shape.now c.args.self.now.labels c.loop-taken.self.labels start c.loop-taken.taken x.result (state_of c.loop-taken.self.machine) (state_of m.machine) (g.O.Sink.taken c.args.out.now) (g.O.Sink.taken c.loop-taken.out) i.labels i.goes x.ensures.goes in
    let kept : length x.new.ran ≡ length c.args.ran.now = x.ensures.kept ∙ i.kept in
    let before = i.steps in
    let led = x.ensures.steps in
    let steps = counted m.over m.steps c.step_by_node.new.self.steps c.step_by_node.result (mean.Undefined c.in-Undefined.line) x.ensures.over c.in-Undefined.is c.step_by_node.ensures.steps in
    let t = then_says c.steps_are_those_of_the_meaning.ensures l c.args.shape.now c.args.self.now.labels m.labels start k (line_at l) (state_of m.machine) (state_of c.step_by_node.new.self.machine) m.over c.step_by_node.result (mean.Undefined c.in-Undefined.line) _ _ _ (g.O.Sink.faults c.loop-taken.out) (g.O.Sink.faults c.step_by_node.new.out) x.ensures.over (x.ensures.labels ∙ i.labels) c.in-Undefined.is there c.step_by_node.ensures.says in
    let n : k ≡ c.step_by_node.new.self.steps - c.args.self.now.steps = omega (arith, steps, before, led) in
    subst (λ n. CountsSteps l runs n c.args.ran.now c.take_back.new.ran) n
    (counts_less l runs k (line_at l (state_of c.step_by_node.new.self.machine)) c.args.ran.now x.new.ran c.take_back.new.ran (c.take_back.ensures.kept ∙ kept) (ap (λ (r : Run). line_at l r.state) t.0.stands) (counts_some l c.args.shape.now c.args.self.now.labels c.loop-taken.self.labels start (state_of c.loop-taken.self.machine) c.loop-taken.taken x.result c.args.most (g.O.Sink.taken c.args.out.now) (g.O.Sink.taken c.loop-taken.out) c.args.ran.now c.loop-taken.ran x.new.ran i.labels i.kept i.goes i.ran x.ensures.ran c.if-taken-most.true) c.take_back.ensures.ran)

pub take_back-requires-in-WriteFault-clause-here : goal.take_back-requires-in-WriteFault-clause-here
take_back-requires-in-WriteFault-clause-here g c = c.step_by_node.ensures.fits.inside

pub take_back-requires-in-WriteFault-clause-lines : goal.take_back-requires-in-WriteFault-clause-lines
take_back-requires-in-WriteFault-clause-lines g c = λ some.
    let kept : length c.run_resolved-taken.new.ran ≡ length c.args.ran.now = c.run_resolved-taken.ensures.kept ∙ c.loop-taken.invariant.kept in
    subst (AreBelow c.args.unit.now.nodes.nodes) (sym kept) (c.requires.lines (omega (arith, kept, some)))

pub take_back-requires-in-WriteFault-clause-some : goal.take_back-requires-in-WriteFault-clause-some
take_back-requires-in-WriteFault-clause-some g c =
    let l = c.args.unit.now.nodes in
    let i = c.loop-taken.invariant in
    let x = c.run_resolved-taken in
    let m = x.new.self in
    let k = c.loop-taken.taken + x.result in
    let start = state_of c.args.self.now.machine in
    let runs = mean_from l c.args.shape.now c.args.self.now.labels.addresses start in
    let there = goes_for l c.args.shape.now c.args.self.now.labels c.loop-taken.self.labels start c.loop-taken.taken x.result (state_of c.loop-taken.self.machine) (state_of m.machine) (g.O.Sink.taken c.args.out.now) (g.O.Sink.taken c.loop-taken.out) i.labels i.goes x.ensures.goes in
    let kept : length x.new.ran ≡ length c.args.ran.now = x.ensures.kept ∙ i.kept in
    let t = then_says c.steps_are_those_of_the_meaning.ensures l c.args.shape.now c.args.self.now.labels m.labels start k (line_at l) (state_of m.machine) (state_of c.step_by_node.new.self.machine) m.over c.step_by_node.result mean.WriteFault _ _ _ (g.O.Sink.faults c.loop-taken.out) (g.O.Sink.faults c.step_by_node.new.out) x.ensures.over (x.ensures.labels ∙ i.labels) c.in-WriteFault.is there c.step_by_node.ensures.says in
    one_counted l runs k (line_at l (state_of c.step_by_node.new.self.machine)) c.args.ran.now x.new.ran kept (ap (λ (r : Run). line_at l r.state) t.stands) (counts_some l c.args.shape.now c.args.self.now.labels c.loop-taken.self.labels start (state_of c.loop-taken.self.machine) c.loop-taken.taken x.result c.args.most (g.O.Sink.taken c.args.out.now) (g.O.Sink.taken c.loop-taken.out) c.args.ran.now c.loop-taken.ran x.new.ran i.labels i.kept i.goes i.ran x.ensures.ran c.if-taken-most.true)

pub returns-in-WriteFault-clause-ran : goal.returns-in-WriteFault-clause-ran
returns-in-WriteFault-clause-ran g c =
    let l = c.args.unit.now.nodes in
    let i = c.loop-taken.invariant in
    let x = c.run_resolved-taken in
    let m = x.new.self in
    let k = c.loop-taken.taken + x.result in
    let start = state_of c.args.self.now.machine in
    let runs = mean_from l c.args.shape.now c.args.self.now.labels.addresses start in
    let there = goes_for l c.args.shape.now c.args.self.now.labels c.loop-taken.self.labels start c.loop-taken.taken x.result (state_of c.loop-taken.self.machine) (state_of m.machine) (g.O.Sink.taken c.args.out.now) (g.O.Sink.taken c.loop-taken.out) i.labels i.goes x.ensures.goes in
    let kept : length x.new.ran ≡ length c.args.ran.now = x.ensures.kept ∙ i.kept in
    let before = i.steps in
    let led = x.ensures.steps in
    let steps = counted m.over m.steps c.step_by_node.new.self.steps c.step_by_node.result mean.WriteFault x.ensures.over c.in-WriteFault.is c.step_by_node.ensures.steps in
    let t = then_says c.steps_are_those_of_the_meaning.ensures l c.args.shape.now c.args.self.now.labels m.labels start k (line_at l) (state_of m.machine) (state_of c.step_by_node.new.self.machine) m.over c.step_by_node.result mean.WriteFault _ _ _ (g.O.Sink.faults c.loop-taken.out) (g.O.Sink.faults c.step_by_node.new.out) x.ensures.over (x.ensures.labels ∙ i.labels) c.in-WriteFault.is there c.step_by_node.ensures.says in
    let n : k ≡ c.step_by_node.new.self.steps - c.args.self.now.steps = omega (arith, steps, before, led) in
    subst (λ n. CountsSteps l runs n c.args.ran.now c.take_back-in-WriteFault.new.ran) n
    (counts_less l runs k (line_at l (state_of c.step_by_node.new.self.machine)) c.args.ran.now x.new.ran c.take_back-in-WriteFault.new.ran (c.take_back-in-WriteFault.ensures.kept ∙ kept) (ap (λ (r : Run). line_at l r.state) t.stands) (counts_some l c.args.shape.now c.args.self.now.labels c.loop-taken.self.labels start (state_of c.loop-taken.self.machine) c.loop-taken.taken x.result c.args.most (g.O.Sink.taken c.args.out.now) (g.O.Sink.taken c.loop-taken.out) c.args.ran.now c.loop-taken.ran x.new.ran i.labels i.kept i.goes i.ran x.ensures.ran c.if-taken-most.true) c.take_back-in-WriteFault.ensures.ran)

pub returns-clause-ran : goal.returns-clause-ran
returns-clause-ran g c =
    let l = c.args.unit.now.nodes in
    let i = c.loop-taken.invariant in
    let runs = mean_from l c.args.shape.now c.args.self.now.labels.addresses (state_of c.args.self.now.machine) in
    let n : c.loop-taken.taken ≡ c.loop-taken.self.steps - c.args.self.now.steps = omega (arith, i.steps) in
    subst (λ n. CountsSteps l runs n c.args.ran.now c.loop-taken.ran) n i.ran
