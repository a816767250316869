use Rattle.std.proofs.Common.{◌≡◌, ◌≤◌, ◌+◌, ◌-◌, ◌++◌, ◌<◌, [], ℕ, ap, sym, subst, ◌∙◌, arith, refl}
use Rattle.std.proofs.KnownBytes.{Appends-nil, Appends-trans}
use Rattle.lg_cpu.specs.Answers.{counted}
use Rattle.lg_cpu.specs.Machines.{StepSays, effect_in, shown_of}
use Rattle.lg_cpu.specs.Series.{Advances, EndsWith, IsAt, going_on, run_from}
use Rattle.lg_cpu.specs.declared.answer.CpuStep.{CpuStep}
use Rattle.lg_cpu.specs.declared.answer.CpuStep.TheVariants as cpu
use Rattle.lg_cpu.proofs.LineCountLemmas.{adds_all, adds_none, adds_on, adds_stopped, adds_whole_on, last_counts, may_still}
use Rattle.lg_cpu.proofs.SaysLemmas.{says-quiet}
use Rattle.lg_cpu.proofs.SeriesLemmas.{at_start, ends, one_stopped, shows, then_at, then_executed, then_leads}
use Rattle.lg_cpu.proofs.series.advance.Goals as goal

pub loop-went-init : goal.loop-went-init
loop-went-init g c = record {
  there = (
    [],
    subst (λ n. IsAt (going_on (g.P.Stepping.inner c.args.processor.now) c.args.steps) (going_on (g.P.Stepping.inner c.args.processor.now) n) 0 []) (let none : c.args.steps ≡ c.args.steps + 0 = omega arith in none)
        (at_start (going_on (g.P.Stepping.inner c.args.processor.now) c.args.steps)),
    Appends-nil _,
  );
  faults = refl;
  within = omega arith;
  counts = adds_none c.args.lines.now (run_from (going_on (g.P.Stepping.inner c.args.processor.now) c.args.steps)) 0 c.args.counts.now;
  below = λ some. some;
}

pub execute_code-executed-requires : goal.execute_code-executed-requires
execute_code-executed-requires g c =
    let i = c.loop-went.invariant in
    record {
      may = may_still c.args.lines.now (run_from (going_on (g.P.Stepping.inner c.args.processor.now) c.args.steps)) 0 c.loop-went.line c.loop-went.went c.args.most c.args.counts.now c.loop-went.counts
          i.within c.requires.may i.counts;
      before = λ some. subst (λ k. c.loop-went.line < k) (sym i.counts.long) (i.below (subst (λ k. 0 < k) i.counts.long some));
    }

-- an instruction of the code came to another answer
pub returns-in_default : goal.returns-in_default
returns-in_default g c =
    let i = c.loop-went.invariant in
    let x = c.execute_code-executed in
    let start = going_on (g.P.Stepping.inner c.args.processor.now) c.args.steps in
    let here = x.ensures.executes.here in
    let q = g.P.Stepping.inner x.new.processor in
    let went = c.loop-went.went + x.result.went in
    let k = c.args.steps + went in
    let answer = x.result.answer in
    let taken = g.O.Sink.taken c.loop-went.out in
    let faults = g.O.Sink.faults c.loop-went.out in
    let stop = one_stopped answer x.result.went (c.args.most - c.loop-went.went) here q c.in_default.not-Went x.ensures.executes.stops in
    let below : went < c.args.most = let less = stop.0 in omega (arith, less) in
    let h = shows here q k taken taken faults faults answer (says-quiet (effect_in here) here q taken faults answer stop.1) in
    record {
      says = subst (λ (z : CpuStep × ℕ). Advances start (shown_of q z.0 z.1) c.args.most (g.O.Sink.taken c.args.out.now) taken (g.O.Sink.faults c.args.out.now) faults z.0)
          (λ j. (sym c.stopped.ensures.answer j, sym c.stopped.ensures.steps j)) record {
            went = went;
            here = going_on here k;
            out = i.there.0;
            between = taken;
            at = then_leads start (g.P.Stepping.inner c.loop-went.processor) here (c.args.steps + c.loop-went.went) k c.loop-went.went x.result.went i.there.0 i.there.1 x.ensures.executes.leads;
            going = refl;
            steps = refl;
            written = i.there.2;
            ends = subst (λ n. EndsWith answer went c.args.most (going_on here k) (shown_of q answer (counted answer k)) taken taken n faults) i.faults
                (ends answer went c.args.most (going_on here k) (shown_of q answer (counted answer k)) taken taken faults faults c.in_default.not-Went below h);
          };
      later = let same = i.faults in omega (arith, same);
      counts = adds_stopped c.args.lines.now (run_from start) x.result.line went c.args.steps c.stopped.result.steps answer c.args.counts.now x.new.counts c.stopped.new.counts
          (adds_on c.args.lines.now start (g.P.Stepping.inner c.loop-went.processor) (c.args.steps + c.loop-went.went) i.there.0 c.loop-went.line x.result.line c.loop-went.went x.result.went
          (c.args.most - c.loop-went.went) c.args.counts.now c.loop-went.counts x.new.counts i.there.1 i.counts (x.ensures.counts i.there.0) stop.0)
          c.stopped.ensures.long c.stopped.ensures.counted c.stopped.ensures.back c.stopped.ensures.steps;
    }

-- the step that came to it was counted
pub stopped-requires : goal.stopped-requires
stopped-requires g c =
    let i = c.loop-went.invariant in
    let x = c.execute_code-executed in
    let start = going_on (g.P.Stepping.inner c.args.processor.now) c.args.steps in
    let here = x.ensures.executes.here in
    let q = g.P.Stepping.inner x.new.processor in
    let went = c.loop-went.went + x.result.went in
    let stop = one_stopped x.result.answer x.result.went (c.args.most - c.loop-went.went) here q c.in_default.not-Went x.ensures.executes.stops in
    let adds = adds_on c.args.lines.now start (g.P.Stepping.inner c.loop-went.processor) (c.args.steps + c.loop-went.went) i.there.0 c.loop-went.line x.result.line c.loop-went.went x.result.went
    (c.args.most - c.loop-went.went) c.args.counts.now c.loop-went.counts x.new.counts i.there.1 i.counts (x.ensures.counts i.there.0) stop.0 in
    record {
      steps = let less = stop.0 in let few = c.requires.few in omega (arith, less, few);
      line = λ some. subst (λ k. x.result.line < k) (sym (x.ensures.counts i.there.0).long) (x.ensures.below (subst (λ k. 0 < k) (x.ensures.counts i.there.0).long some));
      some = λ some. last_counts c.args.lines.now (run_from start) 0 x.result.line went c.args.counts.now x.new.counts adds (subst (λ k. 0 < k) adds.long some);
    }

-- and where none did, a step elsewhere may come
pub loop-went-preserved : goal.loop-went-preserved
loop-went-preserved g c =
    let i = c.loop-went.invariant in
    let x = c.execute_code-executed in
    record {
      there = (
        i.there.0,
        then_executed (going_on (g.P.Stepping.inner c.args.processor.now) c.args.steps) (g.P.Stepping.inner c.loop-went.processor) (g.P.Stepping.inner x.new.processor) c.args.steps c.loop-went.went
            (c.args.most - c.loop-went.went) x.result.went x.result.answer i.there.0 i.there.1 c.in-Went.is x.ensures.executes,
        i.there.2,
      );
      faults = i.faults;
      within = let few = x.ensures.executes.few in omega (arith, few, c.loop-went-test.true);
      counts = adds_whole_on c.args.lines.now (going_on (g.P.Stepping.inner c.args.processor.now) c.args.steps) (g.P.Stepping.inner c.loop-went.processor) (c.args.steps + c.loop-went.went) i.there.0 c.loop-went.line
          x.result.line c.loop-went.went x.result.went (c.args.most - c.loop-went.went) c.args.counts.now c.loop-went.counts x.new.counts i.there.1 i.counts (x.ensures.counts i.there.0)
          (let few = x.ensures.executes.few in let all = c.if-went-most.false in omega (arith, few, all));
      below = λ some. subst (λ k. x.result.line < k) i.counts.long (x.ensures.below (subst (λ k. 0 < k) (sym i.counts.long) some));
    }

pub loop-went-preserved-in-Went-step_elsewhere : goal.loop-went-preserved-in-Went-step_elsewhere
loop-went-preserved-in-Went-step_elsewhere g c =
    let i = c.loop-went.invariant in
    let x = c.execute_code-executed in
    let start = going_on (g.P.Stepping.inner c.args.processor.now) c.args.steps in
    let p = g.P.Stepping.inner x.new.processor in
    let q = g.P.Stepping.inner c.step_elsewhere.new.self in
    let went = c.loop-went.went + x.result.went in
    let k = c.args.steps + went in
    let taken = g.O.Sink.taken c.loop-went.out in
    let taken' = g.O.Sink.taken c.step_elsewhere.new.out in
    let faults = g.O.Sink.faults c.loop-went.out in
    let faults' = g.O.Sink.faults c.step_elsewhere.new.out in
    let there = then_executed start (g.P.Stepping.inner c.loop-went.processor) p c.args.steps c.loop-went.went (c.args.most - c.loop-went.went) x.result.went x.result.answer i.there.0 i.there.1 c.in-Went.is x.ensures.executes in
    let says = subst (λ a. StepSays (effect_in p) p q taken taken' faults faults' a) c.in-Went-step_elsewhere.is c.step_elsewhere.ensures.says in
    let h = shows p q k taken taken' faults faults' cpu.Went says in
    let one : k + 1 ≡ c.args.steps + (went + 1) = omega arith in
    let at = then_at start (going_on p k) (shown_of q cpu.Went (k + 1)) went i.there.0 there refl h.1 in
    record {
      there = (
        i.there.0 ++ (effect_in p).written,
        subst (λ n. IsAt start (shown_of q cpu.Went n) (went + 1) (i.there.0 ++ (effect_in p).written)) one at,
        Appends-trans _ _ _ i.there.0 (effect_in p).written i.there.2 h.2,
      );
      faults = h.3 ∙ i.faults;
      within = omega (arith, c.if-went-most.true);
      counts = adds_on c.args.lines.now start (g.P.Stepping.inner c.loop-went.processor) (c.args.steps + c.loop-went.went) i.there.0 c.loop-went.line x.result.line c.loop-went.went x.result.went
          (c.args.most - c.loop-went.went) c.args.counts.now c.loop-went.counts x.new.counts i.there.1 i.counts (x.ensures.counts i.there.0) (let less = c.if-went-most.true in omega (arith, less));
      below = λ some. subst (λ k. x.result.line < k) i.counts.long (x.ensures.below (subst (λ k. 0 < k) (sym i.counts.long) some));
    }

-- the step elsewhere came to another answer
pub returns-in_default-step_elsewhere : goal.returns-in_default-step_elsewhere
returns-in_default-step_elsewhere g c =
    let i = c.loop-went.invariant in
    let x = c.execute_code-executed in
    let start = going_on (g.P.Stepping.inner c.args.processor.now) c.args.steps in
    let p = g.P.Stepping.inner x.new.processor in
    let q = g.P.Stepping.inner c.step_elsewhere.new.self in
    let went = c.loop-went.went + x.result.went in
    let k = c.args.steps + went in
    let answer = c.step_elsewhere.result in
    let taken = g.O.Sink.taken c.loop-went.out in
    let taken' = g.O.Sink.taken c.step_elsewhere.new.out in
    let faults = g.O.Sink.faults c.loop-went.out in
    let faults' = g.O.Sink.faults c.step_elsewhere.new.out in
    let there = then_executed start (g.P.Stepping.inner c.loop-went.processor) p c.args.steps c.loop-went.went (c.args.most - c.loop-went.went) x.result.went x.result.answer i.there.0 i.there.1 c.in-Went.is x.ensures.executes in
    let h = shows p q k taken taken' faults faults' answer c.step_elsewhere.ensures.says in
    record {
      says = subst (λ (z : CpuStep × ℕ). Advances start (shown_of q z.0 z.1) c.args.most (g.O.Sink.taken c.args.out.now) taken' (g.O.Sink.faults c.args.out.now) faults' z.0)
          (λ j. (sym c.stopped-in_default-step_elsewhere.ensures.answer j, sym c.stopped-in_default-step_elsewhere.ensures.steps j)) record {
            went = went;
            here = going_on p k;
            out = i.there.0;
            between = taken;
            at = there;
            going = refl;
            steps = refl;
            written = i.there.2;
            ends = subst (λ n. EndsWith answer went c.args.most (going_on p k) (shown_of q answer (counted answer k)) taken taken' n faults') i.faults
                (ends answer went c.args.most (going_on p k) (shown_of q answer (counted answer k)) taken taken' faults faults' c.in_default-step_elsewhere.not-Went c.if-went-most.true h);
          };
      later = subst (λ n. n ≤ faults') i.faults c.step_elsewhere.ensures.later;
      counts = adds_stopped c.args.lines.now (run_from start) x.result.line went c.args.steps c.stopped-in_default-step_elsewhere.result.steps answer c.args.counts.now x.new.counts
          c.stopped-in_default-step_elsewhere.new.counts (adds_on c.args.lines.now start (g.P.Stepping.inner c.loop-went.processor) (c.args.steps + c.loop-went.went) i.there.0 c.loop-went.line x.result.line c.loop-went.went x.result.went
          (c.args.most - c.loop-went.went) c.args.counts.now c.loop-went.counts x.new.counts i.there.1 i.counts (x.ensures.counts i.there.0) (let less = c.if-went-most.true in omega (arith, less)))
          c.stopped-in_default-step_elsewhere.ensures.long c.stopped-in_default-step_elsewhere.ensures.counted c.stopped-in_default-step_elsewhere.ensures.back c.stopped-in_default-step_elsewhere.ensures.steps;
    }

pub stopped-requires-in_default-step_elsewhere : goal.stopped-requires-in_default-step_elsewhere
stopped-requires-in_default-step_elsewhere g c =
    let i = c.loop-went.invariant in
    let x = c.execute_code-executed in
    let start = going_on (g.P.Stepping.inner c.args.processor.now) c.args.steps in
    let went = c.loop-went.went + x.result.went in
    let less = c.if-went-most.true in
    let adds = adds_on c.args.lines.now start (g.P.Stepping.inner c.loop-went.processor) (c.args.steps + c.loop-went.went) i.there.0 c.loop-went.line x.result.line c.loop-went.went x.result.went
    (c.args.most - c.loop-went.went) c.args.counts.now c.loop-went.counts x.new.counts i.there.1 i.counts (x.ensures.counts i.there.0) (omega (arith, less)) in
    record {
      steps = let few = c.requires.few in omega (arith, less, few);
      line = λ some. subst (λ k. x.result.line < k) (sym (x.ensures.counts i.there.0).long) (x.ensures.below (subst (λ k. 0 < k) (x.ensures.counts i.there.0).long some));
      some = λ some. last_counts c.args.lines.now (run_from start) 0 x.result.line went c.args.counts.now x.new.counts adds (subst (λ k. 0 < k) adds.long some);
    }

pub step_elsewhere-requires : goal.step_elsewhere-requires
step_elsewhere-requires g c = c.execute_code-executed.ensures.elsewhere c.in-Went.is (let less = c.if-went-most.true in omega (arith, less))

pub returns-clause-says : goal.returns-clause-says
returns-clause-says g c =
    let i = c.loop-went.invariant in
    let p = g.P.Stepping.inner c.loop-went.processor in
    let most = i.within in
    let all = c.loop-went-test.false in
    let whole : c.loop-went.went ≡ c.args.most = omega (arith, most, all) in
    record {
      went = c.loop-went.went;
      here = going_on p (c.args.steps + c.loop-went.went);
      out = i.there.0;
      between = g.O.Sink.taken c.loop-went.out;
      at = i.there.1;
      going = refl;
      steps = refl;
      written = i.there.2;
      ends = (whole, ap (λ n. going_on p (c.args.steps + n)) (sym whole), refl, i.faults);
    }

pub returns-clause-later : goal.returns-clause-later
returns-clause-later g c = let same = c.loop-went.invariant.faults in omega (arith, same)

pub returns-clause-counts : goal.returns-clause-counts
returns-clause-counts g c =
    let i = c.loop-went.invariant in
    let most = i.within in
    let test = c.loop-went-test.false in
    let all : c.loop-went.went ≡ c.args.steps + c.args.most - c.args.steps = omega (arith, most, test) in
    adds_all c.args.lines.now (run_from (going_on (g.P.Stepping.inner c.args.processor.now) c.args.steps)) c.loop-went.line c.loop-went.went (c.args.steps + c.args.most - c.args.steps)
    c.args.counts.now c.loop-went.counts c.loop-went.counts i.counts all refl
