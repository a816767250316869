use Rattle.std.proofs.Common.{◌≡◌, ◌+◌, ◌-◌, ◌<◌, ◌≤◌, [], ap, sym, subst, ◌∙◌, arith}
use Rattle.lg_cpu.specs.LineCounts.{AddsSteps}
use Rattle.lg_cpu.specs.States.{CpuState}
use Rattle.lg_cpu.specs.Steps.{Run}
use Rattle.lg_cpu.specs.Series.{LeadsOver, code_run}
use Rattle.lg_cpu.proofs.LineCountLemmas.{adds_begun, adds_more, adds_none, adds_whole, room_left}
use Rattle.lg_cpu.proofs.SeriesLemmas.{leads_more, leads_none}
use Rattle.lg_cpu.proofs.series.execute_code.Goals as goal

pub loop-left-init : goal.loop-left-init
loop-left-init g c =
    let p = g.P.Stepping.inner c.args.processor.now in
    let none : 0 ≡ c.args.most - c.args.most = omega arith in
    record {
      leads = subst (λ n. LeadsOver p p n) none (leads_none p);
      within = omega arith;
      counts = λ out. subst (λ n. AddsSteps c.args.lines.now (code_run p out) c.args.before c.args.before n c.args.counts.now c.args.counts.now) none
          (adds_none c.args.lines.now (code_run p out) c.args.before c.args.counts.now);
      below = c.requires.before;
    }

pub count_step-line-requires : goal.count_step-line-requires
count_step-line-requires g c =
    let i = c.loop-left.invariant in
    let p = g.P.Stepping.inner c.args.processor.now in
    let most = c.args.most in
    let n = most - c.loop-left.left in
    let h = i.counts [] in
    record {
      lines = λ place line is. subst (λ k. line < k) (sym h.long) (c.requires.may.within place line is);
      before = λ some. subst (λ k. c.loop-left.line < k) (sym h.long) (i.below (subst (λ k. 0 < k) h.long some));
      room = λ some line.
          let within : n ≤ most = omega arith in
          let left = room_left c.args.lines.now (code_run p []) c.args.before c.loop-left.line n most c.args.counts.now c.loop-left.counts within h (subst (λ k. 0 < k) h.long some) line in
          let room = c.requires.may.room line in
          let test = c.loop-left-test.true in
          let few = i.within in
          omega (arith, left, room, test, few);
    }

-- the step that is begun
pub loop-left-preserved : goal.loop-left-preserved
loop-left-preserved g c =
    let i = c.loop-left.invariant in
    let p = g.P.Stepping.inner c.args.processor.now in
    let here = g.P.Stepping.inner c.loop-left.processor in
    let n = c.args.most - c.loop-left.left in
    let within = i.within in
    let test = c.loop-left-test.true in
    let more : n + 1 ≡ c.args.most - (c.loop-left.left - 1) = omega (arith, within, test) in
    let counted = c.count_step-line.ensures in
    record {
      leads = subst (λ k. LeadsOver p (g.P.Stepping.inner c.step_code.new.self) k) more
          (leads_more p here (g.P.Stepping.inner c.step_code.new.self) n c.in-Some-Went.field-0 i.leads c.in-Some-Went.field-0-is c.in-Some-Went.ensures.some);
      within = omega (arith, within);
      counts = λ out. subst (λ k. AddsSteps c.args.lines.now (code_run p out) c.args.before c.count_step-line.result k c.args.counts.now c.count_step-line.new.counts) more
          (adds_more c.args.lines.now (code_run p out) c.args.before c.loop-left.line c.count_step-line.result n c.pc.result c.args.counts.now c.loop-left.counts c.count_step-line.new.counts
          (i.counts out) (c.pc.ensures ∙ ap (λ (r : Run CpuState). r.state.pc) (i.leads.stands out)) counted.long counted.line counted.each);
      below = λ some. subst (λ k. c.count_step-line.result < k) (i.counts []).long (counted.below (subst (λ k. 0 < k) (sym (i.counts []).long) some));
    }

pub returns-in-Some-clause-counts : goal.returns-in-Some-clause-counts
returns-in-Some-clause-counts g c =
    let i = c.loop-left.invariant in
    let p = g.P.Stepping.inner c.args.processor.now in
    let n = c.args.most - c.loop-left.left in
    let counted = c.count_step-line.ensures in
    let less : n < c.args.most = let within = i.within in let test = c.loop-left-test.true in omega (arith, within, test) in
    λ out. adds_begun c.args.lines.now (code_run p out) c.args.before c.loop-left.line c.count_step-line.result n c.args.most c.pc.result c.args.counts.now c.loop-left.counts
    c.count_step-line.new.counts less (i.counts out) (c.pc.ensures ∙ ap (λ (r : Run CpuState). r.state.pc) (i.leads.stands out)) counted.long counted.line counted.each

pub returns-in-Some-clause-below : goal.returns-in-Some-clause-below
returns-in-Some-clause-below g c =
    let long = (c.loop-left.invariant.counts []).long in
    λ some. subst (λ k. c.count_step-line.result < k) long (c.count_step-line.ensures.below (subst (λ k. 0 < k) (sym long) some))

pub returns-in-None-clause-counts : goal.returns-in-None-clause-counts
returns-in-None-clause-counts g c =
    let i = c.loop-left.invariant in
    let p = g.P.Stepping.inner c.args.processor.now in
    let n = c.args.most - c.loop-left.left in
    let counted = c.count_step-line.ensures in
    let less : n < c.args.most = let within = i.within in let test = c.loop-left-test.true in omega (arith, within, test) in
    λ out. adds_begun c.args.lines.now (code_run p out) c.args.before c.loop-left.line c.count_step-line.result n c.args.most c.pc.result c.args.counts.now c.loop-left.counts
    c.count_step-line.new.counts less (i.counts out) (c.pc.ensures ∙ ap (λ (r : Run CpuState). r.state.pc) (i.leads.stands out)) counted.long counted.line counted.each

pub returns-in-None-clause-below : goal.returns-in-None-clause-below
returns-in-None-clause-below g c =
    let long = (c.loop-left.invariant.counts []).long in
    λ some. subst (λ k. c.count_step-line.result < k) long (c.count_step-line.ensures.below (subst (λ k. 0 < k) (sym long) some))

pub returns-clause-counts : goal.returns-clause-counts
returns-clause-counts g c =
    let i = c.loop-left.invariant in
    let p = g.P.Stepping.inner c.args.processor.now in
    let all : c.args.most - c.loop-left.left ≡ c.args.most = let test = c.loop-left-test.false in omega (arith, test) in
    λ out. adds_whole c.args.lines.now (code_run p out) c.args.before c.loop-left.line (c.args.most - c.loop-left.left) c.args.most c.args.counts.now c.loop-left.counts all (i.counts out)
