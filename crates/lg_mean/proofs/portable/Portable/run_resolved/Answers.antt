use Rattle.std.proofs.Common.{◌≡◌, ◌+◌, ◌-◌, ◌<◌, ◌≤◌, [], ap, refl, sym, subst, ◌∙◌, arith}
use Rattle.lg_meaning.specs.Means.{Run}
use Rattle.lg_meaning.specs.Texts.{step, line_at}
use Rattle.lg_mean.specs.LineCounts.{CountsSteps, run_from}
use Rattle.lg_mean.specs.Machines.{state_of}
use Rattle.lg_mean.specs.Programs.{LabelTable}
use Rattle.lg_mean.specs.Runs.{GoesFor}
use Rattle.lg_mean.proofs.LineLemmas.{begun_all, begun_some, counts_more, counts_none, room_left}
use Rattle.lg_mean.proofs.RunLemmas.{goes_more, goes_none}
use Rattle.lg_mean.proofs.portable.Portable.run_resolved.Goals as goal
use Rattle.lg_mean.proofs.portable.Portable.run_resolved.Goals.{else-loop-left-test, then-loop-left-test+then-not-go_resolved}

pub loop-left-init : goal.loop-left-init
loop-left-init c =
    let f = step c.args.unit.now.nodes c.args.shape.now c.args.self.now.labels.addresses in
    let s = state_of c.args.self.now.machine in
    let none : c.args.most - c.args.most ≡ 0 = omega arith in
    record {
      fits = c.requires.fits;
      running = c.requires.running;
      labels = refl;
      steps = refl;
      goes = subst (λ k. GoesFor f k s s) (sym none) (goes_none f s);
      within = omega arith;
      kept = refl;
      ran = λ bytes. subst (λ k. CountsSteps c.args.unit.now.nodes (run_from f s bytes) k c.args.ran.now c.args.ran.now) (sym none) (counts_none c.args.unit.now.nodes (run_from f s bytes) c.args.ran.now);
    }

pub count_line-requires-clause-room : goal.count_line-requires-clause-room
count_line-requires-clause-room c = λ some line.
    let l = c.args.unit.now.nodes in
    let i = c.loop-left.invariant in
    let within = i.within in
    let runs = run_from (step l c.args.shape.now c.args.self.now.labels.addresses) (state_of c.args.self.now.machine) [] in
    let room = room_left l runs (c.args.most - c.loop-left.left) c.args.most c.args.ran.now c.loop-left.ran i.kept (omega arith) c.requires.room (i.ran []) some line in
    omega (arith, room, within, c.loop-left-test.true)

pub loop-left-preserved : goal.loop-left-preserved
loop-left-preserved c =
    let l = c.args.unit.now.nodes in
    let shape = c.args.shape.now in
    let f = step l shape c.args.self.now.labels.addresses in
    let s = state_of c.args.self.now.machine in
    let t = state_of c.loop-left.self.machine in
    let u = state_of c.go_resolved.new.self.machine in
    let i = c.loop-left.invariant in
    let within = i.within in
    let went = c.args.most - c.loop-left.left in
    let more : went + 1 ≡ c.args.most - (c.loop-left.left - 1) = omega (arith, within, c.loop-left-test.true) in
    record {
      fits = c.go_resolved.ensures.fits;
      running = c.go_resolved.ensures.over;
      labels = c.go_resolved.ensures.labels ∙ i.labels;
      steps = c.go_resolved.ensures.steps ∙ i.steps;
      goes = subst (λ k. GoesFor f k s u) more (goes_more f (step l shape c.loop-left.self.labels.addresses) went s t u (ap (λ (x : LabelTable). step l shape x.addresses) i.labels) i.goes (c.if-not-go_resolved.ensures.goes refl));
      within = omega (arith, within);
      kept = c.count_line.ensures.kept ∙ i.kept;
      ran = λ bytes. subst (λ k. CountsSteps l (run_from f s bytes) k c.args.ran.now c.count_line.new.ran) more
          (counts_more l (run_from f s bytes) went (line_at l t) c.args.ran.now c.loop-left.ran c.count_line.new.ran i.kept (ap (λ (r : Run). line_at l r.state) (i.goes bytes)) (i.ran bytes) c.count_line.ensures.ran);
    }

pub returns-clause-ran : goal.returns-clause-ran
returns-clause-ran c =
    let l = c.args.unit.now.nodes in
    let f = step l c.args.shape.now c.args.self.now.labels.addresses in
    let s = state_of c.args.self.now.machine in
    let i = c.loop-left.invariant in
    let within = i.within in
    let went = c.args.most - c.loop-left.left in
    λ bytes. elim c.loop-left-test.branch [
      | else-loop-left-test w ↦
          let all : c.args.most ≤ went = omega (arith, within, w.loop-left-test.false) in
          subst (λ k. CountsSteps l (run_from f s bytes) k c.args.ran.now c.loop-left-test.ran) (sym (begun_all went c.args.most all))
          (subst (λ x. CountsSteps l (run_from f s bytes) went c.args.ran.now x) (sym w.ran-is) (i.ran bytes))
      | then-loop-left-test+then-not-go_resolved w ↦
          let some : went < c.args.most = omega (arith, within, w.loop-left-test.true) in
          subst (λ k. CountsSteps l (run_from f s bytes) k c.args.ran.now c.loop-left-test.ran) (sym (begun_some went c.args.most some))
          (subst (λ x. CountsSteps l (run_from f s bytes) (went + 1) c.args.ran.now x) (sym w.ran-is)
          (counts_more l (run_from f s bytes) went (line_at l (state_of c.loop-left.self.machine)) c.args.ran.now c.loop-left.ran w.count_line.new.ran i.kept (ap (λ (r : Run). line_at l r.state) (i.goes bytes)) (i.ran bytes) w.count_line.ensures.ran))
    ]
