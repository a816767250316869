use Rattle.std.proofs.Common.{◌≡◌, ◌-◌, ◌<◌, ap, sym, subst, ◌∙◌, arith, length, ℕ, List}
use Rattle.std.specs.Prelude.{slice_get, slice_index_or}
use Rattle.lg_cpu.specs.LineCounts.{steps_at, table_line}
use Rattle.lg_cpu.specs.Machines.{shown}
use Rattle.lg_cpu.specs.Series.{Advances, AdvancesAfter, run_from}
use Rattle.lg_prof.specs.Tallies.{ran_at, spent_at, zipped}
use Rattle.lg_prof.proofs.SpentLemmas.{counted_ran, spent_all}
use Rattle.lg_prof.proofs.TallyLemmas.{length_is, length_zipped, ran_is, ran_zipped, spent_is, spent_zipped, written_back}
use Rattle.lg_prof.proofs.code.run_counted.Goals as goal

pub run_counted-requires-clause-few : goal.run_counted-requires-clause-few
run_counted-requires-clause-few g c = omega (arith, c.requires.first, c.requires.most)

pub run_counted-requires-clause-may : goal.run_counted-requires-clause-may
run_counted-requires-clause-may g c =
    let value = c.deref_mut.ensures.value in
    let ran = c.tally.inside.ran.items in
    let held = c.tally.inside.spent.items in
    let all = length_is ran held c.args.tally.now c.tally.invariant c.tally.view_is in
    let long : length c.args.tally.now ≡ length c.deref_mut.result.now = let same = ap (λ (x : List ℕ). length x) value in let both = c.tally.invariant in omega (arith, all, same, both) in
    record {
      within = λ place line here. subst (λ k. line < k) long (c.requires.lines place line (sym (ap (λ (x : List ℕ). slice_get x place) c.as_slice.ensures) ∙ here));
      room = λ line.
          let none : slice_index_or c.deref_mut.result.now line 0 ≡ 0 = ap (λ (x : List ℕ). slice_index_or x line 0) value ∙ sym (spent_is ran held c.args.tally.now c.tally.invariant c.tally.view_is line) ∙ c.requires.none line in
          omega (arith, none, c.requires.most);
    }

pub returns : goal.returns
returns g c =
    let start = shown c.args.cpu.now in
    let new = shown c.run_counted.new.self in
    let ran = c.tally.inside.ran.items in
    let old = c.tally.inside.spent.items in
    let ys = c.run_counted.new.counts in
    let held = ap (λ (x : List ℕ). length x) c.deref_mut.ensures.value in
    let long = c.run_counted.ensures.counts.long in
    let both = c.tally.invariant in
    let len : c.tally.inside.spent.len ≡ length ys = omega (arith, c.tally.inside.spent.ok.0, long, held) in
    let same : length ys ≡ length ran = omega (arith, both, long, held) in
    let back = written_back old ys c.tally.inside.spent.len len in
    let all = length_is ran old c.args.tally.now c.tally.invariant c.tally.view_is in
    let says : Advances start new c.args.most (g.O.Sink.taken c.args.out.now) (g.O.Sink.taken c.run_counted.new.out) (g.O.Sink.faults c.args.out.now) (g.O.Sink.faults c.run_counted.new.out) c.run_counted.result =
    subst (λ a. AdvancesAfter a start new c.args.most (g.O.Sink.taken c.args.out.now) (g.O.Sink.taken c.run_counted.new.out) (g.O.Sink.faults c.args.out.now) (g.O.Sink.faults c.run_counted.new.out) c.run_counted.result)
    c.requires.going c.run_counted.ensures.says in
    record {
      says = says;
      spent = λ line.
          let rows = c.requires.some in
          let some : 0 < length c.deref_mut.result.now = omega (arith, all, rows, held, both) in
          let none : slice_index_or c.deref_mut.result.now line 0 ≡ 0 = ap (λ (x : List ℕ). slice_index_or x line 0) c.deref_mut.ensures.value ∙ sym (spent_is ran old c.args.tally.now c.tally.invariant c.tally.view_is line) ∙ c.requires.none line in
          let counted = c.run_counted.ensures.counts.each some line in
          let first : new.steps - start.steps ≡ new.steps = omega (arith, c.requires.first) in
          let here : slice_index_or ys line 0 ≡ steps_at (table_line c.as_slice.result.now) (run_from start) 0 line (new.steps - start.steps) = omega (arith, none, counted) in
          ap (λ (x : List ℕ). spent_at (zipped ran x) line) back ∙ spent_zipped ran ys same line ∙ here
          ∙ ap (λ (x : List ℕ). steps_at (table_line x) (run_from start) 0 line (new.steps - start.steps)) c.as_slice.ensures
          ∙ ap (steps_at (table_line c.args.lines.now) (run_from start) 0 line) first
          ∙ spent_all (table_line c.args.lines.now) (run_from start) line new.steps
          (counted_ran start new c.args.most (g.O.Sink.taken c.args.out.now) (g.O.Sink.taken c.run_counted.new.out) (g.O.Sink.faults c.args.out.now) (g.O.Sink.faults c.run_counted.new.out) c.run_counted.result
          c.requires.first says);
      ran = λ line. ap (λ (x : List ℕ). ran_at (zipped ran x) line) back ∙ ran_zipped ran ys same line ∙ sym (ran_is ran old c.args.tally.now c.tally.invariant c.tally.view_is line);
      kept = ap (λ (x : List ℕ). length (zipped ran x)) back ∙ length_zipped ran ys same ∙ sym all;
    }
