use Rattle.std.proofs.Common.{◌≡◌, ◌-◌, ◌<◌, ap, sym, subst, ◌∙◌, arith, length, ℕ, List}
use Rattle.std.specs.Prelude.{slice_index_or}
use Rattle.lg_meaning.specs.Means.{mean_from}
use Rattle.lg_meaning.specs.Texts.{line_at}
use Rattle.lg_mean.specs.LineCounts.{at_line}
use Rattle.lg_mean.specs.Machines.{state_of}
use Rattle.lg_prof.specs.Tallies.{AreBelow, ran_at, spent_at, zipped}
use Rattle.lg_prof.proofs.MeantLemmas.{count_is}
use Rattle.lg_prof.proofs.TallyLemmas.{length_is, length_zipped, ran_is, ran_zipped, some_line, spent_is, spent_zipped, written_back}
use Rattle.lg_prof.proofs.meaning.count_meaning.Goals as goal

pub run_counted-requires-clause-lines : goal.run_counted-requires-clause-lines
run_counted-requires-clause-lines c = λ some.
    let value = c.deref_mut.ensures.value in
    let all : length c.args.tally.now ≡ length c.deref_mut.result.now = length_is c.tally.inside.ran.items c.tally.inside.spent.items c.args.tally.now c.tally.invariant c.tally.view_is ∙ ap (λ (x : List ℕ). length x) (sym value) in
    subst (AreBelow c.args.unit.now.nodes.nodes) all c.requires.lines

pub run_counted-requires-clause-room : goal.run_counted-requires-clause-room
run_counted-requires-clause-room c = λ some line.
    let none : slice_index_or c.deref_mut.result.now line 0 ≡ 0 = ap (λ (x : List ℕ). slice_index_or x line 0) c.deref_mut.ensures.value ∙ sym (ran_is c.tally.inside.ran.items c.tally.inside.spent.items c.args.tally.now c.tally.invariant c.tally.view_is line) ∙ c.requires.none line in
    omega (arith, none, c.requires.most)

pub returns-clause-ran : goal.returns-clause-ran
returns-clause-ran c = λ line.
    let l = c.args.unit.now.nodes in
    let start = state_of c.args.machine.now.machine in
    let A = c.args.machine.now.labels.addresses in
    let ys = c.run_counted.new.ran in
    let n = c.run_counted.new.self.steps - c.args.machine.now.steps in
    let held = ap (λ (x : List ℕ). length x) c.deref_mut.ensures.value in
    let len : c.tally.inside.ran.len ≡ length ys = omega (arith, c.tally.inside.ran.ok.0, c.run_counted.ensures.lines, held) in
    let same : length c.tally.inside.spent.items ≡ length ys = omega (arith, c.tally.invariant, c.run_counted.ensures.lines, held) in
    let all = length_is c.tally.inside.ran.items c.tally.inside.spent.items c.args.tally.now c.tally.invariant c.tally.view_is in
    let rows = some_line l.nodes start.at (length c.args.tally.now) c.requires.fits.inside c.requires.lines in
    let some : 0 < length c.deref_mut.result.now = omega (arith, all, rows, held) in
    let none : slice_index_or c.deref_mut.result.now line 0 ≡ 0 = ap (λ (x : List ℕ). slice_index_or x line 0) c.deref_mut.ensures.value ∙ sym (ran_is c.tally.inside.ran.items c.tally.inside.spent.items c.args.tally.now c.tally.invariant c.tally.view_is line) ∙ c.requires.none line in
    let counted = c.run_counted.ensures.ran some line in
    let ran : slice_index_or ys line 0 ≡ at_line l (mean_from l c.args.shape.now A start) line n = omega (arith, none, counted) in
    ap (λ (x : List ℕ). ran_at (zipped x c.tally.inside.spent.items) line) (written_back c.tally.inside.ran.items ys c.tally.inside.ran.len len) ∙ ran_zipped ys c.tally.inside.spent.items same line ∙ ran
    ∙ count_is l c.args.shape.now A start c.run_counted.result n c.args.most (state_of c.run_counted.new.self.machine) (line_at l (state_of c.run_counted.new.self.machine)) line c.run_counted.ensures.says

pub returns-clause-spent : goal.returns-clause-spent
returns-clause-spent c = λ line.
    let ys = c.run_counted.new.ran in
    let held = ap (λ (x : List ℕ). length x) c.deref_mut.ensures.value in
    let len : c.tally.inside.ran.len ≡ length ys = omega (arith, c.tally.inside.ran.ok.0, c.run_counted.ensures.lines, held) in
    let same : length c.tally.inside.spent.items ≡ length ys = omega (arith, c.tally.invariant, c.run_counted.ensures.lines, held) in
    ap (λ (x : List ℕ). spent_at (zipped x c.tally.inside.spent.items) line) (written_back c.tally.inside.ran.items ys c.tally.inside.ran.len len) ∙ spent_zipped ys c.tally.inside.spent.items same line ∙ sym (spent_is c.tally.inside.ran.items c.tally.inside.spent.items c.args.tally.now c.tally.invariant c.tally.view_is line)

pub returns-clause-kept : goal.returns-clause-kept
returns-clause-kept c =
    let ys = c.run_counted.new.ran in
    let held = ap (λ (x : List ℕ). length x) c.deref_mut.ensures.value in
    let len : c.tally.inside.ran.len ≡ length ys = omega (arith, c.tally.inside.ran.ok.0, c.run_counted.ensures.lines, held) in
    let same : length c.tally.inside.spent.items ≡ length ys = omega (arith, c.tally.invariant, c.run_counted.ensures.lines, held) in
    let all = length_is c.tally.inside.ran.items c.tally.inside.spent.items c.args.tally.now c.tally.invariant c.tally.view_is in
    let kept : length ys ≡ length c.args.tally.now = omega (arith, all, c.run_counted.ensures.lines, held) in
    ap (λ (x : List ℕ). length (zipped x c.tally.inside.spent.items)) (written_back c.tally.inside.ran.items ys c.tally.inside.ran.len len) ∙ length_zipped ys c.tally.inside.spent.items same ∙ kept
