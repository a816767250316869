-- Steps that are counted for the lines of their nodes.
use Rattle.std.proofs.Common.{◌≡◌, ℕ, zero, suc, ◌+◌, ◌-◌, ◌<◌, ◌≤◌, ◌^◌, Bool, true, false, List, [], Option, length, refl, sym, ap, ◌∙◌, subst, arith, add-one}
use Rattle.std.specs.Prelude.{◌==◌, if◌then◌else◌, nat_lt, slice_index_or}
use Rattle.lg_node.specs.Nodes.{LabelledNodes}
use Rattle.lg_base.specs.Runs.{iter}
use Rattle.lg_node.specs.Shapes.{TextShape}
use Rattle.lg_meaning.specs.States.{State}
use Rattle.lg_meaning.specs.Means.{Run, mean_from, run_at, run_step}
use Rattle.lg_meaning.specs.Texts.{line_at, step}
use Rattle.lg_mean.specs.LineCounts.{CountsStep, CountsSteps, at_line, begun, run_from}
use Rattle.lg_mean.specs.Programs.{LabelTable}
use Rattle.lg_mean.specs.Runs.{HasGoneOn}
use Rattle.lg_mean.proofs.RunLemmas.{iter_plus}

at_line_more : (nodes : LabelledNodes) (meaning : ℕ → Run) (line n : ℕ) → at_line nodes meaning line (n + 1) ≡ at_line nodes meaning line n + (if line_at nodes (meaning n).state == line then 1 else 0)
unfolding at_line
at_line_more nodes meaning line n = rw (add-one n) refl

-- no more steps have a node of a line than there are
few : (b : Bool) (k n : ℕ) → k ≤ n → k + (if b then 1 else 0) ≤ suc n
few true k n le = omega (arith, le)
few false k n le = omega (arith, le)

pub at_line_few : (nodes : LabelledNodes) (meaning : ℕ → Run) (line n : ℕ) → at_line nodes meaning line n ≤ n
unfolding at_line
at_line_few nodes meaning line zero = omega arith
at_line_few nodes meaning line (suc n) = few (line_at nodes (meaning n).state == line) (at_line nodes meaning line n) n (at_line_few nodes meaning line n)

-- the steps of a run, and then those of the run from there
at_line_then : (nodes : LabelledNodes) (meaning later : ℕ → Run) (line k : ℕ) → ((j : ℕ) → meaning (k + j) ≡ later j) → (n : ℕ)
    → at_line nodes meaning line (k + n) ≡ at_line nodes meaning line k + at_line nodes later line n
unfolding at_line
at_line_then nodes meaning later line k same zero = let none : k + 0 ≡ k = omega arith in let nothing : at_line nodes meaning line k + 0 ≡ at_line nodes meaning line k = omega arith in ap (at_line nodes meaning line) none ∙ sym nothing
at_line_then nodes meaning later line k same (suc n) =
    let more : k + suc n ≡ suc (k + n) = omega arith in
    let here : ◌≡◌ {A = ℕ} (if line_at nodes (meaning (k + n)).state == line then 1 else 0) (if line_at nodes (later n).state == line then 1 else 0) = ap (λ (r : Run). if line_at nodes r.state == line then 1 else 0) (same n) in
    let before = at_line_then nodes meaning later line k same n in
    ap (at_line nodes meaning line) more ∙ omega (arith, before, here)

-- no step counts for no line
pub counts_none : (nodes : LabelledNodes) (meaning : ℕ → Run) (ran : List ℕ) → CountsSteps nodes meaning 0 ran ran
unfolding at_line
counts_none nodes meaning ran some line = let same : slice_index_or ran line 0 + 0 ≡ slice_index_or ran line 0 = omega arith in sym same

-- one step more
pub counts_more : (nodes : LabelledNodes) (meaning : ℕ → Run) (n at : ℕ) (ran mid ran' : List ℕ) → length mid ≡ length ran → line_at nodes (meaning n).state ≡ at
    → CountsSteps nodes meaning n ran mid → CountsStep at mid ran' → CountsSteps nodes meaning (n + 1) ran ran'
counts_more nodes meaning n at ran mid ran' kept here before step some line =
    let next = step (omega (arith, kept, some)) line in
    let now = before some line in
    let more = at_line_more nodes meaning line n in
    let same : ◌≡◌ {A = ℕ} (if line_at nodes (meaning n).state == line then 1 else 0) (if at == line then 1 else 0) = ap (λ (a : ℕ). if a == line then 1 else 0) here in
    omega (arith, next, now, more, same)

-- one step less
pub counts_less : (nodes : LabelledNodes) (meaning : ℕ → Run) (n at : ℕ) (ran mid ran' : List ℕ) → length ran' ≡ length ran → line_at nodes (meaning n).state ≡ at
    → CountsSteps nodes meaning (n + 1) ran mid → CountsStep at ran' mid → CountsSteps nodes meaning n ran ran'
counts_less nodes meaning n at ran mid ran' kept here before step some line =
    let next = step (omega (arith, kept, some)) line in
    let now = before some line in
    let more = at_line_more nodes meaning line n in
    let same : ◌≡◌ {A = ℕ} (if line_at nodes (meaning n).state == line then 1 else 0) (if at == line then 1 else 0) = ap (λ (a : ℕ). if a == line then 1 else 0) here in
    omega (arith, next, now, more, same)

-- these steps, and then more
pub counts_then : (nodes : LabelledNodes) (meaning later : ℕ → Run) (k n : ℕ) (ran mid ran' : List ℕ) → length mid ≡ length ran → ((j : ℕ) → meaning (k + j) ≡ later j)
    → CountsSteps nodes meaning k ran mid → CountsSteps nodes later n mid ran' → CountsSteps nodes meaning (k + n) ran ran'
counts_then nodes meaning later k n ran mid ran' kept same before after some line =
    let next = after (omega (arith, kept, some)) line in
    let now = before some line in
    let both = at_line_then nodes meaning later line k same n in
    omega (arith, next, now, both)

-- what there is room for after some of the steps
pub room_left : (nodes : LabelledNodes) (meaning : ℕ → Run) (n most : ℕ) (ran ran' : List ℕ) → length ran' ≡ length ran → n ≤ most
    → (0 < length ran → (line : ℕ) → slice_index_or ran line 0 + most < 2 ^ 64) → CountsSteps nodes meaning n ran ran'
    → 0 < length ran' → (line : ℕ) → slice_index_or ran' line 0 + (most - n) < 2 ^ 64
room_left nodes meaning n most ran ran' kept le room counts some line =
    let here : 0 < length ran = omega (arith, kept, some) in
    let free = room here line in
    let now = counts here line in
    let few = at_line_few nodes meaning line n in
    omega (arith, free, now, few, le)

-- a step of a line that was counted can be taken back
pub one_counted : (nodes : LabelledNodes) (meaning : ℕ → Run) (n at : ℕ) (ran ran' : List ℕ) → length ran' ≡ length ran → line_at nodes (meaning n).state ≡ at
    → CountsSteps nodes meaning (n + 1) ran ran' → 0 < length ran' → 0 < slice_index_or ran' at 0
one_counted nodes meaning n at ran ran' kept here counts some =
    let now = counts (omega (arith, kept, some)) at in
    let more = at_line_more nodes meaning at n in
    let one : ◌≡◌ {A = ℕ} (if line_at nodes (meaning n).state == at then 1 else 0) 1 = ap (λ b. if b then 1 else 0) (same_eq (line_at nodes (meaning n).state) at here) in
    omega (arith, now, more, one)
  where
    same_eq : (a b : ℕ) → a ≡ b → (a == b) ≡ true
    same_eq a b e = grind (arith, e)

-- ---- how many were begun
pub begun_all : (went most : ℕ) → most ≤ went → begun went most ≡ went
begun_all went most le = let no : nat_lt went most ≡ false = grind (arith, le) in ap (λ b. if b then went + 1 else went) no

pub begun_some : (went most : ℕ) → went < most → begun went most ≡ went + 1
begun_some went most lt = let yes' : nat_lt went most ≡ true = grind (arith, lt) in ap (λ b. if b then went + 1 else went) yes'

-- ---- a run that goes on from where it is
module _ (l : LabelledNodes) (shape : TextShape) (labels labels' : LabelTable) (start s : State) (k r most : ℕ) (out out' : Option (List ℕ)) (ran mid ran' : List ℕ) (same : labels' ≡ labels) (kept : length mid ≡ length ran)
    (goes : HasGoneOn (mean_from l shape labels.addresses start) k s out out') (before : CountsSteps l (mean_from l shape labels.addresses start) k ran mid)
    (after : (bytes : List ℕ) → CountsSteps l (run_from (step l shape labels'.addresses) s bytes) (begun r (most - k)) mid ran') where
  counts_on : CountsSteps l (mean_from l shape labels.addresses start) (k + begun r (most - k)) ran ran'
  counts_on =
      let f = run_step (step l shape labels.addresses) in
      let later : CountsSteps l (run_from (step l shape labels.addresses) s goes.bytes) (begun r (most - k)) mid ran' =
      subst (λ (t : LabelTable). CountsSteps l (run_from (step l shape t.addresses) s goes.bytes) (begun r (most - k)) mid ran') same (after goes.bytes) in
      counts_then l (mean_from l shape labels.addresses start) (run_from (step l shape labels.addresses) s goes.bytes) k (begun r (most - k)) ran mid ran' kept
      (λ j. iter_plus f k j (run_at start []) ∙ ap (iter f j) goes.stands) before later

  pub counts_some : k + r < most → CountsSteps l (mean_from l shape labels.addresses start) (k + r + 1) ran ran'
  counts_some lt =
      let some : k + begun r (most - k) ≡ k + r + 1 = ap (λ n. k + n) (begun_some r (most - k) (omega (arith, lt))) ∙ omega arith in
      subst (λ n. CountsSteps l (mean_from l shape labels.addresses start) n ran ran') some counts_on

  pub counts_all : most ≤ k + r → CountsSteps l (mean_from l shape labels.addresses start) (k + r) ran ran'
  counts_all le =
      let all : k + begun r (most - k) ≡ k + r = ap (λ n. k + n) (begun_all r (most - k) (omega (arith, le))) in
      subst (λ n. CountsSteps l (mean_from l shape labels.addresses start) n ran ran') all counts_on
