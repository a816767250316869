-- The numbers of a profile, from what was counted.
use Rattle.std.proofs.Common.{◌≡◌, ℕ, suc, ◌+◌, ◌<◌, ◌≤◌, Bool, true, false, List, length, Option, Some, None, inl, inr, refl, sym, ap, ap₂, ◌∙◌, subst, arith, add-one}
use Rattle.std.specs.Prelude.{◌&&◌, if◌then◌else◌, not, slice_get, slice_index}
use Rattle.std.proofs.lemmas.Bool.{cases_lt}
use Rattle.lg_asm.specs.Assembled.{Assembled}
use Rattle.lg_base.specs.Arguments.{args_of}
use Rattle.lg_command.specs.Commands.{Command}
use Rattle.lg_command.specs.Plans.{report_of}
use Rattle.lg_command.specs.declared.plan.Report.{Report}
use Rattle.lg_command.specs.declared.plan.Report.TheVariants as report
use Rattle.lg_cpu.specs.Machines.{shown}
use Rattle.lg_cpu.specs.Series.{run_from}
use Rattle.lg_cpu.specs.States.{CpuState}
use Rattle.lg_cpu.specs.Steps.{Progress, Run, Goes, EndedWith, machine, status_of}
use Rattle.lg_cpu.specs.Targets.{effect_of}
use Rattle.lg_cpu.specs.Targets as targets
use Rattle.lg_cpu.proofs.RunLemmas.{machine_is}
use Rattle.lg_dead.specs.Rewritten.{IsRewrittenNode}
use Rattle.lg_dead.specs.Known.{folded_by, last_known, made}
use Rattle.lg_io.specs.NamedTexts.{NamedTexts}
use Rattle.lg_io.specs.SinkChanges.{SinkChange}
use Rattle.lg_mean.specs.Machines.{state_of}
use Rattle.lg_meaning.specs.Means as means
use Rattle.lg_node.specs.Nodes.{LabelledNodes}
use Rattle.lg_node.specs.Shapes.{TextShape}
use Rattle.lg_node.specs.declared.unit.Unit.{Unit as TextUnit}
use Rattle.lg_op.specs.declared.node.Node.{Node}
use Rattle.lg_opt.specs.Rewritings.{IsOrigin, IsThreadedNode}
use Rattle.lg_prof.specs.Places.{AreLines}
use Rattle.lg_prof.specs.Tables.{table_below}
use Rattle.lg_prof.specs.Tallies.{AreBelow, ran_at, spent_at as spent_in}
use Rattle.lg_prof.specs.declared.tally.Counts.{Counts}
use Rattle.lg_prof.specs.Counted.{total}
use Rattle.lg_prof.specs.Counts as counts
use Rattle.lg_prof.specs.Laws.{CountsAddUp, SpentAddsUp, TablesHaveLines}
use Rattle.lg_cpu.specs.LineCounts.{table_line}
use Rattle.lg_prof.specs.Spent.{code_line, has_run, is_fault, is_going, spent}
use Rattle.lg_prof.proofs.SpentLemmas.{line_of_node, spent_same}
use Rattle.lg_prof.proofs.SumLemmas.{all_are_made}
use Rattle.lg_prof.proofs.TableLemmas.{line_is}
use Rattle.lg_run.specs.ProfileStarts.{AreTallied, IsStartOf, TalliesFor}
use Rattle.lg_run.specs.Profiles.{ProfilesAddUp, TableFor, TableIn, is_profile, is_run_end, meant_at, spent_at, table_of, tells_table}
use Rattle.lg_run.specs.Runs.{HasRun, RunSays}
use Rattle.lg_run.specs.Says.{IsCodeOf, code_meaning, code_run, trash_word}
use Rattle.lg_run.specs.declared.answer.Answer.{Answer}
use Rattle.lg_run.specs.declared.answer.Answer.TheVariants.{Ended, Listed, Undefined, Refused, Usage, ReadFault, WriteFault, StepsOut, Fault, OutOfMemory}
use Rattle.lg_run.specs.declared.profile.Start.{Start}
use Rattle.lg_run.proofs.OverLemmas as over
use Rattle.lg_run.proofs.RunLemmas.{goes}

-- ---- the lines of final nodes are lines of the text's nodes
folded_line : (n : Node) (a b : Option ℕ) → (folded_by n a b).line ≡ n.line
folded_line n (Some v) b = refl
folded_line n None (Some v) = refl
folded_line n None None = refl

threaded_line : (old n : Node) → IsThreadedNode old n → n.line ≡ old.line
threaded_line old n (inl same) = ap (λ m. m.line) same
threaded_line old n (inr h) = ap (λ m. m.line) h.2

line_kept : (old n : Node) → IsRewrittenNode old n → n.line ≡ old.line
line_kept old n h =
    let known = h.1.0 in
    threaded_line h.0 n h.2 ∙ ap (λ m. m.line) h.1.1 ∙ folded_line old (made known old.op old.operands) (last_known known old.op old.operands)

pub final_below : (l m : LabelledNodes) (origin : List ℕ) (top : ℕ) → IsOrigin IsRewrittenNode l m origin → AreBelow l.nodes top → AreBelow m.nodes top
final_below l m origin top from below i n here =
    let o = from.nodes i n here in
    let lt = below (slice_index origin i) o.0 o.1 in
    let same = line_kept o.0 n o.2 in
    omega (arith, lt, same)

-- so are those of a table of the code
pub table_lines_below : (nodes : List Node) (places lines : List ℕ) (top : ℕ) → length places ≡ length nodes + 1 → AreLines nodes places lines → AreBelow nodes top
    → (place line : ℕ) → slice_get lines place ≡ Some line → line < top
table_lines_below nodes places lines top count are below place line here = line_of_node nodes places place line top below (sym (line_is nodes places lines count are place) ∙ here)

-- ---- where a table is reported
pub told_in_profile : (m : Report) (a : Answer) → m ≡ report.Profile → tells_table m a ≡ is_run_end a
told_in_profile m a is = ap (λ n. tells_table n a) is

not_told : (m : Report) (a : Answer) → is_run_end a ≡ false → tells_table m a ≡ false
not_told m a is = ap (λ b. is_profile m && b) is ∙ at (is_profile m)
  where
    at : (b : Bool) → (b && false) ≡ false
    at true = refl
    at false = refl

-- nothing is reported with other answers
pub no_table : (c : Command) (held : Option NamedTexts) (code : Option Assembled) (steps : ℕ) (a : Answer) (tally : Option (List Counts)) → is_run_end a ≡ false → tally ≡ None
    → TableIn (tells_table (report_of c.mode) a) c held code steps (table_of tally)
no_table c held code steps a tally other none = subst (λ b. TableIn b c held code steps (table_of tally)) (sym (not_told (report_of c.mode) a other)) (ap table_of none)

-- the table of code is that of the call
pub run_tells : (c : Command) (held : Option NamedTexts) (code : Assembled) (made : IsCodeOf c held code) (b : Bool) (steps : ℕ) (lines : List ℕ) → TableFor b c code made.unit steps lines
    → TableIn b c held (Some code) steps lines
run_tells c held code made false steps lines h = h
run_tells c held code made true steps lines h = record { ran = code; is = refl; made = made; profile = h }

-- ---- the numbers that were counted are those of the profile
pub same_table : (f g h k : ℕ → ℕ) (top : ℕ) → ((line : ℕ) → f line ≡ h line) → ((line : ℕ) → g line ≡ k line) → table_below f g top ≡ table_below h k top
same_table f g h k top first second = ap₂ (λ (a b : ℕ → ℕ). table_below a b top) (λ i line. first line i) (λ i line. second line i)

module _ (c : Command) (code : Assembled) (unit : TextUnit) (shape : TextShape) (s : Start) (most : ℕ) (start : IsStartOf unit shape code (args_of c.arguments) s) (count : length code.places ≡ length code.nodes.nodes + 1) (law : TablesHaveLines)
    (runs : run_from (shown s.cpu) ≡ code_run c code unit) (meant : means.mean_from unit.nodes shape s.machine.labels.addresses (state_of s.machine.machine) ≡ code_meaning c code unit) (steps : most ≡ c.steps) where
  ran_is : (t : List Counts) (taken : ℕ) → AreTallied unit shape s most taken t → (line : ℕ) → ran_at t line ≡ meant_at c code unit line
  ran_is t taken are line = are.ran line ∙ ap (λ m. counts.count unit.nodes m line most) meant ∙ ap (λ n. counts.count unit.nodes (code_meaning c code unit) line n) steps

  spent_is : (t : List Counts) (taken : ℕ) → AreTallied unit shape s most taken t → (line : ℕ) → spent_in t line ≡ spent_at c code unit taken line
  spent_is t taken are line =
      are.spent line ∙ spent_same (table_line s.lines) (code_line code.nodes.nodes code.places) (run_from (shown s.cpu)) (law code.nodes.nodes code.places s.lines count start.lines) line taken
      ∙ ap (λ r. spent (code_line code.nodes.nodes code.places) r line taken) runs

  pub told : (b : Bool) (taken : ℕ) (tally : Option (List Counts)) → TalliesFor b unit shape s most taken tally → TableFor b c code unit taken (table_of tally)
  told false taken tally h = ap table_of h
  told true taken tally h =
      let t = h.0 in let are = h.2 in let some = start.stands.some in let kept = are.kept in record {
        top = length t;
        some = omega (arith, some, kept);
        below = subst (AreBelow unit.nodes.nodes) (sym are.kept) start.stands.below;
        is = ap table_of h.1 ∙ same_table (ran_at t) (spent_in t) (meant_at c code unit) (spent_at c code unit taken) (length t) (ran_is t taken are) (spent_is t taken are);
      }

-- ---- the numbers add up
module _ (c : Command) (held : Option NamedTexts) (code : Assembled) (made : IsCodeOf c held code) where
  abbrev run : ℕ → Run CpuState
  run = code_run c code made.unit

  has_run_before : (n k : ℕ) → n ≤ k → HasRun run k → HasRun run n
  has_run_before n k le here =
      let f = effect_of c.target code.bytes trash_word in
      goes (run n).progress (over.going_before (machine f) (machine_is f) (targets.run_from c.target made.unit.image (args_of c.arguments) trash_word) n k le (ap status_of here))

  step_made : (k : ℕ) (p : Progress) → HasRun run k → (run (k + 1)).progress ≡ p → not (is_fault p) ≡ true → has_run run k ≡ true
  step_made k p here next fine =
      ap (λ q. is_going q && not (is_fault (run (suc k)).progress)) here
      ∙ ap (λ j. not (is_fault (run j).progress)) (sym (add-one k)) ∙ ap (λ q. not (is_fault q)) next ∙ fine

  all_going : (steps : ℕ) → HasRun run steps → (k : ℕ) → k < steps → has_run run k ≡ true
  all_going steps here k lt = step_made k Goes (has_run_before k steps (omega (arith, lt)) here) (has_run_before (k + 1) steps (omega (arith, lt)) here) refl

  all_ended : (steps status : ℕ) → (run steps).progress ≡ EndedWith status → ((n : ℕ) → n < steps → HasRun run n) → (k : ℕ) → k < steps → has_run run k ≡ true
  all_ended steps status here before k lt = elim (cases_lt (k + 1) steps) [
    | inl less ↦ step_made k Goes (before k lt) (before (k + 1) less) refl
    | inr past ↦
        let same : k + 1 ≡ steps = omega (arith, lt, past) in
        step_made k (EndedWith status) (before k lt) (ap (λ j. (run j).progress) same ∙ here) refl
  ]

  all_run : (most steps : ℕ) (out : SinkChange) (a : Answer) → RunSays run most steps out a → (k : ℕ) → k < steps → has_run run k ≡ true
  all_run most steps out (Ended status) says = all_ended steps status says.1 says.2
  all_run most steps out StepsOut says = all_going steps says.1
  all_run most steps out (Fault kind pc) says = all_going steps says.1
  all_run most steps out WriteFault says = all_going steps says.1
  all_run most steps out other says = absurd says

  pub steps_add_up : SpentAddsUp → (top : ℕ) → 0 < top → AreBelow made.unit.nodes.nodes top → (most steps : ℕ) (out : SinkChange) (a : Answer) → RunSays run most steps out a
      → total (spent_at c code made.unit steps) top ≡ steps
  steps_add_up law top some below most steps out a says =
      law code.nodes.nodes code.places run top steps some (final_below made.unit.nodes code.nodes code.origin top made.rewritten.from below)
      ∙ all_are_made (has_run run) steps (all_run most steps out a says)

pub add_up : CountsAddUp → SpentAddsUp → ProfilesAddUp
add_up counts_law spent_law c held code made top some below = (
  counts_law made.unit.nodes (code_meaning c code made.unit) top c.steps some below,
  λ steps out a says. steps_add_up c held code made spent_law top some below c.steps steps out a says,
)

-- ---- the numbers that are reported of a run: none where the run did not end
pub none_told : (b : Bool) (unit : TextUnit) (shape : TextShape) (s : Start) (most steps : ℕ) (t : List Counts) → b ≡ false
    → TalliesFor b unit shape s most steps (if b then Some t else None)
none_told false unit shape s most steps t e = refl
none_told true unit shape s most steps t e = cc

pub is_told : (b : Bool) (unit : TextUnit) (shape : TextShape) (s : Start) (most steps : ℕ) (t : List Counts) → b ≡ true → AreTallied unit shape s most steps t
    → TalliesFor b unit shape s most steps (if b then Some t else None)
is_told true unit shape s most steps t e h = (t, refl, h)
is_told false unit shape s most steps t e h = cc
