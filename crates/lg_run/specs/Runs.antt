-- What an answer says of a run: of code on a processor, or of the portable meaning. Both are functions of the number of steps.
use Rattle.std.specs.Prelude.{◌≡◌, ℕ, ◌+◌, ◌<◌, ◌≤◌, List, ◌++◌, length, take}
use Rattle.lg_base.specs.Runs.{Running, Bad}
use Rattle.lg_base.specs.Runs as runs
use Rattle.lg_cpu.specs.States.{CpuState}
use Rattle.lg_cpu.specs.Steps.{Run, Goes, EndedWith, Faulted}
use Rattle.lg_meaning.specs.Means as means
use Rattle.lg_meaning.specs.Texts.{line_at}
use Rattle.lg_node.specs.Nodes.{LabelledNodes}
use Rattle.lg_io.specs.SinkChanges.{SinkChange, Took}
use Rattle.lg_run.specs.declared.answer.Answer.{Answer}
use Rattle.lg_run.specs.declared.answer.Answer.TheVariants.{Ended, Undefined, WriteFault, StepsOut, Fault}

-- a sink took a prefix of the later output that begins with the earlier one
abbrev pub TookBetween : SinkChange → (before after : List ℕ) → Type 0
TookBetween s before after = (more : List ℕ) × (after ≡ before ++ more) × ((n : ℕ) × (n < length more) × Took s (before ++ take n more))

abbrev pub HasRun : (ℕ → Run CpuState) → ℕ → Type 0
HasRun run n = (run n).progress ≡ Goes

-- what an answer says of a run of at most `most` steps
abbrev pub RunSays : (ℕ → Run CpuState) → (most steps : ℕ) → SinkChange → Answer → Type 0
RunSays run most steps out (Ended status) =
    (steps ≤ most) × ((run steps).progress ≡ EndedWith status) × ((n : ℕ) → n < steps → HasRun run n) × Took out (run steps).out
RunSays run most steps out StepsOut = (steps ≡ most) × HasRun run steps × Took out (run steps).out
RunSays run most steps out (Fault kind pc) =
    (steps < most) × HasRun run steps × ((run (steps + 1)).progress ≡ Faulted kind) × ((run (steps + 1)).state.pc ≡ pc) × Took out (run (steps + 1)).out
RunSays run most steps out WriteFault = (steps < most) × HasRun run steps × TookBetween out (run steps).out (run (steps + 1)).out
RunSays run most steps out answer = ⊥

abbrev pub HasMeant : (ℕ → means.Run) → ℕ → Type 0
HasMeant meaning n = (meaning n).status ≡ Running

-- and of the meaning of nodes
abbrev pub MeanSays : LabelledNodes → (ℕ → means.Run) → (most steps : ℕ) → SinkChange → Answer → Type 0
MeanSays nodes meaning most steps out (Ended status) =
    (steps ≤ most) × ((meaning steps).status ≡ runs.Ended status) × ((n : ℕ) → n < steps → HasMeant meaning n) × Took out (meaning steps).out
MeanSays nodes meaning most steps out StepsOut = (steps ≡ most) × HasMeant meaning steps × Took out (meaning steps).out
MeanSays nodes meaning most steps out (Undefined line) =
    (steps < most) × HasMeant meaning steps × ((meaning (steps + 1)).status ≡ Bad) × (line ≡ line_at nodes (meaning steps).state)
    × Took out (meaning (steps + 1)).out
MeanSays nodes meaning most steps out WriteFault =
    (steps < most) × HasMeant meaning steps × TookBetween out (meaning steps).out (meaning (steps + 1)).out
MeanSays nodes meaning most steps out answer = ⊥
