-- The word that a function returns which is called from outside.
use Rattle.std.specs.Prelude.{◌≡◌, ℕ, ◌+◌, Option, None, List, [], ◌∷◌}
use Rattle.std.specs.Option.{option_and_then}
use Rattle.lg_op.specs.declared.node.Node.{Node}
use Rattle.lg_op.specs.declared.op.Op.{Op}
use Rattle.lg_op.specs.declared.op.Op.TheVariants as op
use Rattle.lg_op.specs.declared.op.ControlOp.TheVariants as control
use Rattle.lg_node.specs.Nodes.{LabelledNodes}
use Rattle.lg_node.specs.Shapes.{TextShape}
use Rattle.lg_meaning.specs.States.{Frame, State, value}
use Rattle.lg_meaning.specs.Steps.{Ending, Exited, Left, Outcome, Goes, Ends, Undefined, operand_at}
use Rattle.lg_meaning.specs.Texts.{step}
use Rattle.lg_meaning.specs.Means.{Run, ending_of, run_at, mean_from}

-- the word that the first frame is left with, where a run ends so
abbrev pub ending_word : Ending → Option ℕ
ending_word (Exited status) = None
ending_word (Left word) = word

-- the word with which a step leaves the first frame, where it does so
abbrev pub word_left : Outcome → Option ℕ
word_left (Goes t bytes) = None
word_left (Ends e) = ending_word e
word_left Undefined = None

-- the word of a return, where no frame is above
abbrev pub where_alone : List Frame → Option ℕ → Option ℕ
where_alone [] word = word
where_alone (g ∷ gs) word = None

-- the word of a return from the first frame
abbrev pub word_of_return : List ℕ → Node → Op → State → Option ℕ
word_of_return addresses n (op.Control control.Ret last) s = where_alone s.callers (value addresses s (operand_at n 0))
word_of_return addresses n o s = None

-- the word with which a run has ended
abbrev pub run_word : Run → Option ℕ
run_word r = option_and_then ending_word (ending_of r)

-- where a run goes on after k steps, the word with which the next step leaves the first frame is that with which the run has ended after k + 1 steps
abbrev pub WordsLeftAreOfRuns : Type 0
WordsLeftAreOfRuns = (l : LabelledNodes) (shape : TextShape) (addresses : List ℕ) (start s : State) (out : List ℕ) (k : ℕ)
    → mean_from l shape addresses start k ≡ run_at s out → word_left (step l shape addresses s) ≡ run_word (mean_from l shape addresses start (k + 1))
