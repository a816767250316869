-- What a machine's steps say of a step's outcome.
use Rattle.std.specs.Prelude.{◌≡◌, ◌<◌, ◌≤◌, ◌⊎◌, ℕ, ◌+◌, ◌-◌, Bool, true, false, if◌then◌else◌, Option, Some, None, List, [], ◌∷◌, ⊤}
use Rattle.std.specs.Io.KnownBytes.{Appends}
use Rattle.lg_io.specs.Counts.{Rose}
use Rattle.lg_io.specs.Wrote.{AppendsPrefix}
use Rattle.lg_op.specs.declared.node.Node.{Node}
use Rattle.lg_op.specs.declared.operand.Operand.{Operand}
use Rattle.lg_op.specs.declared.operand.Operand.TheVariants as operand
use Rattle.lg_op.specs.declared.op.Op.{Op}
use Rattle.lg_op.specs.declared.op.Op.TheVariants as op
use Rattle.lg_op.specs.declared.op.ControlOp.TheVariants as control
use Rattle.lg_op.specs.declared.op.PlainOp.TheVariants as plain
use Rattle.lg_node.specs.declared.function.Function.{Function}
use Rattle.lg_node.specs.Functions.{frame_of}
use Rattle.lg_cells.specs.Memories.{without}
use Rattle.lg_meaning.specs.declared.reason.Called.{Called}
use Rattle.lg_meaning.specs.declared.reason.Called.TheVariants.{OfHost, OfText}
use Rattle.lg_meaning.specs.declared.reason.Reason.{Reason}
use Rattle.lg_meaning.specs.declared.reason.Reason.TheVariants.{NotAllowed}
use Rattle.lg_meaning.specs.States.{Frame, State}
use Rattle.lg_meaning.specs.Steps.{ending_status, Outcome, Goes, Ends, Undefined, operand_at, function_here}
use Rattle.lg_mean.specs.declared.mean_step.MeanStep.{MeanStep}
use Rattle.lg_mean.specs.declared.mean_step.MeanStep.TheVariants as mean

-- the answer and the new state of a node that neither ends the run nor writes
abbrev pub Does : Outcome → State → Bool → State → Type 0
Does (Goes t bytes) old went new = (went ≡ true) × (new ≡ t) × (bytes ≡ [])
Does (Ends n) old went new = ⊥
Does Undefined old went new = (went ≡ false) × (new ≡ old)

-- the answer and the new state of a return
abbrev pub Returns : Outcome → State → Option ℕ → State → Type 0
Returns (Goes t bytes) old ended new = (ended ≡ None) × (new ≡ t) × (bytes ≡ [])
Returns (Ends e) old ended new = (ended ≡ Some (ending_status e)) × (new ≡ old)
Returns Undefined old ended new = ⊥

-- the top frame and its locals are gone, where there was another one
abbrev pub WentUp : State → List Frame → Bool → State → Type 0
WentUp old [] went new = (went ≡ false) × (new ≡ old)
WentUp old (g ∷ gs) went new = (went ≡ true)
    × (new ≡ record old { frame = g; callers = gs; mem = without old.mem (old.frame.sp - 144 - old.frame.locals) old.frame.locals })

-- the answer of a step, the new state and what was written
abbrev pub Steps : Outcome → ℕ → State → MeanStep → State → (out out' : Option (List ℕ)) → (faults faults' : ℕ) → Type 0
Steps (Goes t bytes) line old answer new out out' faults faults' =
    ((answer ≡ mean.Went) × (new ≡ t) × Appends out out' bytes)
    ⊎ ((answer ≡ mean.WriteFault) × (new ≡ old) × AppendsPrefix out out' bytes × Rose faults faults')
Steps (Ends e) line old answer new out out' faults faults' = (answer ≡ mean.Ended (ending_status e)) × (new ≡ old) × Appends out out' []
Steps Undefined line old answer new out out' faults faults' = (answer ≡ mean.Undefined line) × (new ≡ old) × Appends out out' []

-- the sink's count of faults stays, but where a write failed
abbrev pub KeepsCount : MeanStep → (faults faults' : ℕ) → Type 0
KeepsCount mean.WriteFault faults faults' = ⊤
KeepsCount answer faults faults' = faults' ≡ faults

-- the same for a step that writes nothing
abbrev pub Quiet : Outcome → ℕ → State → MeanStep → State → Type 0
Quiet (Goes t bytes) line old answer new = (answer ≡ mean.Went) × (new ≡ t) × (bytes ≡ [])
Quiet (Ends e) line old answer new = (answer ≡ mean.Ended (ending_status e)) × (new ≡ old)
Quiet Undefined line old answer new = (answer ≡ mean.Undefined line) × (new ≡ old)

abbrev pub answer_of : Bool → ℕ → MeanStep
answer_of went line = if went then mean.Went else mean.Undefined line

-- the label of an operand has an address and a place
abbrev pub IsKnown : ℕ → Operand → Type 0
IsKnown labels (operand.Label l) = l.0 < labels
IsKnown labels x = Unit {0}

abbrev pub AreKnown : ℕ → Node → Type 0
AreKnown labels n = (i : ℕ) → i < 4 → IsKnown labels (operand_at n i)

-- the running frame has begun
abbrev pub HasBegun : State → Type 0
HasBegun s = 272 + s.frame.locals ≤ s.frame.size

-- the function at this node can begin
abbrev pub CanBegin : List Function → State → Type 0
CanBegin functions s = (f : Function) × (function_here functions s.at ≡ Some f) × (s.frame.locals ≡ 0) × (0x3FF00010 + frame_of f ≤ s.frame.sp)

-- what a node asks of the state: fewer than 16 arguments were pushed, and the frame has begun, or can begin
abbrev pub Suits : List Function → Op → State → ℕ → Type 0
Suits functions (op.Control control.Pusharg last) s count = count < 16
Suits functions (op.Control control.Call last) s count = HasBegun s
Suits functions (op.Control control.Finish last) s count = HasBegun s
Suits functions (op.Control control.Ret last) s count = HasBegun s
Suits functions (op.Plain plain.Prolog) s count = CanBegin functions s
Suits functions (op.Plain plain.Epilog) s count = HasBegun s
Suits functions (op.Plain plain.Ret) s count = HasBegun s
Suits functions o s count = Unit {0}

-- the nodes that neither call nor return
abbrev pub stays : Op → Bool
stays (op.Control control.Call last) = false
stays (op.Control control.Finish last) = false
stays (op.Control control.Ret last) = false
stays (op.Plain plain.Epilog) = false
stays (op.Plain plain.Ret) = false
stays o = true

-- a function that is called has at most 65,536 bytes of locals
abbrev pub IsSmall : Called → Type 0
IsSmall (OfHost name) = Unit {0}
IsSmall (OfText f) = f.locals ≤ 65536

-- the reason of a call whose step is undefined, where a host function is called
abbrev pub not_allowed : Called → Option Reason
not_allowed (OfHost name) = Some (NotAllowed name)
not_allowed (OfText f) = None
