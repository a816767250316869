-- How an expression is read: the steps so far, what waits for operands, the latest first, and what stands next.
use Rattle.std.specs.Prelude.{◌≡◌, ℕ, ◌+◌, ◌-◌, ◌*◌, ◌^◌, ◌==◌, nat_le, nat_lt, if◌then◌else◌, List, [], ◌∷◌, ◌++◌, reverse, Option, Some, None, Result, Ok, Err}
use Rattle.std.specs.Int.{is_in_range}
use Rattle.lg_op.specs.declared.op.BinaryOp.{BinaryOp}
use Rattle.lg_op.specs.declared.op.BinaryOp.TheVariants as op
use Rattle.lg_expression.specs.declared.reading.Next.{Next}
use Rattle.lg_expression.specs.declared.reading.Next.TheVariants.{Operand, Digits, Operator}
use Rattle.lg_expression.specs.declared.reading.ReadError.{ReadError}
use Rattle.lg_expression.specs.declared.reading.ReadError.TheVariants.{NoExpression, NumberTooWide, TooLarge, OutOfMemory}
use Rattle.lg_expression.specs.declared.reading.Reader.{Reader}
use Rattle.lg_expression.specs.declared.reading.Waiting.{Waiting}
use Rattle.lg_expression.specs.declared.reading.Waiting.TheVariants as waits
use Rattle.lg_expression.specs.declared.step.Step.{Step}
use Rattle.lg_expression.specs.declared.step.Step.TheVariants.{Number, Argument, Negate, Operation}
use Rattle.lg_expression.specs.Grammar.{comparison, space, opening, closing, letter_x, operation_at, closeness}

pub record State : Type 0 where
  pub steps : List Step
  pub waiting : List Waiting
  pub next : Next

abbrev pub shown : Reader → State
shown r = record { steps = r.steps.items; waiting = reverse r.waiting.items; next = r.next }

abbrev pub start : State
start = record { steps = []; waiting = []; next = Operand }

-- an error that comes as a definition says; where memory ran out nothing is said
abbrev pub Fails : {A : Type 0} → Result A ReadError → ReadError → Type 0
Fails wanted OutOfMemory = Unit {0}
Fails wanted NoExpression = wanted ≡ Err NoExpression
Fails wanted NumberTooWide = wanted ≡ Err NumberTooWide
Fails wanted TooLarge = wanted ≡ Err TooLarge

-- a call that leaves a state, or fails, as a definition says
abbrev pub Goes : {A : Type 0} → Result (Unit {0}) ReadError → A → Result A ReadError → Type 0
Goes (Ok u) new wanted = wanted ≡ Ok new
Goes (Err e) new wanted = Fails wanted e

-- the same of a call that gives a value
abbrev pub Gives : {A : Type 0} → Result A ReadError → Result A ReadError → Type 0
Gives (Ok x) wanted = wanted ≡ Ok x
Gives (Err e) wanted = Fails wanted e

-- ---- what waits

-- its step where it holds at least as close as this, and none at a parenthesis
abbrev pub step_before : ℕ → Waiting → Option Step
step_before least waits.Open = None
step_before least waits.Negate = Some Negate
step_before least (waits.Operation o) = if nat_le least (closeness o) then Some (Operation o) else None

abbrev pub given_by : Option Step → List Step → List Step
given_by None rest = []
given_by (Some s) rest = s ∷ rest

abbrev pub kept_by : Option Step → List Waiting → List Waiting → List Waiting
kept_by None all rest = all
kept_by (Some s) all rest = rest

-- the steps that are given, and what is kept, where all goes that holds at least as close as this
abbrev pub given : ℕ → List Waiting → List Step
given least [] = []
given least (w ∷ ws) = given_by (step_before least w) (given least ws)

abbrev pub kept : ℕ → List Waiting → List Waiting
kept least [] = []
kept least (w ∷ ws) = kept_by (step_before least w) (w ∷ ws) (kept least ws)

abbrev pub released : ℕ → State → State
released least s = record s { steps = s.steps ++ given least s.waiting; waiting = kept least s.waiting }

-- the first step of them, and what waits after it
abbrev pub first : List Waiting → Option Waiting
first [] = None
first (w ∷ ws) = Some w

abbrev pub first_step : ℕ → List Waiting → Option Step
first_step least [] = None
first_step least (w ∷ ws) = step_before least w

abbrev pub after_first : List Waiting → List Waiting
after_first [] = []
after_first (w ∷ ws) = ws

-- ---- a byte

abbrev pub ended_from : Next → State → State
ended_from (Digits n) s = record s { steps = s.steps ++ Number n ∷ []; next = Operator }
ended_from Operand s = s
ended_from Operator s = s

-- a number ends here, if one stood here
abbrev pub ended : State → State
ended s = ended_from s.next s

-- a number with a digit more
abbrev pub longer : ℕ → ℕ → Result ℕ ReadError
longer n d = if nat_lt (n * 10 + d) (2 ^ 64) then Ok (n * 10 + d) else Err NumberTooWide

abbrev pub at_digits : Result ℕ ReadError → State → Result State ReadError
at_digits (Ok n) s = Ok (record s { next = Digits n })
at_digits (Err e) s = Err e

abbrev pub digit_from : Next → ℕ → State → Result State ReadError
digit_from Operand d s = at_digits (longer 0 d) s
digit_from (Digits n) d s = at_digits (longer n d) s
digit_from Operator d s = Err NoExpression

abbrev pub argument_from : Next → State → Result State ReadError
argument_from Operand s = Ok (record s { steps = s.steps ++ Argument ∷ []; next = Operator })
argument_from next s = Err NoExpression

abbrev pub opened_from : Next → State → Result State ReadError
opened_from Operand s = Ok (record s { waiting = waits.Open ∷ s.waiting })
opened_from next s = Err NoExpression

abbrev pub closed_by : List Waiting → State → Result State ReadError
closed_by (waits.Open ∷ ws) s = Ok (record s { waiting = ws })
closed_by ws s = Err NoExpression

abbrev pub closed_from : Next → State → Result State ReadError
closed_from Operator s = let r = released comparison s in closed_by r.waiting r
closed_from next s = Err NoExpression

-- a minus sign where an operand is expected negates it
abbrev pub sign_by : BinaryOp → State → Result State ReadError
sign_by op.Sub s = Ok (record s { waiting = waits.Negate ∷ s.waiting })
sign_by o s = Err NoExpression

abbrev pub operator_from : Next → BinaryOp → State → Result State ReadError
operator_from Operator o s = let r = released (closeness o) s in Ok (record r { waiting = waits.Operation o ∷ r.waiting; next = Operand })
operator_from next o s = sign_by o s

abbrev pub operator_by : Option BinaryOp → State → Result State ReadError
operator_by None s = Err NoExpression
operator_by (Some o) s = operator_from s.next o s

-- what ends a number: a space, a parenthesis that closes or an operator
abbrev pub taken_behind : ℕ → State → Result State ReadError
taken_behind byte s = if byte == space then Ok s else (if byte == closing then closed_from s.next s else operator_by (operation_at byte) s)

abbrev pub taken : ℕ → State → Result State ReadError
taken byte s =
    if is_in_range 48 57 byte then digit_from s.next (byte - 48) s
    else (if byte == letter_x then argument_from s.next s
    else (if byte == opening then opened_from s.next s
    else taken_behind byte (ended s)))

-- ---- a text

abbrev pub then_on : Result State ReadError → (State → Result State ReadError) → Result State ReadError
then_on (Ok s) on = on s
then_on (Err e) on = Err e

unfoldable pub read_on : State → List ℕ → Result State ReadError
read_on s [] = Ok s
read_on s (byte ∷ bytes) = then_on (taken byte s) (λ t. read_on t bytes)

abbrev pub whole_by : List Waiting → List Step → Result (List Step) ReadError
whole_by [] steps = Ok steps
whole_by (w ∷ ws) steps = Err NoExpression

abbrev pub whole_from : Next → State → Result (List Step) ReadError
whole_from Operator s = let r = released comparison s in whole_by r.waiting r.steps
whole_from next s = Err NoExpression

-- the text ends: nothing may be left open
abbrev pub whole : State → Result (List Step) ReadError
whole s = whole_from (ended s).next (ended s)

abbrev pub whole_of : Result State ReadError → Result (List Step) ReadError
whole_of (Ok s) = whole s
whole_of (Err e) = Err e

-- the steps that are read in a text
abbrev pub steps_read : List ℕ → Result (List Step) ReadError
steps_read text = whole_of (read_on start text)
