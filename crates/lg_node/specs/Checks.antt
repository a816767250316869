-- What a text is refused for once it has been read, and where.
use Rattle.std.specs.Prelude.{◌≡◌, ◌⊎◌, ℕ, ◌+◌, ◌<◌, Bool, true, false, not, ◌&&◌, ◌||◌, if◌then◌else◌, nat_le, nat_lt, List, [], ◌∷◌, Option, Some, None, is_none, is_some, length, take, slice_get}
use Rattle.std.specs.List.{find, list_any, count_by, sum_by}
use Rattle.std.specs.Option.{option_and_then, option_map}
use Rattle.lg_base.specs.declared.refusal.Refusal.{Refusal}
use Rattle.lg_base.specs.declared.refusal.RefusalKind.{RefusalKind}
use Rattle.lg_base.specs.declared.refusal.RefusalKind.TheVariants.{LabelMissing, NotInFunction, FunctionOpen, TargetOutside, BadCall, TooManyArgs, FrameTooBig, NoCode}
use Rattle.lg_op.specs.Forms.{forms_of}
use Rattle.lg_op.specs.declared.form.Form.{Form}
use Rattle.lg_op.specs.declared.form.Form.TheVariants as form
use Rattle.lg_op.specs.declared.op.Op.{Op}
use Rattle.lg_op.specs.declared.op.Op.TheVariants.{Branch, BranchSum, Control, Plain}
use Rattle.lg_op.specs.declared.op.ControlOp.TheVariants as control
use Rattle.lg_op.specs.declared.op.PlainOp.TheVariants as plain
use Rattle.lg_op.specs.declared.op.LastOperand.TheVariants as last_operand
use Rattle.lg_op.specs.declared.operand.Operand.{Operand}
use Rattle.lg_op.specs.declared.operand.Operand.TheVariants as operand
use Rattle.lg_op.specs.declared.node.Node.{Node}
use Rattle.lg_node.specs.declared.place.Place.{Place}
use Rattle.lg_node.specs.declared.preparation.Preparation.{Preparation}
use Rattle.lg_node.specs.Nodes.{LabelledNodes}
use Rattle.lg_node.specs.Functions.{is_prolog, is_prolog_node, open_before, home, since, local_size}
use Rattle.lg_node.specs.Preparations.{prepared_before, varies_before}
use Rattle.lg_node.specs.Labels.{place_of, is_labelled, is_code, is_entry, is_inside, takes_address}

-- LabelMissing: a label that nothing binds
abbrev pub is_missing : List (Option Place) → Operand → Bool
is_missing places (operand.Label l) = is_none (place_of places l)
is_missing places x = false

-- NotInFunction: a node outside every function other than `.align` and, before the first `prolog`, `jmpi`
abbrev pub may_stand_outside : Op → Bool → Bool
may_stand_outside (Plain plain.Align) begun = true
may_stand_outside (Control control.Jmp last_operand.Immediate) begun = not begun
may_stand_outside op begun = false

-- a `prolog` is before a node
abbrev pub is_begun : List Node → ℕ → Bool
is_begun nodes i = list_any is_prolog_node (take i nodes)

-- whether an operand is a label
abbrev pub is_label : Operand → Bool
is_label (operand.Label x) = true
is_label x = false

-- TargetOutside: the target of a branch or jump is not in the same function after its `prolog`, or, outside of every function, no `prolog`; a call's is no
-- `prolog`; or the address of a node is as an immediate where it may not
abbrev pub is_astray : LabelledNodes → Option ℕ → Op → Form → Operand → Bool
is_astray l None op form.Target (operand.Label x) = not (is_entry l.nodes (place_of l.places x))
is_astray l (Some p) op form.Target (operand.Label x) = not (is_inside l.nodes p (place_of l.places x))
is_astray l home op form.Callee (operand.Label x) = not (is_entry l.nodes (place_of l.places x))
is_astray l home op form.Immediate (operand.Label x) = is_code (place_of l.places x) && not (takes_address op)
is_astray l home op f x = false

-- a test holds of an operand, by its form
abbrev pub any_by_form : (Form → Operand → Bool) → List Form → List Operand → Bool
any_by_form test (f ∷ fs) (x ∷ xs) = test f x || any_by_form test fs xs
any_by_form test fs xs = false

-- BadCall: what is only where a call is being prepared
abbrev pub needs_preparation : Op → Bool
needs_preparation (Control control.Pusharg last) = true
needs_preparation (Control control.Finish last) = true
needs_preparation op = false

-- and what may not be there: `prepare`, branches, jumps, other calls and returns
abbrev pub breaks_preparation : Op → Bool
breaks_preparation (Branch condition last) = true
breaks_preparation (BranchSum sum last) = true
breaks_preparation (Control control.Jmp last) = true
breaks_preparation (Control control.Call last) = true
breaks_preparation (Control control.Ret last) = true
breaks_preparation (Plain plain.Prepare) = true
breaks_preparation (Plain plain.Ret) = true
breaks_preparation (Plain plain.Epilog) = true
breaks_preparation op = false

abbrev pub is_ellipsis : Op → Bool
is_ellipsis (Plain plain.Ellipsis) = true
is_ellipsis op = false

abbrev pub is_arg : Op → Bool
is_arg (Plain plain.Arg) = true
is_arg op = false

abbrev pub is_va_start : Op → Bool
is_va_start (Plain plain.VaStart) = true
is_va_start op = false

-- what may not be after a function's own `ellipsis`, and what only there
abbrev pub is_out_of_turn : Bool → Op → Bool
is_out_of_turn true op = is_arg op
is_out_of_turn false op = is_va_start op

-- and a second `ellipsis` of a call or of a function, and a node at which a label is bound while a call is prepared
abbrev pub is_bad_call : Option Preparation → Bool → Bool → Op → Bool
is_bad_call None varies labelled op = needs_preparation op || ((varies && is_ellipsis op) || is_out_of_turn varies op)
is_bad_call (Some call) varies labelled op = labelled || (breaks_preparation op || ((call.variadic && is_ellipsis op) || is_out_of_turn varies op))

-- TooManyArgs: the 17th `arg` of a function, or the 17th argument of a call

abbrev pub is_arg_node : Node → Bool
is_arg_node n = is_arg n.op

abbrev pub is_pusharg : Op → Bool
is_pusharg (Control control.Pusharg last) = true
is_pusharg op = false

abbrev pub pushes_too_many : Option Preparation → Op → Bool
pushes_too_many None op = false
pushes_too_many (Some call) op = is_pusharg op && nat_le 16 call.pushed

abbrev pub is_too_many : ℕ → Option Preparation → Op → Bool
is_too_many args call op = (is_arg op && nat_le 16 args) || pushes_too_many call op

-- FrameTooBig: the `allocai` with which the locals of a function pass 65,536 bytes
abbrev pub is_too_big : ℕ → ℕ → Bool
is_too_big locals size = nat_lt 65536 (locals + size)

-- how many `arg` nodes, and bytes of locals, a function has before a node
abbrev pub args_before : List Node → ℕ → ℕ
args_before nodes i = count_by is_arg_node (since nodes (open_before nodes i) i)

abbrev pub locals_before : List Node → ℕ → ℕ
locals_before nodes i = sum_by local_size (since nodes (open_before nodes i) i)

-- a node is refused by a kind
abbrev pub refuses : LabelledNodes → ℕ → Node → RefusalKind → Bool
refuses l i n LabelMissing = list_any (is_missing l.places) n.operands
refuses l i n NotInFunction = is_none (home l.nodes i) && not (may_stand_outside n.op (is_begun l.nodes i))
refuses l i n FunctionOpen = is_prolog n.op && is_some (open_before l.nodes i)
refuses l i n TargetOutside = any_by_form (is_astray l (home l.nodes i) n.op) (forms_of n.op) n.operands
refuses l i n BadCall = is_bad_call (prepared_before l.nodes i) (varies_before l.nodes i) (is_labelled l.places i) n.op
refuses l i n TooManyArgs = is_too_many (args_before l.nodes i) (prepared_before l.nodes i) n.op
refuses l i n FrameTooBig = is_too_big (locals_before l.nodes i) (local_size n)
refuses l i n kind = false

-- the order of the kinds at one node
abbrev pub kinds : List RefusalKind
kinds = LabelMissing ∷ NotInFunction ∷ FunctionOpen ∷ TargetOutside ∷ BadCall ∷ TooManyArgs ∷ FrameTooBig ∷ []

-- a test fails at each kind
abbrev pub FailsAll : (RefusalKind → Bool) → List RefusalKind → Type 0
FailsAll test [] = Unit {0}
FailsAll test (k ∷ ks) = (test k ≡ false) × FailsAll test ks

abbrev pub refusal_of : LabelledNodes → ℕ → Node → Option Refusal
refusal_of l i n = option_map (λ k. record { kind = k; line = n.line }) (find (refuses l i n) kinds)

-- why a node is refused
unfoldable pub refusal_at : LabelledNodes → ℕ → Option Refusal
refusal_at l i = option_and_then (refusal_of l i) (slice_get l.nodes i)

abbrev pub line_of : Option Node → ℕ
line_of None = 0
line_of (Some n) = n.line

-- why the text is refused at its end: a function is open, which is blamed on its `prolog`, or there is no `prolog`
abbrev pub end_refusal_of : List Node → Option ℕ → Bool → Option Refusal
end_refusal_of nodes (Some p) begun = Some record { kind = FunctionOpen; line = line_of (slice_get nodes p) }
end_refusal_of nodes None begun = if begun then None else Some record { kind = NoCode; line = 1 }

abbrev pub end_refusal : List Node → Option Refusal
end_refusal nodes = end_refusal_of nodes (open_before nodes (length nodes)) (list_any is_prolog_node nodes)

-- no node before this one is refused
abbrev pub NoneBefore : LabelledNodes → ℕ → Type 0
NoneBefore l i = (j : ℕ) → j < i → refusal_at l j ≡ None

-- the text is accepted
pub record IsAccepted (l : LabelledNodes) : Type 0 where
  pub nodes : NoneBefore l (length l.nodes)
  pub end : end_refusal l.nodes ≡ None

-- the first node that is refused is refused so
pub record IsRefusedAtNode (l : LabelledNodes) (r : Refusal) : Type 0 where
  pub at : ℕ
  pub within : at < length l.nodes
  pub before : NoneBefore l at
  pub here : refusal_at l at ≡ Some r

-- no node is refused, and the end is
pub record IsRefusedAtEnd (l : LabelledNodes) (r : Refusal) : Type 0 where
  pub nodes : NoneBefore l (length l.nodes)
  pub here : end_refusal l.nodes ≡ Some r

-- the text is refused so
abbrev pub IsRefused : LabelledNodes → Refusal → Type 0
IsRefused l r = IsRefusedAtNode l r ⊎ IsRefusedAtEnd l r
