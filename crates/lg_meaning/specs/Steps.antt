-- One step of the portable machine: a row for each family of the instruction table. A step is undefined where a word that it reads is
-- undefined, and it then changes and writes nothing.
use Rattle.std.specs.Prelude.{ℕ, zero, suc, ◌+◌, ◌-◌, ◌==◌, ◌&&◌, Bool, true, false, nat_lt, nat_le, max, if◌then◌else◌, Option, Some, None, List, [], ◌∷◌, ◌++◌, length, slice_index, slice_index_or, slice_get}
use Rattle.std.specs.Option.{option_and_then, option_flatten}
use Rattle.lg_base.specs.Words.{add_words}
use Rattle.lg_base.specs.Spaces.{loaded, stored}
use Rattle.lg_base.specs.HostNames.{host_by_address}
use Rattle.lg_base.specs.declared.host_name.HostName.{HostName}
use Rattle.lg_host.specs.Host.{Host, Gives, Exits, memory, after, host_of}
use Rattle.lg_host.specs.Host as host
use Rattle.lg_op.specs.declared.node.Node.{Node}
use Rattle.lg_op.specs.declared.operand.Operand.{Operand}
use Rattle.lg_op.specs.declared.operand.Operand.TheVariants as operand
use Rattle.lg_op.specs.declared.op.Op.{Op}
use Rattle.lg_op.specs.declared.op.Op.TheVariants as op
use Rattle.lg_op.specs.declared.op.BinaryOp.{BinaryOp}
use Rattle.lg_op.specs.declared.op.BranchSumOp.{BranchSumOp}
use Rattle.lg_op.specs.declared.op.Condition.{Condition}
use Rattle.lg_op.specs.declared.op.UnaryOp.{UnaryOp}
use Rattle.lg_op.specs.declared.op.WideOp.{WideOp}
use Rattle.lg_op.specs.declared.op.ValueType.{ValueType}
use Rattle.lg_op.specs.declared.op.StoreType.{StoreType}
use Rattle.lg_op.specs.declared.op.Addressing.{Addressing}
use Rattle.lg_op.specs.declared.op.Addressing.TheVariants as addressing
use Rattle.lg_op.specs.declared.op.ControlOp.TheVariants as control
use Rattle.lg_op.specs.declared.op.PlainOp.{PlainOp}
use Rattle.lg_op.specs.declared.op.PlainOp.TheVariants as plain
use Rattle.lg_op.specs.declared.op.LastOperand.{LastOperand}
use Rattle.lg_op.specs.declared.op.LastOperand.TheVariants as last_operand
use Rattle.lg_node.specs.declared.function.Function.{Function}
use Rattle.lg_node.specs.declared.place.Place.{Place}
use Rattle.lg_node.specs.declared.place.Place.TheVariants as place
use Rattle.lg_node.specs.Functions.{function_of, frame_of}
use Rattle.lg_node.specs.Labels.{place_of}
use Rattle.lg_cells.specs.Memories.{without, writable}
use Rattle.lg_op.specs.declared.carry.Carry.{Carry}
use Rattle.lg_op.specs.declared.carry.Carry.TheVariants as carry
use Rattle.lg_op.specs.Operators.{binary_value, sets_carry, carry_in, value_with_carry, carry_made, holds, branch_sum_value, branch_sum_goes, wide_value, unary_value, keeps_carry, width, extended_by_type, store_width}
use Rattle.lg_meaning.specs.States.{Frame, State, value, named, is_open}

-- how a step ends the run: a host function exits with a status, or the first frame is left with a result, where there is one
pub data Ending : Type 0 where
  Exited : (status : ℕ) → Ending
  Left : (result : Option ℕ) → Ending

-- the status of a run that ends so
abbrev pub ending_status : Ending → ℕ
ending_status (Exited status) = status
ending_status (Left result) = 0

-- what a step does: it goes to a state and writes bytes, ends the run, or is undefined
pub data Outcome : Type 0 where
  Goes : State → List ℕ → Outcome
  Ends : Ending → Outcome
  Undefined : Outcome

-- what a step knows of the text: the address of each label, where it is bound, the functions, and which labels are taken
pub record Text : Type 0 where
  pub addresses : List ℕ
  pub places : List (Option Place)
  pub functions : List Function
  pub taken : List Bool

-- with something that must be defined
abbrev pub need : {A : Type 0} → Option A → (A → Outcome) → Outcome
need None f = Undefined
need (Some v) f = f v

abbrev pub when : Bool → Outcome → Outcome
when b next = if b then next else Undefined

-- a step that writes no bytes
abbrev pub quiet : State → Outcome
quiet s = Goes s []

-- an operand; nodes have those of their form
abbrev pub operand_at : Node → ℕ → Operand
operand_at n i = slice_index_or n.operands i (operand.Number 0)

-- ---- how a node goes on
-- to a node: the carry and the result of a call are gone
abbrev pub to : State → ℕ → State
to s n = record s { at = n; carry = carry.Undefined; answer = None }

-- to the next node
abbrev pub on : State → State
on s = to s (s.at + 1)

-- to the next node, with the carry as it is
abbrev pub on_with_carry : State → State
on_with_carry s = record s { at = s.at + 1; answer = None }

abbrev pub with_word : (ℕ → Option ℕ) → ℕ → ℕ → ℕ → Option ℕ
with_word regs i v j = if j == i then Some v else regs j

-- a register written
abbrev pub with_reg : State → Operand → ℕ → State
with_reg s d v = record s { regs = with_word s.regs (named d) v }

-- ---- arithmetic
abbrev pub operate : State → Operand → Option ℕ → Outcome
operate s d r = need r (λ v. quiet (on (with_reg s d v)))

abbrev pub binary_step : List ℕ → Node → (ℕ → ℕ → Option ℕ) → State → Outcome
binary_step A n f s = need (value A s (operand_at n 1)) (λ a. need (value A s (operand_at n 2)) (λ b. operate s (operand_at n 0) (f a b)))

abbrev pub bit_word : Bool → ℕ
bit_word bit = if bit then 1 else 0

-- the state after an operation that sets the carry
abbrev pub goes_with_carry : State → Operand → ℕ → Carry → State
goes_with_carry s d v c = record (with_reg s d v) { at = s.at + 1; answer = None; carry = c }

abbrev pub carry_step : List ℕ → Node → BinaryOp → State → Outcome
carry_step A n o s =
    need (value A s (operand_at n 1)) (λ a. need (value A s (operand_at n 2)) (λ b. need (carry_in o s.carry) (λ bit.
    quiet (goes_with_carry s (operand_at n 0) (value_with_carry o a b (bit_word bit)) (carry_made o a b (bit_word bit))))))

abbrev pub wide_step : List ℕ → Node → WideOp → State → Outcome
wide_step A n o s =
    need (value A s (operand_at n 2)) (λ a. need (value A s (operand_at n 3)) (λ b. need (wide_value o a b) (λ p.
    quiet (on (with_reg (with_reg s (operand_at n 0) p.0) (operand_at n 1) p.1)))))

abbrev pub unary_step : List ℕ → Node → UnaryOp → State → Outcome
unary_step A n o s =
    need (value A s (operand_at n 1)) (λ a. quiet (if keeps_carry o then on_with_carry (with_reg s (operand_at n 0) (unary_value o a))
    else on (with_reg s (operand_at n 0) (unary_value o a))))

abbrev pub movi_step : List ℕ → Node → State → Outcome
movi_step A n s = need (value A s (operand_at n 1)) (λ a. quiet (on_with_carry (with_reg s (operand_at n 0) a)))

-- ---- branches and jumps
-- the node at which a label is bound; branches and jumps of an accepted text have one
abbrev pub node_in : Option Place → ℕ
node_in (Some (place.Node k)) = k
node_in p = 0

abbrev pub node_of_label : List (Option Place) → Operand → ℕ
node_of_label places (operand.Label l) = node_in (place_of places l)
node_of_label places x = 0

abbrev pub branch : Bool → List (Option Place) → State → Operand → Outcome
branch b places s l = quiet (to s (if b then node_of_label places l else s.at + 1))

abbrev pub branch_step : Text → Node → Condition → State → Outcome
branch_step t n c s =
    need (value t.addresses s (operand_at n 1)) (λ a. need (value t.addresses s (operand_at n 2)) (λ b. branch (holds c a b) t.places s (operand_at n 0)))

abbrev pub branch_sum_step : Text → Node → BranchSumOp → State → Outcome
branch_sum_step t n o s =
    need (value t.addresses s (operand_at n 1)) (λ a. need (value t.addresses s (operand_at n 2))
    (λ b. branch (branch_sum_goes o a b) t.places (with_reg s (operand_at n 1) (branch_sum_value o a b)) (operand_at n 0)))

-- the later of two nodes
abbrev pub later : Option ℕ → Option ℕ → Option ℕ
later None o = o
later (Some k) None = Some k
later (Some k) (Some j) = Some (max k j)

-- the node of a label where it has this address and passes a test
abbrev pub landing : (ℕ → ℕ → Bool) → List (Option Place) → List ℕ → ℕ → ℕ → Option ℕ
landing test places addresses w l = node_if (option_flatten (slice_get places l))
  where
    node_if : Option Place → Option ℕ
    node_if (Some (place.Node k)) = if (slice_index addresses l == w) && test l k then Some k else None
    node_if p = None

-- the last node, in the order of the text, at which one of n labels lands
unfoldable pub last_landing : (ℕ → ℕ → Bool) → List (Option Place) → List ℕ → ℕ → ℕ → Option ℕ
last_landing test places addresses w zero = None
last_landing test places addresses w (suc l) = later (landing test places addresses w l) (last_landing test places addresses w l)

-- the function of a node
abbrev pub function_here : List Function → ℕ → Option Function
function_here functions k = option_and_then (slice_get functions) (function_of functions k)

-- a node of a function after its `prolog`
abbrev pub is_after : Option Function → ℕ → Bool
is_after None k = false
is_after (Some f) k = nat_lt f.entry k && nat_le k f.last

-- a taken label that is bound in the function of a node after its `prolog`
abbrev pub is_target : Text → ℕ → ℕ → ℕ → Bool
is_target t at l k = slice_index_or t.taken l false && is_after (function_here t.functions at) k

-- `jmpr` goes to the last of the taken labels of its function that have this address
abbrev pub jump_target : Text → ℕ → ℕ → Option ℕ
jump_target t at w = last_landing (is_target t at) t.places t.addresses w (length t.places)

abbrev pub jump_step : Text → Node → State → Outcome
jump_step t n s = need (value t.addresses s (operand_at n 0)) (λ w. need (jump_target t s.at w) (λ k. quiet (to s k)))

-- ---- memory
-- the number of this many bytes, where each lies in a part and was written; the address may be any
abbrev pub read : State → ℕ → ℕ → Option ℕ
read s a w = if writable (is_open s) a w then loaded s.mem a w else None

abbrev pub load_to : State → ValueType → ℕ → Operand → Outcome
load_to s t a d = need (read s a (width t)) (λ v. quiet (on_with_carry (with_reg s d (extended_by_type t v))))

abbrev pub store_to : State → StoreType → ℕ → ℕ → Outcome
store_to s t a v = when (writable (is_open s) a (store_width t)) (quiet (on_with_carry (record s { mem = stored s.mem a (store_width t) v })))

-- whether an address is the sum of two operands
abbrev pub is_indexed : Addressing → Bool
is_indexed addressing.Register = false
is_indexed addressing.Immediate = false
is_indexed addressing.RegisterRegister = true
is_indexed addressing.RegisterImmediate = true

abbrev pub sum_value : List ℕ → State → Node → ℕ → Option ℕ
sum_value A s n i = option_and_then (λ a. option_and_then (λ b. Some (add_words a b)) (value A s (operand_at n (i + 1)))) (value A s (operand_at n i))

-- the address of an access, whose operands begin with this one
abbrev pub address : List ℕ → State → Addressing → Node → ℕ → Option ℕ
address A s at n i = if is_indexed at then sum_value A s n i else value A s (operand_at n i)

-- the operand that is stored is after those of the address
abbrev pub stored_operand : Addressing → ℕ
stored_operand at = if is_indexed at then 2 else 1

abbrev pub load_step : List ℕ → Node → ValueType → Addressing → State → Outcome
load_step A n t at s = need (address A s at n 1) (λ a. load_to s t a (operand_at n 0))

abbrev pub store_step : List ℕ → Node → StoreType → Addressing → State → Outcome
store_step A n t at s = need (address A s at n 0) (λ a. need (value A s (operand_at n (stored_operand at))) (λ v. store_to s t a v))

-- ---- calls
abbrev pub prepare_step : State → Outcome
prepare_step s = quiet (on (record s { pushed = []; variadic = Some false }))

-- the call that is being prepared is variadic; where none is, it is the function that has variable arguments, and nothing changes
abbrev pub marked : Option Bool → Option Bool
marked None = None
marked (Some variadic) = Some true

abbrev pub ellipsis_step : State → Outcome
ellipsis_step s = quiet (on (record s { variadic = marked s.variadic }))

abbrev pub push_step : List ℕ → Node → State → Outcome
push_step A n s = need (value A s (operand_at n 0)) (λ v. quiet (on (record s { pushed = s.pushed ++ v ∷ [] })))

-- a function begins at a node: all registers are undefined, and nothing is pushed
abbrev pub started : State → ℕ → State
started s n = record s { at = n; regs = λ r. None; carry = carry.Undefined; answer = None; pushed = []; variadic = None }

-- V0, V1 and V2 are those of these registers; R0, R1 and R2 are undefined
abbrev pub kept : (ℕ → Option ℕ) → ℕ → Option ℕ
kept regs r = if nat_lt r 3 then None else regs r

-- after a call, at a node: the caller's registers are there again, and the result
abbrev pub resumed : State → ℕ → (ℕ → Option ℕ) → Option ℕ → State
resumed s n saved v = record s { at = n; regs = kept saved; carry = carry.Undefined; answer = v; pushed = []; variadic = None }

-- the frame of a call
abbrev pub called : State → List ℕ → Frame
called s args = record { sp = s.frame.sp - s.frame.size; back = s.at + 1; args = args; saved = s.regs; size = 0; locals = 0 }

-- a call of a function, whose frame must begin at or above 0x3FF00010
abbrev pub enter : State → List ℕ → Function → Outcome
enter s args f =
    when (nat_le (0x3FF00010 + frame_of f) (s.frame.sp - s.frame.size))
    (quiet (started (record s { frame = called s args; callers = s.frame ∷ s.callers }) f.entry))

-- a function begins: its locals are there, and unwritten
abbrev pub begun : State → Function → State
begun s f = record s {
  frame = record s.frame { size = frame_of f; locals = f.locals };
  mem = without s.mem (s.frame.sp - 144 - f.locals) f.locals;
}

abbrev pub prolog_step : Text → State → Outcome
prolog_step t s = need (function_here t.functions s.at) (λ f. quiet (on (begun s f)))

-- a return to a caller takes the locals away; that of the first frame ends the run, with its result
abbrev pub back_to : State → Option ℕ → List Frame → Outcome
back_to s v [] = Ends (Left v)
back_to s v (g ∷ gs) =
    quiet (resumed (record s { frame = g; callers = gs; mem = without s.mem (s.frame.sp - 144 - s.frame.locals) s.frame.locals }) s.frame.back s.frame.saved v)

abbrev pub leave : State → Option ℕ → Outcome
leave s v = back_to s v s.callers

abbrev pub ret_step : List ℕ → Node → State → Outcome
ret_step A n s = need (value A s (operand_at n 0)) (λ v. leave s (Some v))

-- the state after a call of a host function
abbrev pub answered : State → ℕ → (ℕ → Option ℕ) → ℕ → State
answered s v mem mark = record (resumed s (s.at + 1) s.regs (Some v)) { mem = mem; mark = mark }

abbrev pub host_end : State → Host → Outcome
host_end s (Gives v changes mark bytes) = Goes (answered s v (after (memory s.mem (is_open s) s.mark) changes mark).bytes mark) bytes
host_end s (Exits status) = Ends (Exited status)
host_end s host.Undefined = Undefined

abbrev pub is_marked : Option Bool → Bool
is_marked None = false
is_marked (Some variadic) = variadic

abbrev pub call_host : State → List ℕ → HostName → Outcome
call_host s args name = host_end s (host_of name args (is_marked s.variadic) (memory s.mem (is_open s) s.mark))

-- a call of the function that begins at a node
abbrev pub call_node : Text → State → List ℕ → ℕ → Outcome
call_node t s args k = need (function_here t.functions k) (enter s args)

-- a call of a label or a host function
abbrev pub call_operand : Text → State → List ℕ → Operand → Outcome
call_operand t s args (operand.Host name) = call_host s args name
call_operand t s args x = call_node t s args (node_of_label t.places x)

-- a label that is bound where a function begins
abbrev pub begins : Option Function → ℕ → Bool
begins None k = false
begins (Some f) k = f.entry == k

abbrev pub is_entry_label : Text → ℕ → ℕ → Bool
is_entry_label t l k = begins (function_here t.functions k) k

-- the node of a `prolog` at which a label with this address is bound
abbrev pub entry_target : Text → ℕ → Option ℕ
entry_target t w = last_landing (is_entry_label t) t.places t.addresses w (length t.places)

abbrev pub call_named : Text → State → List ℕ → ℕ → Option HostName → Outcome
call_named t s args w (Some name) = call_host s args name
call_named t s args w None = need (entry_target t w) (call_node t s args)

-- a call of a word: the address of a host function, or of a label at a `prolog`
abbrev pub call_word : Text → State → List ℕ → ℕ → Outcome
call_word t s args w = call_named t s args w (host_by_address w)

abbrev pub call_step : Text → Node → LastOperand → List ℕ → State → Outcome
call_step t n last_operand.Immediate args s = call_operand t s args (operand_at n 0)
call_step t n last_operand.Register args s = need (value t.addresses s (operand_at n 0)) (λ w. call_word t s args w)

-- the result of the call that the step before returned from
abbrev pub retval_step : Node → ValueType → State → Outcome
retval_step n t s = need s.answer (λ v. operate s (operand_at n 0) (Some (extended_by_type t v)))

abbrev pub slot : Operand → ℕ
slot (operand.Slot k) = k
slot x = 0

abbrev pub getarg_step : Node → ValueType → State → Outcome
getarg_step n t s = need (slice_get s.frame.args (slot (operand_at n 1))) (λ v. operate s (operand_at n 0) (Some (extended_by_type t v)))

-- ---- variable arguments: a list of them is the number of the next argument, from 0
-- the list begins after the arguments with names (this many)
abbrev pub va_start_step : List ℕ → Node → State → Outcome
va_start_step A n s = operate s (operand_at n 0) (value A s (operand_at n 1))

-- an argument of the caller, and the list after it
abbrev pub va_arg_step : List ℕ → Node → State → Outcome
va_arg_step A n s =
    need (value A s (operand_at n 1)) (λ i. need (slice_get s.frame.args i)
    (λ v. quiet (on (with_reg (with_reg s (operand_at n 0) v) (operand_at n 1) (i + 1)))))

abbrev pub va_end_step : List ℕ → Node → State → Outcome
va_end_step A n s = need (value A s (operand_at n 0)) (λ i. quiet (on s))

-- ---- the table
abbrev pub plain_step : Text → Node → PlainOp → State → Outcome
plain_step t n plain.Movi s = movi_step t.addresses n s
plain_step t n plain.Prepare s = prepare_step s
plain_step t n plain.Ellipsis s = ellipsis_step s
plain_step t n plain.Prolog s = prolog_step t s
plain_step t n plain.Epilog s = leave s None
plain_step t n plain.Ret s = leave s None
plain_step t n plain.Arg s = quiet (on s)
plain_step t n plain.Allocai s = quiet (on s)
plain_step t n plain.Align s = quiet (on s)
plain_step t n plain.VaStart s = va_start_step t.addresses n s
plain_step t n plain.VaArg s = va_arg_step t.addresses n s
plain_step t n plain.VaEnd s = va_end_step t.addresses n s

abbrev pub node_step : Text → Node → Op → State → Outcome
node_step t n (op.Binary o last) s = if sets_carry o then carry_step t.addresses n o s else binary_step t.addresses n (binary_value o) s
node_step t n (op.Wide o last) s = wide_step t.addresses n o s
node_step t n (op.Branch c last) s = branch_step t n c s
node_step t n (op.BranchSum o last) s = branch_sum_step t n o s
node_step t n (op.Control control.Jmp last_operand.Register) s = jump_step t n s
node_step t n (op.Control control.Jmp last_operand.Immediate) s = branch true t.places s (operand_at n 0)
node_step t n (op.Control control.Call last) s = call_step t n last [] s
node_step t n (op.Control control.Finish last) s = call_step t n last s.pushed s
node_step t n (op.Control control.Pusharg last) s = push_step t.addresses n s
node_step t n (op.Control control.Ret last) s = ret_step t.addresses n s
node_step t n (op.Unary o) s = unary_step t.addresses n o s
node_step t n (op.Plain o) s = plain_step t n o s
node_step t n (op.Load v at) s = load_step t.addresses n v at s
node_step t n (op.Store v at) s = store_step t.addresses n v at s
node_step t n (op.Retval v) s = retval_step n v s
node_step t n (op.Getarg v) s = getarg_step n v s
