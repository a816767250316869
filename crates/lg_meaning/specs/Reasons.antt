-- Why a step is undefined: the table of undefined steps, row by row, beside `step`. The reason is the first row that holds.
use Rattle.std.specs.Prelude.{ℕ, ◌+◌, ◌-◌, ◌==◌, ◌&&◌, ◌||◌, not, Bool, true, false, nat_le, if◌then◌else◌, Option, Some, None, is_none, List, [], ◌∷◌, ◌++◌, map, slice_get}
use Rattle.std.specs.Option.{option_and_then, option_map}
use Rattle.lg_base.specs.Spaces.{loaded}
use Rattle.lg_base.specs.HostNames.{host_by_address}
use Rattle.lg_base.specs.declared.host_name.HostName.{HostName}
use Rattle.lg_host.specs.Host.{Host, Gives, Exits, memory, host_of}
use Rattle.lg_host.specs.Host as host
use Rattle.lg_op.specs.declared.node.Node.{Node}
use Rattle.lg_op.specs.declared.operand.Operand.{Operand}
use Rattle.lg_op.specs.declared.operand.Operand.TheVariants as operand
use Rattle.lg_op.specs.declared.operand.Reg.{Reg}
use Rattle.lg_op.specs.declared.operand.Reg.TheVariants.{Fp}
use Rattle.lg_op.specs.declared.op.Op.{Op}
use Rattle.lg_op.specs.declared.op.Op.TheVariants as op
use Rattle.lg_op.specs.declared.op.BinaryOp.{BinaryOp}
use Rattle.lg_op.specs.declared.op.BinaryOp.TheVariants as binary
use Rattle.lg_op.specs.declared.op.WideOp.{WideOp}
use Rattle.lg_op.specs.declared.op.WideOp.TheVariants as wide
use Rattle.lg_op.specs.declared.op.Addressing.{Addressing}
use Rattle.lg_op.specs.declared.op.ControlOp.{ControlOp}
use Rattle.lg_op.specs.declared.op.ControlOp.TheVariants as control
use Rattle.lg_op.specs.declared.op.PlainOp.{PlainOp}
use Rattle.lg_op.specs.declared.op.PlainOp.TheVariants as plain
use Rattle.lg_op.specs.declared.op.LastOperand.{LastOperand}
use Rattle.lg_op.specs.declared.op.LastOperand.TheVariants as last_operand
use Rattle.lg_node.specs.Functions.{frame_of}
use Rattle.lg_node.specs.Nodes.{LabelledNodes}
use Rattle.lg_node.specs.Shapes.{TextShape}
use Rattle.lg_cells.specs.Memories.{writable}
use Rattle.lg_op.specs.Operators.{is_least_by_minus_one, sets_carry, carry_in, width, store_width}
use Rattle.lg_meaning.specs.States.{State, value, is_open}
use Rattle.lg_meaning.specs.Steps.{Text, operand_at, is_indexed, address, stored_operand, jump_target, node_of_label, entry_target, function_here, is_marked, slot}
use Rattle.lg_meaning.specs.Texts.{text}
use Rattle.lg_meaning.specs.declared.reason.Called.{Called}
use Rattle.lg_meaning.specs.declared.reason.Called.TheVariants.{OfHost, OfText}
use Rattle.lg_meaning.specs.declared.reason.Reason.{Reason}
use Rattle.lg_meaning.specs.declared.reason.Reason.TheVariants.{Unset, NoCarry, NoQuotient, Outside, Unwritten, NoLabel, NoFunction, NoRoom, NoResult, NoArgument, NotAllowed, NoVariable}

-- ---- rows
-- a reason where something is so, and where something is not there
abbrev pub where_so : Bool → Reason → Option Reason
where_so b r = if b then Some r else None

abbrev pub where_none : {A : Type 0} → Option A → Reason → Option Reason
where_none None r = Some r
where_none (Some v) r = None

-- a reason that speaks of something, where it is there
abbrev pub given : {A : Type 0} → Option A → (A → Option Reason) → Option Reason
given None f = None
given (Some v) f = f v

-- the first of some rows that holds
abbrev pub first : List (Option Reason) → Option Reason
first [] = None
first (None ∷ rs) = first rs
first (Some r ∷ rs) = Some r

-- ---- 1: a register that is read is undefined
-- the operands that a node reads, by their places
abbrev pub address_reads : Addressing → ℕ → List ℕ
address_reads at i = if is_indexed at then i ∷ (i + 1) ∷ [] else i ∷ []

abbrev pub control_reads : ControlOp → LastOperand → List ℕ
control_reads control.Jmp last_operand.Immediate = []
control_reads control.Call last_operand.Immediate = []
control_reads control.Finish last_operand.Immediate = []
control_reads o last = 0 ∷ []

abbrev pub plain_reads : PlainOp → List ℕ
plain_reads plain.Movi = 1 ∷ []
plain_reads plain.VaStart = 1 ∷ []
plain_reads plain.VaArg = 1 ∷ []
plain_reads plain.VaEnd = 0 ∷ []
plain_reads o = []

abbrev pub operands_read : Op → List ℕ
operands_read (op.Binary o last) = 1 ∷ 2 ∷ []
operands_read (op.Wide o last) = 2 ∷ 3 ∷ []
operands_read (op.Branch c last) = 1 ∷ 2 ∷ []
operands_read (op.BranchSum o last) = 1 ∷ 2 ∷ []
operands_read (op.Control o last) = control_reads o last
operands_read (op.Unary o) = 1 ∷ []
operands_read (op.Plain o) = plain_reads o
operands_read (op.Load v at) = address_reads at 1
operands_read (op.Store v at) = address_reads at 0 ++ stored_operand at ∷ []
operands_read (op.Retval v) = []
operands_read (op.Getarg v) = []

-- the register that an operand names; one that has no word is a register
abbrev pub register : Operand → Reg
register (operand.Reg r) = r
register x = Fp

-- the first of the operands at some places that is one
abbrev pub unset_among : List ℕ → Node → State → List ℕ → Option Reason
unset_among A n s places = first (map (λ i. where_none (value A s (operand_at n i)) (Unset (register (operand_at n i)))) places)

abbrev pub row_1 : Text → Node → Op → State → Option Reason
row_1 t n o s = unset_among t.addresses n s (operands_read o)

-- ---- 2: `addx` or `subx` finds no carry of its kind
abbrev pub row_2 : Op → State → Option Reason
row_2 (op.Binary o last) s = where_so (sets_carry o && is_none (carry_in o s.carry)) NoCarry
row_2 o s = None

-- ---- 4: a divisor is 0, or the least number is divided by -1 with sign
abbrev pub cannot_divide : BinaryOp → ℕ → ℕ → Bool
cannot_divide binary.Div a b = (b == 0) || is_least_by_minus_one a b
cannot_divide binary.Rem a b = (b == 0) || is_least_by_minus_one a b
cannot_divide binary.DivU a b = b == 0
cannot_divide binary.RemU a b = b == 0
cannot_divide o a b = false

abbrev pub cannot_divide_widely : WideOp → ℕ → ℕ → Bool
cannot_divide_widely wide.Div a b = (b == 0) || is_least_by_minus_one a b
cannot_divide_widely wide.DivU a b = b == 0
cannot_divide_widely o a b = false

abbrev pub row_4 : Text → Node → Op → State → Option Reason
row_4 t n (op.Binary o last) s =
    given (value t.addresses s (operand_at n 1)) (λ a. given (value t.addresses s (operand_at n 2)) (λ b. where_so (cannot_divide o a b) (NoQuotient a b)))
row_4 t n (op.Wide o last) s =
    given (value t.addresses s (operand_at n 2)) (λ a. given (value t.addresses s (operand_at n 3))
    (λ b. where_so (cannot_divide_widely o a b) (NoQuotient a b)))
row_4 t n o s = None

-- ---- 6: an access leaves the memory that may be used, or loads a byte that was never written
abbrev pub outside : State → ℕ → ℕ → Option Reason
outside s a w = where_so (not (writable (is_open s) a w)) (Outside w a)

abbrev pub row_6 : Text → Node → Op → State → Option Reason
row_6 t n (op.Load v at) s =
    given (address t.addresses s at n 1) (λ a. first (outside s a (width v) ∷ where_none (loaded s.mem a (width v)) (Unwritten (width v) a) ∷ []))
row_6 t n (op.Store v at) s = given (address t.addresses s at n 0) (λ a. outside s a (store_width v))
row_6 t n o s = None

-- ---- 7: `jmpr` goes to no label of its function whose address was taken
abbrev pub row_7 : Text → Node → Op → State → Option Reason
row_7 t n (op.Control control.Jmp last_operand.Register) s = given (value t.addresses s (operand_at n 0)) (λ w. where_none (jump_target t s.at w) (NoLabel w))
row_7 t n o s = None

-- ---- 8, 9 and 12: calls
-- what is called by the name of a host function or the label of a node
abbrev pub called_by_name : Text → Operand → Option Called
called_by_name t (operand.Host name) = Some (OfHost name)
called_by_name t x = option_map OfText (function_here t.functions (node_of_label t.places x))

-- and by a word: the address of a host function, or of a label at a `prolog`
abbrev pub called_at : Text → ℕ → Option HostName → Option Called
called_at t w (Some name) = Some (OfHost name)
called_at t w None = option_map OfText (option_and_then (function_here t.functions) (entry_target t w))

abbrev pub called_here : Text → Node → LastOperand → State → Option Called
called_here t n last_operand.Immediate s = called_by_name t (operand_at n 0)
called_here t n last_operand.Register s = option_and_then (λ w. called_at t w (host_by_address w)) (value t.addresses s (operand_at n 0))

-- the last operand of a call, and the arguments that it passes
abbrev pub call_of : Op → Option LastOperand
call_of (op.Control control.Call last) = Some last
call_of (op.Control control.Finish last) = Some last
call_of o = None

abbrev pub passed_by : Op → State → List ℕ
passed_by (op.Control control.Finish last) s = s.pushed
passed_by o s = []

-- what a node calls, if anything
abbrev pub called_from : Text → Node → Op → State → Option Called
called_from t n o s = option_and_then (λ last. called_here t n last s) (call_of o)

-- 8: a call goes to no label at a `prolog` and to no host function
abbrev pub row_8 : Text → Node → Op → State → Option Reason
row_8 t n o s = given (call_of o) (λ last. given (value t.addresses s (operand_at n 0)) (λ w. where_none (called_here t n last s) (NoFunction w)))

-- 9: it finds the stack full: the frame would begin below 0x3FF00010
abbrev pub finds_no_room : State → Called → Option Reason
finds_no_room s (OfHost name) = None
finds_no_room s (OfText f) = where_so (not (nat_le (0x3FF00010 + frame_of f) (s.frame.sp - s.frame.size))) (NoRoom (frame_of f))

abbrev pub row_9 : Text → Node → Op → State → Option Reason
row_9 t n o s = given (called_from t n o s) (finds_no_room s)

-- 12: a host function is called with arguments that it does not allow
abbrev pub is_undefined : Host → Bool
is_undefined (Gives v changes mark bytes) = false
is_undefined (Exits status) = false
is_undefined host.Undefined = true

abbrev pub is_not_allowed : State → List ℕ → Called → Option Reason
is_not_allowed s args (OfHost name) =
    where_so (is_undefined (host_of name args (is_marked s.variadic) (memory s.mem (is_open s) s.mark))) (NotAllowed name)
is_not_allowed s args (OfText f) = None

abbrev pub row_12 : Text → Node → Op → State → Option Reason
row_12 t n o s = given (called_from t n o s) (is_not_allowed s (passed_by o s))

-- ---- 10: a `retval` is not directly after a call that gave a result
abbrev pub row_10 : Op → State → Option Reason
row_10 (op.Retval v) s = where_none s.answer NoResult
row_10 o s = None

-- ---- 11 and 13: a `getarg`, a `va_arg` wants an argument that was not pushed
abbrev pub row_11 : Node → Op → State → Option Reason
row_11 n (op.Getarg v) s = where_none (slice_get s.frame.args (slot (operand_at n 1))) (NoArgument (slot (operand_at n 1)))
row_11 n o s = None

abbrev pub row_13 : Text → Node → Op → State → Option Reason
row_13 t n (op.Plain plain.VaArg) s = given (value t.addresses s (operand_at n 1)) (λ i. where_none (slice_get s.frame.args i) (NoVariable i))
row_13 t n o s = None

-- ---- the table
abbrev pub why_of : Text → Node → Op → State → Option Reason
why_of t n o s = first (
    row_1 t n o s ∷ row_2 o s ∷ row_4 t n o s ∷ row_6 t n o s ∷ row_7 t n o s ∷ row_8 t n o s
    ∷ row_9 t n o s ∷ row_10 o s ∷ row_11 n o s ∷ row_12 t n o s ∷ row_13 t n o s ∷ []
    )

-- why the step of the node at the state's place is undefined, where it is
abbrev pub why : LabelledNodes → TextShape → List ℕ → State → Option Reason
why l shape addresses s = given (slice_get l.nodes s.at) (λ n. why_of (text l shape addresses) n n.op s)

-- the number of the row
abbrev pub item_of : Reason → ℕ
item_of (Unset r) = 1
item_of NoCarry = 2
item_of (NoQuotient a b) = 4
item_of (Outside w a) = 6
item_of (Unwritten w a) = 6
item_of (NoLabel w) = 7
item_of (NoFunction w) = 8
item_of (NoRoom size) = 9
item_of NoResult = 10
item_of (NoArgument i) = 11
item_of (NotAllowed name) = 12
item_of (NoVariable i) = 13
