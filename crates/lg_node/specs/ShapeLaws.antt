-- What holds of every accepted text: laws for the crates that assemble and run it.
use Rattle.std.specs.Prelude.{◌≡◌, ◌⊎◌, ℕ, ◌+◌, ◌<◌, ◌≤◌, Bool, true, false, ◌||◌, List, ◌∷◌, Option, Some, None, is_some, length, slice_get}
use Rattle.std.specs.List.{All}
use Rattle.lg_base.specs.declared.refusal.Refusal.{Refusal}
use Rattle.lg_op.specs.declared.op.Op.{Op}
use Rattle.lg_op.specs.declared.op.Op.TheVariants.{Branch, BranchSum, Control}
use Rattle.lg_op.specs.declared.op.ControlOp.TheVariants as control
use Rattle.lg_op.specs.declared.op.LastOperand.TheVariants as last_operand
use Rattle.lg_op.specs.declared.operand.Label.{Label}
use Rattle.lg_op.specs.declared.operand.Operand.{Operand}
use Rattle.lg_op.specs.declared.operand.Operand.TheVariants as operand
use Rattle.lg_op.specs.declared.node.Node.{Node}
use Rattle.lg_node.specs.declared.function.Function.{Function}
use Rattle.lg_node.specs.declared.place.Place.{Place}
use Rattle.lg_node.specs.declared.place.Place.TheVariants as place
use Rattle.lg_node.specs.declared.preparation.Preparation.{Preparation}
use Rattle.lg_node.specs.Nodes.{LabelledNodes}
use Rattle.lg_node.specs.Functions.{is_prolog_at, is_epilog_at, home, functions, function_of, function_at, IsFunction}
use Rattle.lg_node.specs.Preparations.{prepared_before}
use Rattle.lg_node.specs.Labels.{place_of, is_labelled, is_taken}
use Rattle.lg_node.specs.Checks.{FailsAll, refuses, kinds, needs_preparation, breaks_preparation, is_pusharg, args_before, locals_before, IsAccepted, IsRefused}
use Rattle.lg_node.specs.Shapes.{TextShape, IsShapeOf, IsSuccessor}
use Rattle.lg_node.specs.ShapeTables.{IsSmall}

-- `jmpi` and the branches, whose first operand is their target
abbrev pub has_target : Op → Bool
has_target (Branch condition last) = true
has_target (BranchSum sum last) = true
has_target (Control control.Jmp last_operand.Immediate) = true
has_target op = false

-- `calli` and `finishi`, whose operand is their target
abbrev pub has_callee : Op → Bool
has_callee (Control control.Call last_operand.Immediate) = true
has_callee (Control control.Finish last_operand.Immediate) = true
has_callee op = false

-- a place is a node of function p after its `prolog`, at which no call is being prepared
pub record IsTargetIn (l : LabelledNodes) (p : ℕ) (o : Option Place) : Type 0 where
  pub node : ℕ
  pub place : o ≡ Some (place.Node node)
  pub inside : home l.nodes node ≡ Some p
  pub behind : p < node
  pub unprepared : prepared_before l.nodes node ≡ None

-- a place is the `prolog` of a function
pub record IsEntry (l : LabelledNodes) (o : Option Place) : Type 0 where
  pub node : ℕ
  pub place : o ≡ Some (place.Node node)
  pub entry : home l.nodes node ≡ Some node
  pub unprepared : prepared_before l.nodes node ≡ None

-- where a jump goes: within its function, or from outside of every function to one
abbrev pub JumpsTo : LabelledNodes → Option ℕ → Option Place → Type 0
JumpsTo l (Some p) o = IsTargetIn l p o
JumpsTo l None o = IsEntry l o

-- what holds of the nodes of an accepted text
pub record IsWellShaped (l : LabelledNodes) : Type 0 where
  -- no kind refuses a node
  pub passes : (i : ℕ) (n : Node) → slice_get l.nodes i ≡ Some n → FailsAll (refuses l i n) kinds
  -- the node after one of a function that is no `epilog` is of the same function, after its `prolog`
  pub falls : (i p : ℕ) → home l.nodes i ≡ Some p → is_epilog_at (slice_get l.nodes i) ≡ false → (home l.nodes (i + 1) ≡ Some p) × (p < i + 1)
  -- a `prolog` begins a function, and no call is being prepared there
  pub entries : (i : ℕ) → is_prolog_at (slice_get l.nodes i) ≡ true → (home l.nodes i ≡ Some i) × (prepared_before l.nodes i ≡ None)
  -- no other node begins one
  pub prologs : (i : ℕ) → home l.nodes i ≡ Some i → is_prolog_at (slice_get l.nodes i) ≡ true
  -- targets of jumps, branches and calls
  pub jumps : (i : ℕ) (n : Node) (x : Label) (xs : List Operand) → slice_get l.nodes i ≡ Some n → has_target n.op ≡ true
      → n.operands ≡ operand.Label x ∷ xs → JumpsTo l (home l.nodes i) (place_of l.places x)
  pub calls : (i : ℕ) (n : Node) (x : Label) (xs : List Operand) → slice_get l.nodes i ≡ Some n → has_callee n.op ≡ true
      → n.operands ≡ operand.Label x ∷ xs → IsEntry l (place_of l.places x)
  -- a call is prepared within a function, and its arguments are at most 16
  pub prepared : (i : ℕ) (call : Preparation) → i ≤ length l.nodes → prepared_before l.nodes i ≡ Some call
      → (is_some (home l.nodes i) ≡ true) × (call.pushed ≤ 16)
  -- nothing is prepared at a branch, a jump, a call without arguments, a return, a `prepare` or a label
  pub unprepared : (i : ℕ) (n : Node) → slice_get l.nodes i ≡ Some n → (breaks_preparation n.op || is_labelled l.places i) ≡ true
      → prepared_before l.nodes i ≡ None
  -- a call is being prepared where one is passed an argument or made, and there is room for the argument
  pub pushes : (i : ℕ) (n : Node) → slice_get l.nodes i ≡ Some n → needs_preparation n.op ≡ true
      → (call : Preparation) × (prepared_before l.nodes i ≡ Some call) × (is_pusharg n.op ≡ true → call.pushed < 16)
  -- a function has at most 16 arguments and 65,536 bytes of locals
  pub args : (i : ℕ) → i ≤ length l.nodes → args_before l.nodes i ≤ 16
  pub locals : (i : ℕ) → i ≤ length l.nodes → locals_before l.nodes i ≤ 65536

-- a node of a function: the function's number, and the function itself, whose range has the node
pub record IsNumbered (functions : List Function) (i p : ℕ) : Type 0 where
  pub number : ℕ
  pub function : Function
  pub numbered : function_of functions i ≡ Some number
  pub listed : slice_get functions number ≡ Some function
  pub found : function_at functions i ≡ Some function
  pub entry : function.entry ≡ p
  pub from : function.entry ≤ i
  pub to : i ≤ function.last

-- what holds of the functions of an accepted text
pub record HasFunctions (l : LabelledNodes) : Type 0 where
  -- each is a range of nodes, with all its nodes and no others, and has at most 65,536 bytes of locals, which are whole words
  pub ranges : All (IsFunction l.nodes) (functions l.nodes)
  pub small : All IsSmall (functions l.nodes)
  -- each node of a function has that function's number
  pub numbers : (i p : ℕ) → home l.nodes i ≡ Some p → IsNumbered (functions l.nodes) i p
  pub outside : (i : ℕ) → home l.nodes i ≡ None → (function_of (functions l.nodes) i ≡ None) × (function_at (functions l.nodes) i ≡ None)

-- the successors of a node of a function are nodes of the same function, after its `prolog`
abbrev pub SuccessorsStay : Type 0
SuccessorsStay = (l : LabelledNodes) (s : TextShape) → IsShapeOf l s → (i k p : ℕ) → home l.nodes i ≡ Some p → IsSuccessor l s i k
    → (home l.nodes k ≡ Some p) × (p < k)

-- those of a node outside of every function are such nodes too, or begin a function
abbrev pub SuccessorsEnter : Type 0
SuccessorsEnter = (l : LabelledNodes) (s : TextShape) → IsShapeOf l s → (i k : ℕ) → home l.nodes i ≡ None → IsSuccessor l s i k
    → (home l.nodes k ≡ None) ⊎ (home l.nodes k ≡ Some k)

-- a label that is taken in a text is bound in a function after its `prolog`
pub record IsBoundInside (l : LabelledNodes) (label : ℕ) : Type 0 where
  pub node : ℕ
  pub function : ℕ
  pub place : slice_get l.places label ≡ Some (Some (place.Node node))
  pub inside : home l.nodes node ≡ Some function
  pub behind : function < node

abbrev pub TakenLabelsAreInside : Type 0
TakenLabelsAreInside = (l : LabelledNodes) (label : ℕ) → is_taken l label ≡ true → IsBoundInside l label

-- a text is either accepted or refused, and for one reason
abbrev pub RefusalsAreOne : Type 0
RefusalsAreOne = (l : LabelledNodes) → (IsAccepted l → (r : Refusal) → IsRefused l r → ⊥) × ((r q : Refusal) → IsRefused l r → IsRefused l q → r ≡ q)
