-- The functions of a list of nodes. A function runs from a `prolog` to the next `epilog`, both included: over a `prolog` inside it, and
-- to the last node where no `epilog` follows.
use Rattle.std.specs.Prelude.{◌≡◌, ℕ, zero, suc, ◌+◌, ◌*◌, ◌/◌, ◌<◌, ◌≤◌, Bool, true, false, if◌then◌else◌, List, [], ◌∷◌, ◌++◌, Option, Some, None, length, slice_get, slice_range, nat_le, ◌&&◌}
use Rattle.std.specs.List.{find, position, sum_by}
use Rattle.std.specs.Option.{option_to_list}
use Rattle.lg_base.specs.Layout.{frame_size}
use Rattle.lg_op.specs.declared.op.Op.{Op}
use Rattle.lg_op.specs.declared.op.Op.TheVariants.{Plain}
use Rattle.lg_op.specs.declared.op.PlainOp.TheVariants as plain
use Rattle.lg_op.specs.declared.operand.Operand.{Operand}
use Rattle.lg_op.specs.declared.operand.Operand.TheVariants as operand
use Rattle.lg_op.specs.declared.node.Node.{Node}
use Rattle.lg_node.specs.declared.function.Function.{Function}

abbrev pub is_prolog : Op → Bool
is_prolog (Plain plain.Prolog) = true
is_prolog op = false

abbrev pub is_epilog : Op → Bool
is_epilog (Plain plain.Epilog) = true
is_epilog op = false

abbrev pub is_prolog_node : Node → Bool
is_prolog_node n = is_prolog n.op

-- functions go by the number of their `prolog`. Of an operation at a node: the function that is open before it, or the one that begins
-- there
abbrev pub home_of : Option ℕ → ℕ → Op → Option ℕ
home_of None i op = if is_prolog op then Some i else None
home_of (Some p) i op = Some p

abbrev pub home_at : Option ℕ → ℕ → Option Node → Option ℕ
home_at current i None = None
home_at current i (Some n) = home_of current i n.op

-- the function that is open after a node of this function: none after an `epilog`
abbrev pub open_after : Option ℕ → Op → Option ℕ
open_after home op = if is_epilog op then None else home

abbrev pub open_after_at : Option ℕ → Option Node → Option ℕ
open_after_at home None = home
open_after_at home (Some n) = open_after home n.op

-- the function that is open before a node
unfoldable pub open_before : List Node → ℕ → Option ℕ
open_before nodes zero = None
open_before nodes (suc i) = open_after_at (home_at (open_before nodes i) i (slice_get nodes i)) (slice_get nodes i)

-- the function of a node
unfoldable pub home : List Node → ℕ → Option ℕ
home nodes i = home_at (open_before nodes i) i (slice_get nodes i)

-- the nodes of a function that are before a node
abbrev pub since : List Node → Option ℕ → ℕ → List Node
since nodes None i = []
since nodes (Some p) i = slice_range nodes p i

-- the bytes that a local takes: its size rounded up to a multiple of 8
abbrev pub local_of : Op → List Operand → ℕ
local_of (Plain plain.Allocai) (operand.Number size ∷ xs) = (size + 7) / 8 * 8
local_of op xs = 0

abbrev pub local_size : Node → ℕ
local_size n = local_of n.op n.operands

-- the function that ends at a node with this operation, of the function that begins at p; its locals are those of all its nodes
abbrev pub ended : List Node → Option ℕ → ℕ → Op → Option Function
ended nodes None i op = None
ended nodes (Some p) i op = if is_epilog op then Some record { entry = p; last = i; locals = sum_by local_size (slice_range nodes p (i + 1)) } else None

abbrev pub ended_at : List Node → Option ℕ → ℕ → Option Node → Option Function
ended_at nodes home i None = None
ended_at nodes home i (Some n) = ended nodes home i n.op

-- the functions that end before a node, in order
unfoldable pub functions_before : List Node → ℕ → List Function
functions_before nodes zero = []
functions_before nodes (suc i) = functions_before nodes i ++ option_to_list (ended_at nodes (home nodes i) i (slice_get nodes i))

-- the functions, in order
abbrev pub functions : List Node → List Function
functions nodes = functions_before nodes (length nodes)

-- a node is one of a function
abbrev pub has_node : ℕ → Function → Bool
has_node node f = nat_le f.entry node && nat_le node f.last

-- the number of the function in which a node stands, and that function
abbrev pub function_of : List Function → ℕ → Option ℕ
function_of functions node = position (has_node node) functions

abbrev pub function_at : List Function → ℕ → Option Function
function_at functions node = find (has_node node) functions

abbrev pub is_prolog_at : Option Node → Bool
is_prolog_at None = false
is_prolog_at (Some n) = is_prolog n.op

abbrev pub is_epilog_at : Option Node → Bool
is_epilog_at None = false
is_epilog_at (Some n) = is_epilog n.op

-- a function is a range of nodes from a `prolog` to an `epilog`: its nodes are those of the range and no others
pub record IsFunction (nodes : List Node) (f : Function) : Type 0 where
  pub order : f.entry ≤ f.last
  pub within : f.last < length nodes
  pub begins : is_prolog_at (slice_get nodes f.entry) ≡ true
  pub ends : is_epilog_at (slice_get nodes f.last) ≡ true
  pub all : (k : ℕ) → f.entry ≤ k → k ≤ f.last → home nodes k ≡ Some f.entry
  pub only : (k : ℕ) → home nodes k ≡ Some f.entry → (f.entry ≤ k) × (k ≤ f.last)
  pub locals : f.locals ≡ sum_by local_size (slice_range nodes f.entry (f.last + 1))

-- the bytes of a function's frame
abbrev pub frame_of : Function → ℕ
frame_of f = frame_size f.locals
