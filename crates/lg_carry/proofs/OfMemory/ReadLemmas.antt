-- What a node reads, and the words of its operands.
use Rattle.std.proofs.Common.{◌≡◌, ℕ, suc, ◌^◌, ◌<◌, Bool, true, false, Option, Some, None, refl, ap, ◌∙◌, arith}
use Rattle.std.specs.Prelude.{◌||◌, slice_get}
use Rattle.std.specs.Option.{option_and_then}
use Rattle.lg_base.specs.HostNames.{host_address}
use Rattle.lg_base.specs.Words.{add_words}
use Rattle.lg_base.specs.declared.host_name.HostName.{HostName}
use Rattle.lg_base.specs.declared.host_name.HostName.TheVariants.{Printf}
use Rattle.lg_op.specs.declared.node.Node.{Node}
use Rattle.lg_op.specs.declared.op.Op.{Op}
use Rattle.lg_op.specs.declared.operand.Operand.{Operand}
use Rattle.lg_op.specs.declared.operand.Operand.TheVariants as operand
use Rattle.lg_op.specs.declared.operand.Reg.{Reg}
use Rattle.lg_meaning.specs.States.{State}
use Rattle.lg_meaning.specs.Texts.{text, step_at, step}
use Rattle.lg_carry.specs.FinalNodes.{Code}
use Rattle.lg_carry.specs.NodeCode.{numbered}
use Rattle.lg_carry.specs.TextNodes.{IsInText}
use Rattle.lg_carry.specs.Memory.Operands.{number}

-- ---- sums
abbrev pub sum : Option ℕ → Option ℕ → Option ℕ
sum x y = option_and_then (λ a. option_and_then (λ b. Some (add_words a b)) y) x

pub same-some : (x y : ℕ) → Some x ≡ Some y → x ≡ y
same-some x y e = cc

pub parts : (x y : Option ℕ) (a : ℕ) → sum x y ≡ Some a → (b : ℕ) × (c : ℕ) × (x ≡ Some b) × (y ≡ Some c) × (add_words b c ≡ a)
parts None y a e = cc
parts (Some b) None a e = cc
parts (Some b) (Some c) a e = (b, c, refl, refl, same-some (add_words b c) a e)

-- ---- what a node reads and writes
pub or-false : (b : Bool) → (b || false) ≡ b
or-false true = refl
or-false false = refl

pub numbered-same : (f g : Reg → Bool) → ((r : Reg) → f r ≡ g r) → (r : ℕ) → numbered f r ≡ numbered g r
numbered-same f g h (suc (suc (suc (suc (suc (suc r)))))) = refl
numbered-same f g h _ = h _

pub numbered-none : (r : ℕ) → numbered (λ (m : Reg). false) r ≡ false
numbered-none (suc (suc (suc (suc (suc (suc r)))))) = refl
numbered-none _ = refl

-- ---- numbers
pub host-small : (name : HostName) → host_address name < 2 ^ 64
host-small Printf = omega arith
host-small _ = omega arith

-- a number that an operand gives
pub number-small : (x : Operand) → ((v : ℕ) → x ≡ operand.Number v → v < 2 ^ 64) → number x < 2 ^ 64
number-small (operand.Number v) h = h v refl
number-small (operand.Host name) h = host-small name
number-small other h = omega arith

-- ---- the node
-- a node is its operation, its operands and its line
abbrev pub with_op : Node → Op → Node
with_op n o = record { op = o; operands = n.operands; line = n.line }

pub stepped : (c : Code) (i : ℕ) (n : Node) (s : State) → IsInText c i n → s.at ≡ i → step c.nodes c.shape c.addresses s ≡ step_at (text c.nodes c.shape c.addresses) (Some n) s
stepped c i n s x at = ap (λ m. step_at (text c.nodes c.shape c.addresses) m s) (ap (slice_get c.nodes.nodes) at ∙ x.here)
