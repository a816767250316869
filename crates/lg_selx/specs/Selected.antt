-- What is asked of a node on x86-64.
use Rattle.std.specs.Prelude.{ℕ, Bool, true, false, List}
use Rattle.lg_base.specs.declared.target.Target.TheVariants.{X86_64}
use Rattle.lg_op.specs.declared.node.Node.{Node}
use Rattle.lg_op.specs.declared.op.Op.{Op}
use Rattle.lg_op.specs.declared.op.Op.TheVariants as op
use Rattle.lg_op.specs.declared.operand.Reg.{Reg}
use Rattle.lg_sel.specs.Asked as asked
use Rattle.lg_sel.specs.Selected as selected
use Rattle.lg_selx.specs.Memory.Accesses.{store_needs}
use Rattle.lg_selx_values.specs.Needs.{value_needs}
use Rattle.lg_temp.specs.declared.choice.Choice.{Choice}
use Rattle.lg_temp.specs.declared.choice.Need.{Need}
use Rattle.lg_temp.specs.declared.choice.Need.TheVariants.{Any, Only}

-- what the temporaries of an operation's code need: those of a store, and of what computes values
abbrev pub needs : Op → List Need
needs (op.Store t at) = store_needs at
needs o = value_needs o

-- the choices are those for the needs of the node
abbrev pub AreChosen : Node → (Reg → Bool) → List Bool → List Choice → Type 0
AreChosen node live staged choices = selected.AreChosen X86_64 (needs node.op) node live staged choices

abbrev pub IsAsked : Node → (Reg → Bool) → List Bool → List Choice → ℕ → Type 0
IsAsked node live staged choices labels = asked.IsAsked X86_64 needs node live staged choices labels

-- a need for any register
abbrev pub is_any : Need → Bool
is_any Any = true
is_any (Only register) = false

-- only stores have one
abbrev pub is_store : Op → Bool
is_store (op.Store t at) = true
is_store o = false
