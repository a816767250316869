-- What is asked of a node on AArch64.
use Rattle.std.specs.Prelude.{ℕ, Bool, List}
use Rattle.lg_base.specs.declared.target.Target.TheVariants.{Aarch64}
use Rattle.lg_op.specs.declared.node.Node.{Node}
use Rattle.lg_op.specs.declared.op.Op.{Op}
use Rattle.lg_op.specs.declared.operand.Reg.{Reg}
use Rattle.lg_sel.specs.Asked as asked
use Rattle.lg_sel.specs.Selected as selected
use Rattle.lg_sela_values.specs.ValueItems.{value_needs}
use Rattle.lg_temp.specs.declared.choice.Choice.{Choice}
use Rattle.lg_temp.specs.declared.choice.Need.{Need}

-- what the temporaries of an operation's code need
abbrev pub needs : Op → List Need
needs o = value_needs o

-- the choices are those for the needs of the node
abbrev pub AreChosen : Node → (Reg → Bool) → List Bool → List Choice → Type 0
AreChosen node live staged choices = selected.AreChosen Aarch64 (needs node.op) node live staged choices

abbrev pub IsAsked : Node → (Reg → Bool) → List Bool → List Choice → ℕ → Type 0
IsAsked node live staged choices labels = asked.IsAsked Aarch64 needs node live staged choices labels
