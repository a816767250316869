-- The registers of the temporaries of nodes, by the registers that are live after them.
use Rattle.std.specs.Prelude.{ℕ, zero, suc, ◌+◌, Bool, true, false, List, Option, Some, None, slice_get, slice_index_or}
use Rattle.std.specs.Option.{option_and_then}
use Rattle.lg_base.specs.declared.target.Target.{Target}
use Rattle.lg_base.specs.declared.target.Target.TheVariants.{X86_64, Aarch64, Riscv64}
use Rattle.lg_live.specs.RegSets.{has}
use Rattle.lg_live.specs.declared.reg_set.RegSet.{RegSet}
use Rattle.lg_live.specs.Liveness.{LiveSets}
use Rattle.lg_node.specs.Preparations.{pushed}
use Rattle.lg_op.specs.declared.node.Node.{Node}
use Rattle.lg_op.specs.declared.op.Op.{Op}
use Rattle.lg_op.specs.declared.operand.Reg.{Reg}
use Rattle.lg_sel.specs.Selected.{first_arguments}
use Rattle.lg_sela.specs.Selected as a64
use Rattle.lg_selr.specs.Selected as rv
use Rattle.lg_selx.specs.Selected as x86
use Rattle.lg_temp.specs.Chosen.{around, choices_of, spills}
use Rattle.lg_temp.specs.declared.choice.Choice.{Choice}
use Rattle.lg_temp.specs.declared.choice.Choice.TheVariants.{Spill}
use Rattle.lg_temp.specs.declared.choice.Need.{Need}

-- the set of the registers that are live after a node; a node that is not there has none
abbrev pub set_after : LiveSets → ℕ → RegSet
set_after sets i = slice_index_or sets.behind i (record { 0 = 0 })

abbrev pub live_behind : LiveSets → ℕ → Reg → Bool
live_behind sets i = has (set_after sets i)

-- what the temporaries of a node's code need on a target
abbrev pub needs_on : Target → Op → List Need
needs_on X86_64 o = x86.needs o
needs_on Aarch64 o = a64.needs o
needs_on Riscv64 o = rv.needs o

-- the choices for the needs of a node after which these registers are live and before which this many arguments are pushed, which are staged there
abbrev pub node_choices : Target → (Reg → Bool) → ℕ → Node → Option (List Choice)
node_choices target live count n = choices_of (around target n live (first_arguments count)) (needs_on target n.op)

-- those of node i
abbrev pub choices_at : Target → List Node → LiveSets → ℕ → Option (List Choice)
choices_at target nodes sets i = option_and_then (node_choices target (live_behind sets i) (pushed nodes i)) (slice_get nodes i)

-- ---- how many registers are saved
-- a choice that is counted
abbrev pub is_spill : Choice → Bool
is_spill (Spill register slot) = true
is_spill choice = false

abbrev pub spills_of : Option (List Choice) → ℕ
spills_of None = 0
spills_of (Some choices) = spills choices

-- those of the first nodes together
unfoldable pub spills_in : Target → List Node → LiveSets → ℕ → ℕ
spills_in target nodes sets zero = 0
spills_in target nodes sets (suc i) = spills_in target nodes sets i + spills_of (choices_at target nodes sets i)
