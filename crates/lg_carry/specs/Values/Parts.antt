-- What the code of a node that computes values takes of it: its operands by their places, and its temporary.
use Rattle.std.specs.Prelude.{ℕ, List, [], ◌∷◌, slice_index_or, ◌<◌, ⊤}
use Rattle.lg_base.specs.declared.target.Target.{Target}
use Rattle.lg_op.specs.declared.operand.Operand.{Operand}
use Rattle.lg_op.specs.declared.operand.Operand.TheVariants.{Reg, Number}
use Rattle.lg_temp.specs.declared.choice.Choice.{Choice}
use Rattle.lg_temp.specs.declared.choice.Choice.TheVariants.{Spill}
use Rattle.lg_temp.specs.Abis.{register_of}
use Rattle.lg_temp.specs.Chosen.{taken_by}

-- an operand; nodes have those of their form
abbrev pub operand_in : List Operand → ℕ → Operand
operand_in xs i = slice_index_or xs i (Number 0)

-- the register that corresponds to an operand that is one
abbrev pub register_for : Target → Operand → ℕ
register_for target (Reg r) = register_of target r
register_for target x = 0

-- the register of the first choice
abbrev pub first_taken : List Choice → ℕ
first_taken [] = 0
first_taken (choice ∷ choices) = taken_by choice

-- the slots are those of a frame
abbrev pub HaveSlots : List Choice → Type 0
HaveSlots [] = ⊤
HaveSlots (Spill r k ∷ choices) = (k < 5) × HaveSlots choices
HaveSlots (choice ∷ choices) = HaveSlots choices
