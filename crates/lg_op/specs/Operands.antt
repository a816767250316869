-- Registers by number, and the short list of a node's operands, and how it is held: 4 places, the last ones of which may be unused.
use Rattle.std.specs.Prelude.{◌≡◌, ℕ, zero, suc, ◌-◌, ◌≤◌, List, [], ◌∷◌, ◌++◌, length, take}
use Rattle.lg_op.specs.declared.operand.Reg.{Reg}
use Rattle.lg_op.specs.declared.operand.Reg.TheVariants.{R0, R1, R2, V0, V1, V2, Fp}
use Rattle.lg_op.specs.declared.operand.Operand.{Operand}
use Rattle.lg_op.specs.declared.operand.Operand.TheVariants as operand
use Rattle.lg_op.specs.declared.operand.Operands.TheInside.{Inside}

-- the number of a portable register, 0 to 5; 6 of FP, which is in no set and holds no word of its own
abbrev pub number_of : Reg → ℕ
number_of R0 = 0
number_of R1 = 1
number_of R2 = 2
number_of V0 = 3
number_of V1 = 4
number_of V2 = 5
number_of Fp = 6

-- places that are not used
abbrev pub unused : ℕ → List Operand
unused zero = []
unused (suc n) = operand.Number 0 ∷ unused n

abbrev pub list_of : Inside → List Operand
list_of o = take o.len o.list

-- the places of a list
abbrev pub padded : List Operand → Inside
padded xs = record { list = xs ++ unused (4 - length xs); len = length xs }

-- the list has its places, and no place after it is used
pub record IsOperands (o : Inside) : Type 0 where
  pub few : o.len ≤ 4
  pub rest : padded (list_of o) ≡ o
