-- The code of the operations with two results, which are apart.
use Rattle.std.specs.Prelude.{ℕ, ◌==◌, if◌then◌else◌, List, [], ◌∷◌}
use Rattle.lg_op.specs.declared.op.WideOp.{WideOp}
use Rattle.lg_op.specs.declared.op.WideOp.TheVariants as wide
use Rattle.lg_a64.specs.declared.instruction.Instr.{Instr}
use Rattle.lg_a64.specs.declared.instruction.Instr.TheVariants.{Reg, MulAdd}
use Rattle.lg_a64.specs.declared.instruction.MulAddOp.TheVariants.{Madd, Msub}
use Rattle.lg_a64.specs.declared.instruction.RegOp.{RegOp}
use Rattle.lg_a64.specs.declared.instruction.RegOp.TheVariants as row
use Rattle.lg_sela_values.specs.Processor.A64Rows.{link, zero_register}

-- d and e = a op b: the first word waits in the link, since e may be a or b
abbrev pub product_code : RegOp → ℕ → ℕ → ℕ → ℕ → List Instr
product_code high d e a b = MulAdd Madd link a b zero_register ∷ Reg high e a b ∷ Reg row.Orr d zero_register link ∷ []

abbrev pub quotient_code : RegOp → ℕ → ℕ → ℕ → ℕ → List Instr
quotient_code divide d e a b = Reg divide link a b ∷ MulAdd Msub e link b a ∷ Reg row.Orr d zero_register link ∷ []

abbrev pub wide_code : WideOp → ℕ → ℕ → ℕ → ℕ → List Instr
wide_code wide.Mul d e a b = product_code row.Smulh d e a b
wide_code wide.MulU d e a b = product_code row.Umulh d e a b
wide_code wide.Div d e a b = quotient_code row.Sdiv d e a b
wide_code wide.DivU d e a b = quotient_code row.Udiv d e a b

-- where the link has the second word no other can wait there: e is written last where it is a, and else first
abbrev pub product_by_link : RegOp → ℕ → ℕ → ℕ → List Instr
product_by_link high d e a =
    if e == a then MulAdd Madd d a link zero_register ∷ Reg high e a link ∷ []
    else Reg high e a link ∷ MulAdd Madd d a link zero_register ∷ []

abbrev pub quotient_by_link : RegOp → ℕ → ℕ → ℕ → List Instr
quotient_by_link divide d e a =
    if e == a then Reg divide d a link ∷ MulAdd Msub e d link a ∷ []
    else Reg divide e a link ∷ MulAdd Msub link e link a ∷ Reg row.Orr d zero_register e ∷ Reg row.Orr e zero_register link ∷ []

-- d and e = a op the word in the link
abbrev pub wide_by_link : WideOp → ℕ → ℕ → ℕ → List Instr
wide_by_link wide.Mul d e a = product_by_link row.Smulh d e a
wide_by_link wide.MulU d e a = product_by_link row.Umulh d e a
wide_by_link wide.Div d e a = quotient_by_link row.Sdiv d e a
wide_by_link wide.DivU d e a = quotient_by_link row.Udiv d e a
