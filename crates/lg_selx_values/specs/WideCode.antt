-- The code of the operations with two results, which are then in rax, 0, and rdx, 2.
use Rattle.std.specs.Prelude.{ℕ, List, [], ◌∷◌, ◌++◌}
use Rattle.lg_op.specs.declared.op.WideOp.{WideOp}
use Rattle.lg_op.specs.declared.op.WideOp.TheVariants as wide
use Rattle.lg_x86.specs.declared.instruction.Instr.{Instr}
use Rattle.lg_x86.specs.declared.instruction.Instr.TheVariants.{RmReg, Movi32, Unary, Bare}
use Rattle.lg_x86.specs.declared.instruction.RmRegOp.TheVariants as alu
use Rattle.lg_x86.specs.declared.instruction.UnaryOp.TheVariants.{Mul, Imul1, Div, Idiv}
use Rattle.lg_x86.specs.declared.instruction.BareOp.TheVariants.{Cqo}
use Rattle.lg_selx_values.specs.Processor.Numbers.{number_row}
use Rattle.lg_selx_values.specs.Scratch.{again}

-- rax before rdx, which corresponds to no operand
abbrev pub results : ℕ → ℕ → List Instr
results d e = RmReg alu.Mov d 0 ∷ RmReg alu.Mov e 2 ∷ []

-- d and e = a op b
abbrev pub wide_code : WideOp → ℕ → ℕ → ℕ → ℕ → ℕ → List Instr
wide_code wide.Mul frame d e a b = RmReg alu.Mov 2 b ∷ RmReg alu.Mov 0 a ∷ Unary Imul1 2 ∷ results d e
wide_code wide.MulU frame d e a b = RmReg alu.Mov 2 b ∷ RmReg alu.Mov 0 a ∷ Unary Mul 2 ∷ results d e
wide_code wide.Div frame d e a b = RmReg alu.Mov 2 b ∷ RmReg alu.Mov 0 a ∷ RmReg alu.Mov 5 2 ∷ Bare Cqo ∷ Unary Idiv 5 ∷ (results d e ++ again frame)
wide_code wide.DivU frame d e a b = RmReg alu.Mov 2 b ∷ RmReg alu.Mov 0 a ∷ RmReg alu.Mov 5 2 ∷ Movi32 2 0 ∷ Unary Div 5 ∷ (results d e ++ again frame)

-- that after the move of the first word to rax
abbrev pub rest_code : WideOp → ℕ → ℕ → ℕ → ℕ → List Instr
rest_code wide.Mul frame d e v = number_row 2 v ∷ (Unary Imul1 2 ∷ results d e)
rest_code wide.MulU frame d e v = number_row 2 v ∷ (Unary Mul 2 ∷ results d e)
rest_code wide.Div frame d e v = number_row 5 v ∷ (Bare Cqo ∷ Unary Idiv 5 ∷ (results d e ++ again frame))
rest_code wide.DivU frame d e v = number_row 5 v ∷ (Movi32 2 0 ∷ Unary Div 5 ∷ (results d e ++ again frame))

-- d and e = a op v
abbrev pub wide_number_code : WideOp → ℕ → ℕ → ℕ → ℕ → ℕ → List Instr
wide_number_code o frame d e a v = RmReg alu.Mov 0 a ∷ rest_code o frame d e v
