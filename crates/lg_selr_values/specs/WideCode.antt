-- The code of the operations with two results.
use Rattle.std.specs.Prelude.{ℕ, pos, List, [], ◌∷◌, ◌++◌}
use Rattle.lg_op.specs.declared.op.WideOp.{WideOp}
use Rattle.lg_op.specs.declared.op.WideOp.TheVariants as wide
use Rattle.lg_rv.specs.declared.instruction.Instr.{Instr}
use Rattle.lg_rv.specs.declared.instruction.Instr.TheVariants.{Imm, Reg}
use Rattle.lg_rv.specs.declared.instruction.ImmOp.TheVariants.{Addi}
use Rattle.lg_rv.specs.declared.instruction.RegOp.{RegOp}
use Rattle.lg_rv.specs.declared.instruction.RegOp.TheVariants as row
use Rattle.lg_selr_values.specs.Processor.Numbers.{number_code}

-- s = a f b and t = a g b; the word for t is computed first and waits in the link, since s may be a or b
abbrev pub waited_code : RegOp → RegOp → ℕ → ℕ → ℕ → ℕ → List Instr
waited_code g f t s a b = Reg g 1 a b ∷ Reg f s a b ∷ Imm Addi t 1 (pos 0) ∷ []

-- d and e = a op b
abbrev pub wide_code : WideOp → ℕ → ℕ → ℕ → ℕ → List Instr
wide_code wide.Mul d e a b = waited_code row.Mulh row.Mul e d a b
wide_code wide.MulU d e a b = waited_code row.Mulhu row.Mul e d a b
wide_code wide.Div d e a b = waited_code row.Div row.Rem d e a b
wide_code wide.DivU d e a b = waited_code row.Divu row.Remu d e a b

-- a number is put into the register of the carry, which is undefined after the node
abbrev pub wide_number_code : WideOp → ℕ → ℕ → ℕ → ℕ → List Instr
wide_number_code o d e a v = number_code 31 v ++ wide_code o d e a 31
