-- The code of the operations on two words, from two registers or from a register and a number.
use Rattle.std.specs.Prelude.{ℕ, ◌+◌, ◌%◌, ◌^◌, ◌==◌, nat_lt, Bool, if◌then◌else◌, pos, List, [], ◌∷◌, ◌++◌}
use Rattle.lg_base.specs.Words.{negated}
use Rattle.lg_op.specs.declared.op.BinaryOp.{BinaryOp}
use Rattle.lg_op.specs.declared.op.BinaryOp.TheVariants as binary
use Rattle.lg_rv.specs.declared.instruction.Instr.{Instr}
use Rattle.lg_rv.specs.declared.instruction.Instr.TheVariants.{Imm, Shift, Reg}
use Rattle.lg_rv.specs.declared.instruction.ImmOp.TheVariants.{Addi, Slti, Sltiu, Xori, Ori, Andi}
use Rattle.lg_rv.specs.declared.instruction.ShiftOp.TheVariants.{Slli, Srli, Srai}
use Rattle.lg_rv.specs.declared.instruction.RegOp.TheVariants as row
use Rattle.lg_selr_values.specs.Processor.Numbers.{low_part, number_code}

-- d = a op b; the operations that set the carry are in CarryCode
abbrev pub register_code : BinaryOp → ℕ → ℕ → ℕ → List Instr
register_code binary.Add d a b = Reg row.Add d a b ∷ []
register_code binary.Sub d a b = Reg row.Sub d a b ∷ []
register_code binary.Rsb d a b = Reg row.Sub d b a ∷ []
register_code binary.Mul d a b = Reg row.Mul d a b ∷ []
register_code binary.And d a b = Reg row.And d a b ∷ []
register_code binary.Or d a b = Reg row.Or d a b ∷ []
register_code binary.Xor d a b = Reg row.Xor d a b ∷ []
register_code binary.Lsh d a b = Reg row.Sll d a b ∷ []
register_code binary.Rsh d a b = Reg row.Sra d a b ∷ []
register_code binary.RshU d a b = Reg row.Srl d a b ∷ []
register_code binary.Div d a b = Reg row.Div d a b ∷ []
register_code binary.DivU d a b = Reg row.Divu d a b ∷ []
register_code binary.Rem d a b = Reg row.Rem d a b ∷ []
register_code binary.RemU d a b = Reg row.Remu d a b ∷ []
register_code binary.Lt d a b = Reg row.Slt d a b ∷ []
register_code binary.LtU d a b = Reg row.Sltu d a b ∷ []
register_code binary.Gt d a b = Reg row.Slt d b a ∷ []
register_code binary.GtU d a b = Reg row.Sltu d b a ∷ []
register_code binary.Le d a b = Reg row.Slt d b a ∷ Imm Xori d d (pos 1) ∷ []
register_code binary.LeU d a b = Reg row.Sltu d b a ∷ Imm Xori d d (pos 1) ∷ []
register_code binary.Ge d a b = Reg row.Slt d a b ∷ Imm Xori d d (pos 1) ∷ []
register_code binary.GeU d a b = Reg row.Sltu d a b ∷ Imm Xori d d (pos 1) ∷ []
register_code binary.Eq d a b = Reg row.Sub d a b ∷ Imm Sltiu d d (pos 1) ∷ []
register_code binary.Ne d a b = Reg row.Sub d a b ∷ Reg row.Sltu d 0 d ∷ []
register_code o d a b = []

-- the signed view is from -2,047 to 2,047
abbrev pub is_addend : ℕ → Bool
is_addend v = nat_lt ((v + 2047) % 2 ^ 64) 4095

-- any number is put into the link, which holds nothing after the `prolog`
abbrev pub loaded_code : BinaryOp → ℕ → ℕ → ℕ → List Instr
loaded_code o d a v = number_code 1 v ++ register_code o d a 1

-- for 0 stands x0
abbrev pub zero_or_loaded_code : BinaryOp → ℕ → ℕ → ℕ → List Instr
zero_or_loaded_code o d a v = if v == 0 then register_code o d a 0 else loaded_code o d a v

-- whether a is v, and whether it is not: by their difference, or by a itself where v is 0
abbrev pub equal_code : ℕ → ℕ → ℕ → List Instr
equal_code d a v = if v == 0 then Imm Sltiu d a (pos 1) ∷ [] else Imm Addi d a (low_part (negated v)) ∷ Imm Sltiu d d (pos 1) ∷ []

abbrev pub unequal_code : ℕ → ℕ → ℕ → List Instr
unequal_code d a v = if v == 0 then Reg row.Sltu d 0 a ∷ [] else Imm Addi d a (low_part (negated v)) ∷ Reg row.Sltu d 0 d ∷ []

-- d = a op v, where an instruction holds the number or its negative
abbrev pub held_code : BinaryOp → ℕ → ℕ → ℕ → List Instr
held_code binary.Add d a v = Imm Addi d a (low_part v) ∷ []
held_code binary.Sub d a v = Imm Addi d a (low_part (negated v)) ∷ []
held_code binary.Rsb d a v = Reg row.Sub d 0 a ∷ Imm Addi d d (low_part v) ∷ []
held_code binary.And d a v = Imm Andi d a (low_part v) ∷ []
held_code binary.Or d a v = Imm Ori d a (low_part v) ∷ []
held_code binary.Xor d a v = Imm Xori d a (low_part v) ∷ []
held_code binary.Lt d a v = Imm Slti d a (low_part v) ∷ []
held_code binary.LtU d a v = Imm Sltiu d a (low_part v) ∷ []
held_code binary.Ge d a v = Imm Slti d a (low_part v) ∷ Imm Xori d d (pos 1) ∷ []
held_code binary.GeU d a v = Imm Sltiu d a (low_part v) ∷ Imm Xori d d (pos 1) ∷ []
held_code binary.Eq d a v = equal_code d a v
held_code binary.Ne d a v = unequal_code d a v
held_code o d a v = []

abbrev pub held_or_loaded_code : BinaryOp → ℕ → ℕ → ℕ → List Instr
held_or_loaded_code o d a v = if is_addend v then held_code o d a v else loaded_code o d a v

-- d = a op v; a shift is by the number modulo 64
abbrev pub number_form_code : BinaryOp → ℕ → ℕ → ℕ → List Instr
number_form_code binary.Add d a v = held_or_loaded_code binary.Add d a v
number_form_code binary.Sub d a v = held_or_loaded_code binary.Sub d a v
number_form_code binary.Rsb d a v = held_or_loaded_code binary.Rsb d a v
number_form_code binary.And d a v = held_or_loaded_code binary.And d a v
number_form_code binary.Or d a v = held_or_loaded_code binary.Or d a v
number_form_code binary.Xor d a v = held_or_loaded_code binary.Xor d a v
number_form_code binary.Lsh d a v = Shift Slli d a (v % 64) ∷ []
number_form_code binary.Rsh d a v = Shift Srai d a (v % 64) ∷ []
number_form_code binary.RshU d a v = Shift Srli d a (v % 64) ∷ []
number_form_code binary.Lt d a v = held_or_loaded_code binary.Lt d a v
number_form_code binary.LtU d a v = held_or_loaded_code binary.LtU d a v
number_form_code binary.Ge d a v = held_or_loaded_code binary.Ge d a v
number_form_code binary.GeU d a v = held_or_loaded_code binary.GeU d a v
number_form_code binary.Eq d a v = held_or_loaded_code binary.Eq d a v
number_form_code binary.Ne d a v = held_or_loaded_code binary.Ne d a v
number_form_code binary.Le d a v = zero_or_loaded_code binary.Le d a v
number_form_code binary.LeU d a v = zero_or_loaded_code binary.LeU d a v
number_form_code binary.Gt d a v = zero_or_loaded_code binary.Gt d a v
number_form_code binary.GtU d a v = zero_or_loaded_code binary.GtU d a v
number_form_code o d a v = loaded_code o d a v
