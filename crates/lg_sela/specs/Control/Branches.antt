-- What a branch compares, and the condition on which it is taken.
use Rattle.std.specs.Prelude.{ℕ, Bool, false, ◌||◌, if◌then◌else◌}
use Rattle.lg_base.specs.Words.{negated}
use Rattle.lg_op.specs.declared.op.Condition.{Condition}
use Rattle.lg_op.specs.declared.op.Condition.TheVariants as condition
use Rattle.lg_a64.specs.declared.instruction.Cond.{Cond}
use Rattle.lg_a64.specs.declared.instruction.Cond.TheVariants as cond
use Rattle.lg_a64.specs.declared.instruction.ImmOp.TheVariants.{Addsi, Subsi}
use Rattle.lg_a64.specs.declared.instruction.Instr.{Instr}
use Rattle.lg_a64.specs.declared.instruction.Instr.TheVariants as instr
use Rattle.lg_a64.specs.declared.instruction.RegOp.TheVariants as row
use Rattle.lg_sela_values.specs.Processor.A64Rows.{zero_register}
use Rattle.lg_sela_values.specs.BinaryCode.{is_small}

-- the flags are those of the difference of two registers, and for bits those of their conjunction
abbrev pub comparison : Condition → ℕ → ℕ → Instr
comparison condition.Ms a b = instr.Reg row.Ands zero_register a b
comparison condition.Mc a b = instr.Reg row.Ands zero_register a b
comparison o a b = instr.Reg row.Subs zero_register a b

-- an instruction holds a number of 12 bits, or one whose negative has 12 bits, but none of bits does
abbrev pub is_held : Condition → ℕ → Bool
is_held condition.Ms v = false
is_held condition.Mc v = false
is_held o v = is_small v || is_small (negated v)

-- the flags of a sum with the negative are those of the difference
abbrev pub number_comparison : ℕ → ℕ → Instr
number_comparison a v = if is_small v then instr.Imm Subsi zero_register a v false else instr.Imm Addsi zero_register a (negated v) false

-- and what then holds of them where the condition holds
abbrev pub taken : Condition → Cond
taken condition.Lt = cond.Lt
taken condition.LtU = cond.Cc
taken condition.Le = cond.Le
taken condition.LeU = cond.Ls
taken condition.Ge = cond.Ge
taken condition.GeU = cond.Cs
taken condition.Gt = cond.Gt
taken condition.GtU = cond.Hi
taken condition.Eq = cond.Eq
taken condition.Ne = cond.Ne
taken condition.Ms = cond.Ne
taken condition.Mc = cond.Eq

-- the condition that holds where another one does not
abbrev pub turned : Cond → Cond
turned cond.Eq = cond.Ne
turned cond.Ne = cond.Eq
turned cond.Cs = cond.Cc
turned cond.Cc = cond.Cs
turned cond.Mi = cond.Pl
turned cond.Pl = cond.Mi
turned cond.Vs = cond.Vc
turned cond.Vc = cond.Vs
turned cond.Hi = cond.Ls
turned cond.Ls = cond.Hi
turned cond.Ge = cond.Lt
turned cond.Lt = cond.Ge
turned cond.Gt = cond.Le
turned cond.Le = cond.Gt
