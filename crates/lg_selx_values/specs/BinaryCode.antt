-- The code of the operations on two words, from two registers or from a register and a number.
use Rattle.std.specs.Prelude.{ℕ, ◌%◌, ◌==◌, ◌&&◌, ◌||◌, not, Bool, true, false, if◌then◌else◌, List, [], ◌∷◌, ◌++◌}
use Rattle.lg_base.specs.Words.{signed_view, is_half, negated}
use Rattle.lg_op.specs.declared.op.BinaryOp.{BinaryOp}
use Rattle.lg_op.specs.declared.op.BinaryOp.TheVariants as binary
use Rattle.lg_x86.specs.declared.instruction.Instr.{Instr}
use Rattle.lg_x86.specs.declared.instruction.Instr.TheVariants.{RmReg, Imm, RegRm, Load, Lea2, Movi32, Unary, Shift, Set, Bare}
use Rattle.lg_x86.specs.declared.instruction.RmRegOp.{RmRegOp}
use Rattle.lg_x86.specs.declared.instruction.RmRegOp.TheVariants as alu
use Rattle.lg_x86.specs.declared.instruction.ImmOp.{ImmOp}
use Rattle.lg_x86.specs.declared.instruction.ImmOp.TheVariants as imm
use Rattle.lg_x86.specs.declared.instruction.RegRmOp.TheVariants.{Imul, Ext8u}
use Rattle.lg_x86.specs.declared.instruction.LoadOp.TheVariants.{Lea}
use Rattle.lg_x86.specs.declared.instruction.UnaryOp.{UnaryOp}
use Rattle.lg_x86.specs.declared.instruction.UnaryOp.TheVariants.{Neg, Div, Idiv, Shl, Shr, Sar}
use Rattle.lg_x86.specs.declared.instruction.ShiftOp.{ShiftOp}
use Rattle.lg_x86.specs.declared.instruction.ShiftOp.TheVariants.{Shli, Shri, Sari}
use Rattle.lg_x86.specs.declared.instruction.BareOp.TheVariants.{Cqo}
use Rattle.lg_x86.specs.declared.instruction.Cond.{Cond}
use Rattle.lg_x86.specs.declared.instruction.Cond.TheVariants as cond
use Rattle.lg_selx_values.specs.Processor.Numbers.{number_row}
use Rattle.lg_selx_values.specs.Scratch.{again, moved}

-- d = a op b where d is not b, or where the order of the words does not matter
abbrev pub ordered : RmRegOp → ℕ → ℕ → ℕ → List Instr
ordered op d a b = moved d a ++ RmReg op d b ∷ []

abbrev pub commuting : RmRegOp → ℕ → ℕ → ℕ → List Instr
commuting op d a b = if d == b then RmReg op d a ∷ [] else ordered op d a b

-- d = a + b: where d is neither, `lea`, which no flag is asked of
abbrev pub added : ℕ → ℕ → ℕ → List Instr
added d a b = if (d == a) || (d == b) then commuting alu.Add d a b else Lea2 d a b ∷ []

-- d = a - b: where d is b, 0 - (b - a)
abbrev pub difference : ℕ → ℕ → ℕ → List Instr
difference d a b = if d == b then RmReg alu.Sub d a ∷ Unary Neg d ∷ [] else ordered alu.Sub d a b

abbrev pub product : ℕ → ℕ → ℕ → List Instr
product d a b = if d == b then RegRm Imul d a ∷ [] else moved d a ++ RegRm Imul d b ∷ []

-- a comparison, and its answer as a word
abbrev pub answer : Cond → ℕ → List Instr
answer c d = Set c d ∷ RegRm Ext8u d d ∷ []

abbrev pub compared : Cond → ℕ → ℕ → ℕ → List Instr
compared c d a b = RmReg alu.Cmp a b ∷ answer c d

-- the count goes to rcx, 1
abbrev pub shifted : UnaryOp → ℕ → ℕ → ℕ → List Instr
shifted op d a b = RmReg alu.Mov 1 b ∷ moved d a ++ Unary op d ∷ []

-- the high half of a dividend goes to rdx, 2: the sign of rax, 0, or 0
abbrev pub high_half : Bool → Instr
high_half true = Bare Cqo
high_half false = Movi32 2 0

-- rdx and rax are divided by a register
abbrev pub division : Bool → ℕ → Instr
division true b = Unary Idiv b
division false b = Unary Div b

-- rax and rdx, which a division takes
abbrev pub is_dividend : ℕ → Bool
is_dividend r = (r == 0) || (r == 2)

-- the dividend goes to rax, and the result is then in rax or rdx, r; a divisor in one of these goes to rbp, by way of rdx
abbrev pub divided : Bool → ℕ → ℕ → ℕ → ℕ → ℕ → List Instr
divided signed frame r d a b =
    if is_dividend b
    then RmReg alu.Mov 2 b ∷ RmReg alu.Mov 0 a ∷ RmReg alu.Mov 5 2 ∷ high_half signed ∷ division signed 5 ∷ RmReg alu.Mov d r ∷ again frame
    else (moved 0 a ++ (high_half signed ∷ division signed b ∷ [])) ++ moved d r

-- the condition of a comparison
abbrev pub cond_of : BinaryOp → Cond
cond_of binary.Lt = cond.Less
cond_of binary.LtU = cond.Below
cond_of binary.Le = cond.LessOrEqual
cond_of binary.LeU = cond.BelowOrEqual
cond_of binary.Ge = cond.GreaterOrEqual
cond_of binary.GeU = cond.AboveOrEqual
cond_of binary.Gt = cond.Greater
cond_of binary.GtU = cond.Above
cond_of binary.Eq = cond.Equal
cond_of o = cond.NotEqual

-- d = a op b; the operations that set the carry are in CarryCode
abbrev pub register_code : BinaryOp → ℕ → ℕ → ℕ → ℕ → List Instr
register_code binary.Add frame d a b = added d a b
register_code binary.Sub frame d a b = difference d a b
register_code binary.Rsb frame d a b = difference d b a
register_code binary.Mul frame d a b = product d a b
register_code binary.And frame d a b = commuting alu.And d a b
register_code binary.Or frame d a b = commuting alu.Or d a b
register_code binary.Xor frame d a b = commuting alu.Xor d a b
register_code binary.Lsh frame d a b = shifted Shl d a b
register_code binary.Rsh frame d a b = shifted Sar d a b
register_code binary.RshU frame d a b = shifted Shr d a b
register_code binary.Div frame d a b = divided true frame 0 d a b
register_code binary.DivU frame d a b = divided false frame 0 d a b
register_code binary.Rem frame d a b = divided true frame 2 d a b
register_code binary.RemU frame d a b = divided false frame 2 d a b
register_code o frame d a b = compared (cond_of o) d a b

-- d = a op v: the number is in the instruction where 32 bits hold it, and else in rbp
abbrev pub with_number : ImmOp → RmRegOp → ℕ → ℕ → ℕ → ℕ → List Instr
with_number op alu frame d a v =
    if is_half v then moved d a ++ Imm op d (signed_view v) ∷ []
    else moved d a ++ (number_row 5 v ∷ (RmReg alu d 5 ∷ again frame))

-- d = a + v and d = a - v: where d is another register and 32 bits hold what is added, `lea`
abbrev pub is_near : ℕ → ℕ → ℕ → Bool
is_near d a v = not (d == a) && is_half v

abbrev pub added_number : ℕ → ℕ → ℕ → ℕ → List Instr
added_number frame d a v = if is_near d a v then Load Lea d a (signed_view v) ∷ [] else with_number imm.Addi alu.Add frame d a v

abbrev pub less_number : ℕ → ℕ → ℕ → ℕ → List Instr
less_number frame d a v = if is_near d a (negated v) then Load Lea d a (signed_view (negated v)) ∷ [] else with_number imm.Subi alu.Sub frame d a v

abbrev pub compared_number : Cond → ℕ → ℕ → ℕ → ℕ → List Instr
compared_number c frame d a v =
    if is_half v then Imm imm.Cmpi a (signed_view v) ∷ answer c d
    else moved d a ++ (number_row 5 v ∷ (RmReg alu.Cmp d 5 ∷ Set c d ∷ RegRm Ext8u d d ∷ again frame))

-- d = a * v: the number goes to d, or to rbp where that is a
abbrev pub product_number : ℕ → ℕ → ℕ → ℕ → List Instr
product_number frame d a v =
    if d == a then number_row 5 v ∷ RegRm Imul d 5 ∷ again frame else number_row d v ∷ RegRm Imul d a ∷ []

abbrev pub shifted_number : ShiftOp → ℕ → ℕ → ℕ → List Instr
shifted_number op d a v = moved d a ++ Shift op d (v % 64) ∷ []

-- the number goes to the result's register, or to rbp where that is rax or rdx
abbrev pub divided_number : Bool → ℕ → ℕ → ℕ → ℕ → ℕ → List Instr
divided_number signed frame r d a v =
    if is_dividend d then moved 0 a ++ (number_row 5 v ∷ high_half signed ∷ division signed 5 ∷ RmReg alu.Mov d r ∷ again frame)
    else moved 0 a ++ (number_row d v ∷ high_half signed ∷ division signed d ∷ RmReg alu.Mov d r ∷ [])

abbrev pub number_form_code : BinaryOp → ℕ → ℕ → ℕ → ℕ → List Instr
number_form_code binary.Add frame d a v = added_number frame d a v
number_form_code binary.Sub frame d a v = less_number frame d a v
number_form_code binary.Rsb frame d a v = moved d a ++ (Unary Neg d ∷ with_number imm.Addi alu.Add frame d d v)
number_form_code binary.Mul frame d a v = product_number frame d a v
number_form_code binary.And frame d a v = with_number imm.Andi alu.And frame d a v
number_form_code binary.Or frame d a v = with_number imm.Ori alu.Or frame d a v
number_form_code binary.Xor frame d a v = with_number imm.Xori alu.Xor frame d a v
number_form_code binary.Lsh frame d a v = shifted_number Shli d a v
number_form_code binary.Rsh frame d a v = shifted_number Sari d a v
number_form_code binary.RshU frame d a v = shifted_number Shri d a v
number_form_code binary.Div frame d a v = divided_number true frame 0 d a v
number_form_code binary.DivU frame d a v = divided_number false frame 0 d a v
number_form_code binary.Rem frame d a v = divided_number true frame 2 d a v
number_form_code binary.RemU frame d a v = divided_number false frame 2 d a v
number_form_code o frame d a v = compared_number (cond_of o) frame d a v
