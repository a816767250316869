-- No text of an instruction of x86-64 has a line feed.
use Rattle.std.proofs.Common.{◌≡◌, ℕ, true, List, ◌++◌, refl}
use Rattle.lg_x86.specs.declared.instruction.Instr.{Instr}
use Rattle.lg_x86.specs.declared.instruction.Instr.TheVariants.{RmReg, Imm, RegRm, Load, Store, Lea2, Movi32, Movs32, Movi64, Unary, Shift, Bswap, Stack, JumpIfShort, JumpIfNear, Set, JumpShort, JumpNear, JumpReg, Bare}
use Rattle.lg_x86.specs.declared.instruction.RmRegOp.{RmRegOp}
use Rattle.lg_x86.specs.declared.instruction.RmRegOp.TheVariants as rm_reg_op
use Rattle.lg_x86.specs.declared.instruction.ImmOp.{ImmOp}
use Rattle.lg_x86.specs.declared.instruction.ImmOp.TheVariants as imm_op
use Rattle.lg_x86.specs.declared.instruction.RegRmOp.{RegRmOp}
use Rattle.lg_x86.specs.declared.instruction.RegRmOp.TheVariants as reg_rm_op
use Rattle.lg_x86.specs.declared.instruction.LoadOp.{LoadOp}
use Rattle.lg_x86.specs.declared.instruction.LoadOp.TheVariants as load_op
use Rattle.lg_x86.specs.declared.instruction.StoreOp.{StoreOp}
use Rattle.lg_x86.specs.declared.instruction.StoreOp.TheVariants as store_op
use Rattle.lg_x86.specs.declared.instruction.UnaryOp.{UnaryOp}
use Rattle.lg_x86.specs.declared.instruction.UnaryOp.TheVariants as unary_op
use Rattle.lg_x86.specs.declared.instruction.ShiftOp.{ShiftOp}
use Rattle.lg_x86.specs.declared.instruction.ShiftOp.TheVariants as shift_op
use Rattle.lg_x86.specs.declared.instruction.StackOp.{StackOp}
use Rattle.lg_x86.specs.declared.instruction.StackOp.TheVariants as stack_op
use Rattle.lg_x86.specs.declared.instruction.JumpNearOp.{JumpNearOp}
use Rattle.lg_x86.specs.declared.instruction.JumpNearOp.TheVariants as jump_near_op
use Rattle.lg_x86.specs.declared.instruction.JumpRegOp.{JumpRegOp}
use Rattle.lg_x86.specs.declared.instruction.JumpRegOp.TheVariants as jump_reg_op
use Rattle.lg_x86.specs.declared.instruction.BareOp.{BareOp}
use Rattle.lg_x86.specs.declared.instruction.BareOp.TheVariants as bare_op
use Rattle.lg_x86.specs.declared.instruction.Cond.{Cond}
use Rattle.lg_x86.specs.declared.instruction.Cond.TheVariants as cond
use Rattle.lg_x86.specs.Rows.{rm_reg_row, imm_row, reg_rm_row, load_row, store_row, unary_row, shift_row, stack_row, jump_near_row, jump_reg_row, bare_row, cond_row, jump_if_short_row, jump_if_near_row, set_row}
use Rattle.lg_x86.specs.Spelling.{name_of}
use Rattle.lg_back.specs.Words.{is_free}
use Rattle.lg_back.proofs.WordLemmas.{free-append}
use Rattle.lg_list.specs.X86_64.{operands, text_of}
use Rattle.lg_run.proofs.OperandLemmas.{words_free}

rm_reg_row_free : (x : RmRegOp) → is_free 10 (rm_reg_row x).name ≡ true
rm_reg_row_free rm_reg_op.Add = refl
rm_reg_row_free other = refl

imm_row_free : (x : ImmOp) → is_free 10 (imm_row x).name ≡ true
imm_row_free imm_op.Addi = refl
imm_row_free other = refl

reg_rm_row_free : (x : RegRmOp) → is_free 10 (reg_rm_row x).name ≡ true
reg_rm_row_free reg_rm_op.Ext32u = refl
reg_rm_row_free other = refl

load_row_free : (x : LoadOp) → is_free 10 (load_row x).name ≡ true
load_row_free load_op.Ld64 = refl
load_row_free other = refl

store_row_free : (x : StoreOp) → is_free 10 (store_row x).name ≡ true
store_row_free store_op.St64 = refl
store_row_free other = refl

unary_row_free : (x : UnaryOp) → is_free 10 (unary_row x).name ≡ true
unary_row_free unary_op.Not = refl
unary_row_free other = refl

shift_row_free : (x : ShiftOp) → is_free 10 (shift_row x).name ≡ true
shift_row_free shift_op.Shli = refl
shift_row_free other = refl

stack_row_free : (x : StackOp) → is_free 10 (stack_row x).name ≡ true
stack_row_free stack_op.Push = refl
stack_row_free stack_op.Pop = refl

jump_near_row_free : (x : JumpNearOp) → is_free 10 (jump_near_row x).name ≡ true
jump_near_row_free jump_near_op.Jmp32 = refl
jump_near_row_free jump_near_op.Call32 = refl

jump_reg_row_free : (x : JumpRegOp) → is_free 10 (jump_reg_row x).name ≡ true
jump_reg_row_free jump_reg_op.Jmpr = refl
jump_reg_row_free jump_reg_op.Callr = refl

bare_row_free : (x : BareOp) → is_free 10 (bare_row x).name ≡ true
bare_row_free bare_op.Cqo = refl
bare_row_free other = refl

cond_row_free : (x : Cond) → is_free 10 (cond_row x).name ≡ true
cond_row_free cond.Overflow = refl
cond_row_free other = refl

around_free : (before middle behind : List ℕ) → is_free 10 before ≡ true → is_free 10 middle ≡ true → is_free 10 behind ≡ true → is_free 10 (before ++ middle ++ behind) ≡ true
around_free before middle behind a b c = free-append 10 (before ++ middle) behind (free-append 10 before middle a b) c

named_free : (i : Instr) → is_free 10 (name_of i) ≡ true
named_free (RmReg op rm reg) = rm_reg_row_free op
named_free (Imm op rm imm) = imm_row_free op
named_free (RegRm op reg rm) = reg_rm_row_free op
named_free (Load op reg base disp) = load_row_free op
named_free (Store op base disp reg) = store_row_free op
named_free (Unary op rm) = unary_row_free op
named_free (Shift op rm count) = shift_row_free op
named_free (Stack op reg) = stack_row_free op
named_free (JumpIfShort cond distance) = around_free jump_if_short_row.before (cond_row cond).name jump_if_short_row.behind refl (cond_row_free cond) refl
named_free (JumpIfNear cond distance) = around_free jump_if_near_row.before (cond_row cond).name jump_if_near_row.behind refl (cond_row_free cond) refl
named_free (Set cond rm) = around_free set_row.before (cond_row cond).name set_row.behind refl (cond_row_free cond) refl
named_free (JumpNear op distance) = jump_near_row_free op
named_free (JumpReg op rm) = jump_reg_row_free op
named_free (Bare op) = bare_row_free op
named_free other = refl

pub text_free : (at : ℕ) (i : Instr) → is_free 10 (text_of at i) ≡ true
text_free at i = words_free (name_of i) (operands at i) (named_free i)
