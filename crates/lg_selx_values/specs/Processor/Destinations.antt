-- The registers that instructions write.
use Rattle.std.specs.Prelude.{◌≡◌, ℕ, false, List, [], ◌∷◌, ⊤, Bool}
use Rattle.lg_base.specs.declared.target.Target.TheVariants.{X86_64}
use Rattle.lg_x86.specs.declared.instruction.Instr.{Instr}
use Rattle.lg_x86.specs.declared.instruction.Instr.TheVariants.{RmReg, Imm, RegRm, Load, Lea2, Movi32, Movs32, Movi64, Unary, Shift, Bswap, Stack, Set, JumpNear, JumpReg, Bare}
use Rattle.lg_x86.specs.declared.instruction.BareOp.TheVariants.{Cqo, Ret}
use Rattle.lg_x86.specs.declared.instruction.JumpNearOp.TheVariants.{Call32}
use Rattle.lg_x86.specs.declared.instruction.JumpRegOp.TheVariants.{Callr}
use Rattle.lg_carry.specs.Blocks.{StaysOutside}
use Rattle.lg_carry.specs.Outside.{is_outside}
use Rattle.lg_selx_values.specs.Processor.X86Rows.{x86_rows}

-- the only ones that an instruction may write. Products and quotients write rax and rdx besides, 0 and 2; what works on the stack writes rsp, 4
abbrev pub destinations : Instr → List ℕ
destinations (RmReg op rm reg) = rm ∷ []
destinations (Imm op rm imm) = rm ∷ []
destinations (RegRm op reg rm) = reg ∷ []
destinations (Load op reg base disp) = reg ∷ []
destinations (Lea2 reg base index) = reg ∷ []
destinations (Movi32 reg imm) = reg ∷ []
destinations (Movs32 rm imm) = rm ∷ []
destinations (Movi64 reg imm) = reg ∷ []
destinations (Unary op rm) = rm ∷ 0 ∷ 2 ∷ []
destinations (Shift op rm count) = rm ∷ []
destinations (Bswap reg) = reg ∷ []
destinations (Stack op reg) = reg ∷ 4 ∷ []
destinations (Set cond rm) = rm ∷ []
destinations (JumpNear Call32 distance) = 4 ∷ []
destinations (JumpReg Callr rm) = 4 ∷ []
destinations (Bare Cqo) = 2 ∷ []
destinations (Bare Ret) = 4 ∷ []
destinations i = []

-- none of these registers is outside of the conventions
abbrev pub AreWithin : Bool → List ℕ → Type 0
AreWithin moves [] = ⊤
AreWithin moves (r ∷ rs) = (is_outside X86_64 moves r ≡ false) × AreWithin moves rs

-- an instruction writes none that is
abbrev pub WritesWithin : Bool → Instr → Type 0
WritesWithin moves i = AreWithin moves (destinations i)

-- so it changes none
abbrev pub InstructionsStay : Type 0
InstructionsStay = (code : List ℕ) (trash : ℕ) (moves : Bool) (i : Instr) → WritesWithin moves i → StaysOutside (x86_rows code trash) moves i
