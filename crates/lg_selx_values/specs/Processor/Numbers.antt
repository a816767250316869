-- Code that loads a number into a register. No flag changes.
use Rattle.std.specs.Prelude.{◌≡◌, ℕ, ◌^◌, ◌<◌, nat_lt, true, if◌then◌else◌, Some}
use Rattle.lg_base.specs.Words.{signed_view, is_half}
use Rattle.lg_x86.specs.Spelling.{IsInstr}
use Rattle.lg_x86.specs.declared.instruction.Instr.{Instr}
use Rattle.lg_x86.specs.declared.instruction.Instr.TheVariants.{Movi32, Movs32, Movi64}
use Rattle.lg_cpu.specs.X86Step.{Scene, with_register, made}
use Rattle.lg_selx_values.specs.Processor.X86Computers.{computes}
use Rattle.lg_selx_values.specs.Processor.X86Rows.{is_straight}

-- the shortest of three rows
abbrev pub number_row : ℕ → ℕ → Instr
number_row r v = if nat_lt v (2 ^ 32) then Movi32 r v else if is_half v then Movs32 r (signed_view v) else Movi64 r v

-- the instruction puts the number into the register, and changes no other register and no flag
pub record LoadsNumber (r v : ℕ) : Type 0 where
  pub computes_it : computes (number_row r v) ≡ true
  pub value : (s : Scene) → made (number_row r v) s ≡ Some (with_register s r v s.flags)
  pub fits : IsInstr (number_row r v)
  pub straight : is_straight (number_row r v) ≡ true

abbrev pub NumbersAreLoaded : Type 0
NumbersAreLoaded = (r v : ℕ) → r < 16 → v < 2 ^ 64 → LoadsNumber r v
