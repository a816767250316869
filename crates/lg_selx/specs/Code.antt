-- What x86-64 gives to the promises of its code.
use Rattle.std.specs.Prelude.{⊤}
use Rattle.lg_base.specs.declared.target.Target.TheVariants.{X86_64}
use Rattle.lg_x86.specs.Spelling.{spelling, IsInstr}
use Rattle.lg_sel.specs.Selected.{AreWhole}
use Rattle.lg_sel.specs.Shorts.{LeadsBy}
use Rattle.lg_sel.specs.Stores.{StoresAtMost}
use Rattle.lg_sel.specs.TargetCodes.{TargetCode}
use Rattle.lg_selx.specs.Shorts.{x86_is_relative, IsShortJumpIf, IsShortX86Jump, IsJumpIfAhead, IsX86JumpAhead}
use Rattle.lg_selx.specs.Stores.{x86_stores}
use Rattle.lg_selx_values.specs.Processor.X86Rows.{x86_processor}

-- a call has one form
abbrev pub x86_code : TargetCode
x86_code = record {
  target = X86_64;
  processor = x86_processor;
  are_instructions = λ bytes. AreWhole spelling IsInstr bytes;
  store_at_most = λ most bytes. StoresAtMost spelling IsInstr x86_stores most bytes;
  branches_back = λ goal place bytes. LeadsBy spelling IsInstr x86_is_relative (IsShortJumpIf goal) place bytes;
  jumps_back = λ goal place bytes. LeadsBy spelling IsInstr x86_is_relative (IsShortX86Jump goal) place bytes;
  calls_back = λ goal place bytes. ⊤;
  branches_ahead = λ reach place bytes. LeadsBy spelling IsInstr x86_is_relative IsJumpIfAhead place bytes;
  jumps_ahead = λ reach place bytes. LeadsBy spelling IsInstr x86_is_relative IsX86JumpAhead place bytes;
  calls_ahead = λ reach place bytes. ⊤;
}
