-- What AArch64 gives to the promises of its code.
use Rattle.std.specs.Prelude.{⊤}
use Rattle.lg_base.specs.declared.target.Target.TheVariants.{Aarch64}
use Rattle.lg_a64.specs.Spelling.{spelling, IsInstr}
use Rattle.lg_sel.specs.Selected.{AreWhole}
use Rattle.lg_sel.specs.Shorts.{LeadsBy}
use Rattle.lg_sel.specs.Stores.{StoresAtMost}
use Rattle.lg_sel.specs.TargetCodes.{TargetCode}
use Rattle.lg_sela.specs.Shorts.{a64_is_relative, IsShortBranchIf, IsBranchIfAhead}
use Rattle.lg_sela.specs.Stores.{a64_stores}
use Rattle.lg_sela_values.specs.Processor.A64Rows.{a64_processor}

-- a jump has one form, and so has a call
abbrev pub a64_code : TargetCode
a64_code = record {
  target = Aarch64;
  processor = a64_processor;
  are_instructions = λ bytes. AreWhole spelling IsInstr bytes;
  store_at_most = λ most bytes. StoresAtMost spelling IsInstr a64_stores most bytes;
  branches_back = λ goal place bytes. LeadsBy spelling IsInstr a64_is_relative (IsShortBranchIf goal) place bytes;
  jumps_back = λ goal place bytes. ⊤;
  calls_back = λ goal place bytes. ⊤;
  branches_ahead = λ reach place bytes. LeadsBy spelling IsInstr a64_is_relative (IsBranchIfAhead reach) place bytes;
  jumps_ahead = λ reach place bytes. ⊤;
  calls_ahead = λ reach place bytes. ⊤;
}
