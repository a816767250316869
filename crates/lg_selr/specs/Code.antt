-- What RV64 gives to the promises of its code.
use Rattle.lg_base.specs.declared.target.Target.TheVariants.{Riscv64}
use Rattle.lg_rv.specs.Spelling.{spelling, IsInstr}
use Rattle.lg_sel.specs.Selected.{AreWhole}
use Rattle.lg_sel.specs.Shorts.{LeadsBy}
use Rattle.lg_sel.specs.Stores.{StoresAtMost}
use Rattle.lg_sel.specs.TargetCodes.{TargetCode}
use Rattle.lg_selr.specs.Shorts.{rv_is_relative, of_jumps, of_calls, IsShortRvBranch, IsShortRvJump, IsRvBranchAhead, IsRvJumpAhead}
use Rattle.lg_selr.specs.Stores.{rv_stores}
use Rattle.lg_selr_values.specs.Processor.RvRows.{rv_processor}

abbrev pub rv_code : TargetCode
rv_code = record {
  target = Riscv64;
  processor = rv_processor;
  are_instructions = λ bytes. AreWhole spelling IsInstr bytes;
  store_at_most = λ most bytes. StoresAtMost spelling IsInstr rv_stores most bytes;
  branches_back = λ goal place bytes. LeadsBy spelling IsInstr rv_is_relative (IsShortRvBranch goal) place bytes;
  jumps_back = λ goal place bytes. LeadsBy spelling IsInstr rv_is_relative (IsShortRvJump of_jumps.holds goal) place bytes;
  calls_back = λ goal place bytes. LeadsBy spelling IsInstr rv_is_relative (IsShortRvJump of_calls.holds goal) place bytes;
  branches_ahead = λ reach place bytes. LeadsBy spelling IsInstr rv_is_relative (IsRvBranchAhead reach) place bytes;
  jumps_ahead = λ reach place bytes. LeadsBy spelling IsInstr rv_is_relative (IsRvJumpAhead of_jumps reach) place bytes;
  calls_ahead = λ reach place bytes. LeadsBy spelling IsInstr rv_is_relative (IsRvJumpAhead of_calls reach) place bytes;
}
