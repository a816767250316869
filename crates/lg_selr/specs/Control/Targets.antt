-- What the code of RV64 does wherever it is, as the laws of every target ask for it.
use Rattle.std.specs.Prelude.{ℕ, ◌^◌, ◌<◌, ◌≤◌, List, length}
use Rattle.lg_base.specs.Layout.{most_code}
use Rattle.lg_rv.specs.Spelling.{IsInstr}
use Rattle.lg_rv.specs.declared.instruction.Instr.{Instr}
use Rattle.lg_cpu.specs.Laws.{AreBytes}
use Rattle.lg_selr_values.specs.Processor.RvComputers.{rv_scratch}
use Rattle.lg_selr_values.specs.Processor.RvRows.{rv_rows}
use Rattle.lg_sel.specs.Control.Control.{Codes, Controls}
use Rattle.lg_sel.specs.declared.reach.Reach.{Reach}
use Rattle.lg_selr.specs.Control.Alignments.{align_code}
use Rattle.lg_selr.specs.Control.Calls.{call_code}
use Rattle.lg_selr.specs.Control.HostCalls.{host_code, rv_ready}
use Rattle.lg_selr.specs.Control.Jumps.{jump_code}
use Rattle.lg_selr.specs.Control.Prologs.{prolog_code}
use Rattle.lg_selr.specs.Control.RegisterLeaps.{register_jump_code, register_call_code}
use Rattle.lg_selr.specs.Control.Returns.{returned_code}
use Rattle.lg_selr.specs.Control.TwoWays.{branch_code, sum_branch_code}

-- with this reach, where frames save this many of V0 to V2
abbrev pub rv_control : ℕ → Reach → Codes Instr
rv_control saved r = record {
  branch = branch_code r;
  sum_branch = sum_branch_code r;
  jump = jump_code r;
  register_jump = register_jump_code;
  call = call_code r;
  host_call = host_code;
  register_call = register_call_code;
  ret = returned_code saved;
  prolog = prolog_code saved;
  align = align_code;
}

abbrev pub IsRv : ℕ → Reach → List ℕ → ℕ → Type 0
IsRv saved r code trash = Controls (rv_rows code trash) rv_scratch IsInstr rv_ready saved (rv_control saved r)

abbrev pub IsTarget : Type 0
IsTarget =
    (saved : ℕ) (r : Reach) (code : List ℕ) (trash : ℕ) → length code ≤ most_code → AreBytes code → trash < 2 ^ 64 → IsRv saved r code trash
