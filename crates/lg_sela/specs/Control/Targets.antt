-- What the code of AArch64 does wherever it is, as the laws of every target ask for it.
use Rattle.std.specs.Prelude.{ℕ, ◌^◌, ◌<◌, ◌≤◌, List, length}
use Rattle.lg_base.specs.Layout.{most_code}
use Rattle.lg_a64.specs.Spelling.{IsInstr}
use Rattle.lg_a64.specs.declared.instruction.Instr.{Instr}
use Rattle.lg_cpu.specs.Laws.{AreBytes}
use Rattle.lg_sela_values.specs.Processor.A64Computers.{a64_scratch}
use Rattle.lg_sela_values.specs.Processor.A64Rows.{a64_rows}
use Rattle.lg_sel.specs.Control.Control.{Codes, Controls}
use Rattle.lg_sel.specs.declared.reach.Reach.{Reach}
use Rattle.lg_sela.specs.Control.Alignments.{align_code}
use Rattle.lg_sela.specs.Control.Calls.{call_code}
use Rattle.lg_sela.specs.Control.HostCalls.{host_code, a64_ready}
use Rattle.lg_sela.specs.Control.Jumps.{jump_code}
use Rattle.lg_sela.specs.Control.Prologs.{prolog_code}
use Rattle.lg_sela.specs.Control.RegisterLeaps.{register_jump_code, register_call_code}
use Rattle.lg_sela.specs.Control.Returns.{returned_code}
use Rattle.lg_sela.specs.Control.TwoWays.{branch_code, sum_branch_code}

-- with this reach, where frames save this many of V0, V1 and V2
abbrev pub a64_control : ℕ → Reach → Codes Instr
a64_control saved r = record {
  branch = branch_code r;
  sum_branch = sum_branch_code r;
  jump = jump_code;
  register_jump = register_jump_code;
  call = call_code;
  host_call = host_code;
  register_call = register_call_code;
  ret = returned_code saved;
  prolog = prolog_code saved;
  align = align_code;
}

abbrev pub IsA64 : ℕ → Reach → List ℕ → ℕ → Type 0
IsA64 saved r code trash = Controls (a64_rows code trash) a64_scratch IsInstr a64_ready saved (a64_control saved r)

abbrev pub IsTarget : Type 0
IsTarget =
    (saved : ℕ) (r : Reach) (code : List ℕ) (trash : ℕ) → length code ≤ most_code → AreBytes code → trash < 2 ^ 64 → IsA64 saved r code trash
