-- What the code of x86-64 does wherever it is, as the laws of every target ask for it.
use Rattle.std.specs.Prelude.{ℕ, ◌^◌, ◌<◌, ◌≤◌, List, length}
use Rattle.lg_base.specs.Layout.{most_code}
use Rattle.lg_x86.specs.Spelling.{IsInstr}
use Rattle.lg_x86.specs.declared.instruction.Instr.{Instr}
use Rattle.lg_cpu.specs.Laws.{AreBytes}
use Rattle.lg_selx_values.specs.Processor.X86Computers.{x86_scratch}
use Rattle.lg_selx_values.specs.Processor.X86Rows.{x86_rows}
use Rattle.lg_sel.specs.Control.Control.{Codes, Controls}
use Rattle.lg_sel.specs.declared.reach.Reach.{Reach}
use Rattle.lg_selx.specs.Control.Alignments.{align_code}
use Rattle.lg_selx.specs.Control.Calls.{call_code}
use Rattle.lg_selx.specs.Control.HostCalls.{host_code, x86_ready}
use Rattle.lg_selx.specs.Control.Jumps.{jump_code}
use Rattle.lg_selx.specs.Control.Prologs.{prolog_code}
use Rattle.lg_selx.specs.Control.RegisterLeaps.{register_jump_code, register_call_code}
use Rattle.lg_selx.specs.Control.Returns.{returned_code}
use Rattle.lg_selx.specs.Control.TwoWays.{branch_code, sum_branch_code}

-- with this reach, where frames save this many of V0, V1 and V2
abbrev pub x86_control : Reach → ℕ → Codes Instr
x86_control r saved = record {
  branch = branch_code r;
  sum_branch = sum_branch_code r;
  jump = jump_code r;
  register_jump = register_jump_code;
  call = call_code;
  host_call = host_code;
  register_call = register_call_code;
  ret = returned_code saved;
  prolog = prolog_code saved;
  align = align_code;
}

abbrev pub IsX86 : Reach → ℕ → List ℕ → ℕ → Type 0
IsX86 r saved code trash = Controls (x86_rows code trash) x86_scratch IsInstr x86_ready saved (x86_control r saved)

abbrev pub IsTarget : Type 0
IsTarget = (r : Reach) (saved : ℕ) (code : List ℕ) (trash : ℕ) → length code ≤ most_code → AreBytes code → trash < 2 ^ 64 → IsX86 r saved code trash
