-- Loads, stores and nodes that read and pass arguments are carried by their code, wherever the processor runs it.
use Rattle.std.specs.Prelude.{ℕ, ◌^◌, ◌<◌, ◌≤◌, List, length}
use Rattle.lg_base.specs.Layout.{most_code}
use Rattle.lg_sela_values.specs.Processor.A64Rows.{a64_rows}
use Rattle.lg_cpu.specs.Laws.{AreBytes}
use Rattle.lg_a64.specs.Spelling.{IsInstr}
use Rattle.lg_carry.specs.Memory.Arguments.{ArgumentsCarry}
use Rattle.lg_carry.specs.Memory.Loads.{LoadsCarry}
use Rattle.lg_carry.specs.Memory.Pushes.{PushesCarry}
use Rattle.lg_carry.specs.Memory.Stores.{StoresCarry}
use Rattle.lg_carry.specs.Memory.VariableArguments.{NextArgumentsCarry}
use Rattle.lg_sela.specs.Memory.Accesses.{a64_load, a64_store}
use Rattle.lg_sela.specs.Memory.ArgumentCode.{a64_argument}
use Rattle.lg_sela.specs.Memory.PushCode.{a64_push}
use Rattle.lg_sela.specs.Memory.VariableArgumentCode.{a64_next_argument}

pub record MemoryNodesCarry (code : List ℕ) (trash : ℕ) : Type 0 where
  pub loads : LoadsCarry (a64_rows code trash) IsInstr a64_load
  pub stores : StoresCarry (a64_rows code trash) IsInstr a64_store
  pub arguments : ArgumentsCarry (a64_rows code trash) IsInstr a64_argument
  pub next_arguments : NextArgumentsCarry (a64_rows code trash) IsInstr a64_next_argument
  pub pushes : PushesCarry (a64_rows code trash) IsInstr a64_push

abbrev pub MemoryIsCarried : Type 0
MemoryIsCarried = (code : List ℕ) (trash : ℕ) → length code ≤ most_code → AreBytes code → trash < 2 ^ 64 → MemoryNodesCarry code trash
