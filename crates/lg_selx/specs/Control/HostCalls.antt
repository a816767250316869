-- `calli` and `finishi` of a host function: the address of its entry is put into r11, 11, and called. The host function continues after the node.
use Rattle.std.specs.Prelude.{ℕ, Bool, List, ◌∷◌}
use Rattle.lg_base.specs.HostNames.{host_address}
use Rattle.lg_base.specs.declared.host_name.HostName.{HostName}
use Rattle.lg_x86.specs.declared.instruction.Instr.{Instr}
use Rattle.lg_x86.specs.declared.instruction.Instr.TheVariants as instr
use Rattle.lg_cpu.specs.X86Step.{takes_al}
use Rattle.lg_selx.specs.Control.RegisterLeaps.{called}

abbrev pub host_code : HostName → List Instr
host_code name = instr.Movi32 11 (host_address name) ∷ called

-- besides its arguments a host function may ask for a small number in al
abbrev pub x86_ready : HostName → (ℕ → ℕ) → Bool
x86_ready name w = takes_al name (w 0)
