-- `calli` and `finishi` of a host function: the address of its entry is put into the link, and the branch there links. The host function continues after the
-- node.
use Rattle.std.specs.Prelude.{ℕ, Bool, true, List, [], ◌∷◌, ◌++◌}
use Rattle.lg_base.specs.HostNames.{host_address}
use Rattle.lg_base.specs.declared.host_name.HostName.{HostName}
use Rattle.lg_a64.specs.declared.instruction.BranchRegOp.TheVariants.{Blr}
use Rattle.lg_a64.specs.declared.instruction.Instr.{Instr}
use Rattle.lg_a64.specs.declared.instruction.Instr.TheVariants as instr
use Rattle.lg_sela_values.specs.Processor.A64Rows.{link}
use Rattle.lg_sela_values.specs.Processor.Numbers.{number_code}

abbrev pub host_code : HostName → List Instr
host_code name = number_code link (host_address name) ++ (instr.BranchReg Blr link ∷ [])

-- a host function asks for nothing but its arguments
abbrev pub a64_ready : HostName → (ℕ → ℕ) → Bool
a64_ready name w = true
