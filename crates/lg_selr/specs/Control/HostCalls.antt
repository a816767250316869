-- `calli` and `finishi` of a host function: the address of its entry is put into the link, and the jump there links. The host function continues after the
-- node.
use Rattle.std.specs.Prelude.{ℕ, Bool, true, List, [], ◌∷◌}
use Rattle.lg_base.specs.HostNames.{host_address}
use Rattle.lg_base.specs.declared.host_name.HostName.{HostName}
use Rattle.lg_rv.specs.declared.instruction.Instr.{Instr}
use Rattle.lg_rv.specs.declared.instruction.Instr.TheVariants as instr
use Rattle.lg_rv.specs.declared.instruction.ImmOp.TheVariants.{Jalr}
use Rattle.lg_rv.specs.declared.instruction.UpperOp.TheVariants.{Lui}
use Rattle.lg_selr_values.specs.Processor.Numbers.{high_part, low_part}

abbrev pub host_code : HostName → List Instr
host_code name = instr.Upper Lui 1 (high_part (host_address name)) ∷ instr.Imm Jalr 1 1 (low_part (host_address name)) ∷ []

-- a host function asks for nothing but its arguments
abbrev pub rv_ready : HostName → (ℕ → ℕ) → Bool
rv_ready name w = true
