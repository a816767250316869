-- The kinds of fault by name.
use Rattle.std.specs.Prelude.{ℕ, List, codes}
use Rattle.lg_base.specs.declared.fault.FaultKind.{FaultKind}
use Rattle.lg_base.specs.declared.fault.FaultKind.TheVariants.{Fetch, Decode, Memory, Align, Divide, Flag, Host}

-- the name that the program prints
abbrev pub name_of_fault : FaultKind → List ℕ
name_of_fault Fetch = codes "Fetch"
name_of_fault Decode = codes "Decode"
name_of_fault Memory = codes "Memory"
name_of_fault Align = codes "Align"
name_of_fault Divide = codes "Divide"
name_of_fault Flag = codes "Flag"
name_of_fault Host = codes "Host"
