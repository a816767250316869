-- `jmpi`: a branch.
use Rattle.std.specs.Prelude.{ℕ, List, [], ◌∷◌}
use Rattle.lg_a64.specs.declared.instruction.BranchOp.TheVariants.{B}
use Rattle.lg_a64.specs.declared.instruction.Instr.{Instr}
use Rattle.lg_a64.specs.declared.instruction.Instr.TheVariants as instr
use Rattle.lg_sela_values.specs.Items.{words_between}

-- from an address to another one
abbrev pub jump_code : ℕ → ℕ → List Instr
jump_code from to = instr.Branch B (words_between from to) ∷ []
