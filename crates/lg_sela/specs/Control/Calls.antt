-- `calli` and `finishi` of a label: a branch to the place of its `prolog` that links.
use Rattle.std.specs.Prelude.{ℕ, List, [], ◌∷◌}
use Rattle.lg_a64.specs.declared.instruction.BranchOp.TheVariants.{Bl}
use Rattle.lg_a64.specs.declared.instruction.Instr.{Instr}
use Rattle.lg_a64.specs.declared.instruction.Instr.TheVariants as instr
use Rattle.lg_sela_values.specs.Items.{words_between}

-- from an address to another one
abbrev pub call_code : ℕ → ℕ → List Instr
call_code from to = instr.Branch Bl (words_between from to) ∷ []
