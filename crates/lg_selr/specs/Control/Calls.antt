-- `calli` and `finishi` of a label: a jump to the place of its `prolog` that links.
use Rattle.std.specs.Prelude.{ℕ, pos, ◌-ℤ◌, List, [], ◌∷◌}
use Rattle.lg_rv.specs.declared.instruction.Instr.{Instr}
use Rattle.lg_rv.specs.declared.instruction.Instr.TheVariants as instr
use Rattle.lg_sel.specs.declared.reach.Reach.{Reach}
use Rattle.lg_sel.specs.declared.reach.Reach.TheVariants.{Far}
use Rattle.lg_selr_values.specs.Items.{far_jump}

-- from an address to another one
abbrev pub call_code : Reach → ℕ → ℕ → List Instr
call_code Far from to = far_jump 1 1 from to
call_code r from to = instr.Jal 1 (pos to -ℤ pos from) ∷ []
