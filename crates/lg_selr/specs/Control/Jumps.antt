-- `jmpi`: a jump.
use Rattle.std.specs.Prelude.{ℕ, pos, ◌-ℤ◌, List, [], ◌∷◌}
use Rattle.lg_rv.specs.declared.instruction.Instr.{Instr}
use Rattle.lg_rv.specs.declared.instruction.Instr.TheVariants as instr
use Rattle.lg_sel.specs.declared.reach.Reach.{Reach}
use Rattle.lg_sel.specs.declared.reach.Reach.TheVariants.{Far}
use Rattle.lg_selr_values.specs.Items.{far_jump}

-- from an address to another one
abbrev pub jump_code : Reach → ℕ → ℕ → List Instr
jump_code Far from to = far_jump 0 31 from to
jump_code r from to = instr.Jal 0 (pos to -ℤ pos from) ∷ []
