-- Items with each register that is saved: each one is stored once more.
use Rattle.std.proofs.Common.{ℕ, ◌+◌, Bool, List, [], ◌∷◌, ◌++◌, refl, arith}
use Rattle.lg_sel.specs.declared.reach.Reach.{Reach}
use Rattle.lg_selx.proofs.Emissions.{Emits, append, more, instructions, plain}
use Rattle.lg_selx_values.specs.Items.{ones}
use Rattle.lg_selx_values.specs.declared.items.Item.{Item}
use Rattle.lg_selx_values.specs.ValueItems.{save, restore, saved_items}
use Rattle.lg_temp.specs.Chosen.{spills}
use Rattle.lg_temp.specs.declared.choice.Choice.{Choice}
use Rattle.lg_temp.specs.declared.choice.Choice.TheVariants.{Free, Own, Spill}
use Rattle.lg_x86.specs.declared.instruction.Instr.{Instr}

module _ (reach : Reach) (is : ℕ → Bool) where
  pub saved : (s : ℕ) (choices : List Choice) (xs : List Item) → Emits reach is 1 s xs → Emits reach is 1 (spills choices + s) (saved_items choices xs)
  saved s [] xs a = more reach is 1 1 s (0 + s) xs (omega arith) (omega arith) a
  saved s (Free r ∷ choices) xs a = saved s choices xs a
  saved s (Own r ∷ choices) xs a = saved s choices xs a
  saved s (Spill r k ∷ choices) xs a =
      let save-code : List Instr = save r k ∷ [] in
      let restore-code : List Instr = restore r k ∷ [] in
      let inner = append reach is 1 0 (spills choices + s) 0 (saved_items choices xs) (ones restore-code) (saved s choices xs a) (plain reach is 0 restore-code refl) in
      more reach is (0 + (1 + 0)) 1 (1 + (spills choices + s + 0)) (spills choices + 1 + s) (saved_items (Spill r k ∷ choices) xs) (omega arith) (omega arith)
      (append reach is 0 (1 + 0) 1 (spills choices + s + 0) (ones save-code) (saved_items choices xs ++ ones restore-code) (instructions reach is 0 1 save-code (omega arith)) inner)
