-- Items that become the same instructions wherever they are.
use Rattle.std.proofs.Common.{◌≡◌, ℕ, ◌+◌, List, [], ◌∷◌, ◌++◌, length, refl, ap, ◌∙◌}
use Rattle.lg_x86.specs.Spelling.{spelling}
use Rattle.lg_x86.specs.declared.instruction.Instr.{Instr}
use Rattle.lg_temp.specs.declared.choice.Choice.{Choice}
use Rattle.lg_temp.specs.declared.choice.Choice.TheVariants.{Free, Own, Spill}
use Rattle.lg_carry.specs.Spills.{wrapped}
use Rattle.lg_selx_values.specs.Processor.X86Rows.{x86_rows}
use Rattle.lg_selx_values.specs.declared.items.Item.{Item}
use Rattle.lg_selx_values.specs.declared.items.Item.TheVariants.{One}
use Rattle.lg_selx_values.specs.Items.{blanks, settled, ones}
use Rattle.lg_selx_values.proofs.ItemLemmas.{settled-append, settled-ones}
use Rattle.lg_selx_values.specs.ValueItems.{save, restore, saved_items}

-- items that become these instructions wherever they are
pub record Settles (to : ℕ → ℕ) (items : List Item) (is : List Instr) : Type 0 where
  pub become : (at : ℕ) → settled to at items ≡ is

pub settles-ones : (to : ℕ → ℕ) (is js : List Instr) → is ≡ js → Settles to (ones is) js
settles-ones to is js e = record { become = λ at. settled-ones to at is ∙ e }

settles-append : (to : ℕ → ℕ) (xs ys : List Item) (is js : List Instr) → Settles to xs is → Settles to ys js → Settles to (xs ++ ys) (is ++ js)
settles-append to xs ys is js h k = record { become = λ at. settled-append to at xs ys ∙ (λ i. h.become at i ++ k.become (at + length (blanks xs)) i) }

-- and with the registers that are saved
pub settles-saved : (to : ℕ → ℕ) (code : List ℕ) (trash : ℕ) (choices : List Choice) (body : List Item) (is : List Instr) → Settles to body is → Settles to (saved_items choices body) (wrapped (x86_rows code trash) choices is)
settles-saved to code trash [] body is h = h
settles-saved to code trash (Free r ∷ choices) body is h = settles-saved to code trash choices body is h
settles-saved to code trash (Own r ∷ choices) body is h = settles-saved to code trash choices body is h
settles-saved to code trash (Spill r k ∷ choices) body is h =
    let last : Settles to (One (restore r k) ∷ []) (restore r k ∷ []) = record { become = λ at. refl } in
    let inner = settles-append to (saved_items choices body) (One (restore r k) ∷ []) (wrapped (x86_rows code trash) choices is) (restore r k ∷ []) (settles-saved to code trash choices body is h) last in
    record { become = λ at. ap (λ js. save r k ∷ js) (inner.become (at + length (spelling (save r k)))) }
