-- The items of a node leave room.
use Rattle.std.proofs.Common.{◌≡◌, ℕ, ◌+◌, ◌-◌, ◌*◌, ◌≤◌, List, [], ◌∷◌, ◌++◌, length, take, drop, ap, sym, subst, arith}
use Rattle.std.proofs.lemmas.List.{take_all}
use Rattle.std.specs.Prelude.{⊤}
use Rattle.lg_op.specs.declared.op.Op.{Op}
use Rattle.lg_op.specs.declared.operand.Operand.{Operand}
use Rattle.lg_temp.specs.declared.choice.Choice.{Choice}
use Rattle.lg_temp.specs.declared.choice.Choice.TheVariants.{Free, Own, Spill}
use Rattle.lg_selx_values.specs.declared.items.Item.{Item}
use Rattle.lg_selx_values.specs.declared.items.Item.TheVariants.{One}
use Rattle.lg_selx_values.specs.Items.{words_in}
use Rattle.lg_selx_values.proofs.ItemLemmas.{words_append}
use Rattle.lg_carry.specs.Values.Parts.{operand_in, HaveSlots}
use Rattle.lg_selx_values.specs.ValueItems.{body_items, restore, saved_items}
use Rattle.lg_selx_values.proofs.RowLemmas.{HoldsOfRows}
use Rattle.lg_selx_values.proofs.ValueFitLemmas.{any-number, body-are}

-- nothing is asked of the rows
rows-any : (frame : ℕ) → HoldsOfRows frame (λ i. ⊤) (λ v. ⊤)
rows-any frame = record {
  two = λ o rm reg f l. tt;
  half = λ o rm v f small e. tt;
  near = λ reg base v f l small e. tt;
  sum = λ reg base index f l k ne. tt;
  turned = λ v small. tt;
  ext = λ o reg rm f l. tt;
  number = λ r v f small. tt;
  zero = tt;
  one = λ o rm f. tt;
  shift = λ o rm count f l. tt;
  turn = λ r f. tt;
  set = λ c r f. tt;
  sign = tt;
  again = tt;
}

body-few : (frame : ℕ) (o : Op) (xs : List Operand) → words_in (body_items frame o xs) ≤ 8
body-few frame o xs = (body-are frame (λ x. ⊤) (λ v. ⊤) (rows-any frame) (λ name. tt) (λ t l f. tt) (λ r k f l. tt) (λ r k f l. tt) o xs (λ i. any-number (operand_in xs i))).few

saved-few : (choices : List Choice) (body : List Item) → words_in (saved_items choices body) ≤ words_in body + 2 * length choices
saved-few [] body = omega arith
saved-few (Free r ∷ choices) body = let m = saved-few choices body in omega (arith, m)
saved-few (Own r ∷ choices) body = let m = saved-few choices body in omega (arith, m)
saved-few (Spill r k ∷ choices) body = let m = saved-few choices body in let w = words_append (saved_items choices body) (One (restore r k) ∷ []) in omega (arith, m, w)

pub saved_words : (xs : List Item) (choices : List Choice) (frame : ℕ) (o : Op) (ys : List Operand) → words_in (xs ++ saved_items choices (body_items frame o ys)) ≤ words_in xs + (8 + 2 * length choices)
saved_words xs choices frame o ys =
    let w = words_append xs (saved_items choices (body_items frame o ys)) in let s = saved-few choices (body_items frame o ys) in let b = body-few frame o ys in omega (arith, w, s, b)

-- the choices after the first
pub rest_slots : (choices : List Choice) → 1 ≤ length choices → HaveSlots choices → HaveSlots (take (length choices - 1) (drop 1 choices))
rest_slots [] le h = absurd (omega (arith, le))
rest_slots (choice ∷ choices) le h = subst HaveSlots (sym (take_all (length (choice ∷ choices) - 1) choices (omega arith))) (behind choice h)
  where
    behind : (choice : Choice) → HaveSlots (choice ∷ choices) → HaveSlots choices
    behind (Free r) h = h
    behind (Own r) h = h
    behind (Spill r k) h = h.1

pub rest_count : (choices : List Choice) → 1 ≤ length choices → length (take (length choices - 1) (drop 1 choices)) + 1 ≡ length choices
rest_count [] le = absurd (omega (arith, le))
rest_count (choice ∷ choices) le = let e = ap length (take_all (length (choice ∷ choices) - 1) choices (omega arith)) in omega (arith, e)
