-- Items that are appended to others.
use Rattle.std.proofs.Common.{◌≡◌, ℕ, ◌+◌, ◌≤◌, List, [], ◌++◌, sym, ap, ◌∙◌, arith, append_assoc}
use Rattle.lg_base.specs.HostNames.{host_address}
use Rattle.lg_op.specs.declared.operand.Operand.{Operand}
use Rattle.lg_op.specs.declared.operand.Operand.TheVariants as operand
use Rattle.lg_a64.specs.declared.instruction.Instr.{Instr}
use Rattle.lg_sela_values.specs.declared.items.Item.{Item}
use Rattle.lg_sela_values.specs.Items.{words_in, ones}
use Rattle.lg_sela_values.proofs.ItemLemmas.{words_append, ones-append}
use Rattle.lg_sela_values.proofs.NumberItemLemmas.{number_words}
use Rattle.lg_sela_values.specs.ValueItems.{load_items}

pub ones_twice : (xs : List Item) (is js : List Instr) → (xs ++ ones is) ++ ones js ≡ xs ++ ones (is ++ js)
ones_twice xs is js = append_assoc xs (ones is) (ones js) ∙ ap (λ ys. xs ++ ys) (sym (ones-append is js))

-- what is appended leaves room
pub load_words : (xs : List Item) (t : ℕ) (x : Operand) → words_in (xs ++ load_items t x) ≤ words_in xs + 4
load_words xs t (operand.Number v) = number_words xs t v
load_words xs t (operand.Host name) = number_words xs t (host_address name)
load_words xs t (operand.Label l) = let w = words_append xs (load_items t (operand.Label l)) in omega (arith, w)
load_words xs t (operand.Reg r) = let w = words_append xs [] in omega (arith, w)
load_words xs t (operand.Slot k) = let w = words_append xs [] in omega (arith, w)
