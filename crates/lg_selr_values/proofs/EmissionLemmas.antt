-- Items that are appended to others.
use Rattle.std.proofs.Common.{◌≡◌, ℕ, ◌+◌, ◌≤◌, List, [], ◌++◌, sym, ap, ◌∙◌, arith, length, append_assoc}
use Rattle.lg_rv.specs.declared.instruction.Instr.{Instr}
use Rattle.lg_selr_values.specs.Processor.Numbers.{number_code}
use Rattle.lg_selr_values.proofs.OfProcessor.NumberCodeLemmas as numbers
use Rattle.lg_base.specs.HostNames.{host_address}
use Rattle.lg_op.specs.declared.operand.Operand.{Operand}
use Rattle.lg_op.specs.declared.operand.Operand.TheVariants as operand
use Rattle.lg_selr_values.specs.ValueItems.{load_items, second_items}
use Rattle.lg_selr_values.specs.declared.items.Item.{Item}
use Rattle.lg_selr_values.specs.Items.{words_in, ones}
use Rattle.lg_selr_values.proofs.ItemLemmas.{words_append, words-ones, ones-append}

pub words_more : (xs : List Item) (is : List Instr) → words_in (xs ++ ones is) ≡ words_in xs + length is
words_more xs is = words_append xs (ones is) ∙ ap (λ n. words_in xs + n) (words-ones is)

pub number_few : (rd v : ℕ) → length (number_code rd v) ≤ 8
number_few rd v = numbers.number_few rd v

pub ones_twice : (xs : List Item) (is js : List Instr) → (xs ++ ones is) ++ ones js ≡ xs ++ ones (is ++ js)
ones_twice xs is js = append_assoc xs (ones is) (ones js) ∙ ap (λ ys. xs ++ ys) (sym (ones-append is js))

-- ---- what is appended leaves room
pub number_words : (xs : List Item) (rd v : ℕ) → words_in (xs ++ ones (number_code rd v)) ≤ words_in xs + 8
number_words xs rd v = let w = words_more xs (number_code rd v) in let f = number_few rd v in omega (arith, w, f)

pub load_words : (xs : List Item) (t : ℕ) (x : Operand) → words_in (xs ++ load_items t x) ≤ words_in xs + 8
load_words xs t (operand.Number v) = number_words xs t v
load_words xs t (operand.Host name) = number_words xs t (host_address name)
load_words xs t (operand.Label l) = let w = words_append xs (load_items t (operand.Label l)) in omega (arith, w)
load_words xs t (operand.Reg r) = let w = words_append xs [] in omega (arith, w)
load_words xs t (operand.Slot k) = let w = words_append xs [] in omega (arith, w)

pub second_words : (xs : List Item) (x : Operand) → words_in (xs ++ second_items x) ≤ words_in xs + 8
second_words xs (operand.Reg r) = let w = words_append xs (second_items (operand.Reg r)) in omega (arith, w)
second_words xs (operand.Number v) = load_words xs 1 (operand.Number v)
second_words xs (operand.Host name) = load_words xs 1 (operand.Host name)
second_words xs (operand.Label l) = load_words xs 1 (operand.Label l)
second_words xs (operand.Slot k) = load_words xs 1 (operand.Slot k)
