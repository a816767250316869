-- How many instructions load a number.
use Rattle.std.proofs.Common.{◌≡◌, ℕ, ◌+◌, ◌≤◌, Bool, true, false, List, [], ◌∷◌, ◌++◌, length, ap, ◌∙◌, arith}
use Rattle.std.specs.Prelude.{◌==◌, if◌then◌else◌}
use Rattle.lg_a64.specs.declared.instruction.Instr.{Instr}
use Rattle.lg_a64.specs.declared.instruction.Instr.TheVariants.{Wide}
use Rattle.lg_a64.specs.declared.instruction.WideOp.TheVariants.{Movk}
use Rattle.lg_sela_values.specs.Processor.Numbers.{quarter_code, number_code}
use Rattle.lg_sela_values.proofs.OfProcessor.NumberCodeLemmas.{number-few}
use Rattle.lg_sela_values.specs.declared.items.Item.{Item}
use Rattle.lg_sela_values.specs.Items.{words_in, ones}
use Rattle.lg_sela_values.proofs.ItemLemmas.{words_append, words-ones}

pub words_more : (xs : List Item) (is : List Instr) → words_in (xs ++ ones is) ≡ words_in xs + length is
words_more xs is = words_append xs (ones is) ∙ ap (λ n. words_in xs + n) (words-ones is)

pub quarter_words : (xs : List Item) (rd part hw : ℕ) → words_in (xs ++ ones (quarter_code rd part hw)) ≤ words_in xs + 1
quarter_words xs rd part hw = let w = words_more xs (quarter_code rd part hw) in let f = few (part == 0) in omega (arith, w, f)
  where
    few : (b : Bool) → length (if b then [] else Wide Movk rd part hw ∷ []) ≤ 1
    few true = omega arith
    few false = omega arith

pub number_words : (xs : List Item) (rd v : ℕ) → words_in (xs ++ ones (number_code rd v)) ≤ words_in xs + 4
number_words xs rd v = let w = words_more xs (number_code rd v) in let f = number-few rd v in omega (arith, w, f)
