-- Items that are appended to others.
use Rattle.std.proofs.Common.{◌≡◌, ℕ, ◌+◌, ◌≤◌, Bool, true, false, List, [], ◌∷◌, ◌++◌, length, sym, ap, ◌∙◌, arith, append_assoc, length-append}
use Rattle.std.specs.Prelude.{◌==◌, if◌then◌else◌}
use Rattle.lg_x86.specs.declared.instruction.Instr.{Instr}
use Rattle.lg_x86.specs.declared.instruction.Instr.TheVariants.{RmReg}
use Rattle.lg_x86.specs.declared.instruction.RmRegOp.TheVariants.{Mov}
use Rattle.lg_selx_values.specs.declared.items.Item.{Item}
use Rattle.lg_selx_values.specs.declared.items.Item.TheVariants.{One}
use Rattle.lg_selx_values.specs.Items.{words_in, ones}
use Rattle.lg_selx_values.proofs.ItemLemmas.{words_append, words-ones, ones-append}
use Rattle.lg_selx_values.specs.Scratch.{moved}

pub ones_twice : (xs : List Item) (is js : List Instr) → (xs ++ ones is) ++ ones js ≡ xs ++ ones (is ++ js)
ones_twice xs is js = append_assoc xs (ones is) (ones js) ∙ ap (λ ys. xs ++ ys) (sym (ones-append is js))

pub ones_after : (xs : List Item) (i : Instr) (is : List Instr) → (xs ++ One i ∷ []) ++ ones is ≡ xs ++ ones (i ∷ is)
ones_after xs i is = append_assoc xs (One i ∷ []) (ones is)

-- what is appended leaves room
pub one_words : (xs : List Item) (i : Instr) → words_in (xs ++ One i ∷ []) ≡ words_in xs + 1
one_words xs i = words_append xs (One i ∷ [])

words_more : (xs : List Item) (is : List Instr) → words_in (xs ++ ones is) ≡ words_in xs + length is
words_more xs is = words_append xs (ones is) ∙ ap (λ n. words_in xs + n) (words-ones is)

pub after_words : (xs : List Item) (d a : ℕ) (is : List Instr) → words_in (xs ++ ones (moved d a ++ is)) ≤ words_in xs + 1 + length is
after_words xs d a is =
    let w = words_more xs (moved d a ++ is) in
    let l = length-append (moved d a) is in
    let f = moved-few (d == a) in omega (arith, w, l, f)
  where
    moved-few : (b : Bool) → length (if b then [] else RmReg Mov d a ∷ []) ≤ 1
    moved-few true = omega arith
    moved-few false = omega arith

pub moved_words : (xs : List Item) (d a : ℕ) → words_in (xs ++ ones (moved d a)) ≤ words_in xs + 1
moved_words xs d a = let w = words_more xs (moved d a) in let f = few (d == a) in omega (arith, w, f)
  where
    few : (b : Bool) → length (if b then [] else RmReg Mov d a ∷ []) ≤ 1
    few true = omega arith
    few false = omega arith
