-- How many bytes items have: an instruction of x86-64 has at most 10.
use Rattle.std.proofs.Common.{◌*◌, ◌≤◌, List, [], ◌∷◌, length, length-append, arith}
use Rattle.lg_selx_values.specs.Items.{blank, words_in, blanks}
use Rattle.lg_selx_values.specs.declared.items.Item.{Item}
use Rattle.lg_x86.specs.Spelling.{spelling}
use Rattle.lg_x86.proofs.SizeLemmas.{sized}

pub bytes-few : (xs : List Item) → length (blanks xs) ≤ 10 * words_in xs
bytes-few [] = omega arith
bytes-few (x ∷ xs) = let s = (sized (blank x)).short in let l = length-append (spelling (blank x)) (blanks xs) in let m = bytes-few xs in omega (arith, s, l, m)
