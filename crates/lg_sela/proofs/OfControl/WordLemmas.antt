-- The words of distances.
use Rattle.std.proofs.Common.{◌≡◌, ℕ, ◌*◌, ◌/◌, ◌%◌, ◌^◌, ◌<◌, ap, ◌∙◌, arith}
use Rattle.std.specs.Prelude.{pos, ◌-ℤ◌}
use Rattle.std.proofs.lemmas.Int.{ints}
use Rattle.lg_base.specs.Fields.{word_of}
use Rattle.lg_base.specs.Words.{add_words, mul_words}
use Rattle.lg_cpu.specs.A64Step.{away}
use Rattle.lg_sela_values.specs.Items.{words_between}

distance : (x y : ℕ) → x < 2 ^ 60 → y < 2 ^ 60 → add_words (4 * x) (mul_words (word_of (pos y -ℤ pos x)) 4) ≡ 4 * y
distance x y p q = grind (arith, ints, p, q)

-- this many words of 4 bytes lead from an address to another
pub words-lead : (from to : ℕ) → from < 2 ^ 62 → to < 2 ^ 62 → from % 4 ≡ 0 → to % 4 ≡ 0 → away from (word_of (words_between from to)) ≡ to
words-lead from to h k f t =
    let ef : from ≡ 4 * (from / 4) = omega (arith, f) in
    let et : 4 * (to / 4) ≡ to = omega (arith, t) in
    ap (λ z. add_words z (mul_words (word_of (words_between from to)) 4)) ef ∙ distance (from / 4) (to / 4) (omega (arith, h)) (omega (arith, k)) ∙ et
