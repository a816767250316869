-- How long the argument part is.
use Rattle.std.proofs.Common.{◌≡◌, ℕ, ◌+◌, ◌*◌, List, [], ◌∷◌, ◌++◌, length, refl, arith, length-append}
use Rattle.std.specs.Prelude.{sum_by}
use Rattle.std.proofs.lemmas.List.Sums.{sum_by-cons}
use Rattle.std.specs.Int.{w64, to_le_bytes}
use Rattle.lg_base.specs.Parts.{args_base}
use Rattle.lg_base.specs.Arguments.{strings, pointers, args_of}
use Rattle.lg_base.specs.Lengths.{args_len}

length-pointers : (address : ℕ) (ws : List (List ℕ)) → length (pointers address ws) ≡ 8 * length ws
length-pointers address [] = refl
length-pointers address (w ∷ ws) =
    let rest = length-pointers (address + (length w + 1)) ws in
    omega (arith, length-append (to_le_bytes w64 address) (pointers (address + (length w + 1)) ws), rest)

length-strings : (ws : List (List ℕ)) → length (strings ws) ≡ sum_by (λ w. length w + 1) ws
length-strings [] = refl
length-strings (w ∷ ws) =
    let rest = length-strings ws in
    omega (arith, length-append w (0 ∷ strings ws), rest, sum_by-cons (λ (x : List ℕ). length x + 1) w ws)

pub length-args_of : (ws : List (List ℕ)) → length (args_of ws) ≡ args_len ws
length-args_of ws =
    let front = pointers (args_base + 8 * (length ws + 1)) ws in
    let a = length-append (front ++ to_le_bytes w64 0) (strings ws) in
    let b = length-append front (to_le_bytes w64 0) in
    let p = length-pointers (args_base + 8 * (length ws + 1)) ws in
    let s = length-strings ws in
    omega (arith, a, b, p, s)
