-- Parts not all of whose bytes are held.
use Rattle.std.proofs.Common.{◌≡◌, ℕ, ◌-◌, ◌<◌, ◌≤◌, List, [], ◌++◌, length, refl, sym, ap, ◌∙◌, arith, ⊎_elim}
use Rattle.std.specs.Prelude.{slice_index, slice_set, replicate, reverse, take}
use Rattle.std.proofs.lemmas.Bool.{cases_lt, cases_eq}
use Rattle.std.proofs.Math.ListN.{get_or-append}
use Rattle.std.proofs.lemmas.List.{get_or-append_right, take_all, get_or-replicate, get_or_past, get_or-reverse, length-reverse, length-append, length-replicate}
use mathlib.Core.Path.{fun_ext}
use Rattle.lg_base.specs.Held.{from_front, from_end, turned}
use Rattle.lg_base.specs.Spaces.{number_at, with_byte, written}
use Rattle.lg_base.proofs.SpaceLemmas.{slice_index-set, with_byte_same, with_byte_other}

-- zeros after a list change none of its numbers, since past its end they are read as 0
pub zeros_after : (xs : List ℕ) (n : ℕ) → slice_index (xs ++ replicate n 0) ≡ slice_index xs
zeros_after xs n = fun_ext (λ i. ⊎_elim
    (λ lt. get_or-append xs (replicate n 0) 0 i lt)
    (λ ge. get_or-append_right xs (replicate n 0) (length xs) i 0 refl ge ∙ zero (i - length xs) ∙ sym (get_or_past xs i 0 ge))
    (cases_lt i (length xs)))
  where
    zero : (k : ℕ) → slice_index (replicate n 0) k ≡ 0
    zero k = ⊎_elim
        (λ lt. get_or-replicate n k 0 0 lt)
        (λ ge. let zero : ℕ = 0 in let long : length (replicate n zero) ≡ n = length-replicate n zero in get_or_past (replicate n 0) k 0 (omega (arith, long, ge)))
        (cases_lt k n)

-- zeros after a list up to a size
filled_length : (size : ℕ) (xs : List ℕ) → length xs ≤ size → length (xs ++ replicate (size - length xs) 0) ≡ size
filled_length size xs fits =
    let zero : ℕ = 0 in
    let more : length (replicate (size - length xs) zero) ≡ size - length xs = length-replicate (size - length xs) zero in
    length-append xs (replicate (size - length xs) 0) ∙ omega (arith, more, fits)

pub from_front_index : (size : ℕ) (xs : List ℕ) → slice_index (from_front size xs) ≡ slice_index xs
unfolding from_front
from_front_index size xs = zeros_after xs (size - length xs)

pub from_front_length : (size : ℕ) (xs : List ℕ) → length xs ≤ size → length (from_front size xs) ≡ size
unfolding from_front
from_front_length size xs fits = filled_length size xs fits

pub from_end_length : (size : ℕ) (xs : List ℕ) → length xs ≤ size → length (from_end size xs) ≡ size
unfolding from_end
from_end_length size xs fits = length-reverse (xs ++ replicate (size - length xs) 0) ∙ filled_length size xs fits

pub from_end_index : (size : ℕ) (xs : List ℕ) → length xs ≤ size → slice_index (from_end size xs) ≡ turned size (slice_index xs)
unfolding from_end
from_end_index size xs fits = fun_ext (λ i. ⊎_elim (λ lt. inside i lt) (λ ge. past i ge) (cases_lt i size))
  where
    all : List ℕ
    all = xs ++ replicate (size - length xs) 0

    long : length all ≡ size
    long = filled_length size xs fits

    inside : (i : ℕ) → i < size → slice_index (reverse all) i ≡ turned size (slice_index xs) i
    inside i lt =
        let there : turned size (slice_index xs) i ≡ slice_index xs (size - 1 - i) = grind (arith, lt) in
        get_or-reverse all i 0 (omega (arith, long, lt)) ∙ ap (λ n. slice_index all (n - 1 - i)) long ∙ ap (λ f. f (size - 1 - i)) (zeros_after xs (size - length xs)) ∙ sym there

    past : (i : ℕ) → size ≤ i → slice_index (reverse all) i ≡ turned size (slice_index xs) i
    past i ge =
        let there : turned size (slice_index xs) i ≡ 0 = grind (arith, ge) in
        get_or_past (reverse all) i 0 (omega (arith, length-reverse all, long, ge)) ∙ sym there

pub turned-at : (size : ℕ) (f : ℕ → ℕ) (i : ℕ) → i < size → turned size f i ≡ f (size - 1 - i)
turned-at size f i lt = grind (arith, lt)

-- a byte that is set among those held is set in the part
pub turned-set : (size : ℕ) (xs : List ℕ) (at v : ℕ) → at < size → size - 1 - at < length xs → turned size (slice_index (slice_set xs (size - 1 - at) v)) ≡ with_byte (turned size (slice_index xs)) at v
turned-set size xs at v below held = fun_ext (λ i. ⊎_elim (λ lt. inside i lt) (λ ge. past i ge) (cases_lt i size))
  where
    set : slice_index (slice_set xs (size - 1 - at) v) ≡ with_byte (slice_index xs) (size - 1 - at) v
    set = slice_index-set xs (size - 1 - at) v held

    new : (i : ℕ) → turned size (slice_index (slice_set xs (size - 1 - at) v)) i ≡ turned size (with_byte (slice_index xs) (size - 1 - at) v) i
    new i = ap (λ f. turned size f i) set

    here : (f : ℕ → ℕ) (i : ℕ) → i < size → turned size f i ≡ f (size - 1 - i)
    here f i lt = grind (arith, lt)

    away : (f : ℕ → ℕ) (i : ℕ) → size ≤ i → turned size f i ≡ 0
    away f i ge = grind (arith, ge)

    inside : (i : ℕ) → i < size → turned size (slice_index (slice_set xs (size - 1 - at) v)) i ≡ with_byte (turned size (slice_index xs)) at v i
    inside i lt = new i ∙ here (with_byte (slice_index xs) (size - 1 - at) v) i lt ∙ ⊎_elim
        (λ e. with_byte_same (slice_index xs) (size - 1 - at) v (size - 1 - i) (omega (arith, e)) ∙ sym (with_byte_same (turned size (slice_index xs)) at v i e))
        (λ ne. with_byte_other (slice_index xs) (size - 1 - at) v (size - 1 - i) (λ e. ne (omega (arith, e, lt, below))) ∙ sym (here (slice_index xs) i lt) ∙ sym (with_byte_other (turned size (slice_index xs)) at v i ne))
        (cases_eq i at)

    past : (i : ℕ) → size ≤ i → turned size (slice_index (slice_set xs (size - 1 - at) v)) i ≡ with_byte (turned size (slice_index xs)) at v i
    past i ge = new i ∙ away (with_byte (slice_index xs) (size - 1 - at) v) i ge ∙ sym (away (slice_index xs) i ge) ∙ sym (with_byte_other (turned size (slice_index xs)) at v i (λ e. omega (arith, e, ge, below)))

-- bytes stay bytes
pub turned-small : (size : ℕ) (f : ℕ → ℕ) → ((j : ℕ) → f j < 256) → (j : ℕ) → turned size f j < 256
turned-small size f small j = ⊎_elim (λ lt. grind (arith, lt, small (size - 1 - j))) (λ ge. grind (arith, ge)) (cases_lt j size)

-- a list that was cut to no less than its length, with zeros after it
pub grown_index : (xs ys : List ℕ) (n : ℕ) → length xs ≤ n → ys ≡ take n xs ++ replicate (n - length xs) 0 → slice_index ys ≡ slice_index xs
grown_index xs ys n fits is = ap slice_index is ∙ ap (λ zs. slice_index (zs ++ replicate (n - length xs) 0)) (take_all n xs fits) ∙ zeros_after xs (n - length xs)

pub empty_zero : (xs : List ℕ) → xs ≡ [] → slice_index xs ≡ (λ _. 0)
empty_zero xs none = fun_ext (λ i. get_or_past xs i 0 (omega (arith, ap length none)))

-- ---- the heap: what is read of the bytes that are held is read of all, and what is written to them is written to all
pub front_empty : (size : ℕ) (xs : List ℕ) → xs ≡ [] → slice_index (from_front size xs) ≡ (λ _. 0)
front_empty size xs none = from_front_index size xs ∙ empty_zero xs none

pub front_read : (size : ℕ) (held read : List ℕ) (at w n : ℕ) → read ≡ held → n ≡ number_at (slice_index read) at w → n ≡ number_at (slice_index (from_front size held)) at w
front_read size held read at w n same is = is ∙ ap (λ xs. number_at (slice_index xs) at w) same ∙ ap (λ f. number_at f at w) (sym (from_front_index size held))

pub front_written : (size : ℕ) (held reached lent new kept : List ℕ) (at w v : ℕ) → slice_index reached ≡ slice_index held → lent ≡ reached → slice_index new ≡ written (slice_index lent) at w v → kept ≡ new
    → slice_index (from_front size kept) ≡ written (slice_index (from_front size held)) at w v
front_written size held reached lent new kept at w v same is write all =
    from_front_index size kept ∙ ap slice_index all ∙ write ∙ ap (λ xs. written (slice_index xs) at w v) is
    ∙ ap (λ f. written f at w v) (same ∙ sym (from_front_index size held))

-- ---- the same for the stack
pub end_empty : (size : ℕ) (xs : List ℕ) → xs ≡ [] → slice_index (from_end size xs) ≡ (λ _. 0)
end_empty size xs none = from_end_index size xs (omega (arith, ap length none)) ∙ fun_ext (λ i. ⊎_elim
    (λ lt. turned-at size (slice_index xs) i lt ∙ ap (λ f. f (size - 1 - i)) (empty_zero xs none))
    (λ ge. grind (arith, ge))
    (cases_lt i size))

pub end_read : (size : ℕ) (held read : List ℕ) (at w n : ℕ) → length held ≤ size → read ≡ held → n ≡ number_at (turned size (slice_index read)) at w → n ≡ number_at (slice_index (from_end size held)) at w
end_read size held read at w n fits same is = is ∙ ap (λ xs. number_at (turned size (slice_index xs)) at w) same ∙ ap (λ f. number_at f at w) (sym (from_end_index size held fits))

pub end_written : (size : ℕ) (held reached lent new kept : List ℕ) (at w v : ℕ) → length held ≤ size → length kept ≤ size → slice_index reached ≡ slice_index held → lent ≡ reached
    → turned size (slice_index new) ≡ written (turned size (slice_index lent)) at w v → kept ≡ new → slice_index (from_end size kept) ≡ written (slice_index (from_end size held)) at w v
end_written size held reached lent new kept at w v fits fits' same is write all =
    from_end_index size kept fits' ∙ ap (λ xs. turned size (slice_index xs)) all ∙ write ∙ ap (λ xs. written (turned size (slice_index xs)) at w v) is
    ∙ ap (λ f. written (turned size f) at w v) same ∙ ap (λ f. written f at w v) (sym (from_end_index size held fits))

-- the bytes that are held stay no more than there are
pub kept_fits : (size : ℕ) (reached lent new kept : List ℕ) → length reached ≤ size → lent ≡ reached → length new ≡ length lent → kept ≡ new → length kept ≤ size
kept_fits size reached lent new kept fits is long all = omega (arith, ap length all, long, ap length is, fits)
