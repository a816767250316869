-- Parts whose ranges follow one another.
use Rattle.std.proofs.Common.{◌≡◌, ℕ, zero, suc, ◌+◌, ◌-◌, ◌<◌, ◌≤◌, List, [], ◌∷◌, ◌++◌, length, take, drop, get_or, map, set, refl, sym, ap, ap₂, ◌∙◌, arith, sum_by, length-append, length-drop, length-take}
use Rattle.std.proofs.lemmas.List.{get_or-drop, get_or_default, drop-drop, drop-take, take-take, take-append-drop, length-take-le, map-append}
use Rattle.std.proofs.lemmas.List.Edits.{map_over_more}
use Rattle.std.proofs.Math.Seq.{drop-append-add}
use Rattle.std.proofs.lemmas.List.Sums.{sum_by-cons}
use Rattle.std.proofs.lemmas.List.Elements.{All-head, All-tail, All-cons}
use Rattle.std.specs.List.{All, take-map, drop-map}
use Rattle.lg_macro.specs.declared.pieces.Part.{Part}
use Rattle.lg_macro.specs.Pieces.{Piece, between}
use Rattle.lg_macro.specs.PieceParts.{piece_of, LiesIn, AreParts, moved, width, IsBetween}
use Rattle.lg_macro.proofs.PieceLemmas.{same_pieces, still_inside}

-- each begins where the one before it ends
abbrev IsRow : ℕ → List Part → ℕ → Type 0
IsRow from [] end = from ≡ end
IsRow from (p ∷ parts) end = (p.start ≡ from) × (from ≤ p.end) × IsRow p.end parts end

same_first : (a b : ℕ) (xs ys : List ℕ) → a ∷ xs ≡ b ∷ ys → a ≡ b
same_first a b xs ys e = ap (λ l. get_or l 0 0) e

same_rest : (a b : ℕ) (xs ys : List ℕ) → a ∷ xs ≡ b ∷ ys → xs ≡ ys
same_rest a b xs ys e = ap (λ l. drop 1 l) e

row_of : (from end : ℕ) (bytes : List ℕ) (parts : List Part) → All (LiesIn bytes) parts → map (λ (p : Part). p.start) parts ++ end ∷ [] ≡ from ∷ map (λ (p : Part). p.end) parts → IsRow from parts end
row_of from end bytes [] all e = sym (same_first end from [] [] e)
row_of from end bytes (p ∷ parts) all e =
    let starts : List ℕ = map (λ (q : Part). q.start) parts in
    let ends : List ℕ = map (λ (q : Part). q.end) parts in
    let here = same_first p.start from (starts ++ end ∷ []) (p.end ∷ ends) e in
    let lies = All-head (LiesIn bytes) p parts all in
    (here, omega (arith, here, lies.0), row_of p.end end bytes parts (All-tail (LiesIn bytes) p parts all) (same_rest p.start from (starts ++ end ∷ []) (p.end ∷ ends) e))

row_le : (from end : ℕ) (parts : List Part) → IsRow from parts end → from ≤ end
row_le from end [] row = omega (arith, row)
row_le from end (p ∷ parts) row = let more = row_le p.end end parts row.2 in omega (arith, row.1, more)

row_is : (from end : ℕ) (parts : List Part) → IsRow from parts end → map (λ (p : Part). p.start) parts ++ end ∷ [] ≡ from ∷ map (λ (p : Part). p.end) parts
row_is from end [] row = ap (λ (n : ℕ). n ∷ []) (sym row)
row_is from end (p ∷ parts) row = ap₂ (λ (n : ℕ) (l : List ℕ). n ∷ l) row.0 (row_is p.end end parts row.2)

row_lies : (bytes : List ℕ) (from end : ℕ) (parts : List Part) → IsRow from parts end → end ≤ length bytes → All (LiesIn bytes) parts
row_lies bytes from end [] row h = λ k d lt. absurd (omega (arith, lt))
row_lies bytes from end (p ∷ parts) row h =
    let more = row_le p.end end parts row.2 in
    All-cons (LiesIn bytes) p parts (omega (arith, row.0, row.1), omega (arith, more, h)) (row_lies bytes p.end end parts row.2 h)

row_between : (low from end high : ℕ) (parts : List Part) → IsRow from parts end → low ≤ from → end ≤ high → All (IsBetween low high) parts
row_between low from end high [] row l h = λ k d lt. absurd (omega (arith, lt))
row_between low from end high (p ∷ parts) row l h =
    let more = row_le p.end end parts row.2 in
    All-cons (IsBetween low high) p parts (omega (arith, row.0, l), omega (arith, row.0, row.1, more, h), omega (arith, row.1, l), omega (arith, more, h))
    (row_between low p.end end high parts row.2 (omega (arith, row.1, l)) h)

row_sum : (from end : ℕ) (parts : List Part) → IsRow from parts end → from + sum_by width parts ≡ end
row_sum from end [] row = omega (arith, row)
row_sum from end (p ∷ parts) row =
    let more = row_sum p.end end parts row.2 in omega (arith, sum_by-cons width p parts, more, row.0, row.1)

row_append : (from middle end : ℕ) (xs ys : List Part) → IsRow from xs middle → IsRow middle ys end → IsRow from (xs ++ ys) end
row_append from middle end [] ys row more = rw row more
row_append from middle end (x ∷ xs) ys row more = (row.0, row.1, row_append x.end middle end xs ys row.2 more)

row_drop : (k from end : ℕ) (parts : List Part) (d : Part) → k < length parts → IsRow from parts end → IsRow (get_or parts k d).start (drop k parts) end
row_drop k from end [] d h row = absurd (omega (arith, h))
row_drop zero from end (p ∷ parts) d h row = (refl, omega (arith, row.0, row.1), row.2)
row_drop (suc k) from end (p ∷ parts) d h row = row_drop k p.end end parts d (omega (arith, h)) row.2

row_take : (k from end : ℕ) (parts : List Part) (d : Part) → k < length parts → IsRow from parts end → IsRow from (take (suc k) parts) (get_or parts k d).end
row_take k from end [] d h row = absurd (omega (arith, h))
row_take zero from end (p ∷ parts) d h row = (row.0, row.1, refl)
row_take (suc k) from end (p ∷ parts) d h row = (row.0, row.1, row_take k p.end end parts d (omega (arith, h)) row.2)

-- those between two places of a row are one
row_within : (from end last size : ℕ) (parts : List Part) (first_part last_part : Part) → IsRow 0 parts size → from < end → end ≤ length parts → last ≡ end - 1
    → first_part ≡ get_or parts from first_part → last_part ≡ get_or parts last last_part → IsRow first_part.start (take (end - from) (drop from parts)) last_part.end
row_within from end last size parts x y row lt inside is first there =
    let more : last - from < length (drop from parts) = rw length-drop (omega (arith, lt, inside, is)) in
    let n : end - from ≡ suc (last - from) = omega (arith, lt, is) in
    let at : from + (last - from) ≡ last = omega (arith, lt, is) in
    let one = row_take (last - from) (get_or parts from x).start size (drop from parts) y more (row_drop from 0 size parts x (omega (arith, lt, inside)) row) in
    let two : get_or (drop from parts) (last - from) y ≡ y = get_or-drop from parts (last - from) y ∙ ap (λ k. get_or parts k y) at ∙ sym there in
    rw n (rw (ap (λ (p : Part). p.start) first) (rw (ap (λ (p : Part). p.end) (sym two)) one))

moved_row : (low base from end : ℕ) (parts : List Part) → low ≤ from → IsRow from parts end → IsRow (from - low + base) (map (moved low base) parts) (end - low + base)
moved_row low base from end [] l row = ap (λ n. n - low + base) row
moved_row low base from end (p ∷ parts) l row =
    (ap (λ n. n - low + base) row.0, omega (arith, l, row.1), moved_row low base p.end end parts (omega (arith, l, row.1)) row.2)

text_moved : (low high base start end : ℕ) (bytes other : List ℕ) → base ≡ length bytes → low ≤ start → start ≤ end → end ≤ high → high ≤ length other
    → take ((end - low + base) - (start - low + base)) (drop (start - low + base) (bytes ++ take (high - low) (drop low other))) ≡ take (end - start) (drop start other)
text_moved low high base start end bytes other is l o h inside =
    let at : start - low + base ≡ length bytes + (start - low) = omega (arith, is) in
    let n : (end - low + base) - (length bytes + (start - low)) ≡ end - start = omega (arith, is, l, o) in
    let m : high - low ≡ (start - low) + (high - start) = omega (arith, l, o, h) in
    let s : low + (start - low) ≡ start = omega (arith, l) in
    let cut : drop (start - low) (take (high - low) (drop low other)) ≡ take (high - start) (drop start other) =
    ap (λ k. drop (start - low) (take k (drop low other))) m ∙ drop-take (start - low) (high - start) (drop low other)
    ∙ ap (take (high - start)) (drop-drop (start - low) low other ∙ ap (λ k. drop k other) s) in
    rw (at, n, drop-append-add bytes (take (high - low) (drop low other)) (start - low), cut) (take-take (end - start) (high - start) (drop start other) (omega (arith, h)))

moved_pieces : (low high base from end : ℕ) (bytes other : List ℕ) (parts : List Part) → base ≡ length bytes → low ≤ from → end ≤ high → high ≤ length other → IsRow from parts end
    → map (piece_of (bytes ++ take (high - low) (drop low other))) (map (moved low base) parts) ≡ map (piece_of other) parts
moved_pieces low high base from end bytes other [] is l h inside row = refl
moved_pieces low high base from end bytes other (p ∷ parts) is l h inside row =
    let more = row_le p.end end parts row.2 in
    ap₂ (λ (q : Piece) (qs : List Piece). q ∷ qs)
    (ap (λ (t : List ℕ). record { kind = p.kind; text = t; line = p.line; frozen = p.frozen })
    (text_moved low high base p.start p.end bytes other is (omega (arith, row.0, l)) (omega (arith, row.0, row.1)) (omega (arith, more, h)) inside))
    (moved_pieces low high base p.end end bytes other parts is (omega (arith, row.1, l)) h inside row.2)

-- ---- parts that are added

-- one more part
pub pushed_at : (bytes : List ℕ) (at next : ℕ) (parts after : List Part) (part : Part) → AreParts bytes at parts → after ≡ parts ++ part ∷ [] → part.start ≡ at → part.end ≡ next
    → at ≤ next → next ≤ length bytes → AreParts bytes next after
pushed_at bytes at next parts after part are grown start end order inside =
    let row = row_append 0 at next parts (part ∷ []) (row_of 0 at bytes parts are.0 are.1) (start, omega (arith, end, order), end) in
    rw grown (row_lies bytes 0 next (parts ++ part ∷ []) row inside, row_is 0 next (parts ++ part ∷ []) row)

-- one more part, whose bytes are after all others
pub pushed_parts : (bytes text new : List ℕ) (parts after : List Part) (part : Part) → AreParts bytes (length bytes) parts → new ≡ bytes ++ text → after ≡ parts ++ part ∷ []
    → part.start ≡ length bytes → part.end ≡ length new → AreParts new (length new) after
pushed_parts bytes text new parts after part are more grown start end =
    let size = ap length more ∙ length-append bytes text in
    pushed_at new (length bytes) (length new) parts after part (rw more (still_inside bytes text parts are.0), are.1) grown start end (omega (arith, size)) (omega arith)

-- all bytes are those of parts
pub widths_are : (bytes : List ℕ) (parts : List Part) → AreParts bytes (length bytes) parts → sum_by width parts ≡ length bytes
widths_are bytes parts are = omega (arith, row_sum 0 (length bytes) parts (row_of 0 (length bytes) bytes parts are.0 are.1))

-- the parts between two places, from the first byte of the first to the last of the last
pub record Inner (other : List ℕ) (others : List Part) (from end : ℕ) (x y : Part) : Type 0 where
  pub row : IsRow x.start (take (end - from) (drop from others)) y.end
  pub order : x.start ≤ y.end
  pub inside : y.end ≤ length other
  pub between : All (IsBetween x.start y.end) (take (end - from) (drop from others))

pub inner : (other : List ℕ) (others : List Part) (from end : ℕ) (x y : Part) → AreParts other (length other) others → from < end → end ≤ length others
    → x ≡ get_or others from x → y ≡ get_or others (end - 1) y → Inner other others from end x y
inner other others from end x y are lt inside first last =
    let row = row_within from end (end - 1) (length other) others x y (row_of 0 (length other) other others are.0 are.1) lt inside refl first last in
    let lies = are.0 (end - 1) y (omega (arith, lt, inside)) in
    record {
      row = row;
      order = row_le x.start y.end (take (end - from) (drop from others)) row;
      inside = omega (arith, ap (λ (p : Part). p.end) last, lies.1);
      between = row_between x.start x.start y.end y.end (take (end - from) (drop from others)) row (omega arith) (omega arith);
    }

-- those of others added to parts
pub record Added (bytes new : List ℕ) (parts after : List Part) (other : List ℕ) (others : List Part) (from end : ℕ) : Type 0 where
  pub pieces : map (piece_of new) after ≡ map (piece_of bytes) parts ++ between from end (map (piece_of other) others)
  pub are : AreParts new (length new) after

pub added : (bytes text new other : List ℕ) (parts after others : List Part) (from end : ℕ) (x y : Part) → AreParts bytes (length bytes) parts
    → Inner other others from end x y → text ≡ take (y.end - x.start) (drop x.start other) → new ≡ bytes ++ text
    → after ≡ parts ++ map (moved x.start (length bytes)) (take (end - from) (drop from others)) → Added bytes new parts after other others from end
added bytes text new other parts after others from end x y a i cut more grown =
    let sub : List Part = take (end - from) (drop from others) in
    let base : ℕ = length bytes in
    let size : length new ≡ y.end - x.start + base = ap length more ∙ length-append bytes text
    ∙ omega (arith, ap length cut, length-take (y.end - x.start) (drop x.start other), length-drop x.start other, i.order, i.inside) in
    let zero_is : x.start - x.start + base ≡ base = omega arith in
    let m : IsRow (x.start - x.start + base) (map (moved x.start base) sub) (y.end - x.start + base) = moved_row x.start base x.start y.end sub (omega arith) i.row in
    let there : IsRow base (map (moved x.start base) sub) (length new) = rw size (rw zero_is at m) in
    let row = row_append 0 base (length new) parts (map (moved x.start base) sub) (row_of 0 base bytes parts a.0 a.1) there in
    let joined : map (piece_of new) (map (moved x.start base) sub) ≡ map (piece_of other) sub =
    ap (λ t. map (piece_of t) (map (moved x.start base) sub)) (more ∙ ap (λ t. bytes ++ t) cut)
    ∙ moved_pieces x.start y.end base x.start y.end bytes other sub refl (omega arith) (omega arith) i.inside i.row in
    record {
      pieces = ap (map (piece_of new)) grown ∙ map-append (piece_of new) parts (map (moved x.start base) sub)
          ∙ ap₂ (λ (a b : List Piece). a ++ b) (ap (λ t. map (piece_of t) parts) more ∙ same_pieces bytes text parts a.0)
          (joined ∙ sym (take-map (piece_of other) (end - from) (drop from others)) ∙ ap (take (end - from)) (sym (drop-map (piece_of other) from others)));
      are = rw grown (row_lies new 0 (length new) (parts ++ map (moved x.start base) sub) row (omega arith), row_is 0 (length new) (parts ++ map (moved x.start base) sub) row);
    }

-- those between two places alone, their bytes at the front
pub cut_to : (new other : List ℕ) (after others : List Part) (from end : ℕ) (x y : Part) → Inner other others from end x y → new ≡ take (y.end - x.start) (drop x.start other)
    → after ≡ map (moved x.start 0) (take (end - from) (drop from others)) → Added [] new [] after other others from end
cut_to new other after others from end x y i cut is =
    added [] new new other [] after others from end x y ((λ k d lt. absurd (omega (arith, lt))), refl) i cut refl is

-- one part more is moved to the front
pub moved_one : (from i : ℕ) (old parts : List Part) (d one : Part) → i < length old → length parts ≡ length old → parts ≡ map (moved from 0) (take i old) ++ drop i old
    → one ≡ moved from 0 (get_or parts i d) → set parts i one ≡ map (moved from 0) (take (i + 1) old) ++ drop (i + 1) old
moved_one from i old parts d one lt len is e =
    let here : i < length parts = omega (arith, lt, len) in
    ap (set parts i) e ∙ map_over_more (moved from 0) old parts i (get_or parts i d) lt is (get_or_default parts i d (get_or parts i d) here)

unmoved : (p : Part) → p ≡ moved 0 0 p
unmoved p =
    let start : p.start ≡ p.start - 0 + 0 = omega arith in
    let end : p.end ≡ p.end - 0 + 0 = omega arith in
    ap₂ (λ (a b : ℕ). record { kind = p.kind; frozen = p.frozen; line = p.line; start = a; end = b }) start end

-- parts that are at the front are not moved
pub all_unmoved : (from : ℕ) (parts : List Part) → from ≡ 0 → parts ≡ map (moved from 0) parts
all_unmoved from [] none = refl
all_unmoved from (p ∷ parts) none =
    let one : p ≡ moved from 0 p = rw none (unmoved p) in
    ap₂ (λ (q : Part) (qs : List Part). q ∷ qs) one (all_unmoved from parts none)

-- parts up to a place are the same in the bytes up to it
pub parts_cut : (bytes front : List ℕ) (at : ℕ) (parts : List Part) → AreParts bytes at parts → at ≤ length bytes → front ≡ take at bytes
    → AreParts front (length front) parts × (map (piece_of front) parts ≡ map (piece_of bytes) parts)
parts_cut bytes front at parts are inside is =
    let row = row_of 0 at bytes parts are.0 are.1 in
    let size : length front ≡ at = ap length is ∙ length-take-le at bytes inside in
    let lies : All (LiesIn front) parts = row_lies front 0 at parts row (omega (arith, size)) in (
      (lies, ap (λ (n : ℕ). map (λ (p : Part). p.start) parts ++ n ∷ []) size ∙ are.1),
      sym (same_pieces front (drop at bytes) parts lies) ∙ ap (λ (t : List ℕ). map (piece_of t) parts) (ap (λ (t : List ℕ). t ++ drop at bytes) is ∙ take-append-drop at bytes),
    )
