-- Pieces as they are held.
use Rattle.std.proofs.Common.{◌≡◌, ℕ, ◌+◌, ◌-◌, ◌<◌, ◌≤◌, List, [], ◌∷◌, ◌++◌, length, take, drop, get_or, map, refl, sym, ap, ap₂, ◌∙◌, arith, sum_by, length-append, length-drop, length-take}
use lib.Seq.{paste}
use Rattle.std.proofs.lemmas.List.{get_or-map, length-map, take-append-le, drop-append-le, take_all, map_push}
use Rattle.std.proofs.lemmas.List.Edits.{take-paste}
use Rattle.std.proofs.Math.Seq.{drop-append_seam}
use Rattle.std.proofs.lemmas.List.Sums.{sum_by-cons, sum_by_push}
use Rattle.std.proofs.lemmas.List.Elements.{All-head, All-tail, All-push}
use Rattle.std.specs.List.{All}
use Rattle.lg_macro.specs.declared.pieces.Part.{Part}
use Rattle.lg_macro.specs.Pieces.{Piece, no_piece, piece_at, text_length}
use Rattle.lg_macro.specs.PieceParts.{piece_of, LiesIn, width}

pub held : (bytes : List ℕ) (parts : List Part) (pieces : List Piece) (k : ℕ) (part : Part) → map (piece_of bytes) parts ≡ pieces → k < length pieces → part ≡ get_or parts k part → piece_at pieces k ≡ piece_of bytes part
held bytes parts pieces k part e inside is = let h : k < length parts = omega (arith, ap length e, length-map parts (piece_of bytes)) in rw (← e) (get_or-map (piece_of bytes) parts k part no_piece h ∙ sym (ap (piece_of bytes) is))

within : (bytes more : List ℕ) (a b : ℕ) → a ≤ b → b ≤ length bytes → take (b - a) (drop a (bytes ++ more)) ≡ take (b - a) (drop a bytes)
within bytes more a b le h =
    let start : a ≤ length bytes = omega arith in
    let room : b - a ≤ length (drop a bytes) = rw length-drop (omega arith) in
    rw (drop-append-le a bytes more, take-append-le (b - a) (drop a bytes) more) refl

same_piece : (bytes more : List ℕ) (p : Part) → LiesIn bytes p → piece_of (bytes ++ more) p ≡ piece_of bytes p
same_piece bytes more p h = ap (λ (t : List ℕ). record { kind = p.kind; text = t; line = p.line; frozen = p.frozen }) (within bytes more p.start p.end h.0 h.1)

-- pieces mean the same with more bytes after
pub same_pieces : (bytes more : List ℕ) (parts : List Part) → All (LiesIn bytes) parts → map (piece_of (bytes ++ more)) parts ≡ map (piece_of bytes) parts
same_pieces bytes more [] h = refl
same_pieces bytes more (p ∷ parts) h =
    rw (same_piece bytes more p (All-head (LiesIn bytes) p parts h)) (ap (λ (ps : List Piece). piece_of bytes p ∷ ps) (same_pieces bytes more parts (All-tail (LiesIn bytes) p parts h)))

further : (bytes more : List ℕ) (p : Part) → LiesIn bytes p → LiesIn (bytes ++ more) p
further bytes more p h = (h.0, omega (arith, length-append bytes more, h.1))

pub still_inside : (bytes more : List ℕ) (parts : List Part) → All (LiesIn bytes) parts → All (LiesIn (bytes ++ more)) parts
still_inside bytes more parts h = λ k d lt. further bytes more (get_or parts k d) (h k d lt)

behind : (bytes text : List ℕ) → take (length (bytes ++ text) - length bytes) (drop (length bytes) (bytes ++ text)) ≡ text
behind bytes text = rw (drop-append_seam bytes text, length-append bytes text) (let e : length bytes + length text - length bytes ≡ length text = omega arith in rw e (take_all (length text) text (omega arith)))

-- one more piece, whose text lies after all others
pub pushed : (bytes text new : List ℕ) (parts after : List Part) (pieces : List Piece) (part : Part) → All (LiesIn bytes) parts → map (piece_of bytes) parts ≡ pieces → new ≡ bytes ++ text → after ≡ parts ++ part ∷ [] → part.start ≡ length bytes → part.end ≡ length new → map (piece_of new) after ≡ pieces ++ record { kind = part.kind; text = text; line = part.line; frozen = part.frozen } ∷ []
pushed bytes text new parts after pieces part all is more grown start end =
    rw (more, grown, map_push (piece_of (bytes ++ text)) parts part, same_pieces bytes text parts all, is, start, end, more)
    (ap (λ (t : List ℕ). pieces ++ record { kind = part.kind; text = t; line = part.line; frozen = part.frozen } ∷ []) (behind bytes text))

pub all_pushed : (bytes text new : List ℕ) (parts after : List Part) (part : Part) → All (LiesIn bytes) parts → new ≡ bytes ++ text → after ≡ parts ++ part ∷ [] → part.start ≡ length bytes → part.end ≡ length new → All (LiesIn new) after
all_pushed bytes text new parts after part all more grown start end =
    rw (more, grown) (All-push (LiesIn (bytes ++ text)) parts part (still_inside bytes text parts all)
    (omega (arith, ap length more, length-append bytes text), omega (arith, ap length more)))

part_length : (bytes : List ℕ) (p : Part) → LiesIn bytes p → length (piece_of bytes p).text ≡ width p
part_length bytes p h = omega (arith, length-take (p.end - p.start) (drop p.start bytes), length-drop p.start bytes, h.0, h.1)

widths : (bytes : List ℕ) (parts : List Part) → All (LiesIn bytes) parts → sum_by text_length (map (piece_of bytes) parts) ≡ sum_by width parts
widths bytes [] h = refl
widths bytes (p ∷ parts) h =
    let one = part_length bytes p (All-head (LiesIn bytes) p parts h) in
    let rest = widths bytes parts (All-tail (LiesIn bytes) p parts h) in
    sum_by-cons text_length (piece_of bytes p) (map (piece_of bytes) parts) ∙ ap₂ (λ (a b : ℕ). a + b) one rest ∙ sym (sum_by-cons width p parts)

-- the bytes of all pieces are all that are held
pub bytes_of_pieces : (bytes : List ℕ) (parts : List Part) (pieces : List Piece) → map (piece_of bytes) parts ≡ pieces → All (LiesIn bytes) parts → sum_by width parts ≡ length bytes → sum_by text_length pieces ≡ length bytes
bytes_of_pieces bytes parts pieces is all whole = rw (← is) (widths bytes parts all ∙ whole)

pub width_pushed : (bytes text new : List ℕ) (parts after : List Part) (part : Part) → sum_by width parts ≡ length bytes → new ≡ bytes ++ text → after ≡ parts ++ part ∷ [] → part.start ≡ length bytes → part.end ≡ length new → sum_by width after ≡ length new
width_pushed bytes text new parts after part all more grown start end =
    ap (sum_by width) grown ∙ sum_by_push width parts part ∙ omega (arith, all, ap length more, length-append bytes text, start, end)

-- items copied to the front, and as many kept
pub copied_front : {X : Type 0} (n len : ℕ) (all copied kept : List X) → n ≤ len → length all ≡ len → copied ≡ paste all 0 (drop n all) (len - n) → kept ≡ take (len - n) copied → kept ≡ drop n all
copied_front n len all copied kept h is more e =
    let rest : length (drop n all) ≡ len - n = omega (arith, length-drop n all, is) in
    let same : len - n ≡ 0 + (len - n) = omega arith in
    e ∙ ap (take (len - n)) more ∙ ap (λ k. take k (paste all 0 (drop n all) (len - n))) same ∙ take-paste all 0 (drop n all) (len - n) (omega (arith, is)) (omega (arith, rest)) ∙ take_all (len - n) (drop n all) (omega (arith, rest))
