-- The pieces of a text, and its lines.
use Rattle.std.proofs.Common.{◌≡◌, ℕ, zero, suc, ◌+◌, ◌-◌, ◌<◌, ◌≤◌, max, Bool, true, false, not, ◌&&◌, List, [], ◌∷◌, ◌++◌, length, take, drop, refl, ap, arith, append_assoc, append-nil, length-drop, ◌∙◌, Some, None}
use Rattle.std.proofs.lemmas.List.{drop_all, drop-drop}
use Rattle.lg_macro.specs.Pieces.{Piece, piece_at, is_byte, is_feed}
use Rattle.lg_lex.specs.Bytes.{further}
use Rattle.lg_macro.specs.Cutting.{front_of}
use Rattle.lg_macro.specs.Text.{is_margin, is_number, is_comment, feeds_of, text_pieces, pieces_on, line_len, ends_with_slash, marks_line, begins_directive, mark_in}
use Rattle.lg_macro.specs.declared.pieces.PieceKind.{PieceKind}
use Rattle.lg_macro.proofs.CallLemmas.{drop_piece, further_more}

-- ---- pieces with their lines

abbrev piece_in : ℕ → PieceKind × ℕ → List ℕ → Piece
piece_in line front rest = record { kind = front.0; text = take front.1 rest; line = line; frozen = false }

text_on : (k line : ℕ) (rest : List ℕ) → 0 < k → 0 < length rest → 0 < (front_of rest).1 → text_pieces k line rest ≡ piece_in line (front_of rest) rest ∷ text_pieces (k - 1) (line + feeds_of (take (front_of rest).1 rest)) (drop (front_of rest).1 rest)
unfolding text_pieces
text_on zero line rest h some one = absurd (omega (arith, h))
text_on (suc k) line [] h some one = absurd (omega (arith, some))
text_on (suc k) line (b ∷ rest) h some one =
    let e : suc k - 1 ≡ k = omega arith in let m : max 1 (front_of (b ∷ rest)).1 ≡ (front_of (b ∷ rest)).1 = omega (arith, one) in
    rw (e, m) refl

pub text_more : (k line next at : ℕ) (bytes rest text : List ℕ) (front : PieceKind × ℕ) (out new : List Piece) → at < length bytes → length bytes ≤ at + k → rest ≡ drop at bytes → front ≡ front_of rest → 0 < front.1 → text ≡ take front.1 rest → new ≡ out ++ record { kind = front.0; text = text; line = line; frozen = false } ∷ [] → next ≡ line + feeds_of text → new ++ text_pieces (k - 1) next (drop (at + front.1) bytes) ≡ out ++ text_pieces k line (drop at bytes)
text_more k line next at bytes rest text front out new h room is e some is2 e2 e3 =
    let one : 0 < (front_of (drop at bytes)).1 = rw (← is, ← e) some in
    let left : 0 < length (drop at bytes) = rw length-drop (omega arith) in
    rw (text_on k line (drop at bytes) (omega arith) left one, e2, append_assoc, e3, is2, e, is, drop-drop (front_of (drop at bytes)).1 at bytes) refl

pub text_done : (k line at : ℕ) (bytes : List ℕ) (out : List Piece) → length bytes ≤ at → out ++ text_pieces k line (drop at bytes) ≡ out
unfolding text_pieces
text_done zero line at bytes out h = append-nil out
text_done (suc k) line at bytes out h = rw (drop_all at bytes h) (append-nil out)

-- as many pieces as there are bytes are all
pub text_fuel : (k j line : ℕ) (bytes : List ℕ) → length bytes ≤ k → length bytes ≤ j → text_pieces k line bytes ≡ text_pieces j line bytes
unfolding text_pieces
text_fuel zero zero line bytes hk hj = refl
text_fuel zero (suc j) line [] hk hj = refl
text_fuel zero (suc j) line (b ∷ rest) hk hj = absurd (omega (arith, hk))
text_fuel (suc k) zero line [] hk hj = refl
text_fuel (suc k) zero line (b ∷ rest) hk hj = absurd (omega (arith, hj))
text_fuel (suc k) (suc j) line [] hk hj = refl
text_fuel (suc k) (suc j) line (b ∷ rest) hk hj =
    let n : ℕ = max 1 (front_of (b ∷ rest)).1 in
    let size = length-drop n (b ∷ rest) in
    let some : 1 ≤ n = omega arith in
    ap (λ (l : List Piece). record { kind = (front_of (b ∷ rest)).0; text = take n (b ∷ rest); line = line; frozen = false } ∷ l)
    (text_fuel k j (line + feeds_of (take n (b ∷ rest))) (drop n (b ∷ rest)) (omega (arith, size, some, hk)) (omega (arith, size, some, hj)))

-- the first pieces, and those of the bytes after them, are all
pub front_whole : (k line at first len next : ℕ) (bytes : List ℕ) (out pieces : List Piece) → pieces ≡ out → len ≡ at → next ≡ line → length bytes ≤ at + k → out ++ text_pieces k line (drop at bytes) ≡ pieces_on first bytes
    → pieces ++ pieces_on next (drop len bytes) ≡ pieces_on first bytes
front_whole k line at first len next bytes out pieces e1 e2 e3 room h =
    let size = length-drop at bytes in
    rw (e1, e2, e3) (ap (λ (l : List Piece). out ++ l) (text_fuel (length (drop at bytes)) k line (drop at bytes) (omega arith) (omega (arith, size, room))) ∙ h)

-- ---- the length of a line

line_end : (goes_on slash : Bool) (p : Piece) (rest : List Piece) → (is_feed p.kind && not (goes_on && slash)) ≡ true → line_len goes_on slash (p ∷ rest) ≡ 1
unfolding line_len
line_end goes_on slash p rest test = rw test refl

line_on : (goes_on slash : Bool) (p : Piece) (rest : List Piece) → (is_feed p.kind && not (goes_on && slash)) ≡ false → line_len goes_on slash (p ∷ rest) ≡ 1 + line_len goes_on (ends_with_slash p) rest
unfolding line_len
line_on goes_on slash p rest test = rw test refl

pub line_here : (goes_on slash : Bool) (pieces : List Piece) (at n : ℕ) → at < length pieces → (is_feed (piece_at pieces at).kind && not (goes_on && slash)) ≡ true → n + 1 ≡ n + line_len goes_on slash (drop at pieces)
line_here goes_on slash pieces at n h test = rw (drop_piece pieces at h, line_end goes_on slash (piece_at pieces at) (drop (at + 1) pieces) test) refl

pub line_more : (goes_on slash next : Bool) (pieces : List Piece) (from n : ℕ) → from + n < length pieces → (is_feed (piece_at pieces (from + n)).kind && not (goes_on && slash)) ≡ false → next ≡ ends_with_slash (piece_at pieces (from + n)) → n + 1 + line_len goes_on next (drop (from + (n + 1)) pieces) ≡ n + line_len goes_on slash (drop (from + n) pieces)
line_more goes_on slash next pieces from n h test is =
    let e : from + (n + 1) ≡ from + n + 1 = omega arith in
    rw (drop_piece pieces (from + n) h, line_on goes_on slash (piece_at pieces (from + n)) (drop (from + n + 1) pieces) test, e, is) (omega arith)

pub line_none : (goes_on slash : Bool) (pieces : List Piece) (at n : ℕ) → length pieces ≤ at → n ≡ n + line_len goes_on slash (drop at pieces)
unfolding line_len
line_none goes_on slash pieces at n h = rw (drop_all at pieces h) (omega arith)

-- ---- line markers

pub marks_more : (pieces : List Piece) (at : ℕ) → at < length pieces → is_byte 32 (piece_at pieces at).kind ≡ true → marks_line (drop (at + 1) pieces) ≡ marks_line (drop at pieces)
unfolding marks_line
marks_more pieces at h test = rw (drop_piece pieces at h, test) refl

pub marks_here : (pieces : List Piece) (at : ℕ) → at < length pieces → is_byte 32 (piece_at pieces at).kind ≡ false → is_number (piece_at pieces at).kind ≡ marks_line (drop at pieces)
unfolding marks_line
marks_here pieces at h test = rw (drop_piece pieces at h, test) refl

pub marks_none : (pieces : List Piece) (at : ℕ) → length pieces ≤ at → false ≡ marks_line (drop at pieces)
unfolding marks_line
marks_none pieces at h = rw (drop_all at pieces h) refl

-- ---- the # of a directive

mark_white : (fresh : Bool) (p : Piece) (rest : List Piece) → is_margin p.kind ≡ true → mark_in fresh (p ∷ rest) ≡ further 1 (mark_in (fresh && not (is_comment p.kind)) rest)
unfolding mark_in
mark_white fresh p rest white = rw white refl

mark_begun : (fresh : Bool) (p : Piece) (rest : List Piece) → is_margin p.kind ≡ false → begins_directive fresh p rest ≡ true → mark_in fresh (p ∷ rest) ≡ Some 0
unfolding mark_in
mark_begun fresh p rest white test = rw (white, test) refl

mark_not : (fresh : Bool) (p : Piece) (rest : List Piece) → is_margin p.kind ≡ false → begins_directive fresh p rest ≡ false → mark_in fresh (p ∷ rest) ≡ None
unfolding mark_in
mark_not fresh p rest white test = rw (white, test) refl

pub mark_more : (pieces : List Piece) (fresh next : Bool) (from n : ℕ) → mark_in true (drop from pieces) ≡ further n (mark_in fresh (drop (from + n) pieces)) → from + n < length pieces → is_margin (piece_at pieces (from + n)).kind ≡ true → next ≡ (fresh && not (is_comment (piece_at pieces (from + n)).kind)) → mark_in true (drop from pieces) ≡ further (n + 1) (mark_in next (drop (from + (n + 1)) pieces))
mark_more pieces fresh next from n so_far h white is =
    let e : from + (n + 1) ≡ from + n + 1 = omega arith in
    rw (so_far, drop_piece pieces (from + n) h, mark_white fresh (piece_at pieces (from + n)) (drop (from + n + 1) pieces) white, e, is) (further_more n (mark_in (fresh && not (is_comment (piece_at pieces (from + n)).kind)) (drop (from + n + 1) pieces)))

pub mark_here : (pieces : List Piece) (fresh : Bool) (from n : ℕ) → mark_in true (drop from pieces) ≡ further n (mark_in fresh (drop (from + n) pieces)) → from + n < length pieces → is_margin (piece_at pieces (from + n)).kind ≡ false → begins_directive fresh (piece_at pieces (from + n)) (drop (from + n + 1) pieces) ≡ true → Some n ≡ mark_in true (drop from pieces)
mark_here pieces fresh from n so_far h white test =
    rw (so_far, drop_piece pieces (from + n) h, mark_begun fresh (piece_at pieces (from + n)) (drop (from + n + 1) pieces) white test) (ap Some (let e : n ≡ n + 0 = omega arith in e))

pub mark_none : (pieces : List Piece) (fresh : Bool) (from n : ℕ) → mark_in true (drop from pieces) ≡ further n (mark_in fresh (drop (from + n) pieces)) → from + n < length pieces → is_margin (piece_at pieces (from + n)).kind ≡ false → begins_directive fresh (piece_at pieces (from + n)) (drop (from + n + 1) pieces) ≡ false → None ≡ mark_in true (drop from pieces)
mark_none pieces fresh from n so_far h white test =
    rw (so_far, drop_piece pieces (from + n) h, mark_not fresh (piece_at pieces (from + n)) (drop (from + n + 1) pieces) white test) refl

pub mark_end : (pieces : List Piece) (fresh : Bool) (from n : ℕ) → mark_in true (drop from pieces) ≡ further n (mark_in fresh (drop (from + n) pieces)) → length pieces ≤ from + n → None ≡ mark_in true (drop from pieces)
unfolding mark_in
mark_end pieces fresh from n so_far h = rw (so_far, drop_all (from + n) pieces h) refl
