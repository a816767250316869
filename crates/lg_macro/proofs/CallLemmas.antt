-- Calls and their arguments, piece by piece.
use Rattle.std.proofs.Common.{◌≡◌, append_assoc, ℕ, suc, ◌+◌, ◌-◌, ◌<◌, ◌≤◌, ◌==◌, ◌&&◌, Bool, true, false, if◌then◌else◌, List, [], ◌∷◌, ◌++◌, length, take, drop, refl, sym, ap, ap₂, ◌∙◌, arith, add-one, length-drop, fold, Option, Some, None}
use Rattle.std.proofs.lemmas.List.{drop_all, drop-drop, drop-take, get_or-drop, length-take-le, take_all}
use Rattle.std.proofs.Math.Seq.{drop-cons, take-suc}
use Rattle.std.specs.List.{prefix_len}
use Rattle.lg_macro.specs.Pieces.{Piece, piece_at, no_piece, is_white, is_byte, between}
use Rattle.lg_macro.specs.declared.pieces.PieceKind.{PieceKind}
use Rattle.lg_lex.specs.Bytes.{further}
use Rattle.lg_macro.specs.Arguments.{opening, closing, depth_after, in_argument, gathered, solid_by, solid_len, stripped, with_feeds, with_feed}

-- the pieces from a place on are the one there and those after it
pub drop_piece : (pieces : List Piece) (at : ℕ) → at < length pieces → drop at pieces ≡ piece_at pieces at ∷ drop (at + 1) pieces
drop_piece pieces at h = rw add-one (drop-cons pieces at no_piece h)

pub further_more : (a : ℕ) (o : Option ℕ) → further a (further 1 o) ≡ further (a + 1) o
further_more a None = refl
further_more a (Some n) = ap Some (let e : a + (1 + n) ≡ a + 1 + n = omega arith in e)

opening_white : (p : Piece) (rest : List Piece) → is_white p.kind ≡ true → opening (p ∷ rest) ≡ further 1 (opening rest)
unfolding opening
opening_white p rest white = rw white refl

opening_begun : (p : Piece) (rest : List Piece) → is_white p.kind ≡ false → is_byte 40 p.kind ≡ true → opening (p ∷ rest) ≡ Some 1
unfolding opening
opening_begun p rest white mark = rw (white, mark) refl

opening_not : (p : Piece) (rest : List Piece) → is_white p.kind ≡ false → is_byte 40 p.kind ≡ false → opening (p ∷ rest) ≡ None
unfolding opening
opening_not p rest white mark = rw (white, mark) refl

pub opening_more : (pieces : List Piece) (from n : ℕ) → opening (drop from pieces) ≡ further n (opening (drop (from + n) pieces)) → from + n < length pieces → is_white (piece_at pieces (from + n)).kind ≡ true → opening (drop from pieces) ≡ further (n + 1) (opening (drop (from + (n + 1)) pieces))
opening_more pieces from n so_far h white =
    let e : from + (n + 1) ≡ from + n + 1 = omega arith in
    rw (so_far, drop_piece pieces (from + n) h, opening_white (piece_at pieces (from + n)) (drop (from + n + 1) pieces) white, e) (further_more n (opening (drop (from + n + 1) pieces)))

pub opening_here : (pieces : List Piece) (from n : ℕ) → opening (drop from pieces) ≡ further n (opening (drop (from + n) pieces)) → from + n < length pieces → is_white (piece_at pieces (from + n)).kind ≡ false → is_byte 40 (piece_at pieces (from + n)).kind ≡ true → Some (n + 1) ≡ opening (drop from pieces)
opening_here pieces from n so_far h white mark =
    rw (so_far, drop_piece pieces (from + n) h, opening_begun (piece_at pieces (from + n)) (drop (from + n + 1) pieces) white mark) refl

pub opening_none : (pieces : List Piece) (from n : ℕ) → opening (drop from pieces) ≡ further n (opening (drop (from + n) pieces)) → from + n < length pieces → is_white (piece_at pieces (from + n)).kind ≡ false → is_byte 40 (piece_at pieces (from + n)).kind ≡ false → None ≡ opening (drop from pieces)
opening_none pieces from n so_far h white mark =
    rw (so_far, drop_piece pieces (from + n) h, opening_not (piece_at pieces (from + n)) (drop (from + n + 1) pieces) white mark) refl

pub opening_end : (pieces : List Piece) (from n : ℕ) → opening (drop from pieces) ≡ further n (opening (drop (from + n) pieces)) → length pieces ≤ from + n → None ≡ opening (drop from pieces)
unfolding opening
opening_end pieces from n so_far h = rw (so_far, drop_all (from + n) pieces h) refl

-- ---- the ) of a call

closing_end : (depth : ℕ) (p : Piece) (rest : List Piece) → (is_byte 41 p.kind && (depth == 0)) ≡ true → closing depth (p ∷ rest) ≡ Some 0
unfolding closing
closing_end depth p rest test = rw test refl

closing_on : (depth : ℕ) (p : Piece) (rest : List Piece) → (is_byte 41 p.kind && (depth == 0)) ≡ false → closing depth (p ∷ rest) ≡ further 1 (closing (depth_after depth p.kind) rest)
unfolding closing
closing_on depth p rest test = rw test refl

pub closing_here : (pieces : List Piece) (from n depth : ℕ) → closing 0 (drop from pieces) ≡ further n (closing depth (drop (from + n) pieces)) → from + n < length pieces → (is_byte 41 (piece_at pieces (from + n)).kind && (depth == 0)) ≡ true → Some n ≡ closing 0 (drop from pieces)
closing_here pieces from n depth so_far h test =
    rw (so_far, drop_piece pieces (from + n) h, closing_end depth (piece_at pieces (from + n)) (drop (from + n + 1) pieces) test) (ap Some (let e : n ≡ n + 0 = omega arith in e))

pub closing_more : (pieces : List Piece) (from n depth next : ℕ) → closing 0 (drop from pieces) ≡ further n (closing depth (drop (from + n) pieces)) → from + n < length pieces → (is_byte 41 (piece_at pieces (from + n)).kind && (depth == 0)) ≡ false → next ≡ depth_after depth (piece_at pieces (from + n)).kind → closing 0 (drop from pieces) ≡ further (n + 1) (closing next (drop (from + (n + 1)) pieces))
closing_more pieces from n depth next so_far h test is =
    let e : from + (n + 1) ≡ from + n + 1 = omega arith in
    rw (so_far, drop_piece pieces (from + n) h, closing_on depth (piece_at pieces (from + n)) (drop (from + n + 1) pieces) test, e, is) (further_more n (closing (depth_after depth (piece_at pieces (from + n)).kind) (drop (from + n + 1) pieces)))

pub closing_none : (pieces : List Piece) (from n depth : ℕ) → closing 0 (drop from pieces) ≡ further n (closing depth (drop (from + n) pieces)) → length pieces ≤ from + n → None ≡ closing 0 (drop from pieces)
unfolding closing
closing_none pieces from n depth so_far h = rw (so_far, drop_all (from + n) pieces h) refl

depth_by : (depth : ℕ) (a b : Bool) → (if a then depth + 1 else (if b then depth - 1 else depth)) ≤ depth + 1
depth_by depth true b = omega arith
depth_by depth false true = omega arith
depth_by depth false false = omega arith

pub depth_low : (depth n next : ℕ) (kind : PieceKind) → depth ≤ n → next ≡ depth_after depth kind → next ≤ n + 1
depth_low depth n next kind h is = let by = depth_by depth (is_byte 40 kind) (is_byte 41 kind) in omega (arith, is, by)

-- ---- pieces between two places

pub between_cons : (at end : ℕ) (pieces : List Piece) → at < end → end ≤ length pieces → between at end pieces ≡ piece_at pieces at ∷ between (at + 1) end pieces
between_cons at end pieces h inside =
    let e : end - at ≡ suc (end - (at + 1)) = omega arith in
    rw (e, drop_piece pieces at (omega arith)) refl

pub between_end : (at end : ℕ) (pieces : List Piece) → end ≤ at → between at end pieces ≡ []
between_end at end pieces h = let e : end - at ≡ 0 = omega arith in rw e refl

pub between_rest : (from : ℕ) (pieces : List Piece) → between from (length pieces) pieces ≡ drop from pieces
between_rest from pieces = take_all (length pieces - from) (drop from pieces) (omega (arith, length-drop from pieces))

pub feeds_more : (line at end : ℕ) (text : List ℕ) (pieces given0 next0 : List Piece) → at < end → end ≤ length pieces → text ≡ (piece_at pieces at).text → next0 ≡ fold (with_feed line) given0 text → with_feeds line next0 (between (at + 1) end pieces) ≡ with_feeds line given0 (between at end pieces)
unfolding with_feeds
feeds_more line at end text pieces given0 next0 h inside is e = rw (between_cons at end pieces h inside, e, is) refl

pub gathered_comma : (line depth at end : ℕ) (done : List (List Piece)) (now pieces : List Piece) → at < end → end ≤ length pieces → (is_byte 44 (piece_at pieces at).kind && (depth == 0)) ≡ true → gathered line depth (done ++ stripped now ∷ []) [] (between (at + 1) end pieces) ≡ gathered line depth done now (between at end pieces)
unfolding gathered
gathered_comma line depth at end done now pieces h inside test = rw (between_cons at end pieces h inside, test) refl

pub gathered_piece : (line depth at end : ℕ) (done : List (List Piece)) (now pieces : List Piece) → at < end → end ≤ length pieces → (is_byte 44 (piece_at pieces at).kind && (depth == 0)) ≡ false → gathered line (depth_after depth (piece_at pieces at).kind) done (now ++ in_argument line (piece_at pieces at) ∷ []) (between (at + 1) end pieces) ≡ gathered line depth done now (between at end pieces)
unfolding gathered
gathered_piece line depth at end done now pieces h inside test = rw (between_cons at end pieces h inside, test) refl

pub gathered_end : (line depth at end : ℕ) (done : List (List Piece)) (now pieces : List Piece) → end ≤ at → gathered line depth done now (between at end pieces) ≡ done ++ stripped now ∷ []
unfolding gathered
gathered_end line depth at end done now pieces h = rw (between_end at end pieces h) refl

pub next_comma : (line depth depth2 at end : ℕ) (done done2 : List (List Piece)) (argument now now2 pieces : List Piece) → at < end → end ≤ length pieces → (is_byte 44 (piece_at pieces at).kind && (depth == 0)) ≡ true → depth2 ≡ depth → done2 ≡ done ++ argument ∷ [] → argument ≡ stripped now → now2 ≡ [] → gathered line depth2 done2 now2 (between (at + 1) end pieces) ≡ gathered line depth done now (between at end pieces)
next_comma line depth depth2 at end done done2 argument now now2 pieces h inside test e1 e2 e3 e4 = rw (e1, e2, e3, e4) (gathered_comma line depth at end done now pieces h inside test)

pub next_piece : (line depth depth2 at end : ℕ) (done done2 : List (List Piece)) (now now2 pieces : List Piece) → at < end → end ≤ length pieces → (is_byte 44 (piece_at pieces at).kind && (depth == 0)) ≡ false → depth2 ≡ depth_after depth (piece_at pieces at).kind → done2 ≡ done → now2 ≡ now ++ in_argument line (piece_at pieces at) ∷ [] → gathered line depth2 done2 now2 (between (at + 1) end pieces) ≡ gathered line depth done now (between at end pieces)
next_piece line depth depth2 at end done done2 now now2 pieces h inside test e1 e2 e3 = rw (e1, e2, e3) (gathered_piece line depth at end done now pieces h inside test)

-- ---- white space at the ends

one_more : (pieces : List Piece) (n : ℕ) → 0 < n → n ≤ length pieces → take n pieces ≡ take (n - 1) pieces ++ piece_at pieces (n - 1) ∷ []
one_more pieces n pos h = let e : n ≡ suc (n - 1) = omega arith in let lt : n - 1 < length pieces = omega arith in ap (λ (k : ℕ). take k pieces) e ∙ take-suc pieces (n - 1) no_piece lt

solid_white : (xs : List Piece) (p : Piece) → is_white p.kind ≡ true → solid_len (xs ++ p ∷ []) ≡ solid_len xs
unfolding solid_len
solid_white [] p white = rw white refl
solid_white (x ∷ xs) p white = ap (solid_by x) (solid_white xs p white)

solid_last : (xs : List Piece) (p : Piece) → is_white p.kind ≡ false → solid_len (xs ++ p ∷ []) ≡ suc (length xs)
unfolding solid_len
solid_last [] p solid = rw solid refl
solid_last (x ∷ xs) p solid = ap (solid_by x) (solid_last xs p solid)

pub solid_less : (pieces : List Piece) (n : ℕ) → 0 < n → n ≤ length pieces → is_white (piece_at pieces (n - 1)).kind ≡ true → solid_len pieces ≡ solid_len (take n pieces) → solid_len pieces ≡ solid_len (take (n - 1) pieces)
solid_less pieces n pos h white so_far = so_far ∙ ap solid_len (one_more pieces n pos h) ∙ solid_white (take (n - 1) pieces) (piece_at pieces (n - 1)) white

pub solid_here : (pieces : List Piece) (n : ℕ) → 0 < n → n ≤ length pieces → is_white (piece_at pieces (n - 1)).kind ≡ false → solid_len pieces ≡ solid_len (take n pieces) → n ≡ solid_len pieces
solid_here pieces n pos h solid so_far =
    let len : length (take (n - 1) pieces) ≡ n - 1 = length-take-le (n - 1) pieces (omega arith) in
    let last : solid_len (take (n - 1) pieces ++ piece_at pieces (n - 1) ∷ []) ≡ suc (length (take (n - 1) pieces)) = solid_last (take (n - 1) pieces) (piece_at pieces (n - 1)) solid in
    let whole : solid_len pieces ≡ suc (length (take (n - 1) pieces)) = so_far ∙ ap solid_len (one_more pieces n pos h) ∙ last in
    omega (arith, whole, len)

pub solid_none : (pieces : List Piece) (n : ℕ) → n ≤ 0 → solid_len pieces ≡ solid_len (take n pieces) → n ≡ solid_len pieces
unfolding solid_len
solid_none pieces n h so_far = let e : n ≡ 0 = omega arith in rw e (sym (so_far ∙ ap (λ (k : ℕ). solid_len (take k pieces)) e))

pub between_solid : (pieces : List Piece) (start end : ℕ) → start ≤ end → end ≡ solid_len pieces → start ≡ prefix_len (λ p. is_white p.kind) (take end pieces) → between start end pieces ≡ stripped pieces
unfolding stripped
between_solid pieces start end h e1 e2 =
    let e : start + (end - start) ≡ end = omega arith in
    sym (drop-take start (end - start) pieces) ∙ rw e (rw (e2, e1) refl)

-- places that are counted from another place
pub between_from : (from start end : ℕ) (pieces : List Piece) → between (from + start) (from + end) pieces ≡ between start end (drop from pieces)
between_from from start end pieces =
    let n : from + end - (from + start) ≡ end - start = omega arith in
    ap₂ (λ (k : ℕ) (l : List Piece). take k l) n (sym (drop-drop start from pieces))

-- one piece more
pub between_more : (from at : ℕ) (pieces : List Piece) → from ≤ at → at < length pieces → between from (at + 1) pieces ≡ between from at pieces ++ piece_at pieces at ∷ []
between_more from at pieces h lt =
    let n : at + 1 - from ≡ suc (at - from) = omega arith in
    let k : from + (at - from) ≡ at = omega arith in
    let room : at - from < length (drop from pieces) = rw length-drop (omega arith) in
    rw n (take-suc (drop from pieces) (at - from) no_piece room) ∙ ap (λ (p : Piece). between from at pieces ++ p ∷ []) (get_or-drop from pieces (at - from) no_piece ∙ ap (piece_at pieces) k)

pub append_more : (self new pieces : List Piece) (at end : ℕ) → at < end → end ≤ length pieces → new ≡ self ++ piece_at pieces at ∷ [] → new ++ between (at + 1) end pieces ≡ self ++ between at end pieces
append_more self new pieces at end h inside e = rw (e, append_assoc, between_cons at end pieces h inside) refl

-- pieces without white space at their ends stay as they are
pub whole_solid : (pieces : List Piece) (start end : ℕ) → start ≡ 0 → end ≡ length pieces → between start end pieces ≡ stripped pieces → pieces ≡ stripped pieces
whole_solid pieces start end s e is = sym (ap₂ (λ (a b : ℕ). between a b pieces) s e ∙ take_all (length pieces - 0) pieces (omega arith)) ∙ is
