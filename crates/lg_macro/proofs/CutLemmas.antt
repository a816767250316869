-- The cutting of bytes.
use Rattle.std.proofs.Common.{◌≡◌, ℕ, zero, suc, ◌+◌, ◌-◌, ◌<◌, ◌≤◌, ◌==◌, ◌&&◌, max, Bool, true, false, not, List, [], ◌∷◌, ◌++◌, length, take, drop, get_or, refl, ap, ◌∙◌, arith, add-one, append_assoc, append-nil, eq-eqb, ◌≢◌, length-drop}
use Rattle.std.proofs.Common.{inl, inr, Result, Ok, Err}
use Rattle.std.specs.Prelude.{OnOk}
use Rattle.std.proofs.lemmas.Bool.Decides.{eqb_tells}
use Rattle.std.proofs.Math.Seq.{drop-cons}
use Rattle.std.proofs.lemmas.List.{drop_all, take_all, drop-drop, get_or-drop}
use Rattle.lg_macro.specs.Pieces.{Piece, piece_at, between}
use Rattle.lg_macro.specs.Cutting.{block_len, quoted_len, front_of, cut_in, cut}
use Rattle.lg_macro.specs.Pasting.{joined}
use Rattle.lg_macro.specs.declared.pieces.PieceKind.{PieceKind}

drop_byte : (bytes : List ℕ) (i : ℕ) → i < length bytes → drop i bytes ≡ get_or bytes i 0 ∷ drop (i + 1) bytes
drop_byte bytes i h = rw add-one (drop-cons bytes i 0 h)

first_of : (bytes : List ℕ) (i : ℕ) → get_or (drop i bytes) 0 0 ≡ get_or bytes i 0
first_of bytes i = get_or-drop i bytes 0 0 ∙ ap (λ (k : ℕ). get_or bytes k 0) (let e : i + 0 ≡ i = omega arith in e)

pub block_here : (bytes : List ℕ) (i : ℕ) → i < length bytes → ((get_or bytes i 0 == 42) && (get_or bytes (i + 1) 0 == 47)) ≡ true → i + 2 ≡ i + block_len (drop i bytes)
unfolding block_len
block_here bytes i h test = rw (drop_byte bytes i h, first_of bytes (i + 1), test) refl

pub block_more : (bytes : List ℕ) (i : ℕ) → i < length bytes → ((get_or bytes i 0 == 42) && (get_or bytes (i + 1) 0 == 47)) ≡ false → i + 1 + block_len (drop (i + 1) bytes) ≡ i + block_len (drop i bytes)
unfolding block_len
block_more bytes i h test = rw (drop_byte bytes i h, first_of bytes (i + 1), test) (let e : i + 1 + block_len (drop (i + 1) bytes) ≡ i + (1 + block_len (drop (i + 1) bytes)) = omega arith in e)

pub block_end : (bytes : List ℕ) (i : ℕ) → length bytes ≡ i → length bytes ≡ i + block_len (drop i bytes)
unfolding block_len
block_end bytes i h = let e : length bytes ≤ i = omega arith in rw (drop_all i bytes e) (omega arith)

neq_test : (a b : ℕ) → a ≢ b → (a == b) ≡ false
neq_test a b h = elim (eqb_tells a b) [ inl w ↦ absurd (h w.1) | inr w ↦ w.0 ]

pub quoted_feed : (mark : ℕ) (escaped : Bool) (bytes : List ℕ) (i : ℕ) → i < length bytes → get_or bytes i 0 ≡ 10 → i ≡ i + quoted_len mark escaped (drop i bytes)
unfolding quoted_len
quoted_feed mark escaped bytes i h is = let test : (get_or bytes i 0 == 10) ≡ true = eq-eqb (get_or bytes i 0) 10 is in rw (drop_byte bytes i h, test) (omega arith)

pub quoted_end : (mark : ℕ) (escaped : Bool) (bytes : List ℕ) (i : ℕ) → i < length bytes → get_or bytes i 0 ≢ 10 → ((get_or bytes i 0 == mark) && not escaped) ≡ true → i + 1 ≡ i + quoted_len mark escaped (drop i bytes)
unfolding quoted_len
quoted_end mark escaped bytes i h is test = let feed : (get_or bytes i 0 == 10) ≡ false = neq_test (get_or bytes i 0) 10 is in rw (drop_byte bytes i h, feed, test) refl

pub quoted_more : (mark : ℕ) (escaped next : Bool) (bytes : List ℕ) (i : ℕ) → i < length bytes → get_or bytes i 0 ≢ 10 → ((get_or bytes i 0 == mark) && not escaped) ≡ false → next ≡ ((get_or bytes i 0 == 92) && not escaped) → i + 1 + quoted_len mark next (drop (i + 1) bytes) ≡ i + quoted_len mark escaped (drop i bytes)
unfolding quoted_len
quoted_more mark escaped next bytes i h is test e = let feed : (get_or bytes i 0 == 10) ≡ false = neq_test (get_or bytes i 0) 10 is in rw (drop_byte bytes i h, feed, test, e) (omega arith)

pub quoted_none : (mark : ℕ) (escaped : Bool) (bytes : List ℕ) (i : ℕ) → length bytes ≤ i → i ≡ i + quoted_len mark escaped (drop i bytes)
unfolding quoted_len
quoted_none mark escaped bytes i h = rw (drop_all i bytes h) (omega arith)

-- ---- pieces one after the other

abbrev piece_in : ℕ → PieceKind × ℕ → List ℕ → Piece
piece_in line front rest = record { kind = front.0; text = take front.1 rest; line = line; frozen = false }

cut_on : (k line : ℕ) (rest : List ℕ) → 0 < k → 0 < length rest → 0 < (front_of rest).1 → cut_in k line rest ≡ piece_in line (front_of rest) rest ∷ cut_in (k - 1) line (drop (front_of rest).1 rest)
unfolding cut_in
cut_on zero line rest h some one = absurd (omega (arith, h))
cut_on (suc k) line [] h some one = absurd (omega (arith, some))
cut_on (suc k) line (b ∷ rest) h some one =
    let e : suc k - 1 ≡ k = omega arith in let m : max 1 (front_of (b ∷ rest)).1 ≡ (front_of (b ∷ rest)).1 = omega (arith, one) in
    rw (e, m) refl

pub cut_more : (k line at : ℕ) (bytes rest text : List ℕ) (front : PieceKind × ℕ) (out new : List Piece) → at < length bytes → length bytes ≤ at + k → rest ≡ drop at bytes → front ≡ front_of rest → 0 < front.1 → text ≡ take front.1 rest → new ≡ out ++ record { kind = front.0; text = text; line = line; frozen = false } ∷ [] → new ++ cut_in (k - 1) line (drop (at + front.1) bytes) ≡ out ++ cut_in k line (drop at bytes)
cut_more k line at bytes rest text front out new h room is e some is2 e2 =
    let one : 0 < (front_of (drop at bytes)).1 = rw (← is, ← e) some in
    let left : 0 < length (drop at bytes) = rw length-drop (omega arith) in
    rw (cut_on k line (drop at bytes) (omega arith) left one, e2, append_assoc, is2, e, is, drop-drop (front_of (drop at bytes)).1 at bytes) refl

pub cut_begun : (line : ℕ) (bytes : List ℕ) (out : List Piece) → out ++ cut_in (length bytes) line bytes ≡ out ++ cut line bytes
unfolding cut
cut_begun line bytes out = refl

pub cut_done : (k line at : ℕ) (bytes : List ℕ) (out : List Piece) → length bytes ≤ at → out ++ cut_in k line (drop at bytes) ≡ out
unfolding cut_in
cut_done zero line at bytes out h = append-nil out
cut_done (suc k) line at bytes out h = rw (drop_all at bytes h) (append-nil out)

-- ---- pieces put together

pub joined_none : (line : ℕ) (now part : List Piece) → length now ≡ 0 → part ≡ joined line now part
unfolding joined
joined_none line [] part h = refl
joined_none line (p ∷ now) part h = absurd (omega (arith, h))

pub joined_alone : (line : ℕ) (now part : List Piece) → length part ≡ 0 → now ≡ joined line now part
unfolding joined
joined_alone line [] [] h = refl
joined_alone line [] (q ∷ part) h = absurd (omega (arith, h))
joined_alone line (p ∷ now) [] h = refl
joined_alone line (p ∷ now) (q ∷ part) h = absurd (omega (arith, h))

pub joined_both : (line : ℕ) (now part : List Piece) → 0 < length now → 0 < length part → (take (length now - 1) now ++ cut line ((piece_at now (length now - 1)).text ++ (piece_at part 0).text)) ++ drop 1 part ≡ joined line now part
unfolding joined
joined_both line [] part h hp = absurd (omega (arith, h))
joined_both line (p ∷ now) [] h hp = absurd (omega (arith, hp))
joined_both line (p ∷ []) (q ∷ part) h hp = refl
joined_both line (p ∷ r ∷ now) (q ∷ part) h hp =
    let e : suc (suc (length now)) - 1 ≡ suc (suc (length now) - 1) = omega arith in
    rw e (ap (λ (l : List Piece). p ∷ l) (joined_both line (r ∷ now) (q ∷ part) (omega arith) hp))

pub joined_made : (line n m : ℕ) (now part fresh a1 a2 a3 : List Piece) (t1 t2 : List ℕ) → fresh ≡ [] → n ≡ length now → m ≡ length part → 0 < n → 0 < m → a1 ≡ fresh ++ between 0 (n - 1) now → t1 ≡ (piece_at now (n - 1)).text → t2 ≡ (piece_at part 0).text → a2 ≡ a1 ++ cut line (t1 ++ t2) → a3 ≡ a2 ++ between 1 m part → a3 ≡ joined line now part
joined_made line n m now part fresh a1 a2 a3 t1 t2 empty en em hn hm e1 et1 et2 e2 e3 =
    let zero_less : n - 1 - 0 ≡ n - 1 = omega arith in
    let rest : take (m - 1) (drop 1 part) ≡ drop 1 part = take_all (m - 1) (drop 1 part) (omega (arith, length-drop 1 part)) in
    rw (e3, e2, e1, empty, zero_less, rest, et1, et2, en) (joined_both line now part (omega arith) (omega arith))

-- the same of a call that may want memory
pub joined_first : {E : Type 0} (r : Result (Unit {0}) E) (new old more joined : List Piece) → old ≡ [] → more ≡ joined → OnOk r (new ≡ old ++ more) → OnOk r (new ≡ joined)
joined_first (Ok u) new old more joined empty e is = is ∙ ap (λ (l : List Piece). l ++ more) empty ∙ e
joined_first (Err o) new old more joined empty e is = tt

pub joined_last : {E : Type 0} (line n m : ℕ) (now part fresh a1 a2 : List Piece) (r : Result (Unit {0}) E) (a3 : List Piece) (t1 t2 : List ℕ) → fresh ≡ [] → n ≡ length now → m ≡ length part → 0 < n → 0 < m → a1 ≡ fresh ++ between 0 (n - 1) now → t1 ≡ (piece_at now (n - 1)).text → t2 ≡ (piece_at part 0).text → a2 ≡ a1 ++ cut line (t1 ++ t2) → OnOk r (a3 ≡ a2 ++ between 1 m part) → OnOk r (a3 ≡ joined line now part)
joined_last line n m now part fresh a1 a2 (Ok u) a3 t1 t2 empty en em hn hm e1 et1 et2 e2 e3 = joined_made line n m now part fresh a1 a2 a3 t1 t2 empty en em hn hm e1 et1 et2 e2 e3
joined_last line n m now part fresh a1 a2 (Err o) a3 t1 t2 empty en em hn hm e1 et1 et2 e2 e3 = tt
