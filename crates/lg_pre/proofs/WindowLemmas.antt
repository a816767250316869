-- Lines of pieces of which only the front is there.
use Rattle.std.proofs.Common.{◌≡◌, ℕ, zero, suc, ◌+◌, ◌-◌, ◌<◌, ◌≤◌, ◌==◌, ◌&&◌, ◌||◌, nat_le, Bool, true, false, not, if◌then◌else◌, List, [], ◌∷◌, ◌++◌, length, take, drop, refl, sym, ap, ap₂, ◌∙◌, arith, Option, Some, None, Result, Ok, Err, IfOk, IsErrAnd, subst, length-drop, length-append, append_assoc}
use Rattle.std.proofs.lemmas.Bool.Decides.{nat_tests}
use Rattle.std.proofs.lemmas.List.{drop-drop, drop-append-le, take-append-le, get_or_append_left, get_or-drop}
use Rattle.lg_base.specs.Refusals.{◌>>=◌}
use Rattle.lg_base.specs.declared.refusal.Refusal.{Refusal}
use Rattle.lg_base.specs.declared.refusal.Stop.{Stop}
use Rattle.lg_base.specs.declared.refusal.Stop.TheVariants.{Refused, OutOfMemory}
use Rattle.lg_lex.specs.Bytes.{further}
use Rattle.lg_macro.specs.Arguments.{stripped}
use Rattle.lg_macro.specs.Defines.{spliced}
use Rattle.lg_macro.specs.Pieces.{Piece, piece_at, no_piece, between, is_byte, is_feed}
use Rattle.lg_macro.specs.Text.{is_margin, is_comment, is_number, ends_with_slash, line_len, marks_line, mark_in, pieces_on}
use Rattle.lg_macro.specs.Macros.{CountsAs, StepsAs}
use Rattle.lg_macro.specs.declared.pieces.PieceKind.{PieceKind}
use Rattle.lg_macro.specs.declared.pieces.PieceKind.TheVariants.{Comment, Quoted, Word, Number, Feed, Byte}
use Rattle.lg_macro.proofs.CallLemmas.{between_from}
use Rattle.lg_pre.specs.Expanded.{flushes, obeys, waits, directs, one_line_by, one_line, finishes, lines_in}
use Rattle.lg_pre.specs.Given.{fed}
use Rattle.lg_pre.specs.Windows.{line_end, rest_of, GoesOn, Stops, LeadsTo, ReadsOn}
use Rattle.lg_pre.specs.declared.expander.Expander.{Expander}
use Rattle.lg_pre.proofs.LineLaws.{if_bound, any_result}
use Rattle.lg_pre.proofs.LineLemmas.{lines_more, lines_stop, lines_done}

-- ---- a line whose end is there

abbrev has_feed : List Piece → Bool
has_feed [] = false
has_feed (p ∷ rest) = is_feed p.kind || has_feed rest

line_front : (goes_on slash : Bool) (xs ys : List Piece) → line_len goes_on slash xs < length xs → line_len goes_on slash (xs ++ ys) ≡ line_len goes_on slash xs
unfolding line_len
line_front goes_on slash [] ys h = absurd (omega (arith, h))
line_front goes_on slash (p ∷ xs) ys h = by (line_front goes_on (ends_with_slash p) xs ys) (is_feed p.kind && not (goes_on && slash)) h
  where
    by : (line_len goes_on (ends_with_slash p) xs < length xs → line_len goes_on (ends_with_slash p) (xs ++ ys) ≡ line_len goes_on (ends_with_slash p) xs) → (b : Bool) → (if b then 1 else 1 + line_len goes_on (ends_with_slash p) xs) < suc (length xs)
        → (if b then 1 else 1 + line_len goes_on (ends_with_slash p) (xs ++ ys)) ≡ (if b then 1 else 1 + line_len goes_on (ends_with_slash p) xs)
    by more true lt = refl
    by more false lt = ap (λ (n : ℕ). 1 + n) (more (omega (arith, lt)))

feed_there : (goes_on slash : Bool) (xs : List Piece) → line_len goes_on slash xs < length xs → has_feed xs ≡ true
unfolding line_len
feed_there goes_on slash [] h = absurd (omega (arith, h))
feed_there goes_on slash (p ∷ xs) h = by (feed_there goes_on (ends_with_slash p) xs) (is_feed p.kind) (not (goes_on && slash)) h
  where
    by : (line_len goes_on (ends_with_slash p) xs < length xs → has_feed xs ≡ true) → (f b : Bool) → (if f && b then 1 else 1 + line_len goes_on (ends_with_slash p) xs) < suc (length xs) → (f || has_feed xs) ≡ true
    by more true b lt = refl
    by more false b lt = more (omega (arith, lt))

feed_before : (n : ℕ) (xs : List Piece) → has_feed (drop n xs) ≡ true → has_feed xs ≡ true
feed_before zero xs h = h
feed_before (suc n) [] h = h
feed_before (suc n) (p ∷ xs) h = by (is_feed p.kind) (feed_before n xs h)
  where
    by : (f : Bool) → has_feed xs ≡ true → (f || has_feed xs) ≡ true
    by true e = refl
    by false e = e

marks_front : (xs ys : List Piece) → has_feed xs ≡ true → marks_line (xs ++ ys) ≡ marks_line xs
unfolding marks_line
marks_front [] ys h = cc
marks_front (p ∷ xs) ys h = by (marks_front xs ys) p.kind h
  where
    by : (has_feed xs ≡ true → marks_line (xs ++ ys) ≡ marks_line xs) → (kind : PieceKind) → (is_feed kind || has_feed xs) ≡ true → (if is_byte 32 kind then marks_line (xs ++ ys) else is_number kind) ≡ (if is_byte 32 kind then marks_line xs else is_number kind)
    by more (Byte b) e = ap (λ (m : Bool). if b == 32 then m else false) (more e)
    by more other e = refl

mark_front : (fresh : Bool) (xs ys : List Piece) → has_feed xs ≡ true → mark_in fresh (xs ++ ys) ≡ mark_in fresh xs
unfolding mark_in
mark_front fresh [] ys h = cc
mark_front fresh (p ∷ xs) ys h = by (mark_front (fresh && not (is_comment p.kind)) xs ys) (marks_front xs ys) p.kind h
  where
    by : (has_feed xs ≡ true → mark_in (fresh && not (is_comment p.kind)) (xs ++ ys) ≡ mark_in (fresh && not (is_comment p.kind)) xs) → (has_feed xs ≡ true → marks_line (xs ++ ys) ≡ marks_line xs)
        → (kind : PieceKind) → (is_feed kind || has_feed xs) ≡ true
        → (if is_margin kind then further 1 (mark_in (fresh && not (is_comment p.kind)) (xs ++ ys)) else (if is_byte 35 kind && not (fresh && marks_line (xs ++ ys)) then Some 0 else None))
        ≡ (if is_margin kind then further 1 (mark_in (fresh && not (is_comment p.kind)) xs) else (if is_byte 35 kind && not (fresh && marks_line xs) then Some 0 else None))
    by more marks Comment e = ap (further 1) (more e)
    by more marks (Byte b) e = ap₂ (λ (o : Option ℕ) (m : Bool). if (b == 32) || (b == 9) then further 1 o else (if (b == 35) && not (fresh && m) then Some 0 else None)) (more e) (marks e)
    by more marks other e = refl

between_front : (at end : ℕ) (xs ys : List Piece) → at ≤ end → end ≤ length xs → between at end (xs ++ ys) ≡ between at end xs
between_front at end xs ys order inside =
    ap (take (end - at)) (drop-append-le at xs ys (omega (arith, order, inside)))
    ∙ take-append-le (end - at) (drop at xs) ys (omega (arith, order, inside, length-drop at xs))

-- what a line does, by the pieces that it has
abbrev does_directive : Expander → ℕ → List Piece → ℕ → List Piece → Result (ℕ × Expander) Refusal
does_directive s end whole line body = flushes s >>= (λ s1. obeys s1 line body >>= (λ s2. fed whole s2.given >>= (λ given. Ok (end, record s2 { given = given }))))

directs_front : (text more : List Piece) (s : Expander) (at sign end : ℕ) → at ≤ sign → sign < end → end ≤ length text → directs (text ++ more) s at sign end ≡ directs text s at sign end
directs_front text more s at sign end order some inside =
    ap (λ (p : Piece). does_directive s end (between at end (text ++ more)) p.line (stripped (spliced (between (sign + 1) end (text ++ more)))))
    (get_or_append_left text more no_piece sign (omega (arith, some, inside)))
    ∙ ap₂ (λ (whole body : List Piece). does_directive s end whole (piece_at text sign).line (stripped (spliced body)))
    (between_front at end text more (omega (arith, order, some)) inside) (between_front (sign + 1) end text more (omega (arith, some)) inside)

line_some : (goes_on slash : Bool) (xs : List Piece) → 0 < length xs → 0 < line_len goes_on slash xs
unfolding line_len
line_some goes_on slash [] h = absurd (omega (arith, h))
line_some goes_on slash (p ∷ xs) h = by (is_feed p.kind && not (goes_on && slash))
  where
    by : (b : Bool) → 0 < (if b then 1 else 1 + line_len goes_on (ends_with_slash p) xs)
    by true = omega arith
    by false = omega arith

front_by : (text more : List Piece) (s : Expander) (at : ℕ) (o : Option ℕ) → line_end text at o < length text
    → (has_feed (drop at text) ≡ true) × (one_line_by (text ++ more) s at o ≡ one_line_by text s at o)
front_by text more s at None h =
    let len : length (drop at text) ≡ length text - at = length-drop at text in
    let short : line_len false false (drop at text) < length (drop at text) = omega (arith, h, len) in
    let same : line_len false false (drop at (text ++ more)) ≡ line_len false false (drop at text) =
    ap (line_len false false) (drop-append-le at text more (omega (arith, h))) ∙ line_front false false (drop at text) more short in (
      feed_there false false (drop at text) short,
      ap (λ (n : ℕ). waits (text ++ more) s at (at + n)) same
          ∙ ap (λ (b : List Piece). Ok (at + line_len false false (drop at text), record s { lines = s.lines ++ b })) (between_front at (at + line_len false false (drop at text)) text more (omega arith) (omega (arith, h))),
    )
front_by text more s at (Some n) h =
    let len : length (drop (at + n) text) ≡ length text - (at + n) = length-drop (at + n) text in
    let short : line_len true false (drop (at + n) text) < length (drop (at + n) text) = omega (arith, h, len) in
    let some = line_some true false (drop (at + n) text) (omega (arith, short)) in
    let same : line_len true false (drop (at + n) (text ++ more)) ≡ line_len true false (drop (at + n) text) =
    ap (line_len true false) (drop-append-le (at + n) text more (omega (arith, h))) ∙ line_front true false (drop (at + n) text) more short in (
      feed_before n (drop at text) (ap has_feed (drop-drop n at text) ∙ feed_there true false (drop (at + n) text) short),
      ap (λ (k : ℕ). directs (text ++ more) s at (at + n) (at + n + k)) same
          ∙ directs_front text more s at (at + n) (at + n + line_len true false (drop (at + n) text)) (omega arith) (omega (arith, some)) (omega (arith, h)),
    )

-- a line whose end is before that of the pieces is the same whatever follows them
pub one_front : (text more : List Piece) (s : Expander) (at : ℕ) → line_end text at (mark_in true (drop at text)) < length text → one_line (text ++ more) s at ≡ one_line text s at
unfolding one_line
one_front text more s at h =
    let both = front_by text more s at (mark_in true (drop at text)) h in
    let inside : at ≤ length text = before (mark_in true (drop at text)) h in
    ap (one_line_by (text ++ more) s at) (ap (mark_in true) (drop-append-le at text more inside) ∙ mark_front true (drop at text) more both.0) ∙ both.1
  where
    before : (o : Option ℕ) → line_end text at o < length text → at ≤ length text
    before None lt = omega (arith, lt)
    before (Some n) lt = omega (arith, lt)

-- ---- a line ends after it begins

directs_end : (text : List Piece) (s : Expander) (at sign end : ℕ) → IfOk (directs text s at sign end) (λ next. next.0 ≡ end)
directs_end text s at sign end =
    if_bound (flushes s) _ (λ s1. Unit {0}) (λ next. next.0 ≡ end) (any_result (flushes s)) (λ s1 _.
    if_bound (obeys s1 (piece_at text sign).line (stripped (spliced (between (sign + 1) end text)))) _ (λ s2. Unit {0}) (λ next. next.0 ≡ end)
    (any_result (obeys s1 (piece_at text sign).line (stripped (spliced (between (sign + 1) end text))))) (λ s2 _.
    if_bound (fed (between at end text) s2.given) _ (λ given. Unit {0}) (λ next. next.0 ≡ end) (any_result (fed (between at end text) s2.given)) (λ given _. refl)))

line_ends : (text : List Piece) (s : Expander) (at : ℕ) → IfOk (one_line text s at) (λ next. next.0 ≡ line_end text at (mark_in true (drop at text)))
unfolding one_line
line_ends text s at = by (mark_in true (drop at text))
  where
    by : (o : Option ℕ) → IfOk (one_line_by text s at o) (λ next. next.0 ≡ line_end text at o)
    by None = refl
    by (Some n) = directs_end text s at (at + n) (at + n + line_len true false (drop (at + n) text))

end_after : (text : List Piece) (at : ℕ) (o : Option ℕ) → at < length text → at < line_end text at o
end_after text at None h = let some = line_some false false (drop at text) (rw length-drop (omega (arith, h))) in omega (arith, some)
end_after text at (Some zero) h =
    let e : at + 0 ≡ at = omega arith in
    let some : 0 < line_len true false (drop (at + 0) text) = rw e (line_some true false (drop at text) (rw length-drop (omega (arith, h)))) in omega (arith, some)
end_after text at (Some (suc n)) h = omega arith

goes_ahead : (text : List Piece) (s next : Expander) (at n : ℕ) → at < length text → one_line text s at ≡ Ok (n, next) → at < n
goes_ahead text s next at n h e =
    let ends : n ≡ line_end text at (mark_in true (drop at text)) = rw e at (line_ends text s at) in
    let after = end_after text at (mark_in true (drop at text)) h in
    omega (arith, ends, after)

-- ---- the rest of a text

abbrev FuelIsFree : (k j : ℕ) → List Piece → Type 0
FuelIsFree k j text = (next : Expander) (n : ℕ) → length text ≤ n + k → length text ≤ n + j → lines_in k text next n ≡ lines_in j text next n

pub lines_fuel : (k j : ℕ) (text : List Piece) (s : Expander) (at : ℕ) → length text ≤ at + k → length text ≤ at + j → lines_in k text s at ≡ lines_in j text s at
lines_fuel zero j text s at hk hj = lines_done zero text s at (omega (arith, hk)) ∙ sym (lines_done j text s at (omega (arith, hk)))
lines_fuel (suc k) j text s at hk hj = test (λ (next : Expander) (n : ℕ). lines_fuel k (j - 1) text next n) (nat_le (length text) at) refl
  where
    on : FuelIsFree k (j - 1) text → (r : Result (ℕ × Expander) Refusal) → one_line text s at ≡ r → at < length text → lines_in (suc k) text s at ≡ lines_in j text s at
    on more (Ok next) e lt =
        let ahead = goes_ahead text s next.1 at next.0 lt e in
        let one : suc k - 1 ≡ k = omega arith in
        sym (lines_more (suc k) text s next.1 at next.0 lt hk e) ∙ ap (λ (n : ℕ). lines_in n text next.1 next.0) one
        ∙ more next.1 next.0 (omega (arith, ahead, hk)) (omega (arith, ahead, hj)) ∙ lines_more j text s next.1 at next.0 lt hj e
    on more (Err fault) e lt = lines_stop (suc k) text s at fault lt hk e ∙ sym (lines_stop j text s at fault lt hj e)

    test : FuelIsFree k (j - 1) text → (b : Bool) → nat_le (length text) at ≡ b → lines_in (suc k) text s at ≡ lines_in j text s at
    test more true e = let done : length text ≤ at = grind (arith, nat_tests) in lines_done (suc k) text s at done ∙ sym (lines_done j text s at done)
    test more false e = let lt : at < length text = grind (arith, nat_tests) in on more (one_line text s at) refl lt

abbrev moved_on : ℕ → Result (ℕ × Expander) Refusal → Result (ℕ × Expander) Refusal
moved_on from r = r >>= (λ next. Ok (from + next.0, next.1))

directs_from : (from : ℕ) (text : List Piece) (s : Expander) (at sign end : ℕ) → directs text s (from + at) (from + sign) (from + end) ≡ moved_on from (directs (drop from text) s at sign end)
directs_from from text s at sign end =
    let e : from + sign + 1 ≡ from + (sign + 1) = omega arith in
    ap (λ (p : Piece). does_directive s (from + end) (between (from + at) (from + end) text) p.line (stripped (spliced (between (from + sign + 1) (from + end) text)))) (sym (get_or-drop from text sign no_piece))
    ∙ ap₂ (λ (whole body : List Piece). does_directive s (from + end) whole (piece_at (drop from text) sign).line (stripped (spliced body)))
    (between_from from at end text) (ap (λ (n : ℕ). between n (from + end) text) e ∙ between_from from (sign + 1) end text)
    ∙ by (flushes s)
  where
    given : (r : Result (List ℕ) Refusal) (s2 : Expander) → (r >>= (λ given. Ok (from + end, record s2 { given = given }))) ≡ moved_on from (r >>= (λ given. Ok (end, record s2 { given = given })))
    given (Ok x) s2 = refl
    given (Err fault) s2 = refl

    obeyed : (r : Result Expander Refusal) → (r >>= (λ s2. fed (between at end (drop from text)) s2.given >>= (λ given. Ok (from + end, record s2 { given = given }))))
        ≡ moved_on from (r >>= (λ s2. fed (between at end (drop from text)) s2.given >>= (λ given. Ok (end, record s2 { given = given }))))
    obeyed (Ok s2) = given (fed (between at end (drop from text)) s2.given) s2
    obeyed (Err fault) = refl

    by : (r : Result Expander Refusal)
        → (r >>= (λ s1. obeys s1 (piece_at (drop from text) sign).line (stripped (spliced (between (sign + 1) end (drop from text)))) >>= (λ s2. fed (between at end (drop from text)) s2.given >>= (λ given. Ok (from + end, record s2 { given = given })))))
        ≡ moved_on from (r >>= (λ s1. obeys s1 (piece_at (drop from text) sign).line (stripped (spliced (between (sign + 1) end (drop from text)))) >>= (λ s2. fed (between at end (drop from text)) s2.given >>= (λ given. Ok (end, record s2 { given = given })))))
    by (Ok s1) = obeyed (obeys s1 (piece_at (drop from text) sign).line (stripped (spliced (between (sign + 1) end (drop from text)))))
    by (Err fault) = refl

one_from : (from : ℕ) (text : List Piece) (s : Expander) (at : ℕ) → one_line text s (from + at) ≡ moved_on from (one_line (drop from text) s at)
unfolding one_line
one_from from text s at = ap (λ (l : List Piece). one_line_by text s (from + at) (mark_in true l)) (sym (drop-drop at from text)) ∙ by (mark_in true (drop at (drop from text)))
  where
    by : (o : Option ℕ) → one_line_by text s (from + at) o ≡ moved_on from (one_line_by (drop from text) s at o)
    by None =
        let n : ℕ = line_len false false (drop at (drop from text)) in
        let e : from + at + n ≡ from + (at + n) = omega arith in
        ap (λ (l : List Piece). waits text s (from + at) (from + at + line_len false false l)) (sym (drop-drop at from text))
        ∙ ap (λ (end : ℕ). waits text s (from + at) end) e
        ∙ ap (λ (b : List Piece). Ok (from + (at + n), record s { lines = s.lines ++ b })) (between_from from at (at + n) text)
    by (Some n) =
        let sign : from + at + n ≡ from + (at + n) = omega arith in
        let k : ℕ = line_len true false (drop (at + n) (drop from text)) in
        let e : from + (at + n) + k ≡ from + (at + n + k) = omega arith in
        ap (λ (m : ℕ). directs text s (from + at) m (m + line_len true false (drop m text))) sign
        ∙ ap (λ (l : List Piece). directs text s (from + at) (from + (at + n)) (from + (at + n) + line_len true false l)) (sym (drop-drop (at + n) from text))
        ∙ ap (directs text s (from + at) (from + (at + n))) e
        ∙ directs_from from text s at (at + n) (at + n + k)

lines_from : (k from : ℕ) (text : List Piece) (s : Expander) (at : ℕ) → lines_in k text s (from + at) ≡ lines_in k (drop from text) s at
unfolding lines_in
lines_from zero from text s at = refl
lines_from (suc k) from text s at =
    ap₂ (λ (b : Bool) (r : Result (ℕ × Expander) Refusal). if b then finishes s else r >>= (λ next. lines_in k text next.1 next.0)) (tests (nat_le (length (drop from text)) at) refl) (one_from from text s at)
    ∙ ap (λ (r : Result (List ℕ) Refusal). if nat_le (length (drop from text)) at then finishes s else r) (on (λ (next : Expander) (n : ℕ). lines_from k from text next n) (one_line (drop from text) s at))
  where
    tests : (b : Bool) → nat_le (length (drop from text)) at ≡ b → nat_le (length text) (from + at) ≡ nat_le (length (drop from text)) at
    tests true e = let len = length-drop from text in let le : length text ≤ from + at = grind (arith, nat_tests) in let t : nat_le (length text) (from + at) ≡ true = grind (arith, nat_tests) in t ∙ sym e
    tests false e = let len = length-drop from text in let lt : from + at < length text = grind (arith, nat_tests) in let t : nat_le (length text) (from + at) ≡ false = grind (arith, nat_tests) in t ∙ sym e

    on : ((next : Expander) (n : ℕ) → lines_in k text next (from + n) ≡ lines_in k (drop from text) next n) → (r : Result (ℕ × Expander) Refusal) → (moved_on from r >>= (λ next. lines_in k text next.1 next.0)) ≡ (r >>= (λ next. lines_in k (drop from text) next.1 next.0))
    on more (Ok next) = more next.1 next.0
    on more (Err fault) = refl

rest_at : (text : List Piece) (s : Expander) (at : ℕ) → rest_of (drop at text) s ≡ lines_in (length text) text s at
rest_at text s at =
    let e : at + 0 ≡ at = omega arith in
    sym (lines_from (length (drop at text)) at text s 0) ∙ ap (λ (n : ℕ). lines_in (length (drop at text)) text s n) e
    ∙ lines_fuel (length (drop at text)) (length text) text s at (omega (arith, length-drop at text)) (omega arith)

-- a line that is there is read
pub rest_more : (text more : List Piece) (s next : Expander) (at n : ℕ) → line_end text at (mark_in true (drop at text)) < length text → at < length text → n ≤ length text
    → one_line text s at ≡ Ok (n, next) → rest_of (drop n text ++ more) next ≡ rest_of (drop at text ++ more) s
rest_more text more s next at n end lt inside e =
    let whole : List Piece = text ++ more in
    let size = length-append text more in
    let there : one_line whole s at ≡ Ok (n, next) = one_front text more s at end ∙ e in
    let ahead = goes_ahead text s next at n lt e in
    ap (λ (l : List Piece). rest_of l next) (sym (drop-append-le n text more inside)) ∙ rest_at whole next n
    ∙ lines_fuel (length whole) (length whole - 1) whole next n (omega arith) (omega (arith, ahead))
    ∙ lines_more (length whole) whole s next at n (omega (arith, lt, size)) (omega arith) there
    ∙ sym (rest_at whole s at) ∙ ap (λ (l : List Piece). rest_of l s) (drop-append-le at text more (omega (arith, lt)))

pub rest_stop : (text more : List Piece) (s : Expander) (at : ℕ) (fault : Refusal) → line_end text at (mark_in true (drop at text)) < length text → at < length text
    → one_line text s at ≡ Err fault → rest_of (drop at text ++ more) s ≡ Err fault
rest_stop text more s at fault end lt e =
    let whole : List Piece = text ++ more in
    let size = length-append text more in
    ap (λ (l : List Piece). rest_of l s) (sym (drop-append-le at text more (omega (arith, lt)))) ∙ rest_at whole s at
    ∙ lines_stop (length whole) whole s at fault (omega (arith, lt, size)) (omega arith) (one_front text more s at end ∙ e)

-- ---- calls

-- a call that a stop was passed on to
pub leads_from : {A : Type 0} (r : Result A Stop) (stop : Stop) (before after : List Piece) (old new : Expander) → IsErrAnd r (λ e. e ≡ stop) → Stops before old stop → LeadsTo r before old after new
leads_from (Ok x) stop before after old new is stops = absurd is
leads_from (Err e) stop before after old new is stops = subst (λ (s : Stop). Stops before old s) (sym is) stops

pub reads_on_from : (r : Result ℕ Stop) (stop : Stop) (pieces : List Piece) (old new : Expander) → IsErrAnd r (λ e. e ≡ stop) → Stops pieces old stop → ReadsOn r pieces old new
reads_on_from (Ok x) stop pieces old new is stops = absurd is
reads_on_from (Err e) stop pieces old new is stops = subst (λ (s : Stop). Stops pieces old s) (sym is) stops

-- a stop in the lines that follow those that were read
pub stops_on : (stop : Stop) (before after : List Piece) (old new : Expander) → GoesOn before old after new → Stops after new stop → Stops before old stop
stops_on OutOfMemory before after old new goes stops = tt
stops_on (Refused fault) before after old new goes stops = λ more. goes more ∙ stops more

-- a line that is there has a fault
pub line_stops : (stop : Stop) (text : List Piece) (s new : Expander) (at : ℕ) → line_end text at (mark_in true (drop at text)) < length text → at < length text
    → StepsAs (Err stop) new (one_line text s at) → Stops (drop at text) s stop
line_stops OutOfMemory text s new at end lt e = tt
line_stops (Refused fault) text s new at end lt e = λ more. rest_stop text more s at fault end lt e

pub line_goes : (text : List Piece) (s next : Expander) (at n : ℕ) → line_end text at (mark_in true (drop at text)) < length text → at < length text → n ≤ length text
    → one_line text s at ≡ Ok (n, next) → GoesOn (drop at text) s (drop n text) next
line_goes text s next at n end lt inside e = λ more. sym (rest_more text more s next at n end lt inside e)

-- a stop, by the pieces that follow
pub stops_counts : (r : Result (Unit {0}) Stop) (stop : Stop) (new : List ℕ) (before more : List Piece) (old : Expander) (whole : Result (List ℕ) Refusal) → IsErrAnd r (λ e. e ≡ stop)
    → rest_of (before ++ more) old ≡ whole → Stops before old stop → CountsAs r new whole
stops_counts (Ok u) stop new before more old whole is same stops = absurd is
stops_counts (Err e) stop new before more old whole is same stops = by e (subst (λ (s : Stop). Stops before old s) (sym is) stops)
  where
    by : (s : Stop) → Stops before old s → CountsAs (Err s) new whole
    by OutOfMemory h = tt
    by (Refused fault) h = sym same ∙ h more

-- ---- parts of a text

-- the pieces that are cut, and those of the bytes after them
pub cut_more : (text : List ℕ) (rest : List ℕ) (at len line next : ℕ) (cut old new : List Piece) → new ≡ old ++ cut → cut ++ pieces_on next (drop len rest) ≡ pieces_on line rest → rest ≡ drop at text
    → new ++ pieces_on next (drop (at + len) text) ≡ old ++ pieces_on line (drop at text)
cut_more text rest at len line next cut old new grown is from =
    let left : drop (at + len) text ≡ drop len rest = sym (ap (drop len) from ∙ drop-drop len at text) in
    ap₂ (λ (a : List Piece) (b : List ℕ). a ++ pieces_on next b) grown left ∙ append_assoc old cut (pieces_on next (drop len rest))
    ∙ ap (λ (l : List Piece). old ++ l) (is ∙ ap (λ (b : List ℕ). pieces_on line b) from)
