-- The line feeds of pieces: what cutting, pasting and calls do to them.
use Rattle.std.proofs.Common.{◌≡◌, ℕ, zero, suc, ◌+◌, ◌-◌, ◌<◌, ◌≤◌, ◌==◌, ◌&&◌, ◌||◌, max, Bool, true, false, not, if◌then◌else◌, List, [], ◌∷◌, ◌++◌, length, take, drop, fold, filter, refl, sym, ap, ◌∙◌, arith, Option, Some, None, one-add}
use Rattle.std.proofs.lemmas.Bool.{false≢true, true≢false, eqb-true}
use Rattle.std.proofs.lemmas.List.{take-append-drop, drop-drop}
use Rattle.std.proofs.lemmas.List.Sums.{sum_by-append, sum_by-cons}
use Rattle.std.specs.List.{prefix_len}
use Rattle.lg_macro.specs.Arguments.{feed, with_feed, with_feeds_of, with_feeds, in_argument, solid_len, stripped, gathered, depth_after, is_empty_list, without_empty, arguments_of}
use Rattle.lg_base.specs.WordBytes.{is_word_start, is_word_byte}
use Rattle.lg_macro.specs.Cutting.{front_of, cut, cut_in, quoted_len, begins_comment, comment_len}
use Rattle.lg_macro.specs.Defines.{spliced, spaced, first_is_feed}
use Rattle.lg_macro.specs.Pasting.{joined}
use Rattle.lg_macro.specs.Pieces.{Piece, is_spaced, is_byte, is_white}
use Rattle.lg_macro.specs.Substitution.{argument_at, stands_by, stands, filled, substituted}
use Rattle.lg_macro.specs.Text.{text_pieces, feeds_of, feeds_in, bytes_of}
use Rattle.std.specs.Char.{is_ascii_digit}
use Rattle.lg_macro.specs.declared.macros.Mark.{Mark}
use Rattle.lg_macro.specs.declared.pieces.PieceKind.{PieceKind}
use Rattle.lg_macro.specs.declared.pieces.PieceKind.TheVariants.{Comment, Quoted, Word, Number, Feed, Byte}

-- ---- how many line feeds pieces have

abbrev pub feeds_among : List Piece → ℕ
feeds_among [] = 0
feeds_among (p ∷ rest) = feeds_of p.text + feeds_among rest

abbrev pub feeds_among_all : List (List Piece) → ℕ
feeds_among_all [] = 0
feeds_among_all (a ∷ rest) = feeds_among a + feeds_among_all rest

abbrev one_if : ℕ → ℕ
one_if b = if b == 10 then 1 else 0

pub feeds_append : (a b : List ℕ) → feeds_of (a ++ b) ≡ feeds_of a + feeds_of b
feeds_append a b = sum_by-append one_if a b

pub feeds_cons : (b : ℕ) (rest : List ℕ) → feeds_of (b ∷ rest) ≡ one_if b + feeds_of rest
feeds_cons b rest = sum_by-cons one_if b rest

pub feeds_parts : (n : ℕ) (bytes : List ℕ) → feeds_of (take n bytes) + feeds_of (drop n bytes) ≡ feeds_of bytes
feeds_parts n bytes = sym (feeds_append (take n bytes) (drop n bytes)) ∙ ap (λ (l : List ℕ). feeds_of l) (take-append-drop n bytes)

pub among_append : (a b : List Piece) → feeds_among (a ++ b) ≡ feeds_among a + feeds_among b
among_append [] b = omega arith
among_append (p ∷ a) b = let e = among_append a b in omega (arith, e)

pub among_parts : (n : ℕ) (pieces : List Piece) → feeds_among (take n pieces) + feeds_among (drop n pieces) ≡ feeds_among pieces
among_parts n pieces = sym (among_append (take n pieces) (drop n pieces)) ∙ ap feeds_among (take-append-drop n pieces)

-- the pieces from a place on are those up to a further place and those after it
pub among_between : (at end : ℕ) (pieces : List Piece) → at ≤ end → feeds_among (drop at pieces) ≡ feeds_among (take (end - at) (drop at pieces)) + feeds_among (drop end pieces)
among_between at end pieces h =
    let parts = among_parts (end - at) (drop at pieces) in
    let e : at + (end - at) ≡ end = omega arith in
    let same : drop (end - at) (drop at pieces) ≡ drop end pieces = drop-drop (end - at) at pieces ∙ ap (λ (n : ℕ). drop n pieces) e in
    sym (rw same at parts)

pub among_bytes : (pieces : List Piece) → feeds_among pieces ≡ feeds_of (bytes_of pieces)
among_bytes [] = refl
among_bytes (p ∷ rest) = let e = among_bytes rest in let f = feeds_append p.text (bytes_of rest) in omega (arith, e, f)

all_append : (a b : List (List Piece)) → feeds_among_all (a ++ b) ≡ feeds_among_all a + feeds_among_all b
all_append [] b = omega arith
all_append (x ∷ a) b = let e = all_append a b in omega (arith, e)

pub all_push : (a : List (List Piece)) (x : List Piece) → feeds_among_all (a ++ x ∷ []) ≡ feeds_among_all a + feeds_among x
all_push a x = let e = all_append a (x ∷ []) in omega (arith, e)

-- ---- pieces that have line feeds only in comments and line feeds

abbrev pub IsTidy : Piece → Type 0
IsTidy p = is_spaced p.kind ≡ false → feeds_of p.text ≡ 0

abbrev pub AreTidy : List Piece → Type 0
AreTidy [] = Unit {0}
AreTidy (p ∷ rest) = IsTidy p × AreTidy rest

pub tidy_append : (a b : List Piece) → AreTidy a → AreTidy b → AreTidy (a ++ b)
tidy_append [] b ha hb = hb
tidy_append (p ∷ a) b ha hb = (ha.0, tidy_append a b ha.1 hb)

pub tidy_drop : (n : ℕ) (pieces : List Piece) → AreTidy pieces → AreTidy (drop n pieces)
tidy_drop zero pieces h = h
tidy_drop (suc n) [] h = tt
tidy_drop (suc n) (p ∷ rest) h = tidy_drop n rest h.1

pub tidy_take : (n : ℕ) (pieces : List Piece) → AreTidy pieces → AreTidy (take n pieces)
tidy_take zero pieces h = tt
tidy_take (suc n) [] h = tt
tidy_take (suc n) (p ∷ rest) h = (h.0, tidy_take n rest h.1)

pub quiet_tidy : (pieces : List Piece) → feeds_among pieces ≡ 0 → AreTidy pieces
quiet_tidy [] h = tt
quiet_tidy (p ∷ rest) h = ((λ other. omega (arith, h)), quiet_tidy rest (omega (arith, h)))

-- ---- either of two

pub either_quiet : (b : Bool) (x y : List Piece) → feeds_among x ≡ 0 → feeds_among y ≡ 0 → feeds_among (if b then x else y) ≡ 0
either_quiet true x y hx hy = hx
either_quiet false x y hx hy = hy

pub either_all : (b : Bool) (x y : List (List Piece)) → feeds_among_all x ≡ 0 → feeds_among_all y ≡ 0 → feeds_among_all (if b then x else y) ≡ 0
either_all true x y hx hy = hx
either_all false x y hx hy = hy

-- ---- cutting and pasting

parts_le : (n : ℕ) (bytes : List ℕ) → feeds_of (take n bytes) + feeds_of (drop (max 1 n) bytes) ≤ feeds_of bytes
parts_le zero bytes = let e = feeds_parts 1 bytes in omega (arith, e)
parts_le (suc n) bytes = let m : max 1 (suc n) ≡ suc n = omega arith in let e = feeds_parts (suc n) bytes in rw m (omega (arith, e))

cut_in_few : (k line : ℕ) (bytes : List ℕ) → feeds_among (cut_in k line bytes) ≤ feeds_of bytes
unfolding cut_in
cut_in_few zero line bytes = omega arith
cut_in_few (suc k) line [] = omega arith
cut_in_few (suc k) line (b ∷ rest) =
    let n : ℕ = (front_of (b ∷ rest)).1 in
    let more = cut_in_few k line (drop (max 1 n) (b ∷ rest)) in
    let parts = parts_le n (b ∷ rest) in
    omega (arith, more, parts)

cut_few : (line : ℕ) (bytes : List ℕ) → feeds_among (cut line bytes) ≤ feeds_of bytes
unfolding cut
cut_few line bytes = cut_in_few (length bytes) line bytes

pub joined_few : (line : ℕ) (now part : List Piece) → feeds_among (joined line now part) ≤ feeds_among now + feeds_among part
unfolding joined
joined_few line [] part = omega arith
joined_few line (p ∷ now) [] = omega arith
joined_few line (p ∷ []) (q ∷ behind) =
    let all = among_append (cut line (p.text ++ q.text)) behind in
    let few = cut_few line (p.text ++ q.text) in
    let both = feeds_append p.text q.text in
    omega (arith, all, few, both)
joined_few line (p ∷ r ∷ now) (q ∷ behind) = let few = joined_few line (r ∷ now) (q ∷ behind) in omega (arith, few)

-- ---- bodies with arguments

argument_few : (arguments : List (List Piece)) (n : ℕ) → feeds_among (argument_at arguments n) ≤ feeds_among_all arguments
argument_few [] n = omega arith
argument_few (a ∷ rest) zero = omega arith
argument_few (a ∷ rest) (suc n) = let few = argument_few rest n in omega (arith, few)

stands_by_quiet : (arguments : List (List Piece)) (line : ℕ) (p : Piece) (o : Option ℕ) → feeds_among_all arguments ≡ 0 → feeds_of p.text ≡ 0 → feeds_among (stands_by arguments line p o) ≡ 0
stands_by_quiet arguments line p None all quiet = omega (arith, quiet)
stands_by_quiet arguments line p (Some n) all quiet = let few = argument_few arguments n in omega (arith, few, all)

stands_quiet : (raw full : List (List Piece)) (line : ℕ) (p : Piece) (mark : Mark) → feeds_among_all raw ≡ 0 → feeds_among_all full ≡ 0 → feeds_of p.text ≡ 0 → feeds_among (stands raw full line p mark) ≡ 0
stands_quiet raw full line p mark hr hf quiet =
    stands_by_quiet (if mark.glued || mark.glues then raw else full) line p mark.parameter (either_all (mark.glued || mark.glues) raw full hr hf) quiet

filled_quiet : (line : ℕ) (body : List Piece) (marks : List Mark) (raw full : List (List Piece)) (done now : List Piece) → feeds_among_all raw ≡ 0 → feeds_among_all full ≡ 0 → feeds_among body ≡ 0 → feeds_among done ≡ 0 → feeds_among now ≡ 0 → feeds_among (filled line body marks raw full done now) ≡ 0
unfolding filled
filled_quiet line [] marks raw full done now hr hf hb hd hn = let all = among_append done now in omega (arith, all, hd, hn)
filled_quiet line (p ∷ body) [] raw full done now hr hf hb hd hn = let all = among_append done now in omega (arith, all, hd, hn)
filled_quiet line (p ∷ body) (mark ∷ marks) raw full done now hr hf hb hd hn =
    let part : feeds_among (stands raw full line p mark) ≡ 0 = stands_quiet raw full line p mark hr hf (omega (arith, hb)) in
    let few = joined_few line now (stands raw full line p mark) in
    let all = among_append done now in
    either_quiet mark.glued
    (filled line body marks raw full done (joined line now (stands raw full line p mark)))
    (filled line body marks raw full (done ++ now) (stands raw full line p mark))
    (filled_quiet line body marks raw full done (joined line now (stands raw full line p mark)) hr hf (omega (arith, hb)) hd (omega (arith, few, hn, part)))
    (filled_quiet line body marks raw full (done ++ now) (stands raw full line p mark) hr hf (omega (arith, hb)) (omega (arith, all, hd, hn)) part)

pub substituted_quiet : (line : ℕ) (body : List Piece) (marks : List Mark) (raw full : List (List Piece)) → feeds_among_all raw ≡ 0 → feeds_among_all full ≡ 0 → feeds_among body ≡ 0 → feeds_among (substituted line body marks raw full) ≡ 0
unfolding substituted
substituted_quiet line body marks raw full hr hf hb = filled_quiet line body marks raw full [] [] hr hf hb refl refl

-- ---- the line feeds of a call

one_feed : (line : ℕ) (given : List Piece) (b : Bool) → feeds_among (if b then given ++ feed line ∷ [] else given) ≡ feeds_among given + (if b then 1 else 0)
one_feed line given true = among_append given (feed line ∷ [])
one_feed line given false = omega arith

feeds_of_one : (line : ℕ) (given : List Piece) (bytes : List ℕ) → feeds_among (fold (with_feed line) given bytes) ≡ feeds_among given + feeds_of bytes
feeds_of_one line given [] = omega arith
feeds_of_one line given (b ∷ bytes) =
    let more = feeds_of_one line (with_feed line given b) bytes in
    let one = one_feed line given (b == 10) in
    let e = feeds_cons b bytes in
    omega (arith, more, one, e)

pub with_feeds_among : (line : ℕ) (given pieces : List Piece) → feeds_among (with_feeds line given pieces) ≡ feeds_among given + feeds_among pieces
unfolding with_feeds
with_feeds_among line given [] = omega arith
with_feeds_among line given (p ∷ rest) =
    let more = with_feeds_among line (with_feeds_of line given p) rest in
    let one = feeds_of_one line given p.text in
    omega (arith, more, one)

-- ---- arguments

in_argument_by : (line : ℕ) (p : Piece) (b : Bool) → (b ≡ false → feeds_of p.text ≡ 0) → feeds_of (if b then record { kind = Byte 32; text = 32 ∷ []; line = line; frozen = false } else record p { line = line }).text ≡ 0
in_argument_by line p true h = refl
in_argument_by line p false h = h refl

pub stripped_few : (pieces : List Piece) → feeds_among (stripped pieces) ≤ feeds_among pieces
unfolding stripped
stripped_few pieces =
    let solid : List Piece = take (solid_len pieces) pieces in
    let front = among_parts (solid_len pieces) pieces in
    let back = among_parts (prefix_len (λ p. is_white p.kind) solid) solid in
    omega (arith, front, back)

gathered_quiet : (line depth : ℕ) (done : List (List Piece)) (now pieces : List Piece) → AreTidy pieces → feeds_among_all done ≡ 0 → feeds_among now ≡ 0 → feeds_among_all (gathered line depth done now pieces) ≡ 0
unfolding gathered
gathered_quiet line depth done now [] tidy hd hn =
    let all = all_push done (stripped now) in let few = stripped_few now in omega (arith, all, few, hd, hn)
gathered_quiet line depth done now (p ∷ rest) tidy hd hn =
    let all = all_push done (stripped now) in
    let few = stripped_few now in
    let one : feeds_of (in_argument line p).text ≡ 0 = in_argument_by line p (is_spaced p.kind) tidy.0 in
    let more = among_append now (in_argument line p ∷ []) in
    either_all (is_byte 44 p.kind && (depth == 0))
    (gathered line depth (done ++ stripped now ∷ []) [] rest)
    (gathered line (depth_after depth p.kind) done (now ++ in_argument line p ∷ []) rest)
    (gathered_quiet line depth (done ++ stripped now ∷ []) [] rest tidy.1 (omega (arith, all, few, hd, hn)) refl)
    (gathered_quiet line (depth_after depth p.kind) done (now ++ in_argument line p ∷ []) rest tidy.1 hd (omega (arith, more, one, hn)))

abbrev pub AreQuiet : Option (List (List Piece)) → Type 0
AreQuiet None = Unit {0}
AreQuiet (Some arguments) = feeds_among_all arguments ≡ 0

so_many_quiet : (b : Bool) (arguments : List (List Piece)) → feeds_among_all arguments ≡ 0 → AreQuiet (if b then Some arguments else None)
so_many_quiet true arguments h = h
so_many_quiet false arguments h = tt

pub arguments_quiet : (arity line : ℕ) (pieces : List Piece) → AreTidy pieces → AreQuiet (arguments_of arity line pieces)
unfolding arguments_of
arguments_quiet arity line pieces tidy =
    let all : List (List Piece) = gathered line 0 [] [] pieces in
    let quiet : feeds_among_all all ≡ 0 = gathered_quiet line 0 [] [] pieces tidy refl refl in
    so_many_quiet (length (without_empty arity all) == arity) (without_empty arity all) (either_all ((arity == 0) && is_empty_list all) [] all refl quiet)

-- ---- the pieces of a directive

spaced_by : (p : Piece) (b : Bool) → (b ≡ false → feeds_of p.text ≡ 0) → feeds_of (if b then record { kind = Byte 32; text = 32 ∷ []; line = p.line; frozen = false } else p).text ≡ 0
spaced_by p true h = refl
spaced_by p false h = h refl

pub spliced_quiet : (pieces : List Piece) → AreTidy pieces → feeds_among (spliced pieces) ≡ 0
unfolding spliced
spliced_quiet [] tidy = refl
spliced_quiet (p ∷ rest) tidy =
    let more : feeds_among (spliced rest) ≡ 0 = spliced_quiet rest tidy.1 in
    let one : feeds_of (spaced p).text ≡ 0 = spaced_by p (is_spaced p.kind) tidy.0 in
    either_quiet (is_byte 92 p.kind && first_is_feed rest) (spliced rest) (spaced p ∷ spliced rest) more (omega (arith, one, more))

-- ---- line feeds alone

filter_by : (b : ℕ) (rest : List ℕ) (t : Bool) → (b == 10) ≡ t → feeds_of (filter (λ x. x == 10) rest) ≡ feeds_of rest → feeds_of (if t then b ∷ filter (λ x. x == 10) rest else filter (λ x. x == 10) rest) ≡ feeds_of (b ∷ rest)
filter_by b rest true e h = let f = feeds_cons b (filter (λ x. x == 10) rest) in let g = feeds_cons b rest in omega (arith, f, g, h)
filter_by b rest false e h = let g = feeds_cons b rest in let z : one_if b ≡ 0 = rw e refl in omega (arith, g, z, h)

pub feeds_in_all : (text : List ℕ) → feeds_of (feeds_in text) ≡ feeds_of text
feeds_in_all [] = refl
feeds_in_all (b ∷ rest) = filter_by b rest (b == 10) refl (feeds_in_all rest)

-- ---- the pieces of a text

not_feed_by : (p : ℕ → Bool) (b : ℕ) (t : Bool) → (b == 10) ≡ t → p 10 ≡ false → p b ≡ true → (b == 10) ≡ false
not_feed_by p b true e lacks passes = absurd (false≢true (sym lacks ∙ ap p (sym (eqb-true b 10 e)) ∙ passes))
not_feed_by p b false e lacks passes = e

not_feed : (p : ℕ → Bool) (b : ℕ) → p 10 ≡ false → p b ≡ true → (b == 10) ≡ false
not_feed p b lacks passes = not_feed_by p b (b == 10) refl lacks passes

feeds_none : (b : ℕ) (rest : List ℕ) → (b == 10) ≡ false → feeds_of rest ≡ 0 → feeds_of (b ∷ rest) ≡ 0
feeds_none b rest e h = let g = feeds_cons b rest in let z : one_if b ≡ 0 = rw e refl in omega (arith, g, z, h)

quoted_by : (mark : ℕ) (b : ℕ) (rest : List ℕ) (next : Bool) (t u : Bool) → (b == 10) ≡ t → feeds_of (take (quoted_len mark next rest) rest) ≡ 0 → feeds_of (take (if t then 0 else (if u then 1 else 1 + quoted_len mark next rest)) (b ∷ rest)) ≡ 0
quoted_by mark b rest next true u e h = refl
quoted_by mark b rest next false true e h = feeds_none b [] e refl
quoted_by mark b rest next false false e h = rw one-add (feeds_none b (take (quoted_len mark next rest) rest) e h)

quoted_quiet : (mark : ℕ) (escaped : Bool) (bytes : List ℕ) → feeds_of (take (quoted_len mark escaped bytes) bytes) ≡ 0
unfolding quoted_len
quoted_quiet mark escaped [] = refl
quoted_quiet mark escaped (b ∷ rest) =
    quoted_by mark b rest ((b == 92) && not escaped) (b == 10) ((b == mark) && not escaped) refl (quoted_quiet mark ((b == 92) && not escaped) rest)

prefix_by : (p : ℕ → Bool) (b : ℕ) (rest : List ℕ) (t : Bool) → p 10 ≡ false → p b ≡ t → feeds_of (take (prefix_len p rest) rest) ≡ 0 → feeds_of (take (if t then 1 + prefix_len p rest else 0) (b ∷ rest)) ≡ 0
prefix_by p b rest true lacks passes h = rw one-add (feeds_none b (take (prefix_len p rest) rest) (not_feed p b lacks passes) h)
prefix_by p b rest false lacks passes h = refl

prefix_quiet : (p : ℕ → Bool) → p 10 ≡ false → (bytes : List ℕ) → feeds_of (take (prefix_len p bytes) bytes) ≡ 0
prefix_quiet p lacks [] = refl
prefix_quiet p lacks (b ∷ rest) = prefix_by p b rest (p b) lacks refl (prefix_quiet p lacks rest)

-- the first piece of bytes
abbrev FrontIsTidy : List ℕ → PieceKind × ℕ → Type 0
FrontIsTidy bytes front = is_spaced front.0 ≡ false → feeds_of (take (max 1 front.1) bytes) ≡ 0

either_front : (bytes : List ℕ) (t : Bool) (x y : PieceKind × ℕ) → (t ≡ true → FrontIsTidy bytes x) → (t ≡ false → FrontIsTidy bytes y) → FrontIsTidy bytes (if t then x else y)
either_front bytes true x y hx hy = hx refl
either_front bytes false x y hx hy = hy refl

at_least_one : (b n : ℕ) (rest : List ℕ) → (b == 10) ≡ false → feeds_of (take n (b ∷ rest)) ≡ 0 → feeds_of (take (max 1 n) (b ∷ rest)) ≡ 0
at_least_one b zero rest e h = feeds_none b [] e refl
at_least_one b (suc n) rest e h = let m : max 1 (suc n) ≡ suc n = omega arith in rw m h

front_tidy : (b : ℕ) (rest : List ℕ) → FrontIsTidy (b ∷ rest) (front_of (b ∷ rest))
unfolding front_of
front_tidy b rest =
    either_front (b ∷ rest) (begins_comment (b ∷ rest)) (Comment, comment_len (b ∷ rest)) _ (λ t other. absurd (true≢false other)) (λ t1.
    either_front (b ∷ rest) ((b == 34) || (b == 39)) (Quoted, 1 + quoted_len b false rest) _ (λ t other. at_least_one b (1 + quoted_len b false rest) rest (not_feed (λ x. (x == 34) || (x == 39)) b refl t) (rw one-add (feeds_none b (take (quoted_len b false rest) rest) (not_feed (λ x. (x == 34) || (x == 39)) b refl t) (quoted_quiet b false rest)))) (λ t2.
    either_front (b ∷ rest) (is_word_start b) (Word, prefix_len is_word_byte (b ∷ rest)) _ (λ t other. at_least_one b (prefix_len is_word_byte (b ∷ rest)) rest (not_feed is_word_start b refl t) (prefix_quiet is_word_byte refl (b ∷ rest))) (λ t3.
    either_front (b ∷ rest) (is_ascii_digit b) (Number, prefix_len is_word_byte (b ∷ rest)) _ (λ t other. at_least_one b (prefix_len is_word_byte (b ∷ rest)) rest (not_feed is_ascii_digit b refl t) (prefix_quiet is_word_byte refl (b ∷ rest))) (λ t4.
    either_front (b ∷ rest) (b == 10) (Feed, 1) (Byte b, 1) (λ t other. absurd (true≢false other)) (λ t other. feeds_none b [] t refl)))))

-- it has no line feed, where its kind has none
pub front_quiet : (rest : List ℕ) (front : PieceKind × ℕ) → front ≡ front_of rest → 0 < length rest → 0 < front.1 → is_spaced front.0 ≡ false → feeds_of (take front.1 rest) ≡ 0
front_quiet [] front is some one other = absurd (omega (arith, some))
front_quiet (b ∷ rest) front is some one other =
    let more : front.1 ≡ max 1 front.1 = omega (arith, one) in
    ap (λ (n : ℕ). feeds_of (take n (b ∷ rest))) (more ∙ ap (λ (f : PieceKind × ℕ). max 1 f.1) is)
    ∙ front_tidy b rest (ap (λ (f : PieceKind × ℕ). is_spaced f.0) (sym is) ∙ other)

pub text_tidy : (k line : ℕ) (bytes : List ℕ) → AreTidy (text_pieces k line bytes)
unfolding text_pieces
text_tidy zero line bytes = tt
text_tidy (suc k) line [] = tt
text_tidy (suc k) line (b ∷ rest) =
    let n : ℕ = max 1 (front_of (b ∷ rest)).1 in
    (front_tidy b rest, text_tidy k (line + feeds_of (take n (b ∷ rest))) (drop n (b ∷ rest)))
