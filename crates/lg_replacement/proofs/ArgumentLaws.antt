-- The pieces of a call, and its arguments.
use Rattle.std.proofs.Common.{◌≡◌, ◌⊎◌, ℕ, suc, ◌+◌, ◌-◌, ◌==◌, Bool, true, false, ◌&&◌, List, [], ◌∷◌, ◌++◌, length, map, take, drop, Option, Some, None, refl, sym, ap, inl, inr, ◌∙◌, arith}
use Rattle.std.specs.Prelude.{if◌then◌else◌}
use Rattle.std.specs.List.{prefix_len}
use Rattle.std.proofs.lemmas.Bool.{eq-eqb, ne_eqb}
use Rattle.std.proofs.lemmas.List.{length-append, map-append, append-nil}
use Rattle.lg_lex.specs.Bytes.{further}
use Rattle.lg_lex.proofs.ByteLemmas.{eqb_true}
use Rattle.lg_macro.specs.Arguments.{arguments_of, closing, depth_after, gathered, if_so_many, in_argument, is_empty_list, opening, solid_len, stripped, without_empty}
use Rattle.lg_replacement.specs.Calls.{AreArguments, AreSoMany, AreWhite, IsBalanced, IsCall, IsParted, IsStripped, empty, other, group, last, next}
use Rattle.lg_macro.specs.Pieces.{Piece, is_byte, is_white}
use Rattle.lg_macro.specs.declared.pieces.PieceKind.{PieceKind}
use Rattle.lg_macro.specs.declared.pieces.PieceKind.TheVariants.{Byte, Comment, Feed, Quoted, Word, Number}
use Rattle.lg_replacement.proofs.ReplacementLemmas.{append-again}

-- ---- parentheses

further_both : (m n : ℕ) (o : Option ℕ) → further m (further n o) ≡ further (m + n) o
further_both m n None = refl
further_both m n (Some k) = ap Some (let e : m + (n + k) ≡ m + n + k = omega arith in e)

further_none : (o : Option ℕ) → further 0 o ≡ o
further_none None = refl
further_none (Some k) = ap Some (let e : 0 + k ≡ k = omega arith in e)

not_41 : (kind : PieceKind) → is_byte 40 kind ≡ true → is_byte 41 kind ≡ false
not_41 (Byte b) h = let e : b ≡ 40 = eqb_true b 40 h in rw e refl
not_41 kind h = let bad : false ≡ true = h in cc

not_40 : (kind : PieceKind) → is_byte 41 kind ≡ true → is_byte 40 kind ≡ false
not_40 (Byte b) h = let e : b ≡ 41 = eqb_true b 41 h in rw e refl
not_40 kind h = let bad : false ≡ true = h in cc

-- a comma, a ( and a ) are different
not_44 : (kind : PieceKind) → is_byte 44 kind ≡ true → (is_byte 40 kind ≡ false) × (is_byte 41 kind ≡ false)
not_44 (Byte b) h = let e : b ≡ 44 = eqb_true b 44 h in (rw e refl, rw e refl)
not_44 kind h = (refl, refl)

left_no_comma : (kind : PieceKind) → is_byte 40 kind ≡ true → is_byte 44 kind ≡ false
left_no_comma (Byte b) h = let e : b ≡ 40 = eqb_true b 40 h in rw e refl
left_no_comma kind h = refl

right_no_comma : (kind : PieceKind) → is_byte 41 kind ≡ true → is_byte 44 kind ≡ false
right_no_comma (Byte b) h = let e : b ≡ 41 = eqb_true b 41 h in rw e refl
right_no_comma kind h = refl

left_not_white : (kind : PieceKind) → is_byte 40 kind ≡ true → is_white kind ≡ false
left_not_white (Byte b) h = let e : b ≡ 40 = eqb_true b 40 h in rw e refl
left_not_white Comment h = let bad : false ≡ true = h in cc
left_not_white Feed h = let bad : false ≡ true = h in cc
left_not_white kind h = refl

depth_same : (depth : ℕ) (kind : PieceKind) → is_byte 40 kind ≡ false → is_byte 41 kind ≡ false → depth_after depth kind ≡ depth
depth_same depth kind left right = rw (left, right) refl

depth_left : (depth : ℕ) (kind : PieceKind) → is_byte 40 kind ≡ true → depth_after depth kind ≡ suc depth
depth_left depth kind left = rw left (let e : depth + 1 ≡ suc depth = omega arith in e)

depth_right : (depth : ℕ) (kind : PieceKind) → is_byte 41 kind ≡ true → depth_after (suc depth) kind ≡ depth
depth_right depth kind right = rw (not_40 kind right, right) (let e : suc depth - 1 ≡ depth = omega arith in e)

is_open : (depth : ℕ) → (suc depth == 0) ≡ false
is_open depth = ne_eqb _ _ (λ e. omega (arith, e))

-- the ( of a call
pub opening_after : (white : List Piece) (left : Piece) (rest : List Piece) → AreWhite white → is_byte 40 left.kind ≡ true → opening (white ++ (left ∷ rest)) ≡ Some (length white + 1)
unfolding opening
opening_after [] left rest h mark = rw (left_not_white left.kind mark, mark) refl
opening_after (p ∷ white) left rest h mark =
    rw h.0 (ap (further 1) (opening_after white left rest h.1 mark) ∙ ap Some (let e : 1 + (length white + 1) ≡ length (p ∷ white) + 1 = omega arith in e))

-- ---- the ) of a call

closing_on : (depth : ℕ) (p : Piece) (rest : List Piece) → (is_byte 41 p.kind && (depth == 0)) ≡ false → closing depth (p ∷ rest) ≡ further 1 (closing (depth_after depth p.kind) rest)
unfolding closing
closing_on depth p rest h = rw h refl

closing_one : (depth : ℕ) (p : Piece) (rest : List Piece) → is_byte 41 p.kind ≡ false → closing depth (p ∷ rest) ≡ further 1 (closing (depth_after depth p.kind) rest)
closing_one depth p rest h = closing_on depth p rest (ap (λ b. b && (depth == 0)) h)

closing_inner : (depth : ℕ) (p : Piece) (rest : List Piece) → is_byte 41 p.kind ≡ true → closing (suc depth) (p ∷ rest) ≡ further 1 (closing depth rest)
closing_inner depth p rest h =
    closing_on (suc depth) p rest (ap (λ b. b && (suc depth == 0)) h ∙ is_open depth) ∙ ap (λ d. further 1 (closing d rest)) (depth_right depth p.kind h)

pub closing_last : (p : Piece) (rest : List Piece) → is_byte 41 p.kind ≡ true → closing 0 (p ∷ rest) ≡ Some 0
unfolding closing
closing_last p rest h = rw h refl

long_group : (left : Piece) (inside : List Piece) (right : Piece) (rest : List Piece) → length (left ∷ (inside ++ (right ∷ rest))) ≡ 1 + (length inside + (1 + length rest))
long_group left inside right rest = let e = length-append inside (right ∷ rest) in omega (arith, e)

group_after : (left : Piece) (inside : List Piece) (right : Piece) (rest tail : List Piece) → (left ∷ (inside ++ (right ∷ rest))) ++ tail ≡ left ∷ (inside ++ (right ∷ (rest ++ tail)))
group_after left inside right rest tail = ap (λ l. left ∷ l) (append-again inside (right ∷ rest) tail)

closing_over : {commas : Bool} {part : List Piece} → IsBalanced commas part → (depth : ℕ) (tail : List Piece) → closing depth (part ++ tail) ≡ further (length part) (closing depth tail)
closing_over (empty commas) depth tail = sym (further_none (closing depth tail))
closing_over (other commas p rest left right comma more) depth tail =
    closing_one depth p (rest ++ tail) right
    ∙ ap (λ d. further 1 (closing d (rest ++ tail))) (depth_same depth p.kind left right)
    ∙ ap (further 1) (closing_over more depth tail)
    ∙ further_both 1 (length rest) (closing depth tail)
    ∙ ap (λ n. further n (closing depth tail)) (let e : 1 + length rest ≡ length (p ∷ rest) = omega arith in e)
closing_over (group commas left inside right rest opens closes within more) depth tail =
    ap (closing depth) (group_after left inside right rest tail)
    ∙ closing_one depth left (inside ++ (right ∷ (rest ++ tail))) (not_41 left.kind opens)
    ∙ ap (λ d. further 1 (closing d (inside ++ (right ∷ (rest ++ tail))))) (depth_left depth left.kind opens)
    ∙ ap (further 1) (closing_over within (suc depth) (right ∷ (rest ++ tail)))
    ∙ ap (λ o. further 1 (further (length inside) o)) (closing_inner depth right (rest ++ tail) closes)
    ∙ ap (λ o. further 1 (further (length inside) (further 1 o))) (closing_over more depth tail)
    ∙ ap (λ o. further 1 (further (length inside) o)) (further_both 1 (length rest) (closing depth tail))
    ∙ ap (further 1) (further_both (length inside) (1 + length rest) (closing depth tail))
    ∙ further_both 1 (length inside + (1 + length rest)) (closing depth tail)
    ∙ ap (λ n. further n (closing depth tail)) (sym (long_group left inside right rest))

pub closing_parted : {inside : List Piece} {parts : List (List Piece)} → IsParted inside parts → (tail : List Piece) → closing 0 (inside ++ tail) ≡ further (length inside) (closing 0 tail)
closing_parted (last part balanced) tail = closing_over balanced 0 tail
closing_parted (next part comma rest parts balanced mark more) tail =
    let kinds = not_44 comma.kind mark in
    ap (closing 0) (append-again part (comma ∷ rest) tail)
    ∙ closing_over balanced 0 (comma ∷ (rest ++ tail))
    ∙ ap (further (length part)) (closing_one 0 comma (rest ++ tail) kinds.1
    ∙ ap (λ d. further 1 (closing d (rest ++ tail))) (depth_same 0 comma.kind kinds.0 kinds.1)
    ∙ ap (further 1) (closing_parted more tail)
    ∙ further_both 1 (length rest) (closing 0 tail))
    ∙ further_both (length part) (1 + length rest) (closing 0 tail)
    ∙ ap (λ n. further n (closing 0 tail)) (let e = length-append part (comma ∷ rest) in let is : length part + (1 + length rest) ≡ length (part ++ (comma ∷ rest)) = omega (arith, e) in is)

-- ---- the arguments of a call

gathered_one : (line depth : ℕ) (done : List (List Piece)) (now : List Piece) (p : Piece) (rest : List Piece) → (is_byte 44 p.kind && (depth == 0)) ≡ false
    → gathered line depth done now (p ∷ rest) ≡ gathered line (depth_after depth p.kind) done (now ++ (in_argument line p ∷ [])) rest
unfolding gathered
gathered_one line depth done now p rest h = rw h refl

gathered_next : (line : ℕ) (done : List (List Piece)) (now : List Piece) (p : Piece) (rest : List Piece) → is_byte 44 p.kind ≡ true
    → gathered line 0 done now (p ∷ rest) ≡ gathered line 0 (done ++ (stripped now ∷ [])) [] rest
unfolding gathered
gathered_next line done now p rest h = rw h refl

gathered_last : (line depth : ℕ) (done : List (List Piece)) (now : List Piece) → gathered line depth done now [] ≡ done ++ (stripped now ∷ [])
unfolding gathered
gathered_last line depth done now = refl

-- no comma parts the pieces: there is none outside of parentheses, or some are open
abbrev PartsNot : Bool → ℕ → Type 0
PartsNot commas depth = commas ≡ true → (depth == 0) ≡ false

no_part : (commas : Bool) (depth : ℕ) (kind : PieceKind) → PartsNot commas depth → (is_byte 44 kind ≡ true → commas ≡ true) → (is_byte 44 kind && (depth == 0)) ≡ false
no_part commas depth kind not comma = by (is_byte 44 kind) refl
  where
    by : (b : Bool) → is_byte 44 kind ≡ b → (b && (depth == 0)) ≡ false
    by false is = refl
    by true is = not (comma is)

one_more : (line : ℕ) (now : List Piece) (p : Piece) (rest : List Piece) → (now ++ (in_argument line p ∷ [])) ++ map (in_argument line) rest ≡ now ++ map (in_argument line) (p ∷ rest)
one_more line now p rest = append-again now (in_argument line p ∷ []) (map (in_argument line) rest)

group_in : (line : ℕ) (now : List Piece) (left : Piece) (inside : List Piece) (right : Piece) (rest : List Piece)
    → ((((now ++ (in_argument line left ∷ [])) ++ map (in_argument line) inside) ++ (in_argument line right ∷ [])) ++ map (in_argument line) rest) ≡ now ++ map (in_argument line) (left ∷ (inside ++ (right ∷ rest)))
group_in line now left inside right rest =
    let f = in_argument line in
    append-again ((now ++ (f left ∷ [])) ++ map f inside) (f right ∷ []) (map f rest)
    ∙ append-again (now ++ (f left ∷ [])) (map f inside) (f right ∷ map f rest)
    ∙ append-again now (f left ∷ []) (map f inside ++ (f right ∷ map f rest))
    ∙ ap (λ l. now ++ (f left ∷ l)) (sym (map-append f inside (right ∷ rest)))

gathered_over : {commas : Bool} {part : List Piece} → IsBalanced commas part → (line depth : ℕ) (done : List (List Piece)) (now tail : List Piece) → PartsNot commas depth
    → gathered line depth done now (part ++ tail) ≡ gathered line depth done (now ++ map (in_argument line) part) tail
gathered_over (empty commas) line depth done now tail not = ap (λ l. gathered line depth done l tail) (sym (append-nil now))
gathered_over (other commas p rest left right comma more) line depth done now tail not =
    gathered_one line depth done now p (rest ++ tail) (no_part commas depth p.kind not comma)
    ∙ ap (λ d. gathered line d done (now ++ (in_argument line p ∷ [])) (rest ++ tail)) (depth_same depth p.kind left right)
    ∙ gathered_over more line depth done (now ++ (in_argument line p ∷ [])) tail not
    ∙ ap (λ l. gathered line depth done l tail) (one_more line now p rest)
gathered_over (group commas left inside right rest opens closes within more) line depth done now tail not =
    let f = in_argument line in
    let in_left = now ++ (f left ∷ []) in
    let in_inside = in_left ++ map f inside in
    ap (gathered line depth done now) (group_after left inside right rest tail)
    ∙ gathered_one line depth done now left (inside ++ (right ∷ (rest ++ tail))) (ap (λ b. b && (depth == 0)) (left_no_comma left.kind opens))
    ∙ ap (λ d. gathered line d done in_left (inside ++ (right ∷ (rest ++ tail)))) (depth_left depth left.kind opens)
    ∙ gathered_over within line (suc depth) done in_left (right ∷ (rest ++ tail)) (λ any. is_open depth)
    ∙ gathered_one line (suc depth) done in_inside right (rest ++ tail) (ap (λ b. b && (suc depth == 0)) (right_no_comma right.kind closes))
    ∙ ap (λ d. gathered line d done (in_inside ++ (f right ∷ [])) (rest ++ tail)) (depth_right depth right.kind closes)
    ∙ gathered_over more line depth done (in_inside ++ (f right ∷ [])) tail not
    ∙ ap (λ l. gathered line depth done l tail) (group_in line now left inside right rest)

no_commas : (b : Bool) → PartsNot false 0
no_commas b = λ e. let bad : false ≡ true = e in cc

gathered_parted : {inside : List Piece} {parts : List (List Piece)} → IsParted inside parts → (line : ℕ) (done : List (List Piece)) → gathered line 0 done [] inside ≡ done ++ map (λ part. stripped (map (in_argument line) part)) parts
gathered_parted (last part balanced) line done =
    ap (gathered line 0 done []) (sym (append-nil part))
    ∙ gathered_over balanced line 0 done [] [] (no_commas true)
    ∙ gathered_last line 0 done (map (in_argument line) part)
gathered_parted (next part comma rest parts balanced mark more) line done =
    gathered_over balanced line 0 done [] (comma ∷ rest) (no_commas true)
    ∙ gathered_next line done (map (in_argument line) part) comma rest mark
    ∙ gathered_parted more line (done ++ (stripped (map (in_argument line) part) ∷ []))
    ∙ append-again done (stripped (map (in_argument line) part) ∷ []) (map (λ part. stripped (map (in_argument line) part)) parts)

-- ---- white space at the ends

solid_white : (pieces : List Piece) → AreWhite pieces → solid_len pieces ≡ 0
unfolding solid_len
solid_white [] h = refl
solid_white (p ∷ rest) h = rw (solid_white rest h.1, h.0) refl

solid_to : (more : List Piece) (p : Piece) (behind : List Piece) → is_white p.kind ≡ false → AreWhite behind → solid_len (more ++ (p ∷ behind)) ≡ suc (length more)
unfolding solid_len
solid_to [] p behind h white = rw (solid_white behind white, h) refl
solid_to (q ∷ more) p behind h white = rw (solid_to more p behind h white) refl

white_len : (before : List Piece) (p : Piece) (more : List Piece) → AreWhite before → is_white p.kind ≡ false → prefix_len (λ q. is_white q.kind) (before ++ (p ∷ more)) ≡ length before
white_len [] p more white h = rw h refl
white_len (q ∷ before) p more white h = rw white.0 (let e = white_len before p more white.1 h in omega (arith, e))

-- a list that is not empty has a last member
pub split_last : (p : Piece) (rest : List Piece) → (more : List Piece) × (z : Piece) × (p ∷ rest ≡ more ++ (z ∷ []))
split_last p [] = ([], p, refl)
split_last p (q ∷ rest) = let s = split_last q rest in (p ∷ s.0, s.1, ap (λ l. p ∷ l) s.2)

all_white : (before behind : List Piece) → AreWhite before → AreWhite behind → AreWhite (before ++ behind)
all_white [] behind h g = g
all_white (p ∷ before) behind h g = (h.0, all_white before behind h.1 g)

pub take_whole : (front back : List Piece) → take (length front) (front ++ back) ≡ front
take_whole [] back = refl
take_whole (p ∷ front) back = ap (λ l. p ∷ l) (take_whole front back)

pub drop_whole : (front back : List Piece) → drop (length front) (front ++ back) ≡ back
drop_whole [] back = refl
drop_whole (p ∷ front) back = drop_whole front back

stripped_empty : (pieces : List Piece) → AreWhite pieces → stripped pieces ≡ []
unfolding stripped
stripped_empty pieces h = rw (solid_white pieces h) refl

stripped_at : (n : ℕ) (pieces solid inner : List Piece) (k : ℕ) → solid_len pieces ≡ n → take n pieces ≡ solid → prefix_len (λ q. is_white q.kind) solid ≡ k → drop k solid ≡ inner → stripped pieces ≡ inner
unfolding stripped
stripped_at n pieces solid inner k e₁ e₂ e₃ e₄ = rw (e₁, e₂, e₃) e₄

stripped_is : (pieces inner : List Piece) → IsStripped pieces inner → stripped pieces ≡ inner
stripped_is pieces [] h = ap stripped h.is ∙ stripped_empty (h.before ++ h.behind) (all_white h.before h.behind h.white_before h.white_after)
stripped_is pieces (p ∷ rest) h =
    let s = split_last p rest in
    let solid = h.before ++ (p ∷ rest) in
    let whole : pieces ≡ (h.before ++ s.0) ++ (s.1 ∷ h.behind) =
    h.is ∙ ap (λ l. h.before ++ (l ++ h.behind)) s.2 ∙ ap (λ l. h.before ++ l) (append-again s.0 (s.1 ∷ []) h.behind) ∙ sym (append-again h.before s.0 (s.1 ∷ h.behind)) in
    let long : suc (length (h.before ++ s.0)) ≡ length solid = (let a = length-append h.before s.0 in let b = length-append h.before (p ∷ rest) in let c = ap length s.2 in let d = length-append s.0 (s.1 ∷ []) in omega (arith, a, b, c, d)) in
    let all : solid_len pieces ≡ length solid = ap solid_len whole ∙ solid_to (h.before ++ s.0) s.1 h.behind (h.ends s.0 s.1 s.2) h.white_after ∙ long in
    let front : take (length solid) pieces ≡ solid = ap (take (length solid)) (h.is ∙ sym (append-again h.before (p ∷ rest) h.behind)) ∙ take_whole solid h.behind in
    stripped_at (length solid) pieces solid (p ∷ rest) (length h.before) all front (white_len h.before p rest h.white_before (h.begins p rest refl)) (drop_whole h.before (p ∷ rest))

arguments_are : (line : ℕ) (parts given : List (List Piece)) → AreArguments line parts given → map (λ part. stripped (map (in_argument line) part)) parts ≡ given
arguments_are line [] [] h = refl
arguments_are line (part ∷ parts) (a ∷ given) h = rw (stripped_is (map (in_argument line) part) a h.0, arguments_are line parts given h.1) refl
arguments_are line [] (a ∷ given) h = absurd h
arguments_are line (part ∷ parts) [] h = absurd h

if_one : (given : List (List Piece)) (arity : ℕ) → length given ≡ arity → is_empty_list given ≡ false ⊎ (arity == 0) ≡ false → without_empty arity given ≡ given
if_one given arity h (inl e) = by (arity == 0)
  where
    by : (b : Bool) → (if b && is_empty_list given then [] else given) ≡ given
    by true = rw e refl
    by false = refl
if_one given arity h (inr e) = rw e refl

so_many : (given : List (List Piece)) (arity : ℕ) → length given ≡ arity → without_empty arity given ≡ given
so_many [] arity h = if_one [] arity h (inl refl)
so_many (a ∷ more) arity h = if_one (a ∷ more) arity h (inr (ne_eqb _ _ (λ e. omega (arith, e, h))))

right_number : (given : List (List Piece)) (arity : ℕ) → length given ≡ arity → if_so_many arity given ≡ Some given
right_number given arity h = rw (eq-eqb (length given) arity h) refl

many_are : (arity : ℕ) (given arguments : List (List Piece)) → AreSoMany arity given arguments → if_so_many arity (without_empty arity given) ≡ Some arguments
many_are arity given arguments (inl h) = rw (so_many given arity h.1, right_number given arity h.1) (ap Some (sym h.0))
many_are arity given arguments (inr h) = rw (h.0, h.1, h.2) refl

pub call_arguments : (line arity : ℕ) (call : List Piece) (raw : List (List Piece)) (c : IsCall line arity call raw) → arguments_of arity line c.inside ≡ Some raw
unfolding arguments_of
call_arguments line arity call raw c =
    rw (gathered_parted c.parted line [] ∙ arguments_are line c.parts c.given c.stripped) (many_are arity c.given raw c.many)
