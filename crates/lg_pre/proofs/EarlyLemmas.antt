-- Lines that are given before the directive after them.
use Rattle.std.proofs.Common.{◌≡◌, ℕ, zero, suc, ◌+◌, ◌-◌, ◌<◌, ◌≤◌, ◌==◌, ◌&&◌, nat_le, nat_lt, Bool, true, false, not, if◌then◌else◌, List, [], ◌∷◌, ◌++◌, length, take, drop, refl, sym, ap, ap₂, ◌∙◌, arith, Option, Some, None, Result, Ok, Err, IfSome, IsErrAnd, subst, length-drop, length-append, append-nil, append_assoc, slice_get}
use Rattle.std.proofs.lemmas.List.{drop-append-le, take-append-le, drop-drop}
use Rattle.std.specs.List.{list_any}
use Rattle.std.specs.Option.{is_some}
use Rattle.lg_base.specs.Refusals.{◌>>=◌}
use Rattle.lg_base.specs.declared.refusal.Refusal.{Refusal}
use Rattle.lg_base.specs.declared.refusal.Stop.{Stop}
use Rattle.lg_base.specs.declared.refusal.Stop.TheVariants.{Refused, OutOfMemory}
use Rattle.lg_lex.specs.Bytes.{further}
use Rattle.lg_macro.specs.Arguments.{opening, closing, depth_after, arguments_of, stripped, solid_len, solid_by}
use Rattle.lg_macro.specs.Defines.{spliced}
use Rattle.lg_macro.specs.Macros.{place_in, CountsAs}
use Rattle.lg_macro.specs.Pieces.{Piece, piece_at, between, froze, is_byte, is_white}
use Rattle.lg_macro.specs.Text.{line_len, mark_in, feeds_in}
use Rattle.lg_macro.specs.declared.macros.Macro.{Macro}
use Rattle.lg_pre.specs.Conditions.{skipping, innermost}
use Rattle.lg_pre.specs.Expanded.{flushes, feeds_lines, gives_lines, directs, directed, ended, one_line_by, one_line, finishes, lines_in}
use Rattle.lg_pre.specs.Given.{flushed, given_all, fed, gives_text}
use Rattle.lg_pre.specs.Windows.{FlushedOn, FlushesOn, IsTried, LeadsTo, Stops}
use Rattle.lg_pre.specs.declared.expander.Expander.{Expander}
use Rattle.lg_replacement.specs.Expansion.{Given, Step, named, kept, called, closed, opened, by_arity, at_macro, at_name, step, expand_in}
use Rattle.lg_replacement.specs.Expansion.{Expander as Replacer}
use Rattle.lg_macro.proofs.CallLemmas.{drop_piece}
use Rattle.lg_pre.proofs.FlushLemmas.{flushed_on, halts_give}

-- ---- a call that is whole

-- there is a piece that is no white space
abbrev pub has_solid : List Piece → Bool
has_solid [] = false
has_solid (p ∷ rest) = if is_white p.kind then has_solid rest else true

opening_front : (xs ys : List Piece) → has_solid xs ≡ true → opening (xs ++ ys) ≡ opening xs
unfolding opening
opening_front [] ys h = cc
opening_front (p ∷ xs) ys h = by (opening_front xs ys) (is_white p.kind) h
  where
    by : (has_solid xs ≡ true → opening (xs ++ ys) ≡ opening xs) → (w : Bool) → (if w then has_solid xs else true) ≡ true
        → (if w then further 1 (opening (xs ++ ys)) else (if is_byte 40 p.kind then Some 1 else None)) ≡ (if w then further 1 (opening xs) else (if is_byte 40 p.kind then Some 1 else None))
    by more true e = ap (further 1) (more e)
    by more false e = refl

opening_inside : (xs : List Piece) → IfSome (opening xs) (λ n. n ≤ length xs)
unfolding opening
opening_inside [] = tt
opening_inside (p ∷ xs) = by (is_white p.kind) (is_byte 40 p.kind) (opening xs) (opening_inside xs)
  where
    by : (w b : Bool) (o : Option ℕ) → IfSome o (λ n. n ≤ length xs) → IfSome (if w then further 1 o else (if b then Some 1 else None)) (λ n. n ≤ suc (length xs))
    by true b None h = tt
    by true b (Some n) h = omega (arith, h)
    by false true o h = omega arith
    by false false o h = tt

closing_inside : (depth : ℕ) (xs : List Piece) → IfSome (closing depth xs) (λ n. n < length xs)
unfolding closing
closing_inside depth [] = tt
closing_inside depth (p ∷ xs) = by (is_byte 41 p.kind && (depth == 0)) (closing (depth_after depth p.kind) xs) (closing_inside (depth_after depth p.kind) xs)
  where
    by : (b : Bool) (o : Option ℕ) → IfSome o (λ n. n < length xs) → IfSome (if b then Some 0 else further 1 o) (λ n. n < suc (length xs))
    by true o h = omega arith
    by false None h = tt
    by false (Some n) h = omega (arith, h)

closing_front : (depth : ℕ) (xs ys : List Piece) → is_some (closing depth xs) ≡ true → closing depth (xs ++ ys) ≡ closing depth xs
unfolding closing
closing_front depth [] ys h = cc
closing_front depth (p ∷ xs) ys h = by (is_byte 41 p.kind && (depth == 0)) (closing_front (depth_after depth p.kind) xs ys) h
  where
    some : (o : Option ℕ) → is_some (further 1 o) ≡ true → is_some o ≡ true
    some None e = e
    some (Some n) e = refl

    by : (b : Bool) → (is_some (closing (depth_after depth p.kind) xs) ≡ true → closing (depth_after depth p.kind) (xs ++ ys) ≡ closing (depth_after depth p.kind) xs)
        → is_some (if b then Some 0 else further 1 (closing (depth_after depth p.kind) xs)) ≡ true
        → (if b then Some 0 else further 1 (closing (depth_after depth p.kind) (xs ++ ys))) ≡ (if b then Some 0 else further 1 (closing (depth_after depth p.kind) xs))
    by true more e = refl
    by false more e = ap (further 1) (more (some (closing (depth_after depth p.kind) xs) e))

closed_front : (inner : Replacer) (p : Piece) (hidden : List ℕ) (place : ℕ) (m : Macro) (given : Given) (xs ys : List Piece) (arity begun : ℕ) (o : Option ℕ) (r : ℕ × Given)
    → begun ≤ length xs → IfSome o (λ n. n < length (drop begun xs)) → closed inner p hidden place m given xs arity begun o ≡ Ok r
    → closed inner p hidden place m given (xs ++ ys) arity begun o ≡ Ok r
closed_front inner p hidden place m given xs ys arity begun None r inside room e = cc
closed_front inner p hidden place m given xs ys arity begun (Some len) r inside room e =
    let size = length-drop begun xs in
    ap₂ (λ (call body : List Piece). called inner p hidden place m given call (arguments_of arity p.line body))
    (take-append-le (begun + len + 1) xs ys (omega (arith, inside, room, size)))
    (ap (take len) (drop-append-le begun xs ys inside) ∙ take-append-le len (drop begun xs) ys (omega (arith, room)))
    ∙ e

is_some_by : {A : Type 0} (f : Option ℕ → Result A Refusal) (fault : Refusal) (o : Option ℕ) (r : A) → f None ≡ Err fault → f o ≡ Ok r → is_some o ≡ true
is_some_by f fault None r none e = cc
is_some_by f fault (Some n) r none e = refl

opened_front : (inner : Replacer) (p : Piece) (hidden : List ℕ) (place : ℕ) (m : Macro) (given : Given) (xs ys : List Piece) (arity : ℕ) (o : Option ℕ) (r : ℕ × Given)
    → IfSome o (λ n. n ≤ length xs) → opened inner p hidden place m given xs arity o ≡ Ok r → opened inner p hidden place m given (xs ++ ys) arity o ≡ Ok r
unfolding opened
opened_front inner p hidden place m given xs ys arity None r inside e = e
opened_front inner p hidden place m given xs ys arity (Some begun) r inside e =
    let there = is_some_by (closed inner p hidden place m given xs arity begun) _ (closing 0 (drop begun xs)) r refl e in
    let same : closing 0 (drop begun (xs ++ ys)) ≡ closing 0 (drop begun xs) =
    ap (closing 0) (drop-append-le begun xs ys inside) ∙ closing_front 0 (drop begun xs) ys there in
    ap (closed inner p hidden place m given (xs ++ ys) arity begun) same
    ∙ closed_front inner p hidden place m given xs ys arity begun (closing 0 (drop begun xs)) r inside (closing_inside 0 (drop begun xs)) e

-- a step that is done, where a piece that is no white space is among those after it, is the same whatever follows them
pub step_front : (table : List Macro) (inner : Replacer) (hidden : List ℕ) (p : Piece) (xs ys : List Piece) (given : Given) (r : ℕ × Given) → has_solid xs ≡ true
    → step table inner hidden p xs given ≡ Ok r → step table inner hidden p (xs ++ ys) given ≡ Ok r
unfolding step at_name at_macro
step_front table inner hidden p xs ys given r solid e = by (named table p) e
  where
    calls : (place : ℕ) (m : Macro) (o : Option ℕ) → by_arity inner p hidden place m given xs o ≡ Ok r → by_arity inner p hidden place m given (xs ++ ys) o ≡ Ok r
    calls place m None e = e
    calls place m (Some arity) e =
        ap (opened inner p hidden place m given (xs ++ ys) arity) (opening_front xs ys solid)
        ∙ opened_front inner p hidden place m given xs ys arity (opening xs) r (opening_inside xs) e

    hides : (place : ℕ) (m : Macro) (b : Bool) → (if b then kept (froze p) given else by_arity inner p hidden place m given xs m.arity) ≡ Ok r
        → (if b then kept (froze p) given else by_arity inner p hidden place m given (xs ++ ys) m.arity) ≡ Ok r
    hides place m true e = e
    hides place m false e = calls place m m.arity e

    macro : (place : ℕ) (o : Option Macro) → at_macro inner p hidden place given xs o ≡ Ok r → at_macro inner p hidden place given (xs ++ ys) o ≡ Ok r
    macro place None e = e
    macro place (Some m) e = hides place m (list_any (λ h. h == place) hidden) e

    by : (o : Option ℕ) → at_name table inner p hidden given xs o ≡ Ok r → at_name table inner p hidden given (xs ++ ys) o ≡ Ok r
    by None e = e
    by (Some place) e = macro place (slice_get table place) e

-- ---- names one after the other

nothing_flushed : (table : List Macro) (k : ℕ) (given : List ℕ) (sum : ℕ) → flushed table k [] given sum ≡ Ok (given, sum)
unfolding flushed
nothing_flushed table zero given sum = refl
nothing_flushed table (suc k) given sum = refl

pub flushed_fuel : (table : List Macro) (k j : ℕ) (pieces : List Piece) (given : List ℕ) (sum : ℕ) → length pieces ≤ k → length pieces ≤ j → flushed table k pieces given sum ≡ flushed table j pieces given sum
unfolding flushed
flushed_fuel table k j [] given sum hk hj = nothing_flushed table k given sum ∙ sym (nothing_flushed table j given sum)
flushed_fuel table zero j (p ∷ rest) given sum hk hj = absurd (omega (arith, hk))
flushed_fuel table (suc k) zero (p ∷ rest) given sum hk hj = absurd (omega (arith, hj))
flushed_fuel table (suc k) (suc j) (p ∷ rest) given sum hk hj =
    by (λ (n : ℕ) (g : List ℕ) (s : ℕ). let size = length-drop n rest in flushed_fuel table k j (drop n rest) g s (omega (arith, hk, size)) (omega (arith, hj, size)))
    (step table (expand_in table 200) [] p rest ([], sum))
  where
    more : (n s : ℕ) → ((g : List ℕ) → flushed table k (drop n rest) g s ≡ flushed table j (drop n rest) g s) → (r : Result (List ℕ) Refusal)
        → (r >>= (λ g. flushed table k (drop n rest) g s)) ≡ (r >>= (λ g. flushed table j (drop n rest) g s))
    more n s next (Ok g) = next g
    more n s next (Err fault) = refl

    by : ((n : ℕ) (g : List ℕ) (s : ℕ) → flushed table k (drop n rest) g s ≡ flushed table j (drop n rest) g s) → (r : Step)
        → (r >>= (λ s. given_all s.1.0 given >>= (λ g. flushed table k (drop s.0 rest) g s.1.1))) ≡ (r >>= (λ s. given_all s.1.0 given >>= (λ g. flushed table j (drop s.0 rest) g s.1.1)))
    by next (Ok s) = more s.0 s.1.1 (λ (g : List ℕ). next s.0 g s.1.1) (given_all s.1.0 given)
    by next (Err fault) = refl

-- ---- lines that are given early

-- the lines that wait, and any after them, give the same from two states
abbrev pub Agree : Expander → Expander → Type 0
Agree s s2 = (c : List Piece) → flushes (record s { lines = s.lines ++ c }) ≡ flushes (record s2 { lines = s2.lines ++ c })

flushes_same : (s s2 : Expander) → Agree s s2 → flushes s ≡ flushes s2
flushes_same s s2 h =
    sym (ap (λ (l : List Piece). flushes (record s { lines = l })) (append-nil s.lines)) ∙ h [] ∙ ap (λ (l : List Piece). flushes (record s2 { lines = l })) (append-nil s2.lines)

agree_on : (s s2 : Expander) (b : List Piece) → Agree s s2 → Agree (record s { lines = s.lines ++ b }) (record s2 { lines = s2.lines ++ b })
agree_on s s2 b h c =
    ap (λ (l : List Piece). flushes (record s { lines = l })) (append_assoc s.lines b c) ∙ h (b ++ c)
    ∙ sym (ap (λ (l : List Piece). flushes (record s2 { lines = l })) (append_assoc s2.lines b c))

finishes_same : (s s2 : Expander) → Agree s s2 → finishes s ≡ finishes s2
unfolding finishes
finishes_same s s2 h = ap (λ (r : Result Expander Refusal). r >>= (λ last. ended last (innermost last.conditions))) (flushes_same s s2 h)

pub lines_same : (k : ℕ) (text : List Piece) (s s2 : Expander) (at : ℕ) → Agree s s2 → lines_in k text s at ≡ lines_in k text s2 at
unfolding lines_in one_line
lines_same zero text s s2 at h = finishes_same s s2 h
lines_same (suc k) text s s2 at h = test (λ (b : List Piece) (n : ℕ). lines_same k text (record s { lines = s.lines ++ b }) (record s2 { lines = s2.lines ++ b }) n (agree_on s s2 b h)) (nat_le (length text) at)
  where
    by : ((b : List Piece) (n : ℕ) → lines_in k text (record s { lines = s.lines ++ b }) n ≡ lines_in k text (record s2 { lines = s2.lines ++ b }) n) → (o : Option ℕ)
        → (one_line_by text s at o >>= (λ next. lines_in k text next.1 next.0)) ≡ (one_line_by text s2 at o >>= (λ next. lines_in k text next.1 next.0))
    by more None = more (between at (at + line_len false false (drop at text)) text) (at + line_len false false (drop at text))
    by more (Some n) =
        let end : ℕ = at + n + line_len true false (drop (at + n) text) in
        ap (λ (r : Result Expander Refusal). (r >>= (λ s1. directed text s1 at end (piece_at text (at + n)).line (stripped (spliced (between (at + n + 1) end text))))) >>= (λ next. lines_in k text next.1 next.0)) (flushes_same s s2 h)

    test : ((b : List Piece) (n : ℕ) → lines_in k text (record s { lines = s.lines ++ b }) n ≡ lines_in k text (record s2 { lines = s2.lines ++ b }) n) → (t : Bool)
        → (if t then finishes s else one_line_by text s at (mark_in true (drop at text)) >>= (λ next. lines_in k text next.1 next.0))
        ≡ (if t then finishes s2 else one_line_by text s2 at (mark_in true (drop at text)) >>= (λ next. lines_in k text next.1 next.0))
    test more true = finishes_same s s2 h
    test more false = by more (mark_in true (drop at text))

-- the lines that wait have this fault, whatever is after them
abbrev pub Fails : Expander → Refusal → Type 0
Fails s fault = (c : List Piece) → flushes (record s { lines = s.lines ++ c }) ≡ Err fault

flushes_fail : (s : Expander) (fault : Refusal) → Fails s fault → flushes s ≡ Err fault
flushes_fail s fault h = sym (ap (λ (l : List Piece). flushes (record s { lines = l })) (append-nil s.lines)) ∙ h []

fails_on : (s : Expander) (fault : Refusal) (b : List Piece) → Fails s fault → Fails (record s { lines = s.lines ++ b }) fault
fails_on s fault b h c = ap (λ (l : List Piece). flushes (record s { lines = l })) (append_assoc s.lines b c) ∙ h (b ++ c)

finishes_fail : (s : Expander) (fault : Refusal) → Fails s fault → finishes s ≡ Err fault
unfolding finishes
finishes_fail s fault h = ap (λ (r : Result Expander Refusal). r >>= (λ last. ended last (innermost last.conditions))) (flushes_fail s fault h)

pub lines_fail : (k : ℕ) (text : List Piece) (s : Expander) (at : ℕ) (fault : Refusal) → Fails s fault → lines_in k text s at ≡ Err fault
unfolding lines_in one_line
lines_fail zero text s at fault h = finishes_fail s fault h
lines_fail (suc k) text s at fault h = test (λ (b : List Piece) (n : ℕ). lines_fail k text (record s { lines = s.lines ++ b }) n fault (fails_on s fault b h)) (nat_le (length text) at)
  where
    by : ((b : List Piece) (n : ℕ) → lines_in k text (record s { lines = s.lines ++ b }) n ≡ Err fault) → (o : Option ℕ)
        → (one_line_by text s at o >>= (λ next. lines_in k text next.1 next.0)) ≡ Err fault
    by more None = more (between at (at + line_len false false (drop at text)) text) (at + line_len false false (drop at text))
    by more (Some n) =
        let end : ℕ = at + n + line_len true false (drop (at + n) text) in
        ap (λ (r : Result Expander Refusal). (r >>= (λ s1. directed text s1 at end (piece_at text (at + n)).line (stripped (spliced (between (at + n + 1) end text))))) >>= (λ next. lines_in k text next.1 next.0)) (flushes_fail s fault h)

    test : ((b : List Piece) (n : ℕ) → lines_in k text (record s { lines = s.lines ++ b }) n ≡ Err fault) → (t : Bool)
        → (if t then finishes s else one_line_by text s at (mark_in true (drop at text)) >>= (λ next. lines_in k text next.1 next.0)) ≡ Err fault
    test more true = finishes_fail s fault h
    test more false = by more (mark_in true (drop at text))

-- ---- line feeds that are given early

fed_append : (xs ys : List Piece) (given : List ℕ) → fed (xs ++ ys) given ≡ (fed xs given >>= fed ys)
unfolding fed
fed_append [] ys given = refl
fed_append (p ∷ xs) ys given = by (fed_append xs ys) (gives_text p.line (feeds_in p.text) given)
  where
    by : ((g : List ℕ) → fed (xs ++ ys) g ≡ (fed xs g >>= fed ys)) → (r : Result (List ℕ) Refusal) → (r >>= fed (xs ++ ys)) ≡ ((r >>= fed xs) >>= fed ys)
    by more (Ok g) = more g
    by more (Err fault) = refl

skips : (s : Expander) → skipping s.conditions ≡ true → flushes s ≡ feeds_lines s
skips s e = rw e refl

goes : (s : Expander) → skipping s.conditions ≡ false → flushes s ≡ gives_lines s
goes s e = rw e refl

feeds_all : (s : Expander) (c : List Piece) → skipping s.conditions ≡ true → flushes (record s { lines = s.lines ++ c }) ≡ (feeds_lines s >>= (λ s2. flushes (record s2 { lines = s2.lines ++ c })))
feeds_all s c e = skips (record s { lines = s.lines ++ c }) e
    ∙ ap (λ (r : Result (List ℕ) Refusal). r >>= (λ given. Ok (record s { lines = []; given = given }))) (fed_append s.lines c s.given)
    ∙ by (fed s.lines s.given)
  where
    by : (r : Result (List ℕ) Refusal) → ((r >>= fed c) >>= (λ given. Ok (record s { lines = []; given = given })))
        ≡ ((r >>= (λ given. Ok (record s { lines = []; given = given }))) >>= (λ s2. flushes (record s2 { lines = s2.lines ++ c })))
    by (Ok g) = sym (skips (record s { lines = c; given = g }) e)
    by (Err fault) = refl

pub feeds_agree : (s s2 : Expander) → skipping s.conditions ≡ true → feeds_lines s ≡ Ok s2 → Agree s s2
feeds_agree s s2 e is c = feeds_all s c e ∙ ap (λ (r : Result Expander Refusal). r >>= (λ s3. flushes (record s3 { lines = s3.lines ++ c }))) is

pub feeds_fail : (s : Expander) (fault : Refusal) → skipping s.conditions ≡ true → feeds_lines s ≡ Err fault → Fails s fault
feeds_fail s fault e is c = feeds_all s c e ∙ ap (λ (r : Result Expander Refusal). r >>= (λ s3. flushes (record s3 { lines = s3.lines ++ c }))) is

-- ---- names that are given early

pub gives_agree : (s : Expander) (n : ℕ) (given : List ℕ) (sum : ℕ) → skipping s.conditions ≡ false → FlushedOn s.table s.lines n s.given given s.sum sum
    → Agree s (record s { lines = drop n s.lines; given = given; sum = sum })
gives_agree s n given sum e h c = goes (record s { lines = s.lines ++ c }) e
    ∙ ap (λ (r : Result (List ℕ × ℕ) Refusal). r >>= (λ next. Ok (record s { lines = []; given = next.0; sum = next.1 }))) (h c)
    ∙ sym (goes (record s { lines = drop n s.lines ++ c; given = given; sum = sum }) e)

pub gives_fail : (s : Expander) (fault : Refusal) → skipping s.conditions ≡ false → ((c : List Piece) → flushed s.table (length (s.lines ++ c)) (s.lines ++ c) s.given s.sum ≡ Err fault) → Fails s fault
gives_fail s fault e h c = goes (record s { lines = s.lines ++ c }) e
    ∙ ap (λ (r : Result (List ℕ × ℕ) Refusal). r >>= (λ next. Ok (record s { lines = []; given = next.0; sum = next.1 }))) (h c)

abbrev solid_when : Bool → ℕ → ℕ
solid_when w zero = if w then 0 else 1
solid_when w (suc n) = suc (suc n)

-- a piece before the last that is no white space
pub solid_after : (k : ℕ) (pieces : List Piece) → k < solid_len pieces → has_solid (drop k pieces) ≡ true
unfolding solid_len
solid_after k [] h = absurd (omega (arith, h))
solid_after zero (p ∷ rest) h = by (is_white p.kind) (solid_len rest) (solid_after 0 rest) h
  where
    by : (w : Bool) (n : ℕ) → (0 < n → has_solid rest ≡ true) → 0 < solid_when w n → (if w then has_solid rest else true) ≡ true
    by false n more lt = refl
    by true zero more lt = absurd (omega (arith, lt))
    by true (suc n) more lt = more (omega arith)
solid_after (suc k) (p ∷ rest) h = solid_after k rest (by (is_white p.kind) (solid_len rest) h)
  where
    by : (w : Bool) (n : ℕ) → suc k < solid_when w n → k < n
    by true zero lt = absurd (omega (arith, lt))
    by false zero lt = absurd (omega (arith, lt))
    by w (suc n) lt = omega (arith, lt)

-- the pieces from a place on, and what follows them
from_place : (pieces more : List Piece) (at : ℕ) → at < length pieces → drop at pieces ++ more ≡ piece_at pieces at ∷ (drop (at + 1) pieces ++ more)
from_place pieces more at lt = ap (λ (l : List Piece). l ++ more) (drop_piece pieces at lt)

-- one more name is given
pub flush_more : (table : List Macro) (pieces out fresh : List Piece) (hidden : List ℕ) (at n : ℕ) (given0 given next : List ℕ) (sum0 sum sum2 : ℕ) → FlushedOn table pieces at given0 given sum0 sum
    → at < length pieces → at + 1 < solid_len pieces → hidden ≡ [] → fresh ≡ [] → step table (expand_in table 200) hidden (piece_at pieces at) (drop (at + 1) pieces) (fresh, sum) ≡ Ok (n, (out, sum2))
    → given_all out given ≡ Ok next → at + 1 + n ≤ length pieces → FlushedOn table pieces (at + (1 + n)) given0 next sum0 sum2
flush_more table pieces out fresh hidden at n given0 given next sum0 sum sum2 h lt solid none empty e e2 inside more =
    let p : Piece = piece_at pieces at in
    let rest : List Piece = drop (at + 1) pieces in
    let e1 = rw (none, empty) at e in
    let wide : step table (expand_in table 200) [] p (rest ++ more) ([], sum) ≡ Ok (n, (out, sum2)) = step_front table (expand_in table 200) [] p rest more ([], sum) (n, (out, sum2)) (solid_after (at + 1) pieces solid) e1 in
    let size = length-drop (at + 1) pieces in
    let place : at + 1 + n ≡ at + (1 + n) = omega arith in
    let left : drop n (rest ++ more) ≡ drop (at + (1 + n)) pieces ++ more = drop-append-le n rest more (omega (arith, size, inside)) ∙ ap (λ (l : List Piece). l ++ more) (drop-drop n (at + 1) pieces ∙ ap (λ (k : ℕ). drop k pieces) place) in
    let all = length-drop n (rest ++ more) in
    h more ∙ ap (λ (l : List Piece). flushed table (length l) l given sum) (from_place pieces more at lt)
    ∙ flushed_on table (suc (length (rest ++ more))) n sum sum2 p (rest ++ more) out given next (omega arith) wide e2
    ∙ flushed_fuel table (suc (length (rest ++ more)) - 1) (length (drop n (rest ++ more))) (drop n (rest ++ more)) next sum2 (omega (arith, all)) (omega arith)
    ∙ ap (λ (l : List Piece). flushed table (length l) l next sum2) left

-- there is no room for what a name gives
pub flush_full : (table : List Macro) (pieces out fresh : List Piece) (hidden : List ℕ) (at n : ℕ) (given0 given : List ℕ) (sum0 sum sum2 : ℕ) (fault : Refusal) → FlushedOn table pieces at given0 given sum0 sum
    → at < length pieces → at + 1 < solid_len pieces → hidden ≡ [] → fresh ≡ [] → step table (expand_in table 200) hidden (piece_at pieces at) (drop (at + 1) pieces) (fresh, sum) ≡ Ok (n, (out, sum2))
    → given_all out given ≡ Err fault → (more : List Piece) → flushed table (length (pieces ++ more)) (pieces ++ more) given0 sum0 ≡ Err fault
flush_full table pieces out fresh hidden at n given0 given sum0 sum sum2 fault h lt solid none empty e e2 more =
    let p : Piece = piece_at pieces at in
    let rest : List Piece = drop (at + 1) pieces in
    let e1 = rw (none, empty) at e in
    let wide : step table (expand_in table 200) [] p (rest ++ more) ([], sum) ≡ Ok (n, (out, sum2)) = step_front table (expand_in table 200) [] p rest more ([], sum) (n, (out, sum2)) (solid_after (at + 1) pieces solid) e1 in
    h more ∙ ap (λ (l : List Piece). flushed table (length l) l given sum) (from_place pieces more at lt)
    ∙ halts_give table (suc (length (rest ++ more))) n sum sum2 p (rest ++ more) out given fault (omega arith) wide e2

pub flush_stops : (r : Result ℕ Stop) (stop : Stop) (table : List Macro) (pieces out fresh : List Piece) (hidden : List ℕ) (at n : ℕ) (given0 given now next : List ℕ) (sum0 sum sum2 sum3 : ℕ)
    → IsErrAnd r (λ e. e ≡ stop) → FlushedOn table pieces at given0 given sum0 sum
    → at < length pieces → at + 1 < solid_len pieces → hidden ≡ [] → fresh ≡ [] → step table (expand_in table 200) hidden (piece_at pieces at) (drop (at + 1) pieces) (fresh, sum) ≡ Ok (n, (out, sum2))
    → CountsAs (Err stop) now (given_all out given) → FlushesOn r table pieces given0 next sum0 sum3
flush_stops (Ok m) stop table pieces out fresh hidden at n given0 given now next sum0 sum sum2 sum3 is h lt solid none empty e e2 = absurd is
flush_stops (Err s) stop table pieces out fresh hidden at n given0 given now next sum0 sum sum2 sum3 is h lt solid none empty e e2 =
    by s (subst (λ (x : Stop). CountsAs (Err x) now (given_all out given)) (sym is) e2)
  where
    by : (x : Stop) → CountsAs (Err x) now (given_all out given) → FlushesOn (Err x) table pieces given0 next sum0 sum3
    by OutOfMemory i = tt
    by (Refused fault) i = flush_full table pieces out fresh hidden at n given0 given sum0 sum sum2 fault h lt solid none empty e i

-- ---- calls

-- the lines that wait are given early
pub agree_leads : (s s2 : Expander) → Agree s s2 → (more : List Piece) → lines_in (length more) more s 0 ≡ lines_in (length more) more s2 0
agree_leads s s2 h more = lines_same (length more) more s s2 0 h

pub fails_stops : (s : Expander) (fault : Refusal) → Fails s fault → Stops [] s (Refused fault)
fails_stops s fault h more = lines_fail (length more) more s 0 fault h

pub feeds_leads : (r : Result (Unit {0}) Stop) (s s2 : Expander) → skipping s.conditions ≡ true → CountsAs r s2 (feeds_lines s) → LeadsTo r [] s [] s2
feeds_leads (Ok u) s s2 e is = agree_leads s s2 (feeds_agree s s2 e is)
feeds_leads (Err OutOfMemory) s s2 e is = tt
feeds_leads (Err (Refused fault)) s s2 e is = fails_stops s fault (feeds_fail s fault e is)

pub flushes_stop : (stop : Stop) (s : Expander) (given : List ℕ) (sum : ℕ) → skipping s.conditions ≡ false
    → FlushesOn (Err stop) s.table s.lines s.given given s.sum sum → Stops [] s stop
flushes_stop OutOfMemory s given sum e h = tt
flushes_stop (Refused fault) s given sum e h = fails_stops s fault (gives_fail s fault e h)

-- ---- names that are tried

pub some_has : (P : ℕ → Type 0) (o : Option ℕ) (n : ℕ) → o ≡ Some n → IfSome o P → P n
some_has P o n e h = subst (λ (x : Option ℕ). IfSome x P) e h

pub tried_is : (o : Option ℕ) (n sum : ℕ) (new : Given) (read : Step) → o ≡ Some n → IsTried o new sum read → read ≡ Ok (n, new)
tried_is o n sum new read e h = subst (λ (x : Option ℕ). IsTried x new sum read) e h
