-- An expansion has as many line feeds as the text.
use Rattle.std.proofs.Common.{◌≡◌, ℕ, zero, suc, ◌+◌, ◌-◌, ◌<◌, ◌≤◌, ◌==◌, ◌&&◌, max, nat_le, nat_lt, Bool, true, false, not, if◌then◌else◌, List, [], ◌∷◌, ◌++◌, length, take, drop, fold, refl, sym, ap, subst, ◌∙◌, arith, Option, Some, None, option_and_then, slice_get, Result, Ok, Err, IfOk, length-drop}
use Rattle.std.proofs.lemmas.Bool.{false≢true, and_parts}
use Rattle.std.proofs.lemmas.Bool.Decides.{nat_tests}
use Rattle.std.proofs.lemmas.List.{drop_all}
use Rattle.std.proofs.lemmas.Result.{IfOk-weaker}
use Rattle.std.specs.List.{list_any}
use Rattle.lg_base.specs.declared.refusal.Refusal.{Refusal}
use Rattle.lg_macro.specs.Arguments.{opening, closing, arguments_of, stripped, with_feeds, solid_len}
use Rattle.lg_pre.specs.Conditions.{is_full, innermost, skipping, skipped, opens, turns_at, closes_at}
use Rattle.lg_macro.specs.Cutting.{cut, cut_in, front_of}
use Rattle.lg_macro.specs.Defines.{spliced, one_word, written, written_by, named_by, closed_at, with_body, with_parameters, body_of, with_piece, no_body, at_sign, at_white, at_solid, size_of, to_close, parameters_of}
use Rattle.lg_pre.specs.Directive.{directive_of}
use Rattle.lg_pre.specs.Expanded.{defines, undefines, opens_named, opens_if, read, obeys, with_table, with_conditions, flushes, directed, directs, one_line_by, one_line, ended, finishes, lines_in, start, start_table, expanded}
use Rattle.lg_replacement.specs.Expansion.{Given, Step, kept, named, put, put_name, object, each, put_full, replaced, called, closed, opened, by_arity, at_macro, at_name, step, walk, expand_in}
use Rattle.lg_replacement.specs.Expansion.{Expander as Replacer}
use Rattle.lg_pre.specs.Given.{gives_text, gives, given_all, flushed, fed}
use Rattle.lg_pre.specs.Lines.{LineFeedsAreKept, HaveLines}
use Rattle.lg_base.specs.Refusals.{◌>>=◌}
use Rattle.lg_macro.specs.Macros.{most, place_in, without, without_at, with_macro, counted}
use Rattle.lg_macro.specs.Pieces.{Piece, piece_at, between, froze, is_word, is_white, is_byte, is_spaced}
use Rattle.lg_pre.specs.Questions.{sure, asks}
use Rattle.lg_macro.specs.Substitution.{substituted}
use Rattle.lg_macro.specs.Text.{feeds_in, text_pieces, line_len, mark_in, feeds_of, bytes_of, ends_with_slash}
use Rattle.lg_macro.specs.declared.body.Body.{Body}
use Rattle.lg_pre.specs.declared.conditions.Condition.{Condition}
use Rattle.lg_pre.specs.declared.directive.Directive.{Directive}
use Rattle.lg_pre.specs.declared.directive.Directive.TheVariants.{Nothing, Define, Undefine, IfDefined, If, Else, EndIf, Unknown}
use Rattle.lg_pre.specs.declared.expander.Expander.{Expander}
use Rattle.lg_macro.specs.declared.macros.Macro.{Macro}
use Rattle.lg_macro.specs.declared.pieces.PieceKind.{PieceKind}
use Rattle.lg_macro.specs.declared.pieces.PieceKind.TheVariants.{Comment, Quoted, Word, Number, Feed, Byte}
use Rattle.lg_pre.proofs.PlainLemmas.{pieces_are_text}
use Rattle.lg_macro.proofs.FeedLemmas.{feeds_among, feeds_among_all, AreTidy, AreQuiet, feeds_append, among_append, among_parts, among_between, among_bytes, all_push, tidy_append, tidy_drop, tidy_take, quiet_tidy, substituted_quiet, with_feeds_among, stripped_few, arguments_quiet, spliced_quiet, feeds_in_all, text_tidy}

-- ---- results

-- what holds after a step, and then after a further one
pub if_bound : {A B : Type 0} (r : Result A Refusal) (f : A → Result B Refusal) (P : A → Type 0) (Q : B → Type 0) → IfOk r P → ((x : A) → P x → IfOk (f x) Q) → IfOk (r >>= f) Q
if_bound (Ok x) f P Q h next = next x h
if_bound (Err e) f P Q h next = tt

pub either_ok : {A : Type 0} (b : Bool) (x y : Result A Refusal) (P : A → Type 0) → IfOk x P → IfOk y P → IfOk (if b then x else y) P
either_ok true x y P hx hy = hx
either_ok false x y P hx hy = hy

pub any_result : {A : Type 0} (r : Result A Refusal) → IfOk r (λ x. Unit {0})
any_result (Ok x) = tt
any_result (Err e) = tt

-- ---- macros whose bodies have no line feed

abbrev pub IsQuietMacro : Option Macro → Type 0
IsQuietMacro None = Unit {0}
IsQuietMacro (Some m) = feeds_among m.body ≡ 0

abbrev pub IsQuietTable : List Macro → Type 0
IsQuietTable [] = Unit {0}
IsQuietTable (m ∷ table) = (feeds_among m.body ≡ 0) × IsQuietTable table

pub quiet_at : (table : List Macro) (place : ℕ) → IsQuietTable table → IsQuietMacro (slice_get table place)
quiet_at [] place h = tt
quiet_at (m ∷ table) zero h = h.0
quiet_at (m ∷ table) (suc place) h = quiet_at table place h.1

quiet_append : (a b : List Macro) → IsQuietTable a → IsQuietTable b → IsQuietTable (a ++ b)
quiet_append [] b ha hb = hb
quiet_append (m ∷ a) b ha hb = (ha.0, quiet_append a b ha.1 hb)

quiet_take : (n : ℕ) (table : List Macro) → IsQuietTable table → IsQuietTable (take n table)
quiet_take zero table h = tt
quiet_take (suc n) [] h = tt
quiet_take (suc n) (m ∷ table) h = (h.0, quiet_take n table h.1)

quiet_drop : (n : ℕ) (table : List Macro) → IsQuietTable table → IsQuietTable (drop n table)
quiet_drop zero table h = h
quiet_drop (suc n) [] h = tt
quiet_drop (suc n) (m ∷ table) h = quiet_drop n table h.1

quiet_without : (table : List Macro) (place : Option ℕ) → IsQuietTable table → IsQuietTable (without_at table place)
quiet_without table None h = h
quiet_without table (Some place) h = quiet_append (take place table) (drop (suc place) table) (quiet_take place table h) (quiet_drop (suc place) table h)

quiet_with : (table : List Macro) (m : Macro) → IsQuietTable table → feeds_among m.body ≡ 0 → IsQuietTable (with_macro table m)
quiet_with table m h quiet = quiet_append (without table m.name) (m ∷ []) (quiet_without table (place_in table m.name) h) (quiet, tt)

-- ---- replacement

-- an expansion of pieces gives as many line feeds as they have
abbrev pub Keeps : Replacer → Type 0
Keeps inner = (line : ℕ) (hidden : List ℕ) (pieces : List Piece) (given : Given) → AreTidy pieces → IfOk (inner line hidden pieces given) (λ next. feeds_among next.0 ≡ feeds_among given.0 + feeds_among pieces)

pub put_keeps : (inner : Replacer) → Keeps inner → (line : ℕ) (hidden : List ℕ) (place : ℕ) (m : Macro) (raw full : List (List Piece)) (given : Given) → feeds_among m.body ≡ 0 → feeds_among_all raw ≡ 0 → feeds_among_all full ≡ 0 → IfOk (put inner line hidden place m raw full given) (λ next. feeds_among next.0 ≡ feeds_among given.0)
unfolding put
put_keeps inner keeps line hidden place m raw full given hb hr hf =
    let body : List Piece = substituted line m.body m.marks raw full in
    let quiet : feeds_among body ≡ 0 = substituted_quiet line m.body m.marks raw full hr hf hb in
    IfOk-weaker (inner line (hidden ++ place ∷ []) body given) _ _ (λ next e. omega (arith, e, quiet)) (keeps line (hidden ++ place ∷ []) body given (quiet_tidy body quiet))

each_keeps : (inner : Replacer) → Keeps inner → (line : ℕ) (hidden : List ℕ) (raw done : List (List Piece)) (sum : ℕ) → feeds_among_all raw ≡ 0 → feeds_among_all done ≡ 0 → IfOk (each inner line hidden raw done sum) (λ full. feeds_among_all full.0 ≡ 0)
unfolding each
each_keeps inner keeps line hidden [] done sum hr hd = hd
each_keeps inner keeps line hidden (a ∷ more) done sum hr hd =
    if_bound (inner line hidden a ([], sum)) (λ given. each inner line hidden more (done ++ given.0 ∷ []) given.1) _ _ (keeps line hidden a ([], sum) (quiet_tidy a (omega (arith, hr))))
    (λ given e. let all = all_push done given.0 in each_keeps inner keeps line hidden more (done ++ given.0 ∷ []) given.1 (omega (arith, hr)) (omega (arith, all, e, hr, hd)))

pub replaced_keeps : (inner : Replacer) → Keeps inner → (line : ℕ) (hidden : List ℕ) (place : ℕ) (m : Macro) (given : Given) (raw : List (List Piece)) → feeds_among m.body ≡ 0 → feeds_among_all raw ≡ 0 → IfOk (replaced inner line hidden place m given raw) (λ next. feeds_among next.0 ≡ feeds_among given.0)
unfolding replaced
replaced_keeps inner keeps line hidden place m given raw hb hr =
    if_bound (counted line m given.1) (λ sum. each inner line hidden raw [] sum >>= put_full inner line hidden place m given.0 raw) _ _ (any_result (counted line m given.1))
    (λ sum u. if_bound (each inner line hidden raw [] sum) (put_full inner line hidden place m given.0 raw) _ _ (each_keeps inner keeps line hidden raw [] sum hr refl)
    (λ full e. put_keeps inner keeps line hidden place m raw full.0 (given.0, full.1) hb hr e))

-- what a step gives has the line feeds of the pieces that it takes
abbrev pub StepKeeps : Piece → List Piece → Given → Step → Type 0
StepKeeps p rest given s = IfOk s (λ done. feeds_among done.1.0 ≡ feeds_among given.0 + feeds_of p.text + feeds_among (take done.0 rest))

kept_keeps : (p q : Piece) (rest : List Piece) (given : Given) → feeds_of q.text ≡ feeds_of p.text → StepKeeps p rest given (kept q given)
kept_keeps p q rest given e = let all = among_append given.0 (q ∷ []) in omega (arith, all, e)

object_keeps : (inner : Replacer) → Keeps inner → (p : Piece) (hidden : List ℕ) (place : ℕ) (m : Macro) (given : Given) (rest : List Piece) → feeds_among m.body ≡ 0 → feeds_of p.text ≡ 0 → StepKeeps p rest given (object inner p hidden place m given)
unfolding object
object_keeps inner keeps p hidden place m given rest hb hp =
    if_bound (counted p.line m given.1) (put_name inner p hidden place m given.0) _ _ (any_result (counted p.line m given.1))
    (λ sum u. if_bound (put inner p.line hidden place m [] [] (given.0, sum)) (λ next. Ok (0, next)) _ _ (put_keeps inner keeps p.line hidden place m [] [] (given.0, sum) hb refl refl)
    (λ next e. omega (arith, e, hp)))

take_taken : (m : ℕ) (pieces : List Piece) → take (length (take m pieces)) pieces ≡ take m pieces
take_taken zero pieces = refl
take_taken (suc m) [] = refl
take_taken (suc m) (p ∷ rest) = ap (λ (l : List Piece). p ∷ l) (take_taken m rest)

called_keeps : (inner : Replacer) → Keeps inner → (p : Piece) (hidden : List ℕ) (place : ℕ) (m : Macro) (given : Given) (n : ℕ) (rest : List Piece) (arguments : Option (List (List Piece))) → feeds_among m.body ≡ 0 → feeds_of p.text ≡ 0 → AreQuiet arguments → StepKeeps p rest given (called inner p hidden place m given (take n rest) arguments)
unfolding called
called_keeps inner keeps p hidden place m given n rest None hb hp quiet = tt
called_keeps inner keeps p hidden place m given n rest (Some raw) hb hp quiet =
    if_bound (replaced inner p.line hidden place m given raw) (λ next. Ok (length (take n rest), (with_feeds p.line next.0 (take n rest), next.1))) _ _ (replaced_keeps inner keeps p.line hidden place m given raw hb quiet)
    (λ next e. let all = with_feeds_among p.line next.0 (take n rest) in rw take_taken (omega (arith, all, e, hp)))

closed_keeps : (inner : Replacer) → Keeps inner → (p : Piece) (hidden : List ℕ) (place : ℕ) (m : Macro) (given : Given) (rest : List Piece) (arity begun : ℕ) (len : Option ℕ) → feeds_among m.body ≡ 0 → feeds_of p.text ≡ 0 → AreTidy rest → StepKeeps p rest given (closed inner p hidden place m given rest arity begun len)
closed_keeps inner keeps p hidden place m given rest arity begun None hb hp tidy = tt
closed_keeps inner keeps p hidden place m given rest arity begun (Some len) hb hp tidy =
    called_keeps inner keeps p hidden place m given (begun + len + 1) rest (arguments_of arity p.line (take len (drop begun rest))) hb hp (arguments_quiet arity p.line (take len (drop begun rest)) (tidy_take len (drop begun rest) (tidy_drop begun rest tidy)))

opened_keeps : (inner : Replacer) → Keeps inner → (p : Piece) (hidden : List ℕ) (place : ℕ) (m : Macro) (given : Given) (rest : List Piece) (arity : ℕ) (begun : Option ℕ) → feeds_among m.body ≡ 0 → feeds_of p.text ≡ 0 → AreTidy rest → StepKeeps p rest given (opened inner p hidden place m given rest arity begun)
unfolding opened
opened_keeps inner keeps p hidden place m given rest arity None hb hp tidy = kept_keeps p p rest given refl
opened_keeps inner keeps p hidden place m given rest arity (Some begun) hb hp tidy = closed_keeps inner keeps p hidden place m given rest arity begun (closing 0 (drop begun rest)) hb hp tidy

arity_keeps : (inner : Replacer) → Keeps inner → (p : Piece) (hidden : List ℕ) (place : ℕ) (m : Macro) (given : Given) (rest : List Piece) (arity : Option ℕ) → feeds_among m.body ≡ 0 → feeds_of p.text ≡ 0 → AreTidy rest → StepKeeps p rest given (by_arity inner p hidden place m given rest arity)
arity_keeps inner keeps p hidden place m given rest None hb hp tidy = object_keeps inner keeps p hidden place m given rest hb hp
arity_keeps inner keeps p hidden place m given rest (Some arity) hb hp tidy = opened_keeps inner keeps p hidden place m given rest arity (opening rest) hb hp tidy

macro_keeps : (inner : Replacer) → Keeps inner → (p : Piece) (hidden : List ℕ) (place : ℕ) (given : Given) (rest : List Piece) (m : Option Macro) → IsQuietMacro m → feeds_of p.text ≡ 0 → AreTidy rest → StepKeeps p rest given (at_macro inner p hidden place given rest m)
unfolding at_macro
macro_keeps inner keeps p hidden place given rest None hm hp tidy = kept_keeps p p rest given refl
macro_keeps inner keeps p hidden place given rest (Some m) hm hp tidy =
    either_ok (list_any (λ h. h == place) hidden) (kept (froze p) given) (by_arity inner p hidden place m given rest m.arity) _ (kept_keeps p (froze p) rest given refl) (arity_keeps inner keeps p hidden place m given rest m.arity hm hp tidy)

-- a piece that names a macro has no line feed
abbrev pub IsQuietName : Piece → Option ℕ → Type 0
IsQuietName p None = Unit {0}
IsQuietName p (Some place) = feeds_of p.text ≡ 0

word_is_not_spaced : (kind : PieceKind) → is_word kind ≡ true → is_spaced kind ≡ false
word_is_not_spaced Comment h = absurd (false≢true h)
word_is_not_spaced Feed h = absurd (false≢true h)
word_is_not_spaced other h = refl

name_by : (p : Piece) (b : Bool) (place : Option ℕ) → (b ≡ true → feeds_of p.text ≡ 0) → IsQuietName p (if b then place else None)
name_by p true None h = tt
name_by p true (Some place) h = h refl
name_by p false place h = tt

pub name_is_quiet : (table : List Macro) (p : Piece) → (is_spaced p.kind ≡ false → feeds_of p.text ≡ 0) → IsQuietName p (named table p)
name_is_quiet table p tidy = name_by p (is_word p.kind && not p.frozen) (place_in table p.text) (λ e. tidy (word_is_not_spaced p.kind (and_parts (is_word p.kind) (not p.frozen) e).0))

name_keeps : (table : List Macro) (inner : Replacer) → IsQuietTable table → Keeps inner → (p : Piece) (hidden : List ℕ) (given : Given) (rest : List Piece) (place : Option ℕ) → IsQuietName p place → AreTidy rest → StepKeeps p rest given (at_name table inner p hidden given rest place)
unfolding at_name
name_keeps table inner quiet keeps p hidden given rest None hp tidy = kept_keeps p p rest given refl
name_keeps table inner quiet keeps p hidden given rest (Some place) hp tidy = macro_keeps inner keeps p hidden place given rest (slice_get table place) (quiet_at table place quiet) hp tidy

pub step_keeps : (table : List Macro) (inner : Replacer) → IsQuietTable table → Keeps inner → (hidden : List ℕ) (p : Piece) (rest : List Piece) (given : Given) → AreTidy (p ∷ rest) → StepKeeps p rest given (step table inner hidden p rest given)
unfolding step
step_keeps table inner quiet keeps hidden p rest given tidy = name_keeps table inner quiet keeps p hidden given rest (named table p) (name_is_quiet table p tidy.0) tidy.1

walk_keeps : (table : List Macro) (inner : Replacer) → IsQuietTable table → Keeps inner → (k : ℕ) (hidden : List ℕ) (pieces : List Piece) (given : Given) → length pieces ≤ k → AreTidy pieces → IfOk (walk table inner k hidden pieces given) (λ next. feeds_among next.0 ≡ feeds_among given.0 + feeds_among pieces)
unfolding walk
walk_keeps table inner quiet keeps zero hidden [] given h tidy = omega arith
walk_keeps table inner quiet keeps (suc k) hidden [] given h tidy = omega arith
walk_keeps table inner quiet keeps zero hidden (p ∷ rest) given h tidy = absurd (omega (arith, h))
walk_keeps table inner quiet keeps (suc k) hidden (p ∷ rest) given h tidy =
    if_bound (step table inner hidden p rest given) (λ s. walk table inner k hidden (drop s.0 rest) s.1) _ _ (step_keeps table inner quiet keeps hidden p rest given tidy)
    (λ s e. let parts = among_parts s.0 rest in
    let less : length (drop s.0 rest) ≤ k = rw length-drop (omega (arith, h)) in
    IfOk-weaker (walk table inner k hidden (drop s.0 rest) s.1) _ _ (λ next e2. omega (arith, e, e2, parts)) (walk_keeps table inner quiet keeps k hidden (drop s.0 rest) s.1 less (tidy_drop s.0 rest tidy.1)))

pub expand_keeps : (table : List Macro) → IsQuietTable table → (levels : ℕ) → Keeps (expand_in table levels)
unfolding expand_in
expand_keeps table quiet zero = λ line hidden pieces given tidy. tt
expand_keeps table quiet (suc n) = λ line hidden pieces given tidy. walk_keeps table (expand_in table n) quiet (expand_keeps table quiet n) (length pieces) hidden pieces given (omega arith) tidy

-- ---- what is given

text_given : (line : ℕ) (text given : List ℕ) → IfOk (gives_text line text given) (λ more. feeds_of more ≡ feeds_of given + feeds_of text)
text_given line text given = either_ok (nat_lt most (length given + length text)) _ (Ok (given ++ text)) _ tt (feeds_append given text)

pub given_keeps : (pieces : List Piece) (given : List ℕ) → IfOk (given_all pieces given) (λ more. feeds_of more ≡ feeds_of given + feeds_among pieces)
unfolding given_all
given_keeps [] given = omega arith
given_keeps (p ∷ rest) given = if_bound (gives p given) (given_all rest) _ _ (text_given p.line p.text given)
    (λ more e. IfOk-weaker (given_all rest more) _ _ (λ last e2. omega (arith, e, e2)) (given_keeps rest more))

fed_keeps : (pieces : List Piece) (given : List ℕ) → IfOk (fed pieces given) (λ more. feeds_of more ≡ feeds_of given + feeds_among pieces)
unfolding fed
fed_keeps [] given = omega arith
fed_keeps (p ∷ rest) given = if_bound (gives_text p.line (feeds_in p.text) given) (fed rest) _ _ (text_given p.line (feeds_in p.text) given)
    (λ more e. let same = feeds_in_all p.text in IfOk-weaker (fed rest more) _ _ (λ last e2. omega (arith, e, e2, same)) (fed_keeps rest more))

flushed_keeps : (table : List Macro) → IsQuietTable table → (k : ℕ) (pieces : List Piece) (given : List ℕ) (sum : ℕ) → length pieces ≤ k → AreTidy pieces → IfOk (flushed table k pieces given sum) (λ next. feeds_of next.0 ≡ feeds_of given + feeds_among pieces)
unfolding flushed
flushed_keeps table quiet zero [] given sum h tidy = omega arith
flushed_keeps table quiet zero (p ∷ rest) given sum h tidy = absurd (omega (arith, h))
flushed_keeps table quiet (suc k) [] given sum h tidy = omega arith
flushed_keeps table quiet (suc k) (p ∷ rest) given sum h tidy =
    if_bound (step table (expand_in table 200) [] p rest ([], sum)) (λ s. given_all s.1.0 given >>= (λ more. flushed table k (drop s.0 rest) more s.1.1)) _ _ (step_keeps table (expand_in table 200) quiet (expand_keeps table quiet 200) [] p rest ([], sum) tidy)
    (λ s e. if_bound (given_all s.1.0 given) (λ more. flushed table k (drop s.0 rest) more s.1.1) _ _ (given_keeps s.1.0 given)
    (λ more e2. let parts = among_parts s.0 rest in
    let less : length (drop s.0 rest) ≤ k = rw length-drop (omega (arith, h)) in
    IfOk-weaker (flushed table k (drop s.0 rest) more s.1.1) _ _ (λ last e3. omega (arith, e, e2, e3, parts)) (flushed_keeps table quiet k (drop s.0 rest) more s.1.1 less (tidy_drop s.0 rest tidy.1))))

-- ---- definitions

abbrev IsQuietBody : Body → Type 0
IsQuietBody b = feeds_among b.pieces + feeds_among b.gap ≡ 0

either_body : (t : Bool) (x y : Body) → IsQuietBody x → IsQuietBody y → IsQuietBody (if t then x else y)
either_body true x y hx hy = hx
either_body false x y hx hy = hy

sign_quiet : (b : Body) → IsQuietBody b → IsQuietBody (at_sign b)
sign_quiet b h = either_body (not b.half) _ _ h (either_body (length b.marks == 0) _ _ h (omega (arith, h)))

white_quiet : (b : Body) (p : Piece) → feeds_of p.text ≡ 0 → IsQuietBody b → IsQuietBody (at_white b p)
white_quiet b p hp h = either_body b.glued _ _ h (let all = among_append b.gap (p ∷ []) in omega (arith, all, hp, h))

solid_quiet : (names : List (List ℕ)) (b : Body) (p : Piece) → feeds_of p.text ≡ 0 → IsQuietBody b → IsQuietBody (at_solid names b p)
solid_quiet names b p hp h =
    let all = among_append (b.pieces ++ b.gap) (p ∷ []) in let both = among_append b.pieces b.gap in omega (arith, all, both, hp, h)

piece_quiet : (names : List (List ℕ)) (b : Body) (p : Piece) → feeds_of p.text ≡ 0 → IsQuietBody b → IsQuietBody (with_piece names b p)
piece_quiet names b p hp h =
    either_body (is_byte 35 p.kind) _ _ (sign_quiet b h) (either_body b.half _ _ h (either_body (is_white p.kind) _ _ (white_quiet b p hp h) (solid_quiet names b p hp h)))

body_quiet : (names : List (List ℕ)) (b : Body) (pieces : List Piece) → feeds_among pieces ≡ 0 → IsQuietBody b → IsQuietBody (fold (with_piece names) b pieces)
body_quiet names b [] h hb = hb
body_quiet names b (p ∷ rest) h hb = body_quiet names (with_piece names b p) rest (omega (arith, h)) (piece_quiet names b p (omega (arith, h)) hb)

macro_by : (t : Bool) (m : Macro) → feeds_among m.body ≡ 0 → IsQuietMacro (if t then Some m else None)
macro_by true m h = h
macro_by false m h = tt

with_body_quiet : (name : List ℕ) (arity : Option ℕ) (names : List (List ℕ)) (body : List Piece) → feeds_among body ≡ 0 → IsQuietMacro (with_body name arity names body)
with_body_quiet name arity names body h =
    let b : Body = body_of names body in
    let quiet : IsQuietBody b = body_quiet names no_body body h refl in
    macro_by (b.good && (not b.half && not b.glued)) (record { name = name; arity = arity; body = b.pieces; marks = b.marks; size = size_of body }) (omega (arith, quiet))

stripped_quiet : (pieces : List Piece) → feeds_among pieces ≡ 0 → feeds_among (stripped pieces) ≡ 0
stripped_quiet pieces h = let few = stripped_few pieces in omega (arith, few, h)

drop_quiet : (n : ℕ) (pieces : List Piece) → feeds_among pieces ≡ 0 → feeds_among (drop n pieces) ≡ 0
drop_quiet n pieces h = let parts = among_parts n pieces in omega (arith, parts, h)

parameters_quiet : (name : List ℕ) (behind : List Piece) (names : Option (List (List ℕ))) → feeds_among behind ≡ 0 → IsQuietMacro (option_and_then (with_parameters name behind) names)
parameters_quiet name behind None h = tt
parameters_quiet name behind (Some names) h = with_body_quiet name (Some (length names)) names (stripped behind) (stripped_quiet behind h)

closed_quiet : (name : List ℕ) (pieces : List Piece) (close : Option ℕ) → feeds_among pieces ≡ 0 → IsQuietMacro (closed_at name pieces close)
closed_quiet name pieces None h = tt
closed_quiet name pieces (Some n) h = parameters_quiet name (drop (3 + n) pieces) (parameters_of (take n (drop 2 pieces))) (drop_quiet (3 + n) pieces h)

named_quiet : (pieces : List Piece) (b : Bool) → feeds_among pieces ≡ 0 → IsQuietMacro (named_by pieces b)
named_quiet pieces false h = with_body_quiet (piece_at pieces 0).text None [] (stripped (drop 1 pieces)) (stripped_quiet (drop 1 pieces) (drop_quiet 1 pieces h))
named_quiet pieces true h = closed_quiet (piece_at pieces 0).text pieces (to_close (drop 2 pieces)) h

written_by_quiet : (pieces : List Piece) (kind : PieceKind) → feeds_among pieces ≡ 0 → IsQuietMacro (written_by pieces kind)
written_by_quiet pieces Word h = named_quiet pieces (is_byte 40 (piece_at pieces 1).kind) h
written_by_quiet pieces other h = tt

defines_by : (table : List Macro) (line : ℕ) (m : Option Macro) → IsQuietTable table → IsQuietMacro m → IfOk (sure line m >>= (λ entry. Ok (with_macro table entry))) IsQuietTable
defines_by table line None quiet h = tt
defines_by table line (Some m) quiet h = quiet_with table m quiet h

undefines_by : (table : List Macro) (line : ℕ) (name : Option (List ℕ)) → IsQuietTable table → IfOk (sure line name >>= (λ word. Ok (without table word))) IsQuietTable
undefines_by table line None quiet = tt
undefines_by table line (Some name) quiet = quiet_without table (place_in table name) quiet

-- ---- directives

-- a directive changes neither what is given nor the lines that wait
abbrev IsObeyed : Expander → Expander → Type 0
IsObeyed s next = IsQuietTable next.table × (next.given ≡ s.given) × (next.lines ≡ s.lines)

table_kept : (s : Expander) (r : Result (List Macro) Refusal) → IfOk r IsQuietTable → IfOk (r >>= with_table s) (IsObeyed s)
table_kept s (Ok table) h = (h, refl, refl)
table_kept s (Err e) h = tt

conditions_kept : (s : Expander) (r : Result (List Condition) Refusal) → IsQuietTable s.table → IfOk (r >>= with_conditions s) (IsObeyed s)
conditions_kept s (Ok conditions) h = (h, refl, refl)
conditions_kept s (Err e) h = tt

if_kept : (s : Expander) (line : ℕ) (rest : List Piece) → IsQuietTable s.table → IfOk (opens_if s line rest) (IsObeyed s)
if_kept s line rest quiet = either_ok (is_full s.conditions) _ _ _ tt
    (if_bound (asks s.table line rest s.sum) _ _ _ (any_result (asks s.table line rest s.sum))
    (λ found u. if_bound (opens s.conditions line true found.0) _ _ _ (any_result (opens s.conditions line true found.0)) (λ next v. (quiet, refl, refl))))

read_kept : (s : Expander) (line : ℕ) (rest : List Piece) (directive : Directive) → IsQuietTable s.table → feeds_among rest ≡ 0 → IfOk (read s line rest directive) (IsObeyed s)
read_kept s line rest Nothing quiet h = (quiet, refl, refl)
read_kept s line rest Define quiet h = table_kept s (defines s.table line rest) (defines_by s.table line (written rest) quiet (written_by_quiet rest (piece_at rest 0).kind h))
read_kept s line rest Undefine quiet h = table_kept s (undefines s.table line rest) (undefines_by s.table line (one_word rest) quiet)
read_kept s line rest (IfDefined wanted) quiet h = conditions_kept s (opens_named s.table s.conditions line rest wanted) quiet
read_kept s line rest If quiet h = if_kept s line rest quiet
read_kept s line rest Else quiet h = conditions_kept s (turns_at s.conditions line rest) quiet
read_kept s line rest EndIf quiet h = conditions_kept s (closes_at s.conditions line rest) quiet
read_kept s line rest Unknown quiet h = tt

obeyed_kept : (s : Expander) (line : ℕ) (body : List Piece) → IsQuietTable s.table → feeds_among body ≡ 0 → IfOk (obeys s line body) (IsObeyed s)
obeyed_kept s line body quiet h =
    let rest : List Piece = stripped (drop 1 body) in
    either_ok (skipping s.conditions) _ _ _ (conditions_kept s (skipped s.conditions line rest (directive_of body)) quiet) (read_kept s line rest (directive_of body) quiet (stripped_quiet (drop 1 body) (drop_quiet 1 body h)))

-- ---- lines

pub lines_append : (line : ℕ) (a b : List Piece) → HaveLines line a → HaveLines (line + feeds_among a) b → HaveLines line (a ++ b)
lines_append line [] b ha hb = let e : line + 0 ≡ line = omega arith in subst (λ (n : ℕ). HaveLines n b) e hb
lines_append line (p ∷ a) b ha hb = let e : line + (feeds_of p.text + feeds_among a) ≡ line + feeds_of p.text + feeds_among a = omega arith in
    (ha.0, lines_append (line + feeds_of p.text) a b ha.1 (subst (λ (n : ℕ). HaveLines n b) e hb))

pub lines_drop : (line n : ℕ) (pieces : List Piece) → HaveLines line pieces → HaveLines (line + feeds_among (take n pieces)) (drop n pieces)
lines_drop line zero pieces h = let e : line + 0 ≡ line = omega arith in subst (λ (m : ℕ). HaveLines m pieces) (sym e) h
lines_drop line (suc n) [] h = tt
lines_drop line (suc n) (p ∷ rest) h = let e : line + feeds_of p.text + feeds_among (take n rest) ≡ line + (feeds_of p.text + feeds_among (take n rest)) = omega arith in
    subst (λ (m : ℕ). HaveLines m (drop n rest)) e (lines_drop (line + feeds_of p.text) n rest h.1)

lines_take : (line n : ℕ) (pieces : List Piece) → HaveLines line pieces → HaveLines line (take n pieces)
lines_take line zero pieces h = tt
lines_take line (suc n) [] h = tt
lines_take line (suc n) (p ∷ rest) h = (h.0, lines_take (line + feeds_of p.text) n rest h.1)

-- the lines that wait are given with their line feeds
abbrev IsFlushed : Expander → Expander → Type 0
IsFlushed s next = IsQuietTable next.table × (next.lines ≡ []) × (feeds_of next.given ≡ feeds_of s.given + feeds_among s.lines)

flushes_keep : (s : Expander) → IsQuietTable s.table → AreTidy s.lines → IfOk (flushes s) (IsFlushed s)
flushes_keep s quiet tidy = either_ok (skipping s.conditions) _ _ _
    (if_bound (fed s.lines s.given) (λ given. Ok (record s { lines = []; given = given })) _ _ (fed_keeps s.lines s.given) (λ given e. (quiet, refl, e)))
    (if_bound (flushed s.table (length s.lines) s.lines s.given s.sum) (λ next. Ok (record s { lines = []; given = next.0; sum = next.1 })) _ _ (flushed_keeps s.table quiet (length s.lines) s.lines s.given s.sum (omega arith) tidy) (λ next e. (quiet, refl, e)))

-- what is given, what waits and what is left have the line feeds of the text, and what waits has its lines
abbrev pub IsInLine : List Piece → Expander → ℕ → Type 0
IsInLine text s at = IsQuietTable s.table × AreTidy s.lines × (feeds_of s.given + feeds_among s.lines + feeds_among (drop at text) ≡ feeds_among text) × HaveLines (1 + feeds_of s.given) s.lines

-- the pieces of a text, tidy and with their lines
abbrev pub IsWhole : List Piece → Type 0
IsWhole text = AreTidy text × HaveLines 1 text

waits_keeps : (text : List Piece) (s : Expander) (at end : ℕ) → IsWhole text → at ≤ end → IsInLine text s at → IsInLine text (record s { lines = s.lines ++ between at end text }) end
waits_keeps text s at end tidy h is =
    let parts = among_between at end text h in
    let all = among_append s.lines (between at end text) in
    let before = among_parts at text in
    let same : 1 + feeds_among (take at text) ≡ 1 + feeds_of s.given + feeds_among s.lines = omega (arith, before, is.2) in
    let behind : HaveLines (1 + feeds_of s.given + feeds_among s.lines) (between at end text) = lines_take _ (end - at) (drop at text) (subst (λ (n : ℕ). HaveLines n (drop at text)) same (lines_drop 1 at text tidy.1)) in
    (is.0, tidy_append s.lines (between at end text) is.1 (tidy_take (end - at) (drop at text) (tidy_drop at text tidy.0)), omega (arith, parts, all, is.2), lines_append (1 + feeds_of s.given) s.lines (between at end text) is.3 behind)

directs_keeps : (text : List Piece) (s : Expander) (at sign end : ℕ) → IsWhole text → at ≤ end → IsInLine text s at → IfOk (directs text s at sign end) (λ next. (next.0 ≡ end) × IsInLine text next.1 end)
directs_keeps text s at sign end tidy h is =
    let line : ℕ = (piece_at text sign).line in
    let body : List Piece = stripped (spliced (between (sign + 1) end text)) in
    let quiet : feeds_among body ≡ 0 = stripped_quiet (spliced (between (sign + 1) end text)) (spliced_quiet (between (sign + 1) end text) (tidy_take (end - (sign + 1)) (drop (sign + 1) text) (tidy_drop (sign + 1) text tidy.0))) in
    let parts = among_between at end text h in
    if_bound (flushes s) (λ s1. directed text s1 at end line body) _ _ (flushes_keep s is.0 is.1)
    (λ s1 e1. if_bound (obeys s1 line body) _ _ _ (obeyed_kept s1 line body e1.0 quiet)
    (λ s2 e2. if_bound (fed (between at end text) s2.given) _ _ _ (fed_keeps (between at end text) s2.given)
    (λ given e3.
    let lines : s2.lines ≡ [] = e2.2 ∙ e1.1 in
    let none : feeds_among s2.lines ≡ 0 = ap feeds_among lines in
    let same : feeds_of s2.given ≡ feeds_of s1.given = ap (λ (g : List ℕ). feeds_of g) e2.1 in
    (refl, (e2.0, quiet_tidy s2.lines none, omega (arith, parts, none, same, e3, e1.2, is.2), subst (λ (l : List Piece). HaveLines (1 + feeds_of given) l) (sym lines) tt)))))

-- a line that is read, and the place after it
abbrev pub IsRead : List Piece → ℕ → ℕ × Expander → Type 0
IsRead text at next = (at < next.0) × IsInLine text next.1 next.0

some_by : (b : Bool) (n : ℕ) → 0 < (if b then 1 else 1 + n)
some_by true n = omega arith
some_by false n = omega arith

pub line_some : (goes_on slash : Bool) (pieces : List Piece) → 0 < length pieces → 0 < line_len goes_on slash pieces
unfolding line_len
line_some goes_on slash [] h = absurd (omega (arith, h))
line_some goes_on slash (p ∷ rest) h = some_by _ (line_len goes_on (ends_with_slash p) rest)

goes_on : (text : List Piece) (at n : ℕ) → at < length text → at < at + n + line_len true false (drop (at + n) text)
goes_on text at zero h = let e : at + 0 ≡ at = omega arith in let some = line_some true false (drop at text) (rw length-drop (omega (arith, h))) in rw e (omega (arith, some))
goes_on text at (suc n) h = omega arith

line_by : (text : List Piece) (s : Expander) (at : ℕ) (mark : Option ℕ) → IsWhole text → at < length text → IsInLine text s at → IfOk (one_line_by text s at mark) (IsRead text at)
line_by text s at None tidy h is =
    let some = line_some false false (drop at text) (rw length-drop (omega (arith, h))) in
    (omega (arith, some), waits_keeps text s at (at + line_len false false (drop at text)) tidy (omega arith) is)
line_by text s at (Some n) tidy h is =
    let end : ℕ = at + n + line_len true false (drop (at + n) text) in
    let on : at < end = goes_on text at n h in
    IfOk-weaker (directs text s at (at + n) end) _ _ (λ next e. (omega (arith, e.0, on), subst (λ (m : ℕ). IsInLine text next.1 m) (sym e.0) e.1)) (directs_keeps text s at (at + n) end tidy (omega (arith, on)) is)

pub line_keeps : (text : List Piece) (s : Expander) (at : ℕ) → IsWhole text → at < length text → IsInLine text s at → IfOk (one_line text s at) (IsRead text at)
unfolding one_line
line_keeps text s at tidy h is = line_by text s at (mark_in true (drop at text)) tidy h is

ended_keeps : (s : Expander) (n : ℕ) (c : Option Condition) → feeds_of s.given ≡ n → IfOk (ended s c) (λ given. feeds_of given ≡ n)
ended_keeps s n None e = e
ended_keeps s n (Some c) e = tt

finish_keeps : (text : List Piece) (s : Expander) (at : ℕ) → length text ≤ at → IsInLine text s at → IfOk (finishes s) (λ given. feeds_of given ≡ feeds_among text)
unfolding finishes
finish_keeps text s at over is =
    let none : feeds_among (drop at text) ≡ 0 = rw (drop_all at text over) refl in
    if_bound (flushes s) (λ last. ended last (innermost last.conditions)) _ _ (flushes_keep s is.0 is.1) (λ last e. ended_keeps last (feeds_among text) (innermost last.conditions) (omega (arith, e.2, none, is.2)))

either_if : {A : Type 0} (b : Bool) (x y : Result A Refusal) (P : A → Type 0) → (b ≡ true → IfOk x P) → (b ≡ false → IfOk y P) → IfOk (if b then x else y) P
either_if true x y P hx hy = hx refl
either_if false x y P hx hy = hy refl

lines_keep : (k : ℕ) (text : List Piece) (s : Expander) (at : ℕ) → IsWhole text → length text ≤ at + k → IsInLine text s at → IfOk (lines_in k text s at) (λ given. feeds_of given ≡ feeds_among text)
unfolding lines_in
lines_keep zero text s at tidy room is = finish_keeps text s at (omega (arith, room)) is
lines_keep (suc k) text s at tidy room is =
    either_if (nat_le (length text) at) (finishes s) _ _
    (λ e. finish_keeps text s at (grind (arith, nat_tests)) is)
    (λ e. let h : at < length text = grind (arith, nat_tests) in
    if_bound (one_line text s at) (λ next. lines_in k text next.1 next.0) _ _ (line_keeps text s at tidy h is)
    (λ next read. lines_keep k text next.1 next.0 tidy (omega (arith, room, read.0)) read.1))

start_quiet : IsQuietTable start_table
unfolding cut cut_in front_of stripped solid_len
start_quiet = (refl, tt)

pub start_in_line : (text : List Piece) → IsInLine text start 0
start_in_line text = (start_quiet, tt, omega arith, tt)

-- each piece has the line of its first byte
have_lines : (k line : ℕ) (bytes : List ℕ) → HaveLines line (text_pieces k line bytes)
unfolding text_pieces
have_lines zero line bytes = tt
have_lines (suc k) line [] = tt
have_lines (suc k) line (b ∷ rest) =
    let n : ℕ = max 1 (front_of (b ∷ rest)).1 in
    (refl, have_lines k (line + feeds_of (take n (b ∷ rest))) (drop n (b ∷ rest)))

pub whole_text : (text : List ℕ) → IsWhole (text_pieces (length text) 1 text)
whole_text text = (text_tidy (length text) 1 text, have_lines (length text) 1 text)

pub line_feeds_are_kept : LineFeedsAreKept
unfolding expanded
line_feeds_are_kept text =
    let pieces : List Piece = text_pieces (length text) 1 text in
    let is : bytes_of pieces ≡ text = pieces_are_text (length text) 1 text (omega arith) in
    let same : feeds_among pieces ≡ feeds_of text = among_bytes pieces ∙ ap (λ (l : List ℕ). feeds_of l) is in
    IfOk-weaker (lines_in (length pieces) pieces start 0) _ _ (λ given e. omega (arith, e, same)) (lines_keep (length pieces) pieces start 0 (whole_text text) (omega arith) (start_in_line pieces))
