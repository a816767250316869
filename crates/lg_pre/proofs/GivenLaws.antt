-- What an expansion has given stays.
use Rattle.std.proofs.Common.{◌≡◌, ℕ, zero, suc, ◌+◌, nat_le, nat_lt, true, false, List, [], ◌∷◌, ◌++◌, length, drop, refl, sym, ap, subst, ◌∙◌, append_assoc, append-nil, Option, Some, None, Result, Ok, IfOk}
use Rattle.std.proofs.lemmas.Result.{IfOk-weaker}
use Rattle.lg_macro.specs.Arguments.{stripped}
use Rattle.lg_pre.specs.Conditions.{is_full, innermost, skipping, skipped, opens, turns_at, closes_at}
use Rattle.lg_pre.specs.Directive.{directive_of}
use Rattle.lg_macro.specs.Defines.{spliced}
use Rattle.lg_pre.specs.Expanded.{defines, undefines, opens_named, opens_if, read, obeys, with_table, with_conditions, flushes, directed, directs, one_line_by, one_line, ended, finishes, lines_in}
use Rattle.lg_replacement.specs.Expansion.{step, expand_in}
use Rattle.lg_pre.specs.Given.{gives_text, gives, given_all, flushed, fed}
use Rattle.lg_pre.specs.Lines.{BeginsWith, GivenBytesStay}
use Rattle.lg_base.specs.Refusals.{◌>>=◌}
use Rattle.lg_macro.specs.Macros.{most}
use Rattle.lg_macro.specs.Pieces.{Piece, piece_at, between}
use Rattle.lg_pre.specs.Questions.{asks}
use Rattle.lg_macro.specs.Text.{feeds_in, line_len, mark_in}
use Rattle.lg_pre.specs.declared.conditions.Condition.{Condition}
use Rattle.lg_pre.specs.declared.directive.Directive.{Directive}
use Rattle.lg_pre.specs.declared.directive.Directive.TheVariants.{Nothing, Define, Undefine, IfDefined, If, Else, EndIf, Unknown}
use Rattle.lg_pre.specs.declared.expander.Expander.{Expander}
use Rattle.lg_macro.specs.declared.macros.Macro.{Macro}
use Rattle.lg_base.specs.declared.refusal.Refusal.{Refusal}
use Rattle.lg_pre.proofs.LineLaws.{if_bound, either_ok, any_result}

begins_itself : (given : List ℕ) → BeginsWith given given
begins_itself given = ([], sym (append-nil given))

begins_further : (given next whole : List ℕ) → BeginsWith next given → BeginsWith whole next → BeginsWith whole given
begins_further given next whole a b = (a.0 ++ b.0, b.1 ∙ ap (λ (l : List ℕ). l ++ b.0) a.1 ∙ append_assoc given a.0 b.0)

text_stays : (line : ℕ) (text given : List ℕ) → IfOk (gives_text line text given) (λ next. BeginsWith next given)
text_stays line text given = either_ok (nat_lt most (length given + length text)) _ (Ok (given ++ text)) _ tt (text, refl)

all_stays : (pieces : List Piece) (given : List ℕ) → IfOk (given_all pieces given) (λ next. BeginsWith next given)
unfolding given_all
all_stays [] given = begins_itself given
all_stays (p ∷ rest) given = if_bound (gives p given) (given_all rest) _ _ (text_stays p.line p.text given)
    (λ next a. IfOk-weaker (given_all rest next) _ _ (λ whole b. begins_further given next whole a b) (all_stays rest next))

fed_stays : (pieces : List Piece) (given : List ℕ) → IfOk (fed pieces given) (λ next. BeginsWith next given)
unfolding fed
fed_stays [] given = begins_itself given
fed_stays (p ∷ rest) given = if_bound (gives_text p.line (feeds_in p.text) given) (fed rest) _ _ (text_stays p.line (feeds_in p.text) given)
    (λ next a. IfOk-weaker (fed rest next) _ _ (λ whole b. begins_further given next whole a b) (fed_stays rest next))

flushed_stays : (table : List Macro) (k : ℕ) (pieces : List Piece) (given : List ℕ) (sum : ℕ) → IfOk (flushed table k pieces given sum) (λ next. BeginsWith next.0 given)
unfolding flushed
flushed_stays table zero pieces given sum = begins_itself given
flushed_stays table (suc k) [] given sum = begins_itself given
flushed_stays table (suc k) (p ∷ rest) given sum =
    if_bound (step table (expand_in table 200) [] p rest ([], sum)) (λ s. given_all s.1.0 given >>= (λ more. flushed table k (drop s.0 rest) more s.1.1)) _ _ (any_result (step table (expand_in table 200) [] p rest ([], sum)))
    (λ s u. if_bound (given_all s.1.0 given) (λ more. flushed table k (drop s.0 rest) more s.1.1) _ _ (all_stays s.1.0 given)
    (λ more a. IfOk-weaker (flushed table k (drop s.0 rest) more s.1.1) _ _ (λ whole b. begins_further given more whole.0 a b) (flushed_stays table k (drop s.0 rest) more s.1.1)))

-- ---- directives give nothing

abbrev GivesNothing : Expander → Expander → Type 0
GivesNothing s next = next.given ≡ s.given

table_gives : (s : Expander) (r : Result (List Macro) Refusal) → IfOk (r >>= with_table s) (GivesNothing s)
table_gives s r = if_bound r (with_table s) _ _ (any_result r) (λ table u. refl)

conditions_give : (s : Expander) (r : Result (List Condition) Refusal) → IfOk (r >>= with_conditions s) (GivesNothing s)
conditions_give s r = if_bound r (with_conditions s) _ _ (any_result r) (λ conditions u. refl)

if_gives : (s : Expander) (line : ℕ) (rest : List Piece) → IfOk (opens_if s line rest) (GivesNothing s)
if_gives s line rest = either_ok (is_full s.conditions) _ _ _ tt
    (if_bound (asks s.table line rest s.sum) _ _ _ (any_result (asks s.table line rest s.sum))
    (λ found u. if_bound (opens s.conditions line true found.0) _ _ _ (any_result (opens s.conditions line true found.0)) (λ next v. refl)))

read_gives : (s : Expander) (line : ℕ) (rest : List Piece) (directive : Directive) → IfOk (read s line rest directive) (GivesNothing s)
read_gives s line rest Nothing = refl
read_gives s line rest Define = table_gives s (defines s.table line rest)
read_gives s line rest Undefine = table_gives s (undefines s.table line rest)
read_gives s line rest (IfDefined wanted) = conditions_give s (opens_named s.table s.conditions line rest wanted)
read_gives s line rest If = if_gives s line rest
read_gives s line rest Else = conditions_give s (turns_at s.conditions line rest)
read_gives s line rest EndIf = conditions_give s (closes_at s.conditions line rest)
read_gives s line rest Unknown = tt

obeyed_gives : (s : Expander) (line : ℕ) (body : List Piece) → IfOk (obeys s line body) (GivesNothing s)
obeyed_gives s line body =
    let rest : List Piece = stripped (drop 1 body) in
    either_ok (skipping s.conditions) _ _ _ (conditions_give s (skipped s.conditions line rest (directive_of body))) (read_gives s line rest (directive_of body))

-- ---- lines

flushes_stay : (s : Expander) → IfOk (flushes s) (λ next. BeginsWith next.given s.given)
flushes_stay s = either_ok (skipping s.conditions) _ _ _
    (if_bound (fed s.lines s.given) (λ given. Ok (record s { lines = []; given = given })) _ _ (fed_stays s.lines s.given) (λ given a. a))
    (if_bound (flushed s.table (length s.lines) s.lines s.given s.sum) (λ next. Ok (record s { lines = []; given = next.0; sum = next.1 })) _ _ (flushed_stays s.table (length s.lines) s.lines s.given s.sum) (λ next a. a))

directs_stay : (text : List Piece) (s : Expander) (at sign end : ℕ) → IfOk (directs text s at sign end) (λ next. BeginsWith next.1.given s.given)
directs_stay text s at sign end =
    let line : ℕ = (piece_at text sign).line in
    let body : List Piece = stripped (spliced (between (sign + 1) end text)) in
    if_bound (flushes s) (λ s1. directed text s1 at end line body) _ _ (flushes_stay s)
    (λ s1 a. if_bound (obeys s1 line body) _ _ _ (obeyed_gives s1 line body)
    (λ s2 same. if_bound (fed (between at end text) s2.given) _ _ _ (fed_stays (between at end text) s2.given)
    (λ given b. begins_further s.given s1.given given a (subst (λ (g : List ℕ). BeginsWith given g) same b))))

line_by_stays : (text : List Piece) (s : Expander) (at : ℕ) (mark : Option ℕ) → IfOk (one_line_by text s at mark) (λ next. BeginsWith next.1.given s.given)
line_by_stays text s at None = begins_itself s.given
line_by_stays text s at (Some n) = directs_stay text s at (at + n) (at + n + line_len true false (drop (at + n) text))

line_stays : (text : List Piece) (s : Expander) (at : ℕ) → IfOk (one_line text s at) (λ next. BeginsWith next.1.given s.given)
unfolding one_line
line_stays text s at = line_by_stays text s at (mark_in true (drop at text))

ended_stays : (given : List ℕ) (s : Expander) (c : Option Condition) → BeginsWith s.given given → IfOk (ended s c) (λ whole. BeginsWith whole given)
ended_stays given s None a = a
ended_stays given s (Some c) a = tt

finish_stays : (s : Expander) → IfOk (finishes s) (λ whole. BeginsWith whole s.given)
unfolding finishes
finish_stays s = if_bound (flushes s) (λ last. ended last (innermost last.conditions)) _ _ (flushes_stay s) (λ last a. ended_stays s.given last (innermost last.conditions) a)

lines_stay : (k : ℕ) (text : List Piece) (s : Expander) (at : ℕ) → IfOk (lines_in k text s at) (λ whole. BeginsWith whole s.given)
unfolding lines_in
lines_stay zero text s at = finish_stays s
lines_stay (suc k) text s at = either_ok (nat_le (length text) at) _ _ _ (finish_stays s)
    (if_bound (one_line text s at) (λ next. lines_in k text next.1 next.0) _ _ (line_stays text s at)
    (λ next a. IfOk-weaker (lines_in k text next.1 next.0) _ _ (λ whole b. begins_further s.given next.1.given whole a b) (lines_stay k text next.1 next.0)))

pub given_bytes_stay : GivenBytesStay
given_bytes_stay = (flushed_stays, lines_stay)
