-- Tokens keep their lines.
use Rattle.std.proofs.Common.{◌≡◌, ℕ, zero, suc, ◌+◌, ◌<◌, ◌==◌, Bool, true, false, if◌then◌else◌, List, [], ◌∷◌, ◌++◌, length, take, drop, fold, refl, sym, ap, subst, ◌∙◌, arith, append_assoc, append-nil, Option, Some, None, slice_get, Ok, IfSome, IfOk}
use Rattle.std.proofs.lemmas.Bool.Decides.{nat_tests}
use Rattle.std.proofs.lemmas.Result.{IfOk-weaker}
use Rattle.lg_macro.specs.Arguments.{opening, closing, arguments_of, feed, with_feed, with_feeds_of, with_feeds}
use Rattle.lg_pre.specs.Expanded.{start, one_line}
use Rattle.lg_replacement.specs.Expansion.{Step, kept, named, put, put_name, object, replaced, called, closed, opened, by_arity, at_macro, at_name, step, expand_in}
use Rattle.lg_replacement.specs.Expansion.{Expander as Replacer}
use Rattle.lg_pre.specs.Given.{given_all}
use Rattle.lg_pre.specs.Lines.{HaveLines, PiecesAreTheText, AreFeeds, IsOneLine, outermost, AreOnTheirLines, AreFlushedOnLines, IsOnItsLines, TokensKeepTheirLines}
use Rattle.lg_macro.specs.Macros.{counted}
use Rattle.lg_macro.specs.Pieces.{Piece}
use Rattle.lg_pre.specs.PlainTexts.{pieces_of}
use Rattle.lg_macro.specs.Text.{feeds_of, mark_in}
use Rattle.lg_pre.specs.declared.expander.Expander.{Expander}
use Rattle.lg_macro.specs.declared.macros.Macro.{Macro}
use Rattle.lg_macro.proofs.FeedLemmas.{feeds_among, AreTidy, AreQuiet, among_bytes, tidy_drop, tidy_take, arguments_quiet}
use Rattle.lg_pre.proofs.LineLaws.{if_bound, any_result, IsQuietMacro, IsQuietTable, quiet_at, Keeps, put_keeps, replaced_keeps, step_keeps, expand_keeps, IsQuietName, name_is_quiet, given_keeps, lines_drop, IsInLine, IsWhole, line_keeps, start_in_line, whole_text}
use Rattle.lg_pre.proofs.PlainLemmas.{pieces_are_text, plain_step}

pub pieces_are_the_text : PiecesAreTheText
pieces_are_the_text text = (pieces_are_text (length text) 1 text (omega arith), (whole_text text).1)

-- ---- line feeds after what a call gives

abbrev HasFeedsAfter : List Piece → List Piece → Type 0
HasFeedsAfter given out = (feeds : List Piece) × (out ≡ given ++ feeds) × AreFeeds feeds

all_feeds : (a b : List Piece) → AreFeeds a → AreFeeds b → AreFeeds (a ++ b)
all_feeds [] b ha hb = hb
all_feeds (p ∷ a) b ha hb = (ha.0, all_feeds a b ha.1 hb)

none_behind : (given : List Piece) → HasFeedsAfter given given
none_behind given = ([], sym (append-nil given), tt)

one_after : (line : ℕ) (given : List Piece) (b : Bool) → HasFeedsAfter given (if b then given ++ feed line ∷ [] else given)
one_after line given true = (feed line ∷ [], refl, (refl, tt))
one_after line given false = none_behind given

more_after : (given next out : List Piece) → HasFeedsAfter given next → HasFeedsAfter next out → HasFeedsAfter given out
more_after given next out a b = (a.0 ++ b.0, b.1 ∙ ap (λ (l : List Piece). l ++ b.0) a.1 ∙ append_assoc given a.0 b.0, all_feeds a.0 b.0 a.2 b.2)

text_after : (line : ℕ) (given : List Piece) (bytes : List ℕ) → HasFeedsAfter given (fold (with_feed line) given bytes)
text_after line given [] = none_behind given
text_after line given (b ∷ bytes) = more_after given (with_feed line given b) _ (one_after line given (b == 10)) (text_after line (with_feed line given b) bytes)

call_after : (line : ℕ) (given pieces : List Piece) → HasFeedsAfter given (with_feeds line given pieces)
unfolding with_feeds
call_after line given [] = none_behind given
call_after line given (p ∷ rest) = more_after given (with_feeds_of line given p) _ (text_after line given p.text) (call_after line (with_feeds_of line given p) rest)

feeds_line : (given out : List Piece) → feeds_among given ≡ 0 → HasFeedsAfter given out → IsOneLine out
feeds_line given out quiet h = record { made = given; feeds = h.0; all = h.1; none = sym (among_bytes given) ∙ quiet; alone = h.2 }

quiet_line : (out : List Piece) → feeds_among out ≡ 0 → IsOneLine out
quiet_line out quiet = feeds_line out out quiet (none_behind out)

-- ---- what a name gives is on one line

abbrev GivesOneLine : Step → Type 0
GivesOneLine s = IfOk s (λ done. IsOneLine done.1.0)

kept_line : (q : Piece) (sum : ℕ) → feeds_of q.text ≡ 0 → GivesOneLine (kept q ([], sum))
kept_line q sum quiet = quiet_line (q ∷ []) (omega (arith, quiet))

object_line : (inner : Replacer) → Keeps inner → (p : Piece) (place : ℕ) (m : Macro) (sum : ℕ) → feeds_among m.body ≡ 0 → GivesOneLine (object inner p [] place m ([], sum))
unfolding object
object_line inner keeps p place m sum hb =
    if_bound (counted p.line m sum) (put_name inner p [] place m []) _ _ (any_result (counted p.line m sum))
    (λ next u. if_bound (put inner p.line [] place m [] [] ([], next)) (λ given. Ok (0, given)) _ _ (put_keeps inner keeps p.line [] place m [] [] ([], next) hb refl refl)
    (λ given e. quiet_line given.0 e))

called_line : (inner : Replacer) → Keeps inner → (p : Piece) (place : ℕ) (m : Macro) (sum : ℕ) (call : List Piece) (arguments : Option (List (List Piece))) → feeds_among m.body ≡ 0 → AreQuiet arguments → GivesOneLine (called inner p [] place m ([], sum) call arguments)
unfolding called
called_line inner keeps p place m sum call None hb quiet = tt
called_line inner keeps p place m sum call (Some raw) hb quiet =
    if_bound (replaced inner p.line [] place m ([], sum) raw) (λ next. Ok (length call, (with_feeds p.line next.0 call, next.1))) _ _ (replaced_keeps inner keeps p.line [] place m ([], sum) raw hb quiet)
    (λ next e. feeds_line next.0 (with_feeds p.line next.0 call) e (call_after p.line next.0 call))

closed_line : (inner : Replacer) → Keeps inner → (p : Piece) (place : ℕ) (m : Macro) (sum : ℕ) (rest : List Piece) (arity begun : ℕ) (len : Option ℕ) → feeds_among m.body ≡ 0 → AreTidy rest → GivesOneLine (closed inner p [] place m ([], sum) rest arity begun len)
closed_line inner keeps p place m sum rest arity begun None hb tidy = tt
closed_line inner keeps p place m sum rest arity begun (Some len) hb tidy =
    called_line inner keeps p place m sum (take (begun + len + 1) rest) (arguments_of arity p.line (take len (drop begun rest))) hb (arguments_quiet arity p.line (take len (drop begun rest)) (tidy_take len (drop begun rest) (tidy_drop begun rest tidy)))

opened_line : (inner : Replacer) → Keeps inner → (p : Piece) (place : ℕ) (m : Macro) (sum : ℕ) (rest : List Piece) (arity : ℕ) (begun : Option ℕ) → feeds_among m.body ≡ 0 → feeds_of p.text ≡ 0 → AreTidy rest → GivesOneLine (opened inner p [] place m ([], sum) rest arity begun)
unfolding opened
opened_line inner keeps p place m sum rest arity None hb hp tidy = kept_line p sum hp
opened_line inner keeps p place m sum rest arity (Some begun) hb hp tidy = closed_line inner keeps p place m sum rest arity begun (closing 0 (drop begun rest)) hb tidy

arity_line : (inner : Replacer) → Keeps inner → (p : Piece) (place : ℕ) (m : Macro) (sum : ℕ) (rest : List Piece) (arity : Option ℕ) → feeds_among m.body ≡ 0 → feeds_of p.text ≡ 0 → AreTidy rest → GivesOneLine (by_arity inner p [] place m ([], sum) rest arity)
arity_line inner keeps p place m sum rest None hb hp tidy = object_line inner keeps p place m sum hb
arity_line inner keeps p place m sum rest (Some arity) hb hp tidy = opened_line inner keeps p place m sum rest arity (opening rest) hb hp tidy

macro_line : (inner : Replacer) → Keeps inner → (p : Piece) (place : ℕ) (sum : ℕ) (rest : List Piece) (m : Option Macro) → IsQuietMacro m → feeds_of p.text ≡ 0 → AreTidy rest → GivesOneLine (at_macro inner p [] place ([], sum) rest m)
unfolding at_macro
macro_line inner keeps p place sum rest None hm hp tidy = kept_line p sum hp
macro_line inner keeps p place sum rest (Some m) hm hp tidy = arity_line inner keeps p place m sum rest m.arity hm hp tidy

name_line : (table : List Macro) (inner : Replacer) → IsQuietTable table → Keeps inner → (p : Piece) (rest : List Piece) (sum place : ℕ) → AreTidy (p ∷ rest) → named table p ≡ Some place → GivesOneLine (step table inner [] p rest ([], sum))
unfolding step at_name
name_line table inner quiet keeps p rest sum place tidy e =
    let hp : feeds_of p.text ≡ 0 = subst (IsQuietName p) e (name_is_quiet table p tidy.0) in
    rw e (macro_line inner keeps p place sum rest (slice_get table place) (quiet_at table place quiet) hp tidy.1)

-- ---- each piece to which an expansion comes

on_lines : (table : List Macro) → IsQuietTable table → (k : ℕ) (pieces : List Piece) (given : List ℕ) (sum : ℕ) → AreTidy pieces → HaveLines (1 + feeds_of given) pieces → AreOnTheirLines table k pieces given sum
unfolding AreOnTheirLines
on_lines table quiet zero pieces given sum tidy h = tt
on_lines table quiet (suc k) [] given sum tidy h = tt
on_lines table quiet (suc k) (p ∷ rest) given sum tidy h =
    let keeps : Keeps (expand_in table 200) = expand_keeps table quiet 200 in (
      record { line = h.0; stays = (λ none. plain_step table (expand_in table 200) p rest ([], sum) none); gives = (λ place is. name_line table (expand_in table 200) quiet keeps p rest sum place tidy is) },
      IfOk-weaker (outermost table p rest sum) _ _
          (λ s e. IfOk-weaker (given_all s.1.0 given) _ _
          (λ more e2.
          let same : 1 + feeds_of given + feeds_of p.text + feeds_among (take s.0 rest) ≡ 1 + feeds_of more = omega (arith, e, e2) in
          on_lines table quiet k (drop s.0 rest) more s.1.1 (tidy_drop s.0 rest tidy.1) (subst (λ (n : ℕ). HaveLines n (drop s.0 rest)) same (lines_drop (1 + feeds_of given + feeds_of p.text) s.0 rest h.1)))
          (given_keeps s.1.0 given))
          (step_keeps table (expand_in table 200) quiet keeps [] p rest ([], sum) tidy),
    )

flushed_on_lines : (text : List Piece) (s : Expander) (at : ℕ) → IsInLine text s at → AreFlushedOnLines s
flushed_on_lines text s at is = λ chosen. on_lines s.table is.0 (length s.lines) s.lines s.given s.sum is.1 is.3

any_some : (o : Option ℕ) (A : Type 0) → A → IfSome o (λ n. A)
any_some None A a = tt
any_some (Some n) A a = a

lines_on_lines : (k : ℕ) (text : List Piece) (s : Expander) (at : ℕ) → IsWhole text → IsInLine text s at → IsOnItsLines k text s at
unfolding IsOnItsLines
lines_on_lines zero text s at whole is = flushed_on_lines text s at is
lines_on_lines (suc k) text s at whole is = (
  (λ over. flushed_on_lines text s at is),
  (λ e. let h : at < length text = grind (arith, nat_tests) in (
    any_some (mark_in true (drop at text)) (AreFlushedOnLines s) (flushed_on_lines text s at is),
    IfOk-weaker (one_line text s at) _ _ (λ next read. lines_on_lines k text next.1 next.0 whole read.1) (line_keeps text s at whole h is),
  )),
)

pub tokens_keep_their_lines : TokensKeepTheirLines
tokens_keep_their_lines text = lines_on_lines (length (pieces_of text)) (pieces_of text) start 0 (whole_text text) (start_in_line (pieces_of text))
