-- A text without directives and without names of macros is its own expansion.
use Rattle.std.proofs.Common.{◌≡◌, ◌≢◌, ℕ, zero, suc, ◌+◌, ◌-◌, ◌<◌, ◌≤◌, nat_le, Bool, true, false, if◌then◌else◌, List, [], ◌∷◌, ◌++◌, length, take, drop, refl, sym, ap, ◌∙◌, arith, append_assoc, append-nil, length-drop, None, Ok, Option, codes, one-add}
use Rattle.std.proofs.lemmas.Bool.{false_from_ne_true}
use Rattle.std.proofs.lemmas.Bool.Decides.{nat_tests}
use Rattle.std.proofs.lemmas.List.{drop_all, drop-drop, take-append-drop}
use Rattle.std.proofs.lemmas.Slice.Eq.{bytes_eq-Decides}
use Rattle.std.specs.Str.{bytes_eq}
use Rattle.lg_macro.specs.Cutting.{cut, cut_in, front_of}
use Rattle.lg_macro.specs.Arguments.{stripped, solid_len}
use Rattle.lg_pre.specs.Expanded.{start, start_table, one_line, lines_in, finishes, expanded}
use Rattle.lg_pre.specs.Given.{ArePlain}
use Rattle.lg_macro.specs.Macros.{most, place_in}
use Rattle.lg_macro.specs.Pieces.{Piece, is_feed}
use Rattle.lg_pre.specs.PlainTexts.{pieces_of, HasNoDirective, HasNoName, PlainTextsStay}
use Rattle.lg_macro.specs.Text.{mark_in, line_len, bytes_of, ends_with_slash}
use Rattle.lg_pre.specs.declared.expander.Expander.{Expander}
use Rattle.lg_pre.proofs.LineLaws.{line_some}
use Rattle.lg_pre.proofs.PlainLemmas.{pieces_are_text, plain_given}

-- ---- the one name at the start

no_such_name : (text : List ℕ) → text ≢ codes "__WORDSIZE" → place_in start_table text ≡ None
unfolding cut cut_in front_of stripped solid_len
no_such_name text other =
    let e : bytes_eq text (codes "__WORDSIZE") ≡ false = false_from_ne_true (bytes_eq text (codes "__WORDSIZE")) (λ is. other ((bytes_eq-Decides text (codes "__WORDSIZE")).0 is)) in
    rw e refl

none_either : (b : Bool) (o : Option ℕ) → o ≡ None → (if b then o else None) ≡ None
none_either true o e = e
none_either false o e = refl

are_plain : (pieces : List Piece) → HasNoName pieces → ArePlain start_table pieces
are_plain [] h = tt
are_plain (p ∷ rest) h = (none_either _ (place_in start_table p.text) (no_such_name p.text h.0), are_plain rest h.1)

-- ---- lines

no_mark : (pieces : List Piece) → HasNoDirective true pieces → mark_in true pieces ≡ None
unfolding mark_in
no_mark [] h = refl
no_mark (p ∷ rest) h = h.0 refl

after_by : (slash : Bool) (p : Piece) (rest : List Piece) (b : Bool) → is_feed p.kind ≡ b → HasNoDirective b rest → ((s : Bool) → HasNoDirective false rest → HasNoDirective true (drop (line_len false s rest) rest)) → HasNoDirective true (drop (line_len false slash (p ∷ rest)) (p ∷ rest))
unfolding line_len
after_by slash p rest true e h next = rw e h
after_by slash p rest false e h next = rw (e, one-add) (next (ends_with_slash p) h)

-- after a line the next one begins
after_line : (begins slash : Bool) (pieces : List Piece) → HasNoDirective begins pieces → HasNoDirective true (drop (line_len false slash pieces) pieces)
unfolding line_len
after_line begins slash [] h = tt
after_line begins slash (p ∷ rest) h = after_by slash p rest (is_feed p.kind) refl h.1 (λ s none. after_line false s rest none)

-- a text with lines that wait
abbrev waiting : List Piece → Expander
waiting lines = record start { lines = lines }

line_waits : (text lines : List Piece) (at : ℕ) → HasNoDirective true (drop at text) → one_line text (waiting lines) at ≡ Ok (at + line_len false false (drop at text), waiting (lines ++ take (at + line_len false false (drop at text) - at) (drop at text)))
unfolding one_line
line_waits text lines at h = rw (no_mark (drop at text) h) refl

finish_plain : (text : List Piece) → ArePlain start_table text → length (bytes_of text) ≤ most → finishes (waiting text) ≡ Ok (bytes_of text)
unfolding finishes
finish_plain text plain fits = rw (plain_given start_table (length text) text [] 0 (omega arith) plain (omega (arith, fits))) refl

lines_by : (k : ℕ) (text lines : List Piece) (at : ℕ) → ((next : List Piece) (at2 : ℕ) → at < at2 → next ++ drop at2 text ≡ text → HasNoDirective true (drop at2 text) → lines_in k text (waiting next) at2 ≡ Ok (bytes_of text)) → lines ++ drop at text ≡ text → HasNoDirective true (drop at text) → ArePlain start_table text → length (bytes_of text) ≤ most → (b : Bool) → nat_le (length text) at ≡ b → lines_in (suc k) text (waiting lines) at ≡ Ok (bytes_of text)
unfolding lines_in
lines_by k text lines at next all none plain fits true e =
    let over : length text ≤ at = grind (arith, nat_tests) in
    let whole : lines ≡ text = sym (append-nil lines) ∙ ap (λ (l : List Piece). lines ++ l) (sym (drop_all at text over)) ∙ all in
    rw (e, whole) (finish_plain text plain fits)
lines_by k text lines at next all none plain fits false e =
    let inside : at < length text = grind (arith, nat_tests) in
    let n : ℕ = line_len false false (drop at text) in
    let some : 0 < n = line_some false false (drop at text) (rw length-drop (omega arith)) in
    let less : at + n - at ≡ n = omega arith in
    let behind : drop (at + n) text ≡ drop n (drop at text) = sym (drop-drop n at text) in
    let joined : (lines ++ take (at + n - at) (drop at text)) ++ drop (at + n) text ≡ text =
    rw (less, behind, append_assoc, take-append-drop n (drop at text)) all in
    rw (e, line_waits text lines at none)
    (next (lines ++ take (at + n - at) (drop at text)) (at + n) (omega arith) joined (rw behind (after_line true false (drop at text) none)))

lines_plain : (k : ℕ) (text lines : List Piece) (at : ℕ) → length text ≤ at + k → lines ++ drop at text ≡ text → HasNoDirective true (drop at text) → ArePlain start_table text → length (bytes_of text) ≤ most → lines_in k text (waiting lines) at ≡ Ok (bytes_of text)
unfolding lines_in
lines_plain zero text lines at room all none plain fits =
    let whole : lines ≡ text = sym (append-nil lines) ∙ ap (λ (l : List Piece). lines ++ l) (sym (drop_all at text (omega (arith, room)))) ∙ all in
    rw whole (finish_plain text plain fits)
lines_plain (suc k) text lines at room all none plain fits =
    lines_by k text lines at (λ next at2 on all2 none2. lines_plain k text next at2 (omega (arith, room, on)) all2 none2 plain fits) all none plain fits (nat_le (length text) at) refl

pub plain_texts_stay : PlainTextsStay
unfolding expanded
plain_texts_stay text short none names =
    let is : bytes_of (pieces_of text) ≡ text = pieces_are_text (length text) 1 text (omega arith) in
    lines_plain (length (pieces_of text)) (pieces_of text) [] 0 (omega arith) refl none (are_plain (pieces_of text) names) (rw is short) ∙ ap Ok is
