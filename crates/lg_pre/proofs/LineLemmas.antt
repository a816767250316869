-- Line feeds that are given, and the lines of a text one after the other.
use Rattle.std.proofs.Common.{◌≡◌, ℕ, zero, suc, ◌+◌, ◌-◌, ◌<◌, ◌≤◌, nat_le, min, true, false, List, [], ◌∷◌, length, drop, refl, sym, ap, ◌∙◌, arith, Ok, Err}
use Rattle.std.proofs.lemmas.Bool.Decides.{nat_tests}
use Rattle.std.proofs.lemmas.List.{take_all}
use Rattle.std.proofs.Common.{Option, None, Some, codes}
use Rattle.lg_macro.specs.Cutting.{cut}
use Rattle.lg_macro.specs.Defines.{written}
use Rattle.lg_macro.specs.Macros.{with_macro}
use Rattle.lg_macro.specs.declared.macros.Macro.{Macro}
use Rattle.lg_pre.specs.Expanded.{one_line, lines_in, finishes, table_by, start_table}
use Rattle.lg_macro.specs.Text.{feeds_in}
use Rattle.lg_pre.specs.Given.{fed, gives_text}
use Rattle.lg_macro.specs.Pieces.{Piece, piece_at, between}
use Rattle.lg_pre.specs.declared.expander.Expander.{Expander}
use Rattle.lg_base.specs.declared.refusal.Refusal.{Refusal}
use Rattle.lg_macro.proofs.CallLemmas.{between_cons, between_end}

pub fed_more : (pieces : List Piece) (at end : ℕ) (given next : List ℕ) → at < end → end ≤ length pieces → gives_text (piece_at pieces at).line (feeds_in (piece_at pieces at).text) given ≡ Ok next → fed (between (at + 1) end pieces) next ≡ fed (between at end pieces) given
unfolding fed
fed_more pieces at end given next h inside e = rw (between_cons at end pieces h inside, e) refl

pub fed_stop : (pieces : List Piece) (at end : ℕ) (given : List ℕ) (fault : Refusal) → at < end → end ≤ length pieces → gives_text (piece_at pieces at).line (feeds_in (piece_at pieces at).text) given ≡ Err fault → fed (between at end pieces) given ≡ Err fault
unfolding fed
fed_stop pieces at end given fault h inside e = rw (between_cons at end pieces h inside, e) refl

pub fed_done : (pieces : List Piece) (at end : ℕ) (given : List ℕ) → end ≤ at → fed (between at end pieces) given ≡ Ok given
unfolding fed
fed_done pieces at end given h = rw (between_end at end pieces h) refl

-- ---- lines

pub lines_more : (k : ℕ) (text : List Piece) (s next : Expander) (at n : ℕ) → at < length text → length text ≤ at + k → one_line text s at ≡ Ok (n, next) → lines_in (k - 1) text next n ≡ lines_in k text s at
unfolding lines_in
lines_more zero text s next at n h room e = absurd (omega (arith, h, room))
lines_more (suc k) text s next at n h room e =
    let one : suc k - 1 ≡ k = omega arith in let test : nat_le (length text) at ≡ false = grind (arith, nat_tests) in
    rw (one, test, e) refl

pub lines_stop : (k : ℕ) (text : List Piece) (s : Expander) (at : ℕ) (fault : Refusal) → at < length text → length text ≤ at + k → one_line text s at ≡ Err fault → lines_in k text s at ≡ Err fault
unfolding lines_in
lines_stop zero text s at fault h room e = absurd (omega (arith, h, room))
lines_stop (suc k) text s at fault h room e =
    let test : nat_le (length text) at ≡ false = grind (arith, nat_tests) in rw (test, e) refl

pub lines_done : (k : ℕ) (text : List Piece) (s : Expander) (at : ℕ) → length text ≤ at → lines_in k text s at ≡ finishes s
unfolding lines_in
lines_done zero text s at h = refl
lines_done (suc k) text s at h = let test : nat_le (length text) at ≡ true = grind (arith, nat_tests) in rw test refl

-- ---- a directive's pieces

pub after_first : (pieces : List Piece) (n : ℕ) → n ≡ min (length pieces) 1 → drop n pieces ≡ drop 1 pieces
after_first [] n e = rw e refl
after_first (p ∷ rest) n e = let one : min (suc (length rest)) 1 ≡ 1 = omega arith in rw (e, one) refl

pub between_whole : (pieces : List Piece) (n : ℕ) → n ≡ length pieces → between 0 n pieces ≡ pieces
between_whole pieces n e = let zero_less : n - 0 ≡ n = omega arith in rw zero_less (take_all n pieces (omega arith))

-- ---- the table at the start

pub table_made : (pieces : List Piece) (found : Option Macro) (entry : Macro) (table new : List Macro) → pieces ≡ cut 0 (codes "__WORDSIZE 64") → found ≡ written pieces → found ≡ Some entry → table ≡ [] → new ≡ with_macro table entry → new ≡ start_table
table_made pieces found entry table new e1 e2 e3 e4 e5 = rw (e5, e4) (ap table_by (sym e3 ∙ e2 ∙ ap (λ (ps : List Piece). written ps) e1))

pub table_empty : (pieces : List Piece) (found : Option Macro) (table : List Macro) → pieces ≡ cut 0 (codes "__WORDSIZE 64") → found ≡ written pieces → found ≡ None → table ≡ [] → table ≡ start_table
table_empty pieces found table e1 e2 e3 e4 = rw e4 (ap table_by (sym e3 ∙ e2 ∙ ap (λ (ps : List Piece). written ps) e1))
