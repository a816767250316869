-- Directives' pieces, parameters and bodies, piece by piece.
use Rattle.std.proofs.Common.{◌≡◌, ℕ, suc, ◌+◌, ◌<◌, ◌≤◌, ◌==◌, Bool, true, false, not, ◌&&◌, List, [], ◌∷◌, ◌++◌, length, drop, get_or, fold, refl, sym, ap, ◌∙◌, arith, append_assoc, append-nil, Some, None}
use Rattle.std.proofs.Math.Seq.{drop-cons}
use Rattle.std.proofs.lemmas.List.{drop_all}
use Rattle.std.specs.List.{list_any}
use Rattle.std.specs.Str.{bytes_eq}
use Rattle.lg_macro.specs.Pieces.{Piece, piece_at, between, is_byte, is_feed, is_spaced}
use Rattle.std.proofs.lemmas.Bool.{true≢false}
use Rattle.lg_macro.specs.declared.pieces.PieceKind.{PieceKind}
use Rattle.lg_macro.specs.declared.pieces.PieceKind.TheVariants.{Comment, Feed, Quoted, Word, Number, Byte}
use Rattle.lg_lex.specs.Bytes.{further}
use Rattle.lg_macro.specs.Arguments.{gathered}
use Rattle.lg_macro.specs.Defines.{first_is_feed, is_straight, spaced, spliced, to_close, one_word, names_of, no_group, parameters_of}
use Rattle.lg_macro.proofs.CallLemmas.{drop_piece, further_more, between_cons, between_end, between_more}

pub splice_more : (at end : ℕ) (pieces out : List Piece) → at < end → end ≤ length pieces → (is_byte 92 (piece_at pieces at).kind && first_is_feed (between (at + 1) end pieces)) ≡ true → out ++ spliced (between (at + 1) end pieces) ≡ out ++ spliced (between at end pieces)
unfolding spliced
splice_more at end pieces out h inside test = rw (between_cons at end pieces h inside, test) refl

pub spaced_more : (at end : ℕ) (pieces out new : List Piece) → at < end → end ≤ length pieces → (is_byte 92 (piece_at pieces at).kind && first_is_feed (between (at + 1) end pieces)) ≡ false → new ≡ out ++ spaced (piece_at pieces at) ∷ [] → new ++ spliced (between (at + 1) end pieces) ≡ out ++ spliced (between at end pieces)
unfolding spliced
spaced_more at end pieces out new h inside test e = rw (between_cons at end pieces h inside, test, e, append_assoc) refl

pub spliced_end : (at end : ℕ) (pieces out : List Piece) → end ≤ at → out ++ spliced (between at end pieces) ≡ out
unfolding spliced
spliced_end at end pieces out h = rw (between_end at end pieces h) (append-nil out)

no_slash : (kind : PieceKind) → is_straight kind ≡ true → is_byte 92 kind ≡ false
no_slash Comment e = refl
no_slash Feed e = refl
no_slash Quoted e = refl
no_slash Word e = refl
no_slash Number e = refl
no_slash (Byte b) e = by (b == 92) refl e
  where
    by : (t : Bool) → (b == 92) ≡ t → not (b == 92) ≡ true → (b == 92) ≡ false
    by true f n = absurd (true≢false (sym n ∙ ap not f))
    by false f n = f

not_spaced : (kind : PieceKind) → is_straight kind ≡ true → is_spaced kind ≡ false
not_spaced Comment e = absurd (true≢false (sym e))
not_spaced Feed e = absurd (true≢false (sym e))
not_spaced other e = refl

straight_first : (p : Piece) (rest : List Piece) → is_straight p.kind ≡ true → spliced (p ∷ rest) ≡ p ∷ spliced rest
unfolding spliced
straight_first p rest e = let f = no_slash p.kind e in let g = not_spaced p.kind e in rw (f, g) refl

-- a piece that stays as it is
pub straight_more : (from at end : ℕ) (pieces : List Piece) → from ≤ at → at < end → end ≤ length pieces → is_straight (piece_at pieces at).kind ≡ true
    → between from at pieces ++ spliced (between at end pieces) ≡ spliced (between from end pieces)
    → between from (at + 1) pieces ++ spliced (between (at + 1) end pieces) ≡ spliced (between from end pieces)
straight_more from at end pieces h lt inside e so_far =
    ap (λ (l : List Piece). l ++ spliced (between (at + 1) end pieces)) (between_more from at pieces h (omega (arith, lt, inside)))
    ∙ append_assoc (between from at pieces) (piece_at pieces at ∷ []) (spliced (between (at + 1) end pieces))
    ∙ ap (λ (l : List Piece). between from at pieces ++ l)
    (sym (ap spliced (between_cons at end pieces lt inside) ∙ straight_first (piece_at pieces at) (between (at + 1) end pieces) e))
    ∙ so_far

-- the first piece of those between two places
pub first_between : (at end : ℕ) (pieces : List Piece) → at < end → end ≤ length pieces → first_is_feed (between at end pieces) ≡ is_feed (piece_at pieces at).kind
first_between at end pieces h inside = rw (between_cons at end pieces h inside) refl

pub none_between : (at end : ℕ) (pieces : List Piece) → end ≤ at → first_is_feed (between at end pieces) ≡ false
none_between at end pieces h = rw (between_end at end pieces h) refl

-- ---- the ) of parameters

close_end : (p : Piece) (rest : List Piece) → is_byte 41 p.kind ≡ true → to_close (p ∷ rest) ≡ Some 0
unfolding to_close
close_end p rest test = rw test refl

close_on : (p : Piece) (rest : List Piece) → is_byte 41 p.kind ≡ false → to_close (p ∷ rest) ≡ further 1 (to_close rest)
unfolding to_close
close_on p rest test = rw test refl

pub close_here : (pieces : List Piece) (from n : ℕ) → to_close (drop from pieces) ≡ further n (to_close (drop (from + n) pieces)) → from + n < length pieces → is_byte 41 (piece_at pieces (from + n)).kind ≡ true → Some n ≡ to_close (drop from pieces)
close_here pieces from n so_far h test =
    rw (so_far, drop_piece pieces (from + n) h, close_end (piece_at pieces (from + n)) (drop (from + n + 1) pieces) test) (ap Some (let e : n ≡ n + 0 = omega arith in e))

pub close_more : (pieces : List Piece) (from n : ℕ) → to_close (drop from pieces) ≡ further n (to_close (drop (from + n) pieces)) → from + n < length pieces → is_byte 41 (piece_at pieces (from + n)).kind ≡ false → to_close (drop from pieces) ≡ further (n + 1) (to_close (drop (from + (n + 1)) pieces))
close_more pieces from n so_far h test =
    let e : from + (n + 1) ≡ from + n + 1 = omega arith in
    rw (so_far, drop_piece pieces (from + n) h, close_on (piece_at pieces (from + n)) (drop (from + n + 1) pieces) test, e) (further_more n (to_close (drop (from + n + 1) pieces)))

pub close_none : (pieces : List Piece) (from n : ℕ) → to_close (drop from pieces) ≡ further n (to_close (drop (from + n) pieces)) → length pieces ≤ from + n → None ≡ to_close (drop from pieces)
unfolding to_close
close_none pieces from n so_far h = rw (so_far, drop_all (from + n) pieces h) refl

-- ---- names of parameters

drop_group : (groups : List (List Piece)) (i : ℕ) (g : List Piece) → i < length groups → g ≡ get_or groups i g → drop i groups ≡ g ∷ drop (i + 1) groups
drop_group groups i g h is = drop-cons groups i g h ∙ rw (← is) (let one : suc i ≡ i + 1 = omega arith in rw one refl)

pub names_wrong : (groups : List (List Piece)) (i : ℕ) (g : List Piece) (done : List (List ℕ)) → i < length groups → g ≡ get_or groups i g → None ≡ one_word g → None ≡ names_of done (drop i groups)
unfolding names_of
names_wrong groups i g done h is e = rw (drop_group groups i g h is, ← e) refl

pub names_twice : (groups : List (List Piece)) (i : ℕ) (g : List Piece) (done : List (List ℕ)) (word : List ℕ) → i < length groups → g ≡ get_or groups i g → Some word ≡ one_word g → list_any (bytes_eq word) done ≡ true → None ≡ names_of done (drop i groups)
unfolding names_of
names_twice groups i g done word h is e twice = rw (drop_group groups i g h is, ← e, twice) refl

pub names_more : (groups : List (List Piece)) (i : ℕ) (g : List Piece) (done next : List (List ℕ)) (word : List ℕ) → i < length groups → g ≡ get_or groups i g → Some word ≡ one_word g → list_any (bytes_eq word) done ≡ false → next ≡ done ++ word ∷ [] → names_of next (drop (i + 1) groups) ≡ names_of done (drop i groups)
unfolding names_of
names_more groups i g done next word h is e new is2 = rw (drop_group groups i g h is, ← e, new, is2) refl

pub names_done : (groups : List (List Piece)) (i : ℕ) (done : List (List ℕ)) → length groups ≤ i → Some done ≡ names_of done (drop i groups)
unfolding names_of
names_done groups i done h = rw (drop_all i groups h) refl

pub params_none : (groups : List (List Piece)) (inside : List Piece) → groups ≡ gathered 0 0 [] [] inside → no_group groups ≡ true → Some [] ≡ parameters_of inside
unfolding parameters_of
params_none groups inside e test = rw (← e, test) refl

pub params_some : (groups : List (List Piece)) (inside : List Piece) → groups ≡ gathered 0 0 [] [] inside → no_group groups ≡ false → names_of [] groups ≡ parameters_of inside
unfolding parameters_of
params_some groups inside e test = rw (← e, test) refl

-- ---- a body, piece by piece

pub folded : {A : Type 0} (step : A → Piece → A) (pieces : List Piece) (at : ℕ) (made next : A) → at < length pieces → next ≡ step made (piece_at pieces at) → fold step next (drop (at + 1) pieces) ≡ fold step made (drop at pieces)
folded step pieces at made next h e = rw (drop_piece pieces at h, e) refl

pub folded_end : {A : Type 0} (step : A → Piece → A) (pieces : List Piece) (at : ℕ) (made : A) → length pieces ≤ at → fold step made (drop at pieces) ≡ made
folded_end step pieces at made h = rw (drop_all at pieces h) refl

pub folded_more : {A : Type 0} (step : A → Piece → A) (pieces : List Piece) (at end : ℕ) (made next : A) → at < end → end ≤ length pieces → next ≡ step made (piece_at pieces at)
    → fold step next (between (at + 1) end pieces) ≡ fold step made (between at end pieces)
folded_more step pieces at end made next h inside e = rw (between_cons at end pieces h inside, e) refl

pub folded_all : {A : Type 0} (step : A → Piece → A) (pieces : List Piece) (at end : ℕ) (made : A) → end ≤ at → fold step made (between at end pieces) ≡ made
folded_all step pieces at end made h = rw (between_end at end pieces h) refl
