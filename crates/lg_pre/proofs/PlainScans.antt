-- A text without `#` and `__WORDSIZE` has no directive and no name.
use Rattle.std.proofs.Common.{◌≡◌, ◌≢◌, ℕ, zero, suc, ◌+◌, ◌-◌, ◌<◌, ◌≤◌, ◌==◌, ◌&&◌, ◌||◌, not, nat_lt, max, min, Bool, true, false, if◌then◌else◌, List, [], ◌∷◌, length, take, drop, slice_index, refl, sym, ap, ◌∙◌, arith, length-drop, Option, Some, None, Ok, codes, subst}
use Rattle.std.proofs.lemmas.Bool.{true≢false}
use Rattle.std.proofs.lemmas.Bool.Decides.{nat_tests}
use Rattle.std.proofs.lemmas.List.{length-take, get_or-take, get_or-drop, get_or_past}
use Rattle.lg_macro.specs.declared.pieces.PieceKind.TheVariants.{Comment, Quoted, Word, Number, Feed, Byte}
use Rattle.memchr.specs.Find.{OccursAt, IsFirstByte, FindsNeedle}
use Rattle.memchr.specs.Find as find
use Rattle.std.specs.Option.{is_some}
use Rattle.lg_macro.specs.Cutting.{front_of, begins_comment, comment_len, quoted_len}
use Rattle.lg_base.specs.WordBytes.{is_word_start, is_word_byte}
use Rattle.std.specs.Char.{is_ascii_digit}
use Rattle.std.specs.List.{prefix_len}
use Rattle.lg_macro.specs.declared.pieces.PieceKind.{PieceKind}
use Rattle.lg_macro.specs.Pieces.{Piece, is_byte, is_feed}
use Rattle.lg_macro.specs.Text.{text_pieces, mark_in, feeds_of, is_margin, is_comment}
use Rattle.lg_pre.specs.Expanded.{expanded}
use Rattle.lg_pre.specs.PlainTexts.{pieces_of, HasNoDirective, HasNoName, IsPlain}
use Rattle.lg_pre.proofs.PlainLaws.{plain_texts_stay}

-- ---- signs

-- no piece is a single `#`
NoSigns : List Piece → Type 0
NoSigns [] = Unit {0}
NoSigns (p ∷ rest) = (is_byte 35 p.kind ≡ false) × NoSigns rest

other : (b : ℕ) → b ≢ 35 → (b == 35) ≡ false
other b h = grind (arith, nat_tests, h)

abbrev kind_of : (comment quoted word number feed : Bool) (c q w n b : ℕ) → PieceKind × ℕ
kind_of comment quoted word number feed c q w n b = if comment then (Comment, c) else (if quoted then (Quoted, q) else (if word then (Word, w) else (if number then (Number, n) else (if feed then (Feed, 1) else (Byte b, 1)))))

kind_by : (comment quoted word number feed : Bool) (c q w n b : ℕ) → b ≢ 35 → is_byte 35 (kind_of comment quoted word number feed c q w n b).0 ≡ false
kind_by true quoted word number feed c q w n b h = refl
kind_by false true word number feed c q w n b h = refl
kind_by false false true number feed c q w n b h = refl
kind_by false false false true feed c q w n b h = refl
kind_by false false false false true c q w n b h = refl
kind_by false false false false false c q w n b h = other b h

no_sign : (bytes : List ℕ) → slice_index bytes 0 ≢ 35 → is_byte 35 (front_of bytes).0 ≡ false
unfolding front_of
no_sign bytes h = kind_by (begins_comment bytes) ((slice_index bytes 0 == 34) || (slice_index bytes 0 == 39)) (is_word_start (slice_index bytes 0)) (is_ascii_digit (slice_index bytes 0)) (slice_index bytes 0 == 10) (comment_len bytes) (1 + quoted_len (slice_index bytes 0) false (drop 1 bytes)) (prefix_len is_word_byte bytes) (prefix_len is_word_byte bytes) (slice_index bytes 0) h

behind : (n : ℕ) (bytes : List ℕ) → ((j : ℕ) → slice_index bytes j ≢ 35) → (j : ℕ) → slice_index (drop n bytes) j ≢ 35
behind n bytes h j e = h (n + j) (sym (get_or-drop n bytes j 0) ∙ e)

signs : (k line : ℕ) (bytes : List ℕ) → ((j : ℕ) → slice_index bytes j ≢ 35) → NoSigns (text_pieces k line bytes)
unfolding text_pieces NoSigns
signs zero line bytes h = tt
signs (suc k) line [] h = tt
signs (suc k) line (b ∷ rest) h =
    let n : ℕ = max 1 (front_of (b ∷ rest)).1 in
    (no_sign (b ∷ rest) (h 0), signs k (line + feeds_of (take n (b ∷ rest))) (drop n (b ∷ rest)) (behind n (b ∷ rest) h))

none_both : (b : Bool) (o : Option ℕ) → o ≡ None → (if b then o else None) ≡ None
none_both true o e = e
none_both false o e = refl

no_mark : (fresh : Bool) (pieces : List Piece) → NoSigns pieces → mark_in fresh pieces ≡ None
unfolding mark_in NoSigns
no_mark fresh [] h = refl
no_mark fresh (p ∷ rest) h = rw (h.0, no_mark (fresh && not (is_comment p.kind)) rest h.1) (none_both (is_margin p.kind) None refl)

no_directive : (begins : Bool) (pieces : List Piece) → NoSigns pieces → HasNoDirective begins pieces
unfolding NoSigns
no_directive begins [] h = tt
no_directive begins (p ∷ rest) h = ((λ e. no_mark true (p ∷ rest) h), no_directive (is_feed p.kind) rest h.1)

-- ---- names

occurs : (n : ℕ) (bytes name : List ℕ) → take n bytes ≡ name → OccursAt bytes name 0
occurs n bytes name e =
    let long : min n (length bytes) ≡ length name = sym (length-take n bytes) ∙ ap length e in
    record {
      fits = omega (arith, long);
      reads = λ j below. let zero_on : 0 + j ≡ j = omega arith in rw zero_on (sym (get_or-take n bytes j 0 (omega (arith, long, below))) ∙ ap (λ (l : List ℕ). slice_index l j) e);
    }

further_on : (n j : ℕ) (bytes name : List ℕ) → 0 < length name → OccursAt (drop n bytes) name j → OccursAt bytes name (n + j)
further_on n j bytes name some o =
    let left : length (drop n bytes) ≡ length bytes - n = length-drop n bytes in
    let fits = o.fits in
    record {
      fits = omega (arith, left, fits, some);
      reads = λ i below. let assoc : n + j + i ≡ n + (j + i) = omega arith in rw assoc (sym (get_or-drop n bytes (j + i) 0) ∙ o.reads i below);
    }

name_len : 0 < length (codes "__WORDSIZE")
name_len = omega arith

no_names : (k line : ℕ) (bytes : List ℕ) → ((j : ℕ) → OccursAt bytes (codes "__WORDSIZE") j → ⊥) → HasNoName (text_pieces k line bytes)
unfolding text_pieces
no_names zero line bytes h = tt
no_names (suc k) line [] h = tt
no_names (suc k) line (b ∷ rest) h =
    let n : ℕ = max 1 (front_of (b ∷ rest)).1 in (
      (λ is. h 0 (occurs n (b ∷ rest) (codes "__WORDSIZE") is)),
      no_names k (line + feeds_of (take n (b ∷ rest))) (drop n (b ∷ rest)) (λ j o. h (n + j) (further_on n j (b ∷ rest) (codes "__WORDSIZE") name_len o)),
    )

-- ---- a plain text

signs_by : (text : List ℕ) (k : ℕ) (b : Bool) → nat_lt k (length text) ≡ b → ((j : ℕ) → j < length text → slice_index text j ≢ 35) → slice_index text k ≢ 35
signs_by text k true test h e = h k (grind (arith, nat_tests, test)) e
signs_by text k false test h e =
    let past : length text ≤ k = grind (arith, nat_tests, test) in
    let none : slice_index text k ≡ 0 = get_or_past text k 0 past in
    absurd (omega (arith, none, e))

pub plain_expands : (text copy : List ℕ) → length text ≤ 16777216 → IsPlain text → copy ≡ text → expanded text ≡ Ok copy
plain_expands text copy short plain is =
    plain_texts_stay text short
    (no_directive true (pieces_of text) (signs (length text) 1 text (λ k. signs_by text k (nat_lt k (length text)) refl plain.signs)))
    (no_names (length text) 1 text plain.names)
    ∙ ap Ok (sym is)

-- ---- what the search answers

pub not_both : (b : Bool) → b ≡ true → b ≡ false → ⊥
not_both b is isnt = true≢false (sym is ∙ isnt)

pub none_is : (o : Option ℕ) (b : Bool) → is_some o ≡ not b → b ≡ true → o ≡ None
none_is None b e is = refl
none_is (Some x) true e is = absurd (true≢false e)
none_is (Some x) false e is = absurd (true≢false (sym is))

pub plain_is : (text : List ℕ) (sign name : Option ℕ) → sign ≡ None → name ≡ None → IsFirstByte (find.is_byte 35) text sign → FindsNeedle text (codes "__WORDSIZE") 0 name → IsPlain text
plain_is text sign name e1 e2 first finds =
    let signs : IsFirstByte (find.is_byte 35) text None = subst (λ (o : Option ℕ). IsFirstByte (find.is_byte 35) text o) e1 first in
    let names : FindsNeedle text (codes "__WORDSIZE") 0 None = subst (λ (o : Option ℕ). FindsNeedle text (codes "__WORDSIZE") 0 o) e2 finds in
    record {
      signs = λ k below e. signs k (omega arith) below (rw e refl);
      names = λ k o. let fits = o.fits in names k (omega arith) (omega (arith, fits)) o;
    }
