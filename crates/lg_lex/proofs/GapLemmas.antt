-- What is skipped means nothing, and is between tokens.
use Rattle.std.proofs.Common.{◌≡◌, ◌≢◌, ◌⊎◌, inl, inr, ⊎_elim, ℕ, zero, suc, ◌+◌, ◌-◌, ◌<◌, ◌≤◌, ◌==◌, ◌&&◌, ◌||◌, not, Bool, true, false, cond, List, [], ◌∷◌, ◌++◌, length, get_or, take, drop, fold, refl, sym, ap, subst, ◌∙◌, arith, Option, Some, None, eqb-true, true≢false, if◌then◌else◌}
use Rattle.std.proofs.lemmas.Bool.{and_parts, cases_lt}
use Rattle.std.proofs.lemmas.List.{drop_all, get_or-drop, get_or_past, length-drop}
use Rattle.std.proofs.lemmas.List.Sums.{fold-append, prefix_len-le-length, prefix_len_passes, prefix_len_stops}
use Rattle.std.proofs.Math.Seq.{take-suc}
use Rattle.std.proofs.lemmas.Grind.{get_or_after_one}
use Rattle.std.specs.Prelude.{slice_index}
use Rattle.std.specs.Char.{is_ascii_digit}
use Rattle.std.specs.List.{prefix_len}
use Rattle.lg_base.specs.WordBytes.{is_word_start}
use Rattle.lg_base.specs.declared.refusal.Refusal.{Refusal}
use Rattle.lg_lex.specs.Blanks.{blank_at, block_rest, comment_at}
use Rattle.lg_lex.specs.Bytes.{further, is_in_line, is_space}
use Rattle.lg_lex.specs.Escapes.{character_at, string_at}
use Rattle.lg_lex.specs.Expressions.{expression_at}
use Rattle.lg_lex.specs.Fronts.{LiesWithin, dollar_at, expression_token, front_at, literal_token, mark_at, marked_at, marker_at, string_token, token_at, word_at, word_len}
use Rattle.lg_lex.specs.Numbers.{number_at}
use Rattle.lg_lex.specs.Tokens.{Tokens, after_piece, is_fresh, line_of, tokens_at, tokens_from, with_byte, with_front}
use Rattle.lg_lex.specs.declared.token.Token.{Token}
use Rattle.lg_lex.specs.declared.token.TokenKind.{TokenKind}
use Rattle.lg_lex.specs.declared.token.TokenKind.TheVariants.{Directive, Register, Number, Character, Name, Host}
use Rattle.lg_lex.proofs.FrontLemmas.{front_within}
use Rattle.lg_lex.proofs.FrontCases.{cond_front, option_front}
use Rattle.lg_lex.specs.Gaps.{IsFault, IsFirstInLine, IsGap, IsRange, IsRestOfLine, MeansNothing, StandApart, TokensStandApart, block_comment, feed, hash, line_comment, line_marker, behind, nothing, slash, space, star, tab, white_space}

-- ---- the line of a place

blank_is : (b : ℕ) (x y : Bool) → x ≡ (b == 32) → y ≡ (b == 9) → (x || y) ≡ true → (b ≡ space) ⊎ (b ≡ tab)
blank_is b true y f g e = inl (eqb-true b 32 (sym f))
blank_is b false y f g e = inr (eqb-true b 9 (sym g ∙ e))

one_blank_more : (text : List ℕ) (place start k : ℕ) → ((j : ℕ) → start ≤ j → j < place → (slice_index text j ≡ space) ⊎ (slice_index text j ≡ tab))
    → (slice_index text place ≡ space) ⊎ (slice_index text place ≡ tab) → start ≤ k → k < suc place → (slice_index text k ≡ space) ⊎ (slice_index text k ≡ tab)
one_blank_more text place start k before here low high =
    ⊎_elim (λ (lt : k < place). before k low lt)
    (λ (le : place ≤ k). let at : place ≡ k = omega arith in let P : ℕ → Type 0 = λ j. (slice_index text j ≡ space) ⊎ (slice_index text j ≡ tab) in subst P at here) (cases_lt k place)

first_then : (text : List ℕ) (place : ℕ) (feeds fresh : Bool) → feeds ≡ (slice_index text place == 10) → (fresh ≡ true → IsFirstInLine text place)
    → (feeds || (fresh && ((slice_index text place == 32) || (slice_index text place == 9)))) ≡ true → IsFirstInLine text (suc place)
first_then text place true fresh is h e = record {
  start = suc place;
  before = omega arith;
  begins = inr (place, omega arith, eqb-true (slice_index text place) 10 (sym is));
  blank = λ k low high. absurd (omega arith);
}
first_then text place false fresh is h e =
    let both = and_parts fresh ((slice_index text place == 32) || (slice_index text place == 9)) e in
    let line = h both.0 in
    record {
      start = line.start;
      before = omega (arith, line.before);
      begins = line.begins;
      blank = λ k low high. one_blank_more text place line.start k line.blank (blank_is (slice_index text place) _ _ refl refl both.1) low high;
    }

first_in_line : (text : List ℕ) (place : ℕ) → place ≤ length text → is_fresh text place ≡ true → IsFirstInLine text place
first_in_line text zero h e = record { start = 0; before = omega arith; begins = inl refl; blank = λ k low high. absurd (omega arith) }
first_in_line text (suc place) h e =
    let cut : take (suc place) text ≡ take place text ++ (get_or text place 0 ∷ []) = take-suc text place 0 (omega arith) in
    let is : is_fresh text (suc place) ≡ with_byte (is_fresh text place) (get_or text place 0) = ap (fold with_byte true) cut ∙ fold-append with_byte true (take place text) (get_or text place 0 ∷ []) in
    first_then text place (slice_index text place == 10) (is_fresh text place) refl (first_in_line text place (omega arith)) (sym is ∙ e)

-- ---- a block's end

-- the first end of a block in bytes, and the place after it
record IsBlockRest (bytes : List ℕ) (n : ℕ) : Type 0 where
  pub place : ℕ
  pub ends : (get_or bytes place 0 ≡ star) × (get_or bytes (suc place) 0 ≡ slash)
  pub is_first : (k : ℕ) → k < place → (get_or bytes k 0 ≡ star) → (get_or bytes (suc k) 0 ≡ slash) → ⊥
  pub is : n ≡ place + 2
  pub within : n ≤ length bytes

some_same : (a b : ℕ) → Some a ≡ Some b → a ≡ b
some_same a b e = cc

not_none : {A : Type 0} (a : ℕ) → None ≡ Some a → A
not_none a e = cc

byte_within : (bytes : List ℕ) (k : ℕ) → get_or bytes k 0 ≡ slash → k < length bytes
byte_within bytes k e = ⊎_elim (λ (lt : k < length bytes). lt) (λ (le : length bytes ≤ k). let none = get_or_past bytes k 0 le in absurd (omega arith)) (cases_lt k (length bytes))

both_tests : (x y : Bool) (a b : ℕ) → x ≡ (a == 42) → y ≡ (b == 47) → (x && y) ≡ false → a ≡ star → b ≡ slash → ⊥
both_tests x y a b f g e s t = let yes : (x && y) ≡ true = rw (f, g, s, t) refl in true≢false (sym yes ∙ e)

later : (b : ℕ) (bytes : List ℕ) (place : ℕ) → ((b == 42) && (slice_index bytes 0 == 47)) ≡ false → ((k : ℕ) → k < place → get_or bytes k 0 ≡ star → get_or bytes (suc k) 0 ≡ slash → ⊥)
    → (k : ℕ) → k < suc place → get_or (b ∷ bytes) k 0 ≡ star → get_or (b ∷ bytes) (suc k) 0 ≡ slash → ⊥
later b bytes place is h zero lt s t = both_tests (b == 42) (slice_index bytes 0 == 47) b (slice_index bytes 0) refl refl is s t
later b bytes place is h (suc k) lt s t = h k (omega arith) s t

rest_by : (b : ℕ) (bytes : List ℕ) (n : ℕ) (t : Bool) → ((b == 42) && (slice_index bytes 0 == 47)) ≡ t → (if t then Some 2 else further 1 (block_rest bytes)) ≡ Some n
    → ((m : ℕ) → block_rest bytes ≡ Some m → IsBlockRest bytes m) → IsBlockRest (b ∷ bytes) n
rest_by b bytes n true is e h =
    let both = and_parts (b == 42) (slice_index bytes 0 == 47) is in
    let second : get_or bytes 0 0 ≡ slash = eqb-true (slice_index bytes 0) 47 both.1 in
    record {
      place = 0;
      ends = (eqb-true b 42 both.0, second);
      is_first = λ k lt s t. absurd (omega arith);
      is = sym (some_same 2 n e);
      within = let some = byte_within bytes 0 second in let two = some_same 2 n e in omega arith;
    }
rest_by b bytes n false is e h = by_rest (block_rest bytes) refl e where
  by_rest : (o : Option ℕ) → block_rest bytes ≡ o → further 1 o ≡ Some n → IsBlockRest (b ∷ bytes) n
  by_rest None f e = not_none n e
  by_rest (Some m) f e =
      let r = h m f in
      let one = some_same (1 + m) n e in
      record {
        place = suc r.place;
        ends = r.ends;
        is_first = later b bytes r.place is r.is_first;
        is = omega (arith, one, r.is);
        within = omega (arith, one, r.within);
      }

block_rest_is : (bytes : List ℕ) (n : ℕ) → block_rest bytes ≡ Some n → IsBlockRest bytes n
unfolding block_rest
block_rest_is [] n e = not_none n e
block_rest_is (b ∷ bytes) n e = rest_by b bytes n ((b == 42) && (slice_index bytes 0 == 47)) refl e (block_rest_is bytes)

-- ---- what is skipped means nothing

if_case : {A P : Type 0} (b : Bool) (x y z : A) → cond b x y ≡ z → (b ≡ true → x ≡ z → P) → (b ≡ false → y ≡ z → P) → P
if_case true x y z e first second = first refl e
if_case false x y z e first second = second refl e

further_some : (n : ℕ) (o : Option ℕ) (m : ℕ) → further n o ≡ Some m → (k : ℕ) × (o ≡ Some k) × (n + k ≡ m)
further_some n None m e = not_none m e
further_some n (Some k) m e = (k, refl, some_same (n + k) m e)

module _ (text : List ℕ) (place : ℕ) where
  pub byte_at : (k : ℕ) → get_or (drop place text) k 0 ≡ slice_index text (place + k)
  byte_at k = get_or-drop place text k 0

  pub first_byte : get_or (drop place text) 0 0 ≡ slice_index text place
  first_byte = byte_at 0 ∙ ap (λ k. slice_index text k) (let e : place + 0 ≡ place = omega arith in e)

  range_of : (n : ℕ) → 0 < n → n ≤ length (drop place text) → IsRange text place (place + n)
  range_of n some most = let left = length-drop place text in record { some = omega arith; within = omega (arith, left, most, some) }

  -- each byte of a run passes
  pub passes : (p : ℕ → Bool) (j : ℕ) → place ≤ j → j < place + prefix_len p (drop place text) → p (slice_index text j) ≡ true
  passes p j low high =
      let e : place + (j - place) ≡ j = omega arith in
      ap p (ap (λ i. slice_index text i) (sym e) ∙ sym (byte_at (j - place))) ∙ prefix_len_passes p (drop place text) (j - place) 0 (omega arith)

  in_line_is : (b : ℕ) → is_in_line b ≡ true → b ≢ feed
  in_line_is b h e = let fails : is_in_line b ≡ false = ap is_in_line e in true≢false (sym h ∙ fails)

  stops : (b : ℕ) (t : Bool) → t ≡ (b == 10) → not t ≡ false → b ≡ feed
  stops b true e h = eqb-true b 10 (sym e)
  stops b false e h = absurd (true≢false h)

  rest_of_line : 0 < prefix_len is_in_line (drop place text) → IsRestOfLine text place (place + prefix_len is_in_line (drop place text))
  rest_of_line some =
      let bytes = drop place text in
      let n = prefix_len is_in_line bytes in
      let most = prefix_len-le-length is_in_line bytes in
      let left = length-drop place text in
      record {
        range = range_of n some most;
        in_line = λ j low high. in_line_is (slice_index text j) (passes is_in_line j low high);
        ends = ⊎_elim (λ (lt : n < length bytes). inr (stops (slice_index text (place + n)) _ refl (ap is_in_line (sym (byte_at n)) ∙ prefix_len_stops is_in_line bytes 0 lt)))
            (λ (le : length bytes ≤ n). inl (omega (arith, left, most, le, some))) (cases_lt n (length bytes));
      }

  block_means : (n : ℕ) → slice_index text place ≡ slash → slice_index text (place + 1) ≡ star → block_rest (drop 2 (drop place text)) ≡ Some n → 2 + n ≤ length (drop place text) → MeansNothing text place (place + (2 + n))
  block_means n first second e most =
      let r = block_rest_is (drop 2 (drop place text)) n e in
      let two : (j : ℕ) → get_or (drop 2 (drop place text)) j 0 ≡ slice_index text (place + (2 + j)) = λ j. get_or-drop 2 (drop place text) j 0 ∙ byte_at (2 + j) in
      let at : (j i : ℕ) → place + (2 + j) ≡ i → get_or (drop 2 (drop place text)) j 0 ≡ slice_index text i = λ j i h. two j ∙ ap (λ x. slice_index text x) h in
      block_comment record {
        first = first;
        second = second;
        place = place + (2 + r.place);
        behind = omega arith;
        ends = (sym (two r.place) ∙ r.ends.0, sym (at (suc r.place) (place + (2 + r.place) + 1) (omega arith)) ∙ r.ends.1);
        is_first = λ k low high both.
            r.is_first (k - (place + 2)) (omega arith) (at (k - (place + 2)) k (omega arith) ∙ both.0) (at (suc (k - (place + 2))) (k + 1) (omega arith) ∙ both.1);
        is = omega (arith, r.is);
        range = range_of (2 + n) (omega arith) most;
      }

  comment_means : (n : ℕ) → comment_at (drop place text) ≡ Some n → 0 < n → n ≤ length (drop place text) → MeansNothing text place (place + n)
  unfolding comment_at
  comment_means n e some most =
      let bytes = drop place text in
      let P : ℕ → Type 0 = λ m. MeansNothing text place (place + m) in
      if_case (slice_index bytes 0 == 47) _ None (Some n) e
      (λ is e1. let first = sym first_byte ∙ eqb-true (slice_index bytes 0) 47 is in
      if_case (slice_index bytes 1 == 47) _ _ (Some n) e1
      (λ is2 e2. let long = some_same (prefix_len is_in_line bytes) n e2 in
      subst P long (line_comment record { first = first; second = sym (byte_at 1) ∙ eqb-true (slice_index bytes 1) 47 is2; rest = rest_of_line (omega (arith, long, some)) }))
      (λ other e2. if_case (slice_index bytes 1 == 42) _ None (Some n) e2
      (λ is3 e3. let found = further_some 2 (block_rest (drop 2 bytes)) n e3 in
      subst P found.2 (block_means found.0 first (sym (byte_at 1) ∙ eqb-true (slice_index bytes 1) 42 is3) found.1 (omega (arith, found.2, most))))
      (λ none e3. not_none n e3)))
      (λ other e1. not_none n e1)

  blank_means : (n : ℕ) → blank_at (drop place text) ≡ Some n → 0 < n → n ≤ length (drop place text) → MeansNothing text place (place + n)
  unfolding blank_at
  blank_means n e some most =
      let bytes = drop place text in
      if_case (is_space (slice_index bytes 0)) _ _ (Some n) e
      (λ is e1. let long = some_same (prefix_len is_space bytes) n e1 in
      white_space record { range = range_of n some most; spaces = λ j low high. passes is_space j low (omega (arith, long, high)) })
      (λ other e1. comment_means n e1 some most)

  marker_means : (fresh : Bool) → fresh ≡ is_fresh text place → place ≤ length text → slice_index text place ≡ hash → (fresh && is_ascii_digit (slice_index (drop place text) (1 + prefix_len (λ b. b == 32) (drop 1 (drop place text))))) ≡ true
      → 0 < prefix_len is_in_line (drop place text) → MeansNothing text place (place + prefix_len is_in_line (drop place text))
  marker_means fresh is inside mark e some =
      let bytes = drop place text in
      let n = prefix_len (λ b. b == 32) (drop 1 bytes) in
      let both = and_parts fresh (is_ascii_digit (slice_index bytes (1 + n))) e in
      line_marker record {
        is_first = first_in_line text place inside (sym is ∙ both.0);
        mark = mark;
        place = place + (1 + n);
        behind = omega arith;
        spaces = λ j low high.
            let i : ℕ = j - (place + 1) in
            let at : place + (1 + i) ≡ j = omega arith in
            let byte : get_or (drop 1 bytes) i 0 ≡ slice_index text j = get_or_after_one bytes i 0 ∙ byte_at (1 + i) ∙ ap (λ x. slice_index text x) at in
            sym byte ∙ eqb-true (get_or (drop 1 bytes) i 0) 32 (prefix_len_passes (λ b. b == 32) (drop 1 bytes) i 0 (omega arith));
        digit = ap is_ascii_digit (sym (byte_at (1 + n))) ∙ both.1;
        rest = rest_of_line some;
      }

-- ---- between tokens

module _ (text : List ℕ) (place : ℕ) where
  abbrev Apart : Tokens → Type 0
  Apart tokens = StandApart text place tokens.0 tokens.1

  -- what means nothing, and a gap after it
  gap_before : (middle : ℕ) (tokens : List Token) (fault : Option Refusal) → MeansNothing text place middle → StandApart text middle tokens fault → StandApart text place tokens fault
  gap_before middle [] None h rest = behind place middle (length text) h rest
  gap_before middle [] (Some fault) h rest = record { place = rest.place; gap = behind place middle rest.place h rest.gap; within = rest.within; line = rest.line }
  gap_before middle (token ∷ tokens) fault h rest = (behind place middle token.start h rest.0, rest.1)

module _ (text : List ℕ) (place k : ℕ) (inside : place < length text)
    (rest : (n : ℕ) → (0 < n) × (n ≤ length (drop place text)) → StandApart text (after_piece place n) (tokens_from k text (after_piece place n)).0 (tokens_from k text (after_piece place n)).1) where
  skipped : (n : ℕ) → MeansNothing text place (place + n) → (0 < n) × (n ≤ length (drop place text)) → Apart text place (tokens_from k text (after_piece place n))
  skipped n h within =
      let is : after_piece place n ≡ place + n = omega (arith, within.0) in
      let tokens = tokens_from k text (after_piece place n) in
      let P : ℕ → Type 0 = λ m. StandApart text m tokens.0 tokens.1 in
      gap_before text place (place + n) tokens.0 tokens.1 h (subst P is (rest n within))

  fails : (fault : Refusal) → fault.line ≡ line_of text place → IsFault text place fault
  fails fault line = record { place = place; gap = nothing place; within = inside; line = line }

  word_apart : LiesWithin (word_at (drop place text)) (length (drop place text)) → Apart text place (with_front text place (tokens_from k text) (word_at (drop place text)))
  unfolding word_at with_front
  word_apart =
      let bytes = drop place text in
      cond_front (Apart text place) (with_front text place (tokens_from k text)) (λ f. LiesWithin f (length bytes)) (slice_index bytes (word_len bytes) == 58) _ _
      (λ is h. (nothing place, rest _ h)) (λ is h. (nothing place, rest _ h))

  marked_apart : (kind : TokenKind) → LiesWithin (marked_at kind (drop place text)) (length (drop place text)) → Apart text place (with_front text place (tokens_from k text) (marked_at kind (drop place text)))
  unfolding marked_at with_front
  marked_apart kind =
      let bytes = drop place text in
      cond_front (Apart text place) (with_front text place (tokens_from k text)) (λ f. LiesWithin f (length bytes)) (word_len (drop 1 bytes) == 0) _ _
      (λ is h. fails _ refl) (λ is h. (nothing place, rest _ h))

  marker_apart : slice_index text place ≡ hash → LiesWithin (marker_at (is_fresh text place) (drop place text)) (length (drop place text)) → Apart text place (with_front text place (tokens_from k text) (marker_at (is_fresh text place) (drop place text)))
  unfolding marker_at with_front
  marker_apart mark =
      let bytes = drop place text in
      cond_front (Apart text place) (with_front text place (tokens_from k text)) (λ f. LiesWithin f (length bytes)) _ _ _
      (λ is h. skipped (prefix_len is_in_line bytes) (marker_means text place (is_fresh text place) refl (omega arith) mark is h.0) h) (λ is h. fails _ refl)

  number_apart : LiesWithin (literal_token Number (number_at (drop place text))) (length (drop place text)) → Apart text place (with_front text place (tokens_from k text) (literal_token Number (number_at (drop place text))))
  unfolding with_front
  number_apart =
      let bytes = drop place text in
      option_front (Apart text place) (with_front text place (tokens_from k text)) (λ f. LiesWithin f (length bytes)) _ (number_at bytes) _ (λ x is h. (nothing place, rest _ h)) (λ is h. fails _ refl)

  character_apart : LiesWithin (literal_token Character (character_at (drop place text))) (length (drop place text)) → Apart text place (with_front text place (tokens_from k text) (literal_token Character (character_at (drop place text))))
  unfolding with_front
  character_apart =
      let bytes = drop place text in
      option_front (Apart text place) (with_front text place (tokens_from k text)) (λ f. LiesWithin f (length bytes)) _ (character_at bytes) _ (λ x is h. (nothing place, rest _ h)) (λ is h. fails _ refl)

  string_apart : LiesWithin (string_token (string_at (drop place text))) (length (drop place text)) → Apart text place (with_front text place (tokens_from k text) (string_token (string_at (drop place text))))
  unfolding with_front
  string_apart =
      let bytes = drop place text in
      option_front (Apart text place) (with_front text place (tokens_from k text)) (λ f. LiesWithin f (length bytes)) _ (string_at bytes) _ (λ x is h. (nothing place, rest _ h)) (λ is h. fails _ refl)

  expression_apart : LiesWithin (expression_token (expression_at (drop place text))) (length (drop place text)) → Apart text place (with_front text place (tokens_from k text) (expression_token (expression_at (drop place text))))
  unfolding with_front
  expression_apart =
      let bytes = drop place text in
      option_front (Apart text place) (with_front text place (tokens_from k text)) (λ f. LiesWithin f (length bytes)) _ (expression_at bytes) _ (λ x is h. (nothing place, rest _ h)) (λ is h. fails _ refl)

  dollar_apart : LiesWithin (dollar_at (drop place text)) (length (drop place text)) → Apart text place (with_front text place (tokens_from k text) (dollar_at (drop place text)))
  unfolding dollar_at
  dollar_apart =
      let bytes = drop place text in
      cond_front (Apart text place) (with_front text place (tokens_from k text)) (λ f. LiesWithin f (length bytes)) (slice_index bytes 1 == 40) _ _ (λ is h. expression_apart h) (λ is h. marked_apart Name h)

  mark_apart : LiesWithin (mark_at (is_fresh text place) (drop place text)) (length (drop place text)) → Apart text place (with_front text place (tokens_from k text) (mark_at (is_fresh text place) (drop place text)))
  unfolding mark_at with_front
  mark_apart =
      let bytes = drop place text in
      let b = slice_index bytes 0 in
      let go = λ (t : Bool). cond_front (Apart text place) (with_front text place (tokens_from k text)) (λ f. LiesWithin f (length bytes)) t in
      go (b == 35) _ _ (λ is h. marker_apart (sym (first_byte text place) ∙ eqb-true b 35 is) h) (λ x1 h1.
      go (b == 46) _ _ (λ is h. marked_apart Directive h) (λ x2 h2.
      go (b == 37) _ _ (λ is h. marked_apart Register h) (λ x3 h3.
      go (b == 64) _ _ (λ is h. marked_apart Host h) (λ x4 h4.
      go (b == 36) _ _ (λ is h. dollar_apart h) (λ x5 h5.
      go (b == 39) _ _ (λ is h. character_apart h) (λ x6 h6.
      go (b == 34) _ _ (λ is h. string_apart h) (λ x7 h7. fails _ refl) h6) h5) h4) h3) h2) h1)

  token_apart : LiesWithin (token_at (is_fresh text place) (drop place text)) (length (drop place text)) → Apart text place (with_front text place (tokens_from k text) (token_at (is_fresh text place) (drop place text)))
  unfolding token_at
  token_apart =
      let bytes = drop place text in
      let b = slice_index bytes 0 in
      cond_front (Apart text place) (with_front text place (tokens_from k text)) (λ f. LiesWithin f (length bytes)) (is_word_start b) _ _ (λ is h. word_apart h)
      (λ other h. cond_front (Apart text place) (with_front text place (tokens_from k text)) (λ f. LiesWithin f (length bytes)) (is_ascii_digit b || ((b == 45) || (b == 43))) _ _ (λ is g. number_apart g) (λ none g. mark_apart g) h)

  front_apart : LiesWithin (front_at (is_fresh text place) (drop place text)) (length (drop place text)) → Apart text place (with_front text place (tokens_from k text) (front_at (is_fresh text place) (drop place text)))
  unfolding front_at with_front
  front_apart =
      let bytes = drop place text in
      let left = length-drop place text in
      cond_front (Apart text place) (with_front text place (tokens_from k text)) (λ f. LiesWithin f (length bytes)) (length bytes == 0) _ _
      (λ is h. let none = eqb-true (length bytes) 0 is in absurd (omega (arith, inside, left, none)))
      (λ is h. option_front (Apart text place) (with_front text place (tokens_from k text)) (λ f. LiesWithin f (length bytes)) _ (blank_at bytes) _
      (λ n found g. skipped n (blank_means text place n found g.0 g.1) g) (λ none g. token_apart g) h)

-- at the end of the text nothing is left
at_end : (text : List ℕ) (place k : ℕ) → place ≤ length text → length text ≤ place → Apart text place (with_front text place (tokens_from k text) (front_at (is_fresh text place) (drop place text)))
unfolding front_at with_front
at_end text place k inside le =
    let e : place ≡ length text = omega arith in
    let P : ℕ → Type 0 = λ end. IsGap text place end in
    rw (drop_all place text le) (subst P e (nothing place))

apart_from : (k : ℕ) (text : List ℕ) (place : ℕ) → place ≤ length text → length text < place + k → Apart text place (tokens_from k text place)
unfolding tokens_from
apart_from zero text place inside few = absurd (omega arith)
apart_from (suc k) text place inside few =
    let left = length-drop place text in
    ⊎_elim
    (λ (lt : place < length text).
    front_apart text place k lt (λ n within. apart_from k text (after_piece place n) (omega (arith, within.0, within.1, left)) (omega (arith, few))) (front_within (is_fresh text place) (drop place text)))
    (λ (le : length text ≤ place). at_end text place k inside le) (cases_lt place (length text))

pub stand_apart : TokensStandApart
unfolding tokens_at
stand_apart text = apart_from (suc (length text)) text 0 (omega arith) (omega arith)
