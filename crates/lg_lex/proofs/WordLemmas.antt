-- Words take all the bytes that they can.
use Rattle.std.proofs.Common.{◌≡◌, ◌≢◌, ⊎_elim, ℕ, zero, suc, ◌+◌, ◌<◌, ◌≤◌, ◌==◌, ◌&&◌, ◌||◌, Bool, true, false, cond, List, [], ◌∷◌, length, get_or, drop, refl, sym, ap, subst, ◌∙◌, arith, None, eqb-true, eq-eqb, true≢false}
use Rattle.std.proofs.lemmas.Bool.{cases_lt}
use Rattle.std.proofs.lemmas.List.{drop-drop, drop_all, get_or_past, length-drop}
use Rattle.std.proofs.lemmas.List.Elements.{All-cons, All-nil}
use Rattle.std.proofs.lemmas.List.Sums.{prefix_len_stops}
use Rattle.std.specs.Prelude.{slice_index}
use Rattle.std.specs.Char.{is_ascii_digit}
use Rattle.std.specs.Int.{is_in_range}
use Rattle.std.specs.List.{All, prefix_len}
use Rattle.lg_base.specs.WordBytes.{is_word_byte, is_word_start}
use Rattle.lg_lex.specs.Blanks.{blank_at}
use Rattle.lg_lex.specs.Bytes.{is_in_line}
use Rattle.lg_lex.specs.Escapes.{character_at, string_at}
use Rattle.lg_lex.specs.Expressions.{expression_at}
use Rattle.lg_lex.specs.Fronts.{LiesWithin, dollar_at, expression_token, front_at, literal_token, mark_at, marked_at, marker_at, string_token, token_at, word_at, word_len}
use Rattle.lg_lex.specs.Numbers.{number_at}
use Rattle.lg_lex.specs.Tokens.{Tokens, after_piece, is_fresh, tokens_at, tokens_from, with_front}
use Rattle.lg_lex.specs.declared.token.Token.{Token}
use Rattle.lg_lex.specs.declared.token.TokenKind.{TokenKind}
use Rattle.lg_lex.specs.declared.token.TokenKind.TheVariants.{Directive, Register, Number, Character, Name, Host}
use Rattle.lg_lex.proofs.FrontLemmas.{front_within}
use Rattle.lg_lex.proofs.LengthLemmas.{run_positive}
use Rattle.lg_lex.proofs.FrontCases.{cond_front, option_front}
use Rattle.lg_lex.proofs.GapLemmas.{byte_at, first_byte, passes}
use Rattle.lg_lex.specs.Words.{IsMarkedWord, IsWholeWord, IsWordToken, WordsAreWhole}

or_more : (a b c d : Bool) → ((b || c) || d) ≡ true → (((a || b) || c) || d) ≡ true
or_more true b c d h = refl
or_more false b c d h = h

start_goes_on : (b : ℕ) → is_word_start b ≡ true → is_word_byte b ≡ true
start_goes_on b h = or_more (is_in_range 48 57 b) (is_in_range 65 90 b) (is_in_range 97 122 b) (b == 95) h

word_len_by : (t : Bool) (n : ℕ) → cond t n 0 ≢ 0 → (t ≡ true) × (cond t n 0 ≡ n)
word_len_by true n some = (refl, refl)
word_len_by false n some = absurd (some refl)

-- a word has a first byte, and all that follow
word_len_is : (bytes : List ℕ) → word_len bytes ≢ 0 → (is_word_start (slice_index bytes 0) ≡ true) × (word_len bytes ≡ prefix_len is_word_byte bytes)
unfolding word_len
word_len_is bytes some = word_len_by (is_word_start (slice_index bytes 0)) (prefix_len is_word_byte bytes) some

not_zero : (n : ℕ) → (n == 0) ≡ false → n ≢ 0
not_zero n h e = true≢false (sym (eq-eqb n 0 e) ∙ h)

module _ (text : List ℕ) (place : ℕ) (inside : place < length text) where
  whole_word : is_word_start (slice_index text place) ≡ true → IsWholeWord text place (place + prefix_len is_word_byte (drop place text))
  whole_word start =
      let bytes = drop place text in
      let n = prefix_len is_word_byte bytes in
      let left = length-drop place text in
      let goes = start_goes_on (get_or bytes 0 0) (ap is_word_start (first_byte text place) ∙ start) in
      let positive = run_positive is_word_byte bytes (omega (arith, left, inside)) goes in
      record {
        some = omega (arith, positive);
        start = start;
        bytes = λ k low high. passes text place is_word_byte k low high;
        stops = ap is_word_byte (sym (byte_at text place n)) ∙ ⊎_elim (λ (lt : n < length bytes). prefix_len_stops is_word_byte bytes 0 lt) (λ (le : length bytes ≤ n). ap is_word_byte (get_or_past bytes n 0 le)) (cases_lt n (length bytes));
      }

  word_from : word_len (drop place text) ≢ 0 → IsWholeWord text place (place + word_len (drop place text))
  word_from some =
      let is = word_len_is (drop place text) some in
      let P : ℕ → Type 0 = λ n. IsWholeWord text place (place + n) in
      subst P (sym is.1) (whole_word (sym (ap is_word_start (first_byte text place)) ∙ is.0))

abbrev IsGood : List ℕ → Token → Type 0
IsGood text t = IsWordToken t.kind text t.start t.end

abbrev Good : List ℕ → Tokens → Type 0
Good text tokens = All (IsGood text) tokens.0

no_word : word_len [] ≡ 0
unfolding word_len
no_word = refl

-- a word after a byte lies within the text
word_inside : (text : List ℕ) (place : ℕ) → word_len (drop 1 (drop place text)) ≢ 0 → place + 1 < length text
word_inside text place some =
    ⊎_elim (λ (lt : place + 1 < length text). lt) (λ (le : length text ≤ place + 1). absurd (some (ap word_len (drop-drop 1 place text ∙ drop_all (place + 1) text le) ∙ no_word)))
    (cases_lt (place + 1) (length text))

module _ (text : List ℕ) (place k : ℕ) (inside : place < length text) (rest : (n : ℕ) → (0 < n) × (n ≤ length (drop place text)) → Good text (tokens_from k text (after_piece place n))) where
  -- a token, and those after it
  token_good : (kind : TokenKind) (line n value : ℕ) → (0 < n) × (n ≤ length (drop place text)) → IsWordToken kind text place (place + n)
      → All (IsGood text) ((record { kind = kind; line = line; start = place; end = after_piece place n; value = value }) ∷ (tokens_from k text (after_piece place n)).0)
  token_good kind line n value within good =
      let is : place + n ≡ after_piece place n = omega (arith, within.0) in
      let P : ℕ → Type 0 = λ end. IsWordToken kind text place end in
      All-cons (IsGood text) _ _ (subst P is good) (rest n within)

  none_good : Good text ([], None)
  none_good = All-nil (IsGood text)

  word : is_word_start (slice_index text place) ≡ true → IsWholeWord text place (place + word_len (drop place text))
  unfolding word_len
  word start = let is : is_word_start (slice_index (drop place text) 0) ≡ true = ap is_word_start (first_byte text place) ∙ start in rw is (whole_word text place inside start)

  word_good : is_word_start (slice_index text place) ≡ true → LiesWithin (word_at (drop place text)) (length (drop place text)) → Good text (with_front text place (tokens_from k text) (word_at (drop place text)))
  unfolding word_at with_front
  word_good start =
      let bytes = drop place text in
      let n = word_len bytes in
      cond_front (Good text) (with_front text place (tokens_from k text)) (λ f. LiesWithin f (length bytes)) (slice_index bytes n == 58) _ _
      (λ mark h. token_good _ _ (n + 1) _ h record { place = place + n; word = word start; mark = sym (byte_at text place n) ∙ eqb-true (slice_index bytes n) 58 mark; is = omega arith })
      (λ other h. token_good _ _ n _ h (word start, λ mark. true≢false (sym (eq-eqb (slice_index bytes n) 58 (byte_at text place n ∙ mark)) ∙ other)))

  marked_word : (mark : ℕ) → slice_index text place ≡ mark → word_len (drop 1 (drop place text)) ≢ 0 → IsMarkedWord mark text place (place + (1 + word_len (drop 1 (drop place text))))
  marked_word mark first some =
      let one : drop 1 (drop place text) ≡ drop (place + 1) text = drop-drop 1 place text in
      let n = word_len (drop 1 (drop place text)) in
      let same : word_len (drop (place + 1) text) ≡ n = ap word_len (sym one) in
      let at : (place + 1) + word_len (drop (place + 1) text) ≡ place + (1 + n) = ap (λ m. (place + 1) + m) same ∙ (let e : (place + 1) + n ≡ place + (1 + n) = omega arith in e) in
      let P : ℕ → Type 0 = λ end. IsWholeWord text (place + 1) end in
      (first, subst P at (word_from text (place + 1) (word_inside text place some) (λ none. some (sym same ∙ none))))

  marked_good : (kind : TokenKind) → (word_len (drop 1 (drop place text)) ≢ 0 → IsWordToken kind text place (place + (1 + word_len (drop 1 (drop place text))))) → LiesWithin (marked_at kind (drop place text)) (length (drop place text))
      → Good text (with_front text place (tokens_from k text) (marked_at kind (drop place text)))
  unfolding marked_at with_front
  marked_good kind good =
      let bytes = drop place text in
      cond_front (Good text) (with_front text place (tokens_from k text)) (λ f. LiesWithin f (length bytes)) (word_len (drop 1 bytes) == 0) _ _
      (λ none h. none_good) (λ some h. token_good _ _ (1 + word_len (drop 1 bytes)) _ h (good (not_zero (word_len (drop 1 bytes)) some)))

  marker_good : LiesWithin (marker_at (is_fresh text place) (drop place text)) (length (drop place text)) → Good text (with_front text place (tokens_from k text) (marker_at (is_fresh text place) (drop place text)))
  unfolding marker_at with_front
  marker_good =
      let bytes = drop place text in
      cond_front (Good text) (with_front text place (tokens_from k text)) (λ f. LiesWithin f (length bytes)) (is_fresh text place && is_ascii_digit (slice_index bytes (1 + prefix_len (λ b. b == 32) (drop 1 bytes)))) _ _
      (λ is h. rest (prefix_len is_in_line bytes) h) (λ is h. none_good)

  number_good : LiesWithin (literal_token Number (number_at (drop place text))) (length (drop place text)) → Good text (with_front text place (tokens_from k text) (literal_token Number (number_at (drop place text))))
  unfolding with_front
  number_good = option_front (Good text) (with_front text place (tokens_from k text)) (λ f. LiesWithin f (length (drop place text))) _ (number_at (drop place text)) _ (λ x is h. token_good _ _ _ _ h tt) (λ is h. none_good)

  character_good : LiesWithin (literal_token Character (character_at (drop place text))) (length (drop place text)) → Good text (with_front text place (tokens_from k text) (literal_token Character (character_at (drop place text))))
  unfolding with_front
  character_good = option_front (Good text) (with_front text place (tokens_from k text)) (λ f. LiesWithin f (length (drop place text))) _ (character_at (drop place text)) _ (λ x is h. token_good _ _ _ _ h tt) (λ is h. none_good)

  string_good : LiesWithin (string_token (string_at (drop place text))) (length (drop place text)) → Good text (with_front text place (tokens_from k text) (string_token (string_at (drop place text))))
  unfolding with_front
  string_good = option_front (Good text) (with_front text place (tokens_from k text)) (λ f. LiesWithin f (length (drop place text))) _ (string_at (drop place text)) _ (λ x is h. token_good _ _ _ _ h tt) (λ is h. none_good)

  expression_good : LiesWithin (expression_token (expression_at (drop place text))) (length (drop place text)) → Good text (with_front text place (tokens_from k text) (expression_token (expression_at (drop place text))))
  unfolding with_front
  expression_good = option_front (Good text) (with_front text place (tokens_from k text)) (λ f. LiesWithin f (length (drop place text))) _ (expression_at (drop place text)) _ (λ x is h. token_good _ _ _ _ h tt) (λ is h. none_good)

  mark_is : (mark : ℕ) → (slice_index (drop place text) 0 == mark) ≡ true → slice_index text place ≡ mark
  mark_is mark h = sym (first_byte text place) ∙ eqb-true (slice_index (drop place text) 0) mark h

  dollar_good : slice_index text place ≡ 36 → LiesWithin (dollar_at (drop place text)) (length (drop place text)) → Good text (with_front text place (tokens_from k text) (dollar_at (drop place text)))
  unfolding dollar_at
  dollar_good mark =
      cond_front (Good text) (with_front text place (tokens_from k text)) (λ f. LiesWithin f (length (drop place text))) (slice_index (drop place text) 1 == 40) _ _ (λ is h. expression_good h)
      (λ is h. marked_good Name (marked_word 36 mark) h)

  mark_good : LiesWithin (mark_at (is_fresh text place) (drop place text)) (length (drop place text)) → Good text (with_front text place (tokens_from k text) (mark_at (is_fresh text place) (drop place text)))
  unfolding mark_at with_front
  mark_good =
      let b = slice_index (drop place text) 0 in
      let go = λ (t : Bool). cond_front (Good text) (with_front text place (tokens_from k text)) (λ f. LiesWithin f (length (drop place text))) t in
      go (b == 35) _ _ (λ is h. marker_good h) (λ x1 h1.
      go (b == 46) _ _ (λ is h. marked_good Directive (marked_word 46 (mark_is 46 is)) h) (λ x2 h2.
      go (b == 37) _ _ (λ is h. marked_good Register (marked_word 37 (mark_is 37 is)) h) (λ x3 h3.
      go (b == 64) _ _ (λ is h. marked_good Host (marked_word 64 (mark_is 64 is)) h) (λ x4 h4.
      go (b == 36) _ _ (λ is h. dollar_good (mark_is 36 is) h) (λ x5 h5.
      go (b == 39) _ _ (λ is h. character_good h) (λ x6 h6.
      go (b == 34) _ _ (λ is h. string_good h) (λ x7 h7. none_good) h6) h5) h4) h3) h2) h1)

  tokens_good : LiesWithin (token_at (is_fresh text place) (drop place text)) (length (drop place text)) → Good text (with_front text place (tokens_from k text) (token_at (is_fresh text place) (drop place text)))
  unfolding token_at
  tokens_good =
      let b = slice_index (drop place text) 0 in
      let go = λ (t : Bool). cond_front (Good text) (with_front text place (tokens_from k text)) (λ f. LiesWithin f (length (drop place text))) t in
      go (is_word_start b) _ _ (λ is h. word_good (ap is_word_start (sym (first_byte text place)) ∙ is) h)
      (λ other h. go (is_ascii_digit b || ((b == 45) || (b == 43))) _ _ (λ is g. number_good g) (λ none g. mark_good g) h)

  front_good : LiesWithin (front_at (is_fresh text place) (drop place text)) (length (drop place text)) → Good text (with_front text place (tokens_from k text) (front_at (is_fresh text place) (drop place text)))
  unfolding front_at with_front
  front_good =
      cond_front (Good text) (with_front text place (tokens_from k text)) (λ f. LiesWithin f (length (drop place text))) (length (drop place text) == 0) _ _ (λ is h. none_good)
      (λ is h. option_front (Good text) (with_front text place (tokens_from k text)) (λ f. LiesWithin f (length (drop place text))) _ (blank_at (drop place text)) _ (λ n found g. rest _ g) (λ none g. tokens_good g) h)

at_end : (text : List ℕ) (place k : ℕ) → length text ≤ place → Good text (with_front text place (tokens_from k text) (front_at (is_fresh text place) (drop place text)))
unfolding front_at with_front
at_end text place k le = rw (drop_all place text le) (All-nil (IsGood text))

good_from : (k : ℕ) (text : List ℕ) (place : ℕ) → Good text (tokens_from k text place)
unfolding tokens_from
good_from zero text place = All-nil (IsGood text)
good_from (suc k) text place =
    ⊎_elim (λ (lt : place < length text). front_good text place k lt (λ n within. good_from k text (after_piece place n)) (front_within (is_fresh text place) (drop place text)))
    (λ (le : length text ≤ place). at_end text place k le) (cases_lt place (length text))

pub words_whole : WordsAreWhole
unfolding tokens_at
words_whole text = good_from (suc (length text)) text 0
