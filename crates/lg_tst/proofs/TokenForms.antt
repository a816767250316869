-- The tokens of a text lie within it, and those that are words have the form of words.
use Rattle.std.proofs.Common.{◌≡◌, ◌≢◌, ℕ, zero, suc, ◌+◌, ◌-◌, ◌<◌, ◌≤◌, ◌&&◌, ◌||◌, Bool, true, false, cond, eqb, List, [], ◌∷◌, length, get_or, take, drop, refl, ap, ◌∙◌, arith, rules, Option, Some, None}
use Rattle.std.specs.Char.{is_ascii_digit}
use Rattle.std.specs.List.{All, list_all, prefix_len}
use Rattle.std.specs.Option.{option_map_or}
use Rattle.std.proofs.lemmas.Bool.{false≢true}
use Rattle.std.proofs.lemmas.List.{length-drop, length-take-le}
use Rattle.std.proofs.lemmas.List.Elements.{All-nil, All-cons}
use Rattle.lg_lex.specs.declared.token.TokenKind.{TokenKind}
use Rattle.lg_lex.specs.declared.token.TokenKind.TheVariants.{Word, Directive, LabelMark, Register, Number, Character, Expression, Name, Host, Str}
use Rattle.lg_base.specs.WordBytes.{is_word_start, is_word_byte}
use Rattle.lg_lex.specs.Blanks.{blank_at}
use Rattle.lg_lex.specs.Escapes.{character_at, string_at}
use Rattle.lg_lex.specs.Expressions.{expression_at}
use Rattle.lg_lex.specs.Numbers.{number_at}
use Rattle.lg_lex.specs.Fronts.{LiesWithin, word_len, word_at, marked_at, marker_at, dollar_at, mark_at, token_at, front_at}
use Rattle.lg_lex.specs.Tokens.{Tokens, line_of, is_fresh, after_piece, token_then, with_front, tokens_from, tokens_at, tokens_of}
use Rattle.lg_lex.proofs.FrontLemmas.{front_within}
use Rattle.lg_node.specs.Nodes.{is_word}
use Rattle.lg_tst.specs.Streams.{IsToken, without_last}

passes_more : (p : ℕ → Bool) (b n : ℕ) (bytes : List ℕ) → p b ≡ true → list_all p (take n bytes) ≡ true → list_all p (take (1 + n) (b ∷ bytes)) ≡ true
passes_more p b n bytes e more =
    let one : 1 + n ≡ suc n = omega arith in
    ap (λ k. list_all p (take k (b ∷ bytes))) one ∙ ap (λ t. t && list_all p (take n bytes)) e ∙ more

-- a run of bytes that pass a test
run_passes : (p : ℕ → Bool) (bytes : List ℕ) → list_all p (take (prefix_len p bytes) bytes) ≡ true
run_passes p [] = refl
run_passes p (b ∷ bytes) = by (p b) refl (run_passes p bytes) where
  by : (t : Bool) → p b ≡ t → list_all p (take (prefix_len p bytes) bytes) ≡ true → list_all p (take (cond t (1 + prefix_len p bytes) 0) (b ∷ bytes)) ≡ true
  by true e more = passes_more p b (prefix_len p bytes) bytes e more
  by false e more = refl

start_is_byte : (b : ℕ) → is_word_start b ≡ true → is_word_byte b ≡ true
start_is_byte b e = search rules

-- the word at the front is a word
front_word : (bytes : List ℕ) → is_word_start (get_or bytes 0 0) ≡ true → is_word (take (word_len bytes) bytes) ≡ true
unfolding word_len
front_word [] e = absurd (let no : is_word_start 0 ≡ true = e in false≢true no)
front_word (b ∷ bytes) e =
    let n = prefix_len is_word_byte bytes in
    let one : 1 + n ≡ suc n = omega arith in
    let long : word_len (b ∷ bytes) ≡ suc n = ap (λ t. cond t (prefix_len is_word_byte (b ∷ bytes)) 0) e ∙ ap (λ t. cond t (1 + n) 0) (start_is_byte b e) ∙ one in
    ap (λ k. is_word (take k (b ∷ bytes))) long ∙ ap (λ t. t && list_all is_word_byte (take n bytes)) e ∙ run_passes is_word_byte bytes

take_take : (m n : ℕ) (bytes : List ℕ) → m ≤ n → take m (take n bytes) ≡ take m bytes
take_take zero n bytes h = refl
take_take (suc m) zero bytes h = absurd (omega (arith, h))
take_take (suc m) (suc n) [] h = refl
take_take (suc m) (suc n) (b ∷ bytes) h = ap (λ more. b ∷ more) (take_take m n bytes (omega (arith, h)))

-- a kind of tokens whose texts are not said to be words
abbrev IsOther : TokenKind → Type 0
IsOther kind = (kind ≢ Word) × (kind ≢ LabelMark)

-- the tokens of a piece, where those after it are known
module _ (text : List ℕ) (place : ℕ) (behind : ℕ → Tokens) (rest : (n : ℕ) → All (IsToken text) (behind (after_piece place n)).0) where
  abbrev bytes : List ℕ
  bytes = drop place text

  abbrev AreTokens : Tokens → Type 0
  AreTokens tokens = All (IsToken text) tokens.0

  found : (kind : TokenKind) (n value : ℕ) → (0 < n) × (n ≤ length bytes) → (kind ≡ Word → is_word (take n bytes) ≡ true) → (kind ≡ LabelMark → is_word (take (n - 1) bytes) ≡ true) → AreTokens (token_then (record { kind = kind; line = line_of text place; start = place; end = after_piece place n; value = value }) (behind (after_piece place n)))
  found kind n value inside word label =
      let left = length-drop place text in
      let some = inside.0 in
      let most = inside.1 in
      let len : after_piece place n - place ≡ n = omega arith in
      let long = length-take-le n bytes most in
      let shorter : n - 1 ≤ n = omega arith in
      All-cons (IsToken text) _ _ record {
        start = omega arith;
        end = omega arith;
        word = λ e. ap (λ k. is_word (take k bytes)) len ∙ word e;
        label = λ e. ap (λ k. is_word (without_last (take k bytes))) len ∙ ap (λ k. is_word (take (k - 1) (take n bytes))) long ∙ ap is_word (take_take (n - 1) n bytes shorter) ∙ label e;
      } (rest n)

  other : (kind : TokenKind) (n value : ℕ) → IsOther kind → (0 < n) × (n ≤ length bytes) → AreTokens (token_then (record { kind = kind; line = line_of text place; start = place; end = after_piece place n; value = value }) (behind (after_piece place n)))
  other kind n value is inside = found kind n value inside (λ e. absurd (is.0 e)) (λ e. absurd (is.1 e))

  by_cond : {A : Type 0} (I : A → Type 0) (T : A → Tokens) (b : Bool) (x y : A) → (b ≡ true → I x → AreTokens (T x)) → (I y → AreTokens (T y)) → I (cond b x y) → AreTokens (T (cond b x y))
  by_cond I T true x y first second inside = first refl inside
  by_cond I T false x y first second inside = second inside

  by_option : {A B : Type 0} (I : A → Type 0) (T : A → Tokens) (f : B → A) (o : Option B) (d : A) → ((b : B) → I (f b) → AreTokens (T (f b))) → (I d → AreTokens (T d)) → I (option_map_or f o d) → AreTokens (T (option_map_or f o d))
  by_option I T f None d some none inside = none inside
  by_option I T f (Some b) d some none inside = some b inside

  word_are : is_word_start (get_or bytes 0 0) ≡ true → LiesWithin (word_at bytes) (length bytes) → AreTokens (with_front text place behind (word_at bytes))
  unfolding word_at with_front
  word_are start = by_cond (λ f. LiesWithin f (length bytes)) (with_front text place behind) (eqb (get_or bytes (word_len bytes) 0) 58) _ _
      (λ colon inside. found LabelMark (word_len bytes + 1) 0 inside (λ e. cc) (λ e. let one : word_len bytes + 1 - 1 ≡ word_len bytes = omega arith in ap (λ n. is_word (take n bytes)) one ∙ front_word bytes start))
      (λ inside. found Word (word_len bytes) 0 inside (λ e. front_word bytes start) (λ e. cc))

  marked_are : (kind : TokenKind) → IsOther kind → LiesWithin (marked_at kind bytes) (length bytes) → AreTokens (with_front text place behind (marked_at kind bytes))
  unfolding marked_at with_front
  marked_are kind is = by_cond (λ f. LiesWithin f (length bytes)) (with_front text place behind) (eqb (word_len (drop 1 bytes)) 0) _ _
      (λ none inside. All-nil (IsToken text)) (λ inside. other kind (1 + word_len (drop 1 bytes)) 0 is inside)

  dollar_are : LiesWithin (dollar_at bytes) (length bytes) → AreTokens (with_front text place behind (dollar_at bytes))
  unfolding dollar_at with_front
  dollar_are = by_cond (λ f. LiesWithin f (length bytes)) (with_front text place behind) (eqb (get_or bytes 1 0) 40) _ _
      (λ first. by_option (λ f. LiesWithin f (length bytes)) (with_front text place behind) _ (expression_at bytes) _
      (λ read inside. other Expression _ _ ((λ e. cc), (λ e. cc)) inside) (λ inside. All-nil (IsToken text)))
      (marked_are Name ((λ e. cc), (λ e. cc)))

  marker_are : (fresh : Bool) → LiesWithin (marker_at fresh bytes) (length bytes) → AreTokens (with_front text place behind (marker_at fresh bytes))
  unfolding marker_at with_front
  marker_are fresh = by_cond (λ f. LiesWithin f (length bytes)) (with_front text place behind) (fresh && is_ascii_digit (get_or bytes (1 + prefix_len (λ b. eqb b 32) (drop 1 bytes)) 0)) _ _
      (λ marker inside. rest _) (λ inside. All-nil (IsToken text))

  mark_are : (fresh : Bool) → LiesWithin (mark_at fresh bytes) (length bytes) → AreTokens (with_front text place behind (mark_at fresh bytes))
  unfolding mark_at with_front
  mark_are fresh =
      let b = get_or bytes 0 0 in
      let step = by_cond (λ f. LiesWithin f (length bytes)) (with_front text place behind) in
      step (eqb b 35) _ _ (λ _. marker_are fresh) (
      step (eqb b 46) _ _ (λ _. marked_are Directive ((λ e. cc), (λ e. cc))) (
      step (eqb b 37) _ _ (λ _. marked_are Register ((λ e. cc), (λ e. cc))) (
      step (eqb b 64) _ _ (λ _. marked_are Host ((λ e. cc), (λ e. cc))) (
      step (eqb b 36) _ _ (λ _. dollar_are) (
      step (eqb b 39) _ _ (λ _. by_option (λ f. LiesWithin f (length bytes)) (with_front text place behind) _ (character_at bytes) _
      (λ read inside. other Character _ _ ((λ e. cc), (λ e. cc)) inside) (λ inside. All-nil (IsToken text))) (
      step (eqb b 34) _ _ (λ _. by_option (λ f. LiesWithin f (length bytes)) (with_front text place behind) _ (string_at bytes) _
      (λ n inside. other Str n 0 ((λ e. cc), (λ e. cc)) inside) (λ inside. All-nil (IsToken text)))
      (λ inside. All-nil (IsToken text))))))))

  token_are : (fresh : Bool) → LiesWithin (token_at fresh bytes) (length bytes) → AreTokens (with_front text place behind (token_at fresh bytes))
  unfolding token_at with_front
  token_are fresh =
      let step = by_cond (λ f. LiesWithin f (length bytes)) (with_front text place behind) in
      step (is_word_start (get_or bytes 0 0)) _ _ word_are (
      step (is_ascii_digit (get_or bytes 0 0) || (eqb (get_or bytes 0 0) 45 || eqb (get_or bytes 0 0) 43)) _ _ (λ _. by_option (λ f. LiesWithin f (length bytes)) (with_front text place behind) _ (number_at bytes) _
      (λ read inside. other Number _ _ ((λ e. cc), (λ e. cc)) inside) (λ inside. All-nil (IsToken text)))
      (mark_are fresh))

  front_are : (fresh : Bool) → LiesWithin (front_at fresh bytes) (length bytes) → AreTokens (with_front text place behind (front_at fresh bytes))
  unfolding front_at with_front
  front_are fresh = by_cond (λ f. LiesWithin f (length bytes)) (with_front text place behind) (eqb (length bytes) 0) _ _
      (λ _ inside. All-nil (IsToken text))
      (by_option (λ f. LiesWithin f (length bytes)) (with_front text place behind) _ (blank_at bytes) (token_at fresh bytes) (λ n inside. rest n) (token_are fresh))

are_from : (k : ℕ) (text : List ℕ) (place : ℕ) → All (IsToken text) (tokens_from k text place).0
unfolding tokens_from
are_from zero text place = All-nil (IsToken text)
are_from (suc k) text place =
    front_are text place (tokens_from k text) (λ n. are_from k text (after_piece place n)) (is_fresh text place) (front_within (is_fresh text place) (drop place text))

pub tokens_of-are : (text : List ℕ) → All (IsToken text) (tokens_of text).0
unfolding tokens_at
tokens_of-are text = are_from (suc (length text)) text 0
