-- The expressions among the tokens of a text, and the faults of expressions.
use Rattle.std.proofs.Common.{◌≡◌, ◌≢◌, ℕ, zero, suc, ◌+◌, ◌-◌, ◌<◌, ◌&&◌, ◌||◌, Bool, true, false, cond, eqb, List, length, get_or, drop, refl, sym, ap, subst, ◌∙◌, arith, Option, Some, None, ℤ, ◌⊎◌, inl, inr}
use Rattle.std.specs.Int.{w64, cast_unsigned}
use Rattle.std.specs.Char.{is_ascii_digit}
use Rattle.std.specs.List.{prefix_len}
use Rattle.std.specs.Option.{option_map_or}
use Rattle.std.proofs.lemmas.List.{get_or-drop}
use Rattle.std.proofs.lemmas.List.Elements.{All-nil, All-cons}
use Rattle.std.proofs.lemmas.Option.{none-some}
use Rattle.lg_base.specs.declared.refusal.RefusalKind.TheVariants.{BadToken, BadExpr}
use Rattle.lg_lex.specs.declared.numbers.Literal.{Literal}
use Rattle.lg_lex.specs.declared.expressions.Reading.{Reading}
use Rattle.lg_lex.specs.declared.token.TokenKind.{TokenKind}
use Rattle.lg_lex.specs.declared.token.TokenKind.TheVariants.{Directive, Register, Number, Character, Expression, Name, Host}
use Rattle.lg_lex.specs.declared.fronts.Front.{Front}
use Rattle.lg_lex.specs.declared.fronts.Front.TheVariants.{Nothing, Skips, Finds, Fails}
use Rattle.lg_base.specs.WordBytes.{is_word_start}
use Rattle.lg_lex.specs.Bytes.{is_in_line}
use Rattle.lg_lex.specs.Blanks.{blank_at}
use Rattle.lg_lex.specs.Escapes.{character_at, string_at}
use Rattle.lg_lex.specs.Expressions.{expression_at}
use Rattle.lg_lex.specs.Numbers.{number_at}
use Rattle.lg_lex.specs.Trees.{IsExpression}
use Rattle.lg_lex.specs.ExpressionTokens.{HasExpression, ReadsExpressions}
use Rattle.lg_lex.specs.Fronts.{word_len, word_at, marked_at, marker_at, literal_token, expression_token, string_token, dollar_at, mark_at, token_at, front_at}
use Rattle.lg_lex.specs.Tokens.{Tokens, line_of, is_fresh, after_piece, with_front, tokens_from, tokens_at, tokens_of}
use Rattle.lg_lex.proofs.ByteLemmas.{eqb_true}
use Rattle.lg_lex.proofs.SoundLemmas.{expression_sound}
use Rattle.lg_lex.proofs.CompleteLemmas.{expression_complete}

-- no expression, and no fault of one
abbrev IsPlain : Front → Type 0
IsPlain Nothing = Unit {0}
IsPlain (Skips n) = Unit {0}
IsPlain (Finds kind n value) = kind ≢ Expression
IsPlain (Fails kind) = kind ≢ BadExpr

-- what is after $( is an expression or a fault of one
abbrev IsDollar : List ℕ → Front → Type 0
IsDollar bytes front = (get_or bytes 0 0 ≡ 36) × (get_or bytes 1 0 ≡ 40) × (front ≡ expression_token (expression_at bytes))

abbrev IsEither : List ℕ → Front → Type 0
IsEither bytes front = IsPlain front ⊎ IsDollar bytes front

by_cond : (bytes : List ℕ) (b : Bool) (x y : Front) → (b ≡ true → IsEither bytes x) → (b ≡ false → IsEither bytes y) → IsEither bytes (cond b x y)
by_cond bytes true x y first second = first refl
by_cond bytes false x y first second = second refl

plain_cond : (b : Bool) (x y : Front) → IsPlain x → IsPlain y → IsPlain (cond b x y)
plain_cond true x y first second = first
plain_cond false x y first second = second

no_fault : BadToken ≢ BadExpr
no_fault e = cc

marked_plain : (kind : TokenKind) (bytes : List ℕ) → kind ≢ Expression → IsPlain (marked_at kind bytes)
unfolding marked_at
marked_plain kind bytes other = plain_cond (eqb (word_len (drop 1 bytes)) 0) _ _ no_fault other

literal_plain : (kind : TokenKind) (literal : Option Literal) → kind ≢ Expression → IsPlain (literal_token kind literal)
literal_plain kind None other = no_fault
literal_plain kind (Some found) other = other

string_plain : (string : Option ℕ) → IsPlain (string_token string)
string_plain None = no_fault
string_plain (Some n) = λ e. cc

dollar_either : (bytes : List ℕ) → get_or bytes 0 0 ≡ 36 → IsEither bytes (dollar_at bytes)
unfolding dollar_at
dollar_either bytes first =
    by_cond bytes (eqb (get_or bytes 1 0) 40) _ _ (λ second. inr (first, eqb_true _ _ second, refl)) (λ _. inl (marked_plain Name bytes (λ e. cc)))

marker_plain : (fresh : Bool) (bytes : List ℕ) → IsPlain (marker_at fresh bytes)
unfolding marker_at
marker_plain fresh bytes =
    let n = 1 + prefix_len (λ b. eqb b 32) (drop 1 bytes) in
    plain_cond (fresh && is_ascii_digit (get_or bytes n 0)) (Skips (prefix_len is_in_line bytes)) (Fails BadToken) tt no_fault

mark_either : (fresh : Bool) (bytes : List ℕ) → IsEither bytes (mark_at fresh bytes)
unfolding mark_at
mark_either fresh bytes = let b = get_or bytes 0 0 in
    by_cond bytes (eqb b 35) _ _ (λ _. inl (marker_plain fresh bytes)) (λ _.
    by_cond bytes (eqb b 46) _ _ (λ _. inl (marked_plain Directive bytes (λ e. cc))) (λ _.
    by_cond bytes (eqb b 37) _ _ (λ _. inl (marked_plain Register bytes (λ e. cc))) (λ _.
    by_cond bytes (eqb b 64) _ _ (λ _. inl (marked_plain Host bytes (λ e. cc))) (λ _.
    by_cond bytes (eqb b 36) _ _ (λ first. dollar_either bytes (eqb_true _ _ first)) (λ _.
    by_cond bytes (eqb b 39) _ _ (λ _. inl (literal_plain Character (character_at bytes) (λ e. cc))) (λ _.
    by_cond bytes (eqb b 34) _ _ (λ _. inl (string_plain (string_at bytes))) (λ _. inl no_fault)))))))

token_either : (fresh : Bool) (bytes : List ℕ) → IsEither bytes (token_at fresh bytes)
unfolding token_at word_at
token_either fresh bytes =
    by_cond bytes (is_word_start (get_or bytes 0 0)) _ _ (λ _. inl (plain_cond (eqb (get_or bytes (word_len bytes) 0) 58) _ _ (λ e. cc) (λ e. cc))) (λ _.
    by_cond bytes (is_ascii_digit (get_or bytes 0 0) || (eqb (get_or bytes 0 0) 45 || eqb (get_or bytes 0 0) 43)) _ _ (λ _. inl (literal_plain Number (number_at bytes) (λ e. cc))) (λ _.
    mark_either fresh bytes))

blank_either : (fresh : Bool) (bytes : List ℕ) (blank : Option ℕ) → IsEither bytes (option_map_or Skips blank (token_at fresh bytes))
blank_either fresh bytes None = token_either fresh bytes
blank_either fresh bytes (Some n) = inl tt

front_either : (fresh : Bool) (bytes : List ℕ) → IsEither bytes (front_at fresh bytes)
unfolding front_at
front_either fresh bytes = by_cond bytes (eqb (length bytes) 0) _ _ (λ _. inl tt) (λ _. blank_either fresh bytes (blank_at bytes))

-- an expression has at least a byte
IsExpression-some : (bytes : List ℕ) (n : ℕ) (v : ℤ) → IsExpression bytes n v → 0 < n
IsExpression-some bytes n v is = let len = is.len_is in omega arith

-- what an expression's token says
token_of_expression : (bytes : List ℕ) (kind : TokenKind) (n value : ℕ) → IsEither bytes (Finds kind n value) → kind ≡ Expression → (v : ℤ) × (value ≡ cast_unsigned w64 v) × IsExpression bytes n v
token_of_expression bytes kind n value (inl plain) e = absurd (plain e)
token_of_expression bytes kind n value (inr dollar) e = by_reading (expression_at bytes) refl dollar.2 where
  by_reading : (o : Option Reading) → expression_at bytes ≡ o → Finds kind n value ≡ expression_token o → (v : ℤ) × (value ≡ cast_unsigned w64 v) × IsExpression bytes n v
  by_reading None is same = absurd (let no : ⊥ = cc in no)
  by_reading (Some read) is same =
      let len : n ≡ read.end + 1 = cc in
      let same_value : value ≡ cast_unsigned w64 read.value = cc in
      (read.value, same_value, subst (λ k. IsExpression bytes k read.value) (sym len) (expression_sound bytes read is))

-- what the fault of an expression says
fault_of_expression : (bytes : List ℕ) → IsEither bytes (Fails BadExpr) → (get_or bytes 0 0 ≡ 36) × (get_or bytes 1 0 ≡ 40) × ((len : ℕ) (value : ℤ) → ¬ IsExpression bytes len value)
fault_of_expression bytes (inl plain) = absurd (plain refl)
fault_of_expression bytes (inr dollar) = (dollar.0, dollar.1, λ len value is. by_reading (expression_at bytes) (expression_complete bytes len value is) dollar.2) where
  by_reading : {read : Reading} → (o : Option Reading) → o ≡ Some read → Fails BadExpr ≡ expression_token o → ⊥
  by_reading None is same = none-some _ is
  by_reading (Some read) is same = cc

-- one piece more
front_reads : (text : List ℕ) (place : ℕ) (behind : ℕ → Tokens) → ((n : ℕ) → ReadsExpressions text (behind (after_piece place n))) → (front : Front) → IsEither (drop place text) front → ReadsExpressions text (with_front text place behind front)
unfolding with_front
front_reads text place behind rest Nothing either = (All-nil (HasExpression text), tt)
front_reads text place behind rest (Skips n) either = rest n
front_reads text place behind rest (Finds kind n value) either = (
  All-cons (HasExpression text) (record { kind = kind; line = line_of text place; start = place; end = after_piece place n; value = value }) (behind (after_piece place n)).0 (λ e.
      let found = token_of_expression (drop place text) kind n value either e in
      let some = IsExpression-some (drop place text) n found.0 found.2 in
      let len : n ≡ after_piece place n - place = omega arith in
      (found.0, found.1, subst (λ k. IsExpression (drop place text) k found.0) len found.2)) (rest n).0,
  (rest n).1,
)
front_reads text place behind rest (Fails kind) either = (
  All-nil (HasExpression text),
  λ e.
      let fault = fault_of_expression (drop place text) (subst (λ k. IsEither (drop place text) (Fails k)) e either) in
      let first = sym (get_or-drop place text 0 0) ∙ fault.0 in
      (place, refl, ap (λ k. get_or text k 0) (let zero_more : place ≡ place + 0 = omega arith in zero_more) ∙ first, sym (get_or-drop place text 1 0) ∙ fault.1, fault.2),
)

tokens_read : (k : ℕ) (text : List ℕ) (place : ℕ) → ReadsExpressions text (tokens_from k text place)
unfolding tokens_from
tokens_read zero text place = (All-nil (HasExpression text), tt)
tokens_read (suc k) text place =
    front_reads text place (tokens_from k text) (λ n. tokens_read k text (after_piece place n)) (front_at (is_fresh text place) (drop place text)) (front_either (is_fresh text place) (drop place text))

-- the tokens of a text read its expressions
pub tokens_of-expressions : (text : List ℕ) → ReadsExpressions text (tokens_of text)
unfolding tokens_at
tokens_of-expressions text = tokens_read (suc (length text)) text 0
