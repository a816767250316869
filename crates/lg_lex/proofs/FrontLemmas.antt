-- What is at the front of a text has at least a byte, and lies within the text.
use Rattle.std.proofs.Common.{◌≡◌, ℕ, ◌+◌, ◌<◌, ◌≤◌, ◌&&◌, ◌||◌, Bool, true, false, cond, eqb, List, length, get_or, drop, refl, sym, ap, ◌∙◌, arith, Option, Some, None}
use Rattle.std.specs.Char.{is_ascii_digit}
use Rattle.std.specs.Int.{is_in_range}
use Rattle.std.specs.List.{prefix_len}
use Rattle.std.specs.Option.{option_map_or}
use Rattle.std.proofs.lemmas.List.{length-drop}
use Rattle.std.proofs.lemmas.List.Sums.{prefix_len-le-length}
use Rattle.std.proofs.lemmas.Option.{cond_some, option_and_then_some}
use Rattle.lg_base.specs.declared.refusal.RefusalKind.TheVariants.{BadToken}
use Rattle.lg_lex.specs.declared.numbers.Literal.{Literal}
use Rattle.lg_lex.specs.declared.expressions.Reading.{Reading}
use Rattle.lg_lex.specs.declared.token.TokenKind.{TokenKind}
use Rattle.lg_lex.specs.declared.token.TokenKind.TheVariants.{Directive, Register, Number, Character, Name, Host}
use Rattle.lg_lex.specs.declared.fronts.Front.{Front}
use Rattle.lg_lex.specs.declared.fronts.Front.TheVariants.{Skips, Fails}
use Rattle.lg_base.specs.WordBytes.{is_word_start, is_word_byte}
use Rattle.lg_lex.specs.Bytes.{is_in_line}
use Rattle.lg_lex.specs.Blanks.{blank_at, after_blanks}
use Rattle.lg_lex.specs.Numbers.{number_at}
use Rattle.lg_lex.specs.Escapes.{character_at, string_at}
use Rattle.lg_lex.specs.Expressions.{whole_at, ended, expression_at}
use Rattle.lg_lex.specs.Fronts.{LiesWithin, word_len, word_at, marked_at, marker_at, literal_token, expression_token, string_token, dollar_at, mark_at, token_at, front_at}
use Rattle.lg_lex.proofs.ByteLemmas.{eqb_true, within}
use Rattle.lg_lex.proofs.LengthLemmas.{LiteralWithin, eqb_false, number_within, character_within, string_within, blank_within, run_positive}

within_cond : (b : Bool) (x y : Front) (most : ℕ) → (b ≡ true → LiesWithin x most) → (b ≡ false → LiesWithin y most) → LiesWithin (cond b x y) most
within_cond true x y most first second = first refl
within_cond false x y most first second = second refl

or_more : (a b c d : Bool) → ((b || c) || d) ≡ true → (((a || b) || c) || d) ≡ true
or_more true b c d h = refl
or_more false b c d h = h

start_goes_on : (b : ℕ) → is_word_start b ≡ true → is_word_byte b ≡ true
start_goes_on b h = or_more (is_in_range 48 57 b) (is_in_range 65 90 b) (is_in_range 97 122 b) (eqb b 95) h

word_len_within : (bytes : List ℕ) → word_len bytes ≤ length bytes
unfolding word_len
word_len_within bytes = by_start (is_word_start (get_or bytes 0 0)) where
  by_start : (t : Bool) → cond t (prefix_len is_word_byte bytes) 0 ≤ length bytes
  by_start true = prefix_len-le-length is_word_byte bytes
  by_start false = omega arith

word_within : (bytes : List ℕ) → 0 < length bytes → is_word_start (get_or bytes 0 0) ≡ true → LiesWithin (word_at bytes) (length bytes)
unfolding word_at word_len
word_within bytes some start =
    let n = prefix_len is_word_byte bytes in
    let most = prefix_len-le-length is_word_byte bytes in
    let positive = run_positive is_word_byte bytes some (start_goes_on (get_or bytes 0 0) start) in
    let same : cond (is_word_start (get_or bytes 0 0)) n 0 ≡ n = rw start refl in
    within_cond (eqb (get_or bytes (cond (is_word_start (get_or bytes 0 0)) n 0) 0) 58) _ _ (length bytes)
    (λ colon.
    let byte : get_or bytes n 0 ≡ 58 = ap (λ k. get_or bytes k 0) (sym same) ∙ eqb_true _ _ colon in
    let inside = within bytes n (omega arith) in
    (omega arith, omega arith))
    (λ _. (omega arith, omega arith))

marked_within : (kind : TokenKind) (bytes : List ℕ) → LiesWithin (marked_at kind bytes) (length bytes)
unfolding marked_at
marked_within kind bytes =
    let most = word_len_within (drop 1 bytes) in
    let left = length-drop 1 bytes in
    within_cond (eqb (word_len (drop 1 bytes)) 0) _ _ (length bytes) (λ _. tt) (λ some. let positive = eqb_false _ some in (omega arith, omega arith))

marker_within : (fresh : Bool) (bytes : List ℕ) → 0 < length bytes → get_or bytes 0 0 ≡ 35 → LiesWithin (marker_at fresh bytes) (length bytes)
unfolding marker_at
marker_within fresh bytes some first =
    let n = 1 + prefix_len (λ b. eqb b 32) (drop 1 bytes) in
    within_cond (fresh && is_ascii_digit (get_or bytes n 0)) (Skips (prefix_len is_in_line bytes)) (Fails BadToken) (length bytes)
    (λ _. (run_positive is_in_line bytes some (ap is_in_line first), prefix_len-le-length is_in_line bytes)) (λ _. tt)

literal_token_within : (kind : TokenKind) (bytes : List ℕ) (literal : Option Literal) → ((l : Literal) → literal ≡ Some l → LiteralWithin bytes l) → LiesWithin (literal_token kind literal) (length bytes)
literal_token_within kind bytes None h = tt
literal_token_within kind bytes (Some l) h = h l refl

string_token_within : (bytes : List ℕ) (string : Option ℕ) → ((n : ℕ) → string ≡ Some n → (0 < n) × (n ≤ length bytes)) → LiesWithin (string_token string) (length bytes)
string_token_within bytes None h = tt
string_token_within bytes (Some n) h = h n refl

expression_token_within : (bytes : List ℕ) (expression : Option Reading) → expression_at bytes ≡ expression → LiesWithin (expression_token expression) (length bytes)
unfolding expression_at ended
expression_token_within bytes None is = tt
expression_token_within bytes (Some read) is =
    option_and_then_some (ended bytes) (whole_at bytes 64 (after_blanks bytes 2)) read is
    (λ whole _ kept.
    let both = cond_some (eqb (get_or bytes whole.end 0) 41) whole read kept in
    let close = ap (λ (r : Reading). get_or bytes r.end 0) (sym both.1) ∙ eqb_true _ _ both.0 in
    let inside = within bytes read.end (omega arith) in
    (omega arith, omega arith))

dollar_within : (bytes : List ℕ) → LiesWithin (dollar_at bytes) (length bytes)
unfolding dollar_at
dollar_within bytes = within_cond (eqb (get_or bytes 1 0) 40) _ _ (length bytes) (λ _. expression_token_within bytes (expression_at bytes) refl) (λ _. marked_within Name bytes)

mark_within : (fresh : Bool) (bytes : List ℕ) → 0 < length bytes → LiesWithin (mark_at fresh bytes) (length bytes)
unfolding mark_at
mark_within fresh bytes some = let b = get_or bytes 0 0 in let most = length bytes in
    within_cond (eqb b 35) _ _ most (λ first. marker_within fresh bytes some (eqb_true _ _ first)) (λ _.
    within_cond (eqb b 46) _ _ most (λ _. marked_within Directive bytes) (λ _.
    within_cond (eqb b 37) _ _ most (λ _. marked_within Register bytes) (λ _.
    within_cond (eqb b 64) _ _ most (λ _. marked_within Host bytes) (λ _.
    within_cond (eqb b 36) _ _ most (λ _. dollar_within bytes) (λ _.
    within_cond (eqb b 39) _ _ most (λ _. literal_token_within Character bytes (character_at bytes) (character_within bytes)) (λ _.
    within_cond (eqb b 34) _ _ most (λ _. string_token_within bytes (string_at bytes) (λ n is. string_within bytes n some is)) (λ _. tt)))))))

token_within : (fresh : Bool) (bytes : List ℕ) → 0 < length bytes → LiesWithin (token_at fresh bytes) (length bytes)
unfolding token_at
token_within fresh bytes some =
    within_cond (is_word_start (get_or bytes 0 0)) _ _ (length bytes) (word_within bytes some) (λ _.
    within_cond (is_ascii_digit (get_or bytes 0 0) || (eqb (get_or bytes 0 0) 45 || eqb (get_or bytes 0 0) 43)) _ _ (length bytes)
    (λ _. literal_token_within Number bytes (number_at bytes) (number_within bytes)) (λ _. mark_within fresh bytes some))

blank_or_token_within : (fresh : Bool) (bytes : List ℕ) → 0 < length bytes → (blank : Option ℕ) → blank_at bytes ≡ blank → LiesWithin (option_map_or Skips blank (token_at fresh bytes)) (length bytes)
blank_or_token_within fresh bytes some None is = token_within fresh bytes some
blank_or_token_within fresh bytes some (Some n) is = blank_within bytes n some is

-- what is at the front lies within the text
pub front_within : (fresh : Bool) (bytes : List ℕ) → LiesWithin (front_at fresh bytes) (length bytes)
unfolding front_at
front_within fresh bytes = within_cond (eqb (length bytes) 0) _ _ (length bytes) (λ none. eqb_true _ _ none) (λ some. blank_or_token_within fresh bytes (eqb_false _ some) (blank_at bytes) refl)
