-- What is at the front where that is a word, a register or a decimal number.
use Rattle.std.proofs.Common.{◌≡◌, ◌≢◌, ℕ, ◌+◌, ◌-◌, ◌*◌, ◌<◌, ◌≤◌, ◌^◌, ◌==◌, ◌||◌, Bool, true, false, cond, List, [], ◌∷◌, length, get_or, take, drop, refl, sym, ap, subst, ◌∙◌, arith, Option, Some, None, true≢false}
use Rattle.std.specs.Prelude.{IfSome}
use Rattle.std.specs.Char.{digit_value, is_digit, is_ascii_digit, is_ascii_alphanumeric, is_ascii_lowercase}
use Rattle.std.specs.Int.{is_in_range}
use Rattle.std.specs.List.{prefix_len}
use Rattle.std.proofs.lemmas.Bool.Decides.{nat_tests}
use Rattle.std.proofs.lemmas.List.{length-take-le}
use Rattle.std.proofs.lemmas.List.Sums.{prefix_len-drop_yes, prefix_len-drop_no}
use Rattle.lg_base.specs.WordBytes.{is_word_start, is_word_byte}
use Rattle.lg_lex.specs.declared.fronts.Front.{Front}
use Rattle.lg_lex.specs.declared.fronts.Front.TheVariants.{Finds}
use Rattle.lg_lex.specs.declared.numbers.Literal.{Literal}
use Rattle.lg_lex.specs.declared.token.TokenKind.TheVariants.{Word, LabelMark, Register, Number}
use Rattle.lg_lex.specs.Blanks.{blank_at, comment_at}
use Rattle.lg_lex.specs.Bytes.{is_space, is_suffix_letter}
use Rattle.lg_lex.specs.Fronts.{IsFront, LiesWithin, word_len, word_at, marked_at, mark_at, literal_token, token_at, front_at}
use Rattle.lg_lex.specs.Lines.{IsSolid, StaysInLine}
use Rattle.lg_lex.specs.Tokens.{IsPlace}
use Rattle.lg_lex.specs.Numbers.{digits_value, narrowed, digits_at, magnitude_at, suffix_at, unsigned_at, number_at}
use Rattle.lg_lex.proofs.ByteLemmas.{within, first_of_drop, eqb_same, eqb_other}
use Rattle.lg_lex.proofs.DigitLemmas.{narrowed-fits, digits_value_more}
use Rattle.lg_lex.proofs.FrontLemmas.{front_within}
use Rattle.lg_lex.proofs.LengthLemmas.{run_positive}
use Rattle.lg_lex.proofs.LineLemmas.{FrontStays, front_stays}
use Rattle.lg_lex.proofs.TokenLemmas.{place_after}

-- ---- bytes

or_less : (a b c d : Bool) → (((a || b) || c) || d) ≡ true → a ≡ false → ((b || c) || d) ≡ true
or_less true b c d h e = absurd (true≢false e)
or_less false b c d h e = h

or_more : (a b c d : Bool) → ((b || c) || d) ≡ true → (((a || b) || c) || d) ≡ true
or_more true b c d h = refl
or_more false b c d h = h

start_goes_on : (b : ℕ) → is_word_start b ≡ true → is_word_byte b ≡ true
start_goes_on b h = or_more (is_in_range 48 57 b) (is_in_range 65 90 b) (is_in_range 97 122 b) (b == 95) h

-- a byte of words that is no digit begins a word
pub starts : (b : ℕ) → is_word_byte b ≡ true → is_ascii_digit b ≡ false → is_word_start b ≡ true
starts b goes other = or_less (is_in_range 48 57 b) (is_in_range 65 90 b) (is_in_range 97 122 b) (b == 95) goes other

start_is : (b : ℕ) → is_word_start b ≡ true → (is_space b ≡ false) × ((b == 47) ≡ false) × (0 < b)
start_is b h = grind (arith, nat_tests)

digit_is : (b : ℕ) → is_ascii_digit b ≡ true → (is_space b ≡ false) × ((b == 47) ≡ false) × (0 < b) × (is_word_start b ≡ false)
digit_is b h = grind (arith, nat_tests)

pub digit_ten : (b : ℕ) → is_ascii_digit b ≡ true → (is_digit b 10 ≡ true) × (digit_value b ≡ b - 48)
digit_ten b h = grind (arith, nat_tests)

digit_low : (b : ℕ) → is_ascii_digit b ≡ true → (48 ≤ b) × (b ≤ 57)
digit_low b h = grind (arith, nat_tests)

no_sign : (b : ℕ) → is_ascii_digit b ≡ true → ((b == 45) ≡ false) × ((b == 43) ≡ false)
no_sign b h = grind (arith, nat_tests)

ends : (b : ℕ) → is_word_byte b ≡ false → (is_digit b 10 ≡ false) × (is_suffix_letter b ≡ false) × (is_ascii_alphanumeric b ≡ false)
ends b h = grind (arith, nat_tests)

-- ---- fronts

not_empty : (n : ℕ) → 0 < n → (n == 0) ≡ false
not_empty n h = eqb_other n 0 (λ e. absurd (omega (arith, e, h)))

front_is : (fresh : Bool) (bytes : List ℕ) → is_space (get_or bytes 0 0) ≡ false → (get_or bytes 0 0 == 47) ≡ false → 0 < get_or bytes 0 0 → front_at fresh bytes ≡ token_at fresh bytes
unfolding front_at blank_at comment_at
front_is fresh bytes space slash some = rw (not_empty (length bytes) (within bytes 0 some), space, slash) refl

pub word_front : (fresh : Bool) (bytes : List ℕ) → is_word_start (get_or bytes 0 0) ≡ true → front_at fresh bytes ≡ word_at bytes
unfolding token_at
word_front fresh bytes start =
    let is = start_is (get_or bytes 0 0) start in
    front_is fresh bytes is.0 is.1 is.2 ∙ rw start refl

pub register_front : (fresh : Bool) (bytes : List ℕ) → get_or bytes 0 0 ≡ 37 → front_at fresh bytes ≡ marked_at Register bytes
unfolding token_at mark_at
register_front fresh bytes is =
    front_is fresh bytes (ap is_space is) (ap (λ b. b == 47) is) (omega (arith, is)) ∙ rw is refl

pub number_front : (fresh : Bool) (bytes : List ℕ) → is_ascii_digit (get_or bytes 0 0) ≡ true → front_at fresh bytes ≡ literal_token Number (number_at bytes)
unfolding token_at
number_front fresh bytes digit =
    let is = digit_is (get_or bytes 0 0) digit in
    front_is fresh bytes is.0 is.1 is.2 ∙ rw (is.3, digit) refl

pub word_some : (bytes : List ℕ) → is_word_start (get_or bytes 0 0) ≡ true → 0 < word_len bytes
unfolding word_len
word_some bytes start =
    let is = start_is (get_or bytes 0 0) start in
    let goes = start_goes_on (get_or bytes 0 0) start in
    rw start (run_positive is_word_byte bytes (within bytes 0 is.2) goes)

solid_cond : (t : Bool) (x y : Front) → IsSolid x → IsSolid y → IsSolid (cond t x y)
solid_cond true x y first second = first
solid_cond false x y first second = second

pub word_solid : (bytes : List ℕ) → IsSolid (word_at bytes)
unfolding word_at
word_solid bytes = solid_cond (get_or bytes (word_len bytes) 0 == 58) _ _ refl refl

pub register_solid : (bytes : List ℕ) → IsSolid (marked_at Register bytes)
unfolding marked_at
register_solid bytes = solid_cond (word_len (drop 1 bytes) == 0) _ _ tt refl

-- a word has all the bytes of words that are there
pub word_len_is : (bytes : List ℕ) → 0 < word_len bytes → word_len bytes ≡ prefix_len is_word_byte bytes
unfolding word_len
word_len_is bytes = by (is_word_start (get_or bytes 0 0)) where
  by : (t : Bool) → 0 < cond t (prefix_len is_word_byte bytes) 0 → cond t (prefix_len is_word_byte bytes) 0 ≡ prefix_len is_word_byte bytes
  by true some = refl
  by false some = absurd (omega (arith, some))

pub label_is : (bytes : List ℕ) (n : ℕ) → word_len bytes ≡ n → get_or bytes n 0 ≡ 58 → Finds LabelMark (n + 1) 0 ≡ word_at bytes
unfolding word_at
label_is bytes n len colon = rw (len, eqb_same (get_or bytes n 0) 58 colon) refl

pub word_is : (bytes : List ℕ) (n : ℕ) → word_len bytes ≡ n → get_or bytes n 0 ≢ 58 → Finds Word n 0 ≡ word_at bytes
unfolding word_at
word_is bytes n len other = rw (len, eqb_other (get_or bytes n 0) 58 other) refl

lower_starts : (b : ℕ) → is_ascii_lowercase b ≡ true → is_word_start b ≡ true
lower_starts b h = grind (arith, nat_tests)

-- a letter and a byte of words after the first byte, and no more
pub short_register : (bytes : List ℕ) → 3 < length bytes → is_ascii_lowercase (get_or bytes 1 0) ≡ true → is_word_byte (get_or bytes 2 0) ≡ true → is_word_byte (get_or bytes 3 0) ≡ false
    → Finds Register 3 0 ≡ marked_at Register bytes
unfolding marked_at word_len
short_register bytes inside lower goes end =
    let start = lower_starts (get_or bytes 1 0) lower in
    let one = prefix_len-drop_yes is_word_byte bytes 1 0 (omega (arith, inside)) (start_goes_on (get_or bytes 1 0) start) in
    let two = prefix_len-drop_yes is_word_byte bytes 2 0 (omega (arith, inside)) goes in
    let none = prefix_len-drop_no is_word_byte bytes 3 0 inside end in
    let len : prefix_len is_word_byte (drop 1 bytes) ≡ 2 = omega (arith, one, two, none) in
    rw (first_of_drop bytes 1, start, len) refl

-- ---- decimal numbers

abbrev pub is_decimal : ℕ → Bool
is_decimal b = is_digit b 10

-- the first n bytes are digits, of this value
abbrev pub AreDigits : List ℕ → ℕ → ℕ → Type 0
AreDigits bytes n value = (n + prefix_len is_decimal (drop n bytes) ≡ prefix_len is_decimal bytes) × (value ≡ digits_value 10 (take n bytes)) × (value < 2 ^ 64)

pub one_digit_more : (bytes : List ℕ) (n value : ℕ) → n < length bytes → is_ascii_digit (get_or bytes n 0) ≡ true → AreDigits bytes n value → value ≤ 2 ^ 60 → AreDigits bytes (n + 1) (value * 10 + (get_or bytes n 0 - 48))
one_digit_more bytes n value inside digit are most =
    let is = digit_ten (get_or bytes n 0) digit in
    let step = prefix_len-drop_yes is_decimal bytes n 0 inside is.0 in
    let more = digits_value_more 10 bytes n inside in
    let low = digit_low (get_or bytes n 0) digit in
    (omega (arith, step, are.0), omega (arith, more, is.1, are.1), omega (arith, low, most))

pub decimal_is : (bytes : List ℕ) (n value : ℕ) → n < length bytes → is_ascii_digit (get_or bytes 0 0) ≡ true → (get_or bytes 0 0 == 48) ≡ false → is_word_byte (get_or bytes n 0) ≡ false → AreDigits bytes n value
    → number_at bytes ≡ Some (record { len = n; value = value })
unfolding number_at unsigned_at magnitude_at digits_at suffix_at
decimal_is bytes n value inside digit zero end are =
    let sign = no_sign (get_or bytes 0 0) digit in
    let stops = ends (get_or bytes n 0) end in
    let none = prefix_len-drop_no is_decimal bytes n 0 inside stops.0 in
    let len : prefix_len is_decimal bytes ≡ n = omega (arith, none, are.0) in
    let positive = run_positive is_decimal bytes (omega (arith, inside)) (digit_ten (get_or bytes 0 0) digit).0 in
    let fits : narrowed (digits_value 10 (take n bytes)) ≡ Some value = ap narrowed (sym are.1) ∙ narrowed-fits value are.2 in
    let letters = prefix_len-drop_no is_suffix_letter bytes n 0 inside stops.1 in
    let next : is_ascii_alphanumeric (get_or (drop n bytes) 0 0) ≡ false = ap is_ascii_alphanumeric (first_of_drop bytes n) ∙ stops.2 in
    let whole : n + 0 ≡ n = omega arith in
    rw (sign.0, sign.1, zero, len, not_empty n (omega (arith, len, positive)), fits, letters, next, whole) refl

-- where the digits end, this is the number, if there is one
pub decimal_ends : (bytes : List ℕ) (n value : ℕ) (found : Option Literal) → n < length bytes → is_ascii_digit (get_or bytes 0 0) ≡ true → (get_or bytes 0 0 == 48) ≡ false → AreDigits bytes n value
    → IfSome found (λ l. (l ≡ record { len = n; value = value }) × (is_word_byte (get_or bytes n 0) ≡ false)) → IfSome found (λ l. number_at bytes ≡ Some l)
decimal_ends bytes n value None inside digit zero are is = tt
decimal_ends bytes n value (Some l) inside digit zero are is = decimal_is bytes n value inside digit zero is.1 are ∙ ap (λ x. Some x) (sym is.0)

no_tail : (b : ℕ) → is_word_byte b ≡ false → (is_digit b 8 ≡ false) × ((b == 120) ≡ false)
no_tail b h = grind (arith, nat_tests)

-- a digit is alone if no digit is after it
one_digit : (b : ℕ) (bytes : List ℕ) → is_digit b 8 ≡ true → is_digit (get_or bytes 0 0) 8 ≡ false → prefix_len (λ x. is_digit x 8) (b ∷ bytes) ≡ 1
one_digit b [] first next = rw first refl
one_digit b (x ∷ bytes) first next = rw (first, next) refl

-- nor is a letter after it
no_letter : (bytes : List ℕ) → is_suffix_letter (get_or bytes 0 0) ≡ false → prefix_len is_suffix_letter bytes ≡ 0
no_letter [] next = refl
no_letter (x ∷ bytes) next = rw next refl

zero_number : (bytes : List ℕ) → is_word_byte (get_or bytes 0 0) ≡ false → number_at (48 ∷ bytes) ≡ Some (record { len = 1; value = 0 })
unfolding number_at unsigned_at magnitude_at digits_at suffix_at narrowed
zero_number bytes end =
    let stops = ends (get_or bytes 0 0) end in
    let tail = no_tail (get_or bytes 0 0) end in
    rw (tail.1, one_digit 48 bytes refl tail.0, no_letter bytes stops.1, stops.2) refl

-- 0 alone
pub zero_is : (bytes : List ℕ) → get_or bytes 0 0 ≡ 48 → is_word_byte (get_or bytes 1 0) ≡ false → number_at bytes ≡ Some (record { len = 1; value = 0 })
zero_is [] first end = absurd (omega (arith, first))
zero_is (b ∷ bytes) first end = ap (λ x. number_at (x ∷ bytes)) first ∙ zero_number bytes end

pub zero_ends : (bytes : List ℕ) (found : Option Literal) → get_or bytes 0 0 ≡ 48 → IfSome found (λ l. (l ≡ record { len = 1; value = 0 }) × (is_word_byte (get_or bytes 1 0) ≡ false)) → IfSome found (λ l. number_at bytes ≡ Some l)
zero_ends bytes None first is = tt
zero_ends bytes (Some l) first is = zero_is bytes first is.1 ∙ ap (λ x. Some x) (sym is.0)

-- ---- the place after such a token

pub place_after_solid : (text : List ℕ) (place line n end line' : ℕ) (fresh fresh' : Bool) (bytes : List ℕ) → IsPlace text place line fresh → bytes ≡ drop place text → n ≤ length bytes → StaysInLine (take n bytes)
    → end ≡ place + n → line' ≡ line → fresh' ≡ false → IsPlace text end line' fresh'
place_after_solid text place line n end line' fresh fresh' bytes at rest inside stays ends lines freshes =
    let len = length-take-le n bytes inside in
    place_after text place line n end line' fresh fresh' bytes (take n bytes) at rest refl inside (omega (arith, ends, len)) (omega (arith, lines, stays.0)) (freshes ∙ sym (stays.1 fresh))

-- a token that is at the front whatever is before it has at least a byte, and lies within the text
pub front_lies : (bytes : List ℕ) (front : Front) → IsFront bytes front → LiesWithin front (length bytes)
front_lies bytes front is = subst (λ f. LiesWithin f (length bytes)) (is true) (front_within true bytes)

pub front_solid : (bytes : List ℕ) (front : Front) → IsFront bytes front → FrontStays bytes front
front_solid bytes front is = subst (FrontStays bytes) (is true) (front_stays true bytes)
