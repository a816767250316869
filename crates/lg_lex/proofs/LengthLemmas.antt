-- What is read at the front of a text has at least a byte, and lies within the text: numbers, characters, strings and blanks.
use Rattle.std.proofs.Common.{◌≡◌, ℕ, zero, suc, ◌+◌, ◌<◌, ◌≤◌, ◌^◌, ◌&&◌, ◌||◌, Bool, true, false, eqb, ltb, List, [], ◌∷◌, length, get_or, take, drop, refl, ap, arith, Option, Some, None, option_map}
use Rattle.std.specs.Char.{is_digit, is_ascii_alphanumeric}
use Rattle.std.specs.List.{prefix_len}
use Rattle.std.proofs.lemmas.List.{length-drop, length-take}
use Rattle.std.proofs.lemmas.List.Sums.{prefix_len-le-length}
use Rattle.std.proofs.lemmas.Option.{none-some, same_Some, cond_some, option_and_then_some}
use Rattle.std.proofs.lemmas.Bool.Decides.{nat_tests}
use Rattle.lg_lex.specs.declared.numbers.Literal.{Literal}
use Rattle.lg_lex.specs.declared.escapes.TextByte.{TextByte}
use Rattle.lg_lex.specs.Bytes.{further, is_space, is_in_line, is_suffix_letter}
use Rattle.lg_lex.specs.Blanks.{block_rest, comment_at, blank_at}
use Rattle.lg_lex.specs.Numbers.{narrowed, digits_value, longer, digits_at, magnitude_at, suffix_at, unsigned_at, negated, number_at}
use Rattle.lg_lex.specs.Escapes.{letter_escape, byte_value, digits_escape, after_mark, escape_at, text_byte_at, character_end, character_at, string_rest, string_at}
use Rattle.lg_lex.proofs.ByteLemmas.{eqb_true, within, option_map_some, cond_case}

pub eqb_false : (b : ℕ) → eqb b 0 ≡ false → 0 < b
eqb_false b h = grind (arith, nat_tests)

abbrev pub LiteralWithin : List ℕ → Literal → Type 0
LiteralWithin bytes l = (0 < l.len) × (l.len ≤ length bytes)

-- ---- numbers

digits_within : (radix : ℕ) (bytes : List ℕ) (l : Literal) → digits_at radix bytes ≡ Some l → LiteralWithin bytes l
unfolding digits_at
digits_within radix bytes l h =
    let n = prefix_len (λ b. is_digit b radix) bytes in
    let most = prefix_len-le-length (λ b. is_digit b radix) bytes in
    cond_case (eqb n 0) _ _ _ h (λ _ none. absurd (none-some l none))
    (λ some found. option_map_some (λ value. (let x : Literal = record { len = n; value = value } in x)) (narrowed (digits_value radix (take n bytes))) l found
    (λ value _ same. let len = ap (λ (x : Literal). x.len) same in let positive = eqb_false n some in (omega arith, omega arith)))

magnitude_within : (bytes : List ℕ) (l : Literal) → magnitude_at bytes ≡ Some l → LiteralWithin bytes l
unfolding magnitude_at
magnitude_within bytes l h =
    cond_case (eqb (get_or bytes 0 0) 48) _ _ _ h
    (λ _ zero_first. cond_case (eqb (get_or bytes 1 0) 120) _ _ _ zero_first
    (λ _ hexadecimal. option_map_some (longer 2) (digits_at 16 (drop 2 bytes)) l hexadecimal
    (λ digits is same.
    let inside = digits_within 16 (drop 2 bytes) digits is in
    let len = ap (λ (x : Literal). x.len) same in
    let left = length-drop 2 bytes in
    (omega arith, omega arith)))
    (λ _ octal. digits_within 8 bytes l octal))
    (λ _ decimal. digits_within 10 bytes l decimal)

suffix_within : (bytes : List ℕ) (n : ℕ) → suffix_at bytes ≡ Some n → n ≤ length bytes
unfolding suffix_at
suffix_within bytes n h =
    let m = prefix_len is_suffix_letter bytes in
    let most = prefix_len-le-length is_suffix_letter bytes in
    cond_case (ltb 3 m || is_ascii_alphanumeric (get_or bytes m 0)) _ _ _ h (λ _ none. absurd (none-some n none)) (λ _ found. let same = same_Some m n found in omega arith)

unsigned_within : (bytes : List ℕ) (l : Literal) → unsigned_at bytes ≡ Some l → LiteralWithin bytes l
unfolding unsigned_at
unsigned_within bytes l h =
    option_and_then_some (λ (digits : Literal). option_map (λ n. (let x : Literal = record { len = digits.len + n; value = digits.value } in x)) (suffix_at (drop digits.len bytes))) (magnitude_at bytes) l h
    (λ digits is rest. option_map_some (λ n. (let x : Literal = record { len = digits.len + n; value = digits.value } in x)) (suffix_at (drop digits.len bytes)) l rest
    (λ n suffix same.
    let inside = magnitude_within bytes digits is in
    let end = suffix_within (drop digits.len bytes) n suffix in
    let left = length-drop digits.len bytes in
    let len = ap (λ (x : Literal). x.len) same in
    (omega arith, omega arith)))

-- a byte more in front
one_more : (bytes : List ℕ) (inner l : Literal) → LiteralWithin (drop 1 bytes) inner → 1 + inner.len ≡ l.len → LiteralWithin bytes l
one_more bytes inner l inside len = let left = length-drop 1 bytes in let some = inside.0 in let most = inside.1 in (omega arith, omega arith)

pub number_within : (bytes : List ℕ) (l : Literal) → number_at bytes ≡ Some l → LiteralWithin bytes l
unfolding number_at negated
number_within bytes l h =
    cond_case (eqb (get_or bytes 0 0) 45) _ _ _ h
    (λ _ minus. option_and_then_some negated (unsigned_at (drop 1 bytes)) l minus
    (λ inner is made.
    let both = cond_case {P = (let p : Type 0 = 1 + inner.len ≡ l.len in p)} (ltb (2 ^ 63) inner.value) _ _ _ made (λ _ none. absurd (none-some l none)) (λ _ found. ap (λ (x : Literal). x.len) (same_Some _ l found)) in
    one_more bytes inner l (unsigned_within (drop 1 bytes) inner is) both))
    (λ _ other. cond_case (eqb (get_or bytes 0 0) 43) _ _ _ other
    (λ _ plus. option_map_some (longer 1) (unsigned_at (drop 1 bytes)) l plus
    (λ inner is same. one_more bytes inner l (unsigned_within (drop 1 bytes) inner is) (ap (λ (x : Literal). x.len) same)))
    (λ _ plain. unsigned_within bytes l plain))

-- ---- characters and strings

abbrev pub ByteWithin : List ℕ → TextByte → Type 0
ByteWithin bytes found = (0 < found.len) × (found.len ≤ length bytes)

digits_escape_within : (radix most : ℕ) (bytes : List ℕ) (found : TextByte) → digits_escape radix most bytes ≡ Some found → ByteWithin bytes found
unfolding digits_escape
digits_escape_within radix most bytes found h =
    let n = prefix_len (λ b. is_digit b radix) (take most bytes) in
    let inside = prefix_len-le-length (λ b. is_digit b radix) (take most bytes) in
    let cut = length-take most bytes in
    cond_case (eqb n 0) _ _ _ h (λ _ none. absurd (none-some found none))
    (λ some rest. option_map_some (λ byte. (let x : TextByte = record { len = n; byte = byte } in x)) (byte_value radix (take n bytes)) found rest
    (λ byte _ same. let len = ap (λ (x : TextByte). x.len) same in let positive = eqb_false n some in (omega arith, omega arith)))

-- a byte that denotes another one is no 0
letter_positive : (bytes : List ℕ) (byte : ℕ) → letter_escape (get_or bytes 0 0) ≡ Some byte → 0 < length bytes
letter_positive [] byte h = absurd (none-some byte h)
letter_positive (b ∷ bytes) byte h = omega arith

mark_more : (bytes : List ℕ) (inner found : TextByte) → ByteWithin (drop 1 bytes) inner → 1 + inner.len ≡ found.len → ByteWithin bytes found
mark_more bytes inner found inside len = let left = length-drop 1 bytes in let some = inside.0 in let most = inside.1 in (omega arith, omega arith)

escape_within : (bytes : List ℕ) (found : TextByte) → escape_at bytes ≡ Some found → ByteWithin bytes found
unfolding escape_at
escape_within bytes found h =
    cond_case (is_digit (get_or bytes 0 0) 8) _ _ _ h
    (λ _ octal. digits_escape_within 8 3 bytes found octal)
    (λ _ other. cond_case (eqb (get_or bytes 0 0) 120) _ _ _ other
    (λ _ hexadecimal. option_map_some (after_mark 1) (digits_escape 16 2 (drop 1 bytes)) found hexadecimal
    (λ inner is same. mark_more bytes inner found (digits_escape_within 16 2 (drop 1 bytes) inner is) (ap (λ (x : TextByte). x.len) same)))
    (λ _ letter. option_map_some (λ byte. (let x : TextByte = record { len = 1; byte = byte } in x)) (letter_escape (get_or bytes 0 0)) found letter
    (λ byte is same. let len = ap (λ (x : TextByte). x.len) same in let some = letter_positive bytes byte is in (omega arith, omega arith))))

pub text_byte_within : (bytes : List ℕ) (found : TextByte) → text_byte_at bytes ≡ Some found → ByteWithin bytes found
unfolding text_byte_at
text_byte_within bytes found h =
    cond_case (eqb (length bytes) 0) _ _ _ h (λ _ none. absurd (none-some found none))
    (λ some here. let positive = eqb_false (length bytes) some in
    cond_case (eqb (get_or bytes 0 0) 92) _ _ _ here
    (λ _ escape. option_map_some (after_mark 1) (escape_at (drop 1 bytes)) found escape
    (λ inner is same. mark_more bytes inner found (escape_within (drop 1 bytes) inner is) (ap (λ (x : TextByte). x.len) same)))
    (λ _ other. cond_case (eqb (get_or bytes 0 0) 10) _ _ _ other
    (λ _ none. absurd (none-some found none))
    (λ _ plain. let len = ap (λ (x : TextByte). x.len) (same_Some _ found plain) in (omega arith, omega arith))))

pub character_within : (bytes : List ℕ) (l : Literal) → character_at bytes ≡ Some l → LiteralWithin bytes l
unfolding character_at character_end
character_within bytes l h =
    cond_case (eqb (get_or bytes 1 0) 39) _ _ _ h (λ _ none. absurd (none-some l none))
    (λ _ rest. option_and_then_some (character_end bytes) (text_byte_at (drop 1 bytes)) l rest
    (λ found is last.
    let both = cond_some (eqb (get_or bytes (1 + found.len) 0) 39) (let x : Literal = record { len = 2 + found.len; value = found.byte } in x) l last in
    let quote = eqb_true _ _ both.0 in
    let inside = within bytes (1 + found.len) (omega arith) in
    let len = ap (λ (x : Literal). x.len) both.1 in
    (omega arith, omega arith)))

further_some : (n : ℕ) (o : Option ℕ) (m : ℕ) → further n o ≡ Some m → (k : ℕ) × (o ≡ Some k) × (n + k ≡ m)
further_some n None m h = absurd (none-some m h)
further_some n (Some k) m h = (k, refl, same_Some (n + k) m h)

string_rest_within : (k : ℕ) (bytes : List ℕ) (n : ℕ) → string_rest k bytes ≡ Some n → n ≤ length bytes
unfolding string_rest
string_rest_within zero bytes n h = absurd (none-some n h)
string_rest_within (suc k) bytes n h =
    cond_case (eqb (get_or bytes 0 0) 34) _ _ _ h
    (λ quote one. let inside = within bytes 0 (let byte = eqb_true _ _ quote in omega arith) in let same = same_Some 1 n one in omega arith)
    (λ _ more. option_and_then_some (λ (found : TextByte). further found.len (string_rest k (drop found.len bytes))) (text_byte_at bytes) n more
    (λ found is rest.
    let inside = text_byte_within bytes found is in
    let tail = further_some found.len (string_rest k (drop found.len bytes)) n rest in
    let below = string_rest_within k (drop found.len bytes) tail.0 tail.1 in
    let left = length-drop found.len bytes in
    omega arith))

pub string_within : (bytes : List ℕ) (n : ℕ) → 0 < length bytes → string_at bytes ≡ Some n → (0 < n) × (n ≤ length bytes)
unfolding string_at
string_within bytes n some h =
    let rest = further_some 1 (string_rest (length bytes) (drop 1 bytes)) n h in
    let below = string_rest_within (length bytes) (drop 1 bytes) rest.0 rest.1 in
    let left = length-drop 1 bytes in
    (omega arith, omega arith)

-- ---- blanks

block_within : (bytes : List ℕ) (n : ℕ) → block_rest bytes ≡ Some n → n ≤ length bytes
unfolding block_rest
block_within [] n h = absurd (none-some n h)
block_within (b ∷ bytes) n h =
    cond_case (eqb b 42 && eqb (get_or bytes 0 0) 47) _ _ _ h
    (λ close two. let inside = within bytes 0 (let slash = eqb_true _ _ (and_right (eqb b 42) _ close) in omega arith) in let same = same_Some 2 n two in omega arith)
    (λ _ more. let rest = further_some 1 (block_rest bytes) n more in let below = block_within bytes rest.0 rest.1 in omega arith) where
      and_right : (a c : Bool) → (a && c) ≡ true → c ≡ true
      and_right true c e = e
      and_right false true e = refl
      and_right false false e = e

-- a first byte that passes a test makes a run
pub run_positive : (p : ℕ → Bool) (bytes : List ℕ) → 0 < length bytes → p (get_or bytes 0 0) ≡ true → 0 < prefix_len p bytes
run_positive p [] some h = absurd (omega arith)
run_positive p (b ∷ bytes) some h = let e : prefix_len p (b ∷ bytes) ≡ 1 + prefix_len p bytes = rw h refl in omega arith

comment_within : (bytes : List ℕ) (n : ℕ) → comment_at bytes ≡ Some n → (0 < n) × (n ≤ length bytes)
unfolding comment_at
comment_within bytes n h =
    cond_case (eqb (get_or bytes 0 0) 47) _ _ _ h
    (λ slash rest.
    let first = eqb_true _ _ slash in
    let some = within bytes 0 (omega arith) in
    cond_case (eqb (get_or bytes 1 0) 47) _ _ _ rest
    (λ _ line.
    let same = same_Some (prefix_len is_in_line bytes) n line in
    let most = prefix_len-le-length is_in_line bytes in
    let positive = run_positive is_in_line bytes some (ap is_in_line first) in
    (omega arith, omega arith))
    (λ _ other. cond_case (eqb (get_or bytes 1 0) 42) _ _ _ other
    (λ star block.
    let second = eqb_true _ _ star in
    let two = within bytes 1 (omega arith) in
    let tail = further_some 2 (block_rest (drop 2 bytes)) n block in
    let below = block_within (drop 2 bytes) tail.0 tail.1 in
    let left = length-drop 2 bytes in
    (omega arith, omega arith))
    (λ _ none. absurd (none-some n none))))
    (λ _ none. absurd (none-some n none))

pub blank_within : (bytes : List ℕ) (n : ℕ) → 0 < length bytes → blank_at bytes ≡ Some n → (0 < n) × (n ≤ length bytes)
unfolding blank_at
blank_within bytes n some h =
    cond_case (is_space (get_or bytes 0 0)) _ _ _ h
    (λ space run.
    let same = same_Some (prefix_len is_space bytes) n run in
    let most = prefix_len-le-length is_space bytes in
    let positive = run_positive is_space bytes some space in
    (omega arith, omega arith))
    (λ _ comment. comment_within bytes n comment)
