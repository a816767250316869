-- Words, digits and what ends them.
use Rattle.std.proofs.Common.{◌≡◌, ℕ, suc, ◌+◌, ◌-◌, ◌*◌, ◌^◌, ◌<◌, ◌≤◌, Bool, true, false, List, [], ◌∷◌, ◌++◌, length, drop, refl, sym, ap, ◌∙◌, subst, arith, append_assoc, codes, take, get_or}
use Rattle.std.specs.Prelude.{◌==◌, if◌then◌else◌}
use Rattle.std.specs.Char.{is_ascii_digit}
use Rattle.std.specs.Int.{IsInRange}
use Rattle.std.specs.List.{list_all}
use Rattle.std.specs.Str.Parse.{AllDigits, digits_value}
use Rattle.std.proofs.lemmas.Bool.Decides.{nat_tests}
use Rattle.std.proofs.lemmas.Fmt.{decimal_is_IsNumeral}
use Rattle.std.proofs.lemmas.Int.Digits.{digits_value_more}
use Rattle.std.proofs.lemmas.List.{take_all}
use Rattle.std.proofs.lemmas.Str.{digit_value_digit}
use Rattle.std.proofs.lemmas.Str.Parse.{digit_from_value, digit_at, digits_value-take-le}
use Rattle.std.proofs.lemmas.Bool.{eq-eqb, and_parts}
use Rattle.lg_base.specs.WordBytes.{is_word_start, is_word_byte}
use Rattle.lg_node.specs.Nodes.{is_word}
use Rattle.lg_list.specs.Texts.{decimal}
use Rattle.lg_back.specs.Words.{until, is_free, first_word, second_word}

-- ---- what is in front of a byte

until-step : (b : Bool) (c : ℕ) (xs ys : List ℕ) (f : Bool) → (if b then false else f) ≡ true → (f ≡ true → xs ≡ ys) → (if b then [] else (c ∷ xs)) ≡ c ∷ ys
until-step true c xs ys f e h = cc
until-step false c xs ys f e h = ap (λ t. c ∷ t) (h e)

pub until-front : (byte : ℕ) (xs more : List ℕ) → is_free byte xs ≡ true → until byte (xs ++ byte ∷ more) ≡ xs
until-front byte [] more e = ap (λ (b : Bool). if b then [] else (byte ∷ until byte more)) (eq-eqb byte byte refl)
until-front byte (c ∷ cs) more e = until-step (c == byte) c (until byte (cs ++ byte ∷ more)) cs (is_free byte cs) e (until-front byte cs more)

free-step : (b : Bool) (f g : Bool) → (if b then false else f) ≡ true → (f ≡ true → g ≡ true) → (if b then false else g) ≡ true
free-step true f g e h = e
free-step false f g e h = h e

pub free-append : (byte : ℕ) (xs ys : List ℕ) → is_free byte xs ≡ true → is_free byte ys ≡ true → is_free byte (xs ++ ys) ≡ true
free-append byte [] ys e f = f
free-append byte (c ∷ cs) ys e f = free-step (c == byte) (is_free byte cs) (is_free byte (cs ++ ys)) e (λ g. free-append byte cs ys g f)

pub free-one : (byte c : ℕ) (cs : List ℕ) → (c == byte) ≡ false → is_free byte cs ≡ true → is_free byte (c ∷ cs) ≡ true
free-one byte c cs other free = ap (λ (b : Bool). if b then false else is_free byte cs) other ∙ free

-- ---- numbers

not-digit : (c byte : ℕ) → byte < 48 → IsInRange 48 57 c → (c == byte) ≡ false
not-digit c byte lt within = let low : 48 ≤ c = within.0 in grind (arith, nat_tests)

digits-free : (byte : ℕ) (ds : List ℕ) → byte < 48 → AllDigits 10 ds → is_free byte ds ≡ true
digits-free byte [] lt all = refl
digits-free byte (d ∷ ds) lt all = free-one byte d ds (not-digit d byte lt (digit_from_value d all.0)) (digits-free byte ds lt all.1)

pub decimal-free : (byte n : ℕ) → byte < 48 → n < 2 ^ 64 → is_free byte (decimal n) ≡ true
decimal-free byte n lt small = digits-free byte (decimal n) lt (decimal_is_IsNumeral n small).0.1

pub decimal-value : (n : ℕ) → n < 2 ^ 64 → digits_value 10 (decimal n) ≡ n
decimal-value n small = (decimal_is_IsNumeral n small).1

pub decimal-digits : (n : ℕ) → n < 2 ^ 64 → AllDigits 10 (decimal n)
decimal-digits n small = (decimal_is_IsNumeral n small).0.1

-- this many digits of a number are no more than it
pub digits-below : (ds : List ℕ) (i n : ℕ) → n < 2 ^ 64 → ds ≡ decimal n → digits_value 10 (take i ds) ≤ n
digits-below ds i n small e =
    let most = digits_value-take-le 10 ds i (omega arith) in
    let value : digits_value 10 ds ≡ n = ap (digits_value 10) e ∙ decimal-value n small in
    omega arith

pub digit-there : (ds : List ℕ) (i n : ℕ) → n < 2 ^ 64 → ds ≡ decimal n → i < length ds → IsInRange 48 57 (get_or ds i 0)
digit-there ds i n small e lt = digit_at ds i (subst (AllDigits 10) (sym e) (decimal-digits n small)) lt

pub digit-told : (c : ℕ) → IsInRange 48 57 c → is_ascii_digit c ≡ true
digit-told c within = let low : 48 ≤ c = within.0 in let high : c ≤ 57 = within.1 in grind (arith, nat_tests)

pub digit-tells : (c : ℕ) → is_ascii_digit c ≡ true → IsInRange 48 57 c
digit-tells c e = let low : 48 ≤ c = grind (arith, nat_tests) in let high : c ≤ 57 = grind (arith, nat_tests) in (low, high)

-- one digit more
pub digits-more : (ds : List ℕ) (i : ℕ) → i < length ds → is_ascii_digit (get_or ds i 0) ≡ true → digits_value 10 (take i ds) * 10 + (get_or ds i 0 - 48) ≡ digits_value 10 (take (i + 1) ds)
digits-more ds i lt told =
    let more = digits_value_more 10 ds i lt in
    let own = digit_value_digit (get_or ds i 0) (digit-tells (get_or ds i 0) told) in
    omega arith

pub digits-all : (ds : List ℕ) (i n : ℕ) → n < 2 ^ 64 → ds ≡ decimal n → length ds ≤ i → digits_value 10 (take i ds) ≡ n
digits-all ds i n small e le = ap (digits_value 10) (take_all i ds le ∙ e) ∙ decimal-value n small

-- ---- words of a text

-- a letter, a digit or _ is no colon and no space
colon-other : (c : ℕ) → is_word_byte c ≡ true → (c == 58) ≡ false
colon-other c e = grind (arith, nat_tests)

space-other : (c : ℕ) → is_word_start c ≡ true → c ≡ 32 → ⊥
space-other c e f = grind (arith, nat_tests)

start-byte : (c : ℕ) → is_word_start c ≡ true → is_word_byte c ≡ true
start-byte c e = grind (arith, nat_tests)

bytes-free : (bs : List ℕ) → list_all is_word_byte bs ≡ true → is_free 58 bs ≡ true
bytes-free [] e = refl
bytes-free (b ∷ bs) e =
    let both = and_parts (is_word_byte b) (list_all is_word_byte bs) e in
    free-one 58 b bs (colon-other b both.0) (bytes-free bs both.1)

pub word-free : (word : List ℕ) → is_word word ≡ true → is_free 58 word ≡ true
word-free [] e = cc
word-free (b ∷ bs) e =
    let both = and_parts (is_word_start b) (list_all is_word_byte bs) e in
    free-one 58 b bs (colon-other b (start-byte b both.0)) (bytes-free bs both.1)

-- a word does not begin with a space
pub word-begins : (word more rest : List ℕ) → is_word word ≡ true → word ++ more ≡ 32 ∷ rest → ⊥
word-begins [] more rest e f = cc
word-begins (b ∷ bs) more rest e f =
    let same : b ≡ 32 = cc in
    space-other b (and_parts (is_word_start b) (list_all is_word_byte bs) e).0 same

-- ---- a line of two words

-- what is after a word and the byte that ends it
after-word : (byte : ℕ) (xs more : List ℕ) → drop (length xs + 1) (xs ++ byte ∷ more) ≡ more
after-word byte [] more = refl
after-word byte (x ∷ xs) more = let e : length (x ∷ xs) + 1 ≡ suc (length xs + 1) = omega arith in ap (λ n. drop n (x ∷ (xs ++ byte ∷ more))) e ∙ after-word byte xs more

regroup : (a b more : List ℕ) → (codes "; " ++ a ++ codes " " ++ b ++ codes "\n") ++ more ≡ 59 ∷ 32 ∷ (a ++ 32 ∷ (b ++ 10 ∷ more))
regroup a b more = simp append_assoc

pub two-words : (a b more text : List ℕ) → is_free 32 a ≡ true → is_free 10 b ≡ true → text ≡ (codes "; " ++ a ++ codes " " ++ b ++ codes "\n") ++ more
    → (first_word text ≡ a) × (second_word text ≡ b)
two-words a b more text fa fb e =
    let whole : text ≡ 59 ∷ 32 ∷ (a ++ 32 ∷ (b ++ 10 ∷ more)) = e ∙ regroup a b more in
    let first : first_word text ≡ a = ap first_word whole ∙ until-front 32 a (b ++ 10 ∷ more) fa in
    let rest : drop (length (first_word text) + 1) (drop 2 text) ≡ b ++ 10 ∷ more =
    ap (λ w. drop (length w + 1) (drop 2 text)) first ∙ ap (λ t. drop (length a + 1) (drop 2 t)) whole ∙ after-word 32 a (b ++ 10 ∷ more) in
    (first, ap (until 10) rest ∙ until-front 10 b more fb)
