-- A token that is a word, a mark and a word, or a number stays in its line.
use Rattle.std.proofs.Common.{◌≡◌, ℕ, zero, suc, ◌+◌, ◌<◌, ◌==◌, ◌&&◌, ◌||◌, Bool, true, false, cond, List, [], ◌∷◌, length, take, drop, get_or, fold, refl, sym, ap, subst, ◌∙◌, arith, Option, Some, None, eqb-true, eq-eqb, true≢false, count_by}
use Rattle.std.specs.Prelude.{◌-◌, ◌%◌, ◌^◌, nat_lt, option_map, option_and_then}
use Rattle.std.specs.Char.{is_ascii_digit, is_ascii_alphanumeric, is_digit}
use Rattle.std.specs.Int.{is_in_range}
use Rattle.std.specs.List.{prefix_len}
use Rattle.std.specs.Option.{option_map_or}
use Rattle.std.proofs.lemmas.List.Sums.{sum_by-cons}
use Rattle.lg_base.specs.WordBytes.{is_word_start, is_word_byte}
use Rattle.lg_lex.specs.declared.numbers.Literal.{Literal}
use Rattle.lg_lex.specs.declared.expressions.Reading.{Reading}
use Rattle.lg_lex.specs.declared.token.TokenKind.{TokenKind}
use Rattle.lg_lex.specs.declared.token.TokenKind.TheVariants.{Directive, Register, Number, Character, Name, Host}
use Rattle.lg_lex.specs.declared.fronts.Front.{Front}
use Rattle.lg_lex.specs.declared.fronts.Front.TheVariants.{Nothing, Skips, Finds, Fails}
use Rattle.lg_lex.specs.Blanks.{blank_at}
use Rattle.lg_lex.specs.Escapes.{character_at, string_at}
use Rattle.lg_lex.specs.Expressions.{expression_at}
use Rattle.lg_lex.specs.Fronts.{word_len, word_at, marked_at, marker_at, literal_token, expression_token, string_token, dollar_at, mark_at, token_at, front_at}
use Rattle.lg_lex.specs.Lines.{is_solid_kind, StaysInLine}
use Rattle.lg_lex.specs.Bytes.{is_suffix_letter}
use Rattle.lg_lex.specs.Numbers.{digits_value, narrowed, longer, digits_at, magnitude_at, suffix_at, unsigned_at, negated, number_at}
use Rattle.lg_lex.specs.Tokens.{with_byte}
use Rattle.lg_lex.proofs.LengthLemmas.{eqb_false}

-- ---- bytes that are no line feed, space or tab

abbrev IsSolid : ℕ → Type 0
IsSolid b = ((b == 10) ≡ false) × ((fresh : Bool) → with_byte fresh b ≡ false)

abbrev AreSolid : List ℕ → Type 0
AreSolid [] = Unit {0}
AreSolid (b ∷ bytes) = IsSolid b × AreSolid bytes

solid_fold : (bytes : List ℕ) → AreSolid bytes → fold with_byte false bytes ≡ false
solid_fold [] h = refl
solid_fold (b ∷ bytes) h = ap (λ f. fold with_byte f bytes) (h.0.1 false) ∙ solid_fold bytes h.1

solid_count : (bytes : List ℕ) → AreSolid bytes → count_by (λ b. b == 10) bytes ≡ 0
solid_count [] h = refl
solid_count (b ∷ bytes) h =
    let one : count_by (λ y. y == 10) (b ∷ bytes) ≡ 0 + count_by (λ y. y == 10) bytes = sum_by-cons (λ y. cond (y == 10) 1 0) b bytes ∙ ap (λ t. cond t 1 0 + count_by (λ y. y == 10) bytes) h.0.0 in
    let rest = solid_count bytes h.1 in
    omega arith

solid_stays : (b : ℕ) (bytes : List ℕ) → AreSolid (b ∷ bytes) → StaysInLine (b ∷ bytes)
solid_stays b bytes h = (solid_count (b ∷ bytes) h, λ fresh. ap (λ f. fold with_byte f bytes) (h.0.1 fresh) ∙ solid_fold bytes h.1)

and_false : (b : Bool) → (b && false) ≡ false
and_false true = refl
and_false false = refl

not_other : (b other : ℕ) → is_word_byte other ≡ false → is_word_byte b ≡ true → (b == other) ≡ false
not_other b other fails passes = by (b == other) refl where
  by : (t : Bool) → (b == other) ≡ t → t ≡ false
  by false e = refl
  by true e = absurd (true≢false (sym passes ∙ ap is_word_byte (eqb-true b other e) ∙ fails))

solid_by : (feed blank tab : Bool) → feed ≡ false → blank ≡ false → tab ≡ false → (feed ≡ false) × ((fresh : Bool) → (feed || (fresh && (blank || tab))) ≡ false)
solid_by true blank tab f g h = absurd (true≢false f)
solid_by false true tab f g h = absurd (true≢false g)
solid_by false false true f g h = absurd (true≢false h)
solid_by false false false f g h = (refl, and_false)

solid_word : (b : ℕ) → is_word_byte b ≡ true → IsSolid b
solid_word b passes = solid_by (b == 10) (b == 32) (b == 9) (not_other b 10 refl passes) (not_other b 32 refl passes) (not_other b 9 refl passes)

solid_words : (bytes : List ℕ) → AreSolid (take (prefix_len is_word_byte bytes) bytes)
solid_words [] = tt
solid_words (b ∷ bytes) = by (is_word_byte b) refl (solid_words bytes) where
  by : (t : Bool) → is_word_byte b ≡ t → AreSolid (take (prefix_len is_word_byte bytes) bytes) → AreSolid (take (cond t (1 + prefix_len is_word_byte bytes) 0) (b ∷ bytes))
  by true e rest =
      let one : 1 + prefix_len is_word_byte bytes ≡ suc (prefix_len is_word_byte bytes) = omega arith in
      let P : ℕ → Type 0 = λ n. AreSolid (take n (b ∷ bytes)) in
      subst P (sym one) (solid_word b e, rest)
  by false e rest = tt

solid_more : (n : ℕ) (bytes : List ℕ) → AreSolid (take n bytes) → IsSolid (get_or bytes n 0) → AreSolid (take (suc n) bytes)
solid_more n [] h s = tt
solid_more zero (b ∷ bytes) h s = (s, tt)
solid_more (suc n) (b ∷ bytes) h s = (h.0, solid_more n bytes h.1 s)

-- ---- numbers

not_passing : (p : ℕ → Bool) (b other : ℕ) → p other ≡ false → p b ≡ true → (b == other) ≡ false
not_passing p b other fails passes = by (b == other) refl where
  by : (t : Bool) → (b == other) ≡ t → t ≡ false
  by false e = refl
  by true e = absurd (true≢false (sym passes ∙ ap p (eqb-true b other e) ∙ fails))

-- a class without line feeds, spaces and tabs
record IsSolidClass (p : ℕ → Bool) : Type 0 where
  feed : p 10 ≡ false
  blank : p 32 ≡ false
  tab : p 9 ≡ false

solid_passing : (p : ℕ → Bool) → IsSolidClass p → (b : ℕ) → p b ≡ true → IsSolid b
solid_passing p h b passes = solid_by (b == 10) (b == 32) (b == 9) (not_passing p b 10 h.feed passes) (not_passing p b 32 h.blank passes) (not_passing p b 9 h.tab passes)

solid_prefix : (p : ℕ → Bool) → IsSolidClass p → (bytes : List ℕ) → AreSolid (take (prefix_len p bytes) bytes)
solid_prefix p h [] = tt
solid_prefix p h (b ∷ bytes) = by (p b) refl (solid_prefix p h bytes) where
  by : (t : Bool) → p b ≡ t → AreSolid (take (prefix_len p bytes) bytes) → AreSolid (take (cond t (1 + prefix_len p bytes) 0) (b ∷ bytes))
  by true e rest =
      let one : 1 + prefix_len p bytes ≡ suc (prefix_len p bytes) = omega arith in
      let P : ℕ → Type 0 = λ n. AreSolid (take n (b ∷ bytes)) in
      subst P (sym one) (solid_passing p h b e, rest)
  by false e rest = tt

solid_append : (n m : ℕ) (bytes : List ℕ) → AreSolid (take n bytes) → AreSolid (take m (drop n bytes)) → AreSolid (take (n + m) bytes)
solid_append zero m bytes h k = let same : zero + m ≡ m = omega arith in let P : ℕ → Type 0 = λ j. AreSolid (take j bytes) in subst P (sym same) k
solid_append (suc n) m [] h k = let same : suc n + m ≡ suc (n + m) = omega arith in let P : ℕ → Type 0 = λ j. AreSolid (take j []) in subst P (sym same) tt
solid_append (suc n) m (b ∷ bytes) h k =
    let same : suc n + m ≡ suc (n + m) = omega arith in
    let P : ℕ → Type 0 = λ j. AreSolid (take j (b ∷ bytes)) in
    subst P (sym same) (h.0, solid_append n m bytes h.1 k)

abbrev SolidLength : List ℕ → Option ℕ → Type 0
SolidLength bytes None = Unit {0}
SolidLength bytes (Some n) = AreSolid (take n bytes)

abbrev SolidLiteral : List ℕ → Option Literal → Type 0
SolidLiteral bytes None = Unit {0}
SolidLiteral bytes (Some l) = (0 < l.len) × AreSolid (take l.len bytes)

solid_cond : (bytes : List ℕ) (b : Bool) (x y : Option Literal) → (b ≡ true → SolidLiteral bytes x) → (b ≡ false → SolidLiteral bytes y) → SolidLiteral bytes (cond b x y)
solid_cond bytes true x y first second = first refl
solid_cond bytes false x y first second = second refl

solid_longer : (n : ℕ) (bytes : List ℕ) (o : Option Literal) → AreSolid (take n bytes) → SolidLiteral (drop n bytes) o → SolidLiteral bytes (option_map (longer n) o)
solid_longer n bytes None h k = tt
solid_longer n bytes (Some l) h k = let some = k.0 in (omega arith, solid_append n l.len bytes h k.1)

digits_solid : (radix : ℕ) → IsSolidClass (λ b. is_digit b radix) → (bytes : List ℕ) → SolidLiteral bytes (digits_at radix bytes)
unfolding digits_at
digits_solid radix h bytes =
    by (prefix_len (λ b. is_digit b radix) bytes) (narrowed (digits_value radix (take (prefix_len (λ b. is_digit b radix) bytes) bytes))) (solid_prefix (λ b. is_digit b radix) h bytes)
  where
    none : (n : ℕ) (value : Option ℕ) → 0 < n → AreSolid (take n bytes) → SolidLiteral bytes (option_map (λ v. record { len = n; value = v }) value)
    none n None some s = tt
    none n (Some v) some s = (some, s)

    by : (n : ℕ) (value : Option ℕ) → AreSolid (take n bytes) → SolidLiteral bytes (cond (n == 0) None (option_map (λ v. record { len = n; value = v }) value))
    by n value s = solid_cond bytes (n == 0) None (option_map (λ v. record { len = n; value = v }) value) (λ _. tt) (λ some. none n value (eqb_false n some) s)

solid_at : (b mark : ℕ) → IsSolid mark → (b == mark) ≡ true → IsSolid b
solid_at b mark solid is = let P : ℕ → Type 0 = IsSolid in subst P (sym (eqb-true b mark is)) solid

magnitude_solid : (bytes : List ℕ) → SolidLiteral bytes (magnitude_at bytes)
unfolding magnitude_at
magnitude_solid bytes =
    solid_cond bytes (get_or bytes 0 0 == 48) _ _
    (λ zero_is. solid_cond bytes (get_or bytes 1 0 == 120) _ _
    (λ x_is. solid_longer 2 bytes (digits_at 16 (drop 2 bytes))
    (solid_more 1 bytes (solid_more 0 bytes tt (solid_at (get_or bytes 0 0) 48 (refl, and_false) zero_is)) (solid_at (get_or bytes 1 0) 120 (refl, and_false) x_is))
    (digits_solid 16 (record { feed = refl; blank = refl; tab = refl }) (drop 2 bytes)))
    (λ _. digits_solid 8 (record { feed = refl; blank = refl; tab = refl }) bytes))
    (λ _. digits_solid 10 (record { feed = refl; blank = refl; tab = refl }) bytes)

suffix_solid : (bytes : List ℕ) → SolidLength bytes (suffix_at bytes)
unfolding suffix_at
suffix_solid bytes = let n = prefix_len is_suffix_letter bytes in by (nat_lt 3 n || is_ascii_alphanumeric (get_or bytes n 0))
  where
    by : (b : Bool) → SolidLength bytes (cond b None (Some (prefix_len is_suffix_letter bytes)))
    by true = tt
    by false = solid_prefix is_suffix_letter (record { feed = refl; blank = refl; tab = refl }) bytes

with_suffix : (bytes : List ℕ) (d : Literal) (o : Option ℕ) → (0 < d.len) × AreSolid (take d.len bytes) → SolidLength (drop d.len bytes) o → SolidLiteral bytes (option_map (λ n. record { len = d.len + n; value = d.value }) o)
with_suffix bytes d None h k = tt
with_suffix bytes d (Some n) h k = let some = h.0 in (omega arith, solid_append d.len n bytes h.1 k)

unsigned_solid : (bytes : List ℕ) → SolidLiteral bytes (unsigned_at bytes)
unfolding unsigned_at
unsigned_solid bytes = by (magnitude_at bytes) (magnitude_solid bytes)
  where
    by : (o : Option Literal) → SolidLiteral bytes o → SolidLiteral bytes (option_and_then (λ d. option_map (λ n. record { len = d.len + n; value = d.value }) (suffix_at (drop d.len bytes))) o)
    by None h = tt
    by (Some d) h = with_suffix bytes d (suffix_at (drop d.len bytes)) h (suffix_solid (drop d.len bytes))

negated_solid : (bytes : List ℕ) (o : Option Literal) → AreSolid (take 1 bytes) → SolidLiteral (drop 1 bytes) o → SolidLiteral bytes (option_and_then negated o)
unfolding negated
negated_solid bytes None h k = tt
negated_solid bytes (Some l) h k = let some = k.0 in solid_cond bytes (nat_lt (2 ^ 63) l.value) None (Some (record { len = 1 + l.len; value = (2 ^ 64 - l.value) % 2 ^ 64 })) (λ _. tt) (λ _. (omega arith, solid_append 1 l.len bytes h k.1))

number_solid : (bytes : List ℕ) → SolidLiteral bytes (number_at bytes)
unfolding number_at
number_solid bytes =
    solid_cond bytes (get_or bytes 0 0 == 45) _ _
    (λ is. negated_solid bytes (unsigned_at (drop 1 bytes)) (solid_more 0 bytes tt (solid_at (get_or bytes 0 0) 45 (refl, and_false) is)) (unsigned_solid (drop 1 bytes)))
    (λ _. solid_cond bytes (get_or bytes 0 0 == 43) _ _
    (λ is. solid_longer 1 bytes (unsigned_at (drop 1 bytes)) (solid_more 0 bytes tt (solid_at (get_or bytes 0 0) 43 (refl, and_false) is)) (unsigned_solid (drop 1 bytes)))
    (λ _. unsigned_solid bytes))

solid_take : (n : ℕ) (bytes : List ℕ) → 0 < n → 0 < length bytes → AreSolid (take n bytes) → StaysInLine (take n bytes)
solid_take zero bytes some more s = absurd (omega arith)
solid_take (suc n) [] some more s = absurd (omega arith)
solid_take (suc n) (b ∷ bytes) some more s = solid_stays b (take n bytes) s

-- ---- what is at the front

-- a token of such a kind stays in its line
abbrev pub FrontStays : List ℕ → Front → Type 0
FrontStays bytes (Finds kind n value) = is_solid_kind kind ≡ true → StaysInLine (take n bytes)
FrontStays bytes other = Unit {0}

stays_cond : (bytes : List ℕ) (b : Bool) (x y : Front) → (b ≡ true → FrontStays bytes x) → (b ≡ false → FrontStays bytes y) → FrontStays bytes (cond b x y)
stays_cond bytes true x y first second = first refl
stays_cond bytes false x y first second = second refl

or_more : (a b c d : Bool) → ((b || c) || d) ≡ true → (((a || b) || c) || d) ≡ true
or_more true b c d h = refl
or_more false b c d h = h

start_goes_on : (b : ℕ) → is_word_start b ≡ true → is_word_byte b ≡ true
start_goes_on b h = or_more (is_in_range 48 57 b) (is_in_range 65 90 b) (is_in_range 97 122 b) (b == 95) h

solid_colon : (b : ℕ) → (b == 58) ≡ true → IsSolid b
solid_colon b e = let P : ℕ → Type 0 = IsSolid in subst P (sym (eqb-true b 58 e)) (refl, and_false)

-- a word of n bytes after its first, and a colon after it
word_by : (b n : ℕ) (bytes : List ℕ) → IsSolid b → AreSolid (take n bytes) → FrontStays (b ∷ bytes) (cond (get_or (b ∷ bytes) (suc n) 0 == 58) (Finds TokenKind.LabelMark (suc n + 1) 0) (Finds TokenKind.Word (suc n) 0))
word_by b n bytes first rest =
    stays_cond (b ∷ bytes) (get_or bytes n 0 == 58) _ _
    (λ colon _. let one : suc n + 1 ≡ suc (suc n) = omega arith in let P : ℕ → Type 0 = λ k. StaysInLine (take k (b ∷ bytes)) in
    subst P (sym one) (solid_stays b (take (suc n) bytes) (first, solid_more n bytes rest (solid_colon (get_or bytes n 0) colon))))
    (λ _ _. solid_stays b (take n bytes) (first, rest))

word_len_is : (b : ℕ) (bytes : List ℕ) → is_word_start b ≡ true → is_word_byte b ≡ true → word_len (b ∷ bytes) ≡ suc (prefix_len is_word_byte bytes)
unfolding word_len
word_len_is b bytes start goes = let e : word_len (b ∷ bytes) ≡ 1 + prefix_len is_word_byte bytes = rw (start, goes) refl in omega arith

word_stays : (bytes : List ℕ) → 0 < length bytes → is_word_start (get_or bytes 0 0) ≡ true → FrontStays bytes (word_at bytes)
unfolding word_at
word_stays [] some start = absurd (omega arith)
word_stays (b ∷ bytes) some start =
    let goes = start_goes_on b start in
    rw (word_len_is b bytes start goes) (word_by b (prefix_len is_word_byte bytes) bytes (solid_word b goes) (solid_words bytes))

solid_word_len : (bytes : List ℕ) → AreSolid (take (word_len bytes) bytes)
unfolding word_len
solid_word_len bytes = by (is_word_start (get_or bytes 0 0)) where
  by : (t : Bool) → AreSolid (take (cond t (prefix_len is_word_byte bytes) 0) bytes)
  by true = solid_words bytes
  by false = tt

no_word : word_len [] ≡ 0
unfolding word_len
no_word = refl

marked_stays : (kind : TokenKind) (bytes : List ℕ) → IsSolid (get_or bytes 0 0) → FrontStays bytes (marked_at kind bytes)
unfolding marked_at
marked_stays kind [] first = stays_cond [] (word_len [] == 0) _ _ (λ _. tt) (λ some. absurd (true≢false (sym (eq-eqb (word_len []) 0 no_word) ∙ some)))
marked_stays kind (b ∷ bytes) first =
    let one : 1 + word_len bytes ≡ suc (word_len bytes) = omega arith in
    let P : ℕ → Type 0 = λ n. StaysInLine (take n (b ∷ bytes)) in
    stays_cond (b ∷ bytes) (word_len bytes == 0) _ _ (λ _. tt) (λ _ _. subst P (sym one) (solid_stays b (take (word_len bytes) bytes) (first, solid_word_len bytes)))

marker_stays : (fresh : Bool) (bytes : List ℕ) → FrontStays bytes (marker_at fresh bytes)
unfolding marker_at
marker_stays fresh bytes = stays_cond bytes (fresh && is_ascii_digit (get_or bytes (1 + prefix_len (λ b. b == 32) (drop 1 bytes)) 0)) _ _ (λ _. tt) (λ _. tt)

literal_stays : (kind : TokenKind) (bytes : List ℕ) → is_solid_kind kind ≡ false → (literal : Option Literal) → FrontStays bytes (literal_token kind literal)
literal_stays kind bytes other None = tt
literal_stays kind bytes other (Some l) = λ word. absurd (true≢false (sym word ∙ other))

number_stays : (bytes : List ℕ) → 0 < length bytes → (literal : Option Literal) → SolidLiteral bytes literal → FrontStays bytes (literal_token Number literal)
number_stays bytes more None solid = tt
number_stays bytes more (Some l) solid = λ word. solid_take l.len bytes solid.0 more solid.1

string_stays : (bytes : List ℕ) (string : Option ℕ) → FrontStays bytes (string_token string)
string_stays bytes None = tt
string_stays bytes (Some n) = λ word. absurd (true≢false (sym word))

expression_stays : (bytes : List ℕ) (expression : Option Reading) → FrontStays bytes (expression_token expression)
expression_stays bytes None = tt
expression_stays bytes (Some read) = λ word. absurd (true≢false (sym word))

dollar_stays : (bytes : List ℕ) → IsSolid (get_or bytes 0 0) → FrontStays bytes (dollar_at bytes)
unfolding dollar_at
dollar_stays bytes first = stays_cond bytes (get_or bytes 1 0 == 40) _ _ (λ _. expression_stays bytes (expression_at bytes)) (λ _. marked_stays Name bytes first)

mark_stays : (fresh : Bool) (bytes : List ℕ) → FrontStays bytes (mark_at fresh bytes)
unfolding mark_at
mark_stays fresh bytes = let b = get_or bytes 0 0 in
    let first = λ (mark : ℕ) (solid : IsSolid mark) (is : (b == mark) ≡ true). (let P : ℕ → Type 0 = IsSolid in subst P (sym (eqb-true b mark is)) solid) in
    stays_cond bytes (b == 35) _ _ (λ _. marker_stays fresh bytes) (λ _.
    stays_cond bytes (b == 46) _ _ (λ is. marked_stays Directive bytes (first 46 (refl, and_false) is)) (λ _.
    stays_cond bytes (b == 37) _ _ (λ is. marked_stays Register bytes (first 37 (refl, and_false) is)) (λ _.
    stays_cond bytes (b == 64) _ _ (λ is. marked_stays Host bytes (first 64 (refl, and_false) is)) (λ _.
    stays_cond bytes (b == 36) _ _ (λ is. dollar_stays bytes (first 36 (refl, and_false) is)) (λ _.
    stays_cond bytes (b == 39) _ _ (λ _. literal_stays Character bytes refl (character_at bytes)) (λ _.
    stays_cond bytes (b == 34) _ _ (λ _. string_stays bytes (string_at bytes)) (λ _. tt)))))))

token_stays : (fresh : Bool) (bytes : List ℕ) → 0 < length bytes → FrontStays bytes (token_at fresh bytes)
unfolding token_at
token_stays fresh bytes some = let b = get_or bytes 0 0 in
    stays_cond bytes (is_word_start b) _ _ (word_stays bytes some) (λ _.
    stays_cond bytes (is_ascii_digit b || ((b == 45) || (b == 43))) _ _ (λ _. number_stays bytes some (number_at bytes) (number_solid bytes)) (λ _. mark_stays fresh bytes))

blank_or_token_stays : (fresh : Bool) (bytes : List ℕ) → 0 < length bytes → (blank : Option ℕ) → FrontStays bytes (option_map_or Skips blank (token_at fresh bytes))
blank_or_token_stays fresh bytes some None = token_stays fresh bytes some
blank_or_token_stays fresh bytes some (Some n) = tt

-- such a token at the front stays in its line
pub front_stays : (fresh : Bool) (bytes : List ℕ) → FrontStays bytes (front_at fresh bytes)
unfolding front_at
front_stays fresh bytes = stays_cond bytes (length bytes == 0) _ _ (λ _. tt) (λ some. blank_or_token_stays fresh bytes (eqb_false _ some) (blank_at bytes))
