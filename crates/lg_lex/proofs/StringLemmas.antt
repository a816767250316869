-- What one byte or escape more, and the end, do to a string's length and bytes.
use Rattle.std.proofs.Common.{◌≡◌, ◌≢◌, ℕ, zero, suc, ◌+◌, ◌-◌, ◌<◌, ◌≤◌, max, Bool, true, false, cond, eqb, List, [], ◌∷◌, length, get_or, drop, refl, sym, ap, ◌∙◌, arith, Option, Some, None}
use Rattle.std.proofs.lemmas.List.{drop-drop, length-drop}
use Rattle.std.specs.Option.{option_map_or}
use Rattle.lg_lex.specs.declared.escapes.TextByte.{TextByte}
use Rattle.lg_lex.specs.Bytes.{further}
use Rattle.lg_lex.proofs.ByteLemmas.{within, first_of_drop, eqb_same, eqb_other, further-further}
use Rattle.lg_lex.proofs.LengthLemmas.{text_byte_within}
use Rattle.lg_lex.specs.Escapes.{text_byte_at, string_rest, string_values, string_left}

-- a byte or an escape of a string
pub string_rest_more : (k : ℕ) (bytes : List ℕ) (at : ℕ) (found : TextByte) → 0 < k → get_or bytes at 0 ≢ 34 → text_byte_at (drop at bytes) ≡ Some found → further (at + found.len) (string_rest (k - 1) (drop (at + found.len) bytes)) ≡ further at (string_rest k (drop at bytes))
unfolding string_rest
string_rest_more zero bytes at found h other is = absurd (omega arith)
string_rest_more (suc k) bytes at found h other is =
    let one : suc k - 1 ≡ k = omega arith in
    let test = ap (λ b. eqb b 34) (first_of_drop bytes at) ∙ eqb_other _ 34 other in
    let rest = drop-drop found.len at bytes in
    rw (one, test, is, rest) (sym (further-further at found.len (string_rest k (drop (at + found.len) bytes))))

-- the closing quote
pub string_rest_end : (k : ℕ) (bytes : List ℕ) (at : ℕ) → length bytes ≤ at + k → get_or bytes at 0 ≡ 34 → string_rest k (drop at bytes) ≡ Some 1
unfolding string_rest
string_rest_end zero bytes at h quote = absurd (omega (arith, within bytes at (omega arith)))
string_rest_end (suc k) bytes at h quote =
    let test = ap (λ b. eqb b 34) (first_of_drop bytes at) ∙ eqb_same _ 34 quote in
    rw test refl

-- a malformed byte
pub string_rest_bad : (k : ℕ) (bytes : List ℕ) (at : ℕ) → get_or bytes at 0 ≢ 34 → text_byte_at (drop at bytes) ≡ None → string_rest k (drop at bytes) ≡ None
unfolding string_rest
string_rest_bad zero bytes at other is = refl
string_rest_bad (suc k) bytes at other is =
    let test = ap (λ b. eqb b 34) (first_of_drop bytes at) ∙ eqb_other _ 34 other in
    rw (test, is) refl

same_values : (f g : TextByte → List ℕ) (o : Option TextByte) → ((found : TextByte) → o ≡ Some found → f found ≡ g found) → option_map_or f o [] ≡ option_map_or g o []
same_values f g None h = refl
same_values f g (Some found) h = h found refl

-- as many steps as there are bytes are enough
values_enough : (j k : ℕ) (bytes : List ℕ) → length bytes ≤ j → length bytes ≤ k → string_values j bytes ≡ string_values k bytes
unfolding string_values text_byte_at
values_enough zero zero bytes p q = refl
values_enough zero (suc k) [] p q = refl
values_enough zero (suc k) (b ∷ bytes) p q = absurd (omega arith)
values_enough (suc j) zero [] p q = refl
values_enough (suc j) zero (b ∷ bytes) p q = absurd (omega arith)
values_enough (suc j) (suc k) bytes p q =
    ap (λ (values : List ℕ). cond (eqb (get_or bytes 0 0) 34) [] values)
    (same_values (λ found. found.byte ∷ string_values j (drop found.len bytes)) (λ found. found.byte ∷ string_values k (drop found.len bytes)) (text_byte_at bytes)
    (λ found is.
    let some = text_byte_within bytes found is in
    let len = length-drop found.len bytes in
    ap (λ (values : List ℕ). found.byte ∷ values) (values_enough j k (drop found.len bytes) (omega arith) (omega arith))))

max_one : (place : ℕ) → max 1 place ≡ max place 1
max_one place = omega arith

-- the bytes that are left: none at the closing quote or where the string is malformed, else one and the others
values_at : (token : List ℕ) (at : ℕ) → string_values (length token) (drop at token) ≡ string_values (suc (length token)) (drop at token)
values_at token at = let len = length-drop at token in values_enough (length token) (suc (length token)) (drop at token) (omega arith) (omega arith)

string_left_at : (token : List ℕ) (place at : ℕ) → at ≡ max place 1 → string_left token place ≡ string_values (suc (length token)) (drop at token)
unfolding string_left
string_left_at token place at e =
    let same : max 1 place ≡ at = omega arith in
    ap (λ k. string_values (length token) (drop k token)) same ∙ values_at token at

either_nil : (b : Bool) → cond {A = List ℕ} b [] [] ≡ []
either_nil true = refl
either_nil false = refl

pub string_left_end : (token : List ℕ) (place at : ℕ) → at ≡ max place 1 → get_or (drop at token) 0 0 ≡ 34 → string_left token place ≡ []
unfolding string_values
string_left_end token place at e quote =
    string_left_at token place at e ∙ rw (eqb_same _ 34 quote) refl

pub string_left_bad : (token : List ℕ) (place at : ℕ) → at ≡ max place 1 → text_byte_at (drop at token) ≡ None → string_left token place ≡ []
unfolding string_values
string_left_bad token place at e is =
    string_left_at token place at e ∙ rw is (either_nil (eqb (get_or (drop at token) 0 0) 34))

pub string_left_more : (token : List ℕ) (place at : ℕ) (found : TextByte) → at ≡ max place 1 → get_or (drop at token) 0 0 ≢ 34 → text_byte_at (drop at token) ≡ Some found → string_left token place ≡ found.byte ∷ string_left token (at + found.len)
unfolding string_values string_left
string_left_more token place at found e other is =
    let next : max 1 (at + found.len) ≡ at + found.len = omega arith in
    string_left_at token place at e ∙ rw (eqb_other _ 34 other, is, drop-drop found.len at token) (ap (λ k. found.byte ∷ string_values (length token) (drop k token)) (sym next))
