-- One more byte of a string, of two strings and of a number, and the bytes of a string.
use Rattle.std.proofs.Common.{◌≡◌, ◌⊎◌, ℕ, zero, suc, ◌+◌, ◌-◌, ◌*◌, ◌^◌, ◌<◌, ◌≤◌, Bool, true, false, List, [], ◌∷◌, length, Option, Some, None, refl, sym, ap, ap₂, ◌∙◌, ⊎_elim, inl, inr, arith, eqb}
use Rattle.std.specs.Prelude.{max, nat_lt, nat_le, unwrap_or, if◌then◌else◌}
use Rattle.std.specs.Option.{option_map}
use Rattle.std.proofs.lemmas.Bool.{cases_lt}
use Rattle.lg_host.specs.Runs.{Bytes, address_end, before, run_of, run}
use Rattle.lg_host.specs.Strings.{string_in, compared, is_space, is_digit, int_word, number_in, signed_in, atoi_in}
use Rattle.lg_host.specs.Output.{bytes_from}
use Rattle.lg_host.proofs.RunLemmas.{run-end, run-some, run-none}

pub string-step : (a b : ℕ) (bs : List ℕ) → (b ≡ 0 → ⊥) → option_map (λ string. a + length string) (string_in (b ∷ bs)) ≡ option_map (λ string. a + 1 + length string) (string_in bs)
string-step a b bs ne = let t : eqb b 0 ≡ false = grind (arith, ne) in rw t (by (string_in bs))
  where
    by : (o : Option (List ℕ)) → option_map (λ string. a + length string) (option_map (λ string. b ∷ string) o) ≡ option_map (λ string. a + 1 + length string) o
    by None = refl
    by (Some s) = ap Some (omega arith)

pub compared-none : (xs : List ℕ) → compared xs [] ≡ None
compared-none [] = refl
compared-none (x ∷ xs) = refl

pub compared-step : (x y : ℕ) (xs ys : List ℕ) → x ≡ y → (x ≡ 0 → ⊥) → compared (x ∷ xs) (y ∷ ys) ≡ compared xs ys
compared-step x y xs ys e ne =
    let a : nat_lt x y ≡ false = grind arith in
    let b : nat_lt y x ≡ false = grind arith in
    let c : eqb x 0 ≡ false = grind arith in
    rw (a, b, c)

pub number-step : (negative : Bool) (n b : ℕ) (bs : List ℕ) → 48 ≤ b → b ≤ 57 → number_in negative n (b ∷ bs) ≡ number_in negative (n * 10 + (b - 48)) bs
number-step negative n b bs le ge = let t : is_digit b ≡ true = grind arith in rw t

int-big : (negative : Bool) (n : ℕ) → 2 ^ 31 < n → int_word negative n ≡ None
int-big true n h = let t : nat_le n (2 ^ 31) ≡ false = grind arith in rw t
int-big false n h = let t : nat_lt n (2 ^ 31) ≡ false = grind arith in rw t

-- a number that is too large stays so
pub number-big : (negative : Bool) (n : ℕ) (bs : List ℕ) → 2 ^ 31 < n → number_in negative n bs ≡ None
number-big negative n [] h = refl
number-big negative n (b ∷ bs) h = by (is_digit b) (number-big negative (n * 10 + (b - 48)) bs (omega arith))
  where
    by : (t : Bool) {P : Option ℕ} → P ≡ None → (if t then P else int_word negative n) ≡ None
    by true e = e
    by false e = int-big negative n h

pub number-stops : (negative : Bool) (n b : ℕ) (bs : List ℕ) → (b < 48) ⊎ (57 < b) → number_in negative n (b ∷ bs) ≡ int_word negative n
number-stops negative n b bs h = let t : is_digit b ≡ false = ⊎_elim (λ (x : b < 48). grind arith) (λ (x : 57 < b). grind arith) h in rw t

-- ---- at an address

-- where the string at an address ends
abbrev pub end_at : Bytes → ℕ → Option ℕ
end_at m a = option_map (λ string. a + length string) (string_in (run m a))

pub end-none : (m : Bytes) (a : ℕ) → None ≡ m a → end_at m a ≡ None
end-none m a is = rw (run-none m a is) refl

pub end-top : (m : Bytes) (a : ℕ) → 2 ^ 64 ≤ a → end_at m a ≡ None
end-top m a le = rw (run-end m a le) refl

pub end-zero : (m : Bytes) (a b : ℕ) → a < 2 ^ 64 → Some b ≡ m a → b ≡ 0 → end_at m a ≡ Some a
end-zero m a b lt is z = let t : eqb b 0 ≡ true = grind arith in rw (run-some m a b lt is, t) (ap Some (omega arith))

pub end-more : (m : Bytes) (a b : ℕ) → a < 2 ^ 64 → Some b ≡ m a → (b ≡ 0 → ⊥) → end_at m a ≡ end_at m (a + 1)
end-more m a b lt is ne = rw (run-some m a b lt is) (string-step a b (run m (a + 1)) ne)

-- how the strings at two addresses compare
abbrev pub compare_at : Bytes → ℕ → ℕ → Option ℕ
compare_at m a b = compared (run m a) (run m b)

pub compare-none : (m : Bytes) (a b : ℕ) → None ≡ m a → compare_at m a b ≡ None
compare-none m a b is = rw (run-none m a is) refl

pub compare-none2 : (m : Bytes) (a b : ℕ) → None ≡ m b → compare_at m a b ≡ None
compare-none2 m a b is = rw (run-none m b is) (compared-none (run m a))

pub compare-top : (m : Bytes) (a b : ℕ) → (2 ^ 64 ≤ a) ⊎ (2 ^ 64 ≤ b) → compare_at m a b ≡ None
compare-top m a b h = ⊎_elim (λ (x : 2 ^ 64 ≤ a). rw (run-end m a x) refl) (λ (x : 2 ^ 64 ≤ b). rw (run-end m b x) (compared-none (run m a))) h

pub compare-both : (m : Bytes) (a b x y : ℕ) → a < 2 ^ 64 → b < 2 ^ 64 → Some x ≡ m a → Some y ≡ m b → compare_at m a b ≡ compared (x ∷ run m (a + 1)) (y ∷ run m (b + 1))
compare-both m a b x y p q i j = ap₂ compared (run-some m a x p i) (run-some m b y q j)

pub compared-less : (x y : ℕ) (xs ys : List ℕ) → x < y → compared (x ∷ xs) (y ∷ ys) ≡ Some (2 ^ 64 - 1)
compared-less x y xs ys h = let t : nat_lt x y ≡ true = grind arith in rw t

pub compared-more : (x y : ℕ) (xs ys : List ℕ) → y < x → compared (x ∷ xs) (y ∷ ys) ≡ Some 1
compared-more x y xs ys h = let t : nat_lt x y ≡ false = grind arith in let u : nat_lt y x ≡ true = grind arith in rw (t, u)

pub compared-zero : (x y : ℕ) (xs ys : List ℕ) → x ≡ y → x ≡ 0 → compared (x ∷ xs) (y ∷ ys) ≡ Some 0
compared-zero x y xs ys e z = let t : nat_lt x y ≡ false = grind arith in let u : nat_lt y x ≡ false = grind arith in let v : eqb x 0 ≡ true = grind arith in rw (t, u, v)

pub compare-less : (m : Bytes) (a b x y : ℕ) → a < 2 ^ 64 → b < 2 ^ 64 → Some x ≡ m a → Some y ≡ m b → x < y → compare_at m a b ≡ Some (2 ^ 64 - 1)
compare-less m a b x y p q i j h = compare-both m a b x y p q i j ∙ compared-less x y (run m (a + 1)) (run m (b + 1)) h

pub compare-more : (m : Bytes) (a b x y : ℕ) → a < 2 ^ 64 → b < 2 ^ 64 → Some x ≡ m a → Some y ≡ m b → y < x → compare_at m a b ≡ Some 1
compare-more m a b x y p q i j h = compare-both m a b x y p q i j ∙ compared-more x y (run m (a + 1)) (run m (b + 1)) h

pub compare-zero : (m : Bytes) (a b x y : ℕ) → a < 2 ^ 64 → b < 2 ^ 64 → Some x ≡ m a → Some y ≡ m b → x ≡ y → x ≡ 0 → compare_at m a b ≡ Some 0
compare-zero m a b x y p q i j e h = compare-both m a b x y p q i j ∙ compared-zero x y (run m (a + 1)) (run m (b + 1)) e h

pub compare-next : (m : Bytes) (a b x y : ℕ) → a < 2 ^ 64 → b < 2 ^ 64 → Some x ≡ m a → Some y ≡ m b → x ≡ y → (x ≡ 0 → ⊥) → compare_at m a b ≡ compare_at m (a + 1) (b + 1)
compare-next m a b x y p q i j e h = compare-both m a b x y p q i j ∙ compared-step x y (run m (a + 1)) (run m (b + 1)) e h

pub again : (m : Bytes) (a b i : ℕ) → compare_at m (a + i + 1) (b + i + 1) ≡ compare_at m (a + (i + 1)) (b + (i + 1))
again m a b i = let p : a + i + 1 ≡ a + (i + 1) = omega arith in let q : b + i + 1 ≡ b + (i + 1) = omega arith in ap₂ (compare_at m) p q

-- a number at an address
abbrev pub number_at : Bool → ℕ → Bytes → ℕ → Option ℕ
number_at negative n m a = number_in negative n (run m a)

pub number-none : (negative : Bool) (n : ℕ) (m : Bytes) (a : ℕ) → None ≡ m a → number_at negative n m a ≡ None
number-none negative n m a is = rw (run-none m a is) refl

pub number-top : (negative : Bool) (n : ℕ) (m : Bytes) (a : ℕ) → 2 ^ 64 ≤ a → number_at negative n m a ≡ None
number-top negative n m a le = rw (run-end m a le) refl

pub number-end : (negative : Bool) (n : ℕ) (m : Bytes) (a b : ℕ) → a < 2 ^ 64 → Some b ≡ m a → (b < 48) ⊎ (57 < b) → number_at negative n m a ≡ int_word negative n
number-end negative n m a b lt is h = rw (run-some m a b lt is) (number-stops negative n b (run m (a + 1)) h)

pub number-more : (negative : Bool) (n : ℕ) (m : Bytes) (a b : ℕ) → a < 2 ^ 64 → Some b ≡ m a → 48 ≤ b → b ≤ 57 → number_at negative n m a ≡ number_at negative (n * 10 + (b - 48)) m (a + 1)
number-more negative n m a b lt is le ge = rw (run-some m a b lt is) (number-step negative n b (run m (a + 1)) le ge)

pub number-over : (negative : Bool) (n : ℕ) (m : Bytes) (a b : ℕ) → a < 2 ^ 64 → Some b ≡ m a → 48 ≤ b → b ≤ 57 → 2 ^ 31 < n * 10 + (b - 48) → number_at negative n m a ≡ None
number-over negative n m a b lt is le ge big = number-more negative n m a b lt is le ge ∙ number-big negative (n * 10 + (b - 48)) (run m (a + 1)) big

abbrev pub atoi_at : Bytes → ℕ → Option ℕ
atoi_at m a = atoi_in (run m a)

pub atoi-none : (m : Bytes) (a : ℕ) → None ≡ m a → atoi_at m a ≡ None
atoi-none m a is = rw (run-none m a is) refl

pub atoi-top : (m : Bytes) (a : ℕ) → 2 ^ 64 ≤ a → atoi_at m a ≡ None
atoi-top m a le = rw (run-end m a le) refl

pub atoi-space : (m : Bytes) (a b : ℕ) → a < 2 ^ 64 → Some b ≡ m a → is_space b ≡ true → atoi_at m a ≡ atoi_at m (a + 1)
atoi-space m a b lt is t = rw (run-some m a b lt is, t) refl

pub atoi-signed : (m : Bytes) (a b : ℕ) → a < 2 ^ 64 → Some b ≡ m a → is_space b ≡ false → atoi_at m a ≡ signed_in (run m a)
atoi-signed m a b lt is t = rw (run-some m a b lt is, t) refl

abbrev pub signed_at : Bytes → ℕ → Option ℕ
signed_at m a = signed_in (run m a)

pub signed-minus : (m : Bytes) (a b : ℕ) → a < 2 ^ 64 → m a ≡ Some b → b ≡ 45 → signed_at m a ≡ number_at true 0 m (a + 1)
signed-minus m a b lt is e = let t : eqb b 45 ≡ true = grind arith in rw (run-some m a b lt (sym is), t) refl

pub signed-plus : (m : Bytes) (a b : ℕ) → a < 2 ^ 64 → m a ≡ Some b → b ≡ 43 → signed_at m a ≡ number_at false 0 m (a + 1)
signed-plus m a b lt is e = let t : eqb b 45 ≡ false = grind arith in let u : eqb b 43 ≡ true = grind arith in rw (run-some m a b lt (sym is), t, u) refl

pub signed-none : (m : Bytes) (a b : ℕ) → a < 2 ^ 64 → m a ≡ Some b → (b ≡ 45 → ⊥) → (b ≡ 43 → ⊥) → signed_at m a ≡ number_at false 0 m a
signed-none m a b lt is x y = let t : eqb b 45 ≡ false = grind arith in let u : eqb b 43 ≡ false = grind arith in rw (run-some m a b lt (sym is), t, u) refl

pub reached : (a b i : ℕ) → 2 ^ 64 - max a b ≤ i → (2 ^ 64 ≤ a + i) ⊎ (2 ^ 64 ≤ b + i)
reached a b i h = ⊎_elim (λ lt. inr (omega arith)) (λ ge. inl (omega arith)) (cases_lt a b)

-- ---- the bytes of a string

-- what is before the zero byte is what the addresses hold
string-cons : (n : ℕ) (m : Bytes) (a b : ℕ) (bs rest : List ℕ) (t : Bool) (o : Option (List ℕ)) → ((s : List ℕ) → string_in rest ≡ Some s → bytes_from (length s) m (a + 1) ≡ s) → m a ≡ Some b → string_in rest ≡ o → (if t then Some [] else option_map (λ s. b ∷ s) o) ≡ Some bs → bytes_from (length bs) m a ≡ bs
string-cons n m a b bs rest true o ih is e h = let z : [] ≡ bs = cc in ap (λ x. bytes_from (length x) m a) (sym z) ∙ z
string-cons n m a b bs rest false None ih is e h = let no : ⊥ = cc in absurd no
string-cons n m a b bs rest false (Some s) ih is e h = let z : b ∷ s ≡ bs = cc in ap (λ x. bytes_from (length x) m a) (sym z) ∙ ap₂ (λ o x. unwrap_or o 0 ∷ x) is (ih s e) ∙ z

string-by : (n : ℕ) (m : Bytes) (a : ℕ) (bs rest : List ℕ) (o : Option ℕ) → ((s : List ℕ) → string_in rest ≡ Some s → bytes_from (length s) m (a + 1) ≡ s) → m a ≡ o → string_in (before o rest) ≡ Some bs → bytes_from (length bs) m a ≡ bs
string-by n m a bs rest None ih is h = let no : ⊥ = cc in absurd no
string-by n m a bs rest (Some b) ih is h = string-cons n m a b bs rest (eqb b 0) (string_in rest) ih is refl h

string-bytes : (n : ℕ) (m : Bytes) (a : ℕ) (bs : List ℕ) → string_in (run_of n m a) ≡ Some bs → bytes_from (length bs) m a ≡ bs
unfolding run_of
string-bytes zero m a bs h = let no : ⊥ = cc in absurd no
string-bytes (suc n) m a bs h = string-by n m a bs (run_of n m (a + 1)) (m a) (λ s e. string-bytes n m (a + 1) s e) refl h

pub length-bytes : (n : ℕ) (m : Bytes) (a : ℕ) → length (bytes_from n m a) ≡ n
length-bytes zero m a = refl
length-bytes (suc n) m a = let e : length (bytes_from n m (a + 1)) ≡ n = length-bytes n m (a + 1) in omega (arith, e)

pub string-told : (m : Bytes) (a e : ℕ) → Some e ≡ option_map (λ s. a + length s) (string_in (run m a)) → string_in (run m a) ≡ Some (bytes_from (e - a) m a)
string-told m a e h = by (string_in (run m a)) refl h
  where
    by : (o : Option (List ℕ)) → string_in (run m a) ≡ o → Some e ≡ option_map (λ s. a + length s) o → string_in (run m a) ≡ Some (bytes_from (e - a) m a)
    by None is h = let no : ⊥ = cc in absurd no
    by (Some s) is h =
        let z : e ≡ a + length s = cc in
        let k : length s ≡ e - a = omega arith in
        is ∙ ap Some (sym (string-bytes (address_end - a) m a s is) ∙ ap (λ n. bytes_from n m a) k)

pub string-no : (m : Bytes) (a : ℕ) → None ≡ option_map (λ s. a + length s) (string_in (run m a)) → string_in (run m a) ≡ None
string-no m a h = by (string_in (run m a)) h
  where
    by : (o : Option (List ℕ)) → None ≡ option_map (λ s. a + length s) o → o ≡ None
    by None h = refl
    by (Some s) h = let no : ⊥ = cc in absurd no
