-- A larger memory gives the same strings, numbers and texts, where the smaller one gives any.
use Rattle.std.proofs.Common.{◌≡◌, ℕ, zero, suc, ◌+◌, ◌-◌, ◌*◌, ◌^◌, ◌<◌, Bool, true, false, List, [], ◌∷◌, ◌++◌, Option, Some, None, refl, sym, ap, ◌∙◌, subst, arith}
use Rattle.std.specs.Prelude.{◌==◌, nat_lt, is_some, if◌then◌else◌, option_and_then}
use Rattle.std.specs.Option.{option_map}
use Rattle.std.proofs.lemmas.Bool.{false≢true}
use mathlib.Core.Path.{fun_ext}
use Rattle.lg_base.specs.Spaces.{mapped}
use Rattle.lg_base.proofs.SpaceLemmas.{mapped-each, mapped-all}
use Rattle.lg_host.specs.Runs.{Bytes, address_end, before, run_of, run}
use Rattle.lg_host.specs.Strings.{string_in, compared, is_space, is_digit, int_word, number_in, signed_in, atoi_in}
use Rattle.lg_host.specs.Blocks.{in_range, copied, can_write}
use Rattle.lg_host.specs.Formats.{next_of, is_plain}
use Rattle.lg_host.specs.Printed.{Effect, wrote, effect_of, followed_by, converted, padded, printed, printed_at}
use Rattle.lg_host.specs.HostLaws.{Extends}
use Rattle.lg_host.proofs.BlockLemmas.{can_write-at, can_write-all}
use Rattle.lg_host.specs.declared.format.Style.{Style}
use Rattle.lg_host.specs.declared.format.Kind.{Kind}
use Rattle.lg_host.specs.declared.format.Kind.TheVariants as kind
use Rattle.lg_host.specs.declared.format.Reading.{Reading}
use Rattle.lg_host.specs.declared.format.Reading.TheVariants as reading
use Rattle.lg_host.specs.declared.format.Next.{Next}
use Rattle.lg_host.specs.declared.format.Next.TheVariants as next

-- each byte of the first is one of the second
abbrev pub HasBytes : Bytes → Bytes → Type 0
HasBytes p q = (a : ℕ) → Extends (p a) (q a)

-- ---- options
Extends-refl : {A : Type 0} (o : Option A) → Extends o o
Extends-refl None = tt
Extends-refl (Some x) = refl

pub Extends-map : {A B : Type 0} (f : A → B) (o o' : Option A) → Extends o o' → Extends (option_map f o) (option_map f o')
Extends-map f None o' h = tt
Extends-map f (Some x) o' h = ap (option_map f) h

Extends-if : {A : Type 0} (t : Bool) (a b c d : Option A) → Extends a c → Extends b d → Extends (if t then a else b) (if t then c else d)
Extends-if true a b c d h k = h
Extends-if false a b c d h k = k

-- ---- the bytes from an address on
abbrev pub Begins : List ℕ → List ℕ → Type 0
Begins [] ys = Unit {0}
Begins (x ∷ xs) [] = ⊥
Begins (x ∷ xs) (y ∷ ys) = (y ≡ x) × Begins xs ys

before-begins : (o o' : Option ℕ) (xs ys : List ℕ) → Extends o o' → Begins xs ys → Begins (before o xs) (before o' ys)
before-begins None o' xs ys h k = tt
before-begins (Some b) o' xs ys h k = subst (λ (o : Option ℕ). Begins (b ∷ xs) (before o ys)) (sym h) (refl, k)

run_of-begins : (n : ℕ) (p q : Bytes) (a : ℕ) → HasBytes p q → Begins (run_of n p a) (run_of n q a)
unfolding run_of
run_of-begins zero p q a h = tt
run_of-begins (suc n) p q a h = before-begins (p a) (q a) (run_of n p (a + 1)) (run_of n q (a + 1)) (h a) (run_of-begins n p q (a + 1) h)

pub run-begins : (p q : Bytes) (a : ℕ) → HasBytes p q → Begins (run p a) (run q a)
run-begins p q a h = run_of-begins (address_end - a) p q a h

-- ---- strings and numbers
pub string-extends : (xs ys : List ℕ) → Begins xs ys → Extends (string_in xs) (string_in ys)
string-extends [] ys h = tt
string-extends (x ∷ xs) [] h = absurd h
string-extends (x ∷ xs) (y ∷ ys) h =
    subst (λ z. Extends (string_in (x ∷ xs)) (string_in (z ∷ ys))) (sym h.0)
    (Extends-if (x == 0) (Some []) (option_map (λ string. x ∷ string) (string_in xs)) (Some []) (option_map (λ string. x ∷ string) (string_in ys)) refl (Extends-map (λ string. x ∷ string) (string_in xs) (string_in ys) (string-extends xs ys h.1)))

pub compared-extends : (xs ys xs' ys' : List ℕ) → Begins xs xs' → Begins ys ys' → Extends (compared xs ys) (compared xs' ys')
compared-extends [] ys xs' ys' h k = tt
compared-extends (x ∷ xs) [] xs' ys' h k = tt
compared-extends (x ∷ xs) (y ∷ ys) [] ys' h k = absurd h
compared-extends (x ∷ xs) (y ∷ ys) (x' ∷ xs') [] h k = absurd k
compared-extends (x ∷ xs) (y ∷ ys) (x' ∷ xs') (y' ∷ ys') h k =
    subst (λ v. Extends (compared (x ∷ xs) (y ∷ ys)) (compared (v ∷ xs') (y' ∷ ys'))) (sym h.0)
    (subst (λ w. Extends (compared (x ∷ xs) (y ∷ ys)) (compared (x ∷ xs') (w ∷ ys'))) (sym k.0)
    (Extends-if (nat_lt x y) (Some (2 ^ 64 - 1)) (if nat_lt y x then Some 1 else if x == 0 then Some 0 else compared xs ys) (Some (2 ^ 64 - 1)) (if nat_lt y x then Some 1 else if x == 0 then Some 0 else compared xs' ys') refl
    (Extends-if (nat_lt y x) (Some 1) (if x == 0 then Some 0 else compared xs ys) (Some 1) (if x == 0 then Some 0 else compared xs' ys') refl
    (Extends-if (x == 0) (Some 0) (compared xs ys) (Some 0) (compared xs' ys') refl (compared-extends xs ys xs' ys' h.1 k.1)))))

pub number-extends : (negative : Bool) (n : ℕ) (xs ys : List ℕ) → Begins xs ys → Extends (number_in negative n xs) (number_in negative n ys)
number-extends negative n [] ys h = tt
number-extends negative n (x ∷ xs) [] h = absurd h
number-extends negative n (x ∷ xs) (y ∷ ys) h =
    subst (λ z. Extends (number_in negative n (x ∷ xs)) (number_in negative n (z ∷ ys))) (sym h.0)
    (Extends-if (is_digit x) (number_in negative (n * 10 + (x - 48)) xs) (int_word negative n) (number_in negative (n * 10 + (x - 48)) ys) (int_word negative n) (number-extends negative (n * 10 + (x - 48)) xs ys h.1) (Extends-refl (int_word negative n)))

signed-extends : (x : ℕ) (xs ys : List ℕ) → Begins xs ys → Extends (signed_in (x ∷ xs)) (signed_in (x ∷ ys))
signed-extends x xs ys h =
    Extends-if (x == 45) (number_in true 0 xs) (if x == 43 then number_in false 0 xs else number_in false 0 (x ∷ xs)) (number_in true 0 ys) (if x == 43 then number_in false 0 ys else number_in false 0 (x ∷ ys)) (number-extends true 0 xs ys h)
    (Extends-if (x == 43) (number_in false 0 xs) (number_in false 0 (x ∷ xs)) (number_in false 0 ys) (number_in false 0 (x ∷ ys)) (number-extends false 0 xs ys h) (number-extends false 0 (x ∷ xs) (x ∷ ys) (refl, h)))

pub atoi-extends : (xs ys : List ℕ) → Begins xs ys → Extends (atoi_in xs) (atoi_in ys)
atoi-extends [] ys h = tt
atoi-extends (x ∷ xs) [] h = absurd h
atoi-extends (x ∷ xs) (y ∷ ys) h =
    subst (λ z. Extends (atoi_in (x ∷ xs)) (atoi_in (z ∷ ys))) (sym h.0)
    (Extends-if (is_space x) (atoi_in xs) (signed_in (x ∷ xs)) (atoi_in ys) (signed_in (x ∷ ys)) (atoi-extends xs ys h.1) (signed-extends x xs ys h.1))

-- ---- what printf writes, with further arguments
converted-extends : (p q : Bytes) (s : Style) (k : Kind) (w : ℕ) → HasBytes p q → Extends (converted p s k w) (converted q s k w)
converted-extends p q s kind.Text w h = Extends-map (padded s []) (string_in (run p w)) (string_in (run q w)) (string-extends (run p w) (run q w) (run-begins p q w h))
converted-extends p q s _ w h = refl

-- what follows a conversion
follow-extends : (o o' : Option (List ℕ)) (ws ws' : List ℕ) (f g : Effect → Option (List ℕ)) → Extends o o' → ((bytes : List ℕ) → Extends (f (wrote bytes ws)) (g (wrote bytes ws'))) → Extends (followed_by (option_map (λ bytes. wrote bytes ws) o) f) (followed_by (option_map (λ bytes. wrote bytes ws') o') g)
follow-extends None o' ws ws' f g h k = tt
follow-extends (Some bytes) o' ws ws' f g h k =
    subst (λ (x : Option (List ℕ)). Extends (followed_by (option_map (λ bytes. wrote bytes ws) (Some bytes)) f) (followed_by (option_map (λ bytes. wrote bytes ws') x) g)) (sym h)
    (Extends-map (λ rest. bytes ++ rest) (f (wrote bytes ws)) (g (wrote bytes ws')) (k bytes))

pub printed-extends : (p q : Bytes) (r : Reading) (format args more : List ℕ) → HasBytes p q → Extends (printed p r format args) (printed q r format (args ++ more))
printed-extends p q r [] args more h = Extends-if (is_plain r) (Some []) None (Some []) None refl tt
printed-extends p q r (b ∷ bs) args more h = by (next_of r b) args (λ r' ws. printed-extends p q r' bs ws more h)
  where
    by : (n : Next) (args : List ℕ) → ((r' : Reading) (ws : List ℕ) → Extends (printed p r' bs ws) (printed q r' bs (ws ++ more))) → Extends (followed_by (effect_of p n args) (λ e. printed p e.reading bs e.left)) (followed_by (effect_of q n (args ++ more)) (λ e. printed q e.reading bs e.left))
    by (next.Reads r') args ih = Extends-map (λ bytes. [] ++ bytes) (printed p r' bs args) (printed q r' bs (args ++ more)) (ih r' args)
    by (next.Puts c) args ih = Extends-map (λ bytes. (c ∷ []) ++ bytes) (printed p reading.Plain bs args) (printed q reading.Plain bs (args ++ more)) (ih reading.Plain args)
    by (next.Converts s k) [] ih = tt
    by (next.Converts s k) (w ∷ ws) ih = follow-extends (converted p s k w) (converted q s k w) ws (ws ++ more) (λ e. printed p e.reading bs e.left) (λ e. printed q e.reading bs e.left) (converted-extends p q s k w h) (λ bytes. ih reading.Plain ws)
    by next.Wrong args ih = tt

Extends-then : {A B : Type 0} (o o' : Option A) (f g : A → Option B) → Extends o o' → ((x : A) → Extends (f x) (g x)) → Extends (option_and_then f o) (option_and_then g o')
Extends-then None o' f g h k = tt
Extends-then {A} {B} (Some x) o' f g h k = subst (λ (y : Option A). Extends (f x) (option_and_then g y)) (sym h) (k x)

pub printed_at-extends : (p q : Bytes) (r : Reading) (a : ℕ) (args more : List ℕ) → HasBytes p q → Extends (printed_at p r a args) (printed_at q r a (args ++ more))
printed_at-extends p q r a args more h = Extends-then (string_in (run p a)) (string_in (run q a)) (λ format. printed p r format args) (λ format. printed q r format (args ++ more)) (string-extends (run p a) (run q a) (run-begins p q a h)) (λ format. printed-extends p q r format args more h)

-- ---- ranges
some-extends : (o o' : Option ℕ) → Extends o o' → is_some o ≡ true → o' ≡ o
some-extends None o' h e = absurd (false≢true e)
some-extends (Some x) o' h e = h

pub mapped-extends : (p q : Bytes) (a n : ℕ) → HasBytes p q → mapped p a n ≡ true → mapped q a n ≡ true
mapped-extends p q a n h e = mapped-all q a n (λ j lo hi. ap is_some (some-extends (p j) (q j) (h j) (mapped-each p a n j e lo hi)) ∙ mapped-each p a n j e lo hi)

pub can_write-extends : (w v : ℕ → Bool) (a n : ℕ) → ((j : ℕ) → w j ≡ true → v j ≡ true) → can_write w a n ≡ true → can_write v a n ≡ true
can_write-extends w v a n h e = can_write-all v a n (λ j lo hi. h j (let k : a + (j - a) ≡ j = omega arith in sym (ap w k) ∙ can_write-at w a n (j - a) e (omega arith)))

pub copied-extends : (p q : Bytes) (to from n : ℕ) → HasBytes p q → mapped p from n ≡ true → copied q to from n ≡ copied p to from n
copied-extends p q to from n h e = fun_ext (λ j. by j (in_range to n j) refl)
  where
    by : (j : ℕ) (t : Bool) → in_range to n j ≡ t → (if in_range to n j then q (from + (j - to)) else None) ≡ (if in_range to n j then p (from + (j - to)) else None)
    by j true is = let hi : j - to < n = grind arith in rw is (some-extends (p (from + (j - to))) (q (from + (j - to))) (h (from + (j - to))) (mapped-each p from n (from + (j - to)) e (omega arith) (omega arith)))
    by j false is = rw is refl
