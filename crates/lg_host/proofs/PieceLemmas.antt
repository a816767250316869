-- A format prints what its pieces give, and what prints anything is spelled by pieces.
use Rattle.std.proofs.Common.{◌≡◌, ◌⊎◌, ℕ, ◌+◌, ◌-◌, ◌*◌, ◌≤◌, Bool, true, false, List, [], ◌∷◌, ◌++◌, Option, Some, None, refl, sym, ap, ap₂, ◌∙◌, ⊎_elim, arith, append_assoc}
use Rattle.std.specs.Prelude.{◌==◌, ◌||◌, nat_le, if◌then◌else◌}
use Rattle.std.specs.Option.{option_map}
use Rattle.std.specs.Fmt.{◌++?◌}
use Rattle.std.proofs.lemmas.Bool.{ne_eqb}
use Rattle.std.proofs.Math.Bool.{or-false}
use Rattle.lg_host.specs.Runs.{Bytes}
use Rattle.lg_host.specs.Strings.{is_digit}
use Rattle.lg_host.specs.Formats.{number_letter, at_width, with_digit, plain_style, next_of}
use Rattle.lg_host.specs.Printed.{wrote, effect_of, followed_by, converted, printed}
use Rattle.lg_host.specs.Pieces.{Length, Int, Char, Short, Long, LongLong, length_bytes, size_of, NumberLetter, LowerD, number_code, number_kind, PlainLetter, LowerC, LowerS, LowerP, plain_code, plain_kind, Itself, Percent, Number, Plain, spelled, all_spelled, AreFlags, AreDigits, width_of, BeginsWithoutZero, IsWidth, has_flag, style_of, with_argument, given, PrintsItsPieces}
use Rattle.lg_host.specs.declared.format.Style.{Style}
use Rattle.lg_host.specs.declared.format.Size.{Size}
use Rattle.lg_host.specs.declared.format.Size.TheVariants as size
use Rattle.lg_host.specs.declared.format.Kind.{Kind}
use Rattle.lg_host.specs.declared.format.Reading.{Reading}
use Rattle.lg_host.specs.declared.format.Reading.TheVariants as reading
use Rattle.lg_host.specs.declared.format.Next.{Next}
use Rattle.lg_host.specs.declared.format.Next.TheVariants as next

-- ---- one byte of a format
nil-map : (o : Option (List ℕ)) → option_map (λ bytes. [] ++ bytes) o ≡ o
nil-map None = refl
nil-map (Some x) = refl

map-append : (xs : List ℕ) (o : Option (List ℕ)) → option_map (λ bytes. xs ++ bytes) o ≡ Some xs ++? o
map-append xs None = refl
map-append xs (Some ys) = refl

printed-by : (m : Bytes) (r : Reading) (b : ℕ) (bs args : List ℕ) (n : Next) → next_of r b ≡ n → printed m r (b ∷ bs) args ≡ followed_by (effect_of m n args) (λ e. printed m e.reading bs e.left)
printed-by m r b bs args n e = ap (λ x. followed_by (effect_of m x args) (λ e. printed m e.reading bs e.left)) e

-- a byte that only moves the reading on
moves : (m : Bytes) (r s : Reading) (b : ℕ) (bs args : List ℕ) → next_of r b ≡ next.Reads s → printed m r (b ∷ bs) args ≡ printed m s bs args
moves m r s b bs args e = printed-by m r b bs args (next.Reads s) e ∙ nil-map (printed m s bs args)

-- a byte that denotes itself
puts : (m : Bytes) (r : Reading) (b c : ℕ) (bs args : List ℕ) → next_of r b ≡ next.Puts c → printed m r (b ∷ bs) args ≡ Some (c ∷ []) ++? printed m reading.Plain bs args
puts m r b c bs args e = printed-by m r b bs args (next.Puts c) e ∙ map-append (c ∷ []) (printed m reading.Plain bs args)

-- a byte that ends a conversion
abbrev converts_to : Bytes → Style → Kind → List ℕ → List ℕ → Option (List ℕ)
converts_to m s k bs args = with_argument args (λ word words. converted m s k word ++? printed m reading.Plain bs words)

converts : (m : Bytes) (r : Reading) (b : ℕ) (bs args : List ℕ) (s : Style) (k : Kind) → next_of r b ≡ next.Converts s k → printed m r (b ∷ bs) args ≡ converts_to m s k bs args
converts m r b bs [] s k e = printed-by m r b bs [] (next.Converts s k) e
converts m r b bs (w ∷ ws) s k e = printed-by m r b bs (w ∷ ws) (next.Converts s k) e ∙ by (converted m s k w)
  where
    by : (o : Option (List ℕ)) → followed_by (option_map (λ bytes. wrote bytes ws) o) (λ e. printed m e.reading bs e.left) ≡ o ++? printed m reading.Plain bs ws
    by None = refl
    by (Some bytes) = map-append bytes (printed m reading.Plain bs ws)

-- ---- flags
abbrev flagged : Style → List ℕ → Style
flagged s [] = s
flagged s (f ∷ fs) = flagged (if f == 45 then record { left = true; zero = s.zero; width = s.width } else record { left = s.left; zero = true; width = s.width }) fs

flag-moves : (s : Style) (f : ℕ) → (f ≡ 45) ⊎ (f ≡ 48) → next_of (reading.Flags s) f ≡ next.Reads (reading.Flags (if f == 45 then record { left = true; zero = s.zero; width = s.width } else record { left = s.left; zero = true; width = s.width }))
flag-moves s f h = ⊎_elim (λ (e : f ≡ 45). rw e refl) (λ (e : f ≡ 48). rw e refl) h

after-flags : (m : Bytes) (s : Style) (fs rest args : List ℕ) → AreFlags fs → printed m (reading.Flags s) (fs ++ rest) args ≡ printed m (reading.Flags (flagged s fs)) rest args
after-flags m s [] rest args h = refl
after-flags m s (f ∷ fs) rest args h =
    let t : Style = if f == 45 then record { left = true; zero = s.zero; width = s.width } else record { left = s.left; zero = true; width = s.width } in
    moves m (reading.Flags s) (reading.Flags t) f (fs ++ rest) args (flag-moves s f h.0) ∙ after-flags m t fs rest args h.1

-- what the flags leave
flagged-is : (s : Style) (fs : List ℕ) → AreFlags fs → flagged s fs ≡ record { left = s.left || has_flag 45 fs; zero = s.zero || has_flag 48 fs; width = s.width }
flagged-is s [] h = ap₂ (λ (l z : Bool). let t : Style = record { left = l; zero = z; width = s.width } in t) (sym (or-false s.left)) (sym (or-false s.zero))
flagged-is s (f ∷ fs) h = ⊎_elim
    (λ (e : f ≡ 45). rw e (flagged-is record { left = true; zero = s.zero; width = s.width } fs h.1 ∙ ap (λ (l : Bool). let t : Style = record { left = l; zero = s.zero || has_flag 48 fs; width = s.width } in t) (or-true s.left)))
    (λ (e : f ≡ 48). rw e (flagged-is record { left = s.left; zero = true; width = s.width } fs h.1 ∙ ap (λ (z : Bool). let t : Style = record { left = s.left || has_flag 45 fs; zero = z; width = s.width } in t) (or-true s.zero)))
    h.0
  where
    or-true : (x : Bool) → true ≡ (x || true)
    or-true true = refl
    or-true false = refl

-- ---- the width
abbrev widened : Style → List ℕ → Style
widened s [] = s
widened s (d ∷ ds) = widened (with_digit s d) ds

width_of-le : (n : ℕ) (ds : List ℕ) → n ≤ width_of n ds
width_of-le n [] = omega arith
width_of-le n (d ∷ ds) = let k = width_of-le (n * 10 + (d - 48)) ds in omega (arith, k)

digit-moves : (s : Style) (d : ℕ) → 48 ≤ d → d ≤ 57 → s.width * 10 + (d - 48) ≤ 4095 → next_of (reading.Width s) d ≡ next.Reads (reading.Width (with_digit s d))
digit-moves s d lo hi le = let t : is_digit d ≡ true = grind arith in let u : nat_le (s.width * 10 + (d - 48)) 4095 ≡ true = grind arith in rw (t, u) refl

after-width : (m : Bytes) (s : Style) (ds rest args : List ℕ) → AreDigits ds → width_of s.width ds ≤ 4095 → printed m (reading.Width s) (ds ++ rest) args ≡ printed m (reading.Width (widened s ds)) rest args
after-width m s [] rest args h le = refl
after-width m s (d ∷ ds) rest args h le =
    let k = width_of-le (s.width * 10 + (d - 48)) ds in
    moves m (reading.Width s) (reading.Width (with_digit s d)) d (ds ++ rest) args (digit-moves s d h.0 h.1 (omega (arith, k, le))) ∙ after-width m (with_digit s d) ds rest args h.2 le

widened-is : (s : Style) (ds : List ℕ) → widened s ds ≡ record { left = s.left; zero = s.zero; width = width_of s.width ds }
widened-is s [] = refl
widened-is s (d ∷ ds) = widened-is (with_digit s d) ds

-- ---- after the flags
-- what is there is neither a flag nor a percent sign
abbrev NoFlag : List ℕ → Type 0
NoFlag [] = ⊥
NoFlag (b ∷ bs) = (b ≡ 37 → ⊥) × (b ≡ 45 → ⊥) × (b ≡ 48 → ⊥)

opened : (m : Bytes) (b : ℕ) (bs args : List ℕ) → (b ≡ 37 → ⊥) → printed m reading.Plain (37 ∷ b ∷ bs) args ≡ printed m (reading.Flags plain_style) (b ∷ bs) args
opened m b bs args p =
    let t = ne_eqb b 37 p in
    let here : printed m reading.Start (b ∷ bs) args ≡ printed m (reading.Flags plain_style) (b ∷ bs) args = rw t refl in
    moves m reading.Plain reading.Start 37 (b ∷ bs) args refl ∙ here

entered : (m : Bytes) (fs rest args : List ℕ) → AreFlags fs → NoFlag rest → printed m reading.Plain (37 ∷ (fs ++ rest)) args ≡ printed m (reading.Flags plain_style) (fs ++ rest) args
entered m [] [] args h p = absurd p
entered m [] (b ∷ bs) args h p = opened m b bs args p.0
entered m (f ∷ fs) rest args h p = opened m f (fs ++ rest) args (λ e. ⊎_elim (λ (x : f ≡ 45). omega arith) (λ (x : f ≡ 48). omega arith) h.0)

turned : (m : Bytes) (s : Style) (rest args : List ℕ) → NoFlag rest → printed m (reading.Flags s) rest args ≡ printed m (reading.Width s) rest args
turned m s [] args p = absurd p
turned m s (b ∷ bs) args p = let t = ne_eqb b 45 p.1 in let u = ne_eqb b 48 p.2 in rw (t, u) refl

digits-no-flag : (ds rest : List ℕ) → AreDigits ds → BeginsWithoutZero ds → NoFlag rest → NoFlag (ds ++ rest)
digits-no-flag [] rest h b p = p
digits-no-flag (d ∷ ds) rest h b p = (λ e. omega (arith, h.0), λ e. omega (arith, h.0), b)

-- a percent sign, flags and a width
front : (m : Bytes) (fs ds rest args : List ℕ) → AreFlags fs → IsWidth ds → NoFlag rest → printed m reading.Plain (37 ∷ (fs ++ (ds ++ rest))) args ≡ printed m (reading.Width (style_of fs ds)) rest args
front m fs ds rest args f w p =
    let no = digits-no-flag ds rest w.digits_are w.begins p in
    let s : Style = record { left = has_flag 45 fs; zero = has_flag 48 fs; width = 0 } in
    entered m fs (ds ++ rest) args f no
    ∙ after-flags m plain_style fs (ds ++ rest) args f
    ∙ ap (λ (t : Style). printed m (reading.Flags t) (ds ++ rest) args) (flagged-is plain_style fs f)
    ∙ turned m s (ds ++ rest) args no
    ∙ after-width m s ds rest args w.digits_are w.bound
    ∙ ap (λ (t : Style). printed m (reading.Width t) rest args) (widened-is s ds)

-- ---- a length and a letter
number-at : (s : Style) (n : Size) (l : NumberLetter) → number_letter s n (number_code l) ≡ next.Converts s (number_kind n l)
number-at s n LowerD = refl
number-at s n _ = refl

number-width : (s : Style) (l : NumberLetter) → at_width s (number_code l) ≡ next.Converts s (number_kind size.Int l)
number-width s LowerD = refl
number-width s _ = refl

number-half : (s : Style) (l : NumberLetter) → next_of (reading.Half s) (number_code l) ≡ next.Converts s (number_kind size.Short l)
number-half s LowerD = refl
number-half s _ = refl

number-longer : (s : Style) (l : NumberLetter) → next_of (reading.Longer s) (number_code l) ≡ next.Converts s (number_kind size.Long l)
number-longer s LowerD = refl
number-longer s _ = refl

number-tail : (m : Bytes) (s : Style) (len : Length) (l : NumberLetter) (rest args : List ℕ) → printed m (reading.Width s) (length_bytes len ++ (number_code l ∷ rest)) args ≡ converts_to m s (number_kind (size_of len) l) rest args
number-tail m s Int l rest args = converts m (reading.Width s) (number_code l) rest args s (number_kind size.Int l) (number-width s l)
number-tail m s Char l rest args =
    moves m (reading.Width s) (reading.Half s) 104 (104 ∷ number_code l ∷ rest) args refl
    ∙ moves m (reading.Half s) (reading.Sized s size.Byte) 104 (number_code l ∷ rest) args refl
    ∙ converts m (reading.Sized s size.Byte) (number_code l) rest args s (number_kind size.Byte l) (number-at s size.Byte l)
number-tail m s Short l rest args =
    moves m (reading.Width s) (reading.Half s) 104 (number_code l ∷ rest) args refl
    ∙ converts m (reading.Half s) (number_code l) rest args s (number_kind size.Short l) (number-half s l)
number-tail m s Long l rest args =
    moves m (reading.Width s) (reading.Longer s) 108 (number_code l ∷ rest) args refl
    ∙ converts m (reading.Longer s) (number_code l) rest args s (number_kind size.Long l) (number-longer s l)
number-tail m s LongLong l rest args =
    moves m (reading.Width s) (reading.Longer s) 108 (108 ∷ number_code l ∷ rest) args refl
    ∙ moves m (reading.Longer s) (reading.Sized s size.Long) 108 (number_code l ∷ rest) args refl
    ∙ converts m (reading.Sized s size.Long) (number_code l) rest args s (number_kind size.Long l) (number-at s size.Long l)

plain-width : (s : Style) (l : PlainLetter) → s.zero ≡ false → at_width s (plain_code l) ≡ next.Converts s (plain_kind l)
plain-width s LowerC z = rw z refl
plain-width s LowerS z = rw z refl
plain-width s LowerP z = rw z refl

number-no-flag : (len : Length) (l : NumberLetter) (rest : List ℕ) → NoFlag (length_bytes len ++ (number_code l ∷ rest))
number-no-flag Int LowerD rest = (λ e. omega arith, λ e. omega arith, λ e. omega arith)
number-no-flag _ _ rest = (λ e. omega arith, λ e. omega arith, λ e. omega arith)

plain-no-flag : (l : PlainLetter) (rest : List ℕ) → NoFlag (plain_code l ∷ rest)
plain-no-flag LowerC rest = (λ e. omega arith, λ e. omega arith, λ e. omega arith)
plain-no-flag LowerS rest = (λ e. omega arith, λ e. omega arith, λ e. omega arith)
plain-no-flag LowerP rest = (λ e. omega arith, λ e. omega arith, λ e. omega arith)

-- ---- pieces print what they give
number-spelled : (fs ds : List ℕ) (len : Length) (l : NumberLetter) (rest : List ℕ) → spelled (Number fs ds len l) ++ rest ≡ 37 ∷ (fs ++ (ds ++ (length_bytes len ++ (number_code l ∷ rest))))
number-spelled fs ds len l rest = ap (λ x. 37 ∷ x) (append_assoc fs (ds ++ (length_bytes len ++ number_code l ∷ [])) rest ∙ ap (λ x. fs ++ x) (append_assoc ds (length_bytes len ++ number_code l ∷ []) rest ∙ ap (λ x. ds ++ x) (append_assoc (length_bytes len) (number_code l ∷ []) rest)))

plain-spelled : (fs ds : List ℕ) (l : PlainLetter) (rest : List ℕ) → spelled (Plain fs ds l) ++ rest ≡ 37 ∷ (fs ++ (ds ++ (plain_code l ∷ rest)))
plain-spelled fs ds l rest = ap (λ x. 37 ∷ x) (append_assoc fs (ds ++ plain_code l ∷ []) rest ∙ ap (λ x. fs ++ x) (append_assoc ds (plain_code l ∷ []) rest))

-- conversions with the same rest
same-rest : (m : Bytes) (s : Style) (k : Kind) (bs args : List ℕ) (f : List ℕ → Option (List ℕ)) → ((ws : List ℕ) → printed m reading.Plain bs ws ≡ f ws) → converts_to m s k bs args ≡ with_argument args (λ word words. converted m s k word ++? f words)
same-rest m s k bs [] f h = refl
same-rest m s k bs (w ∷ ws) f h = ap (λ o. converted m s k w ++? o) (h ws)

pub prints-pieces : PrintsItsPieces
prints-pieces m [] args h = refl
prints-pieces m (Itself b ∷ ps) args h =
    let t : next_of reading.Plain b ≡ next.Puts b = ap (λ x. if x then next.Reads reading.Start else next.Puts b) (ne_eqb b 37 h.0) in
    puts m reading.Plain b b (all_spelled ps) args t ∙ ap (λ o. Some (b ∷ []) ++? o) (prints-pieces m ps args h.1)
prints-pieces m (Percent ∷ ps) args h =
    moves m reading.Plain reading.Start 37 (37 ∷ all_spelled ps) args refl
    ∙ puts m reading.Start 37 37 (all_spelled ps) args refl ∙ ap (λ o. Some (37 ∷ []) ++? o) (prints-pieces m ps args h.1)
prints-pieces m (Number fs ds len l ∷ ps) args h =
    let rest = all_spelled ps in
    ap (λ format. printed m reading.Plain format args) (number-spelled fs ds len l rest)
    ∙ front m fs ds (length_bytes len ++ (number_code l ∷ rest)) args h.0.0 h.0.1 (number-no-flag len l rest)
    ∙ number-tail m (style_of fs ds) len l rest args
    ∙ same-rest m (style_of fs ds) (number_kind (size_of len) l) rest args (given m ps) (λ ws. prints-pieces m ps ws h.1)
prints-pieces m (Plain fs ds l ∷ ps) args h =
    let rest = all_spelled ps in
    ap (λ format. printed m reading.Plain format args) (plain-spelled fs ds l rest)
    ∙ front m fs ds (plain_code l ∷ rest) args h.0.0 h.0.2 (plain-no-flag l rest)
    ∙ converts m (reading.Width (style_of fs ds)) (plain_code l) rest args (style_of fs ds) (plain_kind l) (plain-width (style_of fs ds) l h.0.1)
    ∙ same-rest m (style_of fs ds) (plain_kind l) rest args (given m ps) (λ ws. prints-pieces m ps ws h.1)
