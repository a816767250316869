-- A format that prints anything is spelled by pieces.
use Rattle.std.proofs.Common.{◌≡◌, ◌⊎◌, ℕ, ◌+◌, ◌-◌, ◌*◌, ◌<◌, ◌≤◌, Bool, true, false, List, [], ◌∷◌, ◌++◌, length, Option, Some, None, refl, sym, ap, ap₂, ◌∙◌, subst, inl, inr, arith, append_assoc, length-append}
use Rattle.std.specs.Prelude.{◌==◌, ◌||◌, nat_le, if◌then◌else◌}
use Rattle.std.specs.Option.{option_map}
use Rattle.std.proofs.lemmas.Bool.{false≢true}
use Rattle.std.proofs.lemmas.List.{append-nil}
use Rattle.std.proofs.Math.Bool.{or-false}
use Rattle.lg_io.specs.declared.digits.Radix.TheVariants as radix
use Rattle.lg_host.specs.Runs.{Bytes}
use Rattle.lg_host.specs.Strings.{is_digit}
use Rattle.lg_host.specs.Formats.{number_letter, any_letter, without_zeros, at_length, at_width, at_flags, with_digit, plain_style, next_of}
use Rattle.lg_host.specs.Printed.{wrote, effect_of, followed_by, converted, printed}
use Rattle.lg_host.specs.Pieces.{Length, Int, Char, Short, Long, LongLong, length_bytes, NumberLetter, LowerD, LowerI, LowerU, LowerX, UpperX, LowerO, number_code, PlainLetter, LowerC, LowerS, LowerP, plain_code, Piece, Itself, Percent, Number, Plain, spelled, all_spelled, AreFlags, AreDigits, width_of, BeginsWithoutZero, IsWidth, has_flag, IsPiece, ArePieces, IsSpelledByPieces}
use Rattle.lg_host.specs.declared.format.Style.{Style}
use Rattle.lg_host.specs.declared.format.Size.{Size}
use Rattle.lg_host.specs.declared.format.Size.TheVariants as size
use Rattle.lg_host.specs.declared.format.Kind.{Kind}
use Rattle.lg_host.specs.declared.format.Kind.TheVariants as kind
use Rattle.lg_host.specs.declared.format.Reading.{Reading}
use Rattle.lg_host.specs.declared.format.Reading.TheVariants as reading
use Rattle.lg_host.specs.declared.format.Next.{Next}
use Rattle.lg_host.specs.declared.format.Next.TheVariants as next

-- ---- text that leads to a reading
-- a percent sign, flags and a width
record Opens (s : Style) (text : List ℕ) : Type 0 where
  flags : List ℕ
  digits : List ℕ
  are_flags : AreFlags flags
  is_width : IsWidth digits
  zero_is : s.zero ≡ has_flag 48 flags
  number_is : s.width ≡ width_of 0 digits
  is : text ≡ 37 ∷ (flags ++ digits)

abbrev Leads : Reading → List ℕ → Type 0
Leads reading.Plain text = text ≡ []
Leads reading.Start text = text ≡ 37 ∷ []
Leads (reading.Flags s) text = (o : Opens s text) × (o.digits ≡ [])
Leads (reading.Width s) text = (o : Opens s text) × (0 < length o.digits)
Leads (reading.Half s) text = (front : List ℕ) × Opens s front × (text ≡ front ++ 104 ∷ [])
Leads (reading.Longer s) text = (front : List ℕ) × Opens s front × (text ≡ front ++ 108 ∷ [])
Leads (reading.Sized s n) text = (front : List ℕ) × (len : Length) × (Opens s front × (text ≡ front ++ length_bytes len))

-- text that spells one piece
abbrev SpellsOne : List ℕ → Type 0
SpellsOne text = (p : Piece) × (IsPiece p × (text ≡ spelled p))

-- what text leads to or spells
abbrev After : Next → List ℕ → Type 0
After (next.Reads r) text = Leads r text
After (next.Puts c) text = SpellsOne text
After (next.Converts s k) text = SpellsOne text
After next.Wrong text = Unit {0}

after-if : (t : Bool) (x y : Next) (text : List ℕ) → (t ≡ true → After x text) → (t ≡ false → After y text) → After (if t then x else y) text
after-if true x y text h k = h refl
after-if false x y text h k = k refl

-- ---- letters
number-piece : (s : Style) (front text : List ℕ) (o : Opens s front) (len : Length) (l : NumberLetter) (b : ℕ) → text ≡ front ++ length_bytes len → b ≡ number_code l → SpellsOne (text ++ b ∷ [])
number-piece s front text o len l b e c = (
  Number o.flags o.digits len l,
  (
    (o.are_flags, o.is_width),
    ap₂ (λ x y. x ++ y ∷ []) (e ∙ ap (λ x. x ++ length_bytes len) o.is) c
        ∙ ap (λ x. 37 ∷ x) (append_assoc (o.flags ++ o.digits) (length_bytes len) (number_code l ∷ []) ∙ append_assoc o.flags o.digits (length_bytes len ++ number_code l ∷ [])),
  ),
)

number-after : (s : Style) (front text : List ℕ) (o : Opens s front) (len : Length) (n : Size) (b : ℕ) → text ≡ front ++ length_bytes len → After (number_letter s n b) (text ++ b ∷ [])
number-after s front text o len n b e =
    after-if (b == 100 || b == 105) (next.Converts s (kind.Signed n)) (if b == 117 then next.Converts s (kind.Unsigned radix.Decimal n) else if b == 120 then next.Converts s (kind.Unsigned radix.Hexadecimal n) else if b == 88 then next.Converts s (kind.Unsigned radix.UpperHexadecimal n) else if b == 111 then next.Converts s (kind.Unsigned radix.Octal n) else next.Wrong) (text ++ b ∷ [])
    (λ t. by (b == 100) (b == 105) refl refl t)
    (λ _. after-if (b == 117) (next.Converts s (kind.Unsigned radix.Decimal n)) (if b == 120 then next.Converts s (kind.Unsigned radix.Hexadecimal n) else if b == 88 then next.Converts s (kind.Unsigned radix.UpperHexadecimal n) else if b == 111 then next.Converts s (kind.Unsigned radix.Octal n) else next.Wrong) (text ++ b ∷ [])
    (λ t. number-piece s front text o len LowerU b e (grind arith))
    (λ _. after-if (b == 120) (next.Converts s (kind.Unsigned radix.Hexadecimal n)) (if b == 88 then next.Converts s (kind.Unsigned radix.UpperHexadecimal n) else if b == 111 then next.Converts s (kind.Unsigned radix.Octal n) else next.Wrong) (text ++ b ∷ [])
    (λ t. number-piece s front text o len LowerX b e (grind arith))
    (λ _. after-if (b == 88) (next.Converts s (kind.Unsigned radix.UpperHexadecimal n)) (if b == 111 then next.Converts s (kind.Unsigned radix.Octal n) else next.Wrong) (text ++ b ∷ [])
    (λ t. number-piece s front text o len UpperX b e (grind arith))
    (λ _. after-if (b == 111) (next.Converts s (kind.Unsigned radix.Octal n)) next.Wrong (text ++ b ∷ [])
    (λ t. number-piece s front text o len LowerO b e (grind arith))
    (λ _. tt)))))
  where
    by : (x y : Bool) → (b == 100) ≡ x → (b == 105) ≡ y → (x || y) ≡ true → SpellsOne (text ++ b ∷ [])
    by true y i j t = number-piece s front text o len LowerD b e (grind arith)
    by false true i j t = number-piece s front text o len LowerI b e (grind arith)
    by false false i j t = absurd (false≢true t)

plain-after : (s : Style) (front : List ℕ) (o : Opens s front) (k : Kind) (l : PlainLetter) (b : ℕ) → b ≡ plain_code l → After (without_zeros s k) (front ++ b ∷ [])
plain-after s front o k l b c = after-if s.zero next.Wrong (next.Converts s k) (front ++ b ∷ []) (λ _. tt)
    (λ z. (
      Plain o.flags o.digits l,
      (
        (o.are_flags, sym o.zero_is ∙ z, o.is_width),
        ap₂ (λ x y. x ++ y ∷ []) o.is c ∙ ap (λ x. 37 ∷ x) (append_assoc o.flags o.digits (plain_code l ∷ [])),
      ),
    ))

any-after : (s : Style) (front : List ℕ) (o : Opens s front) (b : ℕ) → After (any_letter s b) (front ++ b ∷ [])
any-after s front o b =
    after-if (b == 99) (without_zeros s kind.Character) (if b == 115 then without_zeros s kind.Text else if b == 112 then without_zeros s kind.Pointer else number_letter s size.Int b) (front ++ b ∷ [])
    (λ t. plain-after s front o kind.Character LowerC b (grind arith))
    (λ _. after-if (b == 115) (without_zeros s kind.Text) (if b == 112 then without_zeros s kind.Pointer else number_letter s size.Int b) (front ++ b ∷ [])
    (λ t. plain-after s front o kind.Text LowerS b (grind arith))
    (λ _. after-if (b == 112) (without_zeros s kind.Pointer) (number_letter s size.Int b) (front ++ b ∷ [])
    (λ t. plain-after s front o kind.Pointer LowerP b (grind arith))
    (λ _. number-after s front front o Int size.Int b (sym (append-nil front)))))

length-after : (s : Style) (front : List ℕ) (o : Opens s front) (b : ℕ) → After (at_length s b) (front ++ b ∷ [])
length-after s front o b =
    after-if (b == 104) (next.Reads (reading.Half s)) (if b == 108 then next.Reads (reading.Longer s) else any_letter s b) (front ++ b ∷ [])
    (λ t. let e : b ≡ 104 = grind arith in (front, o, ap (λ x. front ++ x ∷ []) e))
    (λ _. after-if (b == 108) (next.Reads (reading.Longer s)) (any_letter s b) (front ++ b ∷ [])
    (λ t. let e : b ≡ 108 = grind arith in (front, o, ap (λ x. front ++ x ∷ []) e))
    (λ _. any-after s front o b))

-- ---- the width
digits-more : (ds : List ℕ) (d : ℕ) → AreDigits ds → 48 ≤ d → d ≤ 57 → AreDigits (ds ++ d ∷ [])
digits-more [] d h lo hi = (lo, hi, tt)
digits-more (x ∷ xs) d h lo hi = (h.0, h.1, digits-more xs d h.2 lo hi)

width_of-more : (n : ℕ) (ds : List ℕ) (d : ℕ) → width_of n (ds ++ d ∷ []) ≡ width_of n ds * 10 + (d - 48)
width_of-more n [] d = refl
width_of-more n (x ∷ xs) d = width_of-more (n * 10 + (x - 48)) xs d

begins-more : (ds : List ℕ) (d : ℕ) → 0 < length ds → BeginsWithoutZero ds → BeginsWithoutZero (ds ++ d ∷ [])
begins-more [] d lt h = absurd (omega arith)
begins-more (x ∷ xs) d lt h = h

digit-opens : (s : Style) (front : List ℕ) (o : Opens s front) (b : ℕ) → BeginsWithoutZero (o.digits ++ b ∷ []) → is_digit b ≡ true → s.width * 10 + (b - 48) ≤ 4095 → Leads (reading.Width (with_digit s b)) (front ++ b ∷ [])
digit-opens s front o b begins t le =
    let more = width_of-more 0 o.digits b in
    let lo : 48 ≤ b = grind arith in
    let hi : b ≤ 57 = grind arith in
    let n : s.width * 10 + (b - 48) ≡ width_of 0 (o.digits ++ b ∷ []) = ap (λ w. w * 10 + (b - 48)) o.number_is ∙ sym more in (
      record {
        flags = o.flags;
        digits = o.digits ++ b ∷ [];
        are_flags = o.are_flags;
        is_width = record { digits_are = digits-more o.digits b o.is_width.digits_are lo hi; begins = begins; bound = omega (arith, n, le) };
        zero_is = o.zero_is;
        number_is = n;
        is = ap (λ x. x ++ b ∷ []) o.is ∙ ap (λ x. 37 ∷ x) (append_assoc o.flags o.digits (b ∷ []));
      },
      omega (arith, length-append o.digits (b ∷ [])),
    )

width-after : (s : Style) (front : List ℕ) (o : Opens s front) (b : ℕ) → BeginsWithoutZero (o.digits ++ b ∷ []) → After (at_width s b) (front ++ b ∷ [])
width-after s front o b begins =
    after-if (is_digit b) (if nat_le (s.width * 10 + (b - 48)) 4095 then next.Reads (reading.Width (with_digit s b)) else next.Wrong) (at_length s b) (front ++ b ∷ [])
    (λ t. after-if (nat_le (s.width * 10 + (b - 48)) 4095) (next.Reads (reading.Width (with_digit s b))) next.Wrong (front ++ b ∷ [])
    (λ u. digit-opens s front o b begins t (grind arith))
    (λ _. tt))
    (λ _. length-after s front o b)

-- ---- flags
flags-more : (fs : List ℕ) (f : ℕ) → AreFlags fs → (f ≡ 45) ⊎ (f ≡ 48) → AreFlags (fs ++ f ∷ [])
flags-more [] f h k = (k, tt)
flags-more (x ∷ xs) f h k = (h.0, flags-more xs f h.1 k)

has_flag-more : (flag : ℕ) (fs : List ℕ) (f : ℕ) → has_flag flag (fs ++ f ∷ []) ≡ (has_flag flag fs || f == flag)
has_flag-more flag [] f = or-false (f == flag)
has_flag-more flag (x ∷ xs) f = ap (λ t. x == flag || t) (has_flag-more flag xs f) ∙ or-assoc (x == flag) (has_flag flag xs) (f == flag)
  where
    or-assoc : (a b c : Bool) → (a || (b || c)) ≡ ((a || b) || c)
    or-assoc true b c = refl
    or-assoc false b c = refl

flag-opens : (s t : Style) (text : List ℕ) (o : Opens s text) (f : ℕ) → o.digits ≡ [] → (f ≡ 45) ⊎ (f ≡ 48) → t.zero ≡ has_flag 48 (o.flags ++ f ∷ []) → t.width ≡ s.width → Leads (reading.Flags t) (text ++ f ∷ [])
flag-opens s t text o f none k z w = (
  record {
    flags = o.flags ++ f ∷ [];
    digits = [];
    are_flags = flags-more o.flags f o.are_flags k;
    is_width = record { digits_are = tt; begins = tt; bound = omega arith };
    zero_is = z;
    number_is = w ∙ o.number_is ∙ ap (width_of 0) none;
    is = ap (λ x. x ++ f ∷ []) o.is ∙ ap (λ x. 37 ∷ x) (ap (λ ds. (o.flags ++ ds) ++ f ∷ []) none ∙ ap (λ x. x ++ f ∷ []) (append-nil o.flags) ∙ sym (append-nil (o.flags ++ f ∷ [])));
  },
  refl,
)

flags-after : (s : Style) (text : List ℕ) (o : Opens s text) (b : ℕ) → o.digits ≡ [] → After (at_flags s b) (text ++ b ∷ [])
flags-after s text o b none =
    let left : Style = record { left = true; zero = s.zero; width = s.width } in
    let zeros : Style = record { left = s.left; zero = true; width = s.width } in
    after-if (b == 45) (next.Reads (reading.Flags left)) (if b == 48 then next.Reads (reading.Flags zeros) else at_width s b) (text ++ b ∷ [])
    (λ t. let e : b ≡ 45 = grind arith in flag-opens s left text o b none (inl e) (o.zero_is ∙ sym (or-false (has_flag 48 o.flags)) ∙ ap (λ x. has_flag 48 o.flags || x == 48) (sym e) ∙ sym (has_flag-more 48 o.flags b)) refl)
    (λ u. after-if (b == 48) (next.Reads (reading.Flags zeros)) (at_width s b) (text ++ b ∷ [])
    (λ t. let e : b ≡ 48 = grind arith in flag-opens s zeros text o b none (inr e) (or-yes (has_flag 48 o.flags) ∙ ap (λ x. has_flag 48 o.flags || x == 48) (sym e) ∙ sym (has_flag-more 48 o.flags b)) refl)
    (λ t. let ne : b ≡ 48 → ⊥ = grind arith in width-after s text o b (subst (λ ds. BeginsWithoutZero (ds ++ b ∷ [])) (sym none) ne)))
  where
    or-yes : (x : Bool) → true ≡ (x || true)
    or-yes true = refl
    or-yes false = refl

-- ---- one byte more
leads-step : (r : Reading) (b : ℕ) (text : List ℕ) → Leads r text → After (next_of r b) (text ++ b ∷ [])
leads-step reading.Plain b text h = after-if (b == 37) (next.Reads reading.Start) (next.Puts b) (text ++ b ∷ [])
    (λ t. let e : b ≡ 37 = grind arith in ap₂ (λ x y. x ++ y ∷ []) h e)
    (λ t. let ne : b ≡ 37 → ⊥ = grind arith in (Itself b, (ne, ap (λ x. x ++ b ∷ []) h)))
leads-step reading.Start b text h = after-if (b == 37) (next.Puts 37) (at_flags plain_style b) (text ++ b ∷ [])
    (λ t. let e : b ≡ 37 = grind arith in (Percent, (tt, ap₂ (λ x y. x ++ y ∷ []) h e)))
    (λ _. flags-after plain_style text record { flags = []; digits = []; are_flags = tt; is_width = record { digits_are = tt; begins = tt; bound = omega arith }; zero_is = refl; number_is = refl; is = h } b refl)
leads-step (reading.Flags s) b text h = flags-after s text h.0 b h.1
leads-step (reading.Width s) b text h = width-after s text h.0 b (begins-more h.0.digits b h.1 h.0.is_width.begins)
leads-step (reading.Half s) b text h = after-if (b == 104) (next.Reads (reading.Sized s size.Byte)) (number_letter s size.Short b) (text ++ b ∷ [])
    (λ t. let e : b ≡ 104 = grind arith in (h.0, Char, (h.1, ap₂ (λ x y. x ++ y ∷ []) h.2 e ∙ append_assoc h.0 (104 ∷ []) (104 ∷ []))))
    (λ _. number-after s h.0 text h.1 Short size.Short b h.2)
leads-step (reading.Longer s) b text h = after-if (b == 108) (next.Reads (reading.Sized s size.Long)) (number_letter s size.Long b) (text ++ b ∷ [])
    (λ t. let e : b ≡ 108 = grind arith in (h.0, LongLong, (h.1, ap₂ (λ x y. x ++ y ∷ []) h.2 e ∙ append_assoc h.0 (108 ∷ []) (108 ∷ []))))
    (λ _. number-after s h.0 text h.1 Long size.Long b h.2)
leads-step (reading.Sized s n) b text h = number-after s h.0 text h.2.0 h.1 n b h.2.1

-- ---- the whole format
map-some : (f : List ℕ → List ℕ) (o : Option (List ℕ)) (y : List ℕ) → option_map f o ≡ Some y → (x : List ℕ) × (o ≡ Some x)
map-some f None y e = let no : ⊥ = cc in absurd no
map-some f (Some x) y e = (x, refl)

abbrev IsSpelled : List ℕ → Type 0
IsSpelled text = (ps : List Piece) × (ArePieces ps × (text ≡ all_spelled ps))

-- one piece, and then others
one-more : (text bs : List ℕ) (b : ℕ) → SpellsOne (text ++ b ∷ []) → IsSpelled bs → IsSpelled (text ++ b ∷ bs)
one-more text bs b p q = (p.0 ∷ q.0, ((p.1.0, q.1.0), sym (append_assoc text (b ∷ []) bs) ∙ ap₂ (λ x y. x ++ y) p.1.1 q.1.1))

spelled-by : (m : Bytes) (r : Reading) (format args bytes text : List ℕ) → Leads r text → printed m r format args ≡ Some bytes → IsSpelled (text ++ format)
spelled-by m reading.Plain [] args bytes text h e = ([], (tt, ap (λ x. x ++ []) h))
spelled-by m r (b ∷ bs) args bytes text h e = by (next_of r b) args (λ r' ws x u. spelled-by m r' bs ws x u) (leads-step r b text h) e
  where
    by : (n : Next) (args : List ℕ) → ((r' : Reading) (ws x u : List ℕ) → Leads r' u → printed m r' bs ws ≡ Some x → IsSpelled (u ++ bs)) → After n (text ++ b ∷ []) → followed_by (effect_of m n args) (λ e. printed m e.reading bs e.left) ≡ Some bytes → IsSpelled (text ++ b ∷ bs)
    by (next.Reads r') args ih a e = let x = map-some (λ bytes. [] ++ bytes) (printed m r' bs args) bytes e in subst IsSpelled (append_assoc text (b ∷ []) bs) (ih r' args x.0 (text ++ b ∷ []) a x.1)
    by (next.Puts c) args ih a e = let x = map-some (λ bytes. (c ∷ []) ++ bytes) (printed m reading.Plain bs args) bytes e in one-more text bs b a (ih reading.Plain args x.0 [] refl x.1)
    by (next.Converts s k) [] ih a e = let no : ⊥ = cc in absurd no
    by (next.Converts s k) (w ∷ ws) ih a e = behind (converted m s k w) e
      where
        behind : (o : Option (List ℕ)) → followed_by (option_map (λ bytes. wrote bytes ws) o) (λ e. printed m e.reading bs e.left) ≡ Some bytes → IsSpelled (text ++ b ∷ bs)
        behind None e = let no : ⊥ = cc in absurd no
        behind (Some front) e = let x = map-some (λ bytes. front ++ bytes) (printed m reading.Plain bs ws) bytes e in one-more text bs b a (ih reading.Plain ws x.0 [] refl x.1)
    by next.Wrong args ih a e = let no : ⊥ = cc in absurd no
spelled-by m _ [] args bytes text h e = let no : ⊥ = cc in absurd no

pub spelled-by-pieces : IsSpelledByPieces
spelled-by-pieces m format args bytes e = let q = spelled-by m reading.Plain format args bytes [] refl e in (q.0, q.1.0, q.1.1)
