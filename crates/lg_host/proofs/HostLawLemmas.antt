-- What holds of every host function: a larger memory changes nothing, and what may be answered and changed.
use Rattle.std.proofs.Common.{◌≡◌, ℕ, zero, suc, ◌+◌, ◌-◌, ◌*◌, ◌%◌, ◌^◌, ◌<◌, ◌≤◌, Bool, true, false, List, [], ◌∷◌, ◌++◌, length, drop, Option, Some, None, refl, sym, ap, ap₂, ◌∙◌, inl, inr, arith, length-append}
use Rattle.std.specs.Prelude.{◌==◌, nat_lt, nat_le, ◌&&◌, not, IfSome, slice_index, if◌then◌else◌}
use Rattle.std.specs.Option.{option_map}
use Rattle.std.proofs.lemmas.Bool.{and_parts}
use Rattle.lg_base.specs.Spaces.{mapped}
use Rattle.lg_base.specs.declared.host_name.HostName.{HostName}
use Rattle.lg_base.specs.declared.host_name.HostName.TheVariants as host
use Rattle.lg_host.specs.Runs.{Bytes, address_end, before, run_of, run}
use Rattle.lg_host.specs.Strings.{string_in, compared, is_space, is_digit, int_word, number_in, signed_in, atoi_in}
use Rattle.lg_host.specs.Blocks.{Changes, unchanged, in_range, copied, filled, can_write, is_addressed, overlaps}
use Rattle.lg_host.specs.Printed.{printed_at}
use Rattle.lg_host.specs.Host.{Mem, Host, Gives, Undefined, int_answer, answered, text, heap_end, rounded, fits, malloc, calloc, memset, memcpy, named, table, host_of}
use Rattle.lg_host.specs.HostLaws.{Extends, IsLarger, IsDefined, IsKept, OnGives, IsAllowed, AnswersAllowed}
use Rattle.lg_host.proofs.BlockLemmas.{can_write-at}
use Rattle.lg_host.proofs.LargerLemmas.{run-begins, string-extends, compared-extends, atoi-extends, printed_at-extends, mapped-extends, can_write-extends, copied-extends, Extends-map}
use Rattle.lg_host.specs.declared.format.Reading.TheVariants as reading

-- ---- a larger memory changes nothing
text-kept : (k k' : ℕ) (o o' : Option (List ℕ)) → k' ≡ k → Extends o o' → IsDefined (text k o) → text k' o' ≡ text k o
text-kept k k' None o' e h d = absurd d
text-kept k k' (Some bytes) o' e h d = ap₂ text e h

answered-kept : (k k' : ℕ) (o o' : Option ℕ) → k' ≡ k → Extends o o' → IsDefined (answered k o) → answered k' o' ≡ answered k o
answered-kept k k' None o' e h d = absurd d
answered-kept k k' (Some v) o' e h d = ap₂ answered e h

memset-kept : (m m' : Mem) (to w n : ℕ) → IsLarger m m' → IsDefined (memset m to w n) → memset m' to w n ≡ memset m to w n
memset-kept m m' to w n l d = by (n == 0) (is_addressed to n && can_write m.room to n) refl refl d
  where
    by : (t c : Bool) → (n == 0) ≡ t → (is_addressed to n && can_write m.room to n) ≡ c → IsDefined (if t then Gives to unchanged m.mark [] else if c then Gives to (filled to (w % 256) n) m.mark [] else Undefined) → memset m' to w n ≡ memset m to w n
    by true c e f d = rw e (ap (λ k. Gives to unchanged k []) l.mark)
    by false true e f d =
        let p = and_parts (is_addressed to n) (can_write m.room to n) f in
        let g : (is_addressed to n && can_write m'.room to n) ≡ true = ap₂ (λ x y. x && y) p.0 (can_write-extends m.room m'.room to n l.room p.1) in
        rw (e, f, g) (ap (λ k. Gives to (filled to (w % 256) n) k []) l.mark)
    by false false e f d = absurd d

abbrev can_copy : Mem → ℕ → ℕ → ℕ → Bool
can_copy m to from n = is_addressed to n && is_addressed from n && not (overlaps to from n) && mapped m.bytes from n && can_write m.room to n

memcpy-kept : (m m' : Mem) (to from n : ℕ) → IsLarger m m' → IsDefined (memcpy m to from n) → memcpy m' to from n ≡ memcpy m to from n
memcpy-kept m m' to from n l d = by (n == 0) (can_copy m to from n) refl refl d
  where
    by : (t c : Bool) → (n == 0) ≡ t → can_copy m to from n ≡ c → IsDefined (if t then Gives to unchanged m.mark [] else if c then Gives to (copied m.bytes to from n) m.mark [] else Undefined) → memcpy m' to from n ≡ memcpy m to from n
    by true c e f d = rw e (ap (λ k. Gives to unchanged k []) l.mark)
    by false true e f d =
        let head = is_addressed to n && is_addressed from n && not (overlaps to from n) in
        let p = and_parts (head && mapped m.bytes from n) (can_write m.room to n) f in
        let q = and_parts head (mapped m.bytes from n) p.0 in
        let g : can_copy m' to from n ≡ true = ap₂ (λ x y. x && y) (ap₂ (λ x y. x && y) q.0 (mapped-extends m.bytes m'.bytes from n l.bytes q.1)) (can_write-extends m.room m'.room to n l.room p.1) in
        rw (e, f, g) (ap₂ (λ c k. Gives to c k []) (copied-extends m.bytes m'.bytes to from n l.bytes q.1) l.mark)
    by false false e f d = absurd d

table-kept : (name : HostName) (args more : List ℕ) (v : Bool) (m m' : Mem) → IsLarger m m' → named name ≤ length args → IsDefined (table name (slice_index args 0) (slice_index args 1) (slice_index args 2) args v m) → table name (slice_index (args ++ more) 0) (slice_index (args ++ more) 1) (slice_index (args ++ more) 2) (args ++ more) true m' ≡ table name (slice_index args 0) (slice_index args 1) (slice_index args 2) args v m
table-kept host.Printf (a ∷ ws) more false m m' l n d = absurd d
table-kept host.Printf (a ∷ ws) more true m m' l n d = text-kept m.mark m'.mark (printed_at m.bytes reading.Plain a ws) (printed_at m'.bytes reading.Plain a (ws ++ more)) l.mark (printed_at-extends m.bytes m'.bytes reading.Plain a ws more l.bytes) d
table-kept host.Puts (a ∷ ws) more v m m' l n d = text-kept m.mark m'.mark (option_map (λ string. string ++ 10 ∷ []) (string_in (run m.bytes a))) (option_map (λ string. string ++ 10 ∷ []) (string_in (run m'.bytes a))) l.mark (Extends-map (λ string. string ++ 10 ∷ []) (string_in (run m.bytes a)) (string_in (run m'.bytes a)) (string-extends (run m.bytes a) (run m'.bytes a) (run-begins m.bytes m'.bytes a l.bytes))) d
table-kept host.Putchar (a ∷ ws) more v m m' l n d = ap (λ k. Gives (a % 256) unchanged k (a % 256 ∷ [])) l.mark
table-kept host.Exit (a ∷ ws) more v m m' l n d = refl
table-kept host.Abort ws more v m m' l n d = refl
table-kept host.Atoi (a ∷ ws) more v m m' l n d = answered-kept m.mark m'.mark (atoi_in (run m.bytes a)) (atoi_in (run m'.bytes a)) l.mark (atoi-extends (run m.bytes a) (run m'.bytes a) (run-begins m.bytes m'.bytes a l.bytes)) d
table-kept host.Malloc (a ∷ ws) more v m m' l n d = ap (λ k. malloc k a) l.mark
table-kept host.Calloc (a ∷ b ∷ ws) more v m m' l n d = ap (λ k. calloc k (a * b)) l.mark
table-kept host.Free ws more v m m' l n d = ap (λ k. Gives 0 unchanged k []) l.mark
table-kept host.Memcpy (a ∷ b ∷ c ∷ ws) more v m m' l n d = memcpy-kept m m' a b c l d
table-kept host.Memset (a ∷ b ∷ c ∷ ws) more v m m' l n d = memset-kept m m' a b c l d
table-kept host.Strlen (a ∷ ws) more v m m' l n d = answered-kept m.mark m'.mark (option_map length (string_in (run m.bytes a))) (option_map length (string_in (run m'.bytes a))) l.mark (Extends-map length (string_in (run m.bytes a)) (string_in (run m'.bytes a)) (string-extends (run m.bytes a) (run m'.bytes a) (run-begins m.bytes m'.bytes a l.bytes))) d
table-kept host.Strcmp (a ∷ b ∷ ws) more v m m' l n d = answered-kept m.mark m'.mark (compared (run m.bytes a) (run m.bytes b)) (compared (run m'.bytes a) (run m'.bytes b)) l.mark (compared-extends (run m.bytes a) (run m.bytes b) (run m'.bytes a) (run m'.bytes b) (run-begins m.bytes m'.bytes a l.bytes) (run-begins m.bytes m'.bytes b l.bytes)) d
table-kept _ _ more v m m' l n d = absurd (omega arith)

pub host_of-kept : IsKept
host_of-kept name args more v m m' l d = by (nat_lt (length args) (named name)) refl d
  where
    by : (t : Bool) → nat_lt (length args) (named name) ≡ t → IsDefined (if t then Undefined else table name (slice_index args 0) (slice_index args 1) (slice_index args 2) args v m) → host_of name (args ++ more) true m' ≡ host_of name args v m
    by true e d = absurd d
    by false e d =
        let n : named name ≤ length args = grind arith in
        let f : nat_lt (length (args ++ more)) (named name) ≡ false = let k = length-append args more in grind arith in
        rw (e, f) (table-kept name args more v m m' l n d)

-- ---- what may be answered and changed
on-if : (t : Bool) (x y : Host) (P : ℕ → Changes → ℕ → List ℕ → Type 0) → (t ≡ true → OnGives x P) → (t ≡ false → OnGives y P) → OnGives (if t then x else y) P
on-if true x y P h k = h refl
on-if false x y P h k = k refl

unchanged-allowed : (m : Mem) (v : ℕ) (bytes : List ℕ) → v < 2 ^ 64 → m.mark ≤ heap_end → IsAllowed m v unchanged m.mark bytes
unchanged-allowed m v bytes lt le = record { word = lt; written = λ a b e. let no : ⊥ = cc in absurd no; rises = omega arith; within = le }

int_answer-lt : (n : ℕ) → int_answer n < 2 ^ 64
int_answer-lt n = grind arith

text-allowed : (m : Mem) (o : Option (List ℕ)) → m.mark ≤ heap_end → OnGives (text m.mark o) (IsAllowed m)
text-allowed m None le = tt
text-allowed m (Some bytes) le = unchanged-allowed m (int_answer (length bytes)) bytes (int_answer-lt (length bytes)) le

answered-allowed : (m : Mem) (o : Option ℕ) → IfSome o (λ v. v < 2 ^ 64) → m.mark ≤ heap_end → OnGives (answered m.mark o) (IsAllowed m)
answered-allowed m None h le = tt
answered-allowed m (Some v) h le = unchanged-allowed m v [] h le

-- ---- answers of strings
int_word-lt : (negative : Bool) (n : ℕ) → IfSome (int_word negative n) (λ v. v < 2 ^ 64)
int_word-lt true n = by (nat_le n (2 ^ 31)) (n == 0) refl
  where
    by : (t z : Bool) → (n == 0) ≡ z → IfSome (if t then Some (if z then 0 else 2 ^ 64 - n) else None) (λ v. v < 2 ^ 64)
    by true true e = omega arith
    by true false e = let ne : n ≡ 0 → ⊥ = grind arith in omega arith
    by false z e = tt
int_word-lt false n = by (nat_lt n (2 ^ 31)) refl
  where
    by : (t : Bool) → nat_lt n (2 ^ 31) ≡ t → IfSome (if t then Some n else None) (λ v. v < 2 ^ 64)
    by true e = grind arith
    by false e = tt

if-lt : (t : Bool) (x y : Option ℕ) → IfSome x (λ v. v < 2 ^ 64) → IfSome y (λ v. v < 2 ^ 64) → IfSome (if t then x else y) (λ v. v < 2 ^ 64)
if-lt true x y h k = h
if-lt false x y h k = k

number-lt : (negative : Bool) (n : ℕ) (bs : List ℕ) → IfSome (number_in negative n bs) (λ v. v < 2 ^ 64)
number-lt negative n [] = tt
number-lt negative n (b ∷ bs) = if-lt (is_digit b) (number_in negative (n * 10 + (b - 48)) bs) (int_word negative n) (number-lt negative (n * 10 + (b - 48)) bs) (int_word-lt negative n)

atoi-lt : (bs : List ℕ) → IfSome (atoi_in bs) (λ v. v < 2 ^ 64)
atoi-lt [] = tt
atoi-lt (b ∷ bs) =
    if-lt (is_space b) (atoi_in bs) (signed_in (b ∷ bs)) (atoi-lt bs)
    (if-lt (b == 45) (number_in true 0 bs) (if b == 43 then number_in false 0 bs else number_in false 0 (b ∷ bs)) (number-lt true 0 bs)
    (if-lt (b == 43) (number_in false 0 bs) (number_in false 0 (b ∷ bs)) (number-lt false 0 bs) (number-lt false 0 (b ∷ bs))))

compared-lt : (xs ys : List ℕ) → IfSome (compared xs ys) (λ v. v < 2 ^ 64)
compared-lt [] ys = tt
compared-lt (x ∷ xs) [] = tt
compared-lt (x ∷ xs) (y ∷ ys) =
    if-lt (nat_lt x y) (Some (2 ^ 64 - 1)) (if nat_lt y x then Some 1 else if x == 0 then Some 0 else compared xs ys) (omega arith)
    (if-lt (nat_lt y x) (Some 1) (if x == 0 then Some 0 else compared xs ys) (omega arith)
    (if-lt (x == 0) (Some 0) (compared xs ys) (omega arith) (compared-lt xs ys)))

run_of-length : (n : ℕ) (m : Bytes) (a : ℕ) → length (run_of n m a) ≤ n
unfolding run_of
run_of-length zero m a = omega arith
run_of-length (suc n) m a = by (m a) (run_of n m (a + 1)) (run_of-length n m (a + 1))
  where
    by : (o : Option ℕ) (bs : List ℕ) → length bs ≤ n → length (before o bs) ≤ suc n
    by None bs le = omega arith
    by (Some b) bs le = omega arith

string-length : (bs : List ℕ) → IfSome (string_in bs) (λ s. length s < length bs)
string-length [] = tt
string-length (b ∷ bs) = by (b == 0) (string_in bs) (string-length bs)
  where
    by : (t : Bool) (o : Option (List ℕ)) → IfSome o (λ s. length s < length bs) → IfSome (if t then Some [] else option_map (λ string. b ∷ string) o) (λ s. length s < length (b ∷ bs))
    by true o h = omega arith
    by false None h = tt
    by false (Some s) h = omega arith

strlen-lt : (m : Bytes) (a : ℕ) → IfSome (option_map length (string_in (run m a))) (λ v. v < 2 ^ 64)
strlen-lt m a = by (string_in (run m a)) (string-length (run m a)) (run_of-length (address_end - a) m a)
  where
    by : (o : Option (List ℕ)) → IfSome o (λ s. length s < length (run m a)) → length (run m a) ≤ address_end - a → IfSome (option_map length o) (λ v. v < 2 ^ 64)
    by None h k = tt
    by (Some s) h k = omega arith

-- ---- ranges
filled-there : (to byte n a b : ℕ) → filled to byte n a ≡ Some b → (b ≡ byte) × (to ≤ a) × (a < to + n)
filled-there to byte n a b e = by (in_range to n a) refl e
  where
    by : (t : Bool) → in_range to n a ≡ t → (if t then Some byte else None) ≡ Some b → (b ≡ byte) × (to ≤ a) × (a < to + n)
    by true is e = (cc, grind arith, grind arith)
    by false is e = let no : ⊥ = cc in absurd no

copied-there : (m : Bytes) (to from n a b : ℕ) → copied m to from n a ≡ Some b → (m (from + (a - to)) ≡ Some b) × (to ≤ a) × (a < to + n)
copied-there m to from n a b e = by (in_range to n a) refl e
  where
    by : (t : Bool) → in_range to n a ≡ t → (if t then m (from + (a - to)) else None) ≡ Some b → (m (from + (a - to)) ≡ Some b) × (to ≤ a) × (a < to + n)
    by true is e = (e, grind arith, grind arith)
    by false is e = let no : ⊥ = cc in absurd no

can_write-there : (w : ℕ → Bool) (to n a : ℕ) → can_write w to n ≡ true → to ≤ a → a < to + n → w a ≡ true
can_write-there w to n a h lo hi = let k : to + (a - to) ≡ a = omega arith in sym (ap w k) ∙ can_write-at w to n (a - to) h (omega arith)

-- ---- the functions on memory
malloc-allowed : (m : Mem) (size : ℕ) → m.mark ≤ heap_end → OnGives (malloc m.mark size) (IsAllowed m)
malloc-allowed m size le = on-if (fits m.mark size) (Gives m.mark unchanged (m.mark + rounded size) []) (Gives 0 unchanged m.mark []) (IsAllowed m)
    (λ e. record { word = omega arith; written = λ a b is. let no : ⊥ = cc in absurd no; rises = omega arith; within = grind arith })
    (λ e. unchanged-allowed m 0 [] (omega arith) le)

rounded-le : (size : ℕ) → size ≤ rounded size
rounded-le size = grind arith

calloc-allowed : (m : Mem) (size : ℕ) → m.mark ≤ heap_end → OnGives (calloc m.mark size) (IsAllowed m)
calloc-allowed m size le = on-if (fits m.mark size) (Gives m.mark (filled m.mark 0 size) (m.mark + rounded size) []) (Gives 0 unchanged m.mark []) (IsAllowed m)
    (λ e. record { word = omega arith; written = λ a b is. let t = filled-there m.mark 0 size a b is in let r = rounded-le size in (omega (arith, t.0), inr (t.1, omega (arith, t.2, r))); rises = omega arith; within = grind arith })
    (λ e. unchanged-allowed m 0 [] (omega arith) le)

memset-allowed : (m : Mem) (to w n : ℕ) → to < 2 ^ 64 → m.mark ≤ heap_end → OnGives (memset m to w n) (IsAllowed m)
memset-allowed m to w n lt le = on-if (n == 0) (Gives to unchanged m.mark []) (if is_addressed to n && can_write m.room to n then Gives to (filled to (w % 256) n) m.mark [] else Undefined) (IsAllowed m)
    (λ e. unchanged-allowed m to [] lt le)
    (λ e. on-if (is_addressed to n && can_write m.room to n) (Gives to (filled to (w % 256) n) m.mark []) Undefined (IsAllowed m)
    (λ c. let p = and_parts (is_addressed to n) (can_write m.room to n) c in record { word = lt; written = λ a b is. let t = filled-there to (w % 256) n a b is in (omega (arith, t.0), inl (can_write-there m.room to n a p.1 t.1 t.2)); rises = omega arith; within = le })
    (λ c. tt))

memcpy-allowed : (m : Mem) (to from n : ℕ) → ((a b : ℕ) → m.bytes a ≡ Some b → b < 256) → to < 2 ^ 64 → m.mark ≤ heap_end → OnGives (memcpy m to from n) (IsAllowed m)
memcpy-allowed m to from n bytes lt le = on-if (n == 0) (Gives to unchanged m.mark []) (if can_copy m to from n then Gives to (copied m.bytes to from n) m.mark [] else Undefined) (IsAllowed m)
    (λ e. unchanged-allowed m to [] lt le)
    (λ e. on-if (can_copy m to from n) (Gives to (copied m.bytes to from n) m.mark []) Undefined (IsAllowed m)
    (λ c. let p = and_parts (is_addressed to n && is_addressed from n && not (overlaps to from n) && mapped m.bytes from n) (can_write m.room to n) c in record { word = lt; written = λ a b is. let t = copied-there m.bytes to from n a b is in (bytes (from + (a - to)) b t.0, inl (can_write-there m.room to n a p.1 t.1 t.2)); rises = omega arith; within = le })
    (λ c. tt))

table-allowed : (name : HostName) (a b c : ℕ) (args : List ℕ) (v : Bool) (m : Mem) → a < 2 ^ 64 → ((a b : ℕ) → m.bytes a ≡ Some b → b < 256) → m.mark ≤ heap_end → OnGives (table name a b c args v m) (IsAllowed m)
table-allowed host.Printf a b c args true m lt bytes le = text-allowed m (printed_at m.bytes reading.Plain a (drop 1 args)) le
table-allowed host.Puts a b c args v m lt bytes le = text-allowed m (option_map (λ string. string ++ 10 ∷ []) (string_in (run m.bytes a))) le
table-allowed host.Putchar a b c args v m lt bytes le = unchanged-allowed m (a % 256) (a % 256 ∷ []) (omega arith) le
table-allowed host.Atoi a b c args v m lt bytes le = answered-allowed m (atoi_in (run m.bytes a)) (atoi-lt (run m.bytes a)) le
table-allowed host.Malloc a b c args v m lt bytes le = malloc-allowed m a le
table-allowed host.Calloc a b c args v m lt bytes le = calloc-allowed m (a * b) le
table-allowed host.Free a b c args v m lt bytes le = unchanged-allowed m 0 [] (omega arith) le
table-allowed host.Memcpy a b c args v m lt bytes le = memcpy-allowed m a b c bytes lt le
table-allowed host.Memset a b c args v m lt bytes le = memset-allowed m a b c lt le
table-allowed host.Strlen a b c args v m lt bytes le = answered-allowed m (option_map length (string_in (run m.bytes a))) (strlen-lt m.bytes a) le
table-allowed host.Strcmp a b c args v m lt bytes le = answered-allowed m (compared (run m.bytes a) (run m.bytes b)) (compared-lt (run m.bytes a) (run m.bytes b)) le
table-allowed _ a b c args _ m lt bytes le = tt

pub host_of-allowed : AnswersAllowed
host_of-allowed name args v m s = on-if (nat_lt (length args) (named name)) Undefined (table name (slice_index args 0) (slice_index args 1) (slice_index args 2) args v m) (IsAllowed m)
    (λ e. tt)
    (λ e. table-allowed name (slice_index args 0) (slice_index args 1) (slice_index args 2) args v m (s.words 0) s.bytes s.mark)
