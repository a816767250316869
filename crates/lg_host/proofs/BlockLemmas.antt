-- Ranges of bytes: whether all can be read or written, and one more byte that is copied or set.
use Rattle.std.proofs.Common.{◌≡◌, ℕ, zero, suc, ◌+◌, ◌-◌, ◌<◌, ◌≤◌, Bool, true, false, Option, Some, None, refl, sym, ap, ◌∙◌, ⊎_elim, arith}
use Rattle.std.specs.Prelude.{◌==◌, ◌&&◌, is_some, unwrap_or, if◌then◌else◌}
use Rattle.std.proofs.lemmas.Bool.{cases_eq, ne_eqb, false≢true, or_right, and_parts}
use mathlib.Core.Path.{fun_ext}
use Rattle.lg_base.specs.Spaces.{put_some, mapped, in_heap, raised}
use Rattle.lg_base.proofs.SpaceLemmas.{mapped-each, put_some_same}
use Rattle.lg_host.specs.Runs.{Bytes}
use Rattle.lg_host.specs.Blocks.{unchanged, over, in_range, copied, filled, can_write, overlaps}
use Rattle.lg_host.specs.Host.{rounded}

-- ---- whether all can be read or written
mapped-suc : (m : Bytes) (a n k : ℕ) → n ≡ suc k → mapped m a n ≡ (is_some (m a) && mapped m (a + 1) k)
unfolding mapped
mapped-suc m a n k e = rw e

mapped-zero : (m : Bytes) (a n : ℕ) → n ≡ 0 → mapped m a n ≡ true
unfolding mapped
mapped-zero m a n e = rw e

can_write-suc : (w : ℕ → Bool) (a n k : ℕ) → n ≡ suc k → can_write w a n ≡ (w a && can_write w (a + 1) k)
unfolding can_write
can_write-suc w a n k e = rw e

can_write-zero : (w : ℕ → Bool) (a n : ℕ) → n ≡ 0 → can_write w a n ≡ true
unfolding can_write
can_write-zero w a n e = rw e

pub mapped-end : (m : Bytes) (a n i : ℕ) → n ≤ i → mapped m a (n - i) ≡ true
mapped-end m a n i le = mapped-zero m a (n - i) (omega arith)

pub mapped-none : (m : Bytes) (a n i : ℕ) → i < n → None ≡ m (a + i) → mapped m (a + i) (n - i) ≡ false
mapped-none m a n i lt is = mapped-suc m (a + i) (n - i) (n - (i + 1)) (omega arith) ∙ ap (λ o. is_some o && mapped m (a + i + 1) (n - (i + 1))) (sym is)

pub mapped-some : (m : Bytes) (a n i b : ℕ) → i < n → Some b ≡ m (a + i) → mapped m (a + i) (n - i) ≡ mapped m (a + (i + 1)) (n - (i + 1))
mapped-some m a n i b lt is =
    let e : a + i + 1 ≡ a + (i + 1) = omega arith in
    mapped-suc m (a + i) (n - i) (n - (i + 1)) (omega arith) ∙ ap (λ o. is_some o && mapped m (a + i + 1) (n - (i + 1))) (sym is) ∙ ap (λ x. mapped m x (n - (i + 1))) e

pub can_write-end : (w : ℕ → Bool) (a n i : ℕ) → n ≤ i → can_write w a (n - i) ≡ true
can_write-end w a n i le = can_write-zero w a (n - i) (omega arith)

pub can_write-no : (w : ℕ → Bool) (a n i : ℕ) → i < n → w (a + i) ≡ false → can_write w (a + i) (n - i) ≡ false
can_write-no w a n i lt is = can_write-suc w (a + i) (n - i) (n - (i + 1)) (omega arith) ∙ ap (λ o. o && can_write w (a + i + 1) (n - (i + 1))) is

pub can_write-yes : (w : ℕ → Bool) (a n i : ℕ) → i < n → w (a + i) ≡ true → can_write w (a + i) (n - i) ≡ can_write w (a + (i + 1)) (n - (i + 1))
can_write-yes w a n i lt is =
    let e : a + i + 1 ≡ a + (i + 1) = omega arith in
    can_write-suc w (a + i) (n - i) (n - (i + 1)) (omega arith) ∙ ap (λ o. o && can_write w (a + i + 1) (n - (i + 1))) is ∙ ap (λ x. can_write w x (n - (i + 1))) e

pub can_write-at : (w : ℕ → Bool) (a n i : ℕ) → can_write w a n ≡ true → i < n → w (a + i) ≡ true
can_write-at w a zero i h lt = absurd (omega arith)
can_write-at w a (suc n) zero h lt = let e : a ≡ a + 0 = omega arith in ap w (sym e) ∙ (and_parts (w a) (can_write w (a + 1) n) (sym (can_write-suc w a (suc n) n refl) ∙ h)).0
can_write-at w a (suc n) (suc i) h lt = let e : a + suc i ≡ a + 1 + i = omega arith in ap w e ∙ can_write-at w (a + 1) n i (and_parts (w a) (can_write w (a + 1) n) (sym (can_write-suc w a (suc n) n refl) ∙ h)).1 (omega arith)

pub can_write-all : (w : ℕ → Bool) (a n : ℕ) → ((j : ℕ) → a ≤ j → j < a + n → w j ≡ true) → can_write w a n ≡ true
can_write-all w a zero h = can_write-zero w a zero refl
can_write-all w a (suc n) h = can_write-suc w a (suc n) n refl ∙ ap (λ t. t && can_write w (a + 1) n) (h a (omega arith) (omega arith)) ∙ can_write-all w (a + 1) n (λ j p q. h j (omega arith) (omega arith))

-- ---- one byte more
pub over-unchanged : (m : Bytes) → m ≡ over unchanged m
over-unchanged m = refl

none-in : (x : Option ℕ) (d j : ℕ) → (if in_range d 0 j then x else None) ≡ None
none-in x d j = grind arith

over-none : (o x : Option ℕ) → o ≡ None → (if is_some o then o else x) ≡ x
over-none o x e = rw e refl

over-some : (o x : Option ℕ) (v : ℕ) → o ≡ Some v → (if is_some o then o else x) ≡ Some v
over-some o x v e = rw e refl

pub fill-none : (m : Bytes) (d b : ℕ) → m ≡ over (filled d b 0) m
fill-none m d b = fun_ext (λ j. sym (over-none (filled d b 0 j) (m j) (none-in (Some b) d j)))

pub copy-none : (m : Bytes) (d s : ℕ) → m ≡ over (copied m d s 0) m
copy-none m d s = fun_ext (λ j. sym (over-none (copied m d s 0 j) (m j) (none-in (m (s + (j - d))) d j)))

-- the address of the next byte, and the others
next-in : (d i j : ℕ) → j ≡ d + i → in_range d (i + 1) j ≡ true
next-in d i j e = grind arith

other-in : (d i j : ℕ) → (j ≡ d + i → ⊥) → in_range d i j ≡ in_range d (i + 1) j
other-in d i j ne = grind arith

put-other : (f : Bytes) (a v j : ℕ) → (j ≡ a → ⊥) → put_some f a v j ≡ f j
put-other f a v j ne = grind arith

filled-at : (m : Bytes) (d b i j : ℕ) → put_some (over (filled d b i) m) (d + i) b j ≡ over (filled d b (i + 1)) m j
filled-at m d b i j = ⊎_elim
    (λ (e : j ≡ d + i). put_some_same (over (filled d b i) m) (d + i) b j e ∙ sym (over-some (filled d b (i + 1) j) (m j) b (ap (λ t. if t then Some b else None) (next-in d i j e))))
    (λ (ne : j ≡ d + i → ⊥). put-other (over (filled d b i) m) (d + i) b j ne ∙ ap (λ t. let o : Option ℕ = if t then Some b else None in if is_some o then o else m j) (other-in d i j ne))
    (cases_eq j (d + i))

pub fill-more : (new m0 m : Bytes) (w : ℕ → Bool) (r : Bool) (d b n i : ℕ) → i < n → can_write w d n ≡ true → r ≡ w (d + i) → new ≡ (if r then put_some m (d + i) b else m) → m ≡ over (filled d b i) m0 → new ≡ over (filled d b (i + 1)) m0
fill-more new m0 m w r d b n i lt can is e told =
    e ∙ ap (λ t. if t then put_some m (d + i) b else m) (is ∙ can_write-at w d n i can lt) ∙ ap (λ f. put_some f (d + i) b) told ∙ fun_ext (λ j. filled-at m0 d b i j)

some-of : (o : Option ℕ) → is_some o ≡ true → o ≡ Some (unwrap_or o 0)
some-of None h = absurd (false≢true h)
some-of (Some x) h = refl

-- the bytes that are still to be copied are those of the beginning
source-out : (d s n i : ℕ) → i < n → overlaps d s n ≡ false → in_range d i (s + i) ≡ false
source-out d s n i lt apart = grind arith

copied-out : (m : Bytes) (d s n i : ℕ) → i < n → overlaps d s n ≡ false → over (copied m d s i) m (s + i) ≡ m (s + i)
copied-out m d s n i lt apart = over-none (copied m d s i (s + i)) (m (s + i)) (ap (λ t. if t then m (s + (s + i - d)) else None) (source-out d s n i lt apart))

copied-at : (m : Bytes) (d s i v j : ℕ) → m (s + i) ≡ Some v → put_some (over (copied m d s i) m) (d + i) v j ≡ over (copied m d s (i + 1)) m j
copied-at m d s i v j is = ⊎_elim
    (λ (e : j ≡ d + i). let x : s + (j - d) ≡ s + i = omega arith in put_some_same (over (copied m d s i) m) (d + i) v j e ∙ sym (over-some (copied m d s (i + 1) j) (m j) v (ap (λ t. if t then m (s + (j - d)) else None) (next-in d i j e) ∙ ap m x ∙ is)))
    (λ (ne : j ≡ d + i → ⊥). put-other (over (copied m d s i) m) (d + i) v j ne ∙ ap (λ t. let o : Option ℕ = if t then m (s + (j - d)) else None in if is_some o then o else m j) (other-in d i j ne))
    (cases_eq j (d + i))

pub copy-more : (new m0 m : Bytes) (w : ℕ → Bool) (r : Bool) (d s n i v : ℕ) → i < n → can_write w d n ≡ true → mapped m0 s n ≡ true → overlaps d s n ≡ false → v ≡ unwrap_or (m (s + i)) 0 → r ≡ w (d + i) → new ≡ (if r then put_some m (d + i) v else m) → m ≡ over (copied m0 d s i) m0 → new ≡ over (copied m0 d s (i + 1)) m0
copy-more new m0 m w r d s n i v lt can read apart got is e told =
    let here : m (s + i) ≡ m0 (s + i) = ap (λ f. f (s + i)) told ∙ copied-out m0 d s n i lt apart in
    let value : m0 (s + i) ≡ Some v = some-of (m0 (s + i)) (mapped-each m0 s n (s + i) read (omega arith) (omega arith)) ∙ ap (λ o. Some (unwrap_or o 0)) (sym here) ∙ ap Some (sym got) in
    e ∙ ap (λ t. if t then put_some m (d + i) v else m) (is ∙ can_write-at w d n i can lt) ∙ ap (λ f. put_some f (d + i) v) told ∙ fun_ext (λ j. copied-at m0 d s i v j value)

-- ---- fresh heap can be written
heap-in : (mark n a j : ℕ) → a ≡ mark → 0x30000000 ≤ a → a ≤ j → j < a + n → in_heap (mark + rounded n) j ≡ true
heap-in mark n a j e low p q = grind arith

mark-rises : (mark n : ℕ) → ((mark + rounded n) == mark) ≡ false
mark-rises mark n = ne_eqb (mark + rounded n) mark (λ e. omega arith)

pub fresh-heap : (new w : ℕ → Bool) (mark n a : ℕ) → new ≡ (if (mark + rounded n) == mark then w else raised w (mark + rounded n)) → a ≡ mark → 0x30000000 ≤ a → can_write new a n ≡ true
fresh-heap new w mark n a is e low =
    ap (λ f. can_write f a n) (is ∙ ap (λ t. if t then w else raised w (mark + rounded n)) (mark-rises mark n))
    ∙ can_write-all (raised w (mark + rounded n)) a n (λ j p q. or_right (w j) (in_heap (mark + rounded n) j) (heap-in mark n a j e low p q))
