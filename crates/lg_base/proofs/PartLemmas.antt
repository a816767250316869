-- Loads and stores in the parts of the memory.
use Rattle.std.proofs.Common.{◌≡◌, ℕ, ◌+◌, ◌-◌, ◌/◌, ◌%◌, ◌<◌, ◌≤◌, ◌⊎◌, inl, inr, List, length, Option, Some, None, Bool, true, false, refl, sym, ap, ◌∙◌, arith, ⊎_elim}
use Rattle.std.specs.Prelude.{is_some, unwrap_or, slice_index, ◌||◌, if◌then◌else◌}
use Rattle.std.proofs.lemmas.Bool.{cases_lt, cases_eq}
use mathlib.Core.Path.{fun_ext}
use Rattle.lg_base.specs.Spaces.{mapped, number_at, byte_or_zero, loaded, stored, written, put_some, readable, raised, in_heap}
use Rattle.lg_base.specs.Parts.{Parts, IsSized, data_base, args_base, heap_base, stack_base, has, in_part, byte_at, lies_in}
use Rattle.lg_base.proofs.SpaceLemmas.{mapped-each, mapped-all, number_at-shift, stored-out, stored-shift, stored-step, stored-none, put_some_same, put_some_other}

-- a list of bytes is the part of the memory at a base
pub record IsPart (p : Parts) (base : ℕ) (bytes : List ℕ) : Type 0 where
  pub inside : (j : ℕ) → base ≤ j → j < base + length bytes → byte_at p j ≡ Some (slice_index bytes (j - base))

-- elsewhere than in the part at a base two memories are one
pub record SameOutside (p p' : Parts) (base len : ℕ) : Type 0 where
  pub outside : (j : ℕ) → (j < base) ⊎ (base + len ≤ j) → byte_at p' j ≡ byte_at p j

has_false : (base : ℕ) (bytes : List ℕ) (j : ℕ) → (j < base) ⊎ (base + length bytes ≤ j) → has base bytes j ≡ false
has_false base bytes j h = ⊎_elim (λ below. grind (arith, below)) (λ above. grind (arith, above)) h

has_true : (base : ℕ) (bytes : List ℕ) (j : ℕ) → base ≤ j → j < base + length bytes → has base bytes j ≡ true
has_true base bytes j le lt = grind arith

in_part-there : (base : ℕ) (bytes : List ℕ) (j : ℕ) (other : Option ℕ) → base ≤ j → j < base + length bytes → in_part base bytes j other ≡ Some (slice_index bytes (j - base))
in_part-there base bytes j other le lt = ap (λ b. if b then Some (slice_index bytes (j - base)) else other) (has_true base bytes j le lt)

in_part-elsewhere : (base : ℕ) (bytes : List ℕ) (j : ℕ) (other : Option ℕ) → (j < base) ⊎ (base + length bytes ≤ j) → in_part base bytes j other ≡ other
in_part-elsewhere base bytes j other h = ap (λ b. if b then Some (slice_index bytes (j - base)) else other) (has_false base bytes j h)

-- ---- each part is one
pub data_is : (p : Parts) → IsPart p data_base p.data_part
data_is p = record { inside = λ j le lt. in_part-there data_base p.data_part j _ le lt }

pub args_is : (p : Parts) → IsSized p → IsPart p args_base p.args_part
args_is p s = record {
  inside = λ j le lt.
      in_part-elsewhere data_base p.data_part j _ (inr (omega (arith, s.data_len)))
      ∙ in_part-there args_base p.args_part j _ le lt;
}

pub heap_is : (p : Parts) → IsSized p → IsPart p heap_base p.heap_part
heap_is p s = record {
  inside = λ j le lt.
      in_part-elsewhere data_base p.data_part j _ (inr (omega (arith, s.data_len)))
      ∙ in_part-elsewhere args_base p.args_part j _ (inr (omega (arith, s.args_len)))
      ∙ in_part-there heap_base p.heap_part j _ le lt;
}

pub stack_is : (p : Parts) → IsSized p → IsPart p stack_base p.stack_part
stack_is p s = record {
  inside = λ j le lt.
      in_part-elsewhere data_base p.data_part j _ (inr (omega (arith, s.data_len)))
      ∙ in_part-elsewhere args_base p.args_part j _ (inr (omega (arith, s.args_len)))
      ∙ in_part-elsewhere heap_base p.heap_part j _ (inr (omega (arith, s.heap_len)))
      ∙ in_part-there stack_base p.stack_part j _ le lt;
}

-- ---- loads
pub loaded-in : (p : Parts) (base : ℕ) (bytes : List ℕ) (a w : ℕ) → IsPart p base bytes → base ≤ a → a + w ≤ base + length bytes
    → loaded (byte_at p) a w ≡ Some (number_at (slice_index bytes) (a - base) w)
loaded-in p base bytes a w is le fits =
    let all : mapped (byte_at p) a w ≡ true = mapped-all (byte_at p) a w (λ j from to. ap is_some (is.inside j (omega arith) (omega arith))) in
    let same : number_at (byte_or_zero (byte_at p)) a w ≡ number_at (slice_index bytes) (a - base) w =
    number_at-shift (byte_or_zero (byte_at p)) (slice_index bytes) a (a - base) w (λ j lt.
    let at : a + j - base ≡ a - base + j = omega arith in
    ap (λ o. unwrap_or o 0) (is.inside (a + j) (omega arith) (omega arith)) ∙ ap (slice_index bytes) at) in
    ap (λ b. if b then Some (number_at (byte_or_zero (byte_at p)) a w) else None) all ∙ ap Some same

-- an address that no part has
pub record IsNowhere (p : Parts) (a : ℕ) : Type 0 where
  pub data_not : (a < data_base) ⊎ (data_base + length p.data_part ≤ a)
  pub args_not : (a < args_base) ⊎ (args_base + length p.args_part ≤ a)
  pub heap_not : (a < heap_base) ⊎ (heap_base + length p.heap_part ≤ a)
  pub stack_not : (a < stack_base) ⊎ (stack_base + length p.stack_part ≤ a)

nowhere_none : (p : Parts) (a : ℕ) → IsNowhere p a → byte_at p a ≡ None
nowhere_none p a n =
    in_part-elsewhere data_base p.data_part a _ n.data_not
    ∙ in_part-elsewhere args_base p.args_part a _ n.args_not
    ∙ in_part-elsewhere heap_base p.heap_part a _ n.heap_not
    ∙ in_part-elsewhere stack_base p.stack_part a _ n.stack_not

not_true : (b : Bool) → (b ≡ true → ⊥) → b ≡ false
not_true true h = absurd (h refl)
not_true false h = refl

-- a byte among those of the access that no part has
pub unmapped : (p : Parts) (a w j : ℕ) → a ≤ j → j < a + w → IsNowhere p j → mapped (byte_at p) a w ≡ false
unmapped p a w j le lt n = not_true (mapped (byte_at p) a w) (λ t. let some = mapped-each (byte_at p) a w j t le lt in let none = nowhere_none p j n in some_none (byte_at p j) some none)
  where
    some_none : (o : Option ℕ) → is_some o ≡ true → o ≡ None → ⊥
    some_none None s e = cc
    some_none (Some x) s e = cc

-- ---- stores
pub stored-in : (p p' : Parts) (base : ℕ) (bytes bytes' : List ℕ) (a w v : ℕ) → IsPart p base bytes → IsPart p' base bytes' → SameOutside p p' base (length bytes)
    → length bytes' ≡ length bytes → slice_index bytes' ≡ written (slice_index bytes) (a - base) w v → base ≤ a → a + w ≤ base + length bytes
    → byte_at p' ≡ stored (byte_at p) a w v
stored-in p p' base bytes bytes' a w v is is' same long write le fits = fun_ext (λ j. at j)
  where
    there : (j : ℕ) → base ≤ j → j < base + length bytes → byte_at p' j ≡ stored (byte_at p) a w v j
    there j from to =
        is'.inside j from (omega (arith, long)) ∙ ap (λ f. Some (f (j - base))) write
        ∙ sym (stored-shift (byte_at p) (slice_index bytes) base (base + length bytes) a w v (λ i le lt. is.inside i le lt) le fits j from to)

    apart : (j : ℕ) → (j < base) ⊎ (base + length bytes ≤ j) → byte_at p' j ≡ stored (byte_at p) a w v j
    apart j o = same.outside j o ∙ sym (stored-out (byte_at p) a w v j (⊎_elim (λ x. inl (omega (arith, x))) (λ x. inr (omega (arith, x))) o))

    at : (j : ℕ) → byte_at p' j ≡ stored (byte_at p) a w v j
    at j = ⊎_elim (λ lt. apart j (inl lt)) (λ ge. ⊎_elim (λ lt. there j ge lt) (λ past. apart j (inr past)) (cases_lt j (base + length bytes))) (cases_lt j base)

-- ---- an access that lies in no part
Misses : ℕ → ℕ → ℕ → ℕ → Type 0
Misses base len a w = (a < base) ⊎ (base + len < a + w)

misses : (base : ℕ) (bytes : List ℕ) (a w : ℕ) → lies_in base bytes a w ≡ false → Misses base (length bytes) a w
unfolding Misses
misses base bytes a w e = ⊎_elim (λ lt. inl lt) (λ ge. ⊎_elim (λ lt. inr lt) (λ le. absurd (true_false (sym (let t : lies_in base bytes a w ≡ true = grind (arith, ge, le) in t) ∙ e))) (cases_lt (base + length bytes) (a + w))) (cases_lt a base)
  where
    true_false : true ≡ false → ⊥
    true_false e = cc

-- the address lies before the part or after it, or the part ends within the access
split_part : (base len a w : ℕ) → Misses base len a w → ((a < base) ⊎ (base + len ≤ a)) ⊎ ((base ≤ a) × (a < base + len) × (base + len < a + w))
unfolding Misses
split_part base len a w h = ⊎_elim
    (λ below. inl (inl below))
    (λ from. ⊎_elim (λ inside. ⊎_elim (λ x. absurd (omega (arith, x, from))) (λ x. inr (from, inside, x)) h) (λ behind. inl (inr behind)) (cases_lt a (base + len)))
    (cases_lt a base)

pub loaded-nowhere : (p : Parts) (a w : ℕ) → IsSized p → 1 ≤ w → w ≤ 8
    → lies_in data_base p.data_part a w ≡ false → lies_in args_base p.args_part a w ≡ false → lies_in heap_base p.heap_part a w ≡ false → lies_in stack_base p.stack_part a w ≡ false
    → mapped (byte_at p) a w ≡ false
loaded-nowhere p a w s some few d r h t =
    ⊎_elim
    (λ data_not. ⊎_elim
    (λ args_not. ⊎_elim
    (λ heap_not. ⊎_elim
    (λ stack_not. unmapped p a w a (omega arith) (omega arith) record { data_not = data_not; args_not = args_not; heap_not = heap_not; stack_not = stack_not })
    (λ within. unmapped p a w (stack_base + length p.stack_part) (omega (arith, within)) (omega (arith, within)) record { data_not = inr (omega (arith, s.data_len, s.stack_len)); args_not = inr (omega (arith, s.args_len, s.stack_len)); heap_not = inr (omega (arith, s.heap_len, s.stack_len)); stack_not = inr (omega arith) })
    (split_part stack_base (length p.stack_part) a w (misses stack_base p.stack_part a w t)))
    (λ within. unmapped p a w (heap_base + length p.heap_part) (omega (arith, within)) (omega (arith, within)) record { data_not = inr (omega (arith, s.data_len, s.heap_len)); args_not = inr (omega (arith, s.args_len, s.heap_len)); heap_not = inr (omega arith); stack_not = inl (omega (arith, s.heap_len)) })
    (split_part heap_base (length p.heap_part) a w (misses heap_base p.heap_part a w h)))
    (λ within. unmapped p a w (args_base + length p.args_part) (omega (arith, within)) (omega (arith, within)) record { data_not = inr (omega (arith, s.data_len)); args_not = inr (omega arith); heap_not = inl (omega (arith, s.args_len)); stack_not = inl (omega (arith, s.args_len)) })
    (split_part args_base (length p.args_part) a w (misses args_base p.args_part a w r)))
    (λ within. unmapped p a w (data_base + length p.data_part) (omega (arith, within)) (omega (arith, within)) record { data_not = inr (omega arith); args_not = inl (omega (arith, s.data_len)); heap_not = inl (omega (arith, s.data_len)); stack_not = inl (omega (arith, s.data_len)) })
    (split_part data_base (length p.data_part) a w (misses data_base p.data_part a w d))

-- ---- what the code finds in one part
lies : (base : ℕ) (bytes : List ℕ) (a w : ℕ) → lies_in base bytes a w ≡ true → (base ≤ a) × (a + w ≤ base + length bytes)
lies base bytes a w e = (grind (arith, e), grind (arith, e))

pub load_found : (p : Parts) (base : ℕ) (bytes read : List ℕ) (a w n : ℕ) → IsPart p base bytes → lies_in base bytes a w ≡ true → read ≡ bytes
    → n ≡ number_at (slice_index read) (a - base) w → Some n ≡ loaded (byte_at p) a w
load_found p base bytes read a w n is fits same number =
    let l = lies base bytes a w fits in
    ap Some number ∙ ap (λ xs. Some (number_at (slice_index xs) (a - base) w)) same ∙ sym (loaded-in p base bytes a w is l.0 l.1)

pub store_found : (p : Parts) (base : ℕ) (bytes : List ℕ) (a w : ℕ) → IsPart p base bytes → lies_in base bytes a w ≡ true → true ≡ mapped (byte_at p) a w
store_found p base bytes a w is fits =
    let l = lies base bytes a w fits in
    sym (mapped-all (byte_at p) a w (λ j from to. ap is_some (is.inside j (omega (arith, l.0)) (omega (arith, l.1)))))

pub store_done : (p p' : Parts) (base : ℕ) (bytes bytes' : List ℕ) (a w v : ℕ) → IsPart p base bytes → IsPart p' base bytes' → SameOutside p p' base (length bytes)
    → lies_in base bytes a w ≡ true → length bytes' ≡ length bytes → slice_index bytes' ≡ written (slice_index bytes) (a - base) w v → byte_at p' ≡ stored (byte_at p) a w v
store_done p p' base bytes bytes' a w v is is' same fits long write =
    let l = lies base bytes a w fits in stored-in p p' base bytes bytes' a w v is is' same long write l.0 l.1

-- ---- a memory with one part changed
part_elsewhere : (base : ℕ) (bytes bytes' : List ℕ) (j : ℕ) (other : Option ℕ) → length bytes' ≡ length bytes → (j < base) ⊎ (base + length bytes ≤ j) → in_part base bytes' j other ≡ in_part base bytes j other
part_elsewhere base bytes bytes' j other long o =
    in_part-elsewhere base bytes' j other (⊎_elim (λ x. inl x) (λ x. inr (omega (arith, x, long))) o) ∙ sym (in_part-elsewhere base bytes j other o)

pub data_changed : (p : Parts) (bytes : List ℕ) → length bytes ≡ length p.data_part → SameOutside p record p { data_part = bytes } data_base (length p.data_part)
data_changed p bytes long = record { outside = λ j o. part_elsewhere data_base p.data_part bytes j _ long o }

pub args_changed : (p : Parts) (bytes : List ℕ) → length bytes ≡ length p.args_part → SameOutside p record p { args_part = bytes } args_base (length p.args_part)
args_changed p bytes long = record { outside = λ j o. ap (in_part data_base p.data_part j) (part_elsewhere args_base p.args_part bytes j _ long o) }

pub heap_changed : (p : Parts) (bytes : List ℕ) → length bytes ≡ length p.heap_part → SameOutside p record p { heap_part = bytes } heap_base (length p.heap_part)
heap_changed p bytes long = record { outside = λ j o. ap (λ r. in_part data_base p.data_part j (in_part args_base p.args_part j r)) (part_elsewhere heap_base p.heap_part bytes j _ long o) }

pub stack_changed : (p : Parts) (bytes : List ℕ) → length bytes ≡ length p.stack_part → SameOutside p record p { stack_part = bytes } stack_base (length p.stack_part)
stack_changed p bytes long = record { outside = λ j o. ap (λ r. in_part data_base p.data_part j (in_part args_base p.args_part j (in_part heap_base p.heap_part j r))) (part_elsewhere stack_base p.stack_part bytes j None long o) }

-- ---- the widths of accesses
pub least : (w : ℕ) → (w ≡ 1) ⊎ (w ≡ 2) ⊎ (w ≡ 4) ⊎ (w ≡ 8) → 1 ≤ w
least w h = grind (arith, h)

pub most : (w : ℕ) → (w ≡ 1) ⊎ (w ≡ 2) ⊎ (w ≡ 4) ⊎ (w ≡ 8) → w ≤ 8
most w h = grind (arith, h)

-- ---- one byte written, and what can be written
pub put_is : (m : ℕ → Option ℕ) (a v : ℕ) → v < 256 → stored m a 1 v ≡ put_some m a v
put_is m a v h =
    let low : v % 256 ≡ v = omega arith in
    stored-step m a 1 (a + 1) 0 v refl refl ∙ stored-none (put_some m a (v % 256)) (a + 1) 0 (v / 256) refl ∙ ap (put_some m a) low

rooms_at : (m : ℕ → Option ℕ) (a v j : ℕ) → is_some (m a) ≡ true → is_some (put_some m a v j) ≡ is_some (m j)
rooms_at m a v j here = ⊎_elim
    (λ same. ap is_some (put_some_same m a v j same) ∙ sym (ap (λ k. is_some (m k)) same ∙ here))
    (λ other. ap is_some (put_some_other m a v j other))
    (cases_eq j a)

pub put_room : (m n : ℕ → Option ℕ) (a v : ℕ) (done : Bool) → v < 256 → done ≡ mapped m a 1 → n ≡ (if done then stored m a 1 v else m) → readable n ≡ readable m
put_room m n a v false h d e = fun_ext (λ j. ap (λ f. is_some (f j)) e)
put_room m n a v true h d e =
    let here = mapped-each m a 1 a (sym d) (omega arith) (omega arith) in
    fun_ext (λ j. ap (λ f. is_some (f j)) (e ∙ put_is m a v h) ∙ rooms_at m a v j here)

-- the whole heap can be written already
pub raise_room : (p : Parts) (mark : ℕ) → IsSized p → mark ≤ 0x30400000 → readable (byte_at p) ≡ raised (readable (byte_at p)) mark
raise_room p mark s high = fun_ext (λ j. at j (in_heap mark j) refl)
  where
    or_true : (b : Bool) → b ≡ true → b ≡ (b || true)
    or_true true e = refl
    or_true false e = cc

    or_false : (b : Bool) → b ≡ (b || false)
    or_false true = refl
    or_false false = refl

    at : (j : ℕ) (b : Bool) → in_heap mark j ≡ b → is_some (byte_at p j) ≡ (is_some (byte_at p j) || in_heap mark j)
    at j true e =
        let from : heap_base ≤ j = grind (arith, e) in
        let to : j < heap_base + length p.heap_part = grind (arith, e, high, s.heap_len) in
        rw e (or_true (is_some (byte_at p j)) (ap is_some ((heap_is p s).inside j from to)))
    at j false e = rw e (or_false (is_some (byte_at p j)))
