-- Addresses and their cells: no two addresses have one place.
use Rattle.std.proofs.Common.{◌≡◌, ◌≢◌, ℕ, zero, suc, ◌+◌, ◌-◌, ◌/◌, ◌%◌, ◌<◌, ◌≤◌, Bool, true, false, length, List, Option, Some, None, refl, sym, ap, ◌∙◌, ⊎_elim, arith}
use Rattle.std.specs.Prelude.{nat_lt, ◌==◌, ◌||◌, if◌then◌else◌, unwrap_or, slice_index}
use Rattle.std.proofs.lemmas.Bool.{cases_eq, cases_lt}
use Rattle.std.proofs.lemmas.Option.{none-some, same_Some}
use mathlib.Core.Path.{fun_ext}
use Rattle.lg_base.specs.Spaces.{put_some, raised, in_heap, mapped, number_at, byte_or_zero, loaded, stored}
use Rattle.lg_base.proofs.SpaceLemmas.{number_at-shift}
use Rattle.lg_cells.specs.declared.cell.Cell.{Cell}
use Rattle.lg_cells.specs.declared.cell.Cell.TheVariants.{Closed, Fresh, Holds}
use Rattle.lg_cells.specs.Cells.{Marks, byte_in, byte_of, is_room, room_of, cell_of, within, with_cell, with_cells, first_cells, AreRooms, IsAsLong}
use Rattle.lg_cells.specs.Memories.{Marked, IsMarked, place_of, stack_cell, cell_in, cell_at, byte_at, room_at, without, fills, first_bytes, first_room, writable}
use Rattle.lg_cells.proofs.PartLemmas.{room_is_place}

-- the address of a place
abbrev address_of : ℕ → ℕ → ℕ → ℕ
address_of d g k = if nat_lt k d then k + 0x20000000 else (if nat_lt k (d + g) then k - d + 0x28000000 else k - d - g + 0x30000000)

-- the three parts, one at a time
pub by_part : (d g m x k : ℕ) (P : Type 0) → place_of d g m x ≡ Some k → ((0x20000000 ≤ x) × (x < 0x20000000 + d) × (k ≡ x - 0x20000000) → P) → ((0x28000000 ≤ x) × (x < 0x28000000 + g) × (k ≡ x - 0x28000000 + d) → P) → ((0x30000000 ≤ x) × (x < 0x30000000 + (m - 0x30000000)) × (k ≡ x - 0x30000000 + d + g) → P) → P
by_part d g m x k P e p q r =
    by (within 0x20000000 d x) (within 0x28000000 g x) (within 0x30000000 (m - 0x30000000) x) refl refl refl e
  where
    ins : (lo n : ℕ) → within lo n x ≡ true → (lo ≤ x) × (x < lo + n)
    ins lo n h = (grind arith, grind arith)

    by : (b1 b2 b3 : Bool) → within 0x20000000 d x ≡ b1 → within 0x28000000 g x ≡ b2 → within 0x30000000 (m - 0x30000000) x ≡ b3 → (if b1 then Some (x - 0x20000000) else (if b2 then Some (x - 0x28000000 + d) else (if b3 then Some (x - 0x30000000 + d + g) else None))) ≡ Some k → P
    by true b2 b3 h1 h2 h3 f = let i = ins 0x20000000 d h1 in p (i.0, i.1, cc)
    by false true b3 h1 h2 h3 f = let i = ins 0x28000000 g h2 in q (i.0, i.1, cc)
    by false false true h1 h2 h3 f = let i = ins 0x30000000 (m - 0x30000000) h3 in r (i.0, i.1, cc)
    by false false false h1 h2 h3 f = cc

back1 : (d g x k : ℕ) → (0x20000000 ≤ x) × (x < 0x20000000 + d) × (k ≡ x - 0x20000000) → x ≡ address_of d g k
back1 d g x k h = grind arith

back2 : (d g x k : ℕ) → (0x28000000 ≤ x) × (x < 0x28000000 + g) × (k ≡ x - 0x28000000 + d) → x ≡ address_of d g k
back2 d g x k h = grind arith

back3 : (d g m x k : ℕ) → (0x30000000 ≤ x) × (x < 0x30000000 + (m - 0x30000000)) × (k ≡ x - 0x30000000 + d + g) → x ≡ address_of d g k
back3 d g m x k h = grind arith

place_back : (d g m x k : ℕ) → place_of d g m x ≡ Some k → x ≡ address_of d g k
place_back d g m x k e = by_part d g m x k (x ≡ address_of d g k) e (back1 d g x k) (back2 d g x k) (back3 d g m x k)

-- no two addresses have one place
pub place_inj : (d g m x y k : ℕ) → place_of d g m x ≡ Some k → place_of d g m y ≡ Some k → x ≡ y
place_inj d g m x y k e f = place_back d g m x k e ∙ sym (place_back d g m y k f)

in_range : (lo n x : ℕ) → lo ≤ x → x < lo + n → within lo n x ≡ true
in_range lo n x h h' = grind arith

past : (lo n x : ℕ) → lo + n ≤ x → within lo n x ≡ false
past lo n x h = grind arith

before : (lo n x : ℕ) → x < lo → within lo n x ≡ false
before lo n x h = grind arith

empty : (lo x : ℕ) → within lo (lo - lo) x ≡ false
empty lo x = grind arith

from_within : (lo n x : ℕ) → within lo n x ≡ true → (lo ≤ x) × (x < lo + n)
from_within lo n x h = (grind arith, grind arith)

above_mark : (mark x : ℕ) → 0x30000000 ≤ x → 0x30000000 ≤ mark → within 0x30000000 (mark - 0x30000000) x ≡ false → mark ≤ x
above_mark mark x h h' e = ⊎_elim
    (λ (lt : x < mark). absurd (never (sym (in_range 0x30000000 (mark - 0x30000000) x h (omega (arith, lt, h'))) ∙ e)))
    (λ ge. ge)
    (cases_lt x mark)
  where
    never : true ≡ false → ⊥
    never z = cc

-- an address without a place lies in none of the three parts
no_part : (d g m x : ℕ) → place_of d g m x ≡ None → (within 0x20000000 d x ≡ false) × (within 0x28000000 g x ≡ false) × (within 0x30000000 (m - 0x30000000) x ≡ false)
no_part d g m x e = by (within 0x20000000 d x) (within 0x28000000 g x) (within 0x30000000 (m - 0x30000000) x) e
  where
    by : (b1 b2 b3 : Bool) → (if b1 then Some (x - 0x20000000) else (if b2 then Some (x - 0x28000000 + d) else (if b3 then Some (x - 0x30000000 + d + g) else None))) ≡ None → (b1 ≡ false) × (b2 ≡ false) × (b3 ≡ false)
    by true b2 b3 f = cc
    by false true b3 f = cc
    by false false true f = cc
    by false false false f = (refl, refl, refl)

pub place_bound : (d g m x k : ℕ) → place_of d g m x ≡ Some k → k < d + g + (m - 0x30000000)
place_bound d g m x k e =
    by_part d g m x k (k < d + g + (m - 0x30000000)) e (λ h. omega arith) (λ h. omega arith) (λ h. omega arith)

-- an address of the stack has no place among the others
pub place_none : (d g m x : ℕ) → d ≤ 0x1000000 → g ≤ 0x100000 → m ≤ 0x30400000 → 0x3FF00000 ≤ x → place_of d g m x ≡ None
place_none d g m x hd hg hm low =
    let t1 : within 0x20000000 d x ≡ false = grind arith in
    let t2 : within 0x28000000 g x ≡ false = grind arith in
    let t3 : within 0x30000000 (m - 0x30000000) x ≡ false = grind arith in
    rw (t1, t2, t3)

-- memories with the same sizes and mark
pub record HasSizes (m n : Marked) : Type 0 where
  pub data_same : n.data_size ≡ m.data_size
  pub args_same : n.args_size ≡ m.args_size
  pub mark_same : n.mark ≡ m.mark

-- ---- one cell changed
pub low_changed : (m n : Marked) (a at : ℕ) (c : Cell) → HasSizes m n → n.stack ≡ m.stack → cell_of n.low ≡ with_cell (cell_of m.low) at c → Some at ≡ place_of m.data_size m.args_size m.mark a → (x : ℕ) → cell_at n x ≡ (if x == a then c else cell_at m x)
low_changed m n a at c same e f p x = rw (same.data_same, same.args_same, same.mark_same, e) (go (place_of m.data_size m.args_size m.mark x) refl)
  where
    go : (o : Option ℕ) → place_of m.data_size m.args_size m.mark x ≡ o → cell_in n.low (stack_cell m.stack x) o ≡ (if x == a then c else cell_in m.low (stack_cell m.stack x) o)
    go None g = let ne : x ≢ a = λ h. none-some at (sym g ∙ ap (place_of m.data_size m.args_size m.mark) h ∙ sym p) in let t : (x == a) ≡ false = grind (arith, ne) in rw t
    go (Some k) g = ap (λ q. q k) f ∙ ⊎_elim
        (λ (h : k ≡ at). let same : x ≡ a = place_inj m.data_size m.args_size m.mark x a at (g ∙ ap Some h) (sym p) in let t : (x == a) ≡ true = grind (arith, same) in let u : (k == at) ≡ true = grind (arith, h) in rw (t, u))
        (λ (h : k ≢ at). let ne : x ≢ a = λ z. h (same_Some k at (sym g ∙ ap (place_of m.data_size m.args_size m.mark) z ∙ sym p)) in let t : (x == a) ≡ false = grind (arith, ne) in let u : (k == at) ≡ false = grind (arith, h) in rw (t, u))
        (cases_eq k at)

pub stack_changed : (m n : Marked) (a : ℕ) (c : Cell) → HasSizes m n → n.low ≡ m.low → cell_of n.stack ≡ with_cell (cell_of m.stack) (0x3FFFFFFF - a) c → None ≡ place_of m.data_size m.args_size m.mark a → within 0x3FF00000 0x100000 a ≡ true → (x : ℕ) → cell_at n x ≡ (if x == a then c else cell_at m x)
stack_changed m n a c same e f p i x = rw (same.data_same, same.args_same, same.mark_same, e) (go (place_of m.data_size m.args_size m.mark x) refl)
  where
    in_stack : (b : Bool) → within 0x3FF00000 0x100000 x ≡ b → stack_cell n.stack x ≡ (if x == a then c else stack_cell m.stack x)
    in_stack true h = rw h (ap (λ q. q (0x3FFFFFFF - x)) f ∙ ⊎_elim
        (λ (z : x ≡ a). let t : (x == a) ≡ true = grind (arith, z) in let u : (0x3FFFFFFF - x == 0x3FFFFFFF - a) ≡ true = grind (arith, z) in rw (t, u))
        (λ (z : x ≢ a).
        let lo : x < 0x40000000 = grind arith in
        let lo' : a < 0x40000000 = grind arith in
        let ne : 0x3FFFFFFF - x ≢ 0x3FFFFFFF - a = λ q. z (omega arith) in
        let t : (x == a) ≡ false = grind (arith, z) in
        let u : (0x3FFFFFFF - x == 0x3FFFFFFF - a) ≡ false = grind (arith, ne) in
        rw (t, u))
        (cases_eq x a))
    in_stack false h = let ne : x ≢ a = λ z. none-true (sym h ∙ ap (within 0x3FF00000 0x100000) z ∙ i) in let t : (x == a) ≡ false = grind (arith, ne) in rw (h, t)
      where
        none-true : false ≡ true → ⊥
        none-true z = cc

    go : (o : Option ℕ) → place_of m.data_size m.args_size m.mark x ≡ o → cell_in m.low (stack_cell n.stack x) o ≡ (if x == a then c else cell_in m.low (stack_cell m.stack x) o)
    go None g = in_stack (within 0x3FF00000 0x100000 x) refl
    go (Some k) g = let ne : x ≢ a = λ h. none-some k (p ∙ ap (place_of m.data_size m.args_size m.mark) (sym h) ∙ g) in let t : (x == a) ≡ false = grind (arith, ne) in rw t

same_numbers : (x a : ℕ) → (x == a) ≡ true → x ≡ a
same_numbers x a e = grind (arith, e)

-- a byte is written
pub put_bytes : (m n : Marked) (a b : ℕ) → ((x : ℕ) → cell_at n x ≡ (if x == a then Holds b else cell_at m x)) → byte_at n ≡ put_some (byte_at m) a b
put_bytes m n a b h = fun_ext (λ x. ap byte_in (h x) ∙ out (x == a) (cell_at m x))
  where
    out : (t : Bool) (c : Cell) → byte_in (if t then Holds b else c) ≡ (if t then Some b else byte_in c)
    out true c = refl
    out false c = refl

pub put_rooms : (m n : Marked) (a b : ℕ) → ((x : ℕ) → cell_at n x ≡ (if x == a then Holds b else cell_at m x)) → room_at m a ≡ true → room_at n ≡ room_at m
put_rooms m n a b h r = fun_ext (λ x. ap is_room (h x) ∙ out x (x == a) refl)
  where
    out : (x : ℕ) (t : Bool) → (x == a) ≡ t → is_room (if t then Holds b else cell_at m x) ≡ room_at m x
    out x true e = sym (ap (room_at m) (same_numbers x a e) ∙ r)
    out x false e = refl

-- an address that can be written and has no place lies in the stack, at a place of its own
pub record IsStackRoom (m : Marked) (a : ℕ) : Type 0 where
  pub in_stack : within 0x3FF00000 0x100000 a ≡ true
  pub there : 0x3FFFFFFF - a < length m.stack.marks

pub stack_room : (m : Marked) (a : ℕ) → None ≡ place_of m.data_size m.args_size m.mark a → room_at m a ≡ true → IsStackRoom m a
stack_room m a e r = by (within 0x3FF00000 0x100000 a) refl (ap (λ o. is_room (cell_in m.low (stack_cell m.stack a) o)) e ∙ r)
  where
    by : (t : Bool) → within 0x3FF00000 0x100000 a ≡ t → is_room (if t then cell_of m.stack (0x3FFFFFFF - a) else Closed) ≡ true → IsStackRoom m a
    by true h q = record { in_stack = h; there = room_is_place m.stack (0x3FFFFFFF - a) q }
    by false h q = cc

-- ---- several bytes
pick : (ℕ → Option ℕ) → Option ℕ → Option ℕ → Option ℕ
pick f other None = other
pick f other (Some k) = f k

picked : (low : Marks) (c : Cell) (o : Option ℕ) → byte_in (cell_in low c o) ≡ pick (byte_of low) (byte_in c) o
unfolding pick
picked low c None = refl
picked low c (Some k) = refl

picked_room : (low low' : Marks) (c : Cell) (o : Option ℕ) → room_of low' ≡ room_of low → is_room (cell_in low' c o) ≡ is_room (cell_in low c o)
picked_room low low' c None e = refl
picked_room low low' c (Some k) e = ap (λ f. f k) e

module _ (d g mark : ℕ) (rest : ℕ → Option ℕ) where
  seen : (ℕ → Option ℕ) → ℕ → Option ℕ
  seen f x = pick f (rest x) (place_of d g mark x)

  seen_put : (f : ℕ → Option ℕ) (a at b : ℕ) → place_of d g mark a ≡ Some at → seen (put_some f at b) ≡ put_some (seen f) a b
  unfolding seen pick
  seen_put f a at b e = fun_ext (λ x. go x (place_of d g mark x) refl)
    where
      go : (x : ℕ) (o : Option ℕ) → place_of d g mark x ≡ o → pick (put_some f at b) (rest x) o ≡ (if x == a then Some b else pick f (rest x) o)
      go x None p = let ne : x ≢ a = λ h. none-some at (sym p ∙ ap (place_of d g mark) h ∙ e) in let t : (x == a) ≡ false = grind (arith, ne) in rw t
      go x (Some k) p = ⊎_elim
          (λ (h : k ≡ at). let same : x ≡ a = place_inj d g mark x a at (p ∙ ap Some h) e in let t : (x == a) ≡ true = grind (arith, same) in let u : (k == at) ≡ true = grind (arith, h) in rw (t, u))
          (λ (h : k ≢ at). let ne : x ≢ a = λ z. h (same_Some k at (sym p ∙ ap (place_of d g mark) z ∙ e)) in let t : (x == a) ≡ false = grind (arith, ne) in let u : (k == at) ≡ false = grind (arith, h) in rw (t, u))
          (cases_eq k at)

  seen_stored : (f : ℕ → Option ℕ) (a at w v : ℕ) → ((i : ℕ) → i < w → place_of d g mark (a + i) ≡ Some (at + i)) → seen (stored f at w v) ≡ stored (seen f) a w v
  unfolding stored
  seen_stored f a at zero v h = refl
  seen_stored f a at (suc w) v h =
      let z : a ≡ a + 0 = omega arith in
      let y : at + 0 ≡ at = omega arith in
      let here : place_of d g mark a ≡ Some at = ap (place_of d g mark) z ∙ h 0 (omega arith) ∙ ap Some y in
      seen_stored (put_some f at (v % 256)) (a + 1) (at + 1) w (v / 256) (λ i lt. ap (place_of d g mark) (let q : a + 1 + i ≡ a + suc i = omega arith in q) ∙ h (suc i) (omega arith) ∙ ap Some (let q : at + suc i ≡ at + 1 + i = omega arith in q))
      ∙ ap (λ q. stored q (a + 1) w (v / 256)) (seen_put f a at (v % 256) here)

pub word_bytes : (m n : Marked) (a at w v : ℕ) → HasSizes m n → n.stack ≡ m.stack → byte_of n.low ≡ stored (byte_of m.low) at w v → ((i : ℕ) → i < w → place_of m.data_size m.args_size m.mark (a + i) ≡ Some (at + i)) → byte_at n ≡ stored (byte_at m) a w v
unfolding seen
word_bytes m n a at w v same e f h =
    let rest : ℕ → Option ℕ = λ x. byte_in (stack_cell m.stack x) in
    let new : byte_at n ≡ seen m.data_size m.args_size m.mark rest (byte_of n.low) = fun_ext (λ x. rw (same.data_same, same.args_same, same.mark_same, e) (picked n.low (stack_cell m.stack x) (place_of m.data_size m.args_size m.mark x))) in
    let old : byte_at m ≡ seen m.data_size m.args_size m.mark rest (byte_of m.low) = fun_ext (λ x. picked m.low (stack_cell m.stack x) (place_of m.data_size m.args_size m.mark x)) in
    new ∙ ap (seen m.data_size m.args_size m.mark rest) f ∙ seen_stored m.data_size m.args_size m.mark rest (byte_of m.low) a at w v h ∙ ap (λ q. stored q a w v) (sym old)

pub word_rooms : (m n : Marked) → HasSizes m n → n.stack ≡ m.stack → room_of n.low ≡ room_of m.low → room_at n ≡ room_at m
word_rooms m n same e f = fun_ext (λ x. rw (same.data_same, same.args_same, same.mark_same, e) (picked_room m.low n.low (stack_cell m.stack x) (place_of m.data_size m.args_size m.mark x) f))

writable_all : (p : ℕ → Bool) (b k : ℕ) → ((i : ℕ) → i < k → p (b + i) ≡ true) → writable p b k ≡ true
unfolding writable
writable_all p b zero q = refl
writable_all p b (suc k) q =
    let here : p b ≡ true = ap p (let z : b ≡ b + 0 = omega arith in z) ∙ q 0 (omega arith) in
    let more : writable p (b + 1) k ≡ true = writable_all p (b + 1) k (λ i lt. ap p (let z : b + 1 + i ≡ b + suc i = omega arith in z) ∙ q (suc i) (omega arith)) in
    rw (here, more)

pub word_writable : (m : Marked) (a at w : ℕ) → ((i : ℕ) → i < w → place_of m.data_size m.args_size m.mark (a + i) ≡ Some (at + i)) → AreRooms m.low at w → writable (room_at m) a w ≡ true
word_writable m a at w h r = writable_all (room_at m) a w (λ i lt. ap (λ o. is_room (cell_in m.low (stack_cell m.stack (a + i)) o)) (h i lt) ∙ r i lt)

mapped_shift : (f g : ℕ → Option ℕ) (a b w : ℕ) → ((j : ℕ) → j < w → f (a + j) ≡ g (b + j)) → mapped f a w ≡ mapped g b w
unfolding mapped
mapped_shift f g a b zero h = refl
mapped_shift f g a b (suc w) h =
    let z : a ≡ a + 0 = omega arith in
    let y : b + 0 ≡ b = omega arith in
    let here : f a ≡ g b = ap f z ∙ h 0 (omega arith) ∙ ap g y in
    let more : mapped f (a + 1) w ≡ mapped g (b + 1) w = mapped_shift f g (a + 1) (b + 1) w (λ j lt. ap f (let q : a + 1 + j ≡ a + suc j = omega arith in q) ∙ h (suc j) (omega arith) ∙ ap g (let q : b + suc j ≡ b + 1 + j = omega arith in q)) in
    rw (here, more)

pub loaded_shift : (f g : ℕ → Option ℕ) (a b w : ℕ) → ((j : ℕ) → j < w → f (a + j) ≡ g (b + j)) → loaded f a w ≡ loaded g b w
loaded_shift f g a b w h =
    ap (λ (t : Bool). if t then Some (number_at (byte_or_zero f) a w) else None) (mapped_shift f g a b w h)
    ∙ ap (λ x. if mapped g b w then Some x else None) (number_at-shift (byte_or_zero f) (byte_or_zero g) a b w (λ j lt. ap (λ o. unwrap_or o 0) (h j lt)))

pub word_loads : (m : Marked) (a at w : ℕ) → ((i : ℕ) → i < w → place_of m.data_size m.args_size m.mark (a + i) ≡ Some (at + i)) → loaded (byte_at m) a w ≡ loaded (byte_of m.low) at w
word_loads m a at w h = loaded_shift (byte_at m) (byte_of m.low) a at w (λ j lt. ap (λ o. byte_in (cell_in m.low (stack_cell m.stack (a + j)) o)) (h j lt))

-- ---- cells of the stack are filled
pub filled : (m n : Marked) (lo w : ℕ) (c : Cell) → IsMarked m → 0x3FF00000 ≤ lo → lo + w ≤ 0x40000000 → HasSizes m n → n.low ≡ m.low → cell_of n.stack ≡ with_cells (cell_of m.stack) (0x40000000 - lo - w) w c → cell_at n ≡ fills (cell_at m) lo w c
filled m n lo w c i low high same e f = fun_ext (λ x. rw (same.data_same, same.args_same, same.mark_same, e) (go x (within lo w x) refl))
  where
    never : true ≡ false → ⊥
    never z = cc

    other : (x : ℕ) (o : Option ℕ) (b : Bool) → within 0x3FF00000 0x100000 x ≡ b → within lo w x ≡ false → cell_in m.low (stack_cell n.stack x) o ≡ cell_in m.low (stack_cell m.stack x) o
    other x (Some k) b g h = refl
    other x None false g h = rw g
    other x None true g h =
        let t : within (0x40000000 - lo - w) w (0x3FFFFFFF - x) ≡ false = grind arith in
        rw g (ap (λ q. q (0x3FFFFFFF - x)) f ∙ rw t)

    go : (x : ℕ) (t : Bool) → within lo w x ≡ t → cell_in m.low (stack_cell n.stack x) (place_of m.data_size m.args_size m.mark x) ≡ (if t then c else cell_at m x)
    go x true h =
        let none : place_of m.data_size m.args_size m.mark x ≡ None = place_none m.data_size m.args_size m.mark x i.data_small i.args_small i.mark_high (grind arith) in
        let inside : within 0x3FF00000 0x100000 x ≡ true = grind arith in
        let t : within (0x40000000 - lo - w) w (0x3FFFFFFF - x) ≡ true = grind arith in
        rw (none, inside) (ap (λ q. q (0x3FFFFFFF - x)) f ∙ rw t)
    go x false h = other x (place_of m.data_size m.args_size m.mark x) (within 0x3FF00000 0x100000 x) refl h

pub fills_bytes : (m n : Marked) (lo w : ℕ) (c : Cell) → byte_in c ≡ None → cell_at n ≡ fills (cell_at m) lo w c → byte_at n ≡ without (byte_at m) lo w
fills_bytes m n lo w c none e = fun_ext (λ x. ap (λ q. byte_in (q x)) e ∙ out (within lo w x) (cell_at m x))
  where
    out : (t : Bool) (k : Cell) → byte_in (if t then c else k) ≡ (if t then None else byte_in k)
    out true k = none
    out false k = refl

pub fills_rooms : (m n : Marked) (lo w : ℕ) (c : Cell) → cell_at n ≡ fills (cell_at m) lo w c → room_at n ≡ (λ x. if within lo w x then is_room c else room_at m x)
fills_rooms m n lo w c e = fun_ext (λ x. ap (λ q. is_room (q x)) e ∙ out (within lo w x) (cell_at m x))
  where
    out : (t : Bool) (k : Cell) → is_room (if t then c else k) ≡ (if t then is_room c else is_room k)
    out true k = refl
    out false k = refl

-- a byte that is written can be written
pub byte_room : (m : Marked) (j b : ℕ) → byte_at m j ≡ Some b → room_at m j ≡ true
byte_room m j b h = by (cell_at m j) h
  where
    by : (c : Cell) → byte_in c ≡ Some b → is_room c ≡ true
    by Closed h = cc
    by Fresh h = cc
    by (Holds x) h = refl

-- after the last address there is nothing
pub far_closed : (m : Marked) (a : ℕ) → IsMarked m → 0x40000000 ≤ a → cell_at m a ≡ Closed
far_closed m a i h =
    let none : place_of m.data_size m.args_size m.mark a ≡ None = place_none m.data_size m.args_size m.mark a i.data_small i.args_small i.mark_high (omega arith) in
    let out : within 0x3FF00000 0x100000 a ≡ false = grind arith in
    rw (none, out)

-- ---- what a memory keeps
pub set_marked : (m : Marked) (low : Marks) (at b : ℕ) → IsMarked m → IsAsLong m.low low → cell_of low ≡ with_cell (cell_of m.low) at (Holds b) → IsMarked record m { low = low }
set_marked m low at b i l e = record {
  data_small = i.data_small;
  args_small = i.args_small;
  mark_low = i.mark_low;
  mark_high = i.mark_high;
  low_len = l.same_len ∙ i.low_len;
  low_most = l.same_most ∙ i.low_most;
  stack_most = i.stack_most;
  heap = λ k h h'. ap (λ f. is_room (f k)) e ∙ by k (k == at) (i.heap k h h');
}
  where
    by : (k : ℕ) (t : Bool) → room_of m.low k ≡ true → is_room (if t then Holds b else cell_of m.low k) ≡ true
    by k true h = refl
    by k false h = h

pub word_marked : (m : Marked) (low : Marks) → IsMarked m → IsAsLong m.low low → room_of low ≡ room_of m.low → IsMarked record m { low = low }
word_marked m low i l e = record {
  data_small = i.data_small;
  args_small = i.args_small;
  mark_low = i.mark_low;
  mark_high = i.mark_high;
  low_len = l.same_len ∙ i.low_len;
  low_most = l.same_most ∙ i.low_most;
  stack_most = i.stack_most;
  heap = λ k h h'. ap (λ f. f k) e ∙ i.heap k h h';
}

-- ---- the heap's mark rises
module _ (m : Marked) (low : Marks) (mark : ℕ) (i : IsMarked m) (more : m.mark < mark) (high : mark ≤ 0x30400000) (e : cell_of low ≡ with_cells (cell_of m.low) (length m.low.marks) (m.data_size + m.args_size + (mark - 0x30000000) - length m.low.marks) Fresh) where
  before_grown : (k : ℕ) → k < length m.low.marks → cell_of low k ≡ cell_of m.low k
  before_grown k h =
      let t : within (length m.low.marks) (m.data_size + m.args_size + (mark - 0x30000000) - length m.low.marks) k ≡ false = not_from (length m.low.marks) _ k h in
      ap (λ f. f k) e ∙ rw t
    where
      not_from : (lo n k : ℕ) → k < lo → within lo n k ≡ false
      not_from lo n k h = grind arith

  in_grown : (k : ℕ) → length m.low.marks ≤ k → k < m.data_size + m.args_size + (mark - 0x30000000) → cell_of low k ≡ Fresh
  in_grown k h h' =
      let t : within (length m.low.marks) (m.data_size + m.args_size + (mark - 0x30000000) - length m.low.marks) k ≡ true = from (length m.low.marks) (m.data_size + m.args_size + (mark - 0x30000000)) k h h' in
      ap (λ f. f k) e ∙ rw t
    where
      from : (lo n k : ℕ) → lo ≤ k → k < n → within lo (n - lo) k ≡ true
      from lo n k h h' = grind arith

  pub raised_marked : length low.marks ≡ m.data_size + m.args_size + (mark - 0x30000000) → low.most ≡ m.low.most → IsMarked record m { mark = mark; low = low }
  raised_marked len most = record {
    data_small = i.data_small;
    args_small = i.args_small;
    mark_low = let a = i.mark_low in omega (arith, a, more);
    mark_high = high;
    low_len = len;
    low_most = most ∙ i.low_most;
    stack_most = i.stack_most;
    heap = λ k h h'. ⊎_elim
        (λ (lt : k < length m.low.marks). ap is_room (before_grown k lt) ∙ i.heap k h (let a = i.low_len in omega (arith, a, lt)))
        (λ (ge : length m.low.marks ≤ k). ap is_room (in_grown k ge h'))
        (cases_lt k (length m.low.marks));
  }

  here_as_before : (x k : ℕ) → place_of m.data_size m.args_size m.mark x ≡ Some k → place_of m.data_size m.args_size mark x ≡ Some k
  here_as_before x k p = by_part m.data_size m.args_size m.mark x k (place_of m.data_size m.args_size mark x ≡ Some k) p
      (λ h. let t : within 0x20000000 m.data_size x ≡ true = in_range 0x20000000 m.data_size x h.0 h.1 in rw t (ap Some (sym h.2)))
      (λ h.
      let t : within 0x20000000 m.data_size x ≡ false = past 0x20000000 m.data_size x (omega (arith, h.0, i.data_small)) in
      let u : within 0x28000000 m.args_size x ≡ true = in_range 0x28000000 m.args_size x h.0 h.1 in
      rw (t, u) (ap Some (sym h.2)))
      (λ h.
      let t : within 0x20000000 m.data_size x ≡ false = past 0x20000000 m.data_size x (omega (arith, h.0, i.data_small)) in
      let u : within 0x28000000 m.args_size x ≡ false = past 0x28000000 m.args_size x (omega (arith, h.0, i.args_small)) in
      let v : within 0x30000000 (mark - 0x30000000) x ≡ true = in_range 0x30000000 (mark - 0x30000000) x h.0 (omega (arith, h.1, more, i.mark_low)) in
      rw (t, u, v) (ap Some (sym h.2)))

  in_heap_is : (x : ℕ) → in_heap mark x ≡ within 0x30000000 (mark - 0x30000000) x
  in_heap_is x = let a = i.mark_low in let z : 0x30000000 + (mark - 0x30000000) ≡ mark = omega (arith, a, more) in rw z

  -- the cell of an address before and after
  record Rises (x : ℕ) : Type 0 where
    same_byte : byte_in (cell_at record m { mark = mark; low = low } x) ≡ byte_at m x
    same_room : is_room (cell_at record m { mark = mark; low = low } x) ≡ raised (room_at m) mark x

  rises_some : (x k : ℕ) → place_of m.data_size m.args_size m.mark x ≡ Some k → Rises x
  rises_some x k p =
      let bound : k < length m.low.marks = let q = place_bound m.data_size m.args_size m.mark x k p in omega (arith, q, i.low_len) in
      let was : cell_at m x ≡ cell_of m.low k = ap (cell_in m.low (stack_cell m.stack x)) p in
      let is : cell_at record m { mark = mark; low = low } x ≡ cell_of m.low k = ap (cell_in low (stack_cell m.stack x)) (here_as_before x k p) ∙ before_grown k bound in
      record {
        same_byte = ap byte_in (is ∙ sym was);
        same_room = ap is_room (is ∙ sym was) ∙ by_part m.data_size m.args_size m.mark x k (room_at m x ≡ raised (room_at m) mark x) p
            (λ h. outside (before 0x30000000 (mark - 0x30000000) x (omega (arith, h.1, i.data_small))))
            (λ h. outside (before 0x30000000 (mark - 0x30000000) x (omega (arith, h.1, i.args_small))))
            (λ h.
            let r : room_at m x ≡ true = ap is_room was ∙ i.heap k (omega (arith, h.2)) (omega (arith, h.1, h.2)) in
            rw r);
      }
    where
      or_false : (b : Bool) → b ≡ b || false
      or_false true = refl
      or_false false = refl

      outside : within 0x30000000 (mark - 0x30000000) x ≡ false → room_at m x ≡ raised (room_at m) mark x
      outside h = or_false (room_at m x) ∙ ap (λ b. room_at m x || b) (sym (in_heap_is x ∙ h))

  rises_none : (x : ℕ) (b : Bool) → place_of m.data_size m.args_size m.mark x ≡ None → within 0x30000000 (mark - 0x30000000) x ≡ b → Rises x
  rises_none x true p h =
      let a = i.mark_low in
      let o = no_part m.data_size m.args_size m.mark x p in
      let r = from_within 0x30000000 (mark - 0x30000000) x h in
      let ge : m.mark ≤ x = above_mark m.mark x r.0 a o.2 in
      let z : place_of m.data_size m.args_size mark x ≡ Some (x - 0x30000000 + m.data_size + m.args_size) = rw (o.0, o.1, h) in
      let is : cell_at record m { mark = mark; low = low } x ≡ Fresh = ap (cell_in low (stack_cell m.stack x)) z ∙ in_grown (x - 0x30000000 + m.data_size + m.args_size) (omega (arith, ge, i.low_len)) (omega (arith, r.0, r.1)) in
      let t : within 0x3FF00000 0x100000 x ≡ false = before 0x3FF00000 0x100000 x (omega (arith, r.1, high)) in
      let was : cell_at m x ≡ Closed = ap (cell_in m.low (stack_cell m.stack x)) p ∙ rw t in
      record { same_byte = ap byte_in is ∙ sym (ap byte_in was); same_room = ap is_room is ∙ sym (ap (λ c. is_room c || in_heap mark x) was ∙ in_heap_is x ∙ h) }
  rises_none x false p h =
      let o = no_part m.data_size m.args_size m.mark x p in
      let z : place_of m.data_size m.args_size mark x ≡ None = rw (o.0, o.1, h) in
      let was : cell_at m x ≡ stack_cell m.stack x = ap (cell_in m.low (stack_cell m.stack x)) p in
      let is : cell_at record m { mark = mark; low = low } x ≡ stack_cell m.stack x = ap (cell_in low (stack_cell m.stack x)) z in
      record { same_byte = ap byte_in (is ∙ sym was); same_room = ap is_room (is ∙ sym was) ∙ or_false (room_at m x) ∙ ap (λ b. room_at m x || b) (sym (in_heap_is x ∙ h)) }
    where
      or_false : (b : Bool) → b ≡ b || false
      or_false true = refl
      or_false false = refl

  rises : (x : ℕ) (o : Option ℕ) → place_of m.data_size m.args_size m.mark x ≡ o → Rises x
  rises x (Some k) p = rises_some x k p
  rises x None p = rises_none x (within 0x30000000 (mark - 0x30000000) x) p refl

  pub raised_bytes : byte_at record m { mark = mark; low = low } ≡ byte_at m
  raised_bytes = fun_ext (λ x. (rises x (place_of m.data_size m.args_size m.mark x) refl).same_byte)

  pub raised_rooms : room_at record m { mark = mark; low = low } ≡ raised (room_at m) mark
  raised_rooms = fun_ext (λ x. (rises x (place_of m.data_size m.args_size m.mark x) refl).same_room)

-- ---- the memory of a run's start
module _ (image args : List ℕ) (low stack : Marks) (hd : length image ≤ 0x1000000) (hg : length args ≤ 0x100000) (e : cell_of low ≡ first_cells image args) (f : cell_of stack ≡ (λ _. Closed)) where
  -- the cell of an address at first
  first_cell : ℕ → Cell
  first_cell a =
      if within 0x20000000 (length image) a then Holds (slice_index image (a - 0x20000000))
      else (if within 0x28000000 (length args) a then Holds (slice_index args (a - 0x28000000)) else Closed)

  no_stack : (a : ℕ) (b : Bool) → within 0x3FF00000 0x100000 a ≡ b → stack_cell stack a ≡ Closed
  no_stack a true h = rw h (ap (λ q. q (0x3FFFFFFF - a)) f)
  no_stack a false h = rw h

  in_image : (a : ℕ) → within 0x20000000 (length image) a ≡ true → cell_of low (a - 0x20000000) ≡ Holds (slice_index image (a - 0x20000000))
  in_image a h =
      let r = from_within 0x20000000 (length image) a h in
      let t2 : within (length image) (length args) (a - 0x20000000) ≡ false = before (length image) (length args) (a - 0x20000000) (omega (arith, r.0, r.1)) in
      let t3 : within 0 (length image) (a - 0x20000000) ≡ true = in_range 0 (length image) (a - 0x20000000) (omega arith) (omega (arith, r.0, r.1)) in
      let t4 : a - 0x20000000 - 0 ≡ a - 0x20000000 = omega arith in
      ap (λ q. q (a - 0x20000000)) e ∙ rw (t2, t3, t4)

  in_args : (a : ℕ) → within 0x28000000 (length args) a ≡ true → cell_of low (a - 0x28000000 + length image) ≡ Holds (slice_index args (a - 0x28000000))
  in_args a h =
      let r = from_within 0x28000000 (length args) a h in
      let t2 : within (length image) (length args) (a - 0x28000000 + length image) ≡ true = in_range (length image) (length args) (a - 0x28000000 + length image) (omega arith) (omega (arith, r.0, r.1)) in
      let t3 : a - 0x28000000 + length image - length image ≡ a - 0x28000000 = omega arith in
      ap (λ q. q (a - 0x28000000 + length image)) e ∙ rw (t2, t3)

  cell_is : (a : ℕ) → cell_in low (stack_cell stack a) (place_of (length image) (length args) 0x30000000 a) ≡ first_cell a
  unfolding first_cell
  cell_is a = by (within 0x20000000 (length image) a) (within 0x28000000 (length args) a) refl refl
    where
      by : (b1 b2 : Bool) → within 0x20000000 (length image) a ≡ b1 → within 0x28000000 (length args) a ≡ b2 → cell_in low (stack_cell stack a) (place_of (length image) (length args) 0x30000000 a) ≡ first_cell a
      by true b2 h1 h2 = rw h1 (in_image a h1)
      by false true h1 h2 = rw (h1, h2) (in_args a h2)
      by false false h1 h2 = let h3 : within 0x30000000 (0x30000000 - 0x30000000) a ≡ false = empty 0x30000000 a in rw (h1, h2, h3) (no_stack a (within 0x3FF00000 0x100000 a) refl)

  pub first-bytes : byte_at record { data_size = length image; args_size = length args; mark = 0x30000000; low = low; stack = stack } ≡ first_bytes image args
  unfolding first_cell
  first-bytes = fun_ext (λ a. ap byte_in (cell_is a) ∙ out (within 0x20000000 (length image) a) (within 0x28000000 (length args) a) (slice_index image (a - 0x20000000)) (slice_index args (a - 0x28000000)))
    where
      out : (b1 b2 : Bool) (x y : ℕ) → byte_in (if b1 then Holds x else (if b2 then Holds y else Closed)) ≡ (if b1 then Some x else (if b2 then Some y else None))
      out true b2 x y = refl
      out false true x y = refl
      out false false x y = refl

  pub first-rooms : room_at record { data_size = length image; args_size = length args; mark = 0x30000000; low = low; stack = stack } ≡ first_room (length image) (length args)
  unfolding first_cell
  first-rooms = fun_ext (λ a. ap is_room (cell_is a) ∙ out (within 0x20000000 (length image) a) (within 0x28000000 (length args) a) (slice_index image (a - 0x20000000)) (slice_index args (a - 0x28000000)))
    where
      out : (b1 b2 : Bool) (x y : ℕ) → is_room (if b1 then Holds x else (if b2 then Holds y else Closed)) ≡ (if b1 then true else b2)
      out true b2 x y = refl
      out false true x y = refl
      out false false x y = refl
