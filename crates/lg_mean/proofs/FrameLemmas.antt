-- Frames and their locals.
use Rattle.std.proofs.Common.{◌≡◌, ℕ, ◌+◌, ◌-◌, ◌*◌, ◌<◌, ◌≤◌, ◌⊎◌, Bool, true, false, length, List, [], ◌∷◌, ◌++◌, map, reverse, refl, sym, ap, ◌∙◌, ⊎_elim, inl, inr, arith}
use Rattle.std.specs.Prelude.{◌||◌, if◌then◌else◌}
use Rattle.std.proofs.lemmas.List.{reverse-append}
use mathlib.Core.Path.{fun_ext}
use Rattle.lg_cells.specs.Cells.{within}
use Rattle.lg_cells.specs.Memories.{first_room}
use Rattle.lg_meaning.specs.States.{Frame, in_locals, in_any_locals, is_part}
use Rattle.lg_mean.specs.Machines.{AreStacked}

pub stacked_len : (f : Frame) (fs : List Frame) → AreStacked f fs → f.sp + 272 * length fs ≤ 0x40000000
stacked_len f [] h = omega (arith, h)
stacked_len f (g ∷ fs) h = omega (arith, h.0, h.1, stacked_len g fs h.2)

or_cases : (b c : Bool) → b || c ≡ true → (b ≡ true) ⊎ (c ≡ true)
or_cases true c h = inl refl
or_cases false c h = inr h

pub inside : (lo n a : ℕ) → within lo n a ≡ true → (lo ≤ a) × (a < lo + n)
inside lo n a h = (grind arith, grind arith)

-- the locals of the frames after the top one lie above its call
pub stacked_above : (f : Frame) (fs : List Frame) (a : ℕ) → AreStacked f fs → in_any_locals fs a ≡ true → f.sp ≤ a
stacked_above f [] a h e = cc
stacked_above f (g ∷ fs) a h e =
    ⊎_elim
    (λ (l : in_locals g a ≡ true). let i = inside (g.sp - 144 - g.locals) g.locals a l in omega (arith, h.0, h.1, i.0, i.1))
    (λ (r : in_any_locals fs a ≡ true). omega (arith, h.0, stacked_above g fs a h.2 r))
    (or_cases (in_locals g a) (in_any_locals fs a) e)

pub none_inside : (lo a : ℕ) → within lo 0 a ≡ false
none_inside lo a = grind arith

outside : (lo n a : ℕ) → lo + n ≤ a → within lo n a ≡ false
outside lo n a h = grind arith

or_at : (b x y z w : Bool) → x || (y || (z || (b || w))) ≡ (if b then true else x || (y || (z || w)))
or_at true true y z w = refl
or_at true false true z w = refl
or_at true false false true w = refl
or_at true false false false w = refl
or_at false x y z w = refl

-- the top frame gets locals
pub part_begin : (d g mark : ℕ) (f f' : Frame) (fs : List Frame) (lo n : ℕ) → f.locals ≡ 0 → ((a : ℕ) → in_locals f' a ≡ within lo n a) → (λ a. if within lo n a then true else is_part d g mark (f ∷ fs) a) ≡ is_part d g mark (f' ∷ fs)
part_begin d g mark f f' fs lo n z h = fun_ext (λ a.
    let e : in_locals f a ≡ false = ap (λ k. within (f.sp - 144 - k) k a) z ∙ none_inside (f.sp - 144 - 0) a in
    let l = h a in
    rw (e, l) (sym (or_at (within lo n a) (within 0x20000000 d a) (within 0x28000000 g a) (within 0x30000000 (mark - 0x30000000) a) (in_any_locals fs a))))

-- a new top frame has no locals yet
pub part_enter : (d g mark : ℕ) (f : Frame) (fs : List Frame) → f.locals ≡ 0 → is_part d g mark (f ∷ fs) ≡ is_part d g mark fs
part_enter d g mark f fs z = fun_ext (λ a. let e : in_locals f a ≡ false = ap (λ k. within (f.sp - 144 - k) k a) z ∙ none_inside (f.sp - 144 - 0) a in rw e)

pub low_part : (d g mark a : ℕ) → d ≤ 0x1000000 → g ≤ 0x100000 → mark ≤ 0x30400000 → 0x3FF00000 ≤ a → (within 0x20000000 d a ≡ false) × (within 0x28000000 g a ≡ false) × (within 0x30000000 (mark - 0x30000000) a ≡ false)
low_part d g mark a hd hg hm h = (outside 0x20000000 d a (omega arith), outside 0x28000000 g a (omega arith), outside 0x30000000 (mark - 0x30000000) a (omega arith))

-- the top frame's locals go away
pub part_leave : (d g mark : ℕ) (f : Frame) (fs : List Frame) → d ≤ 0x1000000 → g ≤ 0x100000 → mark ≤ 0x30400000 → AreStacked f fs → 0x3FF00000 + 144 + f.locals ≤ f.sp → (λ a. if within (f.sp - 144 - f.locals) f.locals a then false else is_part d g mark (f ∷ fs) a) ≡ is_part d g mark fs
part_leave d g mark f fs hd hg hm st room = fun_ext (λ a. by a (in_locals f a) refl)
  where
    last : (a : ℕ) → a < f.sp → (b : Bool) → in_any_locals fs a ≡ b → b ≡ false
    last a lt false h = refl
    last a lt true h = absurd (omega (arith, lt, stacked_above f fs a st h))

    by : (a : ℕ) (b : Bool) → in_locals f a ≡ b → (if b then false else within 0x20000000 d a || (within 0x28000000 g a || (within 0x30000000 (mark - 0x30000000) a || (b || in_any_locals fs a)))) ≡ is_part d g mark fs a
    by a false h = refl
    by a true h =
        let i = inside (f.sp - 144 - f.locals) f.locals a h in
        let l = low_part d g mark a hd hg hm (omega (arith, i.0, room)) in
        let k = last a (omega (arith, i.1, room)) (in_any_locals fs a) refl in
        rw (l.0, l.1, l.2, k)

pub map_push : {A B : Type 0} (f : A → B) (xs : List A) (x : A) → map f (reverse (xs ++ x ∷ [])) ≡ f x ∷ map f (reverse xs)
map_push f xs x = ap (λ l. map f l) (reverse-append xs (x ∷ []))

pub stacked_top : (f g : Frame) (fs : List Frame) → f.sp ≡ g.sp → AreStacked f fs → AreStacked g fs
stacked_top f g [] e h = omega (arith, e, h)
stacked_top f g (k ∷ fs) e h = (omega (arith, h.0, e), h.1, h.2)

-- at the start there are the data part and the argument part alone
pub first_parts : (d g heap : ℕ) (f : Frame) → heap ≡ 0x30000000 → f.locals ≡ 0 → first_room d g ≡ is_part d g heap (f ∷ [])
first_parts d g heap f h e = fun_ext (λ a. by a)
  where
    by : (a : ℕ) → first_room d g a ≡ is_part d g heap (f ∷ []) a
    by a = rw (h, e, none_inside 0x30000000 a, none_inside (f.sp - 144 - 0) a) (last (within 0x20000000 d a) (within 0x28000000 g a))
      where
        last : (b c : Bool) → (if b then true else c) ≡ b || (c || (false || (false || false)))
        last true c = refl
        last false true = refl
        last false false = refl
