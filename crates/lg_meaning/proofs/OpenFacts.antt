-- Which addresses stay open where frames come and go, the heap grows and bytes are written.
use Rattle.std.proofs.Common.{◌≡◌, ℕ, zero, suc, ◌+◌, ◌-◌, ◌<◌, ◌≤◌, Bool, true, false, List, ◌∷◌, Option, Some, None, refl, ap, ◌∙◌, arith}
use Rattle.std.specs.Prelude.{◌||◌, ◌==◌, if◌then◌else◌, ◌%◌, ◌/◌}
use Rattle.std.proofs.lemmas.Bool.{and_parts, eqb-true, or_right}
use Rattle.lg_base.specs.Spaces.{put_some, stored}
use Rattle.lg_cells.specs.Cells.{within}
use Rattle.lg_cells.specs.Memories.{without, writable}
use Rattle.lg_meaning.specs.States.{Frame, in_locals, in_any_locals, is_part}

-- ---- the parts
last_more : (x y z u v : Bool) → (u ≡ true → v ≡ true) → (x || (y || (z || u))) ≡ true → (x || (y || (z || v))) ≡ true
last_more true y z u v h e = refl
last_more false true z u v h e = refl
last_more false false true u v h e = refl
last_more false false false u v h e = h e

third_more : (x y z w u : Bool) → (z ≡ true → w ≡ true) → (x || (y || (z || u))) ≡ true → (x || (y || (w || u))) ≡ true
third_more true y z w u h e = refl
third_more false true z w u h e = refl
third_more false false true w u h e = rw (h refl) refl
third_more false false false true u h e = refl
third_more false false false false u h e = e

or_other : (x y : Bool) → x ≡ false → (x || y) ≡ true → y ≡ true
or_other true y out e = cc
or_other false y out e = e

-- a frame without locals
pub no_locals : (f : Frame) (a : ℕ) → f.locals ≡ 0 → in_locals f a ≡ false
no_locals f a none = ap (λ k. within (f.sp - 144 - k) k a) none ∙ (let none_inside : within (f.sp - 144 - 0) 0 a ≡ false = grind arith in none_inside)

module _ (d g mark : ℕ) where
  -- a frame with other locals in the place of one without any
  pub open_instead : (f f' : Frame) (fs : List Frame) (a : ℕ) → f.locals ≡ 0 → is_part d g mark (f ∷ fs) a ≡ true → is_part d g mark (f' ∷ fs) a ≡ true
  open_instead f f' fs a none e = last_more (within 0x20000000 d a) (within 0x28000000 g a) (within 0x30000000 (mark - 0x30000000) a) (in_locals f a || in_any_locals fs a) (in_locals f' a || in_any_locals fs a) (λ h. or_right (in_locals f' a) (in_any_locals fs a) (or_other (in_locals f a) (in_any_locals fs a) (no_locals f a none) h)) e

  -- one more frame
  pub open_below : (f : Frame) (fs : List Frame) (a : ℕ) → is_part d g mark fs a ≡ true → is_part d g mark (f ∷ fs) a ≡ true
  open_below f fs a e = last_more (within 0x20000000 d a) (within 0x28000000 g a) (within 0x30000000 (mark - 0x30000000) a) (in_any_locals fs a) (in_locals f a || in_any_locals fs a) (or_right (in_locals f a) (in_any_locals fs a)) e

  -- the first frame gone
  pub open_above : (f : Frame) (fs : List Frame) (a : ℕ) → in_locals f a ≡ false → is_part d g mark (f ∷ fs) a ≡ true → is_part d g mark fs a ≡ true
  open_above f fs a out e = last_more (within 0x20000000 d a) (within 0x28000000 g a) (within 0x30000000 (mark - 0x30000000) a) (in_locals f a || in_any_locals fs a) (in_any_locals fs a) (or_other (in_locals f a) (in_any_locals fs a) out) e

-- a heap that has grown
pub open_grown : (d g mark more : ℕ) (fs : List Frame) (a : ℕ) → mark ≤ more → is_part d g mark fs a ≡ true → is_part d g more fs a ≡ true
open_grown d g mark more fs a le e = third_more (within 0x20000000 d a) (within 0x28000000 g a) (within 0x30000000 (mark - 0x30000000) a) (within 0x30000000 (more - 0x30000000) a) (in_any_locals fs a) (λ (h : within 0x30000000 (mark - 0x30000000) a ≡ true). grind arith) e

third_true : (x y z u : Bool) → z ≡ true → (x || (y || (z || u))) ≡ true
third_true true y z u e = refl
third_true false true z u e = refl
third_true false false z u e = rw e refl

-- what the heap has been given
pub open_given : (d g mark more : ℕ) (fs : List Frame) (a : ℕ) → 0x30000000 ≤ mark → mark ≤ a → a < more → is_part d g more fs a ≡ true
open_given d g mark more fs a low from to = third_true (within 0x20000000 d a) (within 0x28000000 g a) (within 0x30000000 (more - 0x30000000) a) (in_any_locals fs a) (grind arith)

-- ---- bytes
pub without_there : (m : ℕ → Option ℕ) (from count a b : ℕ) → without m from count a ≡ Some b → (within from count a ≡ false) × (m a ≡ Some b)
without_there m from count a b e = by (within from count a) refl e
  where
    by : (t : Bool) → within from count a ≡ t → (if t then None else m a) ≡ Some b → (within from count a ≡ false) × (m a ≡ Some b)
    by true is e = let no : ⊥ = cc in absurd no
    by false is e = (is, e)

-- bytes are only where they may
abbrev pub StandIn : (ℕ → Bool) → (ℕ → Option ℕ) → Type 0
StandIn room m = (a b : ℕ) → m a ≡ Some b → room a ≡ true

put_stands : (room : ℕ → Bool) (m : ℕ → Option ℕ) (at byte : ℕ) → room at ≡ true → StandIn room m → StandIn room (put_some m at byte)
put_stands room m at byte ok h a b e = by (a == at) refl e
  where
    by : (t : Bool) → (a == at) ≡ t → (if t then Some byte else m a) ≡ Some b → room a ≡ true
    by true is e = ap room (eqb-true a at is) ∙ ok
    by false is e = h a b e

pub stored_stands : (room : ℕ → Bool) (width : ℕ) (m : ℕ → Option ℕ) (at value : ℕ) → writable room at width ≡ true → StandIn room m → StandIn room (stored m at width value)
unfolding stored writable
stored_stands room zero m at value ok h = h
stored_stands room (suc width) m at value ok h =
    let both = and_parts (room at) (writable room (at + 1) width) ok in
    stored_stands room width (put_some m at (value % 256)) (at + 1) (value / 256) both.1 (put_stands room m at (value % 256) both.0 h)
