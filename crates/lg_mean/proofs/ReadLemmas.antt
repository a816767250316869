-- A number that was written is read only where each of its bytes lies in a part.
use Rattle.std.proofs.Common.{◌≡◌, ℕ, zero, suc, ◌+◌, Bool, true, false, Option, Some, None, refl}
use Rattle.std.specs.Prelude.{is_some, if◌then◌else◌}
use Rattle.std.proofs.lemmas.Bool.{and_parts}
use Rattle.lg_base.specs.Spaces.{mapped, loaded, number_at, byte_or_zero}
use Rattle.lg_cells.specs.Memories.{writable}

some_of : (o : Option ℕ) → is_some o ≡ true → (b : ℕ) × (o ≡ Some b)
some_of None h = cc
some_of (Some b) h = (b, refl)

mapped_writable : (m : ℕ → Option ℕ) (p : ℕ → Bool) (a w : ℕ) → ((j b : ℕ) → m j ≡ Some b → p j ≡ true) → mapped m a w ≡ true → writable p a w ≡ true
unfolding mapped writable
mapped_writable m p a zero h e = refl
mapped_writable m p a (suc w) h e =
    let s = some_of (m a) (and_parts (is_some (m a)) (mapped m (a + 1) w) e).0 in
    rw (h a s.0 s.1) (mapped_writable m p (a + 1) w h (and_parts (is_some (m a)) (mapped m (a + 1) w) e).1)

pub loaded_is_read : (m : ℕ → Option ℕ) (p : ℕ → Bool) (a w : ℕ) → ((j b : ℕ) → m j ≡ Some b → p j ≡ true) → loaded m a w ≡ (if writable p a w then loaded m a w else None)
loaded_is_read m p a w h = by (mapped m a w) refl
  where
    none_either : (b : Bool) → ◌≡◌ {A = Option ℕ} None (if b then None else None)
    none_either true = refl
    none_either false = refl

    by : (t : Bool) → mapped m a w ≡ t → (if t then Some (number_at (byte_or_zero m) a w) else None) ≡ (if writable p a w then (if t then Some (number_at (byte_or_zero m) a w) else None) else None)
    by true e = rw (mapped_writable m p a w h e) refl
    by false e = none_either (writable p a w)
