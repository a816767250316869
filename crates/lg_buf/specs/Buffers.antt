-- What contracts see of a code buffer, and what its fixes become.
use Rattle.std.specs.Prelude.{◌≡◌, ℕ, ◌+◌, ◌<◌, ◌≤◌, ◌⊎◌, List, length, slice_index, slice_index_or, Option, Some, None}
use Rattle.std.specs.declared.alloc.Global.{Global}
use Rattle.lg_buf.specs.declared.fixes.Fix.{Fix}
use Rattle.lg_buf.specs.FixFields.{fix_len, field_rest}
use Rattle.lg_buf.specs.Fixing.{Fixed, Fits}

-- the bytes, the size that code may have, how many bytes there is room for, which is no more, each label's place, the fixes that are still to be
-- patched, how many more fixes there can be, and the allocator
pub record Buffer : Type 0 where
  pub bytes : List ℕ
  pub size : ℕ
  pub capacity : ℕ
  pub labels : List (Option ℕ)
  pub fixes : List Fix
  pub room : ℕ
  pub allocator : Global

-- no byte belongs to both
abbrev pub AreApart : Fix → Fix → Type 0
AreApart f g = (g.place + fix_len g.kind ≤ f.place) ⊎ (f.place + fix_len f.kind ≤ g.place)

-- the byte of a place is none of the fix's
abbrev pub IsOutside : ℕ → Fix → Type 0
IsOutside i f = (i < f.place) ⊎ (f.place + fix_len f.kind ≤ i)

-- the fix ends within this many bytes
abbrev pub EndsWithin : ℕ → Fix → Type 0
EndsWithin bytes f = f.place + fix_len f.kind ≤ bytes

-- the place of a label, if it is bound
abbrev pub place_of : List (Option ℕ) → ℕ → Option ℕ
place_of labels label = slice_index_or labels label None

-- the place of a label, and 0 where it isn't bound
abbrev pub place_or_zero : Option ℕ → ℕ
place_or_zero None = 0
place_or_zero (Some place) = place

-- the fix's label is bound, and its field can lead there
abbrev pub IsReady : List (Option ℕ) → Fix → Type 0
IsReady labels f = (target : ℕ) × (place_of labels f.label.0 ≡ Some target) × Fits f.kind f.place target

-- the fix leads to the place of its label, and the bits beside its field are as they were
abbrev pub IsDone : List (Option ℕ) → List ℕ → List ℕ → Fix → Type 0
IsDone labels old new f =
    (target : ℕ) × (place_of labels f.label.0 ≡ Some target)
    × Fixed new f.place f.kind target × (field_rest f.kind new f.place ≡ field_rest f.kind old f.place)

-- the first n fixes are done, and every byte outside of them is as it was
pub record AreDone (labels : List (Option ℕ)) (fixes : List Fix) (n : ℕ) (old new : List ℕ) : Type 0 where
  pub long : length new ≡ length old
  pub others : (i : ℕ) → ((k : ℕ) → k < n → (d : Fix) → IsOutside i (slice_index_or fixes k d))
      → slice_index new i ≡ slice_index old i
  pub each : (k : ℕ) → k < n → (d : Fix) → IsDone labels old new (slice_index_or fixes k d)

-- fixes lie within this many bytes, name one of n labels, and have no byte in common
pub record AreSound (bytes labels : ℕ) (fixes : List Fix) : Type 0 where
  pub within : (k : ℕ) → k < length fixes → (d : Fix)
      → EndsWithin bytes (slice_index_or fixes k d) × ((slice_index_or fixes k d).label.0 < labels)
  pub apart : (k : ℕ) → k < length fixes → (d : Fix) → (j : ℕ) → j < k → (e : Fix)
      → AreApart (slice_index_or fixes j e) (slice_index_or fixes k d)
