-- Items of any target: as they are emitted, with 0 in the fields of labels, and once the labels have places.
use Rattle.std.specs.Prelude.{◌≡◌, ℕ, ◌+◌, ◌<◌, ◌≤◌, ◌⊎◌, List, [], ◌∷◌, ◌++◌, length, drop, slice_index, Option, Some, None, ⊤}
use Rattle.std.specs.List.{All}
use Rattle.lg_base.specs.Layout.{code_base}
use Rattle.lg_buf.specs.declared.fixes.Fix.{Fix}
use Rattle.lg_buf.specs.FixFields.{fix_len}
use Rattle.lg_buf.specs.Buffers.{AreDone, IsDone, IsOutside, place_of}
use Rattle.lg_cpu.specs.Laws.{AreBytes}
use Rattle.lg_carry.specs.Blocks.{spellings}

-- ---- what an item is
-- how many instructions an item has, its bytes as they are emitted, its instructions where the labels have these addresses and it is at one, and its fixes
-- where it is at a place of the buffer
pub record Holes (L I : Type 0) : Type 0 where
  pub words : L → ℕ
  pub blank : L → List ℕ
  pub settle : (ℕ → ℕ) → ℕ → L → List I
  pub fix_of : ℕ → L → List Fix

abbrev pub words_of : {L I : Type 0} → Holes L I → L → ℕ
words_of H x = H.words x

abbrev pub blank_of : {L I : Type 0} → Holes L I → L → List ℕ
blank_of H x = H.blank x

abbrev pub fix_at : {L I : Type 0} → Holes L I → ℕ → L → List Fix
fix_at H place x = H.fix_of place x

-- the fix of an item, if it has one
abbrev pub listed : Option Fix → List Fix
listed None = []
listed (Some f) = f ∷ []

-- ---- lists of items
-- how many instructions they have
abbrev pub words_in : {L I : Type 0} → Holes L I → List L → ℕ
words_in H [] = 0
words_in H (x ∷ xs) = H.words x + words_in H xs

-- their bytes as they are emitted
abbrev pub blanks : {L I : Type 0} → Holes L I → List L → List ℕ
blanks H [] = []
blanks H (x ∷ xs) = H.blank x ++ blanks H xs

-- the instructions of those that begin at an address
abbrev pub settled : {L I : Type 0} → Holes L I → (ℕ → ℕ) → ℕ → List L → List I
settled H to at [] = []
settled H to at (x ∷ xs) = H.settle to at x ++ settled H to (at + length (H.blank x)) xs

-- the fixes of those that begin at a place of the buffer
abbrev pub fixes_of : {L I : Type 0} → Holes L I → ℕ → List L → List Fix
fixes_of H place [] = []
fixes_of H place (x ∷ xs) = H.fix_of place x ++ fixes_of H (place + length (H.blank x)) xs

-- a fact of each item
abbrev pub Each : {L : Type 0} → (L → Type 0) → List L → Type 0
Each P [] = ⊤
Each P (x ∷ xs) = P x × Each P xs

-- instructions that name no label, as items
abbrev pub ones : {L I : Type 0} → (I → L) → List I → List L
ones one [] = []
ones one (i ∷ is) = one i ∷ ones one is

-- the instructions of two lists in a row
abbrev pub WordsAppend : {L I : Type 0} → Holes L I → Type 0
WordsAppend {L} H = (xs ys : List L) → words_in H (xs ++ ys) ≡ words_in H xs + words_in H ys

-- ---- what patched bytes become
-- a fix lies within this many bytes from a place on, or has none of them
abbrev pub IsWithin : ℕ → ℕ → Fix → Type 0
IsWithin place count f = (place ≤ f.place) × (f.place + fix_len f.kind ≤ place + count)

abbrev pub IsApartFrom : ℕ → ℕ → Fix → Type 0
IsApartFrom place count f = (f.place + fix_len f.kind ≤ place) ⊎ (place + count ≤ f.place)

-- the labels that are bound have their addresses
abbrev pub HaveAddresses : List (Option ℕ) → (ℕ → ℕ) → Type 0
HaveAddresses labels to = (label target : ℕ) → place_of labels label ≡ Some target → to label ≡ code_base + target

-- an item is at a place of a buffer, its fixes are done, and its other bytes are as they were emitted
pub record IsPatched {L I : Type 0} (H : Holes L I) (labels : List (Option ℕ)) (emitted finished : List ℕ) (place : ℕ) (x : L) : Type 0 where
  pub rest : List ℕ
  pub stands : drop place emitted ≡ H.blank x ++ rest
  pub long : length finished ≡ length emitted
  pub bytes : AreBytes finished
  pub done : All (IsDone labels emitted finished) (H.fix_of place x)
  pub others : (i : ℕ) → place ≤ i → i < place + length (H.blank x) → All (IsOutside i) (H.fix_of place x) → slice_index finished i ≡ slice_index emitted i

-- the instructions are at a place of the code, and are those of the processor
pub record IsSettled {I : Type 0} (spelling : I → List ℕ) (fits : I → Type 0) (finished : List ℕ) (place behind : ℕ) (is : List I) : Type 0 where
  pub stands : drop place finished ≡ spellings spelling is ++ drop behind finished
  pub fit : All fits is

-- the fixes of an item lie within its bytes, its instructions are as many and have as many bytes as were emitted; and once its fixes are done its bytes
-- are the instructions
pub record AreHoles {L I : Type 0} (H : Holes L I) (spelling : I → List ℕ) (fits : I → Type 0) (is_item : L → Type 0) : Type 0 where
  pub within : (place : ℕ) (x : L) → is_item x → All (IsWithin place (length (H.blank x))) (H.fix_of place x)
  pub counted : (to : ℕ → ℕ) (at : ℕ) (x : L) → is_item x → length (H.settle to at x) ≡ H.words x
  pub long : (to : ℕ → ℕ) (at : ℕ) (x : L) → is_item x → length (spellings spelling (H.settle to at x)) ≡ length (H.blank x)
  pub settles : (labels : List (Option ℕ)) (emitted finished : List ℕ) (to : ℕ → ℕ) (place : ℕ) (x : L) → is_item x → HaveAddresses labels to
      → IsPatched H labels emitted finished place x → IsSettled spelling fits finished place (place + length (H.blank x)) (H.settle to (code_base + place) x)

-- the items are at a place of a buffer, with their fixes among the buffer's, and no other fix has one of their bytes
pub record StandAt {L I : Type 0} (H : Holes L I) (emitted : List ℕ) (all_fixes : List Fix) (place : ℕ) (items : List L) : Type 0 where
  pub rest : List ℕ
  pub bytes : drop place emitted ≡ blanks H items ++ rest
  pub before : List Fix
  pub behind : List Fix
  pub fixes : all_fixes ≡ before ++ (fixes_of H place items ++ behind)
  pub apart_before : All (IsApartFrom place (length (blanks H items))) before
  pub apart_after : All (IsApartFrom place (length (blanks H items))) behind

-- where the fixes of a buffer are patched, items that are in it become instructions with the addresses of the labels
abbrev pub ItemsAreSettled : {L I : Type 0} → Holes L I → (I → List ℕ) → (I → Type 0) → (L → Type 0) → Type 0
ItemsAreSettled {L} H spelling fits is_item =
    (labels : List (Option ℕ)) (fixes : List Fix) (emitted finished : List ℕ) (to : ℕ → ℕ) (place : ℕ) (items : List L)
    → AreDone labels fixes (length fixes) emitted finished → AreBytes finished → HaveAddresses labels to → Each is_item items
    → StandAt H emitted fixes place items → IsSettled spelling fits finished place (place + length (blanks H items)) (settled H to (code_base + place) items)
