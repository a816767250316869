-- Bytes and marks of a part, as they are read, written and grown.
use Rattle.std.proofs.Common.{◌≡◌, ◌≢◌, ℕ, zero, suc, ◌+◌, ◌-◌, ◌*◌, ◌/◌, ◌%◌, ◌<◌, ◌≤◌, Bool, true, false, length, List, ◌++◌, Option, Some, None, refl, sym, ap, ◌∙◌, ⊎_elim, arith, get_or-set_other, get_or-set_same}
use Rattle.std.specs.Prelude.{◌==◌, if◌then◌else◌, is_some, is_ok, IsOk, IsTrue, Ok, Err, Result, IfSome, slice_index, slice_index_or, slice_set}
use Rattle.std.proofs.lemmas.Bool.{cases_eq, cases_lt}
use Rattle.std.proofs.lemmas.List.{get_or_past, get_or_append_left, get_or-append_right}
use mathlib.Core.Path.{fun_ext}
use Rattle.lg_base.specs.Spaces.{put_some, mapped, number_at, byte_or_zero, loaded, stored, written, with_byte}
use Rattle.lg_base.proofs.SpaceLemmas.{number_at-shift, mapped-all}
use Rattle.lg_cells.specs.declared.cell.Cell.TheVariants.{Closed, Fresh, Holds}
use Rattle.lg_cells.specs.Cells.{Marks, cell_by, cell_of, byte_in, byte_of, is_room, room_of, within, with_marks, with_cell, with_cells, with_bytes, AreRooms, AreWritten, IsWordIn}

-- ---- marks that all say that a byte was written
full : ℕ → ℕ
full zero = 0
full (suc n) = 2 + 256 * full n

first_digit : (x y n : ℕ) → x < 256 → x + 256 * y ≡ 2 + 256 * n → (x ≡ 2) × (y ≡ n)
first_digit x y n h e = (omega arith, omega arith)

full_all : (marks : List ℕ) (at w : ℕ) → ((j : ℕ) → slice_index marks j < 256) → number_at (slice_index marks) at w ≡ full w → AreWritten marks at w
unfolding full number_at
full_all marks at zero h e i lt = absurd (omega arith)
full_all marks at (suc w) h e zero lt =
    let d = first_digit (slice_index marks at) (number_at (slice_index marks) (at + 1) w) (full w) (h at) e in
    let z : at + 0 ≡ at = omega arith in
    rw z d.0
full_all marks at (suc w) h e (suc i) lt =
    let d = first_digit (slice_index marks at) (number_at (slice_index marks) (at + 1) w) (full w) (h at) e in
    let z : at + suc i ≡ at + 1 + i = omega arith in
    rw z (full_all marks (at + 1) w h d.1 i (omega arith))

pub full_2 : (marks : List ℕ) (at : ℕ) → ((j : ℕ) → slice_index marks j < 256) → number_at (slice_index marks) at 2 ≡ 0x0202 → AreWritten marks at 2
unfolding full
full_2 marks at h e = full_all marks at 2 h e

pub full_4 : (marks : List ℕ) (at : ℕ) → ((j : ℕ) → slice_index marks j < 256) → number_at (slice_index marks) at 4 ≡ 0x02020202 → AreWritten marks at 4
unfolding full
full_4 marks at h e = full_all marks at 4 h e

pub full_8 : (marks : List ℕ) (at : ℕ) → ((j : ℕ) → slice_index marks j < 256) → number_at (slice_index marks) at 8 ≡ 0x0202020202020202 → AreWritten marks at 8
unfolding full
full_8 marks at h e = full_all marks at 8 h e

pub full_1 : (marks : List ℕ) (at : ℕ) → slice_index marks at ≡ 2 → AreWritten marks at 1
full_1 marks at e i lt = let z : at + i ≡ at = omega arith in rw z e

-- ---- numbers
holds_at : (m : Marks) (k : ℕ) → slice_index m.marks k ≡ 2 → byte_of m k ≡ Some (slice_index m.bytes k)
holds_at m k e = rw e

pub word_loaded : (m : Marks) (at w word : ℕ) → IsWordIn m.bytes m.marks at w word → loaded (byte_of m) at w ≡ Some word
word_loaded m at w word h =
    let each : (j : ℕ) → j < w → byte_of m (at + j) ≡ Some (slice_index m.bytes (at + j)) = λ j lt. holds_at m (at + j) (h.all j lt) in
    let all : mapped (byte_of m) at w ≡ true = mapped-all (byte_of m) at w (λ j le lt. let z : j ≡ at + (j - at) = omega arith in ap (λ k. is_some (byte_of m k)) z ∙ ap is_some (each (j - at) (omega arith))) in
    let same : number_at (byte_or_zero (byte_of m)) at w ≡ number_at (slice_index m.bytes) at w = number_at-shift (byte_or_zero (byte_of m)) (slice_index m.bytes) at at w (λ j lt. rw (each j lt) refl) in
    ap (λ b. if b then Some (number_at (byte_or_zero (byte_of m)) at w) else None) all ∙ ap Some (same ∙ sym h.word_is)

byte_by : (ℕ → ℕ) → (ℕ → ℕ) → ℕ → Option ℕ
byte_by bytes marks k = byte_in (cell_by (marks k) (bytes k))

one_stored : (bytes marks : ℕ → ℕ) (at b : ℕ) → marks at ≡ 2 → byte_by (with_byte bytes at b) marks ≡ put_some (byte_by bytes marks) at b
unfolding byte_by
one_stored bytes marks at b e = fun_ext (λ k. ⊎_elim
    (λ (h : k ≡ at). let t : (k == at) ≡ true = grind (arith, h) in let f : marks k ≡ 2 = ap marks h ∙ e in rw (f, t))
    (λ (h : k ≢ at). let t : (k == at) ≡ false = grind (arith, h) in rw t)
    (cases_eq k at))

all_stored : (bytes marks : ℕ → ℕ) (at w v : ℕ) → ((i : ℕ) → i < w → marks (at + i) ≡ 2) → byte_by (written bytes at w v) marks ≡ stored (byte_by bytes marks) at w v
unfolding written stored
all_stored bytes marks at zero v h = refl
all_stored bytes marks at (suc w) v h =
    let here : marks at ≡ 2 = ap marks (let z : at ≡ at + 0 = omega arith in z) ∙ h 0 (omega arith) in
    all_stored (with_byte bytes at (v % 256)) marks (at + 1) w (v / 256) (λ i lt. ap marks (let z : at + 1 + i ≡ at + suc i = omega arith in z) ∙ h (suc i) (omega arith))
    ∙ ap (λ f. stored f (at + 1) w (v / 256)) (one_stored bytes marks at (v % 256) here)

pub word_stored : (m n : Marks) (at w v : ℕ) → n.marks ≡ m.marks → AreWritten m.marks at w → slice_index n.bytes ≡ written (slice_index m.bytes) at w v → byte_of n ≡ stored (byte_of m) at w v
unfolding byte_by
word_stored m n at w v e h f =
    ap (λ (l : List ℕ). byte_by (slice_index n.bytes) (slice_index l)) e
    ∙ ap (λ g. byte_by g (slice_index m.marks)) f
    ∙ all_stored (slice_index m.bytes) (slice_index m.marks) at w v h

room_by : (mark b c : ℕ) → is_room (cell_by mark b) ≡ is_room (cell_by mark c)
room_by mark b c = by (mark == 0) (mark == 1)
  where
    by : (t u : Bool) → is_room (if t then Closed else (if u then Fresh else Holds b)) ≡ is_room (if t then Closed else (if u then Fresh else Holds c))
    by true u = refl
    by false true = refl
    by false false = refl

pub same_rooms : (m n : Marks) → n.marks ≡ m.marks → room_of n ≡ room_of m
same_rooms m n e = fun_ext (λ k. ap (λ (l : List ℕ). is_room (cell_by (slice_index l k) (slice_index n.bytes k))) e ∙ room_by (slice_index m.marks k) (slice_index n.bytes k) (slice_index m.bytes k))

-- ---- places with a mark
pub with_marks-none : (marks : ℕ → ℕ) (from mark : ℕ) → marks ≡ with_marks marks from 0 mark
with_marks-none marks from mark = fun_ext (λ k. let t : within from 0 k ≡ false = grind arith in rw t)

pub with_marks-next : (marks : List ℕ) (f : ℕ → ℕ) (from i mark : ℕ) → from + i < length marks → slice_index marks ≡ with_marks f from i mark → slice_index (slice_set marks (from + i) mark) ≡ with_marks f from (i + 1) mark
with_marks-next marks f from i mark h e = fun_ext (λ j. ⊎_elim
    (λ (at : j ≡ from + i). let p : slice_index (slice_set marks (from + i) mark) j ≡ mark = rw at (get_or-set_same marks (from + i) mark 0 h) in let t : within from (i + 1) j ≡ true = grind (arith, at) in p ∙ rw t)
    (λ (ne : j ≢ from + i). let p : slice_index (slice_set marks (from + i) mark) j ≡ slice_index marks j = get_or-set_other marks (from + i) j mark 0 ne in let t : within from (i + 1) j ≡ within from i j = grind (arith, ne) in p ∙ ap (λ f. f j) e ∙ rw t)
    (cases_eq j (from + i)))

-- a mark without a byte
bare : (mark b : ℕ) → mark < 2 → cell_by mark b ≡ cell_by mark 0
bare zero b h = refl
bare (suc zero) b h = refl
bare (suc (suc mark)) b h = absurd (omega arith)

pub marked_cells : (m n : Marks) (from count mark : ℕ) → mark < 2 → n.bytes ≡ m.bytes → slice_index n.marks ≡ with_marks (slice_index m.marks) from count mark → cell_of n ≡ with_cells (cell_of m) from count (cell_by mark 0)
marked_cells m n from count mark h e f = fun_ext (λ k.
    ap (λ (g : ℕ → ℕ). cell_by (g k) (slice_index n.bytes k)) f
    ∙ ap (λ (l : List ℕ). cell_by (with_marks (slice_index m.marks) from count mark k) (slice_index l k)) e
    ∙ by k (within from count k))
  where
    by : (k : ℕ) (t : Bool) → cell_by (if t then mark else slice_index m.marks k) (slice_index m.bytes k) ≡ (if t then cell_by mark 0 else cell_by (slice_index m.marks k) (slice_index m.bytes k))
    by k true = bare mark (slice_index m.bytes k) h
    by k false = refl

-- ---- one cell
pub set_cells : (m n : Marks) (at b : ℕ) → at < length m.bytes → at < length m.marks → n.bytes ≡ slice_set m.bytes at b → n.marks ≡ slice_set m.marks at 2 → cell_of n ≡ with_cell (cell_of m) at (Holds b)
set_cells m n at b h h' e f = fun_ext (λ k.
    ap (λ (l : List ℕ). cell_by (slice_index l k) (slice_index n.bytes k)) f
    ∙ ap (λ (l : List ℕ). cell_by (slice_index (slice_set m.marks at 2) k) (slice_index l k)) e
    ∙ ⊎_elim
    (λ (p : k ≡ at).
    let t : (k == at) ≡ true = grind (arith, p) in
    let x : slice_index (slice_set m.marks at 2) k ≡ 2 = rw p (get_or-set_same m.marks at 2 0 h') in
    let y : slice_index (slice_set m.bytes at b) k ≡ b = rw p (get_or-set_same m.bytes at b 0 h) in
    rw (x, y, t))
    (λ (p : k ≢ at).
    let t : (k == at) ≡ false = grind (arith, p) in
    let x : slice_index (slice_set m.marks at 2) k ≡ slice_index m.marks k = get_or-set_other m.marks at k 2 0 p in
    let y : slice_index (slice_set m.bytes at b) k ≡ slice_index m.bytes k = get_or-set_other m.bytes at k b 0 p in
    rw (x, y, t))
    (cases_eq k at))

-- ---- more places
pub ok_then : {A E X : Type 0} (r : Result A E) (x y : X) → IsOk r → (if is_ok r then x else y) ≡ x
ok_then (Ok a) x y h = refl
ok_then (Err e) x y h = cc

pub record IsLonger (old new : List ℕ) (n v : ℕ) : Type 0 where
  pub len_is : length new ≡ n
  pub before : (k d : ℕ) → k < n → k < length old → slice_index_or new k d ≡ slice_index_or old k d
  pub after : (k d : ℕ) → length old ≤ k → k < n → slice_index_or new k d ≡ v

longer_at : (old new : List ℕ) (n v k : ℕ) → length old ≤ n → IsLonger old new n v → slice_index new k ≡ (if within (length old) (n - length old) k then v else slice_index old k)
longer_at old new n v k le h = ⊎_elim
    (λ (lt : k < length old). let t : within (length old) (n - length old) k ≡ false = grind arith in h.before k 0 (omega arith) lt ∙ rw t)
    (λ (ge : length old ≤ k). ⊎_elim
    (λ (lt : k < n). let t : within (length old) (n - length old) k ≡ true = grind arith in h.after k 0 ge lt ∙ rw t)
    (λ (past : n ≤ k). let t : within (length old) (n - length old) k ≡ false = grind arith in get_or_past new k 0 (omega (arith, h.len_is)) ∙ rw t (sym (get_or_past old k 0 ge)))
    (cases_lt k n))
    (cases_lt k (length old))

pub grown_cells : (m n : Marks) (len mark : ℕ) → mark < 2 → length m.bytes ≡ length m.marks → length m.marks ≤ len → IsLonger m.bytes n.bytes len 0 → IsLonger m.marks n.marks len mark → cell_of n ≡ with_cells (cell_of m) (length m.marks) (len - length m.marks) (cell_by mark 0)
grown_cells m n len mark h l le b f = fun_ext (λ k.
    let x = longer_at m.marks n.marks len mark k le f in
    let y : slice_index n.bytes k ≡ (if within (length m.marks) (len - length m.marks) k then 0 else slice_index m.bytes k) = rw l at (longer_at m.bytes n.bytes len 0 k (omega arith) b) in
    rw (x, y) (by k (within (length m.marks) (len - length m.marks) k)))
  where
    by : (k : ℕ) (t : Bool) → cell_by (if t then mark else slice_index m.marks k) (if t then 0 else slice_index m.bytes k) ≡ (if t then cell_by mark 0 else cell_by (slice_index m.marks k) (slice_index m.bytes k))
    by k true = refl
    by k false = refl

-- a place that can be written is one of those that there are
pub room_is_place : (m : Marks) (k : ℕ) → room_of m k ≡ true → k < length m.marks
room_is_place m k h = ⊎_elim
    (λ lt. lt)
    (λ (ge : length m.marks ≤ k). let z : slice_index m.marks k ≡ 0 = get_or_past m.marks k 0 ge in absurd (never z h))
    (cases_lt k (length m.marks))
  where
    never : slice_index m.marks k ≡ 0 → is_room (cell_by (slice_index m.marks k) (slice_index m.bytes k)) ≡ true → ⊥
    never z e = let f : is_room (cell_by 0 (slice_index m.bytes k)) ≡ true = rw z at e in cc

-- ---- from the slices to the part
pub some_word : (m : Marks) (bytes marks : List ℕ) (at w : ℕ) (o : Option ℕ) → bytes ≡ m.bytes → marks ≡ m.marks → IfSome o (λ x. IsWordIn bytes marks at w x) → IfSome o (λ x. loaded (byte_of m) at w ≡ Some x)
some_word m bytes marks at w None e f h = h
some_word m bytes marks at w (Some x) e f h = word_loaded m at w x record { all = rw f at h.all; word_is = rw e at h.word_is }

pub written_rooms : (m : Marks) (marks : List ℕ) (at w : ℕ) → marks ≡ m.marks → AreWritten marks at w → AreRooms m at w
written_rooms m marks at w e h i lt = let f : slice_index m.marks (at + i) ≡ 2 = ap (λ (l : List ℕ). slice_index l (at + i)) (sym e) ∙ h i lt in rw f

-- places after the last one are closed
pub beyond : (m : Marks) (k : ℕ) → length m.marks ≤ k → cell_of m k ≡ Closed
beyond m k h = let z : slice_index m.marks k ≡ 0 = get_or_past m.marks k 0 h in rw z

pub reached : (m n : Marks) (len : ℕ) → cell_of n ≡ with_cells (cell_of m) (length m.marks) (len - length m.marks) Closed → cell_of n ≡ cell_of m
reached m n len e = e ∙ fun_ext (λ k. by k (within (length m.marks) (len - length m.marks) k) refl)
  where
    by : (k : ℕ) (t : Bool) → within (length m.marks) (len - length m.marks) k ≡ t → with_cells (cell_of m) (length m.marks) (len - length m.marks) Closed k ≡ cell_of m k
    by k true h = let le : length m.marks ≤ k = grind arith in rw h (sym (beyond m k le))
    by k false h = rw h

-- ---- bytes after the others
append_at : (l bytes : List ℕ) (k : ℕ) → slice_index (l ++ bytes) k ≡ (if within (length l) (length bytes) k then slice_index bytes (k - length l) else slice_index l k)
append_at l bytes k = ⊎_elim
    (λ (lt : k < length l). let t : within (length l) (length bytes) k ≡ false = grind arith in get_or_append_left l bytes 0 k lt ∙ rw t)
    (λ (ge : length l ≤ k). get_or-append_right l bytes (length l) k 0 refl ge ∙ ⊎_elim
    (λ (lt : k < length l + length bytes). let t : within (length l) (length bytes) k ≡ true = grind arith in rw t)
    (λ (past : length l + length bytes ≤ k). let t : within (length l) (length bytes) k ≡ false = grind arith in get_or_past bytes (k - length l) 0 (omega arith) ∙ rw t (sym (get_or_past l k 0 ge)))
    (cases_lt k (length l + length bytes)))
    (cases_lt k (length l))

pub appended_cells : (m n : Marks) (bytes : List ℕ) → length m.bytes ≡ length m.marks → n.bytes ≡ m.bytes ++ bytes → IsLonger m.marks n.marks (length m.marks + length bytes) 2 → cell_of n ≡ with_bytes (cell_of m) (length m.marks) bytes (length bytes)
appended_cells m n bytes l e f = fun_ext (λ k.
    let z : length m.marks + length bytes - length m.marks ≡ length bytes = omega arith in
    let x : slice_index n.marks k ≡ (if within (length m.marks) (length bytes) k then 2 else slice_index m.marks k) = rw z at (longer_at m.marks n.marks (length m.marks + length bytes) 2 k (omega arith) f) in
    let y : slice_index n.bytes k ≡ (if within (length m.marks) (length bytes) k then slice_index bytes (k - length m.marks) else slice_index m.bytes k) = ap (λ (b : List ℕ). slice_index b k) e ∙ rw l at (append_at m.bytes bytes k) in
    rw (x, y) (by k (within (length m.marks) (length bytes) k)))
  where
    by : (k : ℕ) (t : Bool) → cell_by (if t then 2 else slice_index m.marks k) (if t then slice_index bytes (k - length m.marks) else slice_index m.bytes k) ≡ (if t then Holds (slice_index bytes (k - length m.marks)) else cell_by (slice_index m.marks k) (slice_index m.bytes k))
    by k true = refl
    by k false = refl

pub put_or_not : (m n : Marks) (done : Bool) (at w v : ℕ) → n.marks ≡ m.marks → (IsTrue done → AreWritten m.marks at w) → (IsTrue done → slice_index n.bytes ≡ written (slice_index m.bytes) at w v) → (done ≡ false → n.bytes ≡ m.bytes) → byte_of n ≡ (if done then stored (byte_of m) at w v else byte_of m)
put_or_not m n true at w v e h f g = word_stored m n at w v e (h refl) (f refl)
put_or_not m n false at w v e h f g = fun_ext (λ k. rw (e, g refl))
