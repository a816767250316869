-- How far the calls of a source have read.
use Rattle.std.specs.Prelude.{◌≡◌, ◌⊎◌, ℕ, ◌==◌, Bool, true, false, ◌||◌, Result, Ok, Err, if◌then◌else◌}
use Rattle.lg_io.specs.Counts.{next_count}
use Rattle.lg_io.specs.declared.reading.Reading.{Reading}

abbrev pub unread : Reading
unread = record { selects = 0; late = 0; is_over = false }

-- a text was asked for: where it was selected, it is read from its start
abbrev pub behind_select : Reading → Bool → Reading
behind_select reading selected =
    record { selects = next_count reading.selects; late = reading.late; is_over = if selected then false else reading.is_over }

-- the selected text was read: a read after one that found nothing or failed is late
abbrev pub behind_read : Reading → Bool → Reading
behind_read reading ends =
    record { selects = reading.selects; late = if reading.is_over then next_count reading.late else reading.late; is_over = ends || reading.is_over }

-- after a read that found nothing or failed, nothing more is to be read
abbrev pub ends_reading : {E : Type 0} → Result ℕ E → Bool
ends_reading (Ok count) = count == 0
ends_reading (Err fault) = true

-- no text was asked for, and the one that was selected was not read after its end or a fault
pub record IsReadOn (before now : Reading) : Type 0 where
  pub selects : now.selects ≡ before.selects
  pub late : now.late ≡ before.late

-- a text was asked for once, and none was read after its end or a fault
pub record IsAskedOnce (before now : Reading) : Type 0 where
  pub selects : now.selects ≡ next_count before.selects
  pub late : now.late ≡ before.late

-- at most one text was asked for, once, and it was read from its start on and not after its end or a fault
abbrev pub IsReadOnce : Reading → Reading → Type 0
IsReadOnce before now = (now ≡ before) ⊎ IsAskedOnce before now
