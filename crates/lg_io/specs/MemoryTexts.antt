-- Texts in memory: what they answer and become.
use Rattle.std.specs.Prelude.{ℕ, ◌||◌, min, Bool, List, [], ◌++◌, length, take, drop, unwrap_or, is_none, is_ok, Result, Ok, Err, if◌then◌else◌}
use Rattle.lg_io.specs.Calls.{Calls, fails_next, counted}
use Rattle.lg_io.specs.NamedTexts.{NamedTexts, text_under}
use Rattle.lg_io.specs.Readings.{behind_read, behind_select, ends_reading, unread}
use Rattle.lg_io.specs.declared.reading.Reading.{Reading}
use Rattle.lg_io.specs.declared.texts.TextFault.{TextFault}
use Rattle.lg_io.specs.declared.texts.TextFault.TheVariants.{Failed}

-- the texts by name, what is left of the selected one, how far it is read, and the calls
pub record TextsState : Type 0 where
  pub held : NamedTexts
  pub left : List ℕ
  pub reading : Reading
  pub calls : Calls

-- no texts, and no call yet; those of these numbers are to fail
abbrev pub untouched : List ℕ → TextsState
untouched fail_at = record { held = []; left = []; reading = unread; calls = record { fail_at = fail_at; made = 0; faults = 0 } }

-- selecting fails where it is to fail, and where no text has the name
abbrev pub select_fails : TextsState → List ℕ → Bool
select_fails texts name = fails_next texts.calls || is_none (text_under texts.held name)

abbrev pub select_answer : TextsState → List ℕ → Result Unit TextFault
select_answer texts name = if select_fails texts name then Err Failed else Ok tt

abbrev pub after_select : TextsState → List ℕ → TextsState
after_select texts name =
    let fails = select_fails texts name in
    record {
      held = texts.held;
      left = if fails then texts.left else unwrap_or (text_under texts.held name) [];
      reading = behind_select texts.reading (is_ok (select_answer texts name));
      calls = counted texts.calls fails;
    }

-- a read that does not fail gives as many bytes as the slice and what is left allow
abbrev pub read_answer : TextsState → List ℕ → Result ℕ TextFault
read_answer texts into = if fails_next texts.calls then Err Failed else Ok (min (length texts.left) (length into))

-- how many bytes a read gives
abbrev pub read_count : TextsState → List ℕ → ℕ
read_count texts into = if fails_next texts.calls then 0 else min (length texts.left) (length into)

abbrev pub after_read : TextsState → List ℕ → TextsState
after_read texts into =
    record {
      held = texts.held;
      left = drop (read_count texts into) texts.left;
      reading = behind_read texts.reading (ends_reading (read_answer texts into));
      calls = counted texts.calls (fails_next texts.calls);
    }

-- the slice, whose first bytes are those that are read
abbrev pub read_into : TextsState → List ℕ → List ℕ
read_into texts into = take (read_count texts into) texts.left ++ drop (read_count texts into) into
