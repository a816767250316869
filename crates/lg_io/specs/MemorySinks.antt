-- A sink in memory: what it answers and becomes.
use Rattle.std.specs.Prelude.{ℕ, ◌-◌, ◌==◌, ◌||◌, min, Bool, List, ◌++◌, length, take, Result, Ok, Err, if◌then◌else◌}
use Rattle.lg_io.specs.Calls.{Calls, fails_next, counted}
use Rattle.lg_io.specs.declared.sink.SinkFault.{SinkFault}
use Rattle.lg_io.specs.declared.sink.SinkFault.TheVariants.{Failed}

-- the bytes taken, the room for more, and the calls
pub record SinkState : Type 0 where
  pub taken : List ℕ
  pub room : ℕ
  pub calls : Calls

-- a write fails where it is to fail, and where no room is left
abbrev pub write_fails : SinkState → Bool
write_fails sink = fails_next sink.calls || sink.room == 0

-- a write that does not fail takes as many bytes as there is room for
abbrev pub write_answer : SinkState → List ℕ → Result ℕ SinkFault
write_answer sink bytes = if write_fails sink then Err Failed else Ok (min (length bytes) sink.room)

abbrev pub after_write : SinkState → List ℕ → SinkState
after_write sink bytes =
    let count = if write_fails sink then 0 else min (length bytes) sink.room in
    record { taken = sink.taken ++ take count bytes; room = sink.room - count; calls = counted sink.calls (write_fails sink) }
