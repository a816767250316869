-- How a data part is held.
use Rattle.std.specs.Prelude.{◌≤◌, length}
use Rattle.lg_tst.specs.DataParts.{DataBytes, limit_of}
use Rattle.lg_tst.specs.declared.data_part.DataPart.TheInside.{Inside}

abbrev pub view_of : Inside → DataBytes
view_of d = record { size = d.size; bytes = d.bytes.items }

-- a data part has at most 16 MiB, and its items do not pass it
pub record IsDataPart (d : Inside) : Type 0 where
  pub size : limit_of (view_of d) ≤ 16777216
  pub bytes : length d.bytes.items ≤ limit_of (view_of d)
