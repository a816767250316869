-- What a load puts into a register.
use Rattle.std.specs.Prelude.{ℕ, Bool, if◌then◌else◌}
use Rattle.lg_base.specs.Wide.{sign_part_of}

-- the number in this many bytes, extended by its sign or with zeros
abbrev pub extended_by : Bool → ℕ → ℕ → ℕ
extended_by signed width value = if signed then sign_part_of value width else value
