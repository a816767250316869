-- Where any of the processors may fetch.
use Rattle.std.specs.Prelude.{ℕ, ◌+◌, ◌&&◌, Bool, nat_le, nat_lt, List, length}
use Rattle.lg_base.specs.Layout.{code_base}

-- whether an address is one of the code
abbrev pub in_code : List ℕ → ℕ → Bool
in_code code pc = nat_le code_base pc && nat_lt pc (code_base + length code)
