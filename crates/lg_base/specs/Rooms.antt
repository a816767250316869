-- Lists with reserved room.
use Rattle.std.specs.Prelude.{ℕ, List}

-- a list, and how many members it has room for besides
pub record Roomy : Type 0 where
  pub items : List ℕ
  pub room : ℕ
