-- When a count rose.
use Rattle.std.proofs.Common.{◌⊎◌, ℕ, ◌-◌, ◌^◌, ◌<◌, ◌≤◌, ⊎_elim, inl, inr, arith}
use Rattle.std.proofs.lemmas.Bool.{cases_lt}
use Rattle.lg_io.specs.Counts.{Rose}

-- it is greater than before, or is at its last number
pub Rose-cases : (before now : ℕ) → Rose before now → (before < now) ⊎ (2 ^ 64 - 1 ≤ now)
Rose-cases before now rose = ⊎_elim (λ (h : before < now). inl h) (λ (h : now ≤ before). inr (omega (arith, rose))) (cases_lt before now)

pub Rose-greater : (before now : ℕ) → before < now → Rose before now
Rose-greater before now h = omega arith

pub Rose-last : (before now : ℕ) → 2 ^ 64 - 1 ≤ now → Rose before now
Rose-last before now h = omega arith

-- it rose where it rose in a part of a call
pub Rose-earlier : (first before now : ℕ) → first ≤ before → Rose before now → Rose first now
Rose-earlier first before now le rose = omega (arith, rose)

pub Rose-later : (before now last : ℕ) → Rose before now → now ≤ last → Rose before last
Rose-later before now last rose le = omega (arith, rose)
