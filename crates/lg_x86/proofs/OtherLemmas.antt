-- Opcodes that are neither a jump, nor of the stack, nor have a digit.
use Rattle.std.proofs.Common.{◌≡◌, ℕ, ◌/◌, ◌<◌, ◌≤◌, ◌⊎◌, inl, inr, ⊎_elim, Bool, false, List, refl, arith}
use Rattle.std.specs.Prelude.{◌==◌}
use Rattle.std.proofs.lemmas.Bool.{ne_eqb}
use Rattle.lg_x86.specs.declared.rows.Mark.{Mark}
use Rattle.lg_x86.specs.Reading.{read_short, read_digit, read_jump, read_other}

-- the first 64, and the 8 from 0x88 on: what computes, moves, stores or loads
abbrev pub IsPlain : ℕ → Type 0
IsPlain o = (o < 64) ⊎ (o / 8 ≡ 17)

not_at : (o n : ℕ) → IsPlain o → 64 ≤ n → (n < 136) ⊎ (144 ≤ n) → (o == n) ≡ false
not_at o n plain low out = ne_eqb o n (λ e. ⊎_elim (λ a. omega (arith, a, e, low)) (λ b. ⊎_elim (λ c. omega (arith, b, c, e)) (λ c. omega (arith, b, c, e)) out) plain)

not_row : (o n : ℕ) → IsPlain o → 4 ≤ n → n < 8 → (o / 16 == n) ≡ false
not_row o n plain low high = ne_eqb (o / 16) n (λ e. ⊎_elim (λ a. omega (arith, a, e, low)) (λ b. omega (arith, b, e, high)) plain)

pub short_is_other : (s : Bool) (r len : ℕ) (m : Mark) (regs : Bool) (o : ℕ) (t : List ℕ) → IsPlain o → read_short s r len m regs o t ≡ read_other s r len m regs o t
unfolding read_short read_digit read_jump
short_is_other s r len m regs o t plain =
    let number : (o / 8 == 23) ≡ false = ne_eqb (o / 8) 23 (λ e. ⊎_elim (λ a. omega (arith, a, e)) (λ b. omega (arith, b, e)) plain) in
    rw (
      not_row o 7 plain (omega arith) (omega arith),
      not_row o 5 plain (omega arith) (omega arith),
      number,
      not_at o 0x81 plain (omega arith) (inl (omega arith)),
      not_at o 0x83 plain (omega arith) (inl (omega arith)),
      not_at o 0xc1 plain (omega arith) (inr (omega arith)),
      not_at o 0xc7 plain (omega arith) (inr (omega arith)),
      not_at o 0xd3 plain (omega arith) (inr (omega arith)),
      not_at o 0xf7 plain (omega arith) (inr (omega arith)),
      not_at o 0xff plain (omega arith) (inr (omega arith)),
      not_at o 0xeb plain (omega arith) (inr (omega arith)),
      not_at o 0xe8 plain (omega arith) (inr (omega arith)),
      not_at o 0xe9 plain (omega arith) (inr (omega arith)),
    ) refl
