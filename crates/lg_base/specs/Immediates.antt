-- The scattered immediates of RV64 instruction words, as the bits of a signed number (RISC-V unprivileged ISA, "Immediate Encoding
-- Variants": the S, B and J forms).
use Rattle.std.specs.Prelude.{ℕ, ◌+◌, ◌*◌, ◌^◌}
use Rattle.lg_base.specs.Fields.{part}

-- 12 bits of a store's offset
abbrev pub store_bits : ℕ → ℕ
store_bits word = part 7 5 word + part 25 7 word * 2 ^ 5

-- 13 bits of a branch's offset, the lowest of which is 0
abbrev pub branch_bits : ℕ → ℕ
branch_bits word = part 8 4 word * 2 ^ 1 + part 25 6 word * 2 ^ 5 + part 7 1 word * 2 ^ 11 + part 31 1 word * 2 ^ 12

-- 21 bits of a jump's offset, the lowest of which is 0
abbrev pub jump_bits : ℕ → ℕ
jump_bits word = part 21 10 word * 2 ^ 1 + part 20 1 word * 2 ^ 11 + part 12 8 word * 2 ^ 12 + part 31 1 word * 2 ^ 20
