-- The instruction after one of the code is not at the stop address, on x86-64.
use Rattle.std.proofs.Common.{◌≡◌, ◌≢◌, ℕ, ◌^◌, ◌<◌, ◌≤◌, Bool, true, false, List, length, Option, Some, None, ap, arith}
use Rattle.std.specs.Prelude.{nat_eq, if◌then◌else◌}
use Rattle.std.specs.List.{starts_with}
use Rattle.lg_base.specs.Layout.{code_base, stop_address}
use Rattle.lg_base.specs.Words.{add_words}
use Rattle.lg_x86.specs.Reading.{checked, guess_of, front_of}
use Rattle.lg_x86.specs.Spelling.{spelling}
use Rattle.lg_x86.specs.declared.instruction.Instr.{Instr}
use Rattle.lg_x86.proofs.SizeLemmas.{sized}
use Rattle.lg_cpu.specs.Fetches.{in_code}

-- an instruction has at most 10 bytes
pub front-short : (bytes : List ℕ) (i : Instr) (len : ℕ) → front_of bytes ≡ Some (i, len) → len ≤ 10
front-short bytes i len is = by (guess_of bytes) is
  where
    found : Bool → Instr → Option (Instr × ℕ)
    found fits j = if fits then Some (j, length (spelling j)) else None

    tested : (fits : Bool) (j : Instr) → found fits j ≡ Some (i, len) → len ≤ 10
    tested true j e =
        let whole : Instr × ℕ = (j, length (spelling j)) in
        let read : Instr × ℕ = (i, len) in
        let same : whole ≡ read = cc in
        let lengths : length (spelling j) ≡ len = ap (λ (p : Instr × ℕ). p.1) same in
        let short = (sized j).short in
        omega (arith, lengths, short)
    tested false j e = cc

    by : (guess : Option Instr) → checked bytes guess ≡ Some (i, len) → len ≤ 10
    by None e = cc
    by (Some j) e = tested (starts_with nat_eq bytes (spelling j)) j e

pub next-apart : (code : List ℕ) (pc len : ℕ) → in_code code pc ≡ true → pc < 2 ^ 64 → len ≤ 10 → add_words pc len ≢ stop_address
next-apart code pc len inside word short e = let from : code_base ≤ pc = grind (arith, inside) in absurd (omega (arith, from, e))
