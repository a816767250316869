-- Code that puts a word into a register.
use Rattle.std.proofs.Common.{◌≡◌, ℕ, ◌^◌, ◌<◌, Bool, true, false, List, [], ◌∷◌, ◌++◌, ap, ◌∙◌}
use Rattle.std.specs.Prelude.{◌==◌, ◌&&◌, if◌then◌else◌}
use Rattle.std.proofs.lemmas.Bool.{and_parts}
use Rattle.lg_a64.specs.declared.instruction.Instr.{Instr}
use Rattle.lg_cpu.specs.HostSteps.{put}
use Rattle.lg_carry.specs.Values.Computers.{Held}
use Rattle.lg_sela_values.specs.Processor.Computations.{computes, all_compute, holding, computed}
use Rattle.lg_sela_values.specs.Processor.Numbers.{number_code, LoadsNumber}
use Rattle.lg_sela_values.proofs.OfProcessor.NumberCodeLemmas.{numbers-are-loaded}

pub put-small : (w : ℕ → ℕ) (t v : ℕ) → v < 2 ^ 64 → ((r : ℕ) → w r < 2 ^ 64) → (r : ℕ) → put w t v r < 2 ^ 64
put-small w t v small words r = by (r == t)
  where
    by : (b : Bool) → (if b then v else w r) < 2 ^ 64
    by true = small
    by false = words r

pub all-compute-append : (xs ys : List Instr) → all_compute xs ≡ true → all_compute ys ≡ true → all_compute (xs ++ ys) ≡ true
all-compute-append [] ys h k = k
all-compute-append (x ∷ xs) ys h k = let b = and_parts (computes x) (all_compute xs) h in ap (λ z. z && all_compute (xs ++ ys)) b.0 ∙ all-compute-append xs ys b.1 k

-- the code puts a word into register t, and changes no other, and no flag
pub record LoadsWord (load : List Instr) (t v : ℕ) : Type 0 where
  pub computes : all_compute load ≡ true
  pub value : (w : Held) → computed load w ≡ holding (put w.registers t v) w.flags
  pub small : v < 2 ^ 64

pub loads-number : (t v : ℕ) → t < 31 → v < 2 ^ 64 → LoadsWord (number_code t v) t v
loads-number t v within small = let l : LoadsNumber t v = numbers-are-loaded t v within small in record { computes = l.computes; value = l.value; small = small }
