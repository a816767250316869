-- Code that loads a number.
use Rattle.std.proofs.Common.{◌≡◌, ℕ, ◌-◌, ◌^◌, ◌<◌, Bool, true, false, Some, refl, ap, arith}
use Rattle.std.specs.Prelude.{nat_lt, pos, negsuc, if◌then◌else◌}
use Rattle.std.proofs.lemmas.Int.{ints}
use Rattle.lg_base.specs.Fields.{word_of}
use Rattle.lg_base.specs.Words.{signed_view, is_half}
use Rattle.lg_x86.specs.Spelling.{IsInstr, IsNumber32}
use Rattle.lg_x86.specs.declared.instruction.Instr.{Instr}
use Rattle.lg_x86.specs.declared.instruction.Instr.TheVariants.{Movi32, Movs32, Movi64}
use Rattle.lg_cpu.specs.X86Step.{Scene, with_register, made}
use Rattle.lg_selx_values.specs.Processor.Numbers.{number_row, NumbersAreLoaded}
use Rattle.lg_selx_values.specs.Processor.X86Computers.{computes}
use Rattle.lg_selx_values.specs.Processor.X86Rows.{is_straight}

-- a word by its signed view
pub view-word : (v : ℕ) → v < 2 ^ 64 → word_of (signed_view v) ≡ v
view-word v h = by (nat_lt v (2 ^ 63)) refl
  where
    by : (b : Bool) → nat_lt v (2 ^ 63) ≡ b → word_of (if b then pos v else negsuc (2 ^ 64 - 1 - v)) ≡ v
    by true e = refl
    by false e = omega (arith, h)

-- the signed view of a number of 32 bits
pub half-number : (v : ℕ) → v < 2 ^ 64 → is_half v ≡ true → IsNumber32 (signed_view v)
half-number v h half = by (nat_lt v (2 ^ 63)) refl
  where
    by : (b : Bool) → nat_lt v (2 ^ 63) ≡ b → IsNumber32 (if b then pos v else negsuc (2 ^ 64 - 1 - v))
    by true e = (grind (arith, ints, h, half, e), grind (arith, ints, h, half, e))
    by false e = (grind (arith, ints, h, half, e), grind (arith, ints, h, half, e))

-- an instruction loads a number
pub record Loads (r v : ℕ) (i : Instr) : Type 0 where
  pub computes_it : computes i ≡ true
  pub value : (s : Scene) → made i s ≡ Some (with_register s r v s.flags)
  pub fits : IsInstr i
  pub straight : is_straight i ≡ true

choice : (r v : ℕ) (b : Bool) (i j : Instr) → (b ≡ true → Loads r v i) → (b ≡ false → Loads r v j) → Loads r v (if b then i else j)
choice r v true i j h k = h refl
choice r v false i j h k = k refl

low-number : (v : ℕ) → nat_lt v (2 ^ 32) ≡ true → v < 2 ^ 32
low-number v e = grind (arith, e)

-- whatever the number of the register is
pub row-value : (r v : ℕ) → v < 2 ^ 64 → (s : Scene) → made (number_row r v) s ≡ Some (with_register s r v s.flags)
row-value r v small s = by (nat_lt v (2 ^ 32)) (is_half v)
  where
    by : (b h : Bool) → made (if b then Movi32 r v else if h then Movs32 r (signed_view v) else Movi64 r v) s ≡ Some (with_register s r v s.flags)
    by true h = refl
    by false true = ap (λ x. Some (with_register s r x s.flags)) (view-word v small)
    by false false = refl

pub row-loads : (r v : ℕ) → r < 16 → v < 2 ^ 64 → Loads r v (number_row r v)
row-loads r v few small =
    choice r v (nat_lt v (2 ^ 32)) (Movi32 r v) (if is_half v then Movs32 r (signed_view v) else Movi64 r v)
    (λ e. record { computes_it = refl; value = λ s. refl; fits = (few, low-number v e); straight = refl })
    (λ e. choice r v (is_half v) (Movs32 r (signed_view v)) (Movi64 r v)
    (λ h. record { computes_it = refl; value = λ s. ap (λ x. Some (with_register s r x s.flags)) (view-word v small); fits = (few, half-number v small h); straight = refl })
    (λ h. record { computes_it = refl; value = λ s. refl; fits = (few, small); straight = refl }))

pub numbers-are-loaded : NumbersAreLoaded
numbers-are-loaded r v few small =
    let l = row-loads r v few small in record { computes_it = l.computes_it; value = l.value; fits = l.fits; straight = l.straight }
