-- The operands of nodes in form.
use Rattle.std.proofs.Common.{◌≡◌, ◌≢◌, ℕ, Bool, true, false, List, [], ◌∷◌, Some, refl}
use Rattle.std.specs.Prelude.{◌||◌}
use Rattle.std.specs.List.{list_any}
use Rattle.lg_op.specs.Forms.{admit}
use Rattle.lg_op.specs.declared.form.Form.{Form}
use Rattle.lg_op.specs.declared.form.Form.TheVariants as form
use Rattle.lg_op.specs.declared.operand.Reg.{Reg}
use Rattle.lg_op.specs.declared.operand.Reg.TheVariants.{R0, R1, R2, V0, V1, V2, Fp}
use Rattle.lg_op.specs.declared.operand.Operand.{Operand}
use Rattle.lg_op.specs.declared.operand.Operand.TheVariants as operand
use Rattle.lg_meaning.specs.States.{State, value}
use Rattle.lg_carry.specs.Memory.Operands.{number, is_label}

pub nothing-left : (xs : List Operand) → admit [] xs ≡ true → xs ≡ []
nothing-left [] e = refl
nothing-left (x ∷ xs) e = cc

-- a register that is written is not FP
pub record StartsWritten (fs : List Form) (xs : List Operand) : Type 0 where
  pub register : Reg
  pub rest : List Operand
  pub is : xs ≡ operand.Reg register ∷ rest
  pub named : register ≢ Fp
  pub admitted : admit fs rest ≡ true

pub starts-written : (fs : List Form) (xs : List Operand) → admit (form.Write ∷ fs) xs ≡ true → StartsWritten fs xs
starts-written fs (operand.Reg R0 ∷ xs) e = record { register = R0; rest = xs; is = refl; named = λ z. cc; admitted = e }
starts-written fs (operand.Reg R1 ∷ xs) e = record { register = R1; rest = xs; is = refl; named = λ z. cc; admitted = e }
starts-written fs (operand.Reg R2 ∷ xs) e = record { register = R2; rest = xs; is = refl; named = λ z. cc; admitted = e }
starts-written fs (operand.Reg V0 ∷ xs) e = record { register = V0; rest = xs; is = refl; named = λ z. cc; admitted = e }
starts-written fs (operand.Reg V1 ∷ xs) e = record { register = V1; rest = xs; is = refl; named = λ z. cc; admitted = e }
starts-written fs (operand.Reg V2 ∷ xs) e = record { register = V2; rest = xs; is = refl; named = λ z. cc; admitted = e }
starts-written fs _ e = cc

-- nor is one that is read and written
pub starts-updated : (fs : List Form) (xs : List Operand) → admit (form.Update ∷ fs) xs ≡ true → StartsWritten fs xs
starts-updated fs (operand.Reg R0 ∷ xs) e = record { register = R0; rest = xs; is = refl; named = λ z. cc; admitted = e }
starts-updated fs (operand.Reg R1 ∷ xs) e = record { register = R1; rest = xs; is = refl; named = λ z. cc; admitted = e }
starts-updated fs (operand.Reg R2 ∷ xs) e = record { register = R2; rest = xs; is = refl; named = λ z. cc; admitted = e }
starts-updated fs (operand.Reg V0 ∷ xs) e = record { register = V0; rest = xs; is = refl; named = λ z. cc; admitted = e }
starts-updated fs (operand.Reg V1 ∷ xs) e = record { register = V1; rest = xs; is = refl; named = λ z. cc; admitted = e }
starts-updated fs (operand.Reg V2 ∷ xs) e = record { register = V2; rest = xs; is = refl; named = λ z. cc; admitted = e }
starts-updated fs _ e = cc

pub record StartsRead (fs : List Form) (xs : List Operand) : Type 0 where
  pub register : Reg
  pub rest : List Operand
  pub is : xs ≡ operand.Reg register ∷ rest
  pub admitted : admit fs rest ≡ true

pub starts-read : (fs : List Form) (xs : List Operand) → admit (form.Read ∷ fs) xs ≡ true → StartsRead fs xs
starts-read fs (operand.Reg r ∷ xs) e = record { register = r; rest = xs; is = refl; admitted = e }
starts-read fs _ e = cc

-- an immediate that is no label gives a number, in each state
pub record StartsNumber (fs : List Form) (xs : List Operand) : Type 0 where
  pub constant : Operand
  pub rest : List Operand
  pub is : xs ≡ constant ∷ rest
  pub gives : (addresses : List ℕ) (s : State) → value addresses s constant ≡ Some (number constant)
  pub plain : (r : Reg) → constant ≢ operand.Reg r
  pub admitted : admit fs rest ≡ true

label-free : (x : Operand) (xs : List Operand) → list_any is_label (x ∷ xs) ≡ false → is_label x ≡ false
label-free x xs e = by (is_label x) e
  where
    by : (b : Bool) → (b || list_any is_label xs) ≡ false → b ≡ false
    by true e = cc
    by false e = refl

pub starts-number : (fs : List Form) (xs : List Operand) → list_any is_label xs ≡ false → admit (form.Immediate ∷ fs) xs ≡ true → StartsNumber fs xs
starts-number fs (operand.Number v ∷ xs) none e = record { constant = operand.Number v; rest = xs; is = refl; gives = λ a s. refl; plain = λ r z. cc; admitted = e }
starts-number fs (operand.Host name ∷ xs) none e = record { constant = operand.Host name; rest = xs; is = refl; gives = λ a s. refl; plain = λ r z. cc; admitted = e }
starts-number fs (operand.Label l ∷ xs) none e = let z = label-free (operand.Label l) xs none in cc
starts-number fs _ none e = cc

pub record StartsArgument (fs : List Form) (xs : List Operand) : Type 0 where
  pub number : ℕ
  pub rest : List Operand
  pub is : xs ≡ operand.Slot number ∷ rest
  pub admitted : admit fs rest ≡ true

pub starts-argument : (fs : List Form) (xs : List Operand) → admit (form.Argument ∷ fs) xs ≡ true → StartsArgument fs xs
starts-argument fs (operand.Slot k ∷ xs) e = record { number = k; rest = xs; is = refl; admitted = e }
starts-argument fs _ e = cc
