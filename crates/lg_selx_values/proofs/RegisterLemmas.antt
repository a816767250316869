-- Registers by their numbers, and moves.
use Rattle.std.proofs.Common.{◌≡◌, ◌≢◌, ℕ, ◌<◌, Bool, true, false, List, [], ◌∷◌, ◌++◌, Option, Some, refl, sym, ap, ◌∙◌, arith}
use Rattle.std.specs.Prelude.{◌==◌, if◌then◌else◌}
use Rattle.lg_base.specs.declared.target.Target.TheVariants.{X86_64}
use Rattle.lg_op.specs.declared.operand.Reg.{Reg}
use Rattle.lg_op.specs.declared.operand.Reg.TheVariants.{R0, Fp}
use Rattle.lg_temp.specs.Abis.{register_of}
use Rattle.lg_x86.specs.declared.instruction.Instr.{Instr}
use Rattle.lg_x86.specs.declared.instruction.Instr.TheVariants.{RmReg}
use Rattle.lg_x86.specs.declared.instruction.RmRegOp.TheVariants.{Mov}
use Rattle.lg_cpu.specs.HostSteps.{put}
use Rattle.lg_base.specs.declared.flags.Flags.{Flags}
use Rattle.lg_selx_values.specs.Processor.MakingNodes.{scene}
use Rattle.lg_selx_values.specs.Processor.Makings.{makes}
use Rattle.lg_selx_values.specs.Scratch.{moved}

pub pointwise : (f g : ℕ → ℕ) → ((r : ℕ) → f r ≡ g r) → f ≡ g
pointwise f g h = λ i. λ r. h r i

pub put-same : (w : ℕ → ℕ) (t x : ℕ) → put w t x t ≡ x
put-same w t x = grind arith

pub put-other : (w : ℕ → ℕ) (t x y : ℕ) → y ≢ t → put w t x y ≡ w y
put-other w t x y ne = grind (arith, ne)

pub put-twice : (w : ℕ → ℕ) (t x y : ℕ) → put (put w t x) t y ≡ put w t y
put-twice w t x y = pointwise (put (put w t x) t y) (put w t y) (λ r. at r (r == t))
  where
    at : (r : ℕ) (b : Bool) → (if b then y else (if b then x else w r)) ≡ (if b then y else w r)
    at r true = refl
    at r false = refl

-- a register is given its own word
pub put-own : (w : ℕ → ℕ) (t x : ℕ) → x ≡ w t → put w t x ≡ w
put-own w t x e = pointwise (put w t x) w (λ r. at r (r == t) refl)
  where
    at : (r : ℕ) (b : Bool) → (r == t) ≡ b → (if b then x else w r) ≡ w r
    at r true is = let z : r ≡ t = grind (arith, is) in e ∙ ap w (sym z)
    at r false is = refl

-- two registers apart are given words in either order
pub put-swap : (w : ℕ → ℕ) (s t x y : ℕ) → s ≢ t → put (put w s x) t y ≡ put (put w t y) s x
put-swap w s t x y ne = pointwise (put (put w s x) t y) (put (put w t y) s x) (λ r. grind (arith, ne))

pub equal : (x y : ℕ) → (x == y) ≡ true → x ≡ y
equal x y e = grind (arith, e)

pub apart : (x y : ℕ) → (x == y) ≡ false → x ≢ y
apart x y e = λ z. absurd (grind (arith, e, z))

-- code after a move
pub moved-makes : (d a : ℕ) (is : List Instr) (w : ℕ → ℕ) (f : Flags) (bytes : ℕ → Option ℕ) → makes (moved d a ++ is) (scene w f bytes) ≡ makes is (scene (put w d (w a)) f bytes)
moved-makes d a is w f bytes = by (d == a) refl
  where
    by : (b : Bool) → (d == a) ≡ b → makes ((if b then [] else RmReg Mov d a ∷ []) ++ is) (scene w f bytes) ≡ makes is (scene (put w d (w a)) f bytes)
    by true e = ap (λ g. makes is (scene g f bytes)) (sym (put-own w d (w a) (ap w (sym (equal d a e)))))
    by false e = refl

-- and a move after code
pub moved-last : (d a : ℕ) (w : ℕ → ℕ) (f : Flags) (bytes : ℕ → Option ℕ) → makes (moved d a) (scene w f bytes) ≡ Some (scene (put w d (w a)) f bytes)
moved-last d a w f bytes = by (d == a) refl
  where
    by : (b : Bool) → (d == a) ≡ b → makes (if b then [] else RmReg Mov d a ∷ []) (scene w f bytes) ≡ Some (scene (put w d (w a)) f bytes)
    by true e = ap (λ g. Some (scene g f bytes)) (sym (put-own w d (w a) (ap w (sym (equal d a e)))))
    by false e = refl

-- ---- registers that correspond to portable ones
pub register-not-frame : (d : Reg) → d ≢ Fp → register_of X86_64 d ≢ 5
register-not-frame Fp h = absurd (h refl)
register-not-frame r h = λ e. absurd (omega (arith, e))

-- neither rcx nor rdx, the stack pointer or a register of no use
pub record IsPortable (r : ℕ) : Type 0 where
  pub no_rcx : r ≢ 1
  pub no_rdx : r ≢ 2
  pub no_stack : r ≢ 4
  pub small : r < 16

pub register-portable : (d : Reg) → IsPortable (register_of X86_64 d)
register-portable R0 = record { no_rcx = λ e. absurd (omega (arith, e)); no_rdx = λ e. absurd (omega (arith, e)); no_stack = λ e. absurd (omega (arith, e)); small = omega arith }
register-portable o = record { no_rcx = λ e. absurd (omega (arith, e)); no_rdx = λ e. absurd (omega (arith, e)); no_stack = λ e. absurd (omega (arith, e)); small = omega arith }
