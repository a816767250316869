-- What a comparison leaves in the flags, and that it changes nothing else.
use Rattle.std.proofs.Common.{◌≡◌, ◌≢◌, ℕ, ◌^◌, ◌<◌, ◌≤◌, Bool, true, false, List, [], ◌∷◌, Some, refl, sym, ap, ◌∙◌, subst, arith, length}
use Rattle.std.specs.Prelude.{◌==◌, ◌&&◌, ◌%◌, bit_and, if◌then◌else◌, pos}
use Rattle.std.specs.Option.{option_and_then}
use Rattle.lg_base.specs.Fields.{word_of}
use Rattle.lg_base.specs.HostNames.{host_address}
use Rattle.lg_base.specs.Words.{signed_view, is_half}
use Rattle.lg_base.specs.declared.flags.Flags.{Flags}
use Rattle.lg_base.specs.declared.target.Target.TheVariants.{X86_64}
use Rattle.lg_op.specs.declared.op.Condition.{Condition}
use Rattle.lg_op.specs.declared.op.Condition.TheVariants as condition
use Rattle.lg_op.specs.declared.operand.Operand.{Operand}
use Rattle.lg_op.specs.declared.operand.Operand.TheVariants as operand
use Rattle.lg_op.specs.declared.operand.Reg.{Reg}
use Rattle.lg_op.specs.Operators.{holds}
use Rattle.lg_x86.specs.declared.instruction.Cond.{Cond}
use Rattle.lg_x86.specs.declared.instruction.ImmOp.TheVariants.{Andi, Cmpi}
use Rattle.lg_x86.specs.declared.instruction.Instr.{Instr}
use Rattle.lg_x86.specs.declared.instruction.Instr.TheVariants as instr
use Rattle.lg_x86.specs.declared.instruction.RmRegOp.TheVariants as row
use Rattle.lg_cpu.specs.HostSteps.{put}
use Rattle.lg_cpu.specs.X86Operators.{alu_flags, bit_flags}
use Rattle.lg_cpu.specs.X86Operators as x86
use Rattle.lg_cpu.specs.X86Step.{Scene, combined}
use Rattle.lg_temp.specs.Abis.{register_of}
use Rattle.lg_selx_values.specs.Processor.MakingNodes.{scene}
use Rattle.lg_selx_values.specs.Processor.Makings.{makes}
use Rattle.lg_selx_values.specs.Processor.Numbers.{number_row}
use Rattle.lg_selx_values.proofs.OfProcessor.NumberCodeLemmas.{view-word, row-loads}
use Rattle.lg_carry.specs.Nodes.Leaps.{second_word}
use Rattle.lg_selx_values.specs.Scratch.{again}
use Rattle.lg_selx_values.proofs.BinaryCodeLemmas.{some-same, less-tells, below-tells, less-or-equal-tells, below-or-equal-tells, greater-or-equal-tells}
use Rattle.lg_selx_values.proofs.BinaryCodeLemmas.{above-or-equal-tells, greater-tells, above-tells, equal-tells, not-equal-tells}
use Rattle.lg_selx_values.proofs.RegisterLemmas.{put-same, put-other, equal, apart}
use Rattle.lg_selx.specs.Control.Branches.{comparison, is_difference, taken, far_number, pointer_comparison, wide_comparison, number_comparison, before_branch}
use Rattle.lg_selx.proofs.OfControl.PointerLemmas.{far, far-word, far-small, far-holds, low-bits}
use Rattle.lg_selx.proofs.OfControl.SpareLemmas.{IsFramed, pointer-again}

-- code that makes these registers and keeps the memory, and a condition of the flags that it leaves
pub record Tells (front : List Instr) (c : Cond) (W : ℕ → ℕ) (goes : Bool) (s : Scene) : Type 0 where
  pub flags : Flags
  pub makes_it : makes front s ≡ Some (scene W flags s.bytes)
  pub tells : x86.condition_holds c flags ≡ Some goes
  pub few : length front ≤ 60

-- ---- the flags
-- what the flags say of two words
compared : (o : Condition) (f : Flags) (x y : ℕ) → x < 2 ^ 64 → y < 2 ^ 64 → x86.condition_holds (taken o) (alu_flags (comparison o) f x y 0) ≡ Some (holds o x y)
compared condition.Lt f x y h k = less-tells x y h k
compared condition.LtU f x y h k = below-tells x y h k
compared condition.Le f x y h k = less-or-equal-tells x y h k
compared condition.LeU f x y h k = below-or-equal-tells x y h k
compared condition.Ge f x y h k = greater-or-equal-tells x y h k
compared condition.GeU f x y h k = above-or-equal-tells x y h k
compared condition.Gt f x y h k = greater-tells x y h k
compared condition.GtU f x y h k = above-tells x y h k
compared condition.Eq f x y h k = equal-tells x y h k
compared condition.Ne f x y h k = not-equal-tells x y h k
compared condition.Ms f x y h k = refl
compared condition.Mc f x y h k = refl

-- and what the flags say of bits
tested : (o : Condition) → is_difference o ≡ false → (x y : ℕ) → x86.condition_holds (taken o) (bit_flags (bit_and x y)) ≡ Some (holds o x y)
tested condition.Ms d x y = refl
tested condition.Mc d x y = refl
tested o d x y = cc

-- the row leaves them, and changes no register
compared-made : (o : Condition) (a b : ℕ) (s : Scene)
    → combined (comparison o) a b s ≡ Some (scene s.registers (alu_flags (comparison o) s.flags (s.registers a) b 0) s.bytes)
compared-made condition.Ms a b s = refl
compared-made condition.Mc a b s = refl
compared-made o a b s = refl

difference-row : (o : Condition) → is_difference o ≡ true → comparison o ≡ row.Cmp
difference-row condition.Ms e = cc
difference-row condition.Mc e = cc
difference-row o e = refl

-- ---- with a number
module _ (o : Condition) (frame a v : ℕ) (s : Scene) (small : v < 2 ^ 64) (framed : IsFramed frame s.registers) (word : s.registers a < 2 ^ 64) where
  abbrev w : ℕ → ℕ
  w = s.registers

  -- what the flags say of a number
  abbrev TellsOf : List Instr → Type 0
  TellsOf front = Tells front (taken o) w (holds o (w a) v) s

  -- those of the comparison itself
  abbrev left : Flags
  left = alu_flags (comparison o) s.flags (w a) v 0

  told : (front : List Instr) → makes front s ≡ Some (scene w left s.bytes) → length front ≤ 60 → TellsOf front
  told front e few = record { flags = left; makes_it = e; tells = compared o s.flags (w a) v word small; few = few }

  near-tells : is_difference o ≡ true → TellsOf (instr.Imm Cmpi a (signed_view v) ∷ [])
  near-tells d =
      told (instr.Imm Cmpi a (signed_view v) ∷ [])
      (ap (option_and_then (makes [])) (ap (λ n. combined row.Cmp a n s) (view-word v small) ∙ ap (λ r. combined r a v s) (sym (difference-row o d))
      ∙ compared-made o a v s)) (omega arith)

  -- in FP, which is made again
  through-tells : a ≢ 5 → TellsOf (number_row 5 v ∷ (instr.RmReg (comparison o) a 5 ∷ again frame))
  through-tells ne =
      let u : ℕ → ℕ = put w 5 v in
      let own : u a ≡ w a = put-other w 5 v a ne in
      let number : u 5 ≡ v = put-same w 5 v in
      told (number_row 5 v ∷ (instr.RmReg (comparison o) a 5 ∷ again frame))
      (ap (option_and_then (makes (instr.RmReg (comparison o) a 5 ∷ again frame))) ((row-loads 5 v (omega arith) small).value s)
      ∙ ap (option_and_then (makes (again frame))) (compared-made o a (u 5) (scene u s.flags s.bytes)
      ∙ (λ j. Some (scene u (alu_flags (comparison o) s.flags (own j) (number j) 0) s.bytes)))
      ∙ ap (option_and_then (makes [])) (pointer-again frame v w left s.bytes framed)) (omega arith)

  -- FP itself
  far-tells : a ≡ 5 → is_difference o ≡ true → is_half v ≡ false → TellsOf (instr.Imm Cmpi 5 (far_number v) ∷ [])
  far-tells at d wide = record {
    flags = alu_flags row.Cmp s.flags (w 5) (far v) 0;
    makes_it = ap (option_and_then (makes [])) (ap (λ n. combined row.Cmp 5 n s) (far-word v));
    tells = ap (λ r. x86.condition_holds (taken o) (alu_flags r s.flags (w 5) (far v) 0)) (sym (difference-row o d))
        ∙ compared o s.flags (w 5) (far v) (let l = framed.low in omega (arith, l)) (far-small v)
        ∙ ap Some (far-holds o (w 5) v d framed.low small wide ∙ ap (λ r. holds o (w r) v) (sym at));
    few = omega arith;
  }

  bits-tell : a ≡ 5 → is_difference o ≡ false → TellsOf (instr.Imm Andi 5 (pos (v % 2 ^ 30)) ∷ again frame)
  bits-tell at d =
      let x : ℕ = bit_and (w 5) (v % 2 ^ 30) in
      let number : word_of (pos (v % 2 ^ 30)) ≡ v % 2 ^ 30 = omega arith in record {
        flags = bit_flags x;
        makes_it = ap (option_and_then (makes (again frame))) (ap (λ n. combined row.And 5 n s) number)
            ∙ ap (option_and_then (makes [])) (pointer-again frame x w (bit_flags x) s.bytes framed);
        tells = ap (λ y. x86.condition_holds (taken o) (bit_flags y)) (low-bits (w 5) v framed.low) ∙ tested o d (w 5) v
            ∙ ap (λ r. Some (holds o (w r) v)) (sym at);
        few = omega arith;
      }

  pointer-tells : a ≡ 5 → (is_difference o ≡ true → is_half v ≡ false) → TellsOf (pointer_comparison o frame v)
  pointer-tells at wide = by (is_difference o) refl
    where
      by : (b : Bool) → is_difference o ≡ b → TellsOf (if b then instr.Imm Cmpi 5 (far_number v) ∷ [] else instr.Imm Andi 5 (pos (v % 2 ^ 30)) ∷ again frame)
      by true d = far-tells at d (wide d)
      by false d = bits-tell at d

  wide-tells : (is_difference o ≡ true → is_half v ≡ false) → TellsOf (wide_comparison o frame a v)
  wide-tells wide = by (a == 5) refl
    where
      by : (b : Bool) → (a == 5) ≡ b → TellsOf (if b then pointer_comparison o frame v else number_row 5 v ∷ (instr.RmReg (comparison o) a 5 ∷ again frame))
      by true e = pointer-tells (equal a 5 e) wide
      by false e = through-tells (apart a 5 e)

  number-tells : TellsOf (number_comparison o frame a v)
  number-tells = by (is_difference o) refl (is_half v) refl
    where
      by : (b : Bool) → is_difference o ≡ b → (h : Bool) → is_half v ≡ h
          → TellsOf (if b && h then instr.Imm Cmpi a (signed_view v) ∷ [] else wide_comparison o frame a v)
      by true d true h = near-tells d
      by true d false h = wide-tells (λ e. h)
      by false d half h = wide-tells (λ e. let z : true ≡ false = sym e ∙ d in cc)

-- ---- the code of a branch before its jump
module _ (o : Condition) (frame x y : ℕ) (a : Reg) (s : Scene) (framed : IsFramed frame s.registers) (ex : s.registers (register_of X86_64 a) ≡ x)
    (xs : x < 2 ^ 64) (ys : y < 2 ^ 64) where
  abbrev ra : ℕ
  ra = register_of X86_64 a

  left-tells : (z : ℕ) → z ≡ y → x86.condition_holds (taken o) (alu_flags (comparison o) s.flags (s.registers ra) z 0) ≡ Some (holds o x y)
  left-tells z e = (λ j. x86.condition_holds (taken o) (alu_flags (comparison o) s.flags (ex j) (e j) 0)) ∙ compared o s.flags x y xs ys

  with-number : (v : ℕ) → v ≡ y → Tells (number_comparison o frame ra v) (taken o) s.registers (holds o x y) s
  with-number v e =
      subst (λ goes. Tells (number_comparison o frame ra v) (taken o) s.registers goes s) (λ j. holds o (ex j) (e j))
      (number-tells o frame ra v s (subst (λ z. z < 2 ^ 64) (sym e) ys) framed (subst (λ z. z < 2 ^ 64) (sym ex) xs))

  pub branch-tells : (b : Operand) → second_word X86_64 s.registers b ≡ Some y → Tells (before_branch frame o a b) (taken o) s.registers (holds o x y) s
  branch-tells (operand.Reg b) e = record {
    flags = alu_flags (comparison o) s.flags (s.registers ra) (s.registers (register_of X86_64 b)) 0;
    makes_it = ap (option_and_then (makes [])) (compared-made o ra (s.registers (register_of X86_64 b)) s);
    tells = left-tells (s.registers (register_of X86_64 b)) (some-same (s.registers (register_of X86_64 b)) y e);
    few = omega arith;
  }
  branch-tells (operand.Number v) e = with-number v (some-same v y e)
  branch-tells (operand.Host name) e = with-number (host_address name) (some-same (host_address name) y e)
  branch-tells (operand.Label l) e = cc
  branch-tells (operand.Slot k) e = cc
