-- What a sum or difference of a branch makes of the registers and the flags.
use Rattle.std.proofs.Common.{◌≡◌, ◌≢◌, ℕ, ◌^◌, ◌<◌, ◌≤◌, Bool, true, false, [], ◌∷◌, Some, refl, sym, ap, ◌∙◌, subst, arith, length}
use Rattle.std.specs.Prelude.{if◌then◌else◌}
use Rattle.std.specs.Option.{option_and_then}
use Rattle.lg_base.specs.HostNames.{host_address}
use Rattle.lg_base.specs.Words.{signed_view, is_half}
use Rattle.lg_base.specs.declared.flags.Flags.{Flags}
use Rattle.lg_base.specs.declared.target.Target.TheVariants.{X86_64}
use Rattle.lg_op.specs.declared.op.BranchSumOp.{BranchSumOp}
use Rattle.lg_op.specs.declared.op.BranchSumOp.TheVariants as sum
use Rattle.lg_op.specs.declared.operand.Operand.{Operand}
use Rattle.lg_op.specs.declared.operand.Operand.TheVariants as operand
use Rattle.lg_op.specs.declared.operand.Reg.{Reg}
use Rattle.lg_op.specs.declared.operand.Reg.TheVariants.{Fp}
use Rattle.lg_op.specs.Operators.{branch_sum_value, branch_sum_goes}
use Rattle.lg_x86.specs.declared.instruction.Instr.TheVariants as instr
use Rattle.lg_cpu.specs.HostSteps.{put}
use Rattle.lg_cpu.specs.X86Operators.{alu_flags, alu_of}
use Rattle.lg_cpu.specs.X86Operators as x86
use Rattle.lg_cpu.specs.X86Step.{Scene, combined}
use Rattle.lg_temp.specs.Abis.{register_of}
use Rattle.lg_selx_values.specs.Processor.MakingNodes.{scene}
use Rattle.lg_selx_values.specs.Processor.Makings.{makes}
use Rattle.lg_selx_values.specs.Processor.Numbers.{number_row}
use Rattle.lg_selx_values.proofs.OfProcessor.NumberCodeLemmas.{view-word, row-loads}
use Rattle.lg_carry.specs.Nodes.Leaps.{second_word}
use Rattle.lg_selx_values.specs.Scratch.{again}
use Rattle.lg_selx_values.proofs.BinaryCodeLemmas.{some-same}
use Rattle.lg_selx_values.proofs.RegisterLemmas.{put-other, register-not-frame, register-portable}
use Rattle.lg_selx.specs.Control.SumBranches.{sum_row, sum_number, sum_taken, number_sum, before_sum_branch}
use Rattle.lg_selx.proofs.OfControl.ComparisonLemmas.{Tells}
use Rattle.lg_selx.proofs.OfControl.SpareLemmas.{IsFramed, pointer-after}

-- ---- one row
-- the flags say whether the exact result fits
summed : (o : BranchSumOp) (f : Flags) (x y : ℕ) → x86.condition_holds (sum_taken o) (alu_flags (sum_row o) f x y 0) ≡ Some (branch_sum_goes o x y)
summed sum.OverflowAdd f x y = refl
summed o f x y = refl

-- the register gets the word
summed-made : (o : BranchSumOp) (a b : ℕ) (s : Scene)
    → combined (sum_row o) a b s
    ≡ Some (scene (put s.registers a (branch_sum_value o (s.registers a) b)) (alu_flags (sum_row o) s.flags (s.registers a) b 0) s.bytes)
summed-made sum.OverflowAdd a b s = refl
summed-made o a b s = refl

same-row : (o : BranchSumOp) → alu_of (sum_number o) ≡ sum_row o
same-row sum.OverflowAdd = refl
same-row o = refl

-- ---- with a number
module _ (o : BranchSumOp) (frame a v : ℕ) (s : Scene) (small : v < 2 ^ 64) (a5 : a ≢ 5) (a4 : a ≢ 4) (framed : IsFramed frame s.registers) where
  abbrev w : ℕ → ℕ
  w = s.registers

  abbrev left : Flags
  left = alu_flags (sum_row o) s.flags (w a) v 0

  abbrev made_registers : ℕ → ℕ
  made_registers = put w a (branch_sum_value o (w a) v)

  wide-makes : makes (number_row 5 v ∷ (instr.RmReg (sum_row o) a 5 ∷ again frame)) s ≡ Some (scene made_registers left s.bytes)
  wide-makes =
      let u : ℕ → ℕ = put w 5 v in
      let own : u a ≡ w a = put-other w 5 v a a5 in
      ap (option_and_then (makes (instr.RmReg (sum_row o) a 5 ∷ again frame))) ((row-loads 5 v (omega arith) small).value s)
      ∙ ap (option_and_then (makes (again frame))) (summed-made o a v (scene u s.flags s.bytes)
      ∙ (λ j. Some (scene (put u a (branch_sum_value o (own j) v)) (alu_flags (sum_row o) s.flags (own j) v 0) s.bytes)))
      ∙ ap (option_and_then (makes [])) (pointer-after frame v a (branch_sum_value o (w a) v) w left s.bytes a5 a4 framed)

  number-makes : makes (number_sum o frame a v) s ≡ Some (scene made_registers left s.bytes)
  number-makes = by (is_half v)
    where
      by : (h : Bool) → makes (if h then instr.Imm (sum_number o) a (signed_view v) ∷ [] else number_row 5 v ∷ (instr.RmReg (sum_row o) a 5 ∷ again frame)) s
          ≡ Some (scene made_registers left s.bytes)
      by true =
          ap (option_and_then (makes [])) (ap (λ n. combined (alu_of (sum_number o)) a n s) (view-word v small) ∙ ap (λ r. combined r a v s) (same-row o)
          ∙ summed-made o a v s)
      by false = wide-makes

  number-few : length (number_sum o frame a v) ≤ 3
  number-few = by (is_half v)
    where
      by : (h : Bool) → length (if h then instr.Imm (sum_number o) a (signed_view v) ∷ [] else number_row 5 v ∷ (instr.RmReg (sum_row o) a 5 ∷ again frame)) ≤ 3
      by true = omega arith
      by false = omega arith

-- ---- the code of such a branch before its jump
module _ (o : BranchSumOp) (frame x y : ℕ) (a : Reg) (s : Scene) (framed : IsFramed frame s.registers) (ex : s.registers (register_of X86_64 a) ≡ x)
    (some : a ≢ Fp) (ys : y < 2 ^ 64) where
  abbrev ra : ℕ
  ra = register_of X86_64 a

  abbrev made_words : ℕ → ℕ
  made_words = put s.registers ra (branch_sum_value o x y)

  words-are : (z : ℕ) → z ≡ y → put s.registers ra (branch_sum_value o (s.registers ra) z) ≡ made_words
  words-are z e = λ j. put s.registers ra (branch_sum_value o (ex j) (e j))

  left-tells : (z : ℕ) → z ≡ y → x86.condition_holds (sum_taken o) (alu_flags (sum_row o) s.flags (s.registers ra) z 0) ≡ Some (branch_sum_goes o x y)
  left-tells z e = (λ j. x86.condition_holds (sum_taken o) (alu_flags (sum_row o) s.flags (ex j) (e j) 0)) ∙ summed o s.flags x y

  with-number : (v : ℕ) → v ≡ y → Tells (number_sum o frame ra v) (sum_taken o) made_words (branch_sum_goes o x y) s
  with-number v e =
      let small : v < 2 ^ 64 = subst (λ z. z < 2 ^ 64) (sym e) ys in
      let a5 = register-not-frame a some in let a4 = (register-portable a).no_stack in record {
        flags = alu_flags (sum_row o) s.flags (s.registers ra) v 0;
        makes_it = number-makes o frame ra v s small a5 a4 framed
            ∙ ap (λ g. Some (scene g (alu_flags (sum_row o) s.flags (s.registers ra) v 0) s.bytes)) (words-are v e);
        tells = left-tells v e;
        few = let f = number-few o frame ra v s small a5 a4 framed in omega (arith, f);
      }

  pub sum-tells : (b : Operand) → second_word X86_64 s.registers b ≡ Some y
      → Tells (before_sum_branch frame o a b) (sum_taken o) made_words (branch_sum_goes o x y) s
  sum-tells (operand.Reg b) e =
      let rb : ℕ = register_of X86_64 b in
      let same = some-same (s.registers rb) y e in record {
        flags = alu_flags (sum_row o) s.flags (s.registers ra) (s.registers rb) 0;
        makes_it = ap (option_and_then (makes [])) (summed-made o ra (s.registers rb) s)
            ∙ ap (λ g. Some (scene g (alu_flags (sum_row o) s.flags (s.registers ra) (s.registers rb) 0) s.bytes)) (words-are (s.registers rb) same);
        tells = left-tells (s.registers rb) same;
        few = omega arith;
      }
  sum-tells (operand.Number v) e = with-number v (some-same v y e)
  sum-tells (operand.Host name) e = with-number (host_address name) (some-same (host_address name) y e)
  sum-tells (operand.Label l) e = cc
  sum-tells (operand.Slot k) e = cc
