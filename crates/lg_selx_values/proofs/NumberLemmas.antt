-- The code of a row with a number.
use Rattle.std.proofs.Common.{◌≡◌, ◌≢◌, ℕ, ◌-◌, ◌^◌, ◌<◌, Bool, true, false, [], ◌∷◌, ◌++◌, Some, refl, sym, ap, ◌∙◌, arith}
use Rattle.std.specs.Prelude.{◌==◌, if◌then◌else◌}
use Rattle.std.specs.Option.{option_and_then}
use Rattle.lg_base.specs.Flags.{carry_of}
use Rattle.lg_base.specs.Words.{add_words, signed_view, is_half}
use Rattle.lg_base.specs.declared.flags.Flags.{Flags}
use Rattle.lg_x86.specs.declared.instruction.ImmOp.{ImmOp}
use Rattle.lg_x86.specs.declared.instruction.Instr.TheVariants.{RmReg, Imm}
use Rattle.lg_x86.specs.declared.instruction.RmRegOp.{RmRegOp}
use Rattle.lg_cpu.specs.HostSteps.{put}
use Rattle.lg_cpu.specs.X86Operators.{bit, carry_for, alu_value, alu_flags, alu_of, is_kept_by}
use Rattle.lg_cpu.specs.X86Step.{combined}
use Rattle.lg_carry.specs.Values.Computers.{Held}
use Rattle.lg_selx_values.specs.Processor.MakingNodes.{scene}
use Rattle.lg_selx_values.specs.Processor.Makings.{makes}
use Rattle.lg_selx_values.specs.Processor.Numbers.{number_row}
use Rattle.lg_selx_values.proofs.OfProcessor.NumberCodeLemmas.{view-word, row-loads}
use Rattle.lg_selx_values.specs.BinaryCode.{with_number}
use Rattle.lg_selx_values.specs.NumberLaws.{LeavesWord, NumberRowsAreMade}
use Rattle.lg_selx_values.specs.Scratch.{moved, again}
use Rattle.lg_selx_values.proofs.AluLemmas.{alu-made}
use Rattle.lg_selx_values.proofs.RegisterLemmas.{put-same, put-other, put-twice, equal, apart, moved-makes}

module _ (op : ImmOp) (frame d a v : ℕ) (c : Bool) (q : Held) (kept : is_kept_by (alu_of op) ≡ false) (given : carry_for (alu_of op) (carry_of q.flags) ≡ Some c) (d5 : d ≢ 5) (d4 : d ≢ 4) (small : v < 2 ^ 64)
    (pointer : add_words (q.registers 4) (frame - 16) ≡ q.registers 5) where
  abbrev w : ℕ → ℕ
  w = q.registers

  abbrev r : RmRegOp
  r = alu_of op

  abbrev z : ℕ
  z = alu_value r (w a) v (bit c)

  abbrev behind : Flags
  behind = alu_flags r q.flags (w a) v (bit c)

  abbrev u : ℕ → ℕ
  u = put w d (w a)

  abbrev u5 : ℕ → ℕ
  u5 = put u 5 v

  abbrev u6 : ℕ → ℕ
  u6 = put u5 d z

  abbrev u7 : ℕ → ℕ
  u7 = put u6 5 (add_words (u6 4) (frame - 16))

  held-number : LeavesWord (moved d a ++ Imm op d (signed_view v) ∷ []) d z (carry_of behind) q
  held-number = record {
    word = record {
      registers = put w d z;
      flags = behind;
      value = put-same w d z;
      keeps = λ x ne free. put-other w d z x ne;
      makes_it = λ bytes.
          moved-makes d a (Imm op d (signed_view v) ∷ []) w q.flags bytes
          ∙ ap (option_and_then (makes [])) (ap (λ x. combined r d x (scene u q.flags bytes)) (view-word v small) ∙ alu-made r d v c u q.flags bytes kept given)
          ∙ ap (λ x. Some (scene (put u d (alu_value r x v (bit c))) (alu_flags r q.flags x v (bit c)) bytes)) (put-same w d (w a))
          ∙ ap (λ g. Some (scene g behind bytes)) (put-twice w d (w a) z);
    };
    carry_is = refl;
  }

  first : u5 d ≡ w a
  first = put-other u 5 v d d5 ∙ put-same w d (w a)

  loaded-number : LeavesWord (moved d a ++ (number_row 5 v ∷ (RmReg r d 5 ∷ again frame))) d z (carry_of behind) q
  loaded-number = record {
    word = record {
      registers = u7;
      flags = behind;
      value = put-other u6 5 _ d d5 ∙ put-same u5 d z;
      keeps = λ x ne free. keeps x ne (x == 5) refl;
      makes_it = λ bytes.
          moved-makes d a (number_row 5 v ∷ (RmReg r d 5 ∷ again frame)) w q.flags bytes
          ∙ ap (option_and_then (makes (RmReg r d 5 ∷ again frame))) ((row-loads 5 v (omega arith) small).value (scene u q.flags bytes))
          ∙ ap (option_and_then (makes (again frame))) (ap (λ x. combined r d x (scene u5 q.flags bytes)) (put-same u 5 v) ∙ alu-made r d v c u5 q.flags bytes kept given)
          ∙ ap (λ x. makes (again frame) (scene (put u5 d (alu_value r x v (bit c))) (alu_flags r q.flags x v (bit c)) bytes)) first;
    };
    carry_is = refl;
  }
    where
      keeps : (x : ℕ) → x ≢ d → (k : Bool) → (x == 5) ≡ k → u7 x ≡ w x
      keeps x ne true e =
          let y : x ≡ 5 = equal x 5 e in
          ap u7 y ∙ ap (λ n. add_words n (frame - 16)) (put-other u5 d z 4 (λ f. d4 (sym f)) ∙ put-other w d (w a) 4 (λ f. d4 (sym f))) ∙ pointer ∙ ap w (sym y)
      keeps x ne false e = put-other u6 5 _ x (apart x 5 e) ∙ put-other u5 d z x ne ∙ put-other u 5 v x (apart x 5 e) ∙ put-other w d (w a) x ne

  pub number-row-word : LeavesWord (with_number op r frame d a v) d z (carry_of behind) q
  number-row-word = by (is_half v)
    where
      by : (b : Bool) → LeavesWord (if b then moved d a ++ Imm op d (signed_view v) ∷ [] else moved d a ++ (number_row 5 v ∷ (RmReg r d 5 ∷ again frame))) d z (carry_of behind) q
      by true = held-number
      by false = loaded-number

pub number-rows-are-made : NumberRowsAreMade
number-rows-are-made frame d a v q d5 d4 small f op c kept given = number-row-word op frame d a v c q kept given d5 d4 small f.pointer
