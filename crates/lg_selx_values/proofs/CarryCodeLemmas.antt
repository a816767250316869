-- The code of the operations that set the carry.
use Rattle.std.proofs.Common.{◌≡◌, ◌≢◌, ℕ, ◌+◌, ◌-◌, ◌%◌, ◌^◌, ◌<◌, Bool, true, false, List, [], ◌∷◌, Option, Some, refl, sym, ap, ◌∙◌, subst, arith}
use Rattle.std.specs.Prelude.{◌==◌, if◌then◌else◌}
use Rattle.std.specs.Option.{option_and_then}
use Rattle.lg_base.specs.Flags.{carry_of}
use Rattle.lg_base.specs.Words.{add_words, carry_out}
use Rattle.lg_base.specs.declared.flags.Flags.{Flags}
use Rattle.lg_base.specs.declared.target.Target.TheVariants.{X86_64}
use Rattle.lg_op.specs.declared.op.BinaryOp.{BinaryOp}
use Rattle.lg_op.specs.declared.op.BinaryOp.TheVariants as binary
use Rattle.lg_op.specs.declared.carry.Carry.{Carry}
use Rattle.lg_op.specs.declared.carry.Carry.TheVariants as carry
use Rattle.lg_op.specs.Operators.{sets_carry, carry_in}
use Rattle.lg_x86.specs.declared.instruction.Instr.{Instr}
use Rattle.lg_x86.specs.declared.instruction.Instr.TheVariants.{RmReg}
use Rattle.lg_x86.specs.declared.instruction.RmRegOp.{RmRegOp}
use Rattle.lg_x86.specs.declared.instruction.RmRegOp.TheVariants as alu
use Rattle.lg_cpu.specs.HostSteps.{put}
use Rattle.lg_cpu.specs.X86Operators.{bit, carry_for, alu_value, alu_flags, is_kept_by}
use Rattle.lg_cpu.specs.X86Step.{combined}
use Rattle.lg_meaning.specs.Steps.{bit_word}
use Rattle.lg_carry.specs.Registers.{HoldsCarry}
use Rattle.lg_carry.specs.Values.Computers.{Held}
use Rattle.lg_selx_values.specs.Processor.MakingNodes.{scene}
use Rattle.lg_selx_values.specs.Processor.Makings.{makes}
use Rattle.lg_selx_values.specs.BinaryCode.{ordered, commuting}
use Rattle.lg_selx_values.specs.CarryCode.{taken_away, carry_register_code}
use Rattle.lg_selx_values.specs.Scratch.{again}
use Rattle.lg_selx_values.specs.WordLaws.{MakesWithCarry, CarryCodesAreMade}
use Rattle.lg_selx_values.specs.Words.{MakesWord}
use Rattle.lg_selx_values.proofs.AluLemmas.{alu-made, ordered-word, turned-word}
use Rattle.lg_selx_values.proofs.BinaryCodeLemmas.{some-same}
use Rattle.lg_selx_values.proofs.RegisterLemmas.{put-same, put-other, equal, apart}
use Rattle.lg_selx_values.proofs.WordLemmas.{add-swap}

-- a word and a carry
pub record Leaves (body : List Instr) (d z : ℕ) (k : Option Bool) (q : Held) : Type 0 where
  pub word : MakesWord [] body d z q
  pub carry_is : carry_of word.flags ≡ k

-- the word that is left is this one
as-left : (body : List Instr) (d x z : ℕ) (k : Option Bool) (q : Held) → Leaves body d x k q → x ≡ z → Leaves body d z k q
as-left body d x z k q m e =
    record { word = record { registers = m.word.registers; flags = m.word.flags; value = m.word.value ∙ e; keeps = m.word.keeps; makes_it = m.word.makes_it }; carry_is = m.carry_is }

-- ---- sums
commuting-leaves : (op : RmRegOp) (d a b : ℕ) (c : Bool) (q : Held) → is_kept_by op ≡ false → carry_for op (carry_of q.flags) ≡ Some c → ((x y n : ℕ) → alu_value op x y n ≡ alu_value op y x n)
    → ((x y n : ℕ) → carry_of (alu_flags op q.flags x y n) ≡ carry_of (alu_flags op q.flags y x n))
    → Leaves (commuting op d a b) d (alu_value op (q.registers a) (q.registers b) (bit c)) (carry_of (alu_flags op q.flags (q.registers a) (q.registers b) (bit c))) q
commuting-leaves op d a b c q kept given values carries = by (d == b) refl
  where
    by : (k : Bool) → (d == b) ≡ k → Leaves (if k then RmReg op d a ∷ [] else ordered op d a b) d (alu_value op (q.registers a) (q.registers b) (bit c)) (carry_of (alu_flags op q.flags (q.registers a) (q.registers b) (bit c))) q
    by true e = record {
      word = turned-word [] op d a b c q kept given (equal d b e) values;
      carry_is = ap (λ x. carry_of (alu_flags op q.flags (q.registers x) (q.registers a) (bit c))) (equal d b e) ∙ carries (q.registers b) (q.registers a) (bit c);
    }
    by false e = record { word = ordered-word [] op d a b c q kept given (apart d b e); carry_is = refl }

-- ---- in rbp, where the result takes the place of the second word
module _ (op : RmRegOp) (frame d a b : ℕ) (c : Bool) (q : Held) (kept : is_kept_by op ≡ false) (given : carry_for op (carry_of q.flags) ≡ Some c) (d5 : d ≢ 5) (d4 : d ≢ 4) (pointer : add_words (q.registers 4) (frame - 16) ≡ q.registers 5) where
  abbrev w : ℕ → ℕ
  w = q.registers

  abbrev v : ℕ
  v = alu_value op (w a) (w b) (bit c)

  abbrev behind : Flags
  behind = alu_flags op q.flags (w a) (w b) (bit c)

  abbrev u2 : ℕ → ℕ
  u2 = put (put w 5 (w a)) 5 v

  abbrev u3 : ℕ → ℕ
  u3 = put u2 d v

  abbrev u4 : ℕ → ℕ
  u4 = put u3 5 (add_words (u3 4) (frame - 16))

  through-scratch : d ≡ b → Leaves (RmReg alu.Mov 5 a ∷ RmReg op 5 b ∷ RmReg alu.Mov d 5 ∷ again frame) d v (carry_of behind) q
  through-scratch same = record {
    word = record {
      registers = u4;
      flags = behind;
      value = put-other u3 5 _ d d5 ∙ put-same u2 d v;
      keeps = λ r ne free. keeps r ne (r == 5) refl;
      makes_it = λ bytes. ap (option_and_then (makes (RmReg alu.Mov d 5 ∷ again frame))) (ap (λ x. combined op 5 x (scene (put w 5 (w a)) q.flags bytes)) (put-other w 5 (w a) b (λ z. d5 (same ∙ z))) ∙ alu-made op 5 (w b) c (put w 5 (w a)) q.flags bytes kept given);
    };
    carry_is = refl;
  }
    where
      keeps : (r : ℕ) → r ≢ d → (k : Bool) → (r == 5) ≡ k → u4 r ≡ w r
      keeps r ne true e =
          let z : r ≡ 5 = equal r 5 e in
          ap u4 z ∙ ap (λ n. add_words n (frame - 16)) (put-other u2 d v 4 (λ f. d4 (sym f))) ∙ pointer ∙ ap w (sym z)
      keeps r ne false e = put-other u3 5 _ r (apart r 5 e) ∙ put-other u2 d v r ne ∙ put-other (put w 5 (w a)) 5 v r (apart r 5 e) ∙ put-other w 5 (w a) r (apart r 5 e)

  pub taken-word : Leaves (taken_away op frame d a b) d v (carry_of behind) q
  taken-word = by (d == b) refl
    where
      by : (k : Bool) → (d == b) ≡ k → Leaves (if k then RmReg alu.Mov 5 a ∷ RmReg op 5 b ∷ RmReg alu.Mov d 5 ∷ again frame else ordered op d a b) d v (carry_of behind) q
      by true e = through-scratch (equal d b e)
      by false e = record { word = ordered-word [] op d a b c q kept given (apart d b e); carry_is = refl }

-- ---- the carry that is taken, and that is left
pub taken-sum : (k : Carry) (c : Bool) (w : ℕ → ℕ) (f : Option Bool) → carry_in binary.Addx k ≡ Some c → HoldsCarry X86_64 w f k → f ≡ Some c
taken-sum carry.Undefined c w f e h = cc
taken-sum (carry.Sum b) c w f e h = h ∙ e
taken-sum (carry.Difference b) c w f e h = cc

pub taken-difference : (k : Carry) (c : Bool) (w : ℕ → ℕ) (f : Option Bool) → carry_in binary.Subx k ≡ Some c → HoldsCarry X86_64 w f k → f ≡ Some c
taken-difference carry.Undefined c w f e h = cc
taken-difference (carry.Sum b) c w f e h = cc
taken-difference (carry.Difference b) c w f e h = h ∙ e

pub sum-word : (a b : ℕ) → add_words a b ≡ (a + b + 0) % 2 ^ 64
sum-word a b = grind arith

pub difference-word : (a b : ℕ) → a < 2 ^ 64 → b < 2 ^ 64 → (a + (2 ^ 64 - b)) % 2 ^ 64 ≡ (a + (2 ^ 65 - (b + 0))) % 2 ^ 64
difference-word a b h k = grind (arith, h, k)

swapped-sum : (a b c : ℕ) → (a + b + c) % 2 ^ 64 ≡ (b + a + c) % 2 ^ 64
swapped-sum a b c = grind arith

swapped-carry : (a b c : ℕ) → carry_out a b c ≡ carry_out b a c
swapped-carry a b c = grind arith

module _ (frame d a b : ℕ) (q : Held) (d5 : d ≢ 5) (d4 : d ≢ 4) (words : (r : ℕ) → q.registers r < 2 ^ 64) (pointer : add_words (q.registers 4) (frame - 16) ≡ q.registers 5) where
  abbrev x : ℕ
  x = q.registers a

  abbrev y : ℕ
  y = q.registers b

  pub carried-word : (o : BinaryOp) (k : Carry) (c : Bool) → sets_carry o ≡ true → carry_in o k ≡ Some c → HoldsCarry X86_64 q.registers (carry_of q.flags) k → MakesWithCarry o (carry_register_code o frame d a b) d x y (bit_word c) q
  carried-word binary.Addc k c is e h =
      let z : false ≡ c = some-same false c e in
      let m = as-left (carry_register_code binary.Addc frame d a b) d _ _ _ q (commuting-leaves alu.Add d a b false q refl refl (λ m n t. add-swap m n) (λ m n t. ap Some (swapped-carry m n 0))) (sum-word x y) in
      subst (λ t. MakesWithCarry binary.Addc (carry_register_code binary.Addc frame d a b) d x y (bit_word t) q) z record { word = m.word; holds = m.carry_is }
  carried-word binary.Addx k c is e h =
      let m = commuting-leaves alu.Adc d a b c q refl (taken-sum k c q.registers (carry_of q.flags) e h) (λ m n t. swapped-sum m n t) (λ m n t. ap Some (swapped-carry m n t)) in
      record { word = m.word; holds = m.carry_is }
  carried-word binary.Subc k c is e h =
      let z : false ≡ c = some-same false c e in
      let m = as-left (carry_register_code binary.Subc frame d a b) d _ _ _ q (taken-word alu.Sub frame d a b false q refl refl d5 d4 pointer) (difference-word x y (words a) (words b)) in
      subst (λ t. MakesWithCarry binary.Subc (carry_register_code binary.Subc frame d a b) d x y (bit_word t) q) z record { word = m.word; holds = m.carry_is }
  carried-word binary.Subx k c is e h =
      let m = taken-word alu.Sbb frame d a b c q refl (taken-difference k c q.registers (carry_of q.flags) e h) d5 d4 pointer in
      record { word = m.word; holds = m.carry_is }
  carried-word o k c is e h = cc

pub carried-are-made : CarryCodesAreMade
carried-are-made frame d a b q d5 d4 f o k c is e h = carried-word frame d a b q d5 d4 f.words f.pointer o k c is e h
