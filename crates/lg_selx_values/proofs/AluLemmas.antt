-- Rows that combine a register with a word, after a move.
use Rattle.std.proofs.Common.{◌≡◌, ◌≢◌, ℕ, ◌<◌, ◌^◌, Bool, true, false, List, [], ◌∷◌, Option, Some, refl, sym, ap, ◌∙◌}
use Rattle.std.specs.Prelude.{◌==◌, if◌then◌else◌}
use Rattle.std.specs.Option.{option_and_then}
use Rattle.lg_base.specs.Words.{sub_words, negated}
use Rattle.lg_x86.specs.declared.instruction.Instr.{Instr}
use Rattle.lg_x86.specs.declared.instruction.Instr.TheVariants.{RmReg, Unary}
use Rattle.lg_x86.specs.declared.instruction.RmRegOp.{RmRegOp}
use Rattle.lg_x86.specs.declared.instruction.RmRegOp.TheVariants as alu
use Rattle.lg_x86.specs.declared.instruction.UnaryOp.TheVariants.{Neg}
use Rattle.lg_cpu.specs.HostSteps.{put}
use Rattle.lg_base.specs.declared.flags.Flags.{Flags}
use Rattle.lg_cpu.specs.X86Operators.{bit, carry_for, alu_value, alu_flags, is_kept_by, negation_flags}
use Rattle.lg_cpu.specs.X86Step.{with_carry, combined}
use Rattle.lg_temp.specs.declared.choice.Choice.{Choice}
use Rattle.lg_selx_values.specs.Processor.Makings.{makes}
use Rattle.lg_selx_values.specs.Processor.MakingNodes.{scene}
use Rattle.lg_carry.specs.Values.Computers.{Held}
use Rattle.lg_base.specs.Flags.{carry_of}
use Rattle.lg_selx_values.specs.BinaryCode.{ordered, commuting, difference}
use Rattle.lg_selx_values.specs.Words.{MakesWord}
use Rattle.lg_selx_values.proofs.RegisterLemmas.{put-same, put-other, put-twice, equal, apart, moved-makes}
use Rattle.lg_selx_values.proofs.WordLemmas.{negate-difference}

-- ---- one row
pub alu-made : (op : RmRegOp) (rm b : ℕ) (c : Bool) (w : ℕ → ℕ) (f : Flags) (bytes : ℕ → Option ℕ) → is_kept_by op ≡ false → carry_for op (carry_of f) ≡ Some c
    → combined op rm b (scene w f bytes) ≡ Some (scene (put w rm (alu_value op (w rm) b (bit c))) (alu_flags op f (w rm) b (bit c)) bytes)
alu-made op rm b c w f bytes kept given =
    ap (with_carry op rm b (scene w f bytes)) given
    ∙ ap (λ (k : Bool). Some (if k then scene w (alu_flags op f (w rm) b (bit c)) bytes else scene (put w rm (alu_value op (w rm) b (bit c))) (alu_flags op f (w rm) b (bit c)) bytes)) kept

-- after a move, where the second register is another
pub ordered-makes : (op : RmRegOp) (d a b : ℕ) (c : Bool) (w : ℕ → ℕ) (f : Flags) (bytes : ℕ → Option ℕ) → d ≢ b → is_kept_by op ≡ false → carry_for op (carry_of f) ≡ Some c
    → makes (ordered op d a b) (scene w f bytes) ≡ Some (scene (put w d (alu_value op (w a) (w b) (bit c))) (alu_flags op f (w a) (w b) (bit c)) bytes)
ordered-makes op d a b c w f bytes ne kept given =
    let u : ℕ → ℕ = put w d (w a) in
    let second : u b ≡ w b = put-other w d (w a) b (λ e. ne (sym e)) in
    let first : u d ≡ w a = put-same w d (w a) in
    moved-makes d a (RmReg op d b ∷ []) w f bytes
    ∙ ap (option_and_then (makes [])) (ap (λ x. combined op d x (scene u f bytes)) second ∙ alu-made op d (w b) c u f bytes kept given)
    ∙ ap (λ x. Some (scene (put u d (alu_value op x (w b) (bit c))) (alu_flags op f x (w b) (bit c)) bytes)) first
    ∙ ap (λ g. Some (scene g (alu_flags op f (w a) (w b) (bit c)) bytes)) (put-twice w d (w a) (alu_value op (w a) (w b) (bit c)))

-- the same row on the first register alone
pub turned-makes : (op : RmRegOp) (d a : ℕ) (c : Bool) (w : ℕ → ℕ) (f : Flags) (bytes : ℕ → Option ℕ) → is_kept_by op ≡ false → carry_for op (carry_of f) ≡ Some c
    → makes (RmReg op d a ∷ []) (scene w f bytes) ≡ Some (scene (put w d (alu_value op (w d) (w a) (bit c))) (alu_flags op f (w d) (w a) (bit c)) bytes)
turned-makes op d a c w f bytes kept given = ap (option_and_then (makes [])) (alu-made op d (w a) c w f bytes kept given)

-- ---- a word in one register
abbrev pub put-word : (choices : List Choice) (body : List Instr) (d z : ℕ) (q : Held) (flags : Flags)
    → ((bytes : ℕ → Option ℕ) → makes body (scene q.registers q.flags bytes) ≡ Some (scene (put q.registers d z) flags bytes)) → MakesWord choices body d z q
put-word choices body d z q flags h = record { registers = put q.registers d z; flags = flags; value = put-same q.registers d z; keeps = λ r ne free. put-other q.registers d z r ne; makes_it = h }

module _ (choices : List Choice) (op : RmRegOp) (d a b : ℕ) (c : Bool) (q : Held) (kept : is_kept_by op ≡ false) (given : carry_for op (carry_of q.flags) ≡ Some c) where
  abbrev w : ℕ → ℕ
  w = q.registers

  abbrev behind : Flags
  behind = alu_flags op q.flags (w a) (w b) (bit c)

  abbrev pub ordered-word : d ≢ b → MakesWord choices (ordered op d a b) d (alu_value op (w a) (w b) (bit c)) q
  ordered-word ne = put-word choices (ordered op d a b) d (alu_value op (w a) (w b) (bit c)) q behind (λ bytes. ordered-makes op d a b c w q.flags bytes ne kept given)

  -- where the result takes the place of the second word
  abbrev pub turned-word : d ≡ b → ((x y n : ℕ) → alu_value op x y n ≡ alu_value op y x n) → MakesWord choices (RmReg op d a ∷ []) d (alu_value op (w a) (w b) (bit c)) q
  turned-word same values =
      let value : alu_value op (w d) (w a) (bit c) ≡ alu_value op (w a) (w b) (bit c) = ap (λ x. alu_value op (w x) (w a) (bit c)) same ∙ values (w b) (w a) (bit c) in
      put-word choices (RmReg op d a ∷ []) d (alu_value op (w a) (w b) (bit c)) q (alu_flags op q.flags (w d) (w a) (bit c))
      (λ bytes. turned-makes op d a c w q.flags bytes kept given ∙ ap (λ x. Some (scene (put w d x) (alu_flags op q.flags (w d) (w a) (bit c)) bytes)) value)

  pub commuting-word : ((x y n : ℕ) → alu_value op x y n ≡ alu_value op y x n) → MakesWord choices (commuting op d a b) d (alu_value op (w a) (w b) (bit c)) q
  commuting-word values = by (d == b) refl
    where
      by : (k : Bool) → (d == b) ≡ k → MakesWord choices (if k then RmReg op d a ∷ [] else ordered op d a b) d (alu_value op (w a) (w b) (bit c)) q
      by true e = turned-word (equal d b e) values
      by false e = ordered-word (apart d b e)

-- ---- differences
pub difference-word : (choices : List Choice) (d a b : ℕ) (q : Held) → ((r : ℕ) → q.registers r < 2 ^ 64) → MakesWord choices (difference d a b) d (sub_words (q.registers a) (q.registers b)) q
difference-word choices d a b q words = by (d == b) refl
  where
    by : (k : Bool) → (d == b) ≡ k → MakesWord choices (if k then RmReg alu.Sub d a ∷ Unary Neg d ∷ [] else ordered alu.Sub d a b) d (sub_words (q.registers a) (q.registers b)) q
    by true e =
        let w : ℕ → ℕ = q.registers in
        let x : ℕ = sub_words (w d) (w a) in
        let value : negated x ≡ sub_words (w a) (w b) = ap (λ y. negated (sub_words y (w a))) (ap w (equal d b e)) ∙ negate-difference (w a) (w b) (words a) (words b) in
        put-word choices (RmReg alu.Sub d a ∷ Unary Neg d ∷ []) d (sub_words (w a) (w b)) q (negation_flags x)
        (λ bytes. ap (λ y. Some (scene (put (put w d x) d (negated y)) (negation_flags y) bytes)) (put-same w d x) ∙ ap (λ g. Some (scene g (negation_flags x) bytes)) (put-twice w d x (negated x)) ∙ ap (λ y. Some (scene (put w d y) (negation_flags x) bytes)) value)
    by false e = ordered-word choices alu.Sub d a b false q refl refl (apart d b e)
