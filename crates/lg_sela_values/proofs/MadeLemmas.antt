-- Code that makes the word of an operation of a register and another word, and the carry where the operation sets it; and the nodes that it computes.
use Rattle.std.proofs.Common.{◌≡◌, ◌≢◌, ℕ, ◌^◌, ◌<◌, Bool, true, false, List, [], ◌∷◌, ◌++◌, Some, refl, sym, ap, ◌∙◌, subst}
use Rattle.lg_base.specs.Flags.{carry_of}
use Rattle.lg_base.specs.declared.target.Target.TheVariants.{Aarch64}
use Rattle.lg_op.specs.declared.op.BinaryOp.{BinaryOp}
use Rattle.lg_op.specs.declared.op.LastOperand.{LastOperand}
use Rattle.lg_op.specs.declared.operand.Operand.{Operand}
use Rattle.lg_op.specs.declared.operand.Reg.{Reg}
use Rattle.lg_op.specs.declared.operand.Reg.TheVariants.{Fp}
use Rattle.lg_op.specs.declared.carry.Carry.{Carry}
use Rattle.lg_op.specs.Operators.{binary_value, sets_carry, carry_in}
use Rattle.lg_meaning.specs.States.{State, value}
use Rattle.lg_meaning.specs.Steps.{bit_word}
use Rattle.lg_a64.specs.declared.instruction.Instr.{Instr}
use Rattle.lg_cpu.specs.HostSteps.{put}
use Rattle.lg_temp.specs.declared.choice.Choice.{Choice}
use Rattle.lg_temp.specs.Abis.{register_of}
use Rattle.lg_carry.specs.FinalNodes.{Code}
use Rattle.lg_carry.specs.Registers.{HoldsCarry}
use Rattle.lg_carry.specs.TextNodes.{IsInText}
use Rattle.lg_carry.specs.Nodes.Straight.{is_taken}
use Rattle.lg_carry.specs.Values.Computers.{Held, HeldRead}
use Rattle.lg_carry.specs.Values.ValueNodes.{binary_node}
use Rattle.lg_carry.specs.Values.Values.{HoldsWithCarry}
use Rattle.lg_carry.proofs.OfValues.ComputationLemmas.{computed-append}
use Rattle.lg_carry.proofs.OfValues.OneResultLemmas.{binary-nodes-compute, carried-nodes-compute}
use Rattle.lg_sela_values.specs.Processor.A64Computers.{a64_scratch, a64_computer, IsComputed}
use Rattle.lg_sela_values.specs.Processor.A64Rows.{link}
use Rattle.lg_sela_values.specs.Processor.Computations.{all_compute, holding, computed_by, computed}
use Rattle.lg_sela_values.proofs.OfProcessor.ComputerLemmas.{into, carry-stays}
use Rattle.lg_sela_values.proofs.OfProcessor.HeldLemmas.{put-same, put-other}
use Rattle.lg_sela_values.specs.BinaryCode.{register_code}
use Rattle.lg_sela_values.proofs.BinaryCodeLemmas.{IsApartFor, register-value, carried-holds, register-keeps, register-computes}
use Rattle.lg_sela_values.proofs.LoadCodeLemmas.{put-small, all-compute-append, LoadsWord}

abbrev pub AreWords : Held → Type 0
AreWords w = (r : ℕ) → w.registers r < 2 ^ 64

-- code that makes d = a op y, of what registers and flags hold before it, and keeps each register but d, temporaries and the link
pub record Makes (o : BinaryOp) (d a : ℕ) (y : Held → ℕ) (choices : List Choice) (body : List Instr) : Type 0 where
  pub computes : all_compute body ≡ true
  pub keeps : (w : Held) (r : ℕ) → r ≢ d → r ≢ link → is_taken choices r ≡ false → (computed body w).registers r ≡ w.registers r
  pub word : (w : Held) (z : ℕ) → AreWords w → sets_carry o ≡ false → binary_value o (w.registers a) (y w) ≡ Some z → (computed body w).registers d ≡ z
  pub carried : (w : Held) (k : Carry) (bit : Bool) → AreWords w → sets_carry o ≡ true → carry_in o k ≡ Some bit → HoldsCarry Aarch64 w.registers (carry_of w.flags) k
      → HoldsWithCarry Aarch64 o d (w.registers a) (y w) (bit_word bit) (computed body w)

-- ---- the node
module _ (c : Code) (i : ℕ) (o : BinaryOp) (last : LastOperand) (d a : Reg) (x : Operand) (line : ℕ) (named : d ≢ Fp) (t : IsInText c i (binary_node o last d a x line))
    (y : Held → ℕ) (choices : List Choice) (body : List Instr) (m : Makes o (register_of Aarch64 d) (register_of Aarch64 a) y choices body)
    (gives : (s : State) (w : Held) (k : ℕ) → HeldRead Aarch64 (binary_node o last d a x line) s w → value c.addresses s x ≡ Some k → y w ≡ k) where
  abbrev rd : ℕ
  rd = register_of Aarch64 d

  pub made-computes : IsComputed c i (binary_node o last d a x line) choices body
  made-computes code trash = by (sets_carry o) refl code trash
    where
      by : (b : Bool) → sets_carry o ≡ b → IsComputed c i (binary_node o last d a x line) choices body
      by false plain code trash = binary-nodes-compute (a64_computer code trash) a64_scratch c i o last d a x line choices body plain named t
          (into code trash (d ∷ []) choices body record { computes = m.computes; keeps = λ w r apart taken off. m.keeps w r apart.0 off taken })
          (λ s w p k z h ep ek ez. m.word w z h.words plain ((λ j. binary_value o (ep j) (gives s w k h ek j)) ∙ ez))
      by true carries code trash = carried-nodes-compute (a64_computer code trash) a64_scratch c i o last d a x line choices body carries named t
          (into code trash (d ∷ []) choices body record { computes = m.computes; keeps = λ w r apart taken off. m.keeps w r apart.0 off taken })
          (λ s w p k bit h ep ek eb.
          let holds = m.carried w s.carry bit h.words carries eb h.carry in
          subst (λ z. HoldsWithCarry Aarch64 o rd p z (bit_word bit) (computed body w)) (gives s w k h ek)
          (subst (λ z. HoldsWithCarry Aarch64 o rd z (y w) (bit_word bit) (computed body w)) ep holds))

-- ---- two registers
pub register-makes : (o : BinaryOp) (d a b : ℕ) → d < 31 → a < 30 → b < 31 → IsApartFor o b → Makes o d a (λ w. w.registers b) [] (register_code o d a b)
register-makes o d a b dl al bl apart = record {
  computes = register-computes o d a b;
  keeps = λ w r ne off taken. register-keeps o d a b w r ne off;
  word = λ w z words plain e. register-value d a b dl al bl w (words a) (words b) o z plain apart e;
  carried = λ w k bit words carries e h. carried-holds d a b dl al bl w (words a) (words b) o k bit carries e h;
}

-- ---- a register, and a word that is loaded into register t
module _ (o : BinaryOp) (d a t v : ℕ) (dl : d < 31) (al : a < 30) (tl : t < 31) (other : t ≢ a) (apart : IsApartFor o t) (load : List Instr) (l : LoadsWord load t v)
    (choices : List Choice) (off : (r : ℕ) → is_taken choices r ≡ false → r ≢ link → r ≢ t) where
  before : (w : Held) → computed (load ++ register_code o d a t) w ≡ computed (register_code o d a t) (holding (put w.registers t v) w.flags)
  before w = computed-append computed_by load (register_code o d a t) w ∙ ap (computed (register_code o d a t)) (l.value w)

  pub loaded-makes : Makes o d a (λ w. v) choices (load ++ register_code o d a t)
  loaded-makes = record {
    computes = all-compute-append load (register_code o d a t) l.computes (register-computes o d a t);
    keeps = λ w r ne no taken. ap (λ u. u.registers r) (before w) ∙ register-keeps o d a t (holding (put w.registers t v) w.flags) r ne no ∙ put-other w.registers t v r (off r taken no);
    word = λ w z words plain e.
        let w1 = holding (put w.registers t v) w.flags in
        let ea : w1.registers a ≡ w.registers a = put-other w.registers t v a (λ z. other (sym z)) in
        let et : w1.registers t ≡ v = put-same w.registers t v in
        ap (λ u. u.registers d) (before w)
        ∙ register-value d a t dl al tl w1 (put-small w.registers t v l.small words a) (put-small w.registers t v l.small words t) o z plain apart ((λ j. binary_value o (ea j) (et j)) ∙ e);
    carried = λ w k bit words carries e h.
        let w1 = holding (put w.registers t v) w.flags in
        let ea : w1.registers a ≡ w.registers a = put-other w.registers t v a (λ z. other (sym z)) in
        let et : w1.registers t ≡ v = put-same w.registers t v in
        let holds = carried-holds d a t dl al tl w1 (put-small w.registers t v l.small words a) (put-small w.registers t v l.small words t) o k bit carries e (same-carry w k h) in
        subst (λ u. HoldsWithCarry Aarch64 o d (w.registers a) v (bit_word bit) u) (sym (before w))
        (subst (λ z. HoldsWithCarry Aarch64 o d (w.registers a) z (bit_word bit) (computed (register_code o d a t) w1)) et
        (subst (λ z. HoldsWithCarry Aarch64 o d z (w1.registers t) (bit_word bit) (computed (register_code o d a t) w1)) ea holds));
  }
    where
      same-carry : (w : Held) (k : Carry) → HoldsCarry Aarch64 w.registers (carry_of w.flags) k → HoldsCarry Aarch64 (put w.registers t v) (carry_of w.flags) k
      same-carry w k h = carry-stays k w.registers (put w.registers t v) (carry_of w.flags) (carry_of w.flags) (λ b e. e) h
