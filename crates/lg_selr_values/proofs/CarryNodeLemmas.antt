-- Nodes that set the carry.
use Rattle.std.proofs.Common.{◌≡◌, ◌≢◌, ℕ, ◌^◌, ◌<◌, Bool, true, false, List, [], ◌∷◌, ◌++◌, Some, None, refl, sym, ap, ◌∙◌, subst, arith}
use Rattle.std.specs.Prelude.{pos}
use Rattle.lg_base.specs.Flags.{carry_of}
use Rattle.lg_base.specs.Words.{word_of_test}
use Rattle.lg_base.specs.declared.target.Target.TheVariants.{Riscv64}
use Rattle.lg_op.specs.declared.op.BinaryOp.{BinaryOp}
use Rattle.lg_op.specs.declared.op.BinaryOp.TheVariants as binary
use Rattle.lg_op.specs.declared.op.LastOperand.{LastOperand}
use Rattle.lg_op.specs.declared.node.Node.{Node}
use Rattle.lg_op.specs.declared.operand.Reg.{Reg}
use Rattle.lg_op.specs.declared.operand.Reg.TheVariants.{Fp}
use Rattle.lg_op.specs.declared.operand.Operand.{Operand}
use Rattle.lg_op.specs.declared.carry.Carry.{Carry}
use Rattle.lg_op.specs.declared.carry.Carry.TheVariants as carry
use Rattle.lg_op.specs.Operators.{sets_carry, carry_in, value_with_carry, carry_made}
use Rattle.lg_rv.specs.declared.instruction.Instr.{Instr}
use Rattle.lg_rv.specs.declared.instruction.Instr.TheVariants.{Imm}
use Rattle.lg_rv.specs.declared.instruction.ImmOp.TheVariants.{Addi}
use Rattle.lg_cpu.specs.HostSteps.{put}
use Rattle.lg_cpu.specs.RvStep.{read}
use Rattle.lg_meaning.specs.States.{State, value}
use Rattle.lg_meaning.specs.Steps.{bit_word}
use Rattle.lg_temp.specs.declared.choice.Choice.{Choice}
use Rattle.lg_temp.specs.Abis.{register_of}
use Rattle.lg_carry.specs.Nodes.Straight.{is_taken}
use Rattle.lg_carry.specs.FinalNodes.{Code}
use Rattle.lg_carry.specs.Registers.{HoldsCarry}
use Rattle.lg_carry.specs.TextNodes.{IsInText}
use Rattle.lg_selr_values.specs.Processor.Computations.{all_compute, computed}
use Rattle.lg_selr_values.specs.Processor.RvComputers.{rv_scratch, held_by, rv_computer, IsComputed}
use Rattle.lg_selr_values.proofs.OfProcessor.ComputerLemmas.{held-at, into, carry-again}
use Rattle.lg_carry.specs.Values.Computers.{Held, HeldRead}
use Rattle.lg_carry.specs.Values.Computers as computer
use Rattle.lg_selr_values.proofs.OfProcessor.ComputationLemmas.{computed-append, all-compute-append, read-other, put-same, put-other}
use Rattle.lg_selr_values.proofs.OfProcessor.RegisterLemmas.{register-apart, register-nonzero, read-of}
use Rattle.lg_selr_values.specs.CarryCode.{carry_code}
use Rattle.lg_carry.specs.Values.ValueNodes.{binary_node}
use Rattle.lg_selr_values.proofs.LoadCodeLemmas.{some-same, read-small, LoadsWord}
use Rattle.lg_selr_values.proofs.CarryCodeLemmas.{IsOtherThan, addc-holds, subc-holds, addx-holds, subx-holds, carried-keeps, carried-computes}
use Rattle.lg_carry.proofs.OfValues.OneResultLemmas.{carried-nodes-compute}
use Rattle.lg_selr_values.proofs.UnaryCodeLemmas.{add-none}

-- ---- the temporary
-- what is asked of a register that is one
pub record IsTemporaryFor (d a : Reg) (u : ℕ) : Type 0 where
  pub nonzero : u ≢ 0
  pub link : u ≢ 1
  pub carry : u ≢ 31
  pub written : u ≢ register_of Riscv64 d
  pub read : register_of Riscv64 a ≢ u

-- the operations that take a carry have one, and the others need none
abbrev pub HasTemporary : BinaryOp → Reg → Reg → ℕ → Type 0
HasTemporary binary.Addx d a u = IsTemporaryFor d a u
HasTemporary binary.Subx d a u = IsTemporaryFor d a u
HasTemporary o d a u = Unit {0}

-- ---- the carry that is taken
taken-sum : (k : Carry) (bit : Bool) (w : ℕ → ℕ) → carry_in binary.Addx k ≡ Some bit → HoldsCarry Riscv64 w None k → w 31 ≡ word_of_test bit
taken-sum carry.Undefined bit w e h = cc
taken-sum (carry.Sum b) bit w e h = let z : b ≡ bit = some-same b bit e in h ∙ ap word_of_test z
taken-sum (carry.Difference b) bit w e h = cc

taken-difference : (k : Carry) (bit : Bool) (w : ℕ → ℕ) → carry_in binary.Subx k ≡ Some bit → HoldsCarry Riscv64 w None k → w 31 ≡ word_of_test bit
taken-difference carry.Undefined bit w e h = cc
taken-difference (carry.Sum b) bit w e h = cc
taken-difference (carry.Difference b) bit w e h = let z : b ≡ bit = some-same b bit e in h ∙ ap word_of_test z

-- what is said of the registers after the code, for the bit that is taken
pub record HoldsResult (o : BinaryOp) (d x y c : ℕ) (u : ℕ → ℕ) : Type 0 where
  pub value : u d ≡ value_with_carry o x y c
  pub carry : HoldsCarry Riscv64 u None (carry_made o x y c)

-- ---- the code, where the link holds the second word
module _ (u : ℕ) (d a : Reg) (w : ℕ → ℕ) (x y : ℕ) (xs : x < 2 ^ 64) (ys : y < 2 ^ 64) (ex : read w (register_of Riscv64 a) ≡ x) (ey : w 1 ≡ y) where
  abbrev rd : ℕ
  rd = register_of Riscv64 d

  abbrev ra : ℕ
  ra = register_of Riscv64 a

  code-holds : (o : BinaryOp) (k : Carry) (bit : Bool) → HasTemporary o d a u → sets_carry o ≡ true → carry_in o k ≡ Some bit → HoldsCarry Riscv64 w None k → HoldsResult o rd x y (bit_word bit) (computed (carry_code o u rd ra) w)
  code-holds binary.Addc k bit t h e c =
      let z : false ≡ bit = some-same false bit e in
      let m = addc-holds u rd ra (register-apart d).0 (register-apart d).1 (register-nonzero d) (register-apart a).1 w x y xs ys ex ey in
      subst (λ b. HoldsResult binary.Addc rd x y (bit_word b) (computed (carry_code binary.Addc u rd ra) w)) z record { value = m.value; carry = m.carry }
  code-holds binary.Subc k bit t h e c =
      let z : false ≡ bit = some-same false bit e in
      let m = subc-holds u rd ra (register-apart d).0 (register-apart d).1 (register-nonzero d) (register-apart a).1 w x y xs ys ex ey in
      subst (λ b. HoldsResult binary.Subc rd x y (bit_word b) (computed (carry_code binary.Subc u rd ra) w)) z record { value = m.value; carry = m.carry }
  code-holds binary.Addx k bit t h e c =
      let m = addx-holds u rd ra t.nonzero t.link t.carry t.written (register-apart d).0 (register-apart d).1 (register-nonzero d) (register-apart a).0 t.read w x y bit xs ys ex ey (taken-sum k bit w e c) in
      record { value = m.value; carry = m.carry }
  code-holds binary.Subx k bit t h e c =
      let m = subx-holds u rd ra t.nonzero t.link t.carry t.written (register-apart d).0 (register-apart d).1 (register-nonzero d) (register-apart a).0 t.read w x y bit xs ys ex ey (taken-difference k bit w e c) in
      record { value = m.value; carry = m.carry }
  code-holds o k bit t h e c = cc

-- ---- the second word is put into the link
-- code that does so, from registers
pub record PutsSecond (second : List Instr) (y : (ℕ → ℕ) → ℕ) : Type 0 where
  pub computes : all_compute second ≡ true
  pub value : (w : ℕ → ℕ) → ((r : ℕ) → w r < 2 ^ 64) → computed second w ≡ put w 1 (y w)
  pub keeps : (w : ℕ → ℕ) (r : ℕ) → r ≢ 1 → computed second w r ≡ w r
  pub small : (w : ℕ → ℕ) → ((r : ℕ) → w r < 2 ^ 64) → y w < 2 ^ 64

pub second-register : (b : ℕ) → PutsSecond (Imm Addi 1 b (pos 0) ∷ []) (λ w. read w b)
second-register b = record { computes = refl; value = λ w words. ap (put w 1) (add-none (read w b) (read-small w b words)); keeps = λ w r ne. put-other w 1 _ r ne; small = λ w words. read-small w b words }

pub second-loaded : (load : List Instr) (v : ℕ) → LoadsWord load 1 v → PutsSecond load (λ w. v)
second-loaded load v l = record { computes = l.computes; value = λ w words. l.value w; keeps = λ w r ne. ap (λ u. u r) (l.value w) ∙ put-other w 1 v r ne; small = λ w words. l.small }

-- ---- the nodes
module _ (c : Code) (i : ℕ) (o : BinaryOp) (last : LastOperand) (d a : Reg) (x : Operand) (line : ℕ) (carries : sets_carry o ≡ true) (named : d ≢ Fp) (t : IsInText c i (binary_node o last d a x line))
    (choices : List Choice) (u : ℕ) (temp : HasTemporary o d a u) (other : (r : ℕ) → is_taken choices r ≡ false → IsOtherThan o u r)
    (second : List Instr) (y : (ℕ → ℕ) → ℕ) (puts : PutsSecond second y)
    (gives : (s : State) (w : Held) (k : ℕ) → HeldRead Riscv64 (binary_node o last d a x line) s w → value c.addresses s x ≡ Some k → y w.registers ≡ k) where
  abbrev n : Node
  n = binary_node o last d a x line

  abbrev to : ℕ
  to = register_of Riscv64 d

  abbrev from : ℕ
  from = register_of Riscv64 a

  abbrev body : List Instr
  body = second ++ carry_code o u to from

  before : (w : ℕ → ℕ) → ((r : ℕ) → w r < 2 ^ 64) → computed body w ≡ computed (carry_code o u to from) (put w 1 (y w))
  before w words = computed-append second (carry_code o u to from) w ∙ ap (computed (carry_code o u to from)) (puts.value w words)

  made : (s : State) (w : Held) (m k : ℕ) (bit : Bool) → HeldRead Riscv64 n s w → w.registers from ≡ m → value c.addresses s x ≡ Some k → carry_in o s.carry ≡ Some bit → HoldsResult o to m k (bit_word bit) (computed body w.registers)
  made s w m k bit h em ek eb =
      let w0 = w.registers in
      let w1 = put w0 1 (y w0) in
      let first : read w0 from ≡ m = read-of w0 a ∙ em in
      let ex : read w1 from ≡ m = read-other w0 1 (y w0) from (register-apart a).0 ∙ first in
      let ey : w1 1 ≡ k = put-same w0 1 (y w0) ∙ gives s w k h ek in
      let xs : m < 2 ^ 64 = subst (λ z. z < 2 ^ 64) first (read-small w0 from h.words) in
      let ys : k < 2 ^ 64 = subst (λ z. z < 2 ^ 64) (gives s w k h ek) (puts.small w0 h.words) in
      subst (HoldsResult o to m k (bit_word bit)) (sym (before w0 h.words))
      (code-holds u d a w1 m k xs ys ex ey o s.carry bit temp carries eb (carry-again s.carry w0 w1 (carry_of w.flags) None (put-other w0 1 (y w0) 31 (λ z. absurd (omega (arith, z)))) h.carry))

  pub carried-computes-node : IsComputed c i n choices body
  carried-computes-node code trash = carried-nodes-compute (rv_computer code trash) rv_scratch c i o last d a x line choices body carries named t
      (into code trash (d ∷ []) choices body record {
        computes = all-compute-append second (carry_code o u to from) puts.computes (carried-computes o u to from);
        keeps = λ w r apart taken link carry. ap (λ z. z r) (computed-append second (carry_code o u to from) w) ∙ carried-keeps o u to from (computed second w) r (other r taken) apart.0 link carry ∙ puts.keeps w r link;
      })
      (λ s w m k bit h em ek eb.
      let e = made s w m k bit h em ek eb in
      let end = computer.computed held_by body w in
      record {
        value = held-at body w to (value_with_carry o m k (bit_word bit)) e.value;
        carry = carry-again (carry_made o m k (bit_word bit)) (computed body w.registers) end.registers None (carry_of end.flags) (held-at body w 31 (computed body w.registers 31) refl) e.carry;
      })
