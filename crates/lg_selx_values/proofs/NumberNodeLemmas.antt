-- Nodes that compute values from a register and a word of the text.
use Rattle.std.proofs.Common.{◌≡◌, ◌≢◌, ℕ, ◌^◌, ◌<◌, ◌≤◌, Bool, true, false, [], Some, refl, sym, ap, ◌∙◌, subst, length, arith}
use Rattle.lg_base.specs.Flags.{carry_of}
use Rattle.lg_base.specs.declared.target.Target.TheVariants.{X86_64}
use Rattle.lg_op.specs.declared.op.Op.TheVariants as op
use Rattle.lg_op.specs.declared.op.BinaryOp.{BinaryOp}
use Rattle.lg_op.specs.declared.op.BinaryOp.TheVariants as binary
use Rattle.lg_op.specs.declared.op.LastOperand.TheVariants as last_operand
use Rattle.lg_op.specs.declared.carry.Carry.{Carry}
use Rattle.lg_op.specs.Operators.{binary_value, sets_carry, carry_in}
use Rattle.lg_live.specs.Registers.{is_same}
use Rattle.lg_meaning.specs.Steps.{bit_word}
use Rattle.lg_x86.specs.declared.instruction.ImmOp.TheVariants as imm
use Rattle.lg_temp.specs.Abis.{register_of}
use Rattle.lg_temp.specs.Chosen.{is_named}
use Rattle.lg_carry.specs.Registers.{HoldsCarry}
use Rattle.lg_carry.specs.Nodes.Straight.{is_taken}
use Rattle.lg_carry.specs.Values.Computers.{Held}
use Rattle.lg_carry.specs.Values.ValueNodes.{binary_node}
use Rattle.lg_carry.proofs.OfValues.ResultLemmas.{or-false}
use Rattle.lg_selx_values.specs.BinaryCode.{number_form_code}
use Rattle.lg_selx_values.specs.CarryCode.{carry_number_code}
use Rattle.lg_selx_values.specs.Needs.{value_needs}
use Rattle.lg_selx_values.specs.NumberWords.{number_spoils}
use Rattle.lg_selx_values.specs.RegisterNodes.{BinaryNumbersCarry, FlagNumbersCarry}
use Rattle.lg_selx_values.specs.WordLaws.{IsInFrame, MakesWithCarry}
use Rattle.lg_selx_values.proofs.BinaryCodeLemmas.{some-same}
use Rattle.lg_selx_values.proofs.CarryCodeLemmas.{taken-sum, taken-difference, sum-word, difference-word}
use Rattle.lg_selx_values.proofs.NeedLemmas.{named-apart, same-register}
use Rattle.lg_selx_values.proofs.NodeLemmas.{holding, in-frame, binary-makes, carried-makes}
use Rattle.lg_selx_values.proofs.NumberLemmas.{number-rows-are-made}
use Rattle.lg_selx_values.proofs.NumberWordLemmas.{numbers-are-made}
use Rattle.lg_selx_values.proofs.RegisterLemmas.{register-portable, register-not-frame}
use Rattle.lg_selx_values.proofs.RegisterNodeLemmas.{two-named, chosen-carries}

spoilt-named : (o : BinaryOp) (r : ℕ) → number_spoils o r ≡ true → is_named (value_needs (op.Binary o last_operand.Immediate)) r ≡ true
spoilt-named binary.Div r e = two-named r e
spoilt-named binary.DivU r e = two-named r e
spoilt-named binary.Rem r e = two-named r e
spoilt-named binary.RemU r e = two-named r e
spoilt-named o r e = cc

needs-small : (o : BinaryOp) (r : ℕ) → is_named (value_needs (op.Binary o last_operand.Immediate)) r ≡ true → r < 3
needs-small binary.Div r e = grind (arith, e)
needs-small binary.DivU r e = grind (arith, e)
needs-small binary.Rem r e = grind (arith, e)
needs-small binary.RemU r e = grind (arith, e)
needs-small o r e = cc

needs-few : (o : BinaryOp) → length (value_needs (op.Binary o last_operand.Immediate)) ≤ 3
needs-few binary.Div = omega arith
needs-few o = omega arith

pub binary-numbers-carry : BinaryNumbersCarry
binary-numbers-carry code trash c i frame o d a x v line live choices plain named small given k =
    let rd = register_of X86_64 d in
    let ra = register_of X86_64 a in
    let body = number_form_code o frame rd ra v in
    let n = binary_node o last_operand.Immediate d a x line in
    chosen-carries code trash c i frame n live choices body refl refl (needs-small o) (needs-few o) k
    (binary-makes c i frame o last_operand.Immediate d a x line named k.in_text choices body plain
    (λ s q m y z h em ey ez.
    let e : v ≡ y = some-same v y (sym (given s) ∙ ey) in
    let same : binary_value o (q.registers ra) v ≡ binary_value o m y = (λ j. binary_value o (em j) (e j)) in
    numbers-are-made choices frame rd ra v (holding q) (register-not-frame d named) (register-portable d).no_stack small (in-frame n frame s q h) o z plain (λ r free ne. kept r free ne (number_spoils o r) refl) (same ∙ ez)))
  where
    kept : (r : ℕ) → is_taken choices r ≡ false → r ≢ register_of X86_64 d → (e : Bool) → number_spoils o r ≡ e → e ≡ false
    kept r free ne true e =
        let s = named-apart (binary_node o last_operand.Immediate d a x line) live k.staged (value_needs (op.Binary o last_operand.Immediate)) choices r (is_same d) (λ q. or-false (is_same d q)) k.chosen (spoilt-named o r e) free in
        absurd (ne (sym (same-register d s.register s.among ∙ s.is)))
    kept r free ne false e = refl

-- ---- and the carry
module _ (frame d a v : ℕ) (q : Held) (d5 : d ≢ 5) (d4 : d ≢ 4) (small : v < 2 ^ 64) (f : IsInFrame frame q) where
  abbrev m : ℕ
  m = q.registers a

  sum-carried : MakesWithCarry binary.Addc (carry_number_code binary.Addc frame d a v) d m v 0 q
  sum-carried =
      let l = number-rows-are-made frame d a v q d5 d4 small f imm.Addi false refl refl in
      let e = sum-word m v in
      let w = l.word in
      record { word = record { registers = w.registers; flags = w.flags; value = w.value ∙ e; keeps = w.keeps; makes_it = w.makes_it }; holds = l.carry_is }

  difference-carried : MakesWithCarry binary.Subc (carry_number_code binary.Subc frame d a v) d m v 0 q
  difference-carried =
      let l = number-rows-are-made frame d a v q d5 d4 small f imm.Subi false refl refl in
      let e = difference-word m v (f.words a) small in
      let w = l.word in
      record { word = record { registers = w.registers; flags = w.flags; value = w.value ∙ e; keeps = w.keeps; makes_it = w.makes_it }; holds = l.carry_is }

  pub number-carried : (o : BinaryOp) (k : Carry) (c : Bool) → sets_carry o ≡ true → carry_in o k ≡ Some c → HoldsCarry X86_64 q.registers (carry_of q.flags) k → MakesWithCarry o (carry_number_code o frame d a v) d m v (bit_word c) q
  number-carried binary.Addc k c is e h =
      let z : false ≡ c = some-same false c e in subst (λ t. MakesWithCarry binary.Addc (carry_number_code binary.Addc frame d a v) d m v (bit_word t) q) z sum-carried
  number-carried binary.Subc k c is e h =
      let z : false ≡ c = some-same false c e in subst (λ t. MakesWithCarry binary.Subc (carry_number_code binary.Subc frame d a v) d m v (bit_word t) q) z difference-carried
  number-carried binary.Addx k c is e h =
      let l = number-rows-are-made frame d a v q d5 d4 small f imm.Adci c refl (taken-sum k c q.registers (carry_of q.flags) e h) in record { word = l.word; holds = l.carry_is }
  number-carried binary.Subx k c is e h =
      let l = number-rows-are-made frame d a v q d5 d4 small f imm.Sbbi c refl (taken-difference k c q.registers (carry_of q.flags) e h) in record { word = l.word; holds = l.carry_is }
  number-carried o k c is e h = cc

carried-needs : (o : BinaryOp) → sets_carry o ≡ true → value_needs (op.Binary o last_operand.Immediate) ≡ []
carried-needs binary.Addc h = refl
carried-needs binary.Addx h = refl
carried-needs binary.Subc h = refl
carried-needs binary.Subx h = refl
carried-needs o h = cc

pub carried-numbers-carry : FlagNumbersCarry
carried-numbers-carry code trash c i frame o d a x v line live choices carries named small given k =
    let rd = register_of X86_64 d in
    let ra = register_of X86_64 a in
    let body = carry_number_code o frame rd ra v in
    let n = binary_node o last_operand.Immediate d a x line in
    let none = carried-needs o carries in
    chosen-carries code trash c i frame n live choices body refl refl (λ r e. absurd (unnamed r (ap (λ needs. is_named needs r) (sym none) ∙ e))) (subst (λ needs. length needs ≤ 3) (sym none) (omega arith)) k
    (carried-makes c i frame o last_operand.Immediate d a x line named k.in_text choices body carries
    (λ s q m y bit h em ey ek.
    let e : v ≡ y = some-same v y (sym (given s) ∙ ey) in
    subst (λ t. MakesWithCarry o body rd t y (bit_word bit) (holding q)) em (subst (λ t. MakesWithCarry o body rd (q.registers ra) t (bit_word bit) (holding q)) e
    (number-carried frame rd ra v (holding q) (register-not-frame d named) (register-portable d).no_stack small (in-frame n frame s q h) o s.carry bit carries ek h.carry))))
  where
    unnamed : (r : ℕ) → is_named [] r ≡ true → ⊥
    unnamed r e = cc
