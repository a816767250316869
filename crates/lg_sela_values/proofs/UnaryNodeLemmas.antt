-- Nodes of one word, of a register or of the text.
use Rattle.std.proofs.Common.{◌≡◌, ◌≢◌, ℕ, true, [], ◌∷◌, List, Some, ap, ◌∙◌, arith}
use Rattle.lg_base.specs.Flags.{carry_of}
use Rattle.lg_base.specs.declared.target.Target.TheVariants.{Aarch64}
use Rattle.lg_op.specs.declared.op.UnaryOp.{UnaryOp}
use Rattle.lg_op.specs.declared.op.UnaryOp.TheVariants as unary
use Rattle.lg_op.specs.declared.op.ValueType.{ValueType}
use Rattle.lg_op.specs.declared.operand.Reg.{Reg}
use Rattle.lg_op.specs.declared.operand.Reg.TheVariants.{Fp}
use Rattle.lg_op.specs.declared.operand.Operand.{Operand}
use Rattle.lg_op.specs.Operators.{unary_value, keeps_carry}
use Rattle.lg_meaning.specs.States.{State, value}
use Rattle.lg_a64.specs.declared.instruction.Instr.{Instr}
use Rattle.lg_temp.specs.Abis.{register_of}
use Rattle.lg_carry.specs.FinalNodes.{Code}
use Rattle.lg_carry.specs.TextNodes.{IsInText}
use Rattle.lg_carry.specs.Values.ValueNodes.{unary_node, movi_node, va_start_node, retval_node, extension}
use Rattle.lg_carry.specs.Values.Values.{KeepsCarry}
use Rattle.lg_carry.proofs.OfValues.OneWordLemmas.{unary-nodes-compute, movi-nodes-compute, va-start-nodes-compute, retval-nodes-compute}
use Rattle.lg_sela_values.specs.Processor.A64Computers.{a64_scratch, a64_computer, IsComputed}
use Rattle.lg_sela_values.specs.Processor.Computations.{computed}
use Rattle.lg_sela_values.proofs.OfProcessor.ComputerLemmas.{into, carry-stays, known-carry}
use Rattle.lg_sela_values.proofs.OfProcessor.HeldLemmas.{put-same, put-other}
use Rattle.lg_sela_values.proofs.OfProcessor.RegisterLemmas.{register-small}
use Rattle.lg_carry.proofs.OfValues.ValueNodeLemmas.{extends}
use Rattle.lg_sela_values.specs.UnaryCode.{unary_code, retval_code}
use Rattle.lg_sela_values.proofs.LoadCodeLemmas.{LoadsWord}
use Rattle.lg_sela_values.proofs.UnaryCodeLemmas.{unary-computed, unary-keeps, unary-computes}

-- ---- of a register; `movr` keeps the carry, and its code does
moved : (code : List ℕ) (trash : ℕ) (o : UnaryOp) (d a : ℕ) → keeps_carry o ≡ true → KeepsCarry (a64_computer code trash) (unary_code o d a)
moved code trash unary.Mov d a h w k e =
    carry-stays k w.registers (computed (unary_code unary.Mov d a) w).registers (carry_of w.flags) (carry_of (computed (unary_code unary.Mov d a) w).flags) (λ b z. known-carry (carry_of w.flags) b z) e
moved code trash o d a h w k e = cc

pub unary-node-computes : (c : Code) (i : ℕ) (o : UnaryOp) (d a : Reg) (line : ℕ) → d ≢ Fp → IsInText c i (unary_node o d a line)
    → IsComputed c i (unary_node o d a line) [] (unary_code o (register_of Aarch64 d) (register_of Aarch64 a))
unary-node-computes c i o d a line named t code trash =
    let rd = register_of Aarch64 d in
    let ra = register_of Aarch64 a in
    let body = unary_code o rd ra in
    let dl = register-small d in
    let al = register-small a in
    unary-nodes-compute (a64_computer code trash) a64_scratch c i o d a line [] body named t
    (into code trash (d ∷ []) [] body record { computes = unary-computes o rd ra; keeps = λ w r apart taken off. unary-keeps o rd ra w r apart.0 })
    (λ e. moved code trash o rd ra e)
    (λ s w m h em. unary-computed rd ra (omega (arith, dl)) (omega (arith, al)) w o ∙ ap (unary_value o) em)

-- ---- of the text
pub movi-computes : (c : Code) (i : ℕ) (d : Reg) (x : Operand) (v line : ℕ) → d ≢ Fp → ((s : State) → value c.addresses s x ≡ Some v) → IsInText c i (movi_node d x line)
    → (load : List Instr) → LoadsWord load (register_of Aarch64 d) v → IsComputed c i (movi_node d x line) [] load
movi-computes c i d x v line named given t load l code trash =
    movi-nodes-compute (a64_computer code trash) a64_scratch c i d x v line [] load named given t
    (into code trash (d ∷ []) [] load record {
      computes = l.computes;
      keeps = λ w r apart taken off. ap (λ u. u.registers r) (l.value w) ∙ put-other w.registers (register_of Aarch64 d) v r apart.0;
    })
    (λ w k e. carry-stays k w.registers (computed load w).registers (carry_of w.flags) (carry_of (computed load w).flags) (λ b z. ap (λ u. carry_of u.flags) (l.value w) ∙ z) e)
    (λ w. ap (λ u. u.registers (register_of Aarch64 d)) (l.value w) ∙ put-same w.registers (register_of Aarch64 d) v)

pub va-start-computes : (c : Code) (i : ℕ) (d : Reg) (k line : ℕ) → d ≢ Fp → IsInText c i (va_start_node d k line) → (load : List Instr) → LoadsWord load (register_of Aarch64 d) k
    → IsComputed c i (va_start_node d k line) [] load
va-start-computes c i d k line named t load l code trash =
    va-start-nodes-compute (a64_computer code trash) a64_scratch c i d k line [] load named t
    (into code trash (d ∷ []) [] load record {
      computes = l.computes;
      keeps = λ w r apart taken off. ap (λ u. u.registers r) (l.value w) ∙ put-other w.registers (register_of Aarch64 d) k r apart.0;
    })
    (λ w. ap (λ u. u.registers (register_of Aarch64 d)) (l.value w) ∙ put-same w.registers (register_of Aarch64 d) k)

-- ---- the result of a call
pub retval-computes : (c : Code) (i : ℕ) (t : ValueType) (d : Reg) (line : ℕ) → d ≢ Fp → IsInText c i (retval_node t d line) → IsComputed c i (retval_node t d line) [] (retval_code t (register_of Aarch64 d))
retval-computes c i t d line named x code trash =
    let rd = register_of Aarch64 d in
    let dl = register-small d in
    let body = retval_code t rd in
    retval-nodes-compute (a64_computer code trash) a64_scratch c i t d line [] body named x
    (into code trash (d ∷ []) [] body record { computes = unary-computes (extension t) rd 0; keeps = λ w r apart taken off. unary-keeps (extension t) rd 0 w r apart.0 })
    (λ w words. unary-computed rd 0 (omega (arith, dl)) (omega arith) w (extension t) ∙ extends t (w.registers 0))
