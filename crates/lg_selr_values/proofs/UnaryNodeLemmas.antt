-- Nodes of one word, of a register or of the text.
use Rattle.std.proofs.Common.{◌≡◌, ◌≢◌, ℕ, true, [], ◌∷◌, List, Some, sym, ap, ◌∙◌}
use Rattle.lg_base.specs.declared.target.Target.TheVariants.{Riscv64}
use Rattle.lg_op.specs.declared.op.UnaryOp.{UnaryOp}
use Rattle.lg_op.specs.declared.op.UnaryOp.TheVariants as unary
use Rattle.lg_op.specs.declared.op.ValueType.{ValueType}
use Rattle.lg_op.specs.declared.operand.Reg.{Reg}
use Rattle.lg_op.specs.declared.operand.Reg.TheVariants.{Fp}
use Rattle.lg_op.specs.declared.operand.Operand.{Operand}
use Rattle.lg_op.specs.Operators.{unary_value, keeps_carry}
use Rattle.lg_meaning.specs.States.{State, value}
use Rattle.lg_rv.specs.declared.instruction.Instr.{Instr}
use Rattle.lg_temp.specs.Abis.{register_of}
use Rattle.lg_carry.specs.FinalNodes.{Code}
use Rattle.lg_carry.specs.TextNodes.{IsInText}
use Rattle.lg_selr_values.specs.Processor.Computations.{computed}
use Rattle.lg_selr_values.specs.Processor.RvComputers.{rv_scratch, held_by, rv_computer, IsComputed}
use Rattle.lg_selr_values.proofs.OfProcessor.ComputerLemmas.{held-at, into, carry-kept}
use Rattle.lg_selr_values.proofs.OfProcessor.ComputationLemmas.{put-same, put-other}
use Rattle.lg_selr_values.proofs.OfProcessor.RegisterLemmas.{register-apart, register-nonzero, read-of}
use Rattle.lg_selr_values.specs.UnaryCode.{unary_code, retval_code}
use Rattle.lg_carry.specs.Values.Computers.{Held}
use Rattle.lg_carry.specs.Values.Computers as computer
use Rattle.lg_carry.specs.Values.Values.{ComputesInto}
use Rattle.lg_carry.specs.Values.ValueNodes.{unary_node, movi_node, va_start_node, retval_node, extension}
use Rattle.lg_carry.proofs.OfValues.ValueNodeLemmas.{extends}
use Rattle.lg_selr_values.proofs.UnaryCodeLemmas.{unary-computed, unary-keeps, unary-computes}
use Rattle.lg_carry.proofs.OfValues.OneWordLemmas.{unary-nodes-compute, movi-nodes-compute, va-start-nodes-compute, retval-nodes-compute}
use Rattle.lg_selr_values.proofs.LoadCodeLemmas.{LoadsWord}

-- ---- of a register; `movr` keeps the carry, and its code does
moved : (o : UnaryOp) (d a : ℕ) (w : ℕ → ℕ) → d ≢ 31 → keeps_carry o ≡ true → computed (unary_code o d a) w 31 ≡ w 31
moved unary.Mov d a w ne h = put-other w d _ 31 (λ e. ne (sym e))
moved o d a w ne h = cc

pub unary-node-computes : (c : Code) (i : ℕ) (o : UnaryOp) (d a : Reg) (line : ℕ) → d ≢ Fp → IsInText c i (unary_node o d a line)
    → IsComputed c i (unary_node o d a line) [] (unary_code o (register_of Riscv64 d) (register_of Riscv64 a))
unary-node-computes c i o d a line named t code trash =
    let rd = register_of Riscv64 d in
    let ra = register_of Riscv64 a in
    let body = unary_code o rd ra in
    unary-nodes-compute (rv_computer code trash) rv_scratch c i o d a line [] body named t
    (into code trash (d ∷ []) [] body record {
      computes = unary-computes o rd ra;
      keeps = λ w r apart taken link carry. unary-keeps rd (register-nonzero d) (register-apart d).0 (register-apart d).1 o ra w r apart.0 link carry;
    })
    (λ e. carry-kept code trash body (λ w. moved o rd ra w (register-apart d).1 e))
    (λ s w m h em. held-at body w rd _
    (unary-computed rd (register-nonzero d) (register-apart d).0 (register-apart d).1 o ra w.registers h.words ∙ ap (unary_value o) (read-of w.registers a ∙ em)))

-- ---- of the text
-- code that puts a word into a register changes no other, and the register holds the word
others : (load : List Instr) (d v : ℕ) → LoadsWord load d v → (w : ℕ → ℕ) (r : ℕ) → r ≢ d → computed load w r ≡ w r
others load d v l w r ne = ap (λ u. u r) (l.value w) ∙ put-other w d v r ne

holds : (load : List Instr) (d v : ℕ) → LoadsWord load d v → (w : Held) → (computer.computed held_by load w).registers d ≡ v
holds load d v l w = held-at load w d v (ap (λ u. u d) (l.value w.registers) ∙ put-same w.registers d v)

loads-into : (code : List ℕ) (trash : ℕ) (d : Reg) (v : ℕ) (load : List Instr) → LoadsWord load (register_of Riscv64 d) v → ComputesInto (rv_computer code trash) rv_scratch (d ∷ []) [] load
loads-into code trash d v load l =
    into code trash (d ∷ []) [] load record { computes = l.computes; keeps = λ w r apart taken link carry. others load (register_of Riscv64 d) v l w r apart.0 }

pub movi-computes : (c : Code) (i : ℕ) (d : Reg) (x : Operand) (v line : ℕ) → d ≢ Fp → ((s : State) → value c.addresses s x ≡ Some v) → IsInText c i (movi_node d x line)
    → (load : List Instr) → LoadsWord load (register_of Riscv64 d) v → IsComputed c i (movi_node d x line) [] load
movi-computes c i d x v line named given t load l code trash =
    movi-nodes-compute (rv_computer code trash) rv_scratch c i d x v line [] load named given t (loads-into code trash d v load l)
    (carry-kept code trash load (λ w. others load (register_of Riscv64 d) v l w 31 (λ e. (register-apart d).1 (sym e)))) (holds load (register_of Riscv64 d) v l)

pub va-start-computes : (c : Code) (i : ℕ) (d : Reg) (k line : ℕ) → d ≢ Fp → IsInText c i (va_start_node d k line)
    → (load : List Instr) → LoadsWord load (register_of Riscv64 d) k → IsComputed c i (va_start_node d k line) [] load
va-start-computes c i d k line named t load l code trash =
    va-start-nodes-compute (rv_computer code trash) rv_scratch c i d k line [] load named t (loads-into code trash d k load l) (holds load (register_of Riscv64 d) k l)

-- ---- the result of a call
pub retval-computes : (c : Code) (i : ℕ) (t : ValueType) (d : Reg) (line : ℕ) → d ≢ Fp → IsInText c i (retval_node t d line)
    → IsComputed c i (retval_node t d line) [] (retval_code t (register_of Riscv64 d))
retval-computes c i t d line named x code trash =
    let rd = register_of Riscv64 d in
    let body = retval_code t rd in
    retval-nodes-compute (rv_computer code trash) rv_scratch c i t d line [] body named x
    (into code trash (d ∷ []) [] body record {
      computes = unary-computes (extension t) rd 10;
      keeps = λ w r apart taken link carry. unary-keeps rd (register-nonzero d) (register-apart d).0 (register-apart d).1 (extension t) 10 w r apart.0 link carry;
    })
    (λ w words. held-at body w rd _ (unary-computed rd (register-nonzero d) (register-apart d).0 (register-apart d).1 (extension t) 10 w.registers words ∙ extends t (w.registers 10)))
