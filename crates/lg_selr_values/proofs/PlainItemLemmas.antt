-- Nodes without temporaries are carried by their items.
use Rattle.std.proofs.Common.{◌≡◌, ◌≢◌, ℕ, true, false, List, [], ◌++◌, refl, sym, ap, subst, arith}
use Rattle.std.specs.Prelude.{if◌then◌else◌, slice_index}
use Rattle.lg_base.specs.declared.target.Target.TheVariants.{Riscv64}
use Rattle.lg_op.specs.Forms.{admits}
use Rattle.lg_op.specs.declared.form.Form.TheVariants.{Immediate}
use Rattle.lg_op.specs.declared.op.Op.TheVariants as op
use Rattle.lg_op.specs.declared.op.BinaryOp.{BinaryOp}
use Rattle.lg_op.specs.declared.op.BinaryOp.TheVariants as binary
use Rattle.lg_op.specs.declared.op.WideOp.{WideOp}
use Rattle.lg_op.specs.declared.op.UnaryOp.{UnaryOp}
use Rattle.lg_op.specs.declared.op.ValueType.{ValueType}
use Rattle.lg_op.specs.declared.op.LastOperand.{LastOperand}
use Rattle.lg_op.specs.declared.op.LastOperand.TheVariants as last_operand
use Rattle.lg_op.specs.declared.operand.Reg.{Reg}
use Rattle.lg_op.specs.declared.operand.Reg.TheVariants.{Fp}
use Rattle.lg_op.specs.declared.operand.Operand.{Operand}
use Rattle.lg_op.specs.declared.operand.Operand.TheVariants as operand
use Rattle.lg_op.specs.Operators.{sets_carry}
use Rattle.lg_rv.specs.declared.instruction.Instr.{Instr}
use Rattle.lg_temp.specs.Abis.{register_of}
use Rattle.lg_selr_values.specs.Processor.Numbers.{number_code}
use Rattle.lg_selr_values.proofs.OfProcessor.RegisterLemmas.{register-small, register-nonzero}
use Rattle.lg_selr_values.specs.Items.{ones}
use Rattle.lg_selr_values.specs.BinaryCode.{register_code, number_form_code}
use Rattle.lg_selr_values.specs.UnaryCode.{unary_code, retval_code}
use Rattle.lg_selr_values.specs.WideCode.{wide_code}
use Rattle.lg_carry.specs.Values.ValueNodes.{binary_node, wide_node, unary_node, movi_node, va_start_node, retval_node}
use Rattle.lg_selr_values.specs.ValueItems.{value_needs, load_items, binary_items, carry_items, wide_items}
use Rattle.lg_selr_values.proofs.ImmediateLemmas.{is-load}
use Rattle.lg_selr_values.proofs.BinaryNodeLemmas.{registers-compute, number-computed, loaded-computed}
use Rattle.lg_selr_values.proofs.LoadCodeLemmas.{loads-number}
use Rattle.lg_selr_values.proofs.UnaryNodeLemmas.{unary-node-computes, movi-computes, va-start-computes, retval-computes}
use Rattle.lg_selr_values.proofs.WideNodeLemmas.{wide-registers, wide-loaded}
use Rattle.lg_selr_values.proofs.SettledLemmas.{Settles, settles-ones, settles-append, IsCarried, carried-plain}

-- ---- one word
pub unary-carried : (o : UnaryOp) (d a : Reg) (line : ℕ) → d ≢ Fp → IsCarried (unary_node o d a line)
unary-carried o d a line named = carried-plain (unary_node o d a line) refl refl refl
    (λ c i t words. record { body = unary_code o (register_of Riscv64 d) (register_of Riscv64 a); settles = settles-ones (slice_index c.addresses) (unary_code o (register_of Riscv64 d) (register_of Riscv64 a)); computes = unary-node-computes c i o d a line named t })

pub movi-carried : (d : Reg) (x : Operand) (line : ℕ) → d ≢ Fp → admits Immediate x ≡ true → IsCarried (movi_node d x line)
movi-carried d x line named immediate = carried-plain (movi_node d x line) refl refl refl
    (λ c i t words. let l = is-load c.addresses (register_of Riscv64 d) x (register-nonzero d) (register-small d) immediate words.1.0 in
    record { body = l.code; settles = record { become = l.settles }; computes = movi-computes c i d x l.word line named l.given t l.code l.loads })

-- the number of the first variable argument
pub va-start-carried : (d : Reg) (k line : ℕ) → d ≢ Fp → IsCarried (va_start_node d k line)
va-start-carried d k line named = carried-plain (va_start_node d k line) refl refl refl
    (λ c i t words. let rd = register_of Riscv64 d in
    record {
      body = number_code rd k;
      settles = settles-ones (slice_index c.addresses) (number_code rd k);
      computes = va-start-computes c i d k line named t (number_code rd k) (loads-number rd k (register-nonzero d) (register-small d) words.1.0);
    })

-- the result of a call
pub retval-carried : (t : ValueType) (d : Reg) (line : ℕ) → d ≢ Fp → IsCarried (retval_node t d line)
retval-carried t d line named = carried-plain (retval_node t d line) refl refl refl
    (λ c i x words. let code = retval_code t (register_of Riscv64 d) in
    record { body = code; settles = settles-ones (slice_index c.addresses) code; computes = retval-computes c i t d line named x })

-- ---- two words
no-needs : (o : BinaryOp) (last : LastOperand) → sets_carry o ≡ false → value_needs (op.Binary o last) ≡ []
no-needs binary.Addx last h = cc
no-needs binary.Subx last h = cc
no-needs o last h = refl

-- the items of an operation that sets no carry
plain-items : (o : BinaryOp) (u d a : ℕ) (x : Operand) → sets_carry o ≡ false → (if sets_carry o then carry_items o u d a x else binary_items o d a x) ≡ binary_items o d a x
plain-items o u d a x plain = ap (λ b. if b then carry_items o u d a x else binary_items o d a x) plain

settles-plain : (to : ℕ → ℕ) (o : BinaryOp) (u d a : ℕ) (x : Operand) (is : List Instr) → sets_carry o ≡ false → Settles to (binary_items o d a x) is → Settles to (if sets_carry o then carry_items o u d a x else binary_items o d a x) is
settles-plain to o u d a x is plain h = subst (λ items. Settles to items is) (sym (plain-items o u d a x plain)) h

pub registers-carried : (o : BinaryOp) (d a b : Reg) (line : ℕ) → sets_carry o ≡ false → d ≢ Fp → IsCarried (binary_node o last_operand.Register d a (operand.Reg b) line)
registers-carried o d a b line plain named = carried-plain (binary_node o last_operand.Register d a (operand.Reg b) line) refl refl (no-needs o last_operand.Register plain)
    (λ c i t words. let code = register_code o (register_of Riscv64 d) (register_of Riscv64 a) (register_of Riscv64 b) in
    record { body = code; settles = settles-plain (slice_index c.addresses) o 0 (register_of Riscv64 d) (register_of Riscv64 a) (operand.Reg b) code plain (settles-ones (slice_index c.addresses) code); computes = registers-compute c i o d a b line plain named t })

-- a host function or a label
loaded-carried : (o : BinaryOp) (d a : Reg) (x : Operand) (line : ℕ) → sets_carry o ≡ false → d ≢ Fp → admits Immediate x ≡ true → binary_items o (register_of Riscv64 d) (register_of Riscv64 a) x ≡ load_items 1 x ++ ones (register_code o (register_of Riscv64 d) (register_of Riscv64 a) 1)
    → IsCarried (binary_node o last_operand.Immediate d a x line)
loaded-carried o d a x line plain named immediate are = carried-plain (binary_node o last_operand.Immediate d a x line) refl refl (no-needs o last_operand.Immediate plain)
    (λ c i t words.
    let to : ℕ → ℕ = slice_index c.addresses in
    let l = is-load c.addresses 1 x (λ e. absurd (omega (arith, e))) (omega arith) immediate words.1.1.0 in
    let code = register_code o (register_of Riscv64 d) (register_of Riscv64 a) 1 in
    record {
      body = l.code ++ code;
      settles = settles-plain to o 0 (register_of Riscv64 d) (register_of Riscv64 a) x (l.code ++ code) plain (subst (λ items. Settles to items (l.code ++ code)) (sym are) (settles-append to (load_items 1 x) (ones code) l.code code record { become = l.settles } (settles-ones to code)));
      computes = loaded-computed c i o d a x l.word line plain named l.given t l.code l.loads;
    })

pub immediate-carried : (o : BinaryOp) (d a : Reg) (x : Operand) (line : ℕ) → sets_carry o ≡ false → d ≢ Fp → admits Immediate x ≡ true → IsCarried (binary_node o last_operand.Immediate d a x line)
immediate-carried o d a (operand.Reg r) line plain named h = cc
immediate-carried o d a (operand.Slot k) line plain named h = cc
immediate-carried o d a (operand.Host name) line plain named h = loaded-carried o d a (operand.Host name) line plain named h refl
immediate-carried o d a (operand.Label l) line plain named h = loaded-carried o d a (operand.Label l) line plain named h refl
immediate-carried o d a (operand.Number v) line plain named h = carried-plain (binary_node o last_operand.Immediate d a (operand.Number v) line) refl refl (no-needs o last_operand.Immediate plain)
    (λ c i t words. let code = number_form_code o (register_of Riscv64 d) (register_of Riscv64 a) v in
    record { body = code; settles = settles-plain (slice_index c.addresses) o 0 (register_of Riscv64 d) (register_of Riscv64 a) (operand.Number v) code plain (settles-ones (slice_index c.addresses) code); computes = number-computed c i o d a (operand.Number v) v line plain named (λ s. refl) t words.1.1.0 })

-- ---- two results
wide-immediate-items : (o : WideOp) (d e a : ℕ) (x : Operand) → admits Immediate x ≡ true → wide_items o d e a x ≡ load_items 31 x ++ ones (wide_code o d e a 31)
wide-immediate-items o d e a (operand.Reg r) h = cc
wide-immediate-items o d e a x h = refl

pub wide-registers-carried : (o : WideOp) (d e a b : Reg) (line : ℕ) → d ≢ Fp → e ≢ Fp → d ≢ e → IsCarried (wide_node o last_operand.Register d e a (operand.Reg b) line)
wide-registers-carried o d e a b line nd ne apart = carried-plain (wide_node o last_operand.Register d e a (operand.Reg b) line) refl refl refl
    (λ c i t words. let code = wide_code o (register_of Riscv64 d) (register_of Riscv64 e) (register_of Riscv64 a) (register_of Riscv64 b) in
    record { body = code; settles = settles-ones (slice_index c.addresses) code; computes = wide-registers c i o d e a line nd ne apart b t })

pub wide-immediate-carried : (o : WideOp) (d e a : Reg) (x : Operand) (line : ℕ) → d ≢ Fp → e ≢ Fp → d ≢ e → admits Immediate x ≡ true → IsCarried (wide_node o last_operand.Immediate d e a x line)
wide-immediate-carried o d e a x line nd ne apart immediate = carried-plain (wide_node o last_operand.Immediate d e a x line) refl refl refl
    (λ c i t words.
    let to : ℕ → ℕ = slice_index c.addresses in
    let l = is-load c.addresses 31 x (λ z. absurd (omega (arith, z))) (omega arith) immediate words.1.1.1.0 in
    let code = wide_code o (register_of Riscv64 d) (register_of Riscv64 e) (register_of Riscv64 a) 31 in
    record {
      body = l.code ++ code;
      settles = subst (λ items. Settles to items (l.code ++ code)) (sym (wide-immediate-items o (register_of Riscv64 d) (register_of Riscv64 e) (register_of Riscv64 a) x immediate)) (settles-append to (load_items 31 x) (ones code) l.code code record { become = l.settles } (settles-ones to code));
      computes = wide-loaded c i o d e a line nd ne apart x l.word l.given l.code l.loads t;
    })
