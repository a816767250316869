-- Nodes without temporaries are carried by their items.
use Rattle.std.proofs.Common.{◌≡◌, ◌≢◌, ℕ, true, false, [], ◌++◌, refl, sym, subst, arith}
use Rattle.std.specs.Prelude.{slice_index}
use Rattle.lg_base.specs.declared.target.Target.TheVariants.{Aarch64}
use Rattle.lg_op.specs.Forms.{admits}
use Rattle.lg_op.specs.declared.form.Form.TheVariants.{Immediate}
use Rattle.lg_op.specs.declared.op.BinaryOp.{BinaryOp}
use Rattle.lg_op.specs.declared.op.WideOp.{WideOp}
use Rattle.lg_op.specs.declared.op.UnaryOp.{UnaryOp}
use Rattle.lg_op.specs.declared.op.ValueType.{ValueType}
use Rattle.lg_op.specs.declared.op.LastOperand.TheVariants as last_operand
use Rattle.lg_op.specs.declared.operand.Reg.{Reg}
use Rattle.lg_op.specs.declared.operand.Reg.TheVariants.{Fp}
use Rattle.lg_op.specs.declared.operand.Operand.{Operand}
use Rattle.lg_op.specs.declared.operand.Operand.TheVariants as operand
use Rattle.lg_temp.specs.Abis.{register_of}
use Rattle.lg_carry.specs.Values.ValueNodes.{binary_node, wide_node, unary_node, movi_node, va_start_node, retval_node}
use Rattle.lg_sela_values.specs.Processor.A64Rows.{link}
use Rattle.lg_sela_values.specs.Processor.Numbers.{number_code}
use Rattle.lg_sela_values.proofs.OfProcessor.RegisterLemmas.{register-small}
use Rattle.lg_sela_values.specs.Items.{ones}
use Rattle.lg_sela_values.specs.BinaryCode.{register_code}
use Rattle.lg_sela_values.specs.UnaryCode.{unary_code, retval_code}
use Rattle.lg_sela_values.specs.WideCode.{wide_code, wide_by_link}
use Rattle.lg_sela_values.specs.ValueItems.{load_items, wide_items}
use Rattle.lg_sela_values.proofs.BinaryItemLemmas.{registers-compute, is-made, immediate-computes, is_remainder, none-for-registers, none-needed, link-second}
use Rattle.lg_sela_values.proofs.ImmediateLemmas.{is-load}
use Rattle.lg_sela_values.proofs.LoadCodeLemmas.{loads-number}
use Rattle.lg_sela_values.proofs.SettledLemmas.{Settles, settles-ones, settles-append, IsCarried, carried-plain}
use Rattle.lg_sela_values.proofs.UnaryNodeLemmas.{movi-computes, va-start-computes, retval-computes, unary-node-computes}
use Rattle.lg_sela_values.proofs.WideNodeLemmas.{wide-registers, wide-loaded}

-- ---- one word
pub unary-carried : (o : UnaryOp) (d a : Reg) (line : ℕ) → d ≢ Fp → IsCarried (unary_node o d a line)
unary-carried o d a line named = carried-plain (unary_node o d a line) refl refl refl
    (λ c i t words. let code = unary_code o (register_of Aarch64 d) (register_of Aarch64 a) in
    record { body = code; settles = settles-ones (slice_index c.addresses) code; computes = unary-node-computes c i o d a line named t })

pub movi-carried : (d : Reg) (x : Operand) (line : ℕ) → d ≢ Fp → admits Immediate x ≡ true → IsCarried (movi_node d x line)
movi-carried d x line named immediate = carried-plain (movi_node d x line) refl refl refl
    (λ c i t words.
    let dl = register-small d in
    let l = is-load c.addresses (register_of Aarch64 d) x (omega (arith, dl)) immediate words.1.0 in
    record { body = l.code; settles = record { become = l.settles }; computes = movi-computes c i d x l.word line named l.given t l.code l.loads })

pub va-start-carried : (d : Reg) (k line : ℕ) → d ≢ Fp → IsCarried (va_start_node d k line)
va-start-carried d k line named = carried-plain (va_start_node d k line) refl refl refl
    (λ c i t words.
    let dl = register-small d in
    let code = number_code (register_of Aarch64 d) k in
    let l = loads-number (register_of Aarch64 d) k (omega (arith, dl)) words.1.0 in
    record { body = code; settles = settles-ones (slice_index c.addresses) code; computes = va-start-computes c i d k line named t code l })

pub retval-carried : (t : ValueType) (d : Reg) (line : ℕ) → d ≢ Fp → IsCarried (retval_node t d line)
retval-carried t d line named = carried-plain (retval_node t d line) refl refl refl
    (λ c i x words. let code = retval_code t (register_of Aarch64 d) in
    record { body = code; settles = settles-ones (slice_index c.addresses) code; computes = retval-computes c i t d line named x })

-- ---- two words
pub registers-carried : (o : BinaryOp) (d a b : Reg) (line : ℕ) → d ≢ Fp → IsCarried (binary_node o last_operand.Register d a (operand.Reg b) line)
registers-carried o d a b line named = carried-plain (binary_node o last_operand.Register d a (operand.Reg b) line) refl refl (none-for-registers o)
    (λ c i t words. let code = register_code o (register_of Aarch64 d) (register_of Aarch64 a) (register_of Aarch64 b) in
    record { body = code; settles = settles-ones (slice_index c.addresses) code; computes = registers-compute c i o d a b line named t })

pub immediate-carried : (o : BinaryOp) (d a : Reg) (x : Operand) (line : ℕ) → is_remainder o ≡ false → d ≢ Fp → admits Immediate x ≡ true
    → IsCarried (binary_node o last_operand.Immediate d a x line)
immediate-carried o d a x line plain named immediate = carried-plain (binary_node o last_operand.Immediate d a x line) refl refl (none-needed o plain)
    (λ c i t words.
    let dl = register-small d in
    let m = is-made c.addresses o 0 (register_of Aarch64 d) (register_of Aarch64 a) x [] (omega (arith, dl)) (register-small a) (link-second o 0 a [] plain) immediate words.1.1.0 in
    record { body = m.code; settles = m.settles; computes = immediate-computes c i o 0 d a x line [] named t m })

-- ---- two results
wide-immediate-items : (o : WideOp) (d e a : ℕ) (x : Operand) → admits Immediate x ≡ true → wide_items o d e a x ≡ load_items link x ++ ones (wide_by_link o d e a)
wide-immediate-items o d e a (operand.Reg r) h = cc
wide-immediate-items o d e a x h = refl

pub wide-registers-carried : (o : WideOp) (d e a b : Reg) (line : ℕ) → d ≢ Fp → e ≢ Fp → d ≢ e → IsCarried (wide_node o last_operand.Register d e a (operand.Reg b) line)
wide-registers-carried o d e a b line nd ne apart = carried-plain (wide_node o last_operand.Register d e a (operand.Reg b) line) refl refl refl
    (λ c i t words. let code = wide_code o (register_of Aarch64 d) (register_of Aarch64 e) (register_of Aarch64 a) (register_of Aarch64 b) in
    record { body = code; settles = settles-ones (slice_index c.addresses) code; computes = wide-registers c i o d e a line nd ne apart b t })

pub wide-immediate-carried : (o : WideOp) (d e a : Reg) (x : Operand) (line : ℕ) → d ≢ Fp → e ≢ Fp → d ≢ e → admits Immediate x ≡ true
    → IsCarried (wide_node o last_operand.Immediate d e a x line)
wide-immediate-carried o d e a x line nd ne apart immediate = carried-plain (wide_node o last_operand.Immediate d e a x line) refl refl refl
    (λ c i t words.
    let to : ℕ → ℕ = slice_index c.addresses in
    let l = is-load c.addresses link x (omega arith) immediate words.1.1.1.0 in
    let code = wide_by_link o (register_of Aarch64 d) (register_of Aarch64 e) (register_of Aarch64 a) in
    record {
      body = l.code ++ code;
      settles = subst (λ items. Settles to items (l.code ++ code)) (sym (wide-immediate-items o (register_of Aarch64 d) (register_of Aarch64 e) (register_of Aarch64 a) x immediate))
          (settles-append to (load_items link x) (ones code) l.code code record { become = l.settles } (settles-ones to code));
      computes = wide-loaded c i o d e a line nd ne apart x l.word l.given l.code l.loads t;
    })
