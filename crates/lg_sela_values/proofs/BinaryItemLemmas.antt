-- The items of an operation on two words, and the node that they compute.
use Rattle.std.proofs.Common.{◌≡◌, ◌≢◌, ℕ, ◌<◌, Bool, true, false, List, [], ◌∷◌, ◌++◌, Some, refl, sym, ap, ◌∙◌, arith}
use Rattle.std.specs.Prelude.{◌||◌, slice_index}
use Rattle.lg_base.specs.declared.target.Target.TheVariants.{Aarch64}
use Rattle.lg_op.specs.Forms.{admits}
use Rattle.lg_op.specs.declared.form.Form.TheVariants.{Immediate}
use Rattle.lg_op.specs.declared.op.Op.TheVariants as op
use Rattle.lg_op.specs.declared.op.BinaryOp.{BinaryOp}
use Rattle.lg_op.specs.declared.op.BinaryOp.TheVariants as binary
use Rattle.lg_op.specs.declared.op.LastOperand.TheVariants as last_operand
use Rattle.lg_op.specs.declared.operand.Reg.{Reg}
use Rattle.lg_op.specs.declared.operand.Reg.TheVariants.{Fp}
use Rattle.lg_op.specs.declared.operand.Operand.{Operand}
use Rattle.lg_op.specs.declared.operand.Operand.TheVariants as operand
use Rattle.lg_live.specs.Registers.{is_same}
use Rattle.lg_meaning.specs.States.{State, value}
use Rattle.lg_a64.specs.declared.instruction.Instr.{Instr}
use Rattle.lg_temp.specs.Abis.{register_of}
use Rattle.lg_temp.specs.declared.choice.Choice.{Choice}
use Rattle.lg_temp.specs.declared.choice.Need.TheVariants.{Any}
use Rattle.lg_carry.specs.FinalNodes.{Code}
use Rattle.lg_carry.specs.TextNodes.{IsInText}
use Rattle.lg_carry.specs.Nodes.Straight.{is_taken}
use Rattle.lg_carry.proofs.OfNodes.RegisterLemmas.{same-self}
use Rattle.lg_carry.specs.Values.ValueNodes.{binary_node}
use Rattle.lg_sela_values.specs.Processor.A64Computers.{IsComputed}
use Rattle.lg_sela_values.proofs.OfProcessor.RegisterLemmas.{register-small, register-off-link}
use Rattle.lg_sela_values.specs.Items.{ones}
use Rattle.lg_sela_values.specs.BinaryCode.{register_code, second_register, number_form_code}
use Rattle.lg_sela_values.specs.ValueItems.{value_needs, load_items, binary_items}
use Rattle.lg_carry.specs.Nodes.Operands.{IsWord}
use Rattle.lg_sela_values.proofs.BinaryCodeLemmas.{some-same, IsApartFor}
use Rattle.lg_sela_values.proofs.ImmediateLemmas.{is-load}
use Rattle.lg_sela_values.proofs.MadeLemmas.{Makes, made-computes, register-makes, loaded-makes}
use Rattle.lg_sela_values.proofs.NumberFormLemmas.{IsSecond, number-makes}
use Rattle.lg_sela_values.proofs.SettledLemmas.{Settles, settles-ones, settles-append}

-- ---- two registers
apart-for : (o : BinaryOp) (b : ℕ) → b ≢ 30 → IsApartFor o b
apart-for binary.Rem b ne = ne
apart-for binary.RemU b ne = ne
apart-for o b ne = tt

pub registers-compute : (c : Code) (i : ℕ) (o : BinaryOp) (d a b : Reg) (line : ℕ) → d ≢ Fp → IsInText c i (binary_node o last_operand.Register d a (operand.Reg b) line)
    → IsComputed c i (binary_node o last_operand.Register d a (operand.Reg b) line) [] (register_code o (register_of Aarch64 d) (register_of Aarch64 a) (register_of Aarch64 b))
registers-compute c i o d a b line named t =
    let rd = register_of Aarch64 d in
    let ra = register_of Aarch64 a in
    let rb = register_of Aarch64 b in
    let dl = register-small d in
    let bl = register-small b in
    made-computes c i o last_operand.Register d a (operand.Reg b) line named t (λ w. w.registers rb) [] (register_code o rd ra rb)
    (register-makes o rd ra rb (omega (arith, dl)) (register-small a) (omega (arith, bl)) (apart-for o rb (register-off-link b)))
    (λ s w k h e. h.registers b k (λ ne. ap (λ z. (z || is_same a b) || false) (same-self b ne)) e)

-- ---- a register and an immediate
-- the code that the items become
pub record IsMade (addresses : List ℕ) (o : BinaryOp) (u d a : ℕ) (x : Operand) (choices : List Choice) : Type 0 where
  pub code : List Instr
  pub settles : Settles (slice_index addresses) (binary_items o u d a x) code
  pub word : ℕ
  pub makes : Makes o d a (λ w. word) choices code
  pub given : (s : State) → value addresses s x ≡ Some word

pub is-made : (addresses : List ℕ) (o : BinaryOp) (u d a : ℕ) (x : Operand) (choices : List Choice) → d < 31 → a < 30 → IsSecond o a (second_register o u) choices
    → admits Immediate x ≡ true → IsWord addresses x → IsMade addresses o u d a x choices
is-made addresses o u d a (operand.Reg r) choices dl al s h small = cc
is-made addresses o u d a (operand.Slot k) choices dl al s h small = cc
is-made addresses o u d a (operand.Number v) choices dl al s h small =
    record {
      code = number_form_code o u d a v;
      settles = settles-ones (slice_index addresses) (number_form_code o u d a v);
      word = v;
      makes = number-makes u d a v dl al small choices o s;
      given = λ t. refl;
    }
is-made addresses o u d a (operand.Host name) choices dl al s h small =
    let t = second_register o u in
    let x = operand.Host name in
    let l = is-load addresses t x s.within h small in
    record {
      code = l.code ++ register_code o d a t;
      settles = settles-append (slice_index addresses) (load_items t x) (ones (register_code o d a t)) l.code (register_code o d a t) record { become = l.settles } (settles-ones (slice_index addresses) (register_code o d a t));
      word = l.word;
      makes = loaded-makes o d a t l.word dl al s.within s.other s.apart l.code l.loads choices s.off;
      given = l.given;
    }
is-made addresses o u d a (operand.Label n) choices dl al s h small =
    let t = second_register o u in
    let x = operand.Label n in
    let l = is-load addresses t x s.within h small in
    record {
      code = l.code ++ register_code o d a t;
      settles = settles-append (slice_index addresses) (load_items t x) (ones (register_code o d a t)) l.code (register_code o d a t) record { become = l.settles } (settles-ones (slice_index addresses) (register_code o d a t));
      word = l.word;
      makes = loaded-makes o d a t l.word dl al s.within s.other s.apart l.code l.loads choices s.off;
      given = l.given;
    }

pub immediate-computes : (c : Code) (i : ℕ) (o : BinaryOp) (u : ℕ) (d a : Reg) (x : Operand) (line : ℕ) (choices : List Choice) → d ≢ Fp
    → IsInText c i (binary_node o last_operand.Immediate d a x line) → (m : IsMade c.addresses o u (register_of Aarch64 d) (register_of Aarch64 a) x choices)
    → IsComputed c i (binary_node o last_operand.Immediate d a x line) choices m.code
immediate-computes c i o u d a x line choices named t m =
    made-computes c i o last_operand.Immediate d a x line named t (λ w. m.word) choices m.code m.makes (λ s w k h e. some-same m.word k (sym (m.given s) ∙ e))

-- ---- the needs
abbrev pub is_remainder : BinaryOp → Bool
is_remainder binary.Rem = true
is_remainder binary.RemU = true
is_remainder o = false

pub none-for-registers : (o : BinaryOp) → value_needs (op.Binary o last_operand.Register) ≡ []
none-for-registers binary.Rem = refl
none-for-registers o = refl

pub none-needed : (o : BinaryOp) → is_remainder o ≡ false → value_needs (op.Binary o last_operand.Immediate) ≡ []
none-needed binary.Rem h = cc
none-needed binary.RemU h = cc
none-needed o h = refl

pub one-needed : (o : BinaryOp) → is_remainder o ≡ true → value_needs (op.Binary o last_operand.Immediate) ≡ Any ∷ []
one-needed binary.Rem h = refl
one-needed binary.RemU h = refl
one-needed o h = cc

-- the register of the immediate: the link, or a temporary
pub link-second : (o : BinaryOp) (u : ℕ) (a : Reg) (choices : List Choice) → is_remainder o ≡ false → IsSecond o (register_of Aarch64 a) (second_register o u) choices
link-second binary.Rem u a choices h = cc
link-second binary.RemU u a choices h = cc
link-second o u a choices h = record { within = omega arith; other = λ e. register-off-link a (sym e); apart = tt; off = λ r free ne. ne }

pub temporary-second : (o : BinaryOp) (u a : ℕ) (choices : List Choice) → is_remainder o ≡ true → u < 31 → u ≢ a → u ≢ 30 → ((r : ℕ) → is_taken choices r ≡ false → r ≢ u)
    → IsSecond o a (second_register o u) choices
temporary-second binary.Rem u a choices h within other apart off = record { within = within; other = other; apart = apart; off = λ r free ne. off r free }
temporary-second binary.RemU u a choices h within other apart off = record { within = within; other = other; apart = apart; off = λ r free ne. off r free }
temporary-second o u a choices h within other apart off = cc
