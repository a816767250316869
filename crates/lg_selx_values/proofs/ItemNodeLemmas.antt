-- Nodes of each form are carried by their items.
use Rattle.std.proofs.Common.{◌≡◌, ◌≢◌, ℕ, ◌<◌, Bool, true, false, List, [], ◌∷◌, refl, ap, subst, sym}
use Rattle.std.specs.Prelude.{if◌then◌else◌, slice_index, slice_index_or}
use Rattle.lg_base.specs.declared.target.Target.TheVariants.{X86_64}
use Rattle.lg_op.specs.Forms.{admits}
use Rattle.lg_op.specs.declared.form.Form.TheVariants.{Immediate}
use Rattle.lg_op.specs.declared.op.BinaryOp.{BinaryOp}
use Rattle.lg_op.specs.declared.op.LastOperand.TheVariants as last_operand
use Rattle.lg_op.specs.declared.op.UnaryOp.{UnaryOp}
use Rattle.lg_op.specs.declared.op.ValueType.{ValueType}
use Rattle.lg_op.specs.declared.op.WideOp.{WideOp}
use Rattle.lg_op.specs.declared.node.Node.{Node}
use Rattle.lg_op.specs.declared.operand.Reg.{Reg}
use Rattle.lg_op.specs.declared.operand.Reg.TheVariants.{Fp}
use Rattle.lg_op.specs.declared.operand.Operand.{Operand}
use Rattle.lg_op.specs.declared.operand.Operand.TheVariants as operand
use Rattle.lg_op.specs.Operators.{sets_carry}
use Rattle.lg_node.specs.Preparations.{pushed}
use Rattle.lg_temp.specs.declared.choice.Choice.{Choice}
use Rattle.lg_temp.specs.Abis.{register_of}
use Rattle.lg_temp.specs.Chosen.{around}
use Rattle.lg_temp.specs.Choices.{AreFor}
use Rattle.lg_carry.specs.FinalNodes.{Code}
use Rattle.lg_carry.specs.NodeCode.{numbered, CarriesNode}
use Rattle.lg_carry.specs.TextNodes.{IsInText, IsFrameOf}
use Rattle.lg_carry.specs.Values.ValueNodes.{binary_node, wide_node, unary_node, movi_node, va_start_node, retval_node}
use Rattle.lg_x86.specs.declared.instruction.Instr.{Instr}
use Rattle.lg_selx_values.specs.Processor.Numbers.{number_row}
use Rattle.lg_selx_values.specs.Processor.Places.{IsInCode}
use Rattle.lg_selx_values.specs.Processor.X86Rows.{x86_processor}
use Rattle.lg_selx_values.specs.declared.items.Item.{Item}
use Rattle.lg_selx_values.specs.Items.{settled}
use Rattle.lg_selx_values.specs.BinaryCode.{register_code, number_form_code}
use Rattle.lg_selx_values.specs.CarryCode.{carry_register_code, carry_number_code}
use Rattle.lg_selx_values.specs.Needs.{value_needs}
use Rattle.lg_selx_values.specs.RegisterNodes.{IsChosen}
use Rattle.lg_selx_values.specs.UnaryCode.{unary_code, retval_code}
use Rattle.lg_selx_values.specs.ValueItems.{binary_code, binary_number_code, body_items, value_items}
use Rattle.lg_carry.specs.Nodes.Operands.{AreWords}
use Rattle.lg_selx_values.specs.ValueLaws.{AreUnlabelled, takes_label}
use Rattle.lg_selx_values.specs.WideCode.{wide_code, wide_number_code}
use Rattle.lg_selx_values.proofs.GivenLemmas.{is-load, is-given}
use Rattle.lg_selx_values.proofs.NumberNodeLemmas.{binary-numbers-carry, carried-numbers-carry}
use Rattle.lg_selx_values.proofs.RegisterNodeLemmas.{binary-registers-carry, carried-registers-carry}
use Rattle.lg_selx_values.proofs.SettledLemmas.{Settles, settles-ones, settles-saved}
use Rattle.lg_selx_values.proofs.UnaryLemmas.{unaries-carry, movis-carry, va-starts-carry, retvals-carry}
use Rattle.lg_selx_values.proofs.WideNodeLemmas.{wide-registers-carry, wide-numbers-carry}

-- ---- a node is carried
-- its items with these choices are its code
pub record HasItems (code : List ℕ) (trash : ℕ) (c : Code) (i frame : ℕ) (n : Node) (live : Reg → Bool) (choices : List Choice) : Type 0 where
  pub staged : List Bool
  pub chosen : AreFor (around X86_64 n live staged) (value_needs n.op) [] (value_needs n.op) choices
  pub pushes : (j : ℕ) → j < pushed c.nodes.nodes i → slice_index_or staged j false ≡ true
  pub in_text : IsInText c i n
  pub of_frame : IsFrameOf c i frame
  pub in_code : IsInCode code trash c i (settled (slice_index c.addresses) (c.place i) (value_items frame n choices))

abbrev pub IsCarried : Node → Type 0
IsCarried n =
    (code : List ℕ) (trash : ℕ) (c : Code) (i frame : ℕ) (live : Reg → Bool) (choices : List Choice) → AreWords c.addresses n.operands → (takes_label n.op ≡ false → AreUnlabelled n.operands)
    → HasItems code trash c i frame n live choices → CarriesNode (x86_processor code trash) c i n (numbered live)

-- instructions that the items of its operation become are its code, with saves and restores
is-chosen : (code : List ℕ) (trash : ℕ) (c : Code) (i frame : ℕ) (n : Node) (live : Reg → Bool) (choices : List Choice) (body : List Instr) → HasItems code trash c i frame n live choices
    → Settles (slice_index c.addresses) (body_items frame n.op n.operands) body → IsChosen code trash c i frame n live choices body
is-chosen code trash c i frame n live choices body k settles =
    let items = settles-saved (slice_index c.addresses) code trash choices (body_items frame n.op n.operands) body settles in
    record { staged = k.staged; chosen = k.chosen; pushes = k.pushes; in_text = k.in_text; of_frame = k.of_frame; in_code = subst (IsInCode code trash c i) (items.become (c.place i)) k.in_code }

-- ---- one word
pub unary-carried : (o : UnaryOp) (d a : Reg) (line : ℕ) → d ≢ Fp → IsCarried (unary_node o d a line)
unary-carried o d a line named code trash c i frame live choices words labels k =
    let body = unary_code o (register_of X86_64 d) (register_of X86_64 a) in
    unaries-carry code trash c i frame o d a line live choices named (is-chosen code trash c i frame (unary_node o d a line) live choices body k (settles-ones (slice_index c.addresses) body body refl))

pub movi-carried : (d : Reg) (x : Operand) (line : ℕ) → d ≢ Fp → admits Immediate x ≡ true → IsCarried (movi_node d x line)
movi-carried d x line named immediate code trash c i frame live choices words labels k =
    let l = is-load c.addresses (register_of X86_64 d) x immediate words.1.0 in
    movis-carry code trash c i frame d x l.word line live choices named l.small l.given
    (is-chosen code trash c i frame (movi_node d x line) live choices (number_row (register_of X86_64 d) l.word ∷ []) k l.loads)

pub va-start-carried : (d : Reg) (k line : ℕ) → d ≢ Fp → IsCarried (va_start_node d k line)
va-start-carried d k line named code trash c i frame live choices words labels h =
    let body : List Instr = number_row (register_of X86_64 d) k ∷ [] in
    va-starts-carry code trash c i frame d k line live choices named words.1.0
    (is-chosen code trash c i frame (va_start_node d k line) live choices body h (settles-ones (slice_index c.addresses) body body refl))

pub retval-carried : (t : ValueType) (d : Reg) (line : ℕ) → d ≢ Fp → IsCarried (retval_node t d line)
retval-carried t d line named code trash c i frame live choices words labels k =
    let body = retval_code t (register_of X86_64 d) in
    retvals-carry code trash c i frame t d line live choices named (is-chosen code trash c i frame (retval_node t d line) live choices body k (settles-ones (slice_index c.addresses) body body refl))

-- ---- two words
-- by whether the operation sets the carry
by-carry : {A : Type 0} (o : BinaryOp) → (sets_carry o ≡ true → A) → (sets_carry o ≡ false → A) → A
by-carry {A} o f g = by (sets_carry o) refl
  where
    by : (z : Bool) → sets_carry o ≡ z → A
    by true e = f e
    by false e = g e

pub registers-carried : (o : BinaryOp) (d a b : Reg) (line : ℕ) → d ≢ Fp → IsCarried (binary_node o last_operand.Register d a (operand.Reg b) line)
registers-carried o d a b line named code trash c i frame live choices words labels k =
    let to : ℕ → ℕ = slice_index c.addresses in
    let n = binary_node o last_operand.Register d a (operand.Reg b) line in
    let rd = register_of X86_64 d in
    let ra = register_of X86_64 a in
    let rb = register_of X86_64 b in
    let plain : List Instr = register_code o frame rd ra rb in
    let carried : List Instr = carry_register_code o frame rd ra rb in
    let all : List Instr = binary_code o frame rd ra rb in
    by-carry o
    (λ e. carried-registers-carry code trash c i frame o d a b line live choices e named (is-chosen code trash c i frame n live choices carried k (settles-ones to all carried (ap (λ z. if z then carried else plain) e))))
    (λ e. binary-registers-carry code trash c i frame o d a b line live choices e named (is-chosen code trash c i frame n live choices plain k (settles-ones to all plain (ap (λ z. if z then carried else plain) e))))

pub immediate-carried : (o : BinaryOp) (d a : Reg) (x : Operand) (line : ℕ) → d ≢ Fp → admits Immediate x ≡ true → IsCarried (binary_node o last_operand.Immediate d a x line)
immediate-carried o d a x line named immediate code trash c i frame live choices words labels k =
    let to : ℕ → ℕ = slice_index c.addresses in
    let n = binary_node o last_operand.Immediate d a x line in
    let rd = register_of X86_64 d in
    let ra = register_of X86_64 a in
    let g = is-given c.addresses x immediate words.1.1.0 (labels refl).1.1.0 in
    let plain : List Instr = number_form_code o frame rd ra g.word in
    let carried : List Instr = carry_number_code o frame rd ra g.word in
    let all : List Instr = binary_number_code o frame rd ra g.word in
    let settles : (js : List Instr) → all ≡ js → Settles to (body_items frame n.op n.operands) js = λ js e. subst (λ (xs : List Item). Settles to xs js) (sym (g.binary o frame rd ra)) (settles-ones to all js e) in
    by-carry o
    (λ e. carried-numbers-carry code trash c i frame o d a x g.word line live choices e named g.small g.given (is-chosen code trash c i frame n live choices carried k (settles carried (ap (λ z. if z then carried else plain) e))))
    (λ e. binary-numbers-carry code trash c i frame o d a x g.word line live choices e named g.small g.given (is-chosen code trash c i frame n live choices plain k (settles plain (ap (λ z. if z then carried else plain) e))))

-- ---- two results
pub wide-registers-carried : (o : WideOp) (d e a b : Reg) (line : ℕ) → d ≢ Fp → e ≢ Fp → d ≢ e → IsCarried (wide_node o last_operand.Register d e a (operand.Reg b) line)
wide-registers-carried o d e a b line nd ne apart code trash c i frame live choices words labels k =
    let body = wide_code o frame (register_of X86_64 d) (register_of X86_64 e) (register_of X86_64 a) (register_of X86_64 b) in
    wide-registers-carry code trash c i frame o d e a b line live choices nd ne apart
    (is-chosen code trash c i frame (wide_node o last_operand.Register d e a (operand.Reg b) line) live choices body k (settles-ones (slice_index c.addresses) body body refl))

pub wide-immediate-carried : (o : WideOp) (d e a : Reg) (x : Operand) (line : ℕ) → d ≢ Fp → e ≢ Fp → d ≢ e → admits Immediate x ≡ true → IsCarried (wide_node o last_operand.Immediate d e a x line)
wide-immediate-carried o d e a x line nd ne apart immediate code trash c i frame live choices words labels k =
    let to : ℕ → ℕ = slice_index c.addresses in
    let n = wide_node o last_operand.Immediate d e a x line in
    let rd = register_of X86_64 d in
    let re = register_of X86_64 e in
    let ra = register_of X86_64 a in
    let g = is-given c.addresses x immediate words.1.1.1.0 (labels refl).1.1.1.0 in
    let body : List Instr = wide_number_code o frame rd re ra g.word in
    wide-numbers-carry code trash c i frame o d e a x g.word line live choices nd ne apart g.small g.given
    (is-chosen code trash c i frame n live choices body k (subst (λ (xs : List Item). Settles to xs body) (sym (g.wide o frame rd re ra)) (settles-ones to body body refl)))
