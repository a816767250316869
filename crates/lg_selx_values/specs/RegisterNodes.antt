-- Nodes that compute values from registers, or take a word of the text or the result of a call, are carried by their code, for each choice for rax, rcx and
-- rdx.
use Rattle.std.specs.Prelude.{◌≡◌, ◌≢◌, ℕ, ◌^◌, ◌<◌, Bool, true, false, List, [], ◌∷◌, slice_index_or, Some}
use Rattle.lg_base.specs.declared.target.Target.TheVariants.{X86_64}
use Rattle.lg_op.specs.declared.op.BinaryOp.{BinaryOp}
use Rattle.lg_op.specs.declared.op.LastOperand.TheVariants as last_operand
use Rattle.lg_op.specs.declared.op.UnaryOp.{UnaryOp}
use Rattle.lg_op.specs.declared.op.ValueType.{ValueType}
use Rattle.lg_op.specs.declared.op.WideOp.{WideOp}
use Rattle.lg_op.specs.declared.node.Node.{Node}
use Rattle.lg_op.specs.declared.operand.Reg.{Reg}
use Rattle.lg_op.specs.declared.operand.Reg.TheVariants.{Fp}
use Rattle.lg_op.specs.declared.operand.Operand.{Operand}
use Rattle.lg_op.specs.declared.operand.Operand.TheVariants as operand
use Rattle.lg_meaning.specs.States.{State, value}
use Rattle.lg_op.specs.Operators.{sets_carry}
use Rattle.lg_node.specs.Preparations.{pushed}
use Rattle.lg_temp.specs.declared.choice.Choice.{Choice}
use Rattle.lg_temp.specs.Abis.{register_of}
use Rattle.lg_temp.specs.Chosen.{around}
use Rattle.lg_temp.specs.Choices.{AreFor}
use Rattle.lg_carry.specs.FinalNodes.{Code}
use Rattle.lg_carry.specs.NodeCode.{numbered, CarriesNode}
use Rattle.lg_carry.specs.Spills.{wrapped}
use Rattle.lg_carry.specs.TextNodes.{IsInText, IsFrameOf}
use Rattle.lg_carry.specs.Values.ValueNodes.{binary_node, wide_node, unary_node, movi_node, va_start_node, retval_node}
use Rattle.lg_x86.specs.declared.instruction.Instr.{Instr}
use Rattle.lg_selx_values.specs.Processor.Numbers.{number_row}
use Rattle.lg_selx_values.specs.Processor.Places.{IsInCode}
use Rattle.lg_selx_values.specs.Processor.X86Rows.{x86_processor, x86_rows}
use Rattle.lg_selx_values.specs.BinaryCode.{register_code, number_form_code}
use Rattle.lg_selx_values.specs.CarryCode.{carry_register_code, carry_number_code}
use Rattle.lg_selx_values.specs.Needs.{value_needs}
use Rattle.lg_selx_values.specs.UnaryCode.{unary_code, retval_code}
use Rattle.lg_selx_values.specs.WideCode.{wide_code, wide_number_code}

-- a node whose registers for its needs are chosen, whatever is live after it and whatever is staged, and whose code is this, with saves and restores
pub record IsChosen (code : List ℕ) (trash : ℕ) (c : Code) (i frame : ℕ) (n : Node) (live : Reg → Bool) (choices : List Choice)
    (body : List Instr) : Type 0 where
  pub staged : List Bool
  pub chosen : AreFor (around X86_64 n live staged) (value_needs n.op) [] (value_needs n.op) choices
  pub pushes : (j : ℕ) → j < pushed c.nodes.nodes i → slice_index_or staged j false ≡ true
  pub in_text : IsInText c i n
  pub of_frame : IsFrameOf c i frame
  pub in_code : IsInCode code trash c i (wrapped (x86_rows code trash) choices body)

abbrev pub binary_registers : BinaryOp → Reg → Reg → Reg → ℕ → Node
binary_registers o d a b line = binary_node o last_operand.Register d a (operand.Reg b) line

abbrev pub wide_registers : WideOp → Reg → Reg → Reg → Reg → ℕ → Node
wide_registers o d e a b line = wide_node o last_operand.Register d e a (operand.Reg b) line

abbrev pub BinaryRegistersCarry : Type 0
BinaryRegistersCarry =
    (code : List ℕ) (trash : ℕ) (c : Code) (i frame : ℕ) (o : BinaryOp) (d a b : Reg) (line : ℕ) (live : Reg → Bool) (choices : List Choice)
    → sets_carry o ≡ false → d ≢ Fp
    → IsChosen code trash c i frame (binary_registers o d a b line) live choices
    (register_code o frame (register_of X86_64 d) (register_of X86_64 a) (register_of X86_64 b))
    → CarriesNode (x86_processor code trash) c i (binary_registers o d a b line) (numbered live)

abbrev pub FlagRegistersCarry : Type 0
FlagRegistersCarry =
    (code : List ℕ) (trash : ℕ) (c : Code) (i frame : ℕ) (o : BinaryOp) (d a b : Reg) (line : ℕ) (live : Reg → Bool) (choices : List Choice)
    → sets_carry o ≡ true → d ≢ Fp
    → IsChosen code trash c i frame (binary_registers o d a b line) live choices
    (carry_register_code o frame (register_of X86_64 d) (register_of X86_64 a) (register_of X86_64 b))
    → CarriesNode (x86_processor code trash) c i (binary_registers o d a b line) (numbered live)

abbrev pub WideRegistersCarry : Type 0
WideRegistersCarry =
    (code : List ℕ) (trash : ℕ) (c : Code) (i frame : ℕ) (o : WideOp) (d e a b : Reg) (line : ℕ) (live : Reg → Bool) (choices : List Choice)
    → d ≢ Fp → e ≢ Fp → d ≢ e
    → IsChosen code trash c i frame (wide_registers o d e a b line) live choices
    (wide_code o frame (register_of X86_64 d) (register_of X86_64 e) (register_of X86_64 a) (register_of X86_64 b))
    → CarriesNode (x86_processor code trash) c i (wide_registers o d e a b line) (numbered live)

abbrev pub UnariesCarry : Type 0
UnariesCarry =
    (code : List ℕ) (trash : ℕ) (c : Code) (i frame : ℕ) (o : UnaryOp) (d a : Reg) (line : ℕ) (live : Reg → Bool) (choices : List Choice) → d ≢ Fp
    → IsChosen code trash c i frame (unary_node o d a line) live choices (unary_code o (register_of X86_64 d) (register_of X86_64 a))
    → CarriesNode (x86_processor code trash) c i (unary_node o d a line) (numbered live)

-- a word of the text, a number or the address of a host function
abbrev pub MovisCarry : Type 0
MovisCarry =
    (code : List ℕ) (trash : ℕ) (c : Code) (i frame : ℕ) (d : Reg) (x : Operand) (v line : ℕ) (live : Reg → Bool) (choices : List Choice) → d ≢ Fp → v < 2 ^ 64
    → ((s : State) → value c.addresses s x ≡ Some v)
    → IsChosen code trash c i frame (movi_node d x line) live choices (number_row (register_of X86_64 d) v ∷ [])
    → CarriesNode (x86_processor code trash) c i (movi_node d x line) (numbered live)

abbrev pub VaStartsCarry : Type 0
VaStartsCarry =
    (code : List ℕ) (trash : ℕ) (c : Code) (i frame : ℕ) (d : Reg) (k line : ℕ) (live : Reg → Bool) (choices : List Choice) → d ≢ Fp → k < 2 ^ 64
    → IsChosen code trash c i frame (va_start_node d k line) live choices (number_row (register_of X86_64 d) k ∷ [])
    → CarriesNode (x86_processor code trash) c i (va_start_node d k line) (numbered live)

abbrev pub RetvalsCarry : Type 0
RetvalsCarry =
    (code : List ℕ) (trash : ℕ) (c : Code) (i frame : ℕ) (t : ValueType) (d : Reg) (line : ℕ) (live : Reg → Bool) (choices : List Choice) → d ≢ Fp
    → IsChosen code trash c i frame (retval_node t d line) live choices (retval_code t (register_of X86_64 d))
    → CarriesNode (x86_processor code trash) c i (retval_node t d line) (numbered live)

-- a register and a word of the text
abbrev pub BinaryNumbersCarry : Type 0
BinaryNumbersCarry =
    (code : List ℕ) (trash : ℕ) (c : Code) (i frame : ℕ) (o : BinaryOp) (d a : Reg) (x : Operand) (v line : ℕ) (live : Reg → Bool) (choices : List Choice)
    → sets_carry o ≡ false → d ≢ Fp → v < 2 ^ 64 → ((s : State) → value c.addresses s x ≡ Some v)
    → IsChosen code trash c i frame (binary_node o last_operand.Immediate d a x line) live choices
    (number_form_code o frame (register_of X86_64 d) (register_of X86_64 a) v)
    → CarriesNode (x86_processor code trash) c i (binary_node o last_operand.Immediate d a x line) (numbered live)

abbrev pub FlagNumbersCarry : Type 0
FlagNumbersCarry =
    (code : List ℕ) (trash : ℕ) (c : Code) (i frame : ℕ) (o : BinaryOp) (d a : Reg) (x : Operand) (v line : ℕ) (live : Reg → Bool) (choices : List Choice)
    → sets_carry o ≡ true → d ≢ Fp → v < 2 ^ 64 → ((s : State) → value c.addresses s x ≡ Some v)
    → IsChosen code trash c i frame (binary_node o last_operand.Immediate d a x line) live choices
    (carry_number_code o frame (register_of X86_64 d) (register_of X86_64 a) v)
    → CarriesNode (x86_processor code trash) c i (binary_node o last_operand.Immediate d a x line) (numbered live)

abbrev pub WideNumbersCarry : Type 0
WideNumbersCarry =
    (code : List ℕ) (trash : ℕ) (c : Code) (i frame : ℕ) (o : WideOp) (d e a : Reg) (x : Operand) (v line : ℕ) (live : Reg → Bool) (choices : List Choice)
    → d ≢ Fp → e ≢ Fp → d ≢ e → v < 2 ^ 64 → ((s : State) → value c.addresses s x ≡ Some v)
    → IsChosen code trash c i frame (wide_node o last_operand.Immediate d e a x line) live choices
    (wide_number_code o frame (register_of X86_64 d) (register_of X86_64 e) (register_of X86_64 a) v)
    → CarriesNode (x86_processor code trash) c i (wide_node o last_operand.Immediate d e a x line) (numbered live)
