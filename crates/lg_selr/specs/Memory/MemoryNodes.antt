-- Loads, stores and nodes that read and pass arguments are carried by their code, wherever the processor runs it.
use Rattle.std.specs.Prelude.{◌≡◌, ℕ, ◌^◌, ◌<◌, ◌≤◌, Bool, true, false, List, [], length, slice_index_or}
use Rattle.lg_base.specs.Layout.{most_code}
use Rattle.lg_base.specs.declared.target.Target.TheVariants.{Riscv64}
use Rattle.lg_carry.specs.FinalNodes.{Code}
use Rattle.lg_carry.specs.Passages.{IsNodeCode}
use Rattle.lg_carry.specs.NodeCode.{numbered, CarriesNode}
use Rattle.lg_carry.specs.Spills.{wrapped}
use Rattle.lg_carry.specs.TextNodes.{IsInText, IsFrameOf}
use Rattle.lg_selr_values.specs.Processor.RvRows.{rv_processor, rv_rows}
use Rattle.lg_cpu.specs.Laws.{AreBytes}
use Rattle.lg_node.specs.Preparations.{pushed}
use Rattle.lg_op.specs.declared.node.Node.{Node}
use Rattle.lg_op.specs.declared.op.Addressing.{Addressing}
use Rattle.lg_op.specs.declared.op.Op.{Op}
use Rattle.lg_op.specs.declared.op.Op.TheVariants as op
use Rattle.lg_op.specs.declared.op.StoreType.{StoreType}
use Rattle.lg_op.specs.declared.op.ValueType.{ValueType}
use Rattle.lg_op.specs.declared.operand.Reg.{Reg}
use Rattle.lg_op.specs.Operators.{width, store_width}
use Rattle.lg_rv.specs.Spelling.{IsInstr}
use Rattle.lg_rv.specs.declared.instruction.Instr.{Instr}
use Rattle.lg_carry.specs.Memory.Arguments.{ArgumentsCarry}
use Rattle.lg_carry.specs.Memory.Operands.{names_label, HasWords}
use Rattle.lg_carry.specs.Memory.Pushes.{PushesCarry}
use Rattle.lg_carry.specs.Memory.VariableArguments.{NextArgumentsCarry}
use Rattle.lg_selr.specs.Memory.Accesses.{access_needs, load_code, store_code}
use Rattle.lg_selr.specs.Memory.ArgumentCode.{rv_argument}
use Rattle.lg_selr.specs.Memory.PushCode.{rv_push}
use Rattle.lg_selr.specs.Memory.VariableArgumentCode.{rv_next_argument}
use Rattle.lg_carry.specs.Values.Parts.{first_taken}
use Rattle.lg_temp.specs.Choices.{AreFor}
use Rattle.lg_temp.specs.Chosen.{around}
use Rattle.lg_temp.specs.declared.choice.Choice.{Choice}

-- a node of this operation that names no label is carried by its code, with the choices for an access of this many bytes, whatever is live and staged
abbrev pub AccessesCarry : List ℕ → ℕ → Op → ℕ → (Node → ℕ → List Instr) → Type 0
AccessesCarry code trash o bytes code_of =
    (c : Code) (i : ℕ) (n : Node) (frame : ℕ) (live : Reg → Bool) (staged : List Bool) (choices : List Choice) → n.op ≡ o → names_label n ≡ false → HasWords n
    → AreFor (around Riscv64 n live staged) (access_needs bytes) [] (access_needs bytes) choices
    → ((j : ℕ) → j < pushed c.nodes.nodes i → slice_index_or staged j false ≡ true) → IsInText c i n → IsFrameOf c i frame
    → IsNodeCode (rv_rows code trash) IsInstr c i (wrapped (rv_rows code trash) choices (code_of n (first_taken choices)))
    → CarriesNode (rv_processor code trash) c i n (numbered live)

pub record MemoryNodesCarry (code : List ℕ) (trash : ℕ) : Type 0 where
  pub loads : (t : ValueType) (at : Addressing) → AccessesCarry code trash (op.Load t at) (width t) (load_code t at)
  pub stores : (t : StoreType) (at : Addressing) → AccessesCarry code trash (op.Store t at) (store_width t) (store_code t at)
  pub arguments : ArgumentsCarry (rv_rows code trash) IsInstr rv_argument
  pub next_arguments : NextArgumentsCarry (rv_rows code trash) IsInstr rv_next_argument
  pub pushes : PushesCarry (rv_rows code trash) IsInstr rv_push

abbrev pub MemoryIsCarried : Type 0
MemoryIsCarried = (code : List ℕ) (trash : ℕ) → length code ≤ most_code → AreBytes code → trash < 2 ^ 64 → MemoryNodesCarry code trash
