-- Loads, stores and nodes that read and pass arguments, also variable ones, are carried by their code, wherever the processor runs it.
use Rattle.std.specs.Prelude.{◌≡◌, ℕ, ◌^◌, ◌<◌, ◌≤◌, Bool, true, false, List, [], length, slice_index_or}
use Rattle.lg_base.specs.Layout.{most_code}
use Rattle.lg_base.specs.declared.target.Target.TheVariants.{X86_64}
use Rattle.lg_carry.specs.FinalNodes.{Code}
use Rattle.lg_carry.specs.NodeBlocks.{IsNodeBlock}
use Rattle.lg_carry.specs.NodeCode.{numbered, CarriesNode}
use Rattle.lg_carry.specs.Spills.{wrapped}
use Rattle.lg_carry.specs.TextNodes.{IsInText, IsFrameOf}
use Rattle.lg_selx_values.specs.Processor.X86Rows.{x86_processor, x86_rows}
use Rattle.lg_cpu.specs.Laws.{AreBytes}
use Rattle.lg_node.specs.Preparations.{pushed}
use Rattle.lg_op.specs.declared.node.Node.{Node}
use Rattle.lg_op.specs.declared.op.Addressing.{Addressing}
use Rattle.lg_op.specs.declared.op.Op.TheVariants as op
use Rattle.lg_op.specs.declared.op.StoreType.{StoreType}
use Rattle.lg_op.specs.declared.operand.Reg.{Reg}
use Rattle.lg_x86.specs.Spelling.{IsInstr}
use Rattle.lg_carry.specs.Memory.Arguments.{ArgumentsCarry}
use Rattle.lg_carry.specs.Memory.Loads.{LoadsCarry}
use Rattle.lg_carry.specs.Memory.Operands.{names_label, HasWords}
use Rattle.lg_carry.specs.Memory.Pushes.{PushesCarry}
use Rattle.lg_carry.specs.Memory.VariableArguments.{NextArgumentsCarry}
use Rattle.lg_selx.specs.Memory.Accesses.{x86_load, store_needs, store_code}
use Rattle.lg_selx.specs.Memory.ArgumentCode.{x86_argument}
use Rattle.lg_selx.specs.Memory.PushCode.{x86_push}
use Rattle.lg_selx.specs.Memory.VariableArgumentCode.{x86_next_argument}
use Rattle.lg_carry.specs.Values.Parts.{first_taken}
use Rattle.lg_temp.specs.Choices.{AreFor}
use Rattle.lg_temp.specs.Chosen.{around}
use Rattle.lg_temp.specs.declared.choice.Choice.{Choice}

-- a store that names no label is carried by its code, with the choices for its needs, whatever is live and staged
abbrev pub StoresCarry : List ℕ → ℕ → Type 0
StoresCarry code trash =
    (t : StoreType) (at : Addressing) (c : Code) (i : ℕ) (n : Node) (frame : ℕ) (live : Reg → Bool) (staged : List Bool) (choices : List Choice)
    → n.op ≡ op.Store t at → names_label n ≡ false → HasWords n
    → AreFor (around X86_64 n live staged) (store_needs at) [] (store_needs at) choices
    → ((j : ℕ) → j < pushed c.nodes.nodes i → slice_index_or staged j false ≡ true) → IsInText c i n → IsFrameOf c i frame
    → IsNodeBlock (x86_rows code trash) IsInstr c i (wrapped (x86_rows code trash) choices (store_code t at n (first_taken choices)))
    → CarriesNode (x86_processor code trash) c i n (numbered live)

pub record MemoryNodesCarry (code : List ℕ) (trash : ℕ) : Type 0 where
  pub loads : LoadsCarry (x86_rows code trash) IsInstr x86_load
  pub stores : StoresCarry code trash
  pub arguments : ArgumentsCarry (x86_rows code trash) IsInstr x86_argument
  pub next_arguments : NextArgumentsCarry (x86_rows code trash) IsInstr x86_next_argument
  pub pushes : PushesCarry (x86_rows code trash) IsInstr x86_push

abbrev pub MemoryIsCarried : Type 0
MemoryIsCarried = (code : List ℕ) (trash : ℕ) → length code ≤ most_code → AreBytes code → trash < 2 ^ 64 → MemoryNodesCarry code trash
