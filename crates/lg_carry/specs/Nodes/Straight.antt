-- Nodes whose code goes straight on to the next node, with their temporaries saved or not: it is carried where it leaves what the portable step
-- does.
use Rattle.std.specs.Prelude.{◌≡◌, ◌≢◌, ℕ, ◌+◌, ◌<◌, ◌≤◌, ◌==◌, ◌||◌, ◌⊎◌, Bool, true, false, List, [], ◌∷◌, length, slice_index_or, Option, Some, None}
use Rattle.lg_base.specs.Conventions.{portable_register, frame_register, carry_register}
use Rattle.lg_base.specs.Layout.{frame_pointer, stack_end}
use Rattle.lg_base.specs.declared.target.Target.{Target}
use Rattle.lg_op.specs.declared.node.Node.{Node}
use Rattle.lg_op.specs.declared.operand.Reg.{Reg}
use Rattle.lg_op.specs.declared.operand.Reg.TheVariants.{Fp}
use Rattle.lg_node.specs.Preparations.{pushed}
use Rattle.lg_live.specs.Uses.{is_read, is_written}
use Rattle.lg_meaning.specs.States.{State, reg}
use Rattle.lg_meaning.specs.Steps.{Goes, Undefined}
use Rattle.lg_meaning.specs.Texts.{step}
use Rattle.lg_temp.specs.declared.choice.Need.{Need}
use Rattle.lg_temp.specs.declared.choice.Choice.{Choice}
use Rattle.lg_temp.specs.declared.choice.Choice.TheVariants.{Free, Own, Spill}
use Rattle.lg_temp.specs.Abis.{register_of}
use Rattle.lg_temp.specs.Chosen.{around, is_named}
use Rattle.lg_temp.specs.Choices.{AreFor}
use Rattle.lg_base.specs.declared.flags.Flags.{Flags}
use Rattle.lg_base.specs.Flags.{carry_of}
use Rattle.lg_carry.specs.FinalNodes.{Code}
use Rattle.lg_carry.specs.NodeBlocks.{IsNodeBlock}
use Rattle.lg_carry.specs.Processors.{Seen, is_below, stack_of}
use Rattle.lg_carry.specs.Registers.{HoldsCarry, HoldsResult}
use Rattle.lg_carry.specs.Rows.{Rows}
use Rattle.lg_carry.specs.Carries.{leaps}
use Rattle.lg_carry.specs.NodeCode.{numbered, CarriesNode}
use Rattle.lg_carry.specs.Spills.{Work, Does, in_slots, wrapped, spilled}
use Rattle.lg_carry.specs.Stands.{HasMemory}
use Rattle.lg_carry.specs.TemporariesApart.{IsSpare}
use Rattle.lg_carry.specs.TextNodes.{IsInText, IsFrameOf, stands_inside}
use Rattle.lg_carry.specs.Nodes.Stretches.{HasFrame}

-- ---- registers that the code of a node may leave with any word
-- a temporary: what is the node's own is no temporary, since the node writes it
abbrev pub is_taken : List Choice → ℕ → Bool
is_taken [] x = false
is_taken (Free r ∷ choices) x = (r == x) || is_taken choices x
is_taken (Own r ∷ choices) x = is_taken choices x
is_taken (Spill r k ∷ choices) x = (r == x) || is_taken choices x

abbrev pub spoils : (ℕ → Bool) → List Choice → ℕ → Bool
spoils scratch choices x = is_taken choices x || scratch x

-- ---- the registers before the code and after it
-- words, among them those of the state that the node reads, FP and the stack pointer, the carry, the result of a call, and the portable memory, which lies
-- off the spill slots and below the end of the stack
pub record HoldsRead (target : Target) (n : Node) (frame : ℕ) (s : State) (q : Seen) : Type 0 where
  pub in_frame : HasFrame target frame q
  pub registers : (a : Reg) (x : ℕ) → (a ≢ Fp → is_read n a ≡ true) → reg s a ≡ Some x → q.registers (register_of target a) ≡ x
  pub carry : HoldsCarry target q.registers (carry_of q.flags) s.carry
  pub result : HoldsResult target q.registers s.answer
  pub memory : HasMemory s q.bytes
  pub pointer : q.registers (frame_register target) ≡ frame_pointer s.frame.sp
  pub off_slots : (a b : ℕ) → s.mem a ≡ Some b → in_slots (frame_pointer s.frame.sp) a ≡ false
  pub below : (a b : ℕ) → s.mem a ≡ Some b → a < stack_end
  pub above : (a b : ℕ) → s.mem a ≡ Some b → is_below target (stack_of target q) a ≡ false

-- the words that the step from s to t writes, and the carry after it; the step changes no other register
pub record HoldsWritten (target : Target) (n : Node) (s t : State) (u : ℕ → ℕ) (flag : Flags) : Type 0 where
  pub written : (r x : ℕ) → r < 6 → numbered (is_written n) r ≡ true → t.regs r ≡ Some x → u (portable_register target r) ≡ x
  pub others : (r : ℕ) → r < 6 → numbered (is_written n) r ≡ false → t.regs r ≡ s.regs r
  pub carry : HoldsCarry target u (carry_of flag) t.carry

-- a register that the code has to keep: the node does not write it, it is neither a temporary nor a scratch register, nor that of the carry
pub record IsKept (target : Target) (scratch : ℕ → Bool) (n : Node) (choices : List Choice) (x : ℕ) : Type 0 where
  pub written : (d : Reg) → d ≢ Fp → is_written n d ≡ true → x ≢ register_of target d
  pub taken : is_taken choices x ≡ false
  pub spoilt : scratch x ≡ false
  pub carry : carry_register target ≢ Some x

-- ---- the portable step
-- it goes on to the next node, and changes only registers, the carry and the result of a call, which is gone
pub record GoesOn (s t : State) : Type 0 where
  pub at : t.at ≡ s.at + 1
  pub frame : t.frame ≡ s.frame
  pub callers : t.callers ≡ s.callers
  pub pushed : t.pushed ≡ s.pushed
  pub mem : t.mem ≡ s.mem
  pub mark : t.mark ≡ s.mark
  pub data_size : t.data_size ≡ s.data_size
  pub args_size : t.args_size ≡ s.args_size
  pub answer : t.answer ≡ None

-- ---- the code
-- from what is seen, code leaves these registers and bytes and this flag
abbrev pub from_to : Seen → (ℕ → ℕ) → (ℕ → Option ℕ) → Flags → Work
from_to q registers bytes flag =
    record {
      registers = q.registers;
      bytes = q.bytes;
      mark = q.mark;
      flags = q.flags;
      end_registers = registers;
      end_bytes = bytes;
      end_mark = q.mark;
      end_flags = flag;
    }

-- from state s the step goes to a state whose words the code leaves
pub record StepsTo {Q I : Type 0} (R : Rows Q I) (scratch : ℕ → Bool) (c : Code) (n : Node) (choices : List Choice) (body : List I)
    (s : State) (q : Seen) : Type 0 where
  pub to : State
  pub goes : step c.nodes c.shape c.addresses s ≡ Goes to []
  pub on : GoesOn s to
  pub end : ℕ → ℕ
  pub flags : Flags
  pub does : Does R (from_to q end q.bytes flags) body (frame_pointer s.frame.sp) (spilled choices) (spoils scratch choices)
  pub keeps : (x : ℕ) → IsKept R.processor.target scratch n choices x → end x ≡ q.registers x
  pub holds : HoldsWritten R.processor.target n s to end flags

pub record ComputesNode {Q I : Type 0} (R : Rows Q I) (scratch : ℕ → Bool) (c : Code) (i : ℕ) (n : Node) (frame : ℕ) (choices : List Choice)
    (body : List I) : Type 0 where
  pub steps : (s : State) (q : Q) → s.at ≡ i → HoldsRead R.processor.target n frame s (R.processor.seen q)
      → (step c.nodes c.shape c.addresses s ≡ Undefined) ⊎ StepsTo R scratch c n choices body s (R.processor.seen q)

-- the registers that needs name hold nothing else than a portable register or an argument, and can be saved
abbrev pub NeedWell : {Q I : Type 0} → Rows Q I → List Need → Type 0
NeedWell R needs = (x : ℕ) → is_named needs x ≡ true → IsSpare R.processor.target x × (R.can_save x ≡ true)

-- such a node is carried with the choices for its needs, saved or not; the staged arguments are at least those that are pushed at the node
abbrev pub ComputingNodesCarry : {Q I : Type 0} → Rows Q I → (ℕ → Bool) → (I → Type 0) → Type 0
ComputingNodesCarry {Q} {I} R scratch fits =
    (c : Code) (i : ℕ) (n : Node) (frame : ℕ) (live : Reg → Bool) (staged : List Bool) (needs : List Need) (choices : List Choice) (body : List I)
    → stands_inside n.op ≡ true → leaps n.op ≡ false → NeedWell R needs → length needs ≤ 3
    → AreFor (around R.processor.target n live staged) needs [] needs choices → ((j : ℕ) → j < pushed c.nodes.nodes i → slice_index_or staged j false ≡ true)
    → IsInText c i n → IsFrameOf c i frame → IsNodeBlock R fits c i (wrapped R choices body) → ComputesNode R scratch c i n frame choices body
    → CarriesNode R.processor c i n (numbered live)

-- one without temporaries, whatever is live and staged
abbrev pub PlainNodesCarry : {Q I : Type 0} → Rows Q I → (ℕ → Bool) → (I → Type 0) → Type 0
PlainNodesCarry {Q} {I} R scratch fits =
    (c : Code) (i : ℕ) (n : Node) (frame : ℕ) (S : ℕ → Bool) (body : List I)
    → stands_inside n.op ≡ true → leaps n.op ≡ false → IsInText c i n → IsFrameOf c i frame → IsNodeBlock R fits c i body
    → ComputesNode R scratch c i n frame [] body
    → CarriesNode R.processor c i n S
