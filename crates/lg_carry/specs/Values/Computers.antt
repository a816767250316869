-- A processor with instructions that only compute: each makes registers and flag of registers and flag, and the next one follows.
use Rattle.std.specs.Prelude.{◌≡◌, ◌≢◌, ℕ, ◌+◌, ◌^◌, ◌≤◌, ◌<◌, ◌&&◌, ◌⊎◌, Bool, true, List, [], ◌∷◌, length, Some}
use Rattle.lg_base.specs.Layout.{code_base, most_code}
use Rattle.lg_base.specs.Runs.{Running}
use Rattle.lg_base.specs.declared.target.Target.{Target}
use Rattle.lg_op.specs.declared.node.Node.{Node}
use Rattle.lg_op.specs.declared.operand.Reg.{Reg}
use Rattle.lg_op.specs.declared.operand.Reg.TheVariants.{Fp}
use Rattle.lg_live.specs.Uses.{is_read}
use Rattle.lg_meaning.specs.States.{State, reg}
use Rattle.lg_meaning.specs.Steps.{Goes, Undefined}
use Rattle.lg_meaning.specs.Texts.{step}
use Rattle.lg_temp.specs.declared.choice.Choice.{Choice}
use Rattle.lg_temp.specs.Abis.{register_of}
use Rattle.lg_base.specs.declared.flags.Flags.{Flags}
use Rattle.lg_base.specs.Flags.{carry_of}
use Rattle.lg_carry.specs.FinalNodes.{Code}
use Rattle.lg_carry.specs.Registers.{HoldsCarry, HoldsResult}
use Rattle.lg_carry.specs.Rows.{Rows}
use Rattle.lg_carry.specs.Blocks.{IsAbove}
use Rattle.lg_carry.specs.Nodes.Straight.{IsKept, GoesOn, HoldsWritten, ComputesNode}

-- what instructions compute with
pub record Held : Type 0 where
  pub registers : ℕ → ℕ
  pub flags : Flags

-- a processor, which instructions compute, and what one makes of what is held
pub record Computer (Q I : Type 0) : Type 0 where
  pub rows : Rows Q I
  pub computes : I → Bool
  pub computed_by : I → Held → Held

abbrev pub held : {Q I : Type 0} → Computer Q I → Q → Held
held M q = record { registers = (M.rows.processor.seen q).registers; flags = (M.rows.processor.seen q).flags }

-- the run continues after the instruction; it made this of what was held, and nothing else changed
pub record Computes {Q I : Type 0} (M : Computer Q I) (i : I) (q q' : Q) : Type 0 where
  pub above : IsAbove M.rows i q
  pub runs : M.rows.processor.machine.status q' ≡ Running
  pub behind : (M.rows.processor.seen q').pc ≡ (M.rows.processor.seen q).pc + length (M.rows.spelling i)
  pub holds : held M q' ≡ M.computed_by i (held M q)
  pub bytes : (a : ℕ) → (M.rows.processor.seen q').bytes a ≡ (M.rows.processor.seen q).bytes a
  pub mark : (M.rows.processor.seen q').mark ≡ (M.rows.processor.seen q).mark

-- what is needed of it
abbrev pub IsComputer : {Q I : Type 0} → Computer Q I → Type 0
IsComputer {Q} {I} M = (i : I) (q : Q) → M.computes i ≡ true → M.rows.processor.machine.status q ≡ Running → code_base ≤ (M.rows.processor.seen q).pc
    → (M.rows.processor.seen q).pc + length (M.rows.spelling i) ≤ code_base + most_code → Computes M i q (M.rows.does i q)

-- ---- lists of instructions
abbrev pub all_compute : {I : Type 0} → (I → Bool) → List I → Bool
all_compute computes [] = true
all_compute computes (i ∷ is) = computes i && all_compute computes is

-- what they make, one after the other
abbrev pub computed : {I : Type 0} → (I → Held → Held) → List I → Held → Held
computed by [] w = w
computed by (i ∷ is) w = computed by is (by i w)

-- ---- nodes whose code only computes
-- words of the state that the node reads, the carry and the result of a call
pub record HeldRead (target : Target) (n : Node) (s : State) (w : Held) : Type 0 where
  pub registers : (a : Reg) (x : ℕ) → (a ≢ Fp → is_read n a ≡ true) → reg s a ≡ Some x → w.registers (register_of target a) ≡ x
  pub words : (r : ℕ) → w.registers r < 2 ^ 64
  pub carry : HoldsCarry target w.registers (carry_of w.flags) s.carry
  pub result : HoldsResult target w.registers s.answer

-- from state s the step goes to a state that is held
pub record HeldTo (target : Target) (c : Code) (n : Node) (s : State) (u : Held) : Type 0 where
  pub to : State
  pub goes : step c.nodes c.shape c.addresses s ≡ Goes to []
  pub on : GoesOn s to
  pub holds : HoldsWritten target n s to u.registers u.flags

-- the code computes, keeps what it has to, and from each state at the node the step is undefined, or is what the code computes
pub record ComputingNode {Q I : Type 0} (M : Computer Q I) (scratch : ℕ → Bool) (c : Code) (i : ℕ) (n : Node) (choices : List Choice)
    (body : List I) : Type 0 where
  pub computes : all_compute M.computes body ≡ true
  pub keeps : (w : Held) (x : ℕ) → IsKept M.rows.processor.target scratch n choices x → (computed M.computed_by body w).registers x ≡ w.registers x
  pub steps : (s : State) (w : Held) → s.at ≡ i → HeldRead M.rows.processor.target n s w
      → (step c.nodes c.shape c.addresses s ≡ Undefined) ⊎ HeldTo M.rows.processor.target c n s (computed M.computed_by body w)

-- such a node is one whose code goes straight on
abbrev pub ComputingNodesCompute : {Q I : Type 0} → Computer Q I → Type 0
ComputingNodesCompute {Q} {I} M =
    (scratch : ℕ → Bool) (c : Code) (i : ℕ) (n : Node) (frame : ℕ) (choices : List Choice) (body : List I)
    → ComputingNode M scratch c i n choices body → ComputesNode M.rows scratch c i n frame choices body
