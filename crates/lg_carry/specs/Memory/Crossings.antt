-- Code that may branch within itself, and continues after itself: where it is somewhere, a run crosses it.
use Rattle.std.specs.Prelude.{◌≡◌, ℕ, ◌+◌, ◌<◌, ◌≤◌, ◌⊎◌, Bool, true, false, List, [], length, Option}
use Rattle.lg_base.specs.Layout.{code_base, most_code, frame_pointer}
use Rattle.lg_base.specs.Runs.{Running}
use Rattle.lg_base.specs.declared.flags.Flags.{Flags}
use Rattle.lg_op.specs.declared.node.Node.{Node}
use Rattle.lg_meaning.specs.States.{State}
use Rattle.lg_meaning.specs.Steps.{Goes, Undefined}
use Rattle.lg_meaning.specs.Texts.{step}
use Rattle.lg_temp.specs.declared.choice.Choice.{Choice}
use Rattle.lg_carry.specs.Blocks.{spellings, IsAbove}
use Rattle.lg_carry.specs.FinalNodes.{Code}
use Rattle.lg_carry.specs.Processors.{Seen}
use Rattle.lg_carry.specs.Rows.{Rows}
use Rattle.lg_carry.specs.Spills.{in_slots, in_first_slots, Looks, Work, spilled}
use Rattle.lg_carry.specs.Nodes.Straight.{spoils, HoldsRead, HoldsWritten, IsKept, GoesOn, from_to}
use Rattle.lg_carry.specs.Nodes.Stretches.{StandsAt, behind, PassesIn}

-- this many steps at most lead from an address to another one, after the code, and leave the registers W but for those of T, the bytes M but for the slots,
-- and this mark and flags; the first n slots are kept
pub record Crosses {Q I : Type 0} (R : Rows Q I) (low high most fp n : ℕ) (W : ℕ → ℕ) (M : ℕ → Option ℕ) (mark : ℕ) (flags : Flags)
    (T : ℕ → Bool) (q : Q) : Type 0 where
  pub end : Q
  pub steps : ℕ
  pub few : steps ≤ most
  pub passes : PassesIn R.processor false low high steps q end
  pub runs : R.processor.machine.status end ≡ Running
  pub here : (R.processor.seen end).pc ≡ high
  pub registers : (r : ℕ) → T r ≡ false → (R.processor.seen end).registers r ≡ W r
  pub bytes : (a : ℕ) → in_slots fp a ≡ false → (R.processor.seen end).bytes a ≡ M a
  pub slots : (a : ℕ) → in_first_slots fp n a ≡ true → (R.processor.seen end).bytes a ≡ (R.processor.seen q).bytes a
  pub has_mark : (R.processor.seen end).mark ≡ mark
  pub has_flags : (R.processor.seen end).flags ≡ flags

-- code does so in at most as many steps as it has instructions, from every state that looks so, wherever it is and whatever is in the slots
abbrev pub CrossesCode : {Q I : Type 0} → Rows Q I → (I → Type 0) → Work → List I → ℕ → ℕ → (ℕ → Bool) → Type 0
CrossesCode {Q} R fits w code fp n T =
    (q : Q) (from : ℕ) → Looks R fp w.registers w.bytes w.mark w.flags q → StandsAt R false fits from code → behind R from code ≤ code_base + most_code
    → (R.processor.seen q).pc ≡ from
    → Crosses R from (behind R from code) (length code) fp n w.end_registers w.end_bytes w.end_mark w.end_flags T q

-- an instruction only leads to an address
pub record LeadsTo {Q I : Type 0} (R : Rows Q I) (x : I) (q : Q) (to : ℕ) : Type 0 where
  pub above : IsAbove R x q
  pub runs : R.processor.machine.status (R.does x q) ≡ Running
  pub here : (R.processor.seen (R.does x q)).pc ≡ to
  pub registers : (r : ℕ) → (R.processor.seen (R.does x q)).registers r ≡ (R.processor.seen q).registers r
  pub bytes : (a : ℕ) → (R.processor.seen (R.does x q)).bytes a ≡ (R.processor.seen q).bytes a
  pub has_mark : (R.processor.seen (R.does x q)).mark ≡ (R.processor.seen q).mark
  pub has_flags : (R.processor.seen (R.does x q)).flags ≡ (R.processor.seen q).flags

-- from a state with these registers, wherever it is, it leads this many bytes after itself
abbrev pub Skips : {Q I : Type 0} → Rows Q I → I → (ℕ → ℕ) → ℕ → Type 0
Skips {Q} R x registers distance =
    (q : Q) → R.processor.machine.status q ≡ Running → ((r : ℕ) → (R.processor.seen q).registers r ≡ registers r) → code_base ≤ (R.processor.seen q).pc
    → R.is_place (R.processor.seen q).pc ≡ true → (R.processor.seen q).pc + length (R.spelling x) + distance ≤ code_base + most_code
    → LeadsTo R x q ((R.processor.seen q).pc + length (R.spelling x) + distance)

-- ---- nodes whose code is crossed, and goes on to the next node
-- from state s the step goes to a state whose words the code leaves
pub record CrossesTo {Q I : Type 0} (R : Rows Q I) (fits : I → Type 0) (scratch : ℕ → Bool) (c : Code) (n : Node) (choices : List Choice) (body : List I)
    (s : State) (q : Seen) : Type 0 where
  pub to : State
  pub goes : step c.nodes c.shape c.addresses s ≡ Goes to []
  pub on : GoesOn s to
  pub end : ℕ → ℕ
  pub flags : Flags
  pub does : CrossesCode R fits (from_to q end q.bytes flags) body (frame_pointer s.frame.sp) (spilled choices) (spoils scratch choices)
  pub keeps : (x : ℕ) → IsKept R.processor.target scratch n choices x → end x ≡ q.registers x
  pub holds : HoldsWritten R.processor.target n s to end flags

pub record CrossesNode {Q I : Type 0} (R : Rows Q I) (fits : I → Type 0) (scratch : ℕ → Bool) (c : Code) (i : ℕ) (n : Node) (frame : ℕ) (choices : List Choice)
    (body : List I) : Type 0 where
  pub some : 0 < length (spellings R.spelling body)
  pub steps : (s : State) (q : Q) → s.at ≡ i → HoldsRead R.processor.target n frame s (R.processor.seen q)
      → (step c.nodes c.shape c.addresses s ≡ Undefined) ⊎ CrossesTo R fits scratch c n choices body s (R.processor.seen q)
