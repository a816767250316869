-- A function that is called from outside: the processor at its first instruction, by the convention of its target and whatever else it holds, and what its run then is.
use Rattle.std.specs.Prelude.{◌≡◌, ℕ, ◌*◌, ◌^◌, ◌<◌, ◌≤◌, true, List, [], Option, Some, length, is_some, slice_get, slice_index}
use Rattle.lg_base.specs.Conventions.{stack_register, link_register}
use Rattle.lg_base.specs.Layout.{stop_address}
use Rattle.lg_base.specs.Parts.{heap_base, stack_base}
use Rattle.lg_base.specs.Runs.{Status, Ended, iter}
use Rattle.lg_base.specs.declared.target.Target.{Target}
use Rattle.lg_carry.specs.Agreement.{meaning_of}
use Rattle.lg_carry.specs.Frames.{arriving, IsLinked}
use Rattle.lg_carry.specs.Memories.{SharesMemory}
use Rattle.lg_carry.specs.Registers.{HoldsArguments, HasArguments}
use Rattle.lg_carry.specs.Stands.{HasParts, HasMemory}
use Rattle.lg_cells.specs.Cells.{within}
use Rattle.lg_cpu.specs.Entering.{entered}
use Rattle.lg_cpu.specs.States.{CpuState}
use Rattle.lg_cpu.specs.Targets.{machine_of}
use Rattle.lg_meaning.specs.Fits.{FitsWell}
use Rattle.lg_meaning.specs.Means as mean
use Rattle.lg_meaning.specs.Starts.{Entry, MayEnter, begins_at, MayBegin, entered_state, entry_after}
use Rattle.lg_meaning.specs.States.{State}
use Rattle.lg_meaning.specs.Steps.{Left}
use Rattle.lg_node.specs.Nodes.{LabelledNodes}
use Rattle.lg_node.specs.Shapes.{TextShape}
use Rattle.lg_node.specs.declared.unit.Unit.{Unit as TextUnit}
use Rattle.lg_op.specs.declared.operand.Label.{Label}
use Rattle.lg_va.specs.Calls.{calling_stack}
use Rattle.lg_asm.specs.Assembled.{Assembled, IsCode, ComesFrom}
use Rattle.lg_asm.specs.Called.{AgreesAs, EndsAsMeant, HasReturned, run_of}
use Rattle.lg_asm.specs.Lowered.{is_marked, is_outward}

-- a memory has the data part, the argument part and the heap of what a run begins with, and no other bytes between the data and the heap; heap and stack are there,
-- with any bytes besides
pub record HoldsEntry (e : Entry) (bytes : ℕ → Option ℕ) : Type 0 where
  pub small : (a b : ℕ) → bytes a ≡ Some b → b < 256
  pub parts : HasParts (entered_state e 0) bytes
  pub memory : HasMemory (entered_state e 0) bytes
  pub heap : (a : ℕ) → within heap_base 0x400000 a ≡ true → is_some (bytes a) ≡ true
  pub stack : (a : ℕ) → within stack_base 0x100000 a ≡ true → is_some (bytes a) ≡ true

-- a processor is at an address, as the target's calling convention has it for a function that is called with this: the stack pointer, the return address, which is
-- the stop address, and the arguments are where they belong, and memory is that of the call. Every other register, the flags, and the bytes of heap and stack that
-- the call does not have may be any
pub record IsEntered (target : Target) (e : Entry) (address : ℕ) (q : CpuState) : Type 0 where
  pub may : MayEnter e
  pub here : q.pc ≡ address
  pub words : (r : ℕ) → q.registers r < 2 ^ 64
  pub stack : q.registers (stack_register target) ≡ arriving (link_register target) e.sp
  pub link : IsLinked (link_register target) q.bytes q.registers e.sp stop_address
  pub arguments : HoldsArguments target q.registers e.args
  pub incoming : HasArguments target q.bytes e.sp e.args
  pub memory : HoldsEntry e q.bytes
  pub mark : q.mark ≡ e.mark

-- so is a processor that a host has put before a function by `Cpu::enter`, with the memory and the heap mark of the call
abbrev pub ProcessorsEnter : Type 0
ProcessorsEnter =
    (target : Target) (e : Entry) (address : ℕ) (q : CpuState) → MayEnter e → e.sp ≡ calling_stack (length e.args)
    → ((k w : ℕ) → slice_get e.args k ≡ Some w → w < 2 ^ 64) → ((r : ℕ) → q.registers r < 2 ^ 64) → HoldsEntry e q.bytes → q.mark ≡ e.mark
    → IsEntered target e address (entered target address e.args q)

-- a state of a processor: its registers hold words, its memory holds bytes, and heap and stack are there
pub record IsWholeState (q : CpuState) : Type 0 where
  pub words : (r : ℕ) → q.registers r < 2 ^ 64
  pub small : (a b : ℕ) → q.bytes a ≡ Some b → b < 256
  pub heap : (a : ℕ) → within heap_base 0x400000 a ≡ true → is_some (q.bytes a) ≡ true
  pub stack : (a : ℕ) → within stack_base 0x100000 a ≡ true → is_some (q.bytes a) ≡ true

-- calls follow one another: where a processor has the memory of a state to which the meaning came, as after each end that `AgreesAs` speaks of, a run may begin
-- with the data part, the argument part, the heap and the heap mark of that state, and the processor has them
abbrev pub CallsFollow : Type 0
CallsFollow =
    (l : LabelledNodes) (shape : TextShape) (s : State) (status : Status) (args : List ℕ) (q : CpuState) → FitsWell l shape s → HasParts s q.bytes → SharesMemory status s q.bytes q.mark
    → IsWholeState q → length args ≤ 16
    → MayEnter (entry_after s (calling_stack (length args)) args) × HoldsEntry (entry_after s (calling_stack (length args)) args) q.bytes × (q.mark ≡ s.mark)

-- the code of a function that is called from outside agrees with the portable meaning that begins at that function: where these are the labels of such functions,
-- for each of them that is bound at a `prolog`, from every state of the processor that is at the label's address as the convention has it. Host functions leave
-- any one word in caller-saved registers
abbrev pub EnteredCodeAgrees : Type 0
EnteredCodeAgrees =
    (c : Assembled) (unit : TextUnit) (shape : TextShape) (entries : List Label) → IsCode c → ComesFrom unit.nodes shape c
    → is_marked c.nodes c.outward ≡ is_outward c.nodes entries
    → (i : ℕ) (x : Label) → slice_get entries i ≡ Some x → MayBegin unit.nodes (Some x)
    → (e : Entry) (trash : ℕ) (q : CpuState) → trash < 2 ^ 64 → IsEntered c.target e (slice_index c.labels x.0) q
    → AgreesAs c.bytes c.labels unit c.target e.sp trash (entered_state e (begins_at unit.nodes (Some x))) q

-- where the meaning of a call has returned after m steps, the run has ended after at most 64 times as many: with the same output, at its return address, with the
-- word, where there is one, in the result register, the stack pointer and every callee-saved register as they were, and every byte of the data part, the argument
-- part and the heap, and the heap mark, as the meaning has them. This is a state before the next call (`CallsFollow`)
pub record GivesBack (code addresses : List ℕ) (unit : TextUnit) (target : Target) (sp trash : ℕ) (s : State) (q : CpuState) (m : ℕ) (answer : Option ℕ) : Type 0 where
  pub steps : ℕ
  pub few : steps ≤ 64 * m
  pub ended : (machine_of target code trash).status (iter (machine_of target code trash).step steps (run_of q)) ≡ Ended 0
  pub out : (iter (machine_of target code trash).step steps (run_of q)).out ≡ (iter (meaning_of unit addresses).step m (mean.run_at s [])).out
  pub as_meant : EndsAsMeant target sp q (iter (meaning_of unit addresses).step m (mean.run_at s [])) (iter (machine_of target code trash).step steps (run_of q))
  pub returned : HasReturned target sp q answer (iter (machine_of target code trash).step steps (run_of q)).state

-- wherever code agrees with the meaning, a call of it gives back what the meaning's call returns
abbrev pub CallsReturn : Type 0
CallsReturn =
    (code addresses : List ℕ) (unit : TextUnit) (target : Target) (sp trash : ℕ) (s : State) (q : CpuState) → AgreesAs code addresses unit target sp trash s q
    → (m : ℕ) (answer : Option ℕ) → mean.ending_of (iter (meaning_of unit addresses).step m (mean.run_at s [])) ≡ Some (Left answer)
    → GivesBack code addresses unit target sp trash s q m answer
