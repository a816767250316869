-- A processor that is called by the convention of its target, whatever else it holds, and what its run then is.
use Rattle.std.specs.Prelude.{◌≡◌, ◌≢◌, ℕ, ◌^◌, ◌<◌, ◌≤◌, Bool, true, List, [], ◌∷◌, Option, Some, length, is_some, ◌⊎◌}
use Rattle.lg_base.specs.Arguments.{most_args, argument_count}
use Rattle.lg_base.specs.Conventions.{is_kept, stack_register, link_register}
use Rattle.lg_base.specs.Layout.{code_base, stack_end, stop_address}
use Rattle.lg_base.specs.Parts.{data_base, args_base, heap_base, stack_base}
use Rattle.lg_base.specs.declared.target.Target.{Target}
use Rattle.lg_cells.specs.Cells.{within}
use Rattle.lg_cells.specs.Memories.{first_bytes}
use Rattle.lg_cpu.specs.Laws.{AreBytes}
use Rattle.lg_cpu.specs.States.{CpuState}
use Rattle.lg_cpu.specs.Steps.{Run, Goes}
use Rattle.lg_cpu.specs.Targets.{machine_of, start_of}
use Rattle.lg_carry.specs.Agreement.{meaning_of, HasItsMemory}
use Rattle.lg_carry.specs.Disturbed.{IsDisturber, disturbed}
use Rattle.lg_carry.specs.Entries.{entry_at}
use Rattle.lg_carry.specs.FinalNodes.{Code}
use Rattle.lg_carry.specs.Frames.{arriving, IsLinked}
use Rattle.lg_carry.specs.Registers.{HoldsResult, HoldsArguments}
use Rattle.lg_carry.specs.Stands.{HasParts, Stands}
use Rattle.lg_meaning.specs.Means as mean
use Rattle.lg_meaning.specs.Starts.{IsEntryStack, start_state_at}
use Rattle.lg_meaning.specs.States.{Frame, State}
use Rattle.lg_meaning.specs.Steps.{Left, Exited}
use Rattle.lg_node.specs.Shapes.{TextShape, IsShapeOf}
use Rattle.lg_node.specs.declared.unit.Unit.{Unit as TextUnit}
use Rattle.lg_asm.specs.Targets.{processor_of}
use Rattle.lg_temp.specs.Agrees.{AgreesAt}
use Rattle.lg_temp.specs.Paces.{KeepsPace, EndsAlike}
use Rattle.lg_asm.specs.Assembled.{Assembled, IsCode, ComesFrom, MayStart}
use Rattle.lg_base.specs.HostNames.{host_by_address}
use Rattle.lg_base.specs.declared.host_name.HostName.{HostName}
use Rattle.lg_base.specs.Runs.{Machine, Ended, Bad, iter}

-- a memory has the bytes of a data part and of an argument part where they belong, and no others between the data and the heap; heap and stack are there, with
-- any bytes
pub record IsMapped (image args : List ℕ) (bytes : ℕ → Option ℕ) : Type 0 where
  pub small : (a b : ℕ) → bytes a ≡ Some b → b < 256
  pub parts : (a : ℕ) → data_base ≤ a → a < heap_base → bytes a ≡ first_bytes image args a
  pub heap : (a : ℕ) → within heap_base 0x400000 a ≡ true → is_some (bytes a) ≡ true
  pub stack : (a : ℕ) → within stack_base 0x100000 a ≡ true → is_some (bytes a) ≡ true

-- a processor is at the first byte of the code, as the target's calling convention has it for a function that is called with this stack pointer: the stack
-- pointer, the return address, which is the stop address, and the two arguments are where they belong. Every other register, the flags, and the bytes of heap
-- and stack may be any
pub record IsCalled (target : Target) (image args : List ℕ) (sp : ℕ) (q : CpuState) : Type 0 where
  pub entry : IsEntryStack sp
  pub here : q.pc ≡ code_base
  pub words : (r : ℕ) → q.registers r < 2 ^ 64
  pub stack : q.registers (stack_register target) ≡ arriving (link_register target) sp
  pub link : IsLinked (link_register target) q.bytes q.registers sp stop_address
  pub arguments : HoldsArguments target q.registers (argument_count args ∷ args_base ∷ [])
  pub memory : IsMapped image args q.bytes
  pub mark : q.mark ≡ heap_base

-- its run before the first step
abbrev pub run_of : CpuState → Run CpuState
run_of q = record { state = q; progress = Goes; out = [] }

-- the start of a run is one such state, with the end of the stack as stack pointer
abbrev pub StartsAreCalled : Type 0
StartsAreCalled = (target : Target) (image args : List ℕ) (trash : ℕ) → MayStart image args trash → IsCalled target image args stack_end (start_of target image args trash)

-- a processor that is called corresponds to the portable meaning at its start, whatever is live, with what its registers hold to be kept
abbrev pub CalledStand : Type 0
CalledStand =
    (target : Target) (c : Code) (code image args : List ℕ) (sp trash : ℕ) (live : Frame → ℕ → Bool) (S : ℕ → Bool) (q : CpuState)
    → MayStart image args trash
    → IsShapeOf c.nodes c.shape
    → c.place 0 ≡ code_base → c.outward (entry_at c.nodes 0) ≡ true → q.registers ≡ c.outer → IsCalled target image args sp q
    → Stands (processor_of target code trash) c live (start_state_at sp image args) [] (run_of q) S

-- after a return to the caller: control is at the return address, the stack pointer is that of the call, every other callee-saved register of the convention
-- is as it was, and the result, where there is one, is in its register
pub record HasReturned (target : Target) (sp : ℕ) (q : CpuState) (answer : Option ℕ) (u : CpuState) : Type 0 where
  pub here : u.pc ≡ stop_address
  pub stack : u.registers (stack_register target) ≡ sp
  pub kept : (r : ℕ) → is_kept target r ≡ true → r ≢ stack_register target → u.registers r ≡ q.registers r
  pub result : HoldsResult target u.registers answer

-- a state has the memory of the meaning's, and nothing else between the data and the heap; where the meaning has returned with a result, so has the code, and
-- where a host function has ended it, control is at the entry of one
pub record EndsAsMeant (target : Target) (sp : ℕ) (q : CpuState) (r : mean.Run) (p : Run CpuState) : Type 0 where
  pub memory : HasItsMemory r p
  pub parts : HasParts r.state p.state.bytes
  pub returned : (answer : Option ℕ) → mean.ending_of r ≡ Some (Left answer) → HasReturned target sp q answer p.state
  pub exited : (status : ℕ) → mean.ending_of r ≡ Some (Exited status) → (name : HostName) × (host_by_address p.state.pc ≡ Some name)

-- so the processor recognizes a return: where the run has ended and control is at the stop address, the meaning has returned too after some number of steps,
-- or it has become undefined
abbrev pub ReturnsAsMeant : Machine mean.Run → Machine (Run CpuState) → Target → ℕ → CpuState → mean.Run → Type 0
ReturnsAsMeant meaning processor target sp q r =
    (n status : ℕ) → processor.status (iter processor.step n (run_of q)) ≡ Ended status → (iter processor.step n (run_of q)).state.pc ≡ stop_address
    → (k : ℕ) × (((answer : Option ℕ) × (mean.ending_of (iter meaning.step k r) ≡ Some (Left answer)) × HasReturned target sp q answer (iter processor.step n (run_of q)).state)
    ⊎ (meaning.status (iter meaning.step k r) ≡ Bad))

-- the meaning of a unit before its first step, where it is called with this stack pointer
abbrev pub meaning_called : TextUnit → ℕ → List ℕ → mean.Run
meaning_called unit sp args = mean.run_at (start_state_at sp unit.image args) []

-- the run of the code from a state of the processor agrees with the portable meaning over these addresses of the labels from a portable state, keeps pace with it,
-- with its memory, and ends with its memory and its result, as a function of the convention does that is called with this stack pointer; and so it writes and ends
-- whatever changes below the stack pointer and its zone after any instruction
pub record AgreesAs (code addresses : List ℕ) (unit : TextUnit) (target : Target) (sp trash : ℕ) (s : State) (q : CpuState) : Type 0 where
  pub runs : (n : ℕ) → AgreesAt (meaning_of unit addresses) (machine_of target code trash) (length unit.nodes.nodes) (mean.run_at s []) (run_of q) n
  pub paces : KeepsPace (meaning_of unit addresses) (machine_of target code trash) HasItsMemory (mean.run_at s []) (run_of q)
  pub ends : EndsAlike (meaning_of unit addresses) (machine_of target code trash) (EndsAsMeant target sp q) (mean.run_at s []) (run_of q)
  pub returns : ReturnsAsMeant (meaning_of unit addresses) (machine_of target code trash) target sp q (mean.run_at s [])
  pub withstands : (n : ℕ) (d : ℕ → Run CpuState → Run CpuState) → IsDisturber (processor_of target code trash) d
      → AgreesAt (meaning_of unit addresses) (disturbed (processor_of target code trash) d).machine (length unit.nodes.nodes) (mean.run_at s []) (run_of q, 0) n

-- from the start of the unit's meaning, where it is called with this stack pointer
abbrev pub AgreesFrom : (code addresses : List ℕ) → TextUnit → Target → (args : List ℕ) → (sp trash : ℕ) → CpuState → Type 0
AgreesFrom code addresses unit target args sp trash q = AgreesAs code addresses unit target sp trash (start_state_at sp unit.image args) q

-- code that is called by the convention agrees with the portable meaning, from every such state; host functions leave any one word in caller-saved registers
abbrev pub CalledCodeAgrees : Type 0
CalledCodeAgrees =
    (c : Assembled) (unit : TextUnit) (shape : TextShape) → IsCode c → ComesFrom unit.nodes shape c → AreBytes unit.image → length unit.image ≤ 0x1000000
    → (args : List ℕ) (sp trash : ℕ) (q : CpuState) → AreBytes args → length args ≤ most_args → trash < 2 ^ 64 → IsCalled c.target unit.image args sp q
    → AgreesFrom c.bytes c.labels unit c.target args sp trash q
