-- The targets: their processors, as the laws of agreement see them, and what is said of their code.
use Rattle.std.specs.Prelude.{ℕ, Bool, List}
use Rattle.lg_base.specs.Flags.{negative_flag, zero_flag, carry_flag, overflow_flag}
use Rattle.lg_base.specs.declared.flags.Flags.{Flags}
use Rattle.lg_base.specs.declared.flags.Flags.TheVariants.{NoFlags, Nzcv}
use Rattle.lg_base.specs.declared.target.Target.{Target}
use Rattle.lg_base.specs.declared.target.Target.TheVariants.{X86_64, Aarch64, Riscv64}
use Rattle.lg_buf.specs.Buffers.{Buffer}
use Rattle.lg_carry.specs.Processors.{Seen, Span, Processor}
use Rattle.lg_cpu.specs.States.{CpuState}
use Rattle.lg_cpu.specs.Steps.{Run}
use Rattle.lg_cpu.specs.Targets.{machine_of}
use Rattle.lg_op.specs.declared.node.Node.{Node}
use Rattle.lg_op.specs.declared.op.Op.{Op}
use Rattle.lg_op.specs.declared.operand.Reg.{Reg}
use Rattle.lg_asm.specs.NodeChoices.{needs_on}
use Rattle.lg_sel.specs.Chosen.{HasCode}
use Rattle.lg_sel.specs.Shorts as shorts
use Rattle.lg_sel.specs.TargetCodes.{TargetCode}
use Rattle.lg_sel.specs.declared.reach.Reach.{Reach}
use Rattle.lg_sela.specs.Code.{a64_code}
use Rattle.lg_sela_values.specs.Processor.A64Touched as a64
use Rattle.lg_selr.specs.Code.{rv_code}
use Rattle.lg_selr_values.specs.Processor.RvTouched as rv
use Rattle.lg_selx.specs.Code.{x86_code}
use Rattle.lg_selx_values.specs.Processor.X86Touched as x86
use Rattle.lg_temp.specs.declared.choice.Need.{Need}

-- the flags that a target has: RV64 has none, and those of AArch64 are always defined
abbrev pub flags_on : Target → Flags → Flags
flags_on Riscv64 flags = NoFlags
flags_on Aarch64 flags = Nzcv (negative_flag flags) (zero_flag flags) (carry_flag flags) (overflow_flag flags)
flags_on X86_64 flags = flags

abbrev pub seen_on : Target → Run CpuState → Seen
seen_on target r = record { pc = r.state.pc; registers = r.state.registers; bytes = r.state.bytes; mark = r.state.mark; flags = flags_on target r.state.flags }

-- the bytes that what is at an address of the code loads or stores
abbrev pub touches_on : Target → List ℕ → ℕ → (ℕ → ℕ) → Span
touches_on X86_64 code = x86.touched_at code
touches_on Aarch64 code = a64.touched_at code
touches_on Riscv64 code = rv.touched_at code

-- the processor of a target that runs this code, with the word that registers hold which nothing has set
abbrev pub processor_of : Target → List ℕ → ℕ → Processor (Run CpuState)
processor_of target code trash = record { target = target; machine = machine_of target code trash; seen = seen_on target; touches = touches_on target code }

-- what each target says of its code
abbrev pub own_code : Target → TargetCode
own_code X86_64 = x86_code
own_code Aarch64 = a64_code
own_code Riscv64 = rv_code

abbrev pub code_on : Target → TargetCode
code_on target = record (own_code target) { target = target; processor = processor_of target }

-- bytes are whole instructions of a target
abbrev pub AreInstructions : Target → List ℕ → Type 0
AreInstructions target bytes = (own_code target).are_instructions bytes

-- and at most this many of these store
abbrev pub StoreAtMost : Target → ℕ → List ℕ → Type 0
StoreAtMost target most bytes = (own_code target).store_at_most most bytes

-- bytes that begin at a place have the shortest form of a node with this operation back to a goal
abbrev pub IsShort : Target → Op → ℕ → ℕ → List ℕ → Type 0
IsShort target o goal place bytes = shorts.IsShort (code_on target) o goal place bytes

-- and the form ahead with a reach
abbrev pub IsAhead : Target → Reach → Op → ℕ → List ℕ → Type 0
IsAhead target reach o place bytes = shorts.IsAhead (code_on target) reach o place bytes

-- what is said of a node's code in a target's own words holds in those of the table
abbrev pub IsInTable : TargetCode → (Op → List Need) → Type 0
IsInTable T needs =
    (n : Node) (frame homes saved : ℕ) (live : Reg → Bool) (staged : List Bool) (old new : Buffer) → HasCode T (needs n.op) n frame homes saved live staged old new
    → HasCode (code_on T.target) (needs_on T.target n.op) n frame homes saved live staged old new
