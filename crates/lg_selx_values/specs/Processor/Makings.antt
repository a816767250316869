-- What instructions after each of which the next one follows make of registers, flags and memory.
use Rattle.lg_x86.specs.declared.instruction.BareOp.TheVariants.{Ret}
use Rattle.lg_x86.specs.declared.instruction.JumpRegOp.TheVariants.{Callr}
use Rattle.lg_x86.specs.declared.instruction.JumpNearOp.TheVariants.{Call32}
use Rattle.lg_x86.specs.declared.instruction.LoadOp.TheVariants.{Lea}
use Rattle.lg_x86.specs.declared.instruction.Instr.TheVariants.{Load, Store, Stack, JumpNear, JumpReg, Bare}
use Rattle.lg_base.specs.declared.target.Target.TheVariants.{X86_64}
use Rattle.lg_carry.specs.Processors.{IsOff, is_below}
use Rattle.lg_selx_values.specs.Processor.X86Touched.{touched}
use Rattle.std.specs.Prelude.{◌≡◌, ◌+◌, ◌<◌, ◌≤◌, Bool, true, false, ⊤, List, [], ◌∷◌, length, Option, Some}
use Rattle.std.specs.Option.{option_and_then}
use Rattle.lg_base.specs.Layout.{code_base, most_code}
use Rattle.lg_base.specs.Runs.{Running}
use Rattle.lg_x86.specs.Spelling.{spelling}
use Rattle.lg_x86.specs.declared.instruction.Instr.{Instr}
use Rattle.lg_cpu.specs.States.{CpuState}
use Rattle.lg_cpu.specs.Steps.{Run, status_of}
use Rattle.lg_cpu.specs.X86Step.{Scene, scene_of, made}
use Rattle.lg_carry.specs.Blocks.{spellings, done, GoesThrough}
use Rattle.lg_selx_values.specs.Processor.X86Rows.{x86_does, x86_above}

-- one after the other, None where one faults or jumps
abbrev pub makes : List Instr → Scene → Option Scene
makes [] s = Some s
makes (i ∷ is) s = option_and_then (makes is) (made i s)

-- none of them touches anything below the stack pointer and its zone
abbrev pub AreAbove : List Instr → Scene → Type 0
AreAbove [] s = ⊤
AreAbove (i ∷ is) s = IsOff (is_below X86_64 (s.registers 4)) (touched i s.registers) × ((t : Scene) → made i s ≡ Some t → AreAbove is t)

-- one that touches nothing
abbrev pub is_still : Instr → Bool
is_still (Load Lea reg base disp) = true
is_still (Load op reg base disp) = false
is_still (Store op base disp reg) = false
is_still (Stack op reg) = false
is_still (JumpNear Call32 distance) = false
is_still (JumpReg Callr rm) = false
is_still (Bare Ret) = false
is_still i = true

-- where they make a scene of that of a run, they go through and leave it; the program counter is after them, and all else stays
pub record RunsMakings (is : List Instr) (q : Run CpuState) (t : Scene) : Type 0 where
  pub through : GoesThrough x86_does (λ (r : Run CpuState). status_of r.progress) x86_above is q
  pub runs : status_of (done x86_does is q).progress ≡ Running
  pub behind : (done x86_does is q).state.pc ≡ q.state.pc + length (spellings spelling is)
  pub scene : scene_of (done x86_does is q).state ≡ t
  pub mark : (done x86_does is q).state.mark ≡ q.state.mark
  pub out : (done x86_does is q).out ≡ q.out

abbrev pub MakingsRun : Type 0
MakingsRun =
    (is : List Instr) (q : Run CpuState) (t : Scene) → makes is (scene_of q.state) ≡ Some t → AreAbove is (scene_of q.state) → status_of q.progress ≡ Running
    → code_base ≤ q.state.pc → (0 < length is → q.state.pc + length (spellings spelling is) ≤ code_base + most_code) → RunsMakings is q t
