-- Instructions that only compute: each writes a word that it makes of registers into a register, and the next one follows.
use Rattle.std.specs.Prelude.{◌≡◌, ℕ, ◌+◌, ◌*◌, ◌≤◌, Bool, true, false, List, [], ◌∷◌, length}
use Rattle.lg_base.specs.Fields.{word_of}
use Rattle.lg_base.specs.Layout.{code_base, most_code}
use Rattle.lg_base.specs.Runs.{Running}
use Rattle.lg_base.specs.Words.{sign_32}
use Rattle.lg_rv.specs.declared.instruction.Instr.{Instr}
use Rattle.lg_rv.specs.declared.instruction.Instr.TheVariants.{Upper, Imm, Shift, Reg}
use Rattle.lg_rv.specs.declared.instruction.UpperOp.TheVariants.{Lui}
use Rattle.lg_rv.specs.declared.instruction.ImmOp.{ImmOp}
use Rattle.lg_rv.specs.declared.instruction.ImmOp.TheVariants.{Addi, Slti, Sltiu, Xori, Ori, Andi, Addiw}
use Rattle.lg_rv.specs.declared.instruction.RegOp.TheVariants.{Add, Slt, Sltu, Xor, Or, And, Addw}
use Rattle.lg_cpu.specs.Steps.{Run, status_of}
use Rattle.lg_cpu.specs.HostSteps.{put}
use Rattle.lg_cpu.specs.RvOperators.{reg_value, shift_value}
use Rattle.lg_cpu.specs.States.{CpuState}
use Rattle.lg_cpu.specs.RvStep.{read}
use Rattle.lg_carry.specs.Blocks.{done, GoesThrough}
use Rattle.lg_carry.specs.Values.Computers as computer
use Rattle.lg_selr_values.specs.Processor.RvRows.{rv_does, rv_above}

-- the rows with a number that load nothing and do not jump
abbrev pub imm_computes : ImmOp → Bool
imm_computes Addi = true
imm_computes Slti = true
imm_computes Sltiu = true
imm_computes Xori = true
imm_computes Ori = true
imm_computes Andi = true
imm_computes Addiw = true
imm_computes op = false

-- what they make of a word and the number
abbrev pub imm_value : ImmOp → ℕ → ℕ → ℕ
imm_value Addi a n = reg_value Add a n
imm_value Slti a n = reg_value Slt a n
imm_value Sltiu a n = reg_value Sltu a n
imm_value Xori a n = reg_value Xor a n
imm_value Ori a n = reg_value Or a n
imm_value Andi a n = reg_value And a n
imm_value Addiw a n = reg_value Addw a n
imm_value op a n = 0

-- all but `auipc`, jumps, branches, loads and stores
abbrev pub computes : Instr → Bool
computes (Upper Lui rd imm) = true
computes (Imm op rd rs1 imm) = imm_computes op
computes (Shift op rd rs1 amount) = true
computes (Reg op rd rs1 rs2) = true
computes i = false

abbrev pub all_compute : List Instr → Bool
all_compute is = computer.all_compute computes is

-- what one makes of the registers
abbrev pub computed_by : Instr → (ℕ → ℕ) → ℕ → ℕ
computed_by (Upper op rd imm) w = put w rd (sign_32 (imm * 4096))
computed_by (Imm op rd rs1 imm) w = put w rd (imm_value op (read w rs1) (word_of imm))
computed_by (Shift op rd rs1 amount) w = put w rd (shift_value op (read w rs1) amount)
computed_by (Reg op rd rs1 rs2) w = put w rd (reg_value op (read w rs1) (read w rs2))
computed_by i w = w

-- and what a list of them makes, one after the other
abbrev pub computed : List Instr → (ℕ → ℕ) → ℕ → ℕ
computed [] w = w
computed (i ∷ is) w = computed is (computed_by i w)

-- a list of them goes through from a run, and leaves its registers so; all else stays, and the program counter is after them
pub record RunsComputations (is : List Instr) (q : Run CpuState) : Type 0 where
  pub through : GoesThrough rv_does (λ (r : Run CpuState). status_of r.progress) rv_above is q
  pub runs : status_of (done rv_does is q).progress ≡ Running
  pub behind : (done rv_does is q).state.pc ≡ q.state.pc + 4 * length is
  pub registers : (r : ℕ) → (done rv_does is q).state.registers r ≡ computed is q.state.registers r
  pub bytes : (a : ℕ) → (done rv_does is q).state.bytes a ≡ q.state.bytes a
  pub mark : (done rv_does is q).state.mark ≡ q.state.mark
  pub out : (done rv_does is q).out ≡ q.out

abbrev pub ComputationsRun : Type 0
ComputationsRun =
    (is : List Instr) (q : Run CpuState) → all_compute is ≡ true → status_of q.progress ≡ Running → code_base ≤ q.state.pc
    → q.state.pc + 4 * length is ≤ code_base + most_code → RunsComputations is q
