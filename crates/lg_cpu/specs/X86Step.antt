-- The x86-64 processor: what a step of it does, whatever the bytes are (Intel 64 and IA-32 Architectures Software Developer's Manual, volume 2).
use Rattle.std.specs.Prelude.{ℕ, ◌+◌, ◌-◌, ◌*◌, ◌/◌, ◌%◌, ◌==◌, Bool, true, nat_le, nat_lt, List, drop, Option, Some, None, if◌then◌else◌}
use Rattle.lg_base.specs.Fields.{word_of}
use Rattle.lg_base.specs.Words.{add_words, sub_words, mul_words, negated, complement, high_product, high_product_signed}
use Rattle.lg_base.specs.Wide.{sign_part_of, swapped, quotient_wide, quotient_wide_signed}
use Rattle.lg_base.specs.Spaces.{mapped, loaded, stored}
use Rattle.lg_base.specs.Parts.{args_base}
use Rattle.lg_base.specs.Layout.{stop_address, code_base, stack_end, return_word}
use Rattle.lg_base.specs.HostNames.{host_by_address}
use Rattle.lg_base.specs.Flags.{carry_of}
use Rattle.lg_base.specs.declared.flags.Flags.{Flags}
use Rattle.lg_base.specs.declared.target.Target.TheVariants as target
use Rattle.lg_base.specs.declared.fault.FaultKind.{FaultKind}
use Rattle.lg_base.specs.declared.fault.FaultKind.TheVariants.{Fetch, Decode, Memory, Divide, Flag, Host}
use Rattle.lg_base.specs.declared.host_name.HostName.{HostName}
use Rattle.lg_base.specs.declared.host_name.HostName.TheVariants.{Printf}
use Rattle.lg_host.specs.Host.{Host as Answer}
use Rattle.lg_x86.specs.declared.instruction.Instr.{Instr}
use Rattle.lg_x86.specs.declared.instruction.Instr.TheVariants.{RmReg, Imm, RegRm, Load, Store, Lea2, Movi32, Movs32, Movi64, Unary, Shift, Bswap, Stack, JumpIfShort, JumpIfNear, Set, JumpShort, JumpNear, JumpReg, Bare}
use Rattle.lg_x86.specs.declared.instruction.RmRegOp.{RmRegOp}
use Rattle.lg_x86.specs.declared.instruction.LoadOp.{LoadOp}
use Rattle.lg_x86.specs.declared.instruction.LoadOp.TheVariants.{Ld64, Ld32u, Ld32s, Ld8u, Ld16u, Ld8s, Ld16s, Lea}
use Rattle.lg_x86.specs.declared.instruction.StoreOp.{StoreOp}
use Rattle.lg_x86.specs.declared.instruction.StoreOp.TheVariants.{St64, St32, St16, St8}
use Rattle.lg_x86.specs.declared.instruction.UnaryOp.{UnaryOp}
use Rattle.lg_x86.specs.declared.instruction.UnaryOp.TheVariants.{Not, Neg, Mul, Imul1, Div, Idiv, Shl, Shr, Sar}
use Rattle.lg_x86.specs.declared.instruction.ShiftOp.{ShiftOp}
use Rattle.lg_x86.specs.declared.instruction.ShiftOp.TheVariants.{Shli, Shri, Sari}
use Rattle.lg_x86.specs.declared.instruction.StackOp.TheVariants.{Push, Pop}
use Rattle.lg_x86.specs.declared.instruction.JumpNearOp.TheVariants.{Jmp32, Call32}
use Rattle.lg_x86.specs.declared.instruction.JumpRegOp.TheVariants.{Jmpr, Callr}
use Rattle.lg_x86.specs.declared.instruction.BareOp.TheVariants.{Cqo, Ret, Nop}
use Rattle.lg_x86.specs.Reading.{front_of}
use Rattle.lg_cpu.specs.Steps.{Effect, faults}
use Rattle.lg_cpu.specs.States.{CpuState, arrives, goes_on}
use Rattle.lg_cpu.specs.HostSteps.{put, after_call, answer_at, returned}
use Rattle.lg_cpu.specs.Fetches.{in_code}
use Rattle.lg_cpu.specs.X86Operators.{no_flags, bit, carry_for, alu_value, alu_flags, is_kept_by, alu_of, product_flags, sign_word, needs_high, needs_high_signed, reg_rm_value, reg_rm_flags, negation_flags, shift_value, shift_flags, condition_holds}

-- the registers, the flags, and the bytes of the memory by their addresses: what most instructions work on
pub record Scene : Type 0 where
  pub registers : ℕ → ℕ
  pub flags : Flags
  pub bytes : ℕ → Option ℕ

abbrev pub scene_of : CpuState → Scene
scene_of q = record { registers = q.registers; flags = q.flags; bytes = q.bytes }

-- ---- the instructions after which the next one follows: what they make of a scene, None where they fault

abbrev pub with_register : Scene → ℕ → ℕ → Flags → Scene
with_register s to value flags = record { registers = put s.registers to value; flags = flags; bytes = s.bytes }

abbrev pub with_flags : Scene → Flags → Scene
with_flags s flags = record { registers = s.registers; flags = flags; bytes = s.bytes }

abbrev pub sets : Scene → ℕ → ℕ → Flags → Option Scene
sets s to value flags = Some (with_register s to value flags)

-- a register and a word are combined, with a carry
abbrev pub combined_with : RmRegOp → ℕ → ℕ → ℕ → Scene → Scene
combined_with op rm b c s =
    if is_kept_by op
    then with_flags s (alu_flags op s.flags (s.registers rm) b c)
    else with_register s rm (alu_value op (s.registers rm) b c) (alu_flags op s.flags (s.registers rm) b c)

abbrev pub with_carry : RmRegOp → ℕ → ℕ → Scene → Option Bool → Option Scene
with_carry op rm b s None = None
with_carry op rm b s (Some c) = Some (combined_with op rm b (bit c) s)

abbrev pub combined : RmRegOp → ℕ → ℕ → Scene → Option Scene
combined op rm b s = with_carry op rm b s (carry_for op (carry_of s.flags))

-- loads: how many bytes, and what is made of their number
abbrev pub load_width : LoadOp → ℕ
load_width Ld64 = 8
load_width Ld32u = 4
load_width Ld32s = 4
load_width Ld8u = 1
load_width Ld16u = 2
load_width Ld8s = 1
load_width Ld16s = 2
load_width Lea = 0

abbrev pub load_value : LoadOp → ℕ → ℕ
load_value Ld32s v = sign_part_of v 4
load_value Ld8s v = sign_part_of v 1
load_value Ld16s v = sign_part_of v 2
load_value op v = v

abbrev pub sets_loaded : LoadOp → ℕ → Scene → Option ℕ → Option Scene
sets_loaded op reg s None = None
sets_loaded op reg s (Some v) = sets s reg (load_value op v) s.flags

abbrev pub loads : LoadOp → ℕ → ℕ → Scene → Option Scene
loads Lea reg address s = sets s reg address s.flags
loads op reg address s = sets_loaded op reg s (loaded s.bytes address (load_width op))

abbrev pub store_width : StoreOp → ℕ
store_width St64 = 8
store_width St32 = 4
store_width St16 = 2
store_width St8 = 1

-- a store, after which the registers are these
abbrev pub stores : Scene → (ℕ → ℕ) → ℕ → ℕ → ℕ → Option Scene
stores s registers address width value =
    if mapped s.bytes address width then Some (record { registers = registers; flags = s.flags; bytes = stored s.bytes address width value }) else None

-- register 0 is rax, 1 rcx, 2 rdx, 4 rsp
abbrev pub with_wide : Scene → ℕ → ℕ → Flags → Scene
with_wide s high low flags = record { registers = put (put s.registers 0 low) 2 high; flags = flags; bytes = s.bytes }

abbrev pub sets_wide : Scene → ℕ → ℕ → Flags → Option Scene
sets_wide s high low flags = Some (with_wide s high low flags)

abbrev pub sets_quotient : Scene → Option (ℕ × ℕ) → Option Scene
sets_quotient s None = None
sets_quotient s (Some p) = sets_wide s p.1 p.0 no_flags

abbrev pub shifted : ShiftOp → ℕ → ℕ → Scene → Scene
shifted op rm n s = with_register s rm (shift_value op (s.registers rm) n) (shift_flags op s.flags (s.registers rm) n)

abbrev pub one_register : UnaryOp → ℕ → Scene → Option Scene
one_register Not rm s = sets s rm (complement (s.registers rm)) s.flags
one_register Neg rm s = sets s rm (negated (s.registers rm)) (negation_flags (s.registers rm))
one_register Mul rm s = sets_wide s (high_product (s.registers 0) (s.registers rm)) (mul_words (s.registers 0) (s.registers rm))
    (product_flags (needs_high (s.registers 0) (s.registers rm)))
one_register Imul1 rm s = sets_wide s (high_product_signed (s.registers 0) (s.registers rm)) (mul_words (s.registers 0) (s.registers rm))
    (product_flags (needs_high_signed (s.registers 0) (s.registers rm)))
one_register Div rm s = sets_quotient s (quotient_wide (s.registers 2) (s.registers 0) (s.registers rm))
one_register Idiv rm s = sets_quotient s (quotient_wide_signed (s.registers 2) (s.registers 0) (s.registers rm))
one_register Shl rm s = Some (shifted Shli rm (s.registers 1 % 64) s)
one_register Shr rm s = Some (shifted Shri rm (s.registers 1 % 64) s)
one_register Sar rm s = Some (shifted Sari rm (s.registers 1 % 64) s)

-- pop raises rsp and then writes the register
abbrev pub pops : ℕ → Scene → Option ℕ → Option Scene
pops reg s None = None
pops reg s (Some v) = Some (record { registers = put (put s.registers 4 (add_words (s.registers 4) 8)) reg v; flags = s.flags; bytes = s.bytes })

-- the word goes below rsp, which is lowered
abbrev pub pushes : ℕ → Scene → Option Scene
pushes value s = stores s (put s.registers 4 (sub_words (s.registers 4) 8)) (sub_words (s.registers 4) 8) 8 value

-- the low byte of a register becomes 1 or 0
abbrev pub sets_byte : ℕ → Scene → Option Bool → Option Scene
sets_byte rm s None = None
sets_byte rm s (Some b) = sets s rm (s.registers rm / 256 * 256 + bit b) s.flags

abbrev pub made : Instr → Scene → Option Scene
made (RmReg op rm reg) s = combined op rm (s.registers reg) s
made (Imm op rm imm) s = combined (alu_of op) rm (word_of imm) s
made (RegRm op reg rm) s = sets s reg (reg_rm_value op (s.registers reg) (s.registers rm)) (reg_rm_flags op s.flags (s.registers reg) (s.registers rm))
made (Load op reg base disp) s = loads op reg (add_words (s.registers base) (word_of disp)) s
made (Store op base disp reg) s = stores s s.registers (add_words (s.registers base) (word_of disp)) (store_width op) (s.registers reg)
made (Lea2 reg base index) s = sets s reg (add_words (s.registers base) (s.registers index)) s.flags
made (Movi32 reg imm) s = sets s reg imm s.flags
made (Movs32 rm imm) s = sets s rm (word_of imm) s.flags
made (Movi64 reg imm) s = sets s reg imm s.flags
made (Unary op rm) s = one_register op rm s
made (Shift op rm count) s = Some (shifted op rm count s)
made (Bswap reg) s = sets s reg (swapped (s.registers reg) 8) s.flags
made (Stack Push reg) s = pushes (s.registers reg) s
made (Stack Pop reg) s = pops reg s (loaded s.bytes (s.registers 4) 8)
made (Set cond rm) s = sets_byte rm s (condition_holds cond s.flags)
made (Bare Cqo) s = sets s 2 (sign_word (s.registers 0)) s.flags
made (Bare Nop) s = Some s
made i s = None

-- why an instruction faults that does
abbrev pub fault_of : Instr → FaultKind
fault_of (Load op reg base disp) = Memory
fault_of (Store op base disp reg) = Memory
fault_of (Stack op reg) = Memory
fault_of (JumpNear op distance) = Memory
fault_of (JumpReg op rm) = Memory
fault_of (Bare op) = Memory
fault_of (Unary op rm) = Divide
fault_of i = Flag

-- ---- the instructions
-- the run goes on at an address with a scene, or has ended there
abbrev pub goes : ℕ → Scene → ℕ → Effect CpuState
goes pc s mark = arrives pc s.registers s.flags s.bytes mark

-- on to an address with a scene, where there is one
abbrev pub goes_with : CpuState → ℕ → FaultKind → Option Scene → Effect CpuState
goes_with q pc kind None = faults q kind
goes_with q pc kind (Some s) = goes pc s q.mark

-- a jump that depends on a condition
abbrev pub goes_where : CpuState → ℕ → ℕ → Option Bool → Effect CpuState
goes_where q next target None = faults q Flag
goes_where q next target (Some b) = goes_on q (if b then target else next)

-- a return goes to the word at rsp, and raises rsp
abbrev pub returns : CpuState → Option ℕ → Effect CpuState
returns q None = faults q Memory
returns q (Some target) = arrives target (put q.registers 4 (add_words (q.registers 4) 8)) q.flags q.bytes q.mark

-- what an instruction does whose spelling ends at an address
abbrev pub does : Instr → ℕ → CpuState → Effect CpuState
does (JumpIfShort cond distance) next q = goes_where q next (add_words next (word_of distance)) (condition_holds cond q.flags)
does (JumpIfNear cond distance) next q = goes_where q next (add_words next (word_of distance)) (condition_holds cond q.flags)
does (JumpShort distance) next q = goes_on q (add_words next (word_of distance))
does (JumpNear Jmp32 distance) next q = goes_on q (add_words next (word_of distance))
does (JumpNear Call32 distance) next q = goes_with q (add_words next (word_of distance)) Memory (pushes next (scene_of q))
does (JumpReg Jmpr rm) next q = goes_on q (q.registers rm)
does (JumpReg Callr rm) next q = goes_with q (q.registers rm) Memory (pushes next (scene_of q))
does (Bare Ret) next q = returns q (loaded q.bytes (q.registers 4) 8)
does i next q = goes_with q next (fault_of i) (made i (scene_of q))

-- an instruction of this many bytes
abbrev pub act : Instr → ℕ → CpuState → Effect CpuState
act i len q = does i (add_words q.pc len) q

-- ---- fetching
abbrev pub decoded : Option (Instr × ℕ) → CpuState → Effect CpuState
decoded None q = faults q Decode
decoded (Some (i, len)) q = act i len q

abbrev pub fetch : List ℕ → CpuState → Effect CpuState
fetch code q = if in_code code q.pc then decoded (front_of (drop (q.pc - code_base) code)) q else faults q Fetch

-- ---- host functions
-- after a host function that answered this, which has popped the return address
abbrev pub popped : (ℕ → ℕ) → ℕ → ℕ → ℕ → ℕ
popped registers trash answer = put (after_call target.X86_64 16 registers trash answer) 4 (add_words (registers 4) 8)

-- the outcome of a host function; control returns to the word that was at rsp, and rsp rises
abbrev pub host_effect : Answer → ℕ → ℕ → CpuState → Effect CpuState
host_effect answer link trash q = returned answer link (popped q.registers trash) no_flags q

-- at printf al is at most 8
abbrev pub takes_al : HostName → ℕ → Bool
takes_al Printf a = nat_le (a % 256) 8
takes_al name a = true

-- stack arguments lie after the return address
abbrev pub enter_with : HostName → ℕ → CpuState → Option ℕ → Effect CpuState
enter_with name trash q None = faults q Host
enter_with name trash q (Some link) = host_effect (answer_at target.X86_64 name (add_words (q.registers 4) 8) q) link trash q

-- at a host entry rsp + 8 is a multiple of 16
abbrev pub enter_host : HostName → ℕ → CpuState → Effect CpuState
enter_host name trash q =
    if q.registers 4 % 16 == 8
    then (if takes_al name (q.registers 0) then enter_with name trash q (loaded q.bytes (q.registers 4) 8) else faults q Host)
    else faults q Host

-- ---- the step
abbrev pub effect_at : Option HostName → List ℕ → ℕ → CpuState → Effect CpuState
effect_at None code trash q = fetch code q
effect_at (Some name) code trash q = enter_host name trash q

-- what a step does with this code and trash word
abbrev pub effect : List ℕ → ℕ → CpuState → Effect CpuState
effect code trash q = effect_at (host_by_address q.pc) code trash q

-- ---- the start
-- the stack pointer and the two arguments; every other of the 16 registers holds the trash word
abbrev pub start_registers : ℕ → ℕ → ℕ → ℕ
start_registers count trash r =
    if r == 4 then return_word stack_end
    else if r == 7 then count
    else if r == 6 then args_base
    else if nat_lt r 16 then trash
    else 0

-- over the bytes of a memory and a heap mark; the word at the stack pointer is the stop address, and no flag is defined
abbrev pub begins : (count trash : ℕ) → (ℕ → Option ℕ) → ℕ → CpuState
begins count trash bytes mark =
    record {
      pc = code_base;
      registers = start_registers count trash;
      flags = no_flags;
      bytes = stored bytes (return_word stack_end) 8 stop_address;
      mark = mark;
    }
