-- Steps at the entries of host functions: the arguments that a call finds, its outcome, and the registers after it.
use Rattle.std.specs.Prelude.{ℕ, zero, suc, ◌-◌, ◌==◌, ◌&&◌, not, true, nat_lt, List, [], ◌∷◌, ◌++◌, length, map, Option, Some, None, if◌then◌else◌}
use Rattle.lg_base.specs.Words.{add_words}
use Rattle.lg_base.specs.Spaces.{loaded, readable}
use Rattle.lg_base.specs.Conventions.{argument_registers, result_register, is_kept}
use Rattle.lg_base.specs.declared.fault.FaultKind.TheVariants.{Host}
use Rattle.lg_base.specs.declared.flags.Flags.{Flags}
use Rattle.lg_base.specs.declared.host_name.HostName.{HostName}
use Rattle.lg_base.specs.declared.target.Target.{Target}
use Rattle.lg_host.specs.Blocks.{over}
use Rattle.lg_host.specs.Host.{memory, host_of}
use Rattle.lg_host.specs.Host.{Host as Answer}
use Rattle.lg_host.specs.Host.{Gives, Exits, Undefined}
use Rattle.lg_cpu.specs.States.{CpuState}
use Rattle.lg_cpu.specs.Steps.{Effect, EndedWith, arrived, faults}

-- a word, where it can be read, and further ones
abbrev pub read_before : Option ℕ → List ℕ → List ℕ
read_before None more = []
read_before (Some word) more = word ∷ more

-- the words from an address on, at most this many and none after one that can't be read
unfoldable pub stack_words : (ℕ → Option ℕ) → ℕ → ℕ → List ℕ
stack_words bytes address zero = []
stack_words bytes address (suc more) = read_before (loaded bytes address 8) (stack_words bytes (add_words address 8) more)

-- the arguments of a call are 16 words, the first of which lie in registers and the others in stack words from an
-- address on; where a stack word can't be read they are the words before it
abbrev pub argument_words : Target → (ℕ → ℕ) → (ℕ → Option ℕ) → ℕ → List ℕ
argument_words target registers bytes stack =
    map registers (argument_registers target) ++ stack_words bytes stack (16 - length (argument_registers target))

-- registers by their numbers, with one changed
abbrev pub put : (ℕ → ℕ) → ℕ → ℕ → ℕ → ℕ
put registers to value r = if r == to then value else registers r

-- the trash word in each of the first n registers that a call does not keep
abbrev pub clobbered : Target → ℕ → (ℕ → ℕ) → ℕ → ℕ → ℕ
clobbered target n registers trash r = if nat_lt r n && not (is_kept target r) then trash else registers r

-- after a call the result register has the answer, and every other of the n registers that a call does not keep the
-- trash word
abbrev pub after_call : Target → ℕ → (ℕ → ℕ) → ℕ → ℕ → ℕ → ℕ
after_call target n registers trash answer = put (clobbered target n registers trash) (result_register target) answer

-- those of a state, with stack words from an address on
abbrev pub arguments_of : Target → ℕ → CpuState → List ℕ
arguments_of target stack q = argument_words target q.registers q.bytes stack

-- the outcome of the function of an entry, whose stack arguments lie from an address on
abbrev pub answer_at : Target → HostName → ℕ → CpuState → Answer
answer_at target name stack q = host_of name (arguments_of target stack q) true (memory q.bytes (readable q.bytes) q.mark)

-- after it: where it answers, control returns to an address, and the registers, by the answer, and the flags are these
abbrev pub returned : Answer → ℕ → (ℕ → ℕ → ℕ) → Flags → CpuState → Effect CpuState
returned (Gives value changes mark bytes) back registers flags q =
    record {
      to = record { pc = back; registers = registers value; flags = flags; bytes = over changes q.bytes; mark = mark };
      progress = arrived back;
      written = bytes;
    }
returned (Exits status) back registers flags q = record { to = q; progress = EndedWith status; written = [] }
returned Undefined back registers flags q = faults q Host
