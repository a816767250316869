-- A call of a function from outside of the code, by the convention of the target.
use Rattle.std.specs.Prelude.{ℕ, suc, List, [], ◌∷◌, length, Option, Some, None, ⊤, ◌<◌, if◌then◌else◌}
use Rattle.lg_base.specs.Conventions.{argument_register, argument_word, link_register, stack_register}
use Rattle.lg_base.specs.Layout.{return_word, stop_address, stack_argument}
use Rattle.lg_base.specs.Spaces.{mapped, stored}
use Rattle.lg_base.specs.declared.target.Target.{Target}
use Rattle.lg_cpu.specs.Answers.{answer_of}
use Rattle.lg_cpu.specs.Machines.{Shown, with_register, with_bytes}
use Rattle.lg_cpu.specs.States.{CpuState}
use Rattle.lg_cpu.specs.Steps.{arrived}
use Rattle.lg_cpu.specs.Targets.{register_count}
use Rattle.lg_va.specs.Calls.{calling_stack}

-- the number is that of a register of the target
abbrev pub IsRegister : Target → Option ℕ → Type 0
IsRegister target None = ⊤
IsRegister target (Some r) = r < register_count target

-- a word is stored, where there is memory for it
abbrev pub put_word : CpuState → (address value : ℕ) → CpuState
put_word q address value = if mapped q.bytes address 8 then with_bytes q (stored q.bytes address 8 value) else q

-- it is put into a register, or where there is none into the memory
abbrev pub put_in : Option ℕ → CpuState → (address value : ℕ) → CpuState
put_in (Some r) q address value = with_register q r value
put_in None q address value = put_word q address value

-- argument i of a call with this stack pointer
abbrev pub put_argument : Target → (stack i word : ℕ) → CpuState → CpuState
put_argument target stack i word q = put_in (argument_register target i) q (stack_argument stack (argument_word target i)) word

-- the arguments from number i on
unfoldable pub put_arguments : Target → (stack i : ℕ) → List ℕ → CpuState → CpuState
put_arguments target stack i [] q = q
put_arguments target stack i (word ∷ words) q = put_arguments target stack (suc i) words (put_argument target stack i word q)

-- the stop address is the return address: in the link, or on x86-64 below the arguments on the stack
abbrev pub put_return : Target → (stack : ℕ) → CpuState → CpuState
put_return target stack q = put_in (link_register target) q (return_word stack) stop_address

-- the stack pointer at the first instruction of the function
abbrev pub entry_pointer : Option ℕ → ℕ → ℕ
entry_pointer (Some link) stack = stack
entry_pointer None stack = return_word stack

-- the words, the return address and the stack pointer are where they belong
abbrev pub prepared : Target → (stack : ℕ) → List ℕ → CpuState → CpuState
prepared target stack words q =
    with_register (put_return target stack (put_arguments target stack 0 words q)) (stack_register target) (entry_pointer (link_register target) stack)

-- before the first instruction of a function at an address that is called with these words; everything else is as it was
abbrev pub called : Target → (stack address : ℕ) → List ℕ → CpuState → CpuState
called target stack address words q = record (prepared target stack words q) { pc = address }

abbrev pub entered : Target → (address : ℕ) → List ℕ → CpuState → CpuState
entered target address words q = called target (calling_stack (length words)) address words q

-- what is seen of the processor then: its run goes on, but at the stop address
abbrev pub entered_shown : Shown → (address : ℕ) → List ℕ → Shown
entered_shown s address words = record s { state = entered s.target address words s.state; answer = answer_of (arrived address) }
