-- The portable state.
use Rattle.std.specs.Prelude.{ℕ, ◌-◌, Bool, false, ◌||◌, Option, Some, None, List, [], ◌∷◌, slice_index}
use Rattle.lg_base.specs.HostNames.{host_address}
use Rattle.lg_op.specs.Operands.{number_of}
use Rattle.lg_op.specs.declared.operand.Reg.{Reg}
use Rattle.lg_op.specs.declared.operand.Reg.TheVariants.{R0, R1, R2, V0, V1, V2, Fp}
use Rattle.lg_op.specs.declared.operand.Operand.{Operand}
use Rattle.lg_op.specs.declared.operand.Operand.TheVariants as operand
use Rattle.lg_cells.specs.Cells.{within}
use Rattle.lg_op.specs.declared.carry.Carry.{Carry}

-- a frame: the stack pointer at its call, the node of return, the arguments, the caller's registers, and the sizes of the frame and of
-- its locals, which its `prolog` gives
pub record Frame : Type 0 where
  pub sp : ℕ
  pub back : ℕ
  pub args : List ℕ
  pub saved : ℕ → Option ℕ
  pub size : ℕ
  pub locals : ℕ

-- the node that comes next; the words of R0, R1, R2, V0, V1 and V2, by the numbers 0 to 5, where they are defined; the carry; the
-- result, where the last step was a return or a host call that gave one; the arguments that are pushed, and, where a call is being prepared, whether
-- `ellipsis` came since the `prepare`; the running frame and those of its callers, the last one first; the bytes that were written; the first address of the
-- heap that is not allocated; and the sizes of the data part and of the argument part
pub record State : Type 0 where
  pub at : ℕ
  pub regs : ℕ → Option ℕ
  pub carry : Carry
  pub answer : Option ℕ
  pub pushed : List ℕ
  pub variadic : Option Bool
  pub frame : Frame
  pub callers : List Frame
  pub mem : ℕ → Option ℕ
  pub mark : ℕ
  pub data_size : ℕ
  pub args_size : ℕ

-- what a register holds; the frame pointer stands 16 bytes below the stack pointer at the call
abbrev pub reg : State → Reg → Option ℕ
reg s Fp = Some (s.frame.sp - 16)
reg s R0 = s.regs 0
reg s R1 = s.regs 1
reg s R2 = s.regs 2
reg s V0 = s.regs 3
reg s V1 = s.regs 4
reg s V2 = s.regs 5

-- the word that an operand gives, with these addresses of labels
abbrev pub value : List ℕ → State → Operand → Option ℕ
value addresses s (operand.Reg r) = reg s r
value addresses s (operand.Number n) = Some n
value addresses s (operand.Label l) = Some (slice_index addresses l.0)
value addresses s (operand.Host name) = Some (host_address name)
value addresses s (operand.Slot k) = None

-- the number of the register that an operand names
abbrev pub named : Operand → ℕ
named (operand.Reg r) = number_of r
named x = 6

-- the locals of a frame lie below its frame pointer and the 128 bytes of its saved words
abbrev pub in_locals : Frame → ℕ → Bool
in_locals f a = within (f.sp - 144 - f.locals) f.locals a

abbrev pub in_any_locals : List Frame → ℕ → Bool
in_any_locals [] a = false
in_any_locals (f ∷ fs) a = in_locals f a || in_any_locals fs a

-- whether an address is one of the data, the arguments, the heap below the mark, or the locals of one of the frames
abbrev pub is_part : ℕ → ℕ → ℕ → List Frame → ℕ → Bool
is_part d g mark frames a = within 0x20000000 d a || (within 0x28000000 g a || (within 0x30000000 (mark - 0x30000000) a || in_any_locals frames a))

abbrev pub is_open : State → ℕ → Bool
is_open s a = is_part s.data_size s.args_size s.mark (s.frame ∷ s.callers) a
