-- Addresses of the machine that the text is written for, and the frames of its functions.
use Rattle.std.specs.Prelude.{ℕ, ◌+◌, ◌-◌, ◌*◌, ◌/◌}

-- where a run ends: the return address of the first function
abbrev pub stop_address : ℕ
stop_address = 0x0FE00000

-- the first address of code, and the most bytes of it
abbrev pub code_base : ℕ
code_base = 0x10000000

abbrev pub most_code : ℕ
most_code = 0x4000000

-- the address after the stack, which is the first function's stack pointer at its call
abbrev pub stack_end : ℕ
stack_end = 0x40000000

-- the frame of a function whose locals take this many bytes, a multiple of 16
abbrev pub frame_size : ℕ → ℕ
frame_size locals = (272 + locals + 15) / 16 * 16

-- the words of a frame, by the caller's stack pointer at the call: the return address, the caller's
-- frame pointer, at which FP then points, and by FP the saved V0 to V2, the homes of register
-- arguments and the spill slots
abbrev pub return_word : ℕ → ℕ
return_word stack = stack - 8

abbrev pub frame_pointer : ℕ → ℕ
frame_pointer stack = stack - 16

abbrev pub saved_word : ℕ → ℕ → ℕ
saved_word fp v = fp - (8 + 8 * v)

abbrev pub home_word : ℕ → ℕ → ℕ
home_word fp argument = fp - (32 + 8 * argument)

abbrev pub spill_word : ℕ → ℕ → ℕ
spill_word fp slot = fp - (96 + 8 * slot)

-- stack argument j of the callee
abbrev pub stack_argument : ℕ → ℕ → ℕ
stack_argument stack j = stack + 8 * j

-- frames begin at or above this address
abbrev pub least_frame : ℕ
least_frame = 0x3FF00010
