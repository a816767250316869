-- The memory of a run: four parts at fixed addresses, which never touch.
use Rattle.std.specs.Prelude.{◌≡◌, ℕ, ◌+◌, ◌-◌, ◌≤◌, ◌⊎◌, ◌&&◌, Bool, List, length, take, drop, slice_index, nat_lt, nat_le, Option, Some, None, if◌then◌else◌}

-- the bytes of each part
pub record Parts : Type 0 where
  pub data_part : List ℕ
  pub args_part : List ℕ
  pub heap_part : List ℕ
  pub stack_part : List ℕ

-- the first address of each part
abbrev pub data_base : ℕ
data_base = 0x20000000

abbrev pub args_base : ℕ
args_base = 0x28000000

abbrev pub heap_base : ℕ
heap_base = 0x30000000

abbrev pub stack_base : ℕ
stack_base = 0x3FF00000

-- how long the parts are: heap and stack have one size, data and arguments a largest one
pub record IsSized (p : Parts) : Type 0 where
  pub data_len : length p.data_part ≤ 0x1000000
  pub args_len : length p.args_part ≤ 0x100000
  pub heap_len : length p.heap_part ≡ 0x400000
  pub stack_len : length p.stack_part ≡ 0x100000

-- whether an address is one of a part
abbrev pub has : ℕ → List ℕ → ℕ → Bool
has base bytes a = nat_le base a && nat_lt a (base + length bytes)

-- the byte of a part, or else another
abbrev pub in_part : ℕ → List ℕ → ℕ → Option ℕ → Option ℕ
in_part base bytes a other = if has base bytes a then Some (slice_index bytes (a - base)) else other

-- the byte at an address
abbrev pub byte_at : Parts → ℕ → Option ℕ
byte_at p a = in_part data_base p.data_part a (in_part args_base p.args_part a (in_part heap_base p.heap_part a (in_part stack_base p.stack_part a None)))

-- heap and stack hold zeros
pub record IsZeroed (p : Parts) : Type 0 where
  pub heap_len : length p.heap_part ≡ 0x400000
  pub stack_len : length p.stack_part ≡ 0x100000
  pub heap : slice_index p.heap_part ≡ (λ _. 0)
  pub stack : slice_index p.stack_part ≡ (λ _. 0)

-- width bytes from an address on lie in a part
abbrev pub lies_in : ℕ → List ℕ → ℕ → ℕ → Bool
lies_in base bytes address width = nat_le base address && nat_le (address + width) (base + length bytes)

abbrev pub LiesIn : ℕ → List ℕ → ℕ → ℕ → Type 0
LiesIn base bytes address width = (base ≤ address) × (address + width ≤ base + length bytes)

-- a list is the range of a part's bytes that has len addresses from one on
abbrev pub IsRangeOf : List ℕ → (base address len : ℕ) → List ℕ → Type 0
IsRangeOf bytes base address len range = LiesIn base bytes address len × (range ≡ take len (drop (address - base) bytes))

-- they lie in one of the four parts
abbrev pub LiesInOnePart : Parts → ℕ → ℕ → Type 0
LiesInOnePart p address width =
    LiesIn data_base p.data_part address width
    ⊎ (LiesIn args_base p.args_part address width
    ⊎ (LiesIn heap_base p.heap_part address width
    ⊎ LiesIn stack_base p.stack_part address width))
