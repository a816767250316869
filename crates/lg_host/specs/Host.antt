-- What a host function answers, changes and writes.
use Rattle.std.specs.Prelude.{◌≡◌, ℕ, ◌+◌, ◌-◌, ◌*◌, ◌/◌, ◌%◌, ◌^◌, ◌==◌, ◌&&◌, max, not, Bool, true, false, nat_lt, nat_le, List, [], ◌∷◌, ◌++◌, length, drop, slice_index, Option, Some, None, MatchOption, if◌then◌else◌, ⊤}
use Rattle.std.specs.Option.{option_map}
use Rattle.std.specs.Io.KnownBytes.{Appends}
use Rattle.lg_base.specs.Spaces.{raised, mapped}
use Rattle.lg_base.specs.declared.host_name.HostName.{HostName}
use Rattle.lg_base.specs.declared.host_name.HostName.TheVariants as host
use Rattle.lg_io.specs.Counts.{Rose}
use Rattle.lg_io.specs.Wrote.{AppendsPrefix}
use Rattle.lg_host.specs.Runs.{Bytes, run}
use Rattle.lg_host.specs.Strings.{string_in, compared, atoi_in}
use Rattle.lg_host.specs.Blocks.{Changes, unchanged, over, copied, filled, can_write, is_addressed, overlaps}
use Rattle.lg_host.specs.Printed.{printed_at}
use Rattle.lg_host.specs.declared.format.Reading.TheVariants as reading
use Rattle.lg_host.specs.declared.host_end.HostEnd.{HostEnd}
use Rattle.lg_host.specs.declared.host_end.HostEnd.TheVariants as end

-- the memory: the bytes that can be read, the addresses that can be written, and the heap mark
pub record Mem : Type 0 where
  pub bytes : Bytes
  pub room : ℕ → Bool
  pub mark : ℕ

abbrev pub memory : Bytes → (ℕ → Bool) → ℕ → Mem
memory bytes room mark = record { bytes = bytes; room = room; mark = mark }

pub data Host : Type 0 where
  -- an answer, the bytes that are written to the memory, the new mark, and the bytes of output
  Gives : ℕ → Changes → ℕ → List ℕ → Host
  Exits : ℕ → Host
  Undefined : Host

-- the memory after an answer: where the mark rose, the heap below it can be written
abbrev pub after : Mem → Changes → ℕ → Mem
after m changes mark = record { bytes = over changes m.bytes; room = if mark == m.mark then m.room else raised m.room mark; mark = mark }

-- the low 32 bits as a number with its sign, as a word
abbrev pub int_answer : ℕ → ℕ
int_answer n = if nat_lt (n % 2 ^ 32) (2 ^ 31) then n % 2 ^ 32 else n % 2 ^ 32 + (2 ^ 64 - 2 ^ 32)

-- an answer that changes and writes nothing
abbrev pub answered : ℕ → Option ℕ → Host
answered mark None = Undefined
answered mark (Some value) = Gives value unchanged mark []

-- text that is written; the answer is the number of its bytes
abbrev pub text : ℕ → Option (List ℕ) → Host
text mark None = Undefined
text mark (Some bytes) = Gives (int_answer (length bytes)) unchanged mark bytes

-- the end of the heap
abbrev pub heap_end : ℕ
heap_end = 0x30400000

-- a multiple of 16, and at least 16
abbrev pub rounded : ℕ → ℕ
rounded size = max 16 ((size + 15) / 16 * 16)

-- whether this many bytes fit the heap
abbrev pub fits : ℕ → ℕ → Bool
fits mark size = nat_le (mark + rounded size) heap_end

abbrev pub malloc : ℕ → ℕ → Host
malloc mark size = if fits mark size then Gives mark unchanged (mark + rounded size) [] else Gives 0 unchanged mark []

-- a product beyond 2^64 - 1 does not fit the heap either
abbrev pub calloc : ℕ → ℕ → Host
calloc mark size = if fits mark size then Gives mark (filled mark 0 size) (mark + rounded size) [] else Gives 0 unchanged mark []

abbrev pub memset : Mem → ℕ → ℕ → ℕ → Host
memset m to word count =
    if count == 0 then Gives to unchanged m.mark []
    else if is_addressed to count && can_write m.room to count then Gives to (filled to (word % 256) count) m.mark []
    else Undefined

abbrev pub memcpy : Mem → ℕ → ℕ → ℕ → Host
memcpy m to from count =
    if count == 0 then Gives to unchanged m.mark []
    else if is_addressed to count && is_addressed from count && not (overlaps to from count) && mapped m.bytes from count
    && can_write m.room to count then Gives to (copied m.bytes to from count) m.mark []
    else Undefined

-- how many arguments are named
abbrev pub named : HostName → ℕ
named host.Abort = 0
named host.Calloc = 2
named host.Strcmp = 2
named host.Memcpy = 3
named host.Memset = 3
named name = 1

-- the table of the host functions, with the first three arguments and all of them
abbrev pub table : HostName → ℕ → ℕ → ℕ → List ℕ → Bool → Mem → Host
table host.Printf a b c args variadic m = if variadic then text m.mark (printed_at m.bytes reading.Plain a (drop 1 args)) else Undefined
table host.Puts a b c args variadic m = text m.mark (option_map (λ string. string ++ 10 ∷ []) (string_in (run m.bytes a)))
table host.Putchar a b c args variadic m = Gives (a % 256) unchanged m.mark (a % 256 ∷ [])
table host.Exit a b c args variadic m = Exits (a % 256)
table host.Abort a b c args variadic m = Exits 134
table host.Atoi a b c args variadic m = answered m.mark (atoi_in (run m.bytes a))
table host.Malloc a b c args variadic m = malloc m.mark a
table host.Calloc a b c args variadic m = calloc m.mark (a * b)
table host.Free a b c args variadic m = Gives 0 unchanged m.mark []
table host.Memcpy a b c args variadic m = memcpy m a b c
table host.Memset a b c args variadic m = memset m a b c
table host.Strlen a b c args variadic m = answered m.mark (option_map length (string_in (run m.bytes a)))
table host.Strcmp a b c args variadic m = answered m.mark (compared (run m.bytes a) (run m.bytes b))

-- what a host function answers, changes and writes
abbrev pub host_of : HostName → List ℕ → Bool → Mem → Host
host_of name args variadic m = if nat_lt (length args) (named name) then Undefined
    else table name (slice_index args 0) (slice_index args 1) (slice_index args 2) args variadic m

-- ---- what a call answers
-- the second memory is the first
pub record Same (m m' : Mem) : Type 0 where
  pub bytes : m'.bytes ≡ m.bytes
  pub room : m'.room ≡ m.room
  pub mark : m'.mark ≡ m.mark

-- what the sink says of the bytes that it took, and its count of faults, before and after
pub record Out : Type 0 where
  pub old : Option (List ℕ)
  pub new : Option (List ℕ)
  pub before : ℕ
  pub now : ℕ

abbrev pub outcome : Option (List ℕ) → Option (List ℕ) → ℕ → ℕ → Out
outcome old new before now = record { old = old; new = new; before = before; now = now }

-- no fault happened
abbrev pub KeepsCount : Out → Type 0
KeepsCount o = o.now ≡ o.before

abbrev pub HostSays : Host → Mem → Mem → Out → HostEnd → Type 0
HostSays (Gives value changes mark bytes) m m' o (end.Value x) = (x ≡ value) × Same (after m changes mark) m' × Appends o.old o.new bytes × KeepsCount o
HostSays (Gives value changes mark bytes) m m' o end.WriteFault = Same m m' × AppendsPrefix o.old o.new bytes × Rose o.before o.now
HostSays (Exits status) m m' o (end.Exit x) = (x ≡ status) × Same m m' × Appends o.old o.new [] × KeepsCount o
HostSays Undefined m m' o end.Undefined = Same m m' × Appends o.old o.new [] × KeepsCount o
HostSays h m m' o e = ⊥

-- so it is at every answer but that a write failed
abbrev pub KeepsCountAt : HostEnd → Out → Type 0
KeepsCountAt end.WriteFault o = ⊤
KeepsCountAt e o = KeepsCount o

-- what a function answers that writes these bytes, if they are defined
abbrev pub TextSays : Option (List ℕ) → Out → HostEnd → Type 0
TextSays (Some bytes) o (end.Value x) = (x ≡ int_answer (length bytes)) × Appends o.old o.new bytes × KeepsCount o
TextSays (Some bytes) o end.WriteFault = AppendsPrefix o.old o.new bytes × Rose o.before o.now
TextSays None o end.Undefined = Appends o.old o.new [] × KeepsCount o
TextSays bytes o e = ⊥

-- what a function answers that writes one byte
abbrev pub ByteSays : ℕ → Out → HostEnd → Type 0
ByteSays byte o (end.Value x) = (x ≡ byte) × Appends o.old o.new (byte ∷ []) × KeepsCount o
ByteSays byte o end.WriteFault = AppendsPrefix o.old o.new (byte ∷ []) × Rose o.before o.now
ByteSays byte o e = ⊥

-- what a function answers that writes no output
abbrev pub MemSays : Host → Mem → Mem → HostEnd → Type 0
MemSays (Gives value changes mark bytes) m m' (end.Value x) = (x ≡ value) × Same (after m changes mark) m' × (bytes ≡ [])
MemSays (Exits status) m m' (end.Exit x) = (x ≡ status) × Same m m'
MemSays Undefined m m' end.Undefined = Same m m'
MemSays h m m' e = ⊥

-- this many bytes were allocated, where they fit
abbrev pub Reserves : Mem → ℕ → Mem → Option ℕ → Type 0
Reserves m size m' answer =
    MatchOption answer (Same m m' × (fits m.mark size ≡ false)) (λ at. (at ≡ m.mark) × Same (after m unchanged (m.mark + rounded size)) m'
    × (fits m.mark size ≡ true))
