-- The host functions, in the order of their entries.
use Rattle.std.specs.Prelude.{ℕ, ◌+◌, ◌*◌, ◌==◌, List, [], ◌∷◌, Option, find, codes}
use Rattle.std.specs.Str.{bytes_eq}
use Rattle.lg_base.specs.declared.host_name.HostName.{HostName}
use Rattle.lg_base.specs.declared.host_name.HostName.TheVariants.{Printf, Puts, Putchar, Exit, Abort, Atoi, Malloc, Calloc, Free, Memcpy, Memset, Strlen, Strcmp}

abbrev pub host_names : List HostName
host_names = Printf ∷ Puts ∷ Putchar ∷ Exit ∷ Abort ∷ Atoi ∷ Malloc ∷ Calloc ∷ Free ∷ Memcpy ∷ Memset ∷ Strlen ∷ Strcmp ∷ []

-- the name of C
abbrev pub host_word : HostName → List ℕ
host_word Printf = codes "printf"
host_word Puts = codes "puts"
host_word Putchar = codes "putchar"
host_word Exit = codes "exit"
host_word Abort = codes "abort"
host_word Atoi = codes "atoi"
host_word Malloc = codes "malloc"
host_word Calloc = codes "calloc"
host_word Free = codes "free"
host_word Memcpy = codes "memcpy"
host_word Memset = codes "memset"
host_word Strlen = codes "strlen"
host_word Strcmp = codes "strcmp"

-- the place in the order
abbrev pub host_index : HostName → ℕ
host_index Printf = 0
host_index Puts = 1
host_index Putchar = 2
host_index Exit = 3
host_index Abort = 4
host_index Atoi = 5
host_index Malloc = 6
host_index Calloc = 7
host_index Free = 8
host_index Memcpy = 9
host_index Memset = 10
host_index Strlen = 11
host_index Strcmp = 12

-- the first address of the entries, each of which has 16 bytes
abbrev pub host_base : ℕ
host_base = 0x0FF00000

abbrev pub host_address : HostName → ℕ
host_address name = host_base + 16 * host_index name

abbrev pub host_by_name : List ℕ → Option HostName
host_by_name word = find (λ name. bytes_eq word (host_word name)) host_names

abbrev pub host_by_address : ℕ → Option HostName
host_by_address address = find (λ name. address == host_address name) host_names
