-- What holds of every host function.
use Rattle.std.specs.Prelude.{◌≡◌, ◌⊎◌, ℕ, ◌^◌, ◌<◌, ◌≤◌, Bool, true, List, ◌++◌, slice_index, Option, Some, None, ⊤}
use Rattle.lg_base.specs.declared.host_name.HostName.{HostName}
use Rattle.lg_host.specs.Blocks.{Changes}
use Rattle.lg_host.specs.Host.{Mem, Host, Gives, Exits, Undefined, host_of, heap_end}

-- ---- a larger memory
-- the second is the first, where the first is there
abbrev pub Extends : {A : Type 0} → Option A → Option A → Type 0
Extends None o = ⊤
Extends (Some x) o = o ≡ Some x

-- the second memory has each byte of the first, can be written wherever the first can, and has the same heap mark
pub record IsLarger (m m' : Mem) : Type 0 where
  pub bytes : (a : ℕ) → Extends (m.bytes a) (m'.bytes a)
  pub room : (a : ℕ) → m.room a ≡ true → m'.room a ≡ true
  pub mark : m'.mark ≡ m.mark

abbrev pub IsDefined : Host → Type 0
IsDefined (Gives value changes mark bytes) = ⊤
IsDefined (Exits status) = ⊤
IsDefined Undefined = ⊥

-- a call that is defined answers, changes and writes the same over a larger memory, with further arguments, and where
-- further arguments may be
abbrev pub IsKept : Type 0
IsKept = (name : HostName) (args more : List ℕ) (variadic : Bool) (m m' : Mem)
    → IsLarger m m' → IsDefined (host_of name args variadic m) → host_of name (args ++ more) true m' ≡ host_of name args variadic m

-- ---- what may be answered and changed
abbrev pub OnGives : Host → (ℕ → Changes → ℕ → List ℕ → Type 0) → Type 0
OnGives (Gives value changes mark bytes) P = P value changes mark bytes
OnGives (Exits status) P = ⊤
OnGives Undefined P = ⊤

-- arguments are words, memory holds bytes, and the heap mark lies in the heap
pub record IsSound (m : Mem) (args : List ℕ) : Type 0 where
  pub words : (k : ℕ) → slice_index args k < 2 ^ 64
  pub bytes : (a b : ℕ) → m.bytes a ≡ Some b → b < 256
  pub mark : m.mark ≤ heap_end

-- the answer is a word, bytes are written only where they may be or in the heap that is allocated, and the heap mark
-- never falls and stays in the heap
pub record IsAllowed (m : Mem) (value : ℕ) (changes : Changes) (mark : ℕ) (bytes : List ℕ) : Type 0 where
  pub word : value < 2 ^ 64
  pub written : (a b : ℕ) → changes a ≡ Some b → (b < 256) × ((m.room a ≡ true) ⊎ ((m.mark ≤ a) × (a < mark)))
  pub rises : m.mark ≤ mark
  pub within : mark ≤ heap_end

abbrev pub AnswersAllowed : Type 0
AnswersAllowed = (name : HostName) (args : List ℕ) (variadic : Bool) (m : Mem) → IsSound m args → OnGives (host_of name args variadic m) (IsAllowed m)
