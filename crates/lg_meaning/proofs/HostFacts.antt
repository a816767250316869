-- What a host function writes to memory, and the heap mark that it leaves.
use Rattle.std.proofs.Common.{◌≡◌, ◌⊎◌, inl, inr, ⊎_elim, ℕ, zero, suc, ◌+◌, ◌*◌, ◌-◌, ◌<◌, ◌≤◌, Bool, true, false, List, [], ◌∷◌, ◌++◌, length, drop, Option, Some, None, refl, ap, ◌∙◌, arith}
use Rattle.std.specs.Prelude.{◌==◌, ◌%◌, ◌&&◌, not, if◌then◌else◌, nat_lt, slice_index}
use Rattle.std.specs.Option.{option_map}
use Rattle.std.proofs.lemmas.Bool.{and_parts, cases_eq}
use Rattle.lg_base.specs.Spaces.{mapped}
use Rattle.lg_base.specs.declared.host_name.HostName.{HostName}
use Rattle.lg_base.specs.declared.host_name.HostName.TheVariants as host
use Rattle.lg_host.specs.Blocks.{Changes, unchanged, in_range, copied, filled, can_write, is_addressed, overlaps}
use Rattle.lg_host.specs.Runs.{run}
use Rattle.lg_host.specs.Strings.{string_in, compared, atoi_in}
use Rattle.lg_host.specs.Printed.{printed_at}
use Rattle.lg_host.specs.declared.format.Reading.TheVariants as reading
use Rattle.lg_host.specs.Host.{Mem, Host, Gives, Undefined, named, table, host_of, text, answered, malloc, calloc, memset, memcpy, fits, rounded, heap_end}
use Rattle.lg_host.specs.HostLaws.{OnGives}

-- bytes are written only where they may be or in the heap that is allocated, and the mark rises, in the heap
pub record Writes (m : Mem) (value : ℕ) (changes : Changes) (mark : ℕ) (bytes : List ℕ) : Type 0 where
  pub where_may : (a b : ℕ) → changes a ≡ Some b → (m.room a ≡ true) ⊎ ((m.mark ≤ a) × (a < mark))
  pub rises : m.mark ≤ mark
  pub stays : m.mark ≤ heap_end → mark ≤ heap_end

on_if : (t : Bool) (x y : Host) (P : ℕ → Changes → ℕ → List ℕ → Type 0) → (t ≡ true → OnGives x P) → (t ≡ false → OnGives y P) → OnGives (if t then x else y) P
on_if true x y P h k = h refl
on_if false x y P h k = k refl

in_there : (to n : ℕ) (x : Option ℕ) (a b : ℕ) → (if in_range to n a then x else None) ≡ Some b → (to ≤ a) × (a < to + n)
in_there to n x a b e = by (in_range to n a) refl e
  where
    by : (t : Bool) → in_range to n a ≡ t → (if t then x else None) ≡ Some b → (to ≤ a) × (a < to + n)
    by true is e = (grind arith, grind arith)
    by false is e = let no : ⊥ = cc in absurd no

can_there : (room : ℕ → Bool) (n to a : ℕ) → can_write room to n ≡ true → to ≤ a → a < to + n → room a ≡ true
unfolding can_write
can_there room zero to a ok lo hi = absurd (omega arith)
can_there room (suc n) to a ok lo hi =
    let both = and_parts (room to) (can_write room (to + 1) n) ok in
    ⊎_elim (λ (e : a ≡ to). ap room e ∙ both.0) (λ (other : a ≡ to → ⊥). can_there room n (to + 1) a both.1 (omega arith) (omega arith)) (cases_eq a to)

rounded_up : (size : ℕ) → size ≤ rounded size
rounded_up size = grind arith

module _ (m : Mem) where
  nothing : (v : ℕ) (bytes : List ℕ) → Writes m v unchanged m.mark bytes
  nothing v bytes = record { where_may = λ a b e. let no : ⊥ = cc in absurd no; rises = omega arith; stays = λ h. h }

  text_writes : (o : Option (List ℕ)) → OnGives (text m.mark o) (Writes m)
  text_writes None = tt
  text_writes (Some bytes) = nothing _ bytes

  answered_writes : (o : Option ℕ) → OnGives (answered m.mark o) (Writes m)
  answered_writes None = tt
  answered_writes (Some v) = nothing v []

  malloc_writes : (size : ℕ) → OnGives (malloc m.mark size) (Writes m)
  malloc_writes size = on_if (fits m.mark size) (Gives m.mark unchanged (m.mark + rounded size) []) (Gives 0 unchanged m.mark []) (Writes m)
      (λ e. record { where_may = λ a b is. let no : ⊥ = cc in absurd no; rises = omega arith; stays = λ h. grind arith })
      (λ e. nothing 0 [])

  calloc_writes : (size : ℕ) → OnGives (calloc m.mark size) (Writes m)
  calloc_writes size = on_if (fits m.mark size) (Gives m.mark (filled m.mark 0 size) (m.mark + rounded size) []) (Gives 0 unchanged m.mark []) (Writes m)
      (λ e. record { where_may = λ a b is. let t = in_there m.mark size (Some 0) a b is in let up = rounded_up size in inr (t.0, omega (arith, t.1, up)); rises = omega arith; stays = λ h. grind arith })
      (λ e. nothing 0 [])

  memset_writes : (to word count : ℕ) → OnGives (memset m to word count) (Writes m)
  memset_writes to word count = on_if (count == 0) (Gives to unchanged m.mark []) (if is_addressed to count && can_write m.room to count then Gives to (filled to (word % 256) count) m.mark [] else Undefined) (Writes m)
      (λ e. nothing to [])
      (λ e. on_if (is_addressed to count && can_write m.room to count) (Gives to (filled to (word % 256) count) m.mark []) Undefined (Writes m)
      (λ can. record { where_may = λ a b is. let t = in_there to count (Some (word % 256)) a b is in inl (can_there m.room count to a (and_parts (is_addressed to count) (can_write m.room to count) can).1 t.0 t.1); rises = omega arith; stays = λ h. h })
      (λ no. tt))

  can_copy : ℕ → ℕ → ℕ → Bool
  can_copy to from count = is_addressed to count && is_addressed from count && not (overlaps to from count) && mapped m.bytes from count

  memcpy_writes : (to from count : ℕ) → OnGives (memcpy m to from count) (Writes m)
  unfolding can_copy
  memcpy_writes to from count = on_if (count == 0) (Gives to unchanged m.mark []) (if can_copy to from count && can_write m.room to count then Gives to (copied m.bytes to from count) m.mark [] else Undefined) (Writes m)
      (λ e. nothing to [])
      (λ e. on_if (can_copy to from count && can_write m.room to count) (Gives to (copied m.bytes to from count) m.mark []) Undefined (Writes m)
      (λ can. record { where_may = λ a b is. let t = in_there to count (m.bytes (from + (a - to))) a b is in inl (can_there m.room count to a (and_parts (can_copy to from count) (can_write m.room to count) can).1 t.0 t.1); rises = omega arith; stays = λ h. h })
      (λ no. tt))

  table_writes : (name : HostName) (a b c : ℕ) (args : List ℕ) (variadic : Bool) → OnGives (table name a b c args variadic m) (Writes m)
  table_writes host.Printf a b c args true = text_writes (printed_at m.bytes reading.Plain a (drop 1 args))
  table_writes host.Printf a b c args false = tt
  table_writes host.Puts a b c args v = text_writes (option_map (λ string. string ++ 10 ∷ []) (string_in (run m.bytes a)))
  table_writes host.Putchar a b c args v = nothing (a % 256) (a % 256 ∷ [])
  table_writes host.Exit a b c args v = tt
  table_writes host.Abort a b c args v = tt
  table_writes host.Atoi a b c args v = answered_writes (atoi_in (run m.bytes a))
  table_writes host.Malloc a b c args v = malloc_writes a
  table_writes host.Calloc a b c args v = calloc_writes (a * b)
  table_writes host.Free a b c args v = nothing 0 []
  table_writes host.Memcpy a b c args v = memcpy_writes a b c
  table_writes host.Memset a b c args v = memset_writes a b c
  table_writes host.Strlen a b c args v = answered_writes (option_map length (string_in (run m.bytes a)))
  table_writes host.Strcmp a b c args v = answered_writes (compared (run m.bytes a) (run m.bytes b))

  pub host_writes : (name : HostName) (args : List ℕ) (variadic : Bool) → OnGives (host_of name args variadic m) (Writes m)
  host_writes name args v = on_if (nat_lt (length args) (named name)) Undefined (table name (slice_index args 0) (slice_index args 1) (slice_index args 2) args v m) (Writes m)
      (λ e. tt)
      (λ e. table_writes name (slice_index args 0) (slice_index args 1) (slice_index args 2) args v)
