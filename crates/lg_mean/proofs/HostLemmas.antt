-- The heap mark never falls over a host call, and the parts of the memory grow with it.
use Rattle.std.proofs.Common.{◌≡◌, ℕ, ◌+◌, ◌-◌, ◌*◌, ◌%◌, ◌≤◌, Bool, true, false, not, List, [], Option, Some, None, refl, sym, ap, ◌∙◌, length, slice_index, arith}
use Rattle.std.specs.Prelude.{◌==◌, ◌&&◌, ◌||◌, nat_lt, nat_le, if◌then◌else◌}
use Rattle.std.proofs.Math.Bool.{or-false}
use mathlib.Core.Path.{fun_ext}
use Rattle.lg_base.specs.Spaces.{raised, in_heap, mapped}
use Rattle.lg_base.specs.declared.host_name.HostName.{HostName}
use Rattle.lg_base.specs.declared.host_name.HostName.TheVariants as host
use Rattle.lg_host.specs.Blocks.{Changes, unchanged, copied, filled, can_write, is_addressed, overlaps}
use Rattle.lg_host.specs.Host.{Mem, Host, Gives, Exits, Undefined, heap_end, rounded, fits, text, answered, table, named, host_of, Out, HostSays}
use Rattle.lg_host.specs.declared.host_end.HostEnd.{HostEnd}
use Rattle.lg_host.specs.declared.host_end.HostEnd.TheVariants as end
use Rattle.lg_cells.specs.Cells.{within}
use Rattle.lg_meaning.specs.States.{Frame, in_any_locals, is_part}

-- the mark after a call, if there is one
abbrev pub AllowsMark : ℕ → Host → Type 0
AllowsMark k (Gives v changes k' bytes) = (k ≤ k') × (k' ≤ heap_end)
AllowsMark k (Exits n) = Unit {0}
AllowsMark k Undefined = Unit {0}

if_mark : (k : ℕ) (t : Bool) (x y : Host) → (t ≡ true → AllowsMark k x) → AllowsMark k y → AllowsMark k (if t then x else y)
if_mark k true x y f z = f refl
if_mark k false x y f z = z

same : (k : ℕ) → k ≤ heap_end → (k ≤ k) × (k ≤ heap_end)
same k h = (omega arith, h)

text_mark : (k : ℕ) (o : Option (List ℕ)) → k ≤ heap_end → AllowsMark k (text k o)
text_mark k None h = tt
text_mark k (Some bytes) h = same k h

answered_mark : (k : ℕ) (o : Option ℕ) → k ≤ heap_end → AllowsMark k (answered k o)
answered_mark k None h = tt
answered_mark k (Some v) h = same k h

le_of : (a b : ℕ) → nat_le a b ≡ true → a ≤ b
le_of a b h = grind arith

handed : (k size : ℕ) → fits k size ≡ true → (k ≤ k + rounded size) × (k + rounded size ≤ heap_end)
handed k size t = (omega arith, le_of (k + rounded size) heap_end t)

-- blocks of bytes that are copied or filled
block_mark : (k a : ℕ) (changes : Changes) (t u : Bool) → k ≤ heap_end → AllowsMark k (if t then Gives a unchanged k [] else if u then Gives a changes k [] else Undefined)
block_mark k a changes true u h = same k h
block_mark k a changes false true h = same k h
block_mark k a changes false false h = tt

table_mark : (name : HostName) (a b c : ℕ) (args : List ℕ) (v : Bool) (m : Mem) → m.mark ≤ heap_end → AllowsMark m.mark (table name a b c args v m)
table_mark host.Printf a b c args v m h = if_mark m.mark v _ _ (λ t. text_mark m.mark _ h) tt
table_mark host.Puts a b c args v m h = text_mark m.mark _ h
table_mark host.Putchar a b c args v m h = same m.mark h
table_mark host.Exit a b c args v m h = tt
table_mark host.Abort a b c args v m h = tt
table_mark host.Malloc a b c args v m h = if_mark m.mark (fits m.mark a) _ _ (λ t. handed m.mark a t) (same m.mark h)
table_mark host.Calloc a b c args v m h = if_mark m.mark (fits m.mark (a * b)) _ _ (λ t. handed m.mark (a * b) t) (same m.mark h)
table_mark host.Free a b c args v m h = same m.mark h
table_mark host.Memcpy a b c args v m h = block_mark m.mark a (copied m.bytes a b c) (c == 0) (is_addressed a c && is_addressed b c && not (overlaps a b c) && mapped m.bytes b c && can_write m.room a c) h
table_mark host.Memset a b c args v m h = block_mark m.mark a (filled a (b % 256) c) (c == 0) (is_addressed a c && can_write m.room a c) h
table_mark other a b c args v m h = answered_mark m.mark _ h

pub host_mark : (name : HostName) (args : List ℕ) (v : Bool) (m : Mem) → m.mark ≤ heap_end → AllowsMark m.mark (host_of name args v m)
host_mark name args v m h = if_mark m.mark (nat_lt (length args) (named name)) _ _ (λ t. tt) (table_mark name (slice_index args 0) (slice_index args 1) (slice_index args 2) args v m h)

-- the parts with a mark that rose
part_raised : (d g k k' : ℕ) (frames : List Frame) → 0x30000000 ≤ k → k ≤ k' → raised (is_part d g k frames) k' ≡ is_part d g k' frames
part_raised d g k k' frames low rise = fun_ext (λ a. by (within 0x20000000 d a) (within 0x28000000 g a) (within 0x30000000 (k - 0x30000000) a) (in_heap k' a) (within 0x30000000 (k' - 0x30000000) a) (in_any_locals frames a) (heap a) (more a))
  where
    heap : (a : ℕ) → in_heap k' a ≡ within 0x30000000 (k' - 0x30000000) a
    heap a = grind (arith, low, rise)

    more : (a : ℕ) → within 0x30000000 (k - 0x30000000) a ≡ true → within 0x30000000 (k' - 0x30000000) a ≡ true
    more a h = grind (arith, low, rise, h)

    by : (x y z r w l : Bool) → r ≡ w → (z ≡ true → w ≡ true) → (x || (y || (z || l))) || r ≡ x || (y || (w || l))
    by true y z r w l e f = refl
    by false true z r w l e f = refl
    by false false true r w l e f = rw (f refl) refl
    by false false false r true l e f = rw e (or_true l)
      where
        or_true : (b : Bool) → b || true ≡ true
        or_true true = refl
        or_true false = refl
    by false false false r false l e f = rw e (or-false l)

-- the memory after a call
pub record IsLater (d g : ℕ) (frames : List Frame) (m' : Mem) : Type 0 where
  pub room : m'.room ≡ is_part d g m'.mark frames
  pub low : 0x30000000 ≤ m'.mark
  pub high : m'.mark ≤ heap_end

pub host_later : (h : Host) (d g : ℕ) (frames : List Frame) (m m' : Mem) (o : Out) (e : HostEnd) → AllowsMark m.mark h → 0x30000000 ≤ m.mark → m.mark ≤ heap_end → m.room ≡ is_part d g m.mark frames → HostSays h m m' o e → IsLater d g frames m'
host_later (Gives v changes k bytes) d g frames m m' o (end.Value x) a low high r s =
    let mark : m'.mark ≡ k = s.1.mark in
    record {
      room = s.1.room ∙ by (k == m.mark) refl ∙ ap (λ n. is_part d g n frames) (sym mark);
      low = rw mark (omega (arith, a.0, low));
      high = rw mark a.1;
    }
  where
    by : (t : Bool) → (k == m.mark) ≡ t → (if t then m.room else raised m.room k) ≡ is_part d g k frames
    by true t = let e : k ≡ m.mark = grind (arith, t) in r ∙ ap (λ n. is_part d g n frames) (sym e)
    by false t = ap (λ p. raised p k) r ∙ part_raised d g m.mark k frames low a.0
host_later (Gives v changes k bytes) d g frames m m' o end.WriteFault a low high r s =
    let mark = s.0.mark in
    record { room = s.0.room ∙ r ∙ ap (λ n. is_part d g n frames) (sym mark); low = rw mark low; high = rw mark high }
host_later (Gives v changes k bytes) d g frames m m' o (end.Exit x) a low high r s = absurd s
host_later (Gives v changes k bytes) d g frames m m' o end.Undefined a low high r s = absurd s
host_later (Exits n) d g frames m m' o (end.Exit x) a low high r s =
    let mark = s.1.mark in
    record { room = s.1.room ∙ r ∙ ap (λ n. is_part d g n frames) (sym mark); low = rw mark low; high = rw mark high }
host_later (Exits n) d g frames m m' o (end.Value x) a low high r s = absurd s
host_later (Exits n) d g frames m m' o other a low high r s = absurd s
host_later Undefined d g frames m m' o end.Undefined a low high r s =
    let mark = s.0.mark in
    record { room = s.0.room ∙ r ∙ ap (λ n. is_part d g n frames) (sym mark); low = rw mark low; high = rw mark high }
host_later Undefined d g frames m m' o (end.Value x) a low high r s = absurd s
host_later Undefined d g frames m m' o other a low high r s = absurd s
