-- Whether code that leads to labels can be appended: whether it leads to those that are bound, and whether it may wait for those that are not.
use Rattle.std.specs.Prelude.{◌≡◌, ℕ, nat_le, if◌then◌else◌, Bool, true, false, Option, Some, None, ⊤}
use Rattle.lg_buf.specs.Buffers.{Buffer, place_of}
use Rattle.lg_buf.specs.Fixing.{Fits}
use Rattle.lg_buf.specs.declared.fixes.Fix.{Fix}
use Rattle.lg_buf.specs.declared.fixes.FixKind.{FixKind}
use Rattle.lg_buf.specs.declared.fixes.FixKind.TheVariants.{X86Rel8, RvBranch, RvJal, A64Cond19}
use Rattle.lg_sel.specs.declared.reach.Reach.{Reach}
use Rattle.lg_sel.specs.declared.reach.Reach.TheVariants.{Short, Near, Far}

-- the largest size of a buffer in which a field of 13 bits leads to every place that is fewer bytes away, and of one in which a field does that reaches 1 MiB
abbrev pub small_size : ℕ
small_size = 4096

abbrev pub near_size : ℕ
near_size = 1048576

-- how far a field of the kind reaches ahead, where that is less than all code
abbrev pub reach_of : FixKind → Option ℕ
reach_of RvBranch = Some small_size
reach_of RvJal = Some near_size
reach_of A64Cond19 = Some near_size
reach_of kind = None

-- every place of a buffer of this size lies within the reach, if there is one
abbrev pub is_enough : Option ℕ → ℕ → Bool
is_enough None size = true
is_enough (Some reach) size = nat_le size reach

-- in a buffer of this size a field of the kind may wait for a label that is not bound yet: that of 8 bits never does, the others where their reach is enough
abbrev pub may_wait : FixKind → ℕ → Bool
may_wait X86Rel8 size = false
may_wait kind size = is_enough (reach_of kind) size

-- the field leads to the place of its label, or may wait for it
abbrev pub LeadsTo : ℕ → Fix → Option ℕ → Type 0
LeadsTo size f (Some target) = Fits f.kind f.place target
LeadsTo size f None = may_wait f.kind size ≡ true

abbrev pub Leads : Buffer → Fix → Type 0
Leads buf f = LeadsTo buf.size f (place_of buf.labels f.label.0)

-- the last reach is taken without a trial
abbrev pub IsTried : Reach → Type 0
IsTried Far = ⊥
IsTried r = ⊤

abbrev pub IsChecked : Reach → Buffer → Fix → Type 0
IsChecked r buf f = IsTried r → Leads buf f

-- no shorter reach does
abbrev pub IsLeast : (Reach → Type 0) → Reach → Type 0
IsLeast does Short = ⊤
IsLeast does Near = does Short → ⊥
IsLeast does Far = (does Short → ⊥) × (does Near → ⊥)

-- the reach with which code that leads ahead begins, by the buffer's size
abbrev pub reach_ahead : ℕ → Reach
reach_ahead size = if nat_le size small_size then Short else if nat_le size near_size then Near else Far

-- nor where the label is not bound yet, of the reaches from that one on
abbrev pub IsLeastAhead : Reach → (Reach → Type 0) → Reach → Type 0
IsLeastAhead Short does r = IsLeast does r
IsLeastAhead Near does Short = ⊥
IsLeastAhead Near does Near = ⊤
IsLeastAhead Near does Far = does Near → ⊥
IsLeastAhead Far does Short = ⊥
IsLeastAhead Far does Near = ⊥
IsLeastAhead Far does Far = ⊤
