-- When a field leads to its target, when it can, and what making it so changes.
use Rattle.std.specs.Prelude.{◌≡◌, ℕ, ◌+◌, ◌%◌, ◌<◌, ◌≤◌, ◌⊎◌, pos, ◌+ℤ◌, List, length, slice_index}
use Rattle.lg_base.specs.Layout.{code_base}
use Rattle.lg_buf.specs.declared.fixes.FixKind.{FixKind}
use Rattle.lg_buf.specs.declared.fixes.FixKind.TheVariants.{X86Rel8, X86Rel32, X86Abs32, A64Branch26, A64Cond19, A64MovPair, RvBranch, RvJal, RvLuiAddi, RvAuipcJalr}
use Rattle.lg_buf.specs.FixFields.{fix_len, field_number, field_rest}

-- from where the number of the field counts: a distance from the instruction's end on x86-64, which the field ends,
-- and from the instruction on the others; an address from 0
abbrev pub origin_of : FixKind → ℕ → ℕ
origin_of X86Rel8 place = place + 1
origin_of X86Rel32 place = place + 4
origin_of X86Abs32 place = 0
origin_of A64Branch26 place = place
origin_of A64Cond19 place = place
origin_of A64MovPair place = 0
origin_of RvBranch place = place
origin_of RvJal place = place
origin_of RvLuiAddi place = 0
origin_of RvAuipcJalr place = place

-- to where it leads: a distance to the target, an address to the target after the first address of code
abbrev pub goal_of : FixKind → ℕ → ℕ
goal_of X86Rel8 target = target
goal_of X86Rel32 target = target
goal_of X86Abs32 target = code_base + target
goal_of A64Branch26 target = target
goal_of A64Cond19 target = target
goal_of A64MovPair target = code_base + target
goal_of RvBranch target = target
goal_of RvJal target = target
goal_of RvLuiAddi target = code_base + target
goal_of RvAuipcJalr target = target

-- the field of the fix leads to the target
abbrev pub Fixed : List ℕ → ℕ → FixKind → ℕ → Type 0
Fixed bytes place kind target = pos (origin_of kind place) +ℤ field_number kind bytes place ≡ pos (goal_of kind target)

-- a signed number of half + half values can be the distance
abbrev pub IsWithin : ℕ → ℕ → ℕ → Type 0
IsWithin half from to = (from ≤ to + half) × (to < from + half)

-- a field can lead to the target. `lui` and `addi` reach up to 524,287 * 4,096 + 2,047; so do `auipc` and `jalr`, and down to 524,288 * 4,096 + 2,048 before
-- themselves
abbrev pub Fits : FixKind → ℕ → ℕ → Type 0
Fits X86Rel8 place target = IsWithin 128 (place + 1) target
Fits X86Rel32 place target = IsWithin 2147483648 (place + 4) target
Fits X86Abs32 place target = code_base + target < 4294967296
Fits A64Branch26 place target = IsWithin 134217728 place target × (target % 4 ≡ place % 4)
Fits A64Cond19 place target = IsWithin 1048576 place target × (target % 4 ≡ place % 4)
Fits A64MovPair place target = code_base + target < 4294967296
Fits RvBranch place target = IsWithin 4096 place target × (target % 2 ≡ place % 2)
Fits RvJal place target = IsWithin 1048576 place target × (target % 2 ≡ place % 2)
Fits RvLuiAddi place target = code_base + target < 2147481600
Fits RvAuipcJalr place target = (place ≤ target + 2147485696) × (target < place + 2147481600)

-- the field leads to the target, and nothing but the field's own bits changed
pub record Patched (kind : FixKind) (place target : ℕ) (old new : List ℕ) : Type 0 where
  pub fixed : Fixed new place kind target
  pub rest : field_rest kind new place ≡ field_rest kind old place
  pub long : length new ≡ length old
  pub others : (i : ℕ) → (i < place) ⊎ (place + fix_len kind ≤ i)
      → slice_index new i ≡ slice_index old i
