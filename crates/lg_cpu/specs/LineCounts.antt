-- Steps counted by lines.
use Rattle.std.specs.Prelude.{◌≡◌, ℕ, zero, suc, ◌+◌, ◌-◌, ◌^◌, ◌<◌, ◌==◌, nat_le, nat_lt, if◌then◌else◌, List, length, Option, Some, None, slice_get, slice_index_or, unwrap_or}
use Rattle.lg_base.specs.Layout.{code_base}
use Rattle.lg_cpu.specs.States.{CpuState}
use Rattle.lg_cpu.specs.Steps.{Run}

-- the line of a program counter, by a table that has a line for each place of the code
abbrev pub table_line : (lines : List ℕ) → (pc : ℕ) → Option ℕ
table_line lines pc = if nat_le code_base pc then slice_get lines (pc - code_base) else None

-- the line of the last of the first n steps whose program counter has one, and else the line before them: a host step, which begins outside of the code, belongs to
-- the line of the code step before it
unfoldable pub line_by : (line_of : ℕ → Option ℕ) → (ℕ → Run CpuState) → (before : ℕ) → ℕ → ℕ
line_by line_of run before zero = before
line_by line_of run before (suc n) = unwrap_or (line_of (run n).state.pc) (line_by line_of run before n)

-- how many of the first n steps belong to a line
unfoldable pub steps_at : (line_of : ℕ → Option ℕ) → (ℕ → Run CpuState) → (before line : ℕ) → ℕ → ℕ
steps_at line_of run before line zero = 0
steps_at line_of run before line (suc n) = steps_at line_of run before line n + (if line_by line_of run before (suc n) == line then 1 else 0)

-- to numbers of lines at most this many steps may be added: the table's lines are among them, and they stay words
pub record MayAdd (lines : List ℕ) (most : ℕ) (counts : List ℕ) : Type 0 where
  pub within : (place line : ℕ) → slice_get lines place ≡ Some line → line < length counts
  pub room : (line : ℕ) → slice_index_or counts line 0 + most < 2 ^ 64

-- where there are numbers of lines, each grew by the steps of the first n that belong to its line, the last of which belongs to this line
pub record AddsSteps (lines : List ℕ) (run : ℕ → Run CpuState) (before after n : ℕ) (old new : List ℕ) : Type 0 where
  pub long : length new ≡ length old
  pub last : 0 < length old → after ≡ line_by (table_line lines) run before n
  pub each : 0 < length old → (line : ℕ) → slice_index_or new line 0 ≡ slice_index_or old line 0 + steps_at (table_line lines) run before line n

-- the same of a run from its first step on, which belongs to line 0 where its program counter has no line
pub record Adds (lines : List ℕ) (run : ℕ → Run CpuState) (n : ℕ) (old new : List ℕ) : Type 0 where
  pub long : length new ≡ length old
  pub each : 0 < length old → (line : ℕ) → slice_index_or new line 0 ≡ slice_index_or old line 0 + steps_at (table_line lines) run 0 line n

-- of steps that a loop takes until one does not go, those that it begins
abbrev pub begun : (went most : ℕ) → ℕ
begun went most = if nat_lt went most then went + 1 else went
