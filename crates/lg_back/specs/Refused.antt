-- Texts that are no listing, and the line to blame.
use Rattle.std.specs.Prelude.{◌≡◌, ℕ, ◌+◌, ◌<◌, ◌⊎◌, List, [], length}
use Rattle.lg_base.specs.declared.target.Target.{Target}
use Rattle.lg_list.specs.Lines.{Entry, joined}
use Rattle.lg_back.specs.Reading.{HasHead, HasNoLine, HasLines, address_after}

-- it begins with no first line of a listing; so does the empty text
pub record HasNoHead (text : List ℕ) (line : ℕ) : Type 0 where
  pub none : (t : Target) (count : ℕ) → ¬ HasHead text t count
  pub line_is : line ≡ 1

-- after its first line and this many of the form stands something else
pub record HasBadLine (text : List ℕ) (line : ℕ) : Type 0 where
  pub t : Target
  pub count : ℕ
  pub lines : List Entry
  pub rest : List ℕ
  pub front : HasLines text t count lines rest
  pub some : 0 < length rest
  pub none : HasNoLine t (address_after lines) rest
  pub line_is : line ≡ length lines + 2

-- all its lines are of the form, and the first names another number of bytes than they have
pub record HasBadCount (text : List ℕ) (line : ℕ) : Type 0 where
  pub t : Target
  pub count : ℕ
  pub lines : List Entry
  pub front : HasLines text t count lines []
  pub other : ¬ (count ≡ length (joined lines))
  pub line_is : line ≡ 1

-- a text is no listing, and this is the first line that is not of the form, or 1 where all are and the number is another
abbrev pub IsBadListing : List ℕ → ℕ → Type 0
IsBadListing text line = HasNoHead text line ⊎ (HasBadLine text line ⊎ HasBadCount text line)
