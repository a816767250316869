-- The forms of code that leads to a label: back to one that is bound the shortest, and ahead the one that the buffer's size asks for.
use Rattle.std.specs.Prelude.{◌≡◌, ℕ, ◌+◌, Bool, true, false, List, ◌∷◌, ◌++◌, length, ⊤}
use Rattle.std.specs.List.{All}
use Rattle.lg_carry.specs.Blocks.{spellings}
use Rattle.lg_op.specs.declared.op.ControlOp.TheVariants as control
use Rattle.lg_op.specs.declared.op.LastOperand.TheVariants as last_operand
use Rattle.lg_op.specs.declared.op.Op.{Op}
use Rattle.lg_op.specs.declared.op.Op.TheVariants as op
use Rattle.lg_sel.specs.Holes.{Each}
use Rattle.lg_sel.specs.TargetCodes.{TargetCode}
use Rattle.lg_sel.specs.declared.reach.Reach.{Reach}

-- bytes that begin at a place are the spellings of instructions. The first ones do not count from their own place; the others, the first of which does, have
-- a form, at the place where they begin
pub record LeadsBy {I : Type 0} (spelling : I → List ℕ) (fits : I → Type 0) (is_relative : I → Bool) (has_form : ℕ → List I → Type 0) (place : ℕ)
    (bytes : List ℕ) : Type 0 where
  pub front : List I
  pub leap : I
  pub rest : List I
  pub fit : All fits (front ++ leap ∷ rest)
  pub bytes_are : bytes ≡ spellings spelling (front ++ leap ∷ rest)
  pub before : Each (λ i. is_relative i ≡ false) front
  pub leads : is_relative leap ≡ true
  pub form : has_form (place + length (spellings spelling front)) (leap ∷ rest)

-- ---- of a node with this operation, whose first operand is the label
-- the shortest form back to a goal, of bytes that begin at a place
abbrev pub IsShort : TargetCode → Op → ℕ → ℕ → List ℕ → Type 0
IsShort T (op.Branch o last) goal place bytes = T.branches_back goal place bytes
IsShort T (op.BranchSum o last) goal place bytes = T.branches_back goal place bytes
IsShort T (op.Control control.Jmp last_operand.Immediate) goal place bytes = T.jumps_back goal place bytes
IsShort T (op.Control control.Call last_operand.Immediate) goal place bytes = T.calls_back goal place bytes
IsShort T (op.Control control.Finish last_operand.Immediate) goal place bytes = T.calls_back goal place bytes
IsShort T o goal place bytes = ⊤

-- the form ahead, to a label that is not bound yet, with the reach that the buffer's size asks for
abbrev pub IsAhead : TargetCode → Reach → Op → ℕ → List ℕ → Type 0
IsAhead T reach (op.Branch o last) place bytes = T.branches_ahead reach place bytes
IsAhead T reach (op.BranchSum o last) place bytes = T.branches_ahead reach place bytes
IsAhead T reach (op.Control control.Jmp last_operand.Immediate) place bytes = T.jumps_ahead reach place bytes
IsAhead T reach (op.Control control.Call last_operand.Immediate) place bytes = T.calls_ahead reach place bytes
IsAhead T reach (op.Control control.Finish last_operand.Immediate) place bytes = T.calls_ahead reach place bytes
IsAhead T reach o place bytes = ⊤
