-- Where the code of a node stands, and what is asked of its items.
use Rattle.std.specs.Prelude.{◌≡◌, ℕ, ◌^◌, ◌<◌, ◌≤◌, Bool, true, false, List, length}
use Rattle.lg_base.specs.Layout.{most_code}
use Rattle.lg_carry.specs.Carries.{leaps}
use Rattle.lg_carry.specs.FinalNodes.{Code}
use Rattle.lg_carry.specs.Passages.{IsNodeCode}
use Rattle.lg_carry.specs.Rows.{Rows}
use Rattle.lg_cpu.specs.Laws.{AreBytes}
use Rattle.lg_op.specs.Nodes.{InForm}
use Rattle.lg_op.specs.declared.node.Node.{Node}
use Rattle.lg_sel.specs.Control.Control.{is_control, ends_in_label}
use Rattle.lg_carry.specs.Nodes.Operands.{AreGiven}

-- the code that the processor runs, in which these instructions are those of node i; the registers that a call does not keep hold a word after it
pub record StandsInCode {Q I : Type 0} (R : Rows Q I) (fits : I → Type 0) (trash : ℕ) (c : Code) (i : ℕ) (is : List I) : Type 0 where
  pub small : length R.code ≤ most_code
  pub bytes : AreBytes R.code
  pub word : trash < 2 ^ 64
  pub node : IsNodeCode R fits c i is

-- where the operands are those of the operation, which name labels of the buffer, the items fit a buffer with this many labels, and a node that transfers
-- control has some
abbrev pub IsFit : {L : Type 0} → (ℕ → Bool → List L → Type 0) → Node → ℕ → List L → Type 0
IsFit fit n labels xs =
    is_control n.op ≡ true → InForm n → AreGiven labels n.operands → ends_in_label n.operands ≡ false → fit labels (leaps n.op) xs
