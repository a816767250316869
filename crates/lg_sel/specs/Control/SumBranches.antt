-- Branches that add or subtract: what a target's code of them does, wherever it is, and that nodes with this code are carried.
use Rattle.std.specs.Prelude.{◌≡◌, ◌≢◌, ℕ, ◌^◌, ◌<◌, Bool, true, List, [], ◌∷◌, slice_index, Some, if◌then◌else◌, false}
use Rattle.lg_base.specs.Runs.{Running}
use Rattle.lg_op.specs.declared.op.BranchSumOp.{BranchSumOp}
use Rattle.lg_op.specs.declared.op.Op.TheVariants as op
use Rattle.lg_op.specs.declared.operand.Label.{Label}
use Rattle.lg_op.specs.declared.operand.Operand.{Operand}
use Rattle.lg_op.specs.declared.operand.Operand.TheVariants as operand
use Rattle.lg_op.specs.declared.operand.Reg.{Reg}
use Rattle.lg_op.specs.declared.operand.Reg.TheVariants.{Fp}
use Rattle.lg_op.specs.declared.node.Node.{Node}
use Rattle.lg_op.specs.Operators.{branch_sum_value, branch_sum_goes}
use Rattle.lg_temp.specs.Abis.{register_of}
use Rattle.lg_carry.specs.FinalNodes.{Code}
use Rattle.lg_carry.specs.NodeCode.{CarriesNode}
use Rattle.lg_carry.specs.Passages.{IsNodeCode}
use Rattle.lg_carry.specs.Rows.{Rows}
use Rattle.lg_carry.specs.Spills.{with_register}
use Rattle.lg_carry.specs.TextNodes.{IsInText, IsFrameOf}
use Rattle.lg_carry.specs.Nodes.Leaps.{HasPlaces, IsThere, second_word, last_of, IsSecond}
use Rattle.lg_carry.specs.Nodes.Stretches.{HasFrame, StandsAt, behind, Way}

-- the code of such a branch that is at an address leaves the sum or difference in the register of its first operand, and leads to another address where the
-- operation asks for it, and else continues after itself
abbrev pub SumBranchesLead : {Q I : Type 0} → Rows Q I → (ℕ → Bool) → (I → Type 0) → (ℕ → BranchSumOp → Reg → Operand → ℕ → ℕ → List I) → Type 0
SumBranchesLead {Q} {I} R scratch fits code =
    (frame : ℕ) (o : BranchSumOp) (a : Reg) (b : Operand) (x y from to : ℕ) (q : Q) → HasFrame R.processor.target frame (R.processor.seen q)
    → StandsAt R false fits from (code frame o a b from to) → (branch_sum_goes o x y ≡ true → IsThere R.is_place to)
    → IsThere R.is_place (behind R from (code frame o a b from to))
    → R.processor.machine.status q ≡ Running → (R.processor.seen q).pc ≡ from → a ≢ Fp → (R.processor.seen q).registers (register_of R.processor.target a) ≡ x
    → x < 2 ^ 64
    → second_word R.processor.target (R.processor.seen q).registers b ≡ Some y → y < 2 ^ 64
    → Way R.processor scratch from (behind R from (code frame o a b from to))
    (with_register (R.processor.seen q).registers (register_of R.processor.target a) (branch_sum_value o x y))
    (if branch_sum_goes o x y then to else behind R from (code frame o a b from to)) q

abbrev pub sum_branch_node : BranchSumOp → Label → Reg → Operand → ℕ → Node
sum_branch_node o l a x line = record { op = op.BranchSum o (last_of x); operands = operand.Label l ∷ operand.Reg a ∷ x ∷ []; line = line }

abbrev pub SumBranchesCarry : {Q I : Type 0} → Rows Q I → (ℕ → Bool) → (I → Type 0) → (ℕ → BranchSumOp → Reg → Operand → ℕ → ℕ → List I) → Type 0
SumBranchesCarry {Q} {I} R scratch fits code =
    (c : Code) (i : ℕ) (o : BranchSumOp) (l : Label) (a : Reg) (x : Operand) (line frame : ℕ) (S : ℕ → Bool) → IsSecond x → HasPlaces R c
    → IsInText c i (sum_branch_node o l a x line) → IsFrameOf c i frame → IsNodeCode R fits c i (code frame o a x (c.place i) (slice_index c.addresses l.0))
    → CarriesNode R.processor c i (sum_branch_node o l a x line) S
