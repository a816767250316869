-- Branches that add or subtract lead where they are to.
use Rattle.std.proofs.Common.{◌≡◌, ◌≢◌, ℕ, ◌^◌, ◌<◌, ◌≤◌, Bool, true, false, List, ap, ◌∙◌, arith, length, length-append}
use Rattle.std.specs.Prelude.{◌==◌, if◌then◌else◌}
use Rattle.lg_base.specs.Layout.{most_code}
use Rattle.lg_base.specs.declared.target.Target.TheVariants.{Riscv64}
use Rattle.lg_op.specs.declared.op.BranchSumOp.{BranchSumOp}
use Rattle.lg_op.specs.declared.op.BranchSumOp.TheVariants as sum
use Rattle.lg_op.specs.declared.operand.Operand.{Operand}
use Rattle.lg_op.specs.declared.operand.Operand.TheVariants as operand
use Rattle.lg_op.specs.Operators.{branch_sum_value, branch_sum_goes}
use Rattle.lg_rv.specs.Spelling.{IsInstr}
use Rattle.lg_cpu.specs.Laws.{AreBytes}
use Rattle.lg_cpu.specs.RvOperators.{is_taken}
use Rattle.lg_cpu.specs.RvStep.{read}
use Rattle.lg_temp.specs.Abis.{register_of}
use Rattle.lg_carry.specs.Spills.{with_register}
use Rattle.lg_selr_values.specs.Processor.Computations.{computed}
use Rattle.lg_selr_values.specs.Processor.RvRows.{rv_rows}
use Rattle.lg_selr_values.proofs.OfProcessor.ComputationLemmas.{computed-append, all-compute-append}
use Rattle.lg_selr_values.proofs.OfProcessor.RegisterLemmas.{register-apart, register-nonzero}
use Rattle.lg_sel.specs.Control.SumBranches.{SumBranchesLead}
use Rattle.lg_sel.proofs.OfControl.RegisterLemmas.{with-word}
use Rattle.lg_sel.specs.declared.reach.Reach.{Reach}
use Rattle.lg_selr.specs.Control.ControlItems.{second_register}
use Rattle.lg_selr.specs.Control.SumBranches.{sum_code, staying}
use Rattle.lg_selr_values.specs.Processor.RvComputers.{rv_scratch}
use Rattle.lg_selr.specs.Control.TwoWays.{second_code, before_sum_branch, sum_branch_code}
use Rattle.lg_selr.proofs.OfControl.BranchLemmas.{read-other}
use Rattle.lg_selr_values.proofs.OfProcessor.RegisterLemmas.{read-of}
use Rattle.lg_selr.proofs.OfControl.SumLemmas.{sums, sum-computes}
use Rattle.lg_selr.proofs.OfControl.TwoWayLemmas.{IsMade, second-made, two-ways}

few-sums : (o : BranchSumOp) (a b : ℕ) → length (sum_code o a b) ≤ 5
few-sums sum.OverflowAdd a b = omega arith
few-sums o a b = omega arith

second-apart : (x : Operand) → second_register x ≢ 31
second-apart (operand.Reg b) = (register-apart b).1
second-apart (operand.Number v) = by (v == 0)
  where
    by : (b : Bool) → ◌≢◌ {A = ℕ} (if b then 0 else 1) 31
    by true = λ z. cc
    by false = λ z. cc
second-apart (operand.Host name) = λ z. cc
second-apart x = λ z. cc

pub sum-branches-lead : (r : Reach) (code : List ℕ) (trash : ℕ) → length code ≤ most_code → AreBytes code → trash < 2 ^ 64
    → SumBranchesLead (rv_rows code trash) rv_scratch IsInstr (sum_branch_code r)
sum-branches-lead reach code trash small bytes word frame o a b x y from to q f k there next runs at some ea hx eb hy =
    let w : ℕ → ℕ = q.state.registers in
    let ra : ℕ = register_of Riscv64 a in
    let made : IsMade b y w = second-made b y w eb hy in
    let w1 : ℕ → ℕ = computed (second_code b) w in
    let reads : read w1 ra ≡ x = read-other w w1 ra (made.others ra (register-apart a).0) ∙ read-of w a ∙ ea in
    let c = sums w1 ra (second_register b) x y (register-nonzero a) (register-apart a).0 (register-apart a).1 (second-apart b) reads made.value hx hy o in
    let body = sum_code o ra (second_register b) in
    let all = computed-append (second_code b) body w in
    let few : length (before_sum_branch o a b) ≤ 60 = let l = length-append (second_code b) body in let m = made.few in let n =
    few-sums o ra (second_register b) in omega (arith, l, m, n) in
    two-ways reach code trash small bytes word (before_sum_branch o a b) (staying o) 31 0 from to q k
    (all-compute-append (second_code b) body made.computes (sum-computes o ra (second_register b))) few runs at (branch_sum_goes o x y) there next
    (ap (λ (u : ℕ → ℕ). is_taken (staying o) (read u 31) 0) all ∙ c.taken)
    (with_register w ra (branch_sum_value o x y))
    (λ z z1 z31. with-word (computed (before_sum_branch o a b) w) w ra (branch_sum_value o x y) z (ap (λ u. u ra) all ∙ c.value)
    (λ other. ap (λ u. u z) all ∙ c.others z z1 z31 other ∙ made.others z z1))
