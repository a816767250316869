-- Branches that add and subtract leave their word, and lead where they are to.
use Rattle.std.proofs.Common.{◌≡◌, ℕ, ◌^◌, ◌<◌, ◌≤◌, List, [], ◌∷◌, ap, ◌∙◌, arith, length, length-append}
use Rattle.lg_base.specs.Layout.{most_code}
use Rattle.lg_base.specs.declared.target.Target.TheVariants.{Aarch64}
use Rattle.lg_op.specs.Operators.{branch_sum_value, branch_sum_goes}
use Rattle.lg_a64.specs.Spelling.{IsInstr}
use Rattle.lg_cpu.specs.A64Operators as a64
use Rattle.lg_cpu.specs.Laws.{AreBytes}
use Rattle.lg_temp.specs.Abis.{register_of}
use Rattle.lg_carry.specs.Spills.{with_register}
use Rattle.lg_sela_values.specs.Processor.A64Computers.{a64_scratch}
use Rattle.lg_sela_values.specs.Processor.A64Rows.{a64_rows, nzcv}
use Rattle.lg_sela_values.specs.Processor.Computations.{holding, computed_by, computed}
use Rattle.lg_sela_values.proofs.OfProcessor.RegisterLemmas.{register-small, register-off-link}
use Rattle.lg_carry.specs.Values.Computers.{Held}
use Rattle.lg_carry.proofs.OfValues.ComputationLemmas.{computed-append}
use Rattle.lg_sel.specs.Control.SumBranches.{SumBranchesLead}
use Rattle.lg_sel.proofs.OfControl.RegisterLemmas.{with-word}
use Rattle.lg_sela_values.proofs.LoadCodeLemmas.{all-compute-append}
use Rattle.lg_sel.specs.declared.reach.Reach.{Reach}
use Rattle.lg_sela.specs.Control.ControlItems.{second_register}
use Rattle.lg_sela.specs.Control.SumBranches.{sum_instruction, sum_taken}
use Rattle.lg_sela.specs.Control.TwoWays.{second_code, before_sum_branch, sum_branch_code}
use Rattle.lg_sela.proofs.OfControl.BranchLemmas.{second-below}
use Rattle.lg_sela.proofs.OfControl.SumLemmas.{sums, sum-computes}
use Rattle.lg_sela.proofs.OfControl.TwoWayLemmas.{IsMade, second-made, two-ways}

pub sum-branches-lead : (r : Reach) (code : List ℕ) (trash : ℕ) → length code ≤ most_code → AreBytes code → trash < 2 ^ 64
    → SumBranchesLead (a64_rows code trash) a64_scratch IsInstr (sum_branch_code r)
sum-branches-lead r code trash small bytes word frame o a b x y from to q f k there next runs at some ea hx eb hy =
    let w : Held = holding q.state.registers (nzcv q.state.flags) in
    let ra : ℕ = register_of Aarch64 a in let rb : ℕ = second_register b in
    let made : IsMade b y w = second-made b y w eb hy in
    let w1 : Held = computed (second_code b) w in
    let body = sum_instruction o ra rb ∷ [] in
    let reads : w1.registers ra ≡ x = made.others ra (register-off-link a) ∙ ea in
    let la = register-small a in
    let c = sums ra rb x y (omega (arith, la)) (second-below b) w1 reads made.value hx hy o in
    let few : length (before_sum_branch o a b) ≤ 60 = let l = length-append (second_code b) body in let m = made.few in omega (arith, l, m) in
    let all = computed-append computed_by (second_code b) body w in
    two-ways r code trash small bytes word (before_sum_branch o a b) (sum_taken o) from to q k
    (all-compute-append (second_code b) body made.computes (sum-computes o ra rb)) few runs at (branch_sum_goes o x y) there next
    (ap (λ u. a64.condition_holds (sum_taken o) u.flags) all ∙ c.goes)
    (with_register q.state.registers ra (branch_sum_value o x y))
    (λ z off. with-word (computed (before_sum_branch o a b) w).registers q.state.registers ra (branch_sum_value o x y) z (ap (λ u. u.registers ra) all ∙ c.value)
    (λ other. ap (λ u. u.registers z) all ∙ c.others z other ∙ made.others z off))
