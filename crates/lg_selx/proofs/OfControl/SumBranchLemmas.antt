-- Branches that add and subtract leave their word, and lead where they are to.
use Rattle.std.proofs.Common.{ℕ, ◌^◌, ◌<◌, ◌≤◌, List, None, length}
use Rattle.lg_base.specs.Layout.{most_code}
use Rattle.lg_base.specs.declared.target.Target.TheVariants.{X86_64}
use Rattle.lg_op.specs.Operators.{branch_sum_value, branch_sum_goes}
use Rattle.lg_x86.specs.Spelling.{IsInstr}
use Rattle.lg_cpu.specs.Laws.{AreBytes}
use Rattle.lg_cpu.specs.X86Step.{scene_of}
use Rattle.lg_temp.specs.Abis.{register_of}
use Rattle.lg_carry.specs.Spills.{with_register}
use Rattle.lg_selx_values.specs.Processor.X86Computers.{x86_scratch}
use Rattle.lg_selx_values.specs.Processor.MakingNodes.{scene}
use Rattle.lg_selx_values.specs.Processor.X86Rows.{x86_rows, x86_seen}
use Rattle.lg_selx_values.proofs.OfProcessor.MakingLemmas.{makings-still}
use Rattle.lg_sel.specs.Control.SumBranches.{SumBranchesLead}
use Rattle.lg_sel.specs.declared.reach.Reach.{Reach}
use Rattle.lg_selx.specs.Control.SumBranches.{before_sum_branch, sum_taken}
use Rattle.lg_selx.specs.Control.TwoWays.{sum_branch_code}
use Rattle.lg_selx.proofs.OfControl.SpareLemmas.{framed}
use Rattle.lg_selx.proofs.OfControl.SumLemmas.{sum-tells}
use Rattle.lg_selx.proofs.OfControl.TwoWayLemmas.{two-ways}

pub sum-branches-lead : (r : Reach) (code : List ℕ) (trash : ℕ) → length code ≤ most_code → AreBytes code → trash < 2 ^ 64
    → SumBranchesLead (x86_rows code trash) x86_scratch IsInstr (sum_branch_code r)
sum-branches-lead r code trash small bytes word frame o a b x y from to q f k there next runs at some ea hx eb hy =
    let W : ℕ → ℕ = with_register q.state.registers (register_of X86_64 a) (branch_sum_value o x y) in
    let spare = framed frame (x86_seen q) f in
    -- it says so where there is no memory too
    let bare = sum-tells o frame x y a (scene q.state.registers q.state.flags (λ n. None)) spare ea some hy b eb in
    two-ways code trash small bytes word r (before_sum_branch frame o a b) (sum_taken o) from to q k runs at (branch_sum_goes o x y) there next W
    (sum-tells o frame x y a (scene_of q.state) spare ea some hy b eb)
    (makings-still (before_sum_branch frame o a b) q.state.registers q.state.flags (scene W bare.flags (λ n. None)) bare.makes_it)
