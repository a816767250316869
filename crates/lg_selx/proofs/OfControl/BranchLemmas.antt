-- Branches on conditions lead where they are to.
use Rattle.std.proofs.Common.{ℕ, ◌^◌, ◌<◌, ◌≤◌, List, None, subst, length}
use Rattle.lg_base.specs.Layout.{most_code}
use Rattle.lg_base.specs.declared.target.Target.TheVariants.{X86_64}
use Rattle.lg_op.specs.Operators.{holds}
use Rattle.lg_x86.specs.Spelling.{IsInstr}
use Rattle.lg_cpu.specs.Laws.{AreBytes}
use Rattle.lg_cpu.specs.X86Step.{scene_of}
use Rattle.lg_temp.specs.Abis.{register_of}
use Rattle.lg_selx_values.specs.Processor.X86Computers.{x86_scratch}
use Rattle.lg_selx_values.specs.Processor.MakingNodes.{scene}
use Rattle.lg_selx_values.specs.Processor.X86Rows.{x86_rows, x86_seen}
use Rattle.lg_selx_values.proofs.OfProcessor.MakingLemmas.{makings-still}
use Rattle.lg_carry.specs.Nodes.Leaps.{BranchesLead}
use Rattle.lg_sel.specs.declared.reach.Reach.{Reach}
use Rattle.lg_selx.specs.Control.Branches.{before_branch, taken}
use Rattle.lg_selx.specs.Control.TwoWays.{branch_code}
use Rattle.lg_selx.proofs.OfControl.ComparisonLemmas.{branch-tells}
use Rattle.lg_selx.proofs.OfControl.SpareLemmas.{framed}
use Rattle.lg_selx.proofs.OfControl.TwoWayLemmas.{two-ways}

pub branches-lead : (r : Reach) (code : List ℕ) (trash : ℕ) → length code ≤ most_code → AreBytes code → trash < 2 ^ 64
    → BranchesLead (x86_rows code trash) x86_scratch IsInstr (branch_code r)
branches-lead r code trash small bytes word frame o a b x y from to q f k there next runs at ea eb near =
    let words : x < 2 ^ 64 = subst (λ z. z < 2 ^ 64) ea (f.seen.words (register_of X86_64 a)) in
    let spare = framed frame (x86_seen q) f in
    -- it says so where there is no memory too
    let bare = branch-tells o frame x y a (scene q.state.registers q.state.flags (λ n. None)) spare ea words near b eb in
    two-ways code trash small bytes word r (before_branch frame o a b) (taken o) from to q k runs at (holds o x y) there next q.state.registers
    (branch-tells o frame x y a (scene_of q.state) spare ea words near b eb)
    (makings-still (before_branch frame o a b) q.state.registers q.state.flags (scene q.state.registers bare.flags (λ n. None)) bare.makes_it)
