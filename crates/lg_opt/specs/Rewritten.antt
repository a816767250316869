-- Code that carries each of the nodes that a text was rewritten to agrees with the meaning of the text.
use Rattle.std.specs.Prelude.{◌≡◌, ℕ, ◌<◌, Bool, List, [], Option, length, slice_get}
use Rattle.lg_base.specs.Runs.{IsMachine}
use Rattle.lg_node.specs.Nodes.{LabelledNodes}
use Rattle.lg_node.specs.Shapes.{TextShape}
use Rattle.lg_meaning.specs.Means.{Run, ending_of, run_at, machine, mean_from}
use Rattle.lg_meaning.specs.Steps.{Ending}
use Rattle.lg_meaning.specs.States.{State}
use Rattle.lg_temp.specs.Agrees.{AgreesAt}
use Rattle.lg_temp.specs.Paces.{KeepsPace}
use Rattle.lg_carry.specs.Processors.{Processor}
use Rattle.lg_carry.specs.FinalNodes.{Code}
use Rattle.lg_carry.specs.Stands.{Stands}
use Rattle.lg_carry.specs.Carries.{leaps_at, Carries}
use Rattle.lg_carry.specs.Endings.{HostsKeep, IsUnwritten, AreAlike}
use Rattle.lg_carry.specs.Memories.{AlikeInMemory}
use Rattle.lg_opt.specs.Follows.{LooksAlike, IsFollowed}

-- the node at which a run stands, and whether it is a branch, jump, call or return
abbrev pub at : Run → ℕ
at r = r.state.at

abbrev pub is_loud : LabelledNodes → Run → Bool
is_loud l r = leaps_at (slice_get l.nodes r.state.at)

-- the bytes of a state's memory, its heap mark, and the sizes of the data part and of the argument part; the same of a run, and how it has ended
abbrev pub Memory : Type 0
Memory = (ℕ → Option ℕ) × (ℕ × (ℕ × ℕ))

abbrev pub memory_in : State → Memory
memory_in s = (s.mem, (s.mark, (s.data_size, s.args_size)))

abbrev pub memory_of : Run → Memory × Option Ending
memory_of r = (memory_in r.state, ending_of r)

-- the run of the rewritten nodes from one state follows that of the text's nodes from another, and turns with it
abbrev pub NodesAreFollowed : LabelledNodes → TextShape → LabelledNodes → TextShape → List ℕ → State → State → Type 0
NodesAreFollowed l shape new new_shape addresses s t =
    IsFollowed (machine l shape addresses) (machine new new_shape addresses) (run_at s [])
    (run_at t []) at (is_loud new)

-- where the new run is looked at after j k steps, it has the memory of the old one, and has ended as it has
abbrev pub RemembersAlike : LabelledNodes → TextShape → LabelledNodes → TextShape → List ℕ → State → State → (ℕ → ℕ) → Type 0
RemembersAlike l shape new new_shape addresses s t j =
    LooksAlike (machine l shape addresses) (machine new new_shape addresses) (run_at s []) (run_at t [])
    j memory_of memory_of

-- both
abbrev pub MeaningIsFollowed : LabelledNodes → TextShape → LabelledNodes → TextShape → List ℕ → State → State → Type 0
MeaningIsFollowed l shape new new_shape addresses s t =
    (followed : NodesAreFollowed l shape new new_shape addresses s t) × RemembersAlike l shape new new_shape addresses s t followed.j

-- code that carries each rewritten node agrees with the meaning of the text, with the text's number of nodes in the bound
abbrev pub RewrittenCodeAgrees : {Q : Type 0} → Processor Q → Type 0
RewrittenCodeAgrees {Q} P =
    (c : Code) (before : ℕ → ℕ → Bool) (l : LabelledNodes) (shape : TextShape) (s t : State) (q : Q) (n : ℕ)
    → IsMachine P.machine → ((i : ℕ) → i < length c.nodes.nodes → Carries P c before i)
    → MeaningIsFollowed l shape c.nodes c.shape c.addresses s t
    → ((k : ℕ) → at (mean_from l shape c.addresses s k) < length l.nodes)
    → Stands P c (λ f. before f.back) t [] q (before t.at)
    → AgreesAt (machine l shape c.addresses) P.machine (length l.nodes) (run_at s []) q n

-- and keeps pace with it to the end, with what is kept for who called the entry
abbrev pub RewrittenCodeEndsAlike : {Q : Type 0} → Processor Q → Type 0
RewrittenCodeEndsAlike {Q} P =
    (c : Code) (before : ℕ → ℕ → Bool) (l : LabelledNodes) (shape : TextShape) (s t : State) (q : Q)
    → IsMachine P.machine → HostsKeep P → ((i : ℕ) → i < length c.nodes.nodes → Carries P c before i)
    → MeaningIsFollowed l shape c.nodes c.shape c.addresses s t
    → Stands P c (λ f. before f.back) t [] q (before t.at)
    → ((x : ℕ) → IsUnwritten P.target x → (P.seen q).registers x ≡ c.outer x)
    → KeepsPace (machine l shape c.addresses) P.machine (AreAlike P c) (run_at s []) q

-- and keeps pace with it, with its memory
abbrev pub RewrittenCodeKeepsPace : {Q : Type 0} → Processor Q → Type 0
RewrittenCodeKeepsPace {Q} P =
    (c : Code) (before : ℕ → ℕ → Bool) (l : LabelledNodes) (shape : TextShape) (s t : State) (q : Q)
    → IsMachine P.machine → ((i : ℕ) → i < length c.nodes.nodes → Carries P c before i)
    → MeaningIsFollowed l shape c.nodes c.shape c.addresses s t
    → Stands P c (λ f. before f.back) t [] q (before t.at)
    → KeepsPace (machine l shape c.addresses) P.machine (AlikeInMemory (machine l shape c.addresses) (λ r. r.state) P) (run_at s []) q
