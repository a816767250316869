-- What threading jumps makes of nodes.
use Rattle.std.specs.Prelude.{◌≡◌, ◌⊎◌, ℕ, ◌<◌, ◌==◌, ◌&&◌, Bool, true, false, if◌then◌else◌, Some, slice_get}
use Rattle.lg_op.specs.declared.node.Node.{Node}
use Rattle.lg_node.specs.Nodes.{LabelledNodes}
use Rattle.lg_meaning.specs.States.{State}
use Rattle.lg_meaning.specs.Steps.{operand_at, node_of_label}
use Rattle.lg_meaning.specs.Texts.{text}
use Rattle.lg_opt.specs.Renumbered.{Renumbers, IsRewritten}
use Rattle.lg_opt.specs.Paired.{Pair}
use Rattle.lg_opt.specs.Hops.{jump_at, hop}

-- how the jumps of nodes were threaded: which nodes stay, and their new numbers; which jumps turn, and of the others the new node to which they
-- lead in the end
pub record Threaded : Type 0 where
  pub stays : ℕ → Bool
  pub number : ℕ → ℕ
  pub turns : ℕ → Bool
  pub goal : ℕ → ℕ
  pub depth : ℕ → ℕ

-- the new run is at the new number of the old run's node, or already where the jump there leads in the end
abbrev pub Lands : LabelledNodes → Threaded → ℕ → ℕ → Type 0
Lands l h k n = (n ≡ h.number k) ⊎ ((jump_at l k ≡ true) × (h.turns k ≡ false) × (n ≡ h.goal k))

-- the node that is in the place of another
pub record StandsFor (p : Pair) (h : Threaded) (i : ℕ) (n : Node) : Type 0 where
  pub node : Node
  pub here : slice_get p.new.nodes (h.number i) ≡ Some node
  pub rewritten : IsRewritten (text p.old p.old_shape p.addresses) (text p.new p.new_shape p.addresses) h.number (Lands p.old h) n node
  pub threaded : jump_at p.old i ≡ true → h.turns i ≡ false → node_of_label p.new.places (operand_at node 0) ≡ h.goal i

pub record IsThreadedBy (p : Pair) (h : Threaded) : Type 0 where
  -- jumps alone are dropped
  pub only : (i : ℕ) → jump_at p.old i ≡ false → h.stays i ≡ true
  pub nodes : (i : ℕ) (n : Node) → slice_get p.old.nodes i ≡ Some n → h.stays i ≡ true → StandsFor p h i n
  pub renumbers : (i : ℕ) → h.stays i ≡ true → Renumbers (text p.old p.old_shape p.addresses) (text p.new p.new_shape p.addresses) h.number (Lands p.old h) i
  -- a jump that does not turn leads to another such, one jump nearer to the end, or to the end
  pub leads : (i : ℕ) → jump_at p.old i ≡ true → h.turns i ≡ false → Lands p.old h (hop p.old i) (h.goal i)
  pub ends : (i : ℕ) → jump_at p.old i ≡ true → h.turns i ≡ false → (h.turns (hop p.old i) ≡ false) × (h.depth (hop p.old i) < h.depth i)
  pub dropped : (i : ℕ) → jump_at p.old i ≡ true → h.turns i ≡ false → h.stays i ≡ false → h.number i ≡ h.goal i
  -- one that turns leads to another such; it is dropped only where it leads to the next node that stays
  pub turning : (i : ℕ) → jump_at p.old i ≡ true → h.turns i ≡ true → (jump_at p.old (hop p.old i) ≡ true) × (h.turns (hop p.old i) ≡ true)
  pub forward : (i : ℕ) → jump_at p.old i ≡ true → h.turns i ≡ true → h.stays i ≡ false → (i < hop p.old i) × (h.number (hop p.old i) ≡ h.number i)

-- the new run steps with the old one but at a jump that is dropped, and one that it has already made
abbrev pub moves : LabelledNodes → Threaded → State → State → Bool
moves l h s m = if jump_at l s.at then (if h.turns s.at then h.stays s.at else h.stays s.at && (m.at == h.number s.at)) else true
