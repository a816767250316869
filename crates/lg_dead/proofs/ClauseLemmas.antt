-- What dropping dead definitions promises.
use Rattle.std.proofs.Common.{◌≡◌, ℕ, ◌≤◌, Bool, List, [], length, refl, sym, ap, subst, arith}
use Rattle.std.specs.List.{All}
use Rattle.lg_op.specs.Nodes.{InForm}
use Rattle.lg_node.specs.Functions.{functions}
use Rattle.lg_node.specs.Nodes.{LabelledNodes, MayStand}
use Rattle.lg_node.specs.Shapes.{TextShape, IsShapeOf}
use Rattle.lg_opt.specs.Remaining.{rewritten, no_targets}
use Rattle.lg_opt.specs.Rewritings.{IsOrigin, IsSameNode, KeepsOthers, KeepsLabels, CarriesAddresses, RunsAreDropped}
use Rattle.lg_opt.proofs.MovedLemmas.{new-count}
use Rattle.lg_opt.proofs.OriginLemmas.{origin-is, keeps-others, keeps-labels, carries-addresses}
use Rattle.lg_opt.proofs.RemainingLemmas.{number-most}
use Rattle.lg_live.specs.Definitions.{defines}
use Rattle.lg_dead.specs.Known.{HasNoFolds}
use Rattle.lg_dead.specs.Dropping.{IsDroppedTo}
use Rattle.lg_dead.specs.Dead.{AllAreOfUse, stays}
use Rattle.lg_dead.proofs.DeadRunLemmas.{gone-rewrite, dead-dropped}
use Rattle.lg_dead.proofs.NoFoldLemmas.{dead-keeps}
use Rattle.lg_dead.proofs.NeededLemmas.{are-needs, all-of-use}

module _ (l : LabelledNodes) (shape : TextShape) (is : IsShapeOf l shape) (formed : All InForm l.nodes) (placed : All (MayStand (length l.nodes)) l.places) (m : LabelledNodes) (new_shape : TextShape) (origin : List ℕ) (d : IsDroppedTo l shape m new_shape origin) where
  abbrev keep : ℕ → Bool
  keep = stays d.needs l

  abbrev dm : LabelledNodes
  dm = rewritten l (stays d.needs l) no_targets

  pub dead-origin : IsOrigin IsSameNode l m origin
  dead-origin = subst (λ (x : LabelledNodes). IsOrigin IsSameNode l x origin) (sym d.nodes) (subst (IsOrigin IsSameNode l dm) (sym d.from) (origin-is l keep no_targets IsSameNode (λ i n e. refl)))

  pub dead-others : KeepsOthers defines l origin
  dead-others = subst (KeepsOthers defines l) (sym d.from) (keeps-others l keep no_targets defines (λ i n e s. ((are-needs l shape d.needs d.exact d.fp).gone i n e s).0))

  pub dead-few : length m.nodes ≤ length l.nodes
  dead-few = omega (arith, ap (λ (x : LabelledNodes). length x.nodes) d.nodes, new-count l keep no_targets, number-most keep (length l.nodes))

  pub dead-labels : KeepsLabels l m origin
  dead-labels = subst (λ (x : LabelledNodes). KeepsLabels l x origin) (sym d.nodes) (subst (KeepsLabels l dm) (sym d.from) (keeps-labels l keep no_targets placed))

  pub dead-of-use : AllAreOfUse m new_shape
  dead-of-use = subst (λ (x : LabelledNodes). AllAreOfUse x new_shape) (sym d.nodes)
      (all-of-use l shape d.needs d.exact d.fp new_shape (gone-rewrite l shape new_shape keep d.needs [] is formed (are-needs l shape d.needs d.exact d.fp)) is.accepted d.taken)

  pub dead-folds : HasNoFolds l → HasNoFolds m
  dead-folds none = subst HasNoFolds (sym d.nodes) (dead-keeps l shape keep d.needs formed (are-needs l shape d.needs d.exact d.fp) none)

  pub dead-addresses : CarriesAddresses l m
  dead-addresses = subst (CarriesAddresses l) (sym d.nodes) (carries-addresses l keep no_targets (gone-rewrite l shape new_shape keep d.needs [] is formed (are-needs l shape d.needs d.exact d.fp)) is.accepted)

  pub dead-runs : RunsAreDropped l shape m new_shape origin
  dead-runs = subst (λ (x : LabelledNodes). RunsAreDropped l shape x new_shape origin) (sym d.nodes) (subst (RunsAreDropped l shape dm new_shape) (sym d.from)
      (λ size A at. dead-dropped l shape new_shape keep d.needs A is formed (are-needs l shape d.needs d.exact d.fp) (subst (λ (x : LabelledNodes). new_shape.functions ≡ functions x.nodes) d.nodes d.shaped.functions) d.taken size at))
