-- A step that is undefined has a reason.
use Rattle.std.proofs.Common.{◌≡◌, ℕ, None, Option, subst}
use Rattle.std.specs.List.{All}
use Rattle.std.proofs.lemmas.Option.{get_or_from_slice_get, slice_get_within}
use Rattle.lg_meaning.specs.Laws.{IsFormedAt, IsWhy}
use Rattle.lg_meaning.specs.Steps.{Outcome, Undefined}
use Rattle.lg_meaning.specs.declared.reason.Reason.{Reason}
use Rattle.lg_node.specs.Nodes.{LabelledNodes}
use Rattle.lg_op.specs.Nodes.{InForm}

pub formed_at : (l : LabelledNodes) (i : ℕ) → All InForm l.nodes → IsFormedAt l i
formed_at l i formed n here = subst InForm (get_or_from_slice_get l.nodes i n n here) (formed i n (slice_get_within l.nodes i n here))

pub no_reason : (o : Outcome) (r : Option Reason) → o ≡ Undefined → r ≡ None → IsWhy o r → ⊥
no_reason o r is none why = let some = subst (λ x. IsWhy Undefined x) none (subst (λ x. IsWhy x r) is why) in cc
