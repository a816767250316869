-- The way to the function with which a run begins.
use Rattle.std.proofs.Common.{◌≡◌, ℕ, zero, suc, ◌+◌, true, false, List, [], ◌∷◌, Option, Some, None, refl, sym, ap, ◌∙◌, arith}
use Rattle.std.specs.Prelude.{slice_get, drop, if◌then◌else◌}
use Rattle.lg_op.specs.declared.node.Node.{Node}
use Rattle.lg_op.specs.declared.op.Op.{Op}
use Rattle.lg_op.specs.declared.op.Op.TheVariants as op
use Rattle.lg_op.specs.declared.op.PlainOp.TheVariants as plain
use Rattle.lg_node.specs.Functions.{is_prolog, is_prolog_at}
use Rattle.lg_node.specs.Nodes.{LabelledNodes}
use Rattle.lg_meaning.specs.Steps.{operand_at, node_of_label}
use Rattle.lg_carry.specs.Entries.{is_align, is_jump, entry_from, entry_at}

drop-at : (xs : List Node) (i : ℕ) (x : Node) → slice_get xs i ≡ Some x → drop i xs ≡ x ∷ drop (suc i) xs
drop-at [] i x e = cc
drop-at (y ∷ ys) zero x e = let same : y ≡ x = cc in ap (λ z. z ∷ ys) same
drop-at (y ∷ ys) (suc i) x e = drop-at ys i x e

module _ (l : LabelledNodes) (i : ℕ) (n : Node) (here : slice_get l.nodes i ≡ Some n) where
  here-first : entry_at l i
      ≡ (if is_align n.op then entry_from l.places (drop (suc i) l.nodes) (suc i) else if is_jump n.op then node_of_label l.places (operand_at n 0) else i)
  unfolding entry_from
  here-first = ap (λ xs. entry_from l.places xs i) (drop-at l.nodes i n here)

  -- over `.align`
  pub entry-aligned : is_align n.op ≡ true → entry_at l (i + 1) ≡ entry_at l i
  entry-aligned e =
      let z : i + 1 ≡ suc i = omega arith in
      ap (entry_at l) z
      ∙ sym (here-first ∙ ap (λ b. if b then entry_from l.places (drop (suc i) l.nodes) (suc i) else if is_jump n.op then node_of_label l.places (operand_at n 0) else i) e)

  -- by a `jmpi`
  pub entry-jumped : is_align n.op ≡ false → is_jump n.op ≡ true → entry_at l i ≡ node_of_label l.places (operand_at n 0)
  entry-jumped e f =
      here-first ∙ ap (λ b. if b then entry_from l.places (drop (suc i) l.nodes) (suc i) else if is_jump n.op then node_of_label l.places (operand_at n 0) else i) e
      ∙ ap (λ b. if b then node_of_label l.places (operand_at n 0) else i) f

  -- at a `prolog`
  pub entry-here : is_prolog n.op ≡ true → entry_at l i ≡ i
  entry-here p =
      let k = others n.op p in
      here-first ∙ ap (λ b. if b then entry_from l.places (drop (suc i) l.nodes) (suc i) else if is_jump n.op then node_of_label l.places (operand_at n 0) else i) k.0
      ∙ ap (λ b. if b then node_of_label l.places (operand_at n 0) else i) k.1
    where
      others : (o : Op) → is_prolog o ≡ true → (is_align o ≡ false) × (is_jump o ≡ false)
      others (op.Plain plain.Prolog) e = (refl, refl)
      others (op.Plain o) e = cc
      others o e = cc

-- the same, of what is at a node
pub entry-prolog : (l : LabelledNodes) (i : ℕ) → is_prolog_at (slice_get l.nodes i) ≡ true → entry_at l i ≡ i
entry-prolog l i e = by (slice_get l.nodes i) refl e
  where
    by : (o : Option Node) → slice_get l.nodes i ≡ o → is_prolog_at o ≡ true → entry_at l i ≡ i
    by None h e = cc
    by (Some n) h e = entry-here l i n h e
