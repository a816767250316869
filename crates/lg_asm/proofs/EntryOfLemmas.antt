-- The function with which a run begins, found node by node.
use Rattle.std.proofs.Common.{◌≡◌, ℕ, zero, suc, ◌≤◌, true, false, List, [], ◌∷◌, Some, refl, ap, ◌∙◌, arith, length}
use Rattle.std.specs.Prelude.{slice_get, drop, if◌then◌else◌}
use Rattle.lg_op.specs.declared.node.Node.{Node}
use Rattle.lg_op.specs.declared.op.Op.{Op}
use Rattle.lg_op.specs.declared.op.Op.TheVariants as op
use Rattle.lg_node.specs.Nodes.{LabelledNodes}
use Rattle.lg_meaning.specs.Steps.{operand_at, node_of_label}
use Rattle.lg_carry.specs.Entries.{is_align, is_jump, entry_from, entry_at}
use Rattle.lg_carry.proofs.EntryLemmas.{entry-jumped}

drop-at : (xs : List Node) (i : ℕ) (x : Node) → slice_get xs i ≡ Some x → drop i xs ≡ x ∷ drop (suc i) xs
drop-at [] i x e = cc
drop-at (y ∷ ys) zero x e = let same : y ≡ x = cc in ap (λ z. z ∷ ys) same
drop-at (y ∷ ys) (suc i) x e = drop-at ys i x e

drop-past : (xs : List Node) (i : ℕ) → length xs ≤ i → drop i xs ≡ []
drop-past [] zero le = refl
drop-past [] (suc i) le = refl
drop-past (y ∷ ys) zero le = absurd (omega (arith, le))
drop-past (y ∷ ys) (suc i) le = drop-past ys i (omega (arith, le))

pub entry-end : (l : LabelledNodes) (i : ℕ) → length l.nodes ≤ i → entry_at l i ≡ i
unfolding entry_from
entry-end l i le = ap (λ xs. entry_from l.places xs i) (drop-past l.nodes i le)

-- at any other node than `.align` and `jmpi`
pub entry-other : (l : LabelledNodes) (i : ℕ) (n : Node) → slice_get l.nodes i ≡ Some n → is_align n.op ≡ false → is_jump n.op ≡ false → entry_at l i ≡ i
unfolding entry_from
entry-other l i n here e f =
    ap (λ xs. entry_from l.places xs i) (drop-at l.nodes i n here)
    ∙ ap (λ b. if b then entry_from l.places (drop (suc i) l.nodes) (suc i) else if is_jump n.op then node_of_label l.places (operand_at n 0) else i) e
    ∙ ap (λ b. if b then node_of_label l.places (operand_at n 0) else i) f

-- a jump is no `.align`
one-kind : (o : Op) → is_jump o ≡ true → is_align o ≡ false
one-kind (op.Control o last) e = refl
one-kind (op.Plain o) e = cc
one-kind o e = cc

-- by a `jmpi`
pub entry-by : (l : LabelledNodes) (i : ℕ) (n : Node) → slice_get l.nodes i ≡ Some n → is_jump n.op ≡ true → entry_at l i ≡ node_of_label l.places (operand_at n 0)
entry-by l i n here e = entry-jumped l i n here (one-kind n.op e) e
