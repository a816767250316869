-- Where the nodes and labels are after a rewriting.
use Rattle.std.proofs.Common.{◌≡◌, ℕ, suc, ◌+◌, ◌<◌, ◌⊎◌, inl, inr, Bool, true, false, List, [], ◌∷◌, Option, Some, None, length, refl, sym, ap, ◌∙◌, arith, add-one}
use Rattle.std.specs.Prelude.{slice_get, slice_index_or}
use Rattle.std.specs.Option.{option_map, option_flatten}
use Rattle.std.proofs.lemmas.Option.{slice_get-map, slice_get_within}
use Rattle.lg_op.specs.declared.node.Node.{Node}
use Rattle.lg_op.specs.declared.op.Op.{Op}
use Rattle.lg_op.specs.declared.op.Op.TheVariants as op
use Rattle.lg_op.specs.declared.op.ControlOp.TheVariants as control
use Rattle.lg_op.specs.declared.op.LastOperand.TheVariants as last_operand
use Rattle.lg_op.specs.declared.operand.Label.{Label}
use Rattle.lg_meaning.specs.Starts.{begins_at}
use Rattle.lg_op.specs.declared.operand.Operand.{Operand}
use Rattle.lg_op.specs.declared.operand.Operand.TheVariants as operand
use Rattle.lg_node.specs.declared.place.Place.{Place}
use Rattle.lg_node.specs.declared.place.Place.TheVariants as place
use Rattle.lg_node.specs.Functions.{local_of, local_size}
use Rattle.lg_node.specs.Labels.{place_of}
use Rattle.lg_node.specs.Nodes.{LabelledNodes}
use Rattle.lg_node.specs.ShapeLaws.{has_target}
use Rattle.lg_node.proofs.FunctionLaws.{node_within}
use Rattle.lg_meaning.specs.Steps.{operand_at, node_in, node_of_label}
use Rattle.lg_opt.proofs.TimeLemmas.{Rises, crossing}
use Rattle.lg_opt.specs.Remaining.{new_number, moved_place, with_first, retargeted, rewritten}
use Rattle.lg_opt.proofs.RemainingLemmas.{number-zero, number-stays, number-goes, length-remaining, get-remaining}

-- another target changes neither the operation, nor the other operands, nor the size of a local
pub same-op : (o : Option Label) (n : Node) → (retargeted o n).op ≡ n.op
same-op None n = refl
same-op (Some y) n = refl

pub same-second : (o : Option Label) (n : Node) → operand_at (retargeted o n) 1 ≡ operand_at n 1
same-second None n = refl
same-second (Some y) n = by n.operands
  where
    by : (xs : List Operand) → slice_index_or (with_first xs y) 1 (operand.Number 0) ≡ slice_index_or xs 1 (operand.Number 0)
    by [] = refl
    by (x ∷ xs) = refl

pub same-third : (o : Option Label) (n : Node) → operand_at (retargeted o n) 2 ≡ operand_at n 2
same-third None n = refl
same-third (Some y) n = by n.operands
  where
    by : (xs : List Operand) → slice_index_or (with_first xs y) 2 (operand.Number 0) ≡ slice_index_or xs 2 (operand.Number 0)
    by [] = refl
    by (x ∷ xs) = refl

no-local : (p : Op) (xs : List Operand) → has_target p ≡ true → local_of p xs ≡ 0
no-local (op.Branch c last) xs e = refl
no-local (op.BranchSum o last) xs e = refl
no-local (op.Control control.Jmp last_operand.Immediate) xs e = refl
no-local p xs e = cc

pub same-size : (o : Option Label) (n : Node) → ((y : Label) → o ≡ Some y → has_target n.op ≡ true) → local_size (retargeted o n) ≡ local_size n
same-size None n h = refl
same-size (Some y) n h = no-local n.op (with_first n.operands y) (h y refl) ∙ sym (no-local n.op n.operands (h y refl))

-- a new node is that of an old one that stays
pub record ComesFrom (l : LabelledNodes) (stays : ℕ → Bool) (k : ℕ) : Type 0 where
  pub index : ℕ
  pub node : Node
  pub here : slice_get l.nodes index ≡ Some node
  pub kept : stays index ≡ true
  pub number : new_number stays index ≡ k

module _ (stays : ℕ → Bool) where
  pub numbers-rise : Rises (new_number stays)
  numbers-rise i = by (stays i) refl
    where
      by : (b : Bool) → stays i ≡ b → (new_number stays (suc i) ≡ new_number stays i) ⊎ (new_number stays (suc i) ≡ suc (new_number stays i))
      by true s = inr (number-stays stays i s ∙ add-one (new_number stays i))
      by false s = inl (number-goes stays i s)

  stays-there : (i : ℕ) → new_number stays (suc i) ≡ suc (new_number stays i) → (b : Bool) → stays i ≡ b → stays i ≡ true
  stays-there i up true e = e
  stays-there i up false e = let g = number-goes stays i e in absurd (omega arith)

  pub comes-from : (l : LabelledNodes) (k : ℕ) → k < new_number stays (length l.nodes) → ComesFrom l stays k
  comes-from l k lt =
      let z : 0 + length l.nodes ≡ length l.nodes = omega arith in
      let f = crossing (new_number stays) numbers-rise (length l.nodes) 0 k (let n0 = number-zero stays in omega arith) (let q = ap (new_number stays) z in omega arith) in
      let n = node_within l.nodes f.0 (let a = f.2 in omega arith) in
      record { index = f.0; node = n.0; here = n.1; kept = stays-there f.0 (let a = f.3 in let b = f.4 in omega arith) (stays f.0) refl; number = f.3 }

module _ (l : LabelledNodes) (stays : ℕ → Bool) (targets : ℕ → Option Label) where
  abbrev m : LabelledNodes
  m = rewritten l stays targets

  abbrev nu : ℕ → ℕ
  nu = new_number stays

  abbrev new-node : ℕ → Option Node
  new-node i = option_map (retargeted (targets i)) (slice_get l.nodes i)

  full : (i : ℕ) → i < length l.nodes → stays i ≡ true → (x : Node) × (new-node i ≡ Some x)
  full i lt s = let n = node_within l.nodes i lt in (retargeted (targets i) n.0, ap (option_map (retargeted (targets i))) n.1)

  pub new-count : length (rewritten l stays targets).nodes ≡ new_number stays (length l.nodes)
  new-count = length-remaining stays new-node (length l.nodes) full

  pub stands : (i : ℕ) (n : Node) → slice_get l.nodes i ≡ Some n → stays i ≡ true → slice_get (rewritten l stays targets).nodes (new_number stays i) ≡ Some (retargeted (targets i) n)
  stands i n e s = get-remaining stays new-node (length l.nodes) i (retargeted (targets i) n) full (slice_get_within l.nodes i n e) s (ap (option_map (retargeted (targets i))) e)

  -- labels lead to the new numbers
  pub place-moved : (x : Label) → place_of (rewritten l stays targets).places x ≡ moved_place (new_number stays) (place_of l.places x)
  place-moved x = ap option_flatten (slice_get-map (moved_place nu) l.places x.0) ∙ by (slice_get l.places x.0)
    where
      by : (o : Option (Option Place)) → option_flatten (option_map (moved_place nu) o) ≡ moved_place nu (option_flatten o)
      by None = refl
      by (Some p) = refl

  pub node-moved : (o : Option Place) → node_in (moved_place (new_number stays) o) ≡ new_number stays (node_in o)
  node-moved None = sym (number-zero stays)
  node-moved (Some (place.Node k)) = refl
  node-moved (Some (place.Image k)) = sym (number-zero stays)

  pub label-moved : (x : Operand) → node_of_label (rewritten l stays targets).places x ≡ new_number stays (node_of_label l.places x)
  label-moved (operand.Label y) = ap node_in (place-moved y) ∙ node-moved (place_of l.places y)
  label-moved (operand.Reg y) = sym (number-zero stays)
  label-moved (operand.Number y) = sym (number-zero stays)
  label-moved (operand.Host y) = sym (number-zero stays)
  label-moved (operand.Slot y) = sym (number-zero stays)

  -- a run begins at the same label
  pub beginning-moved : (b : Option Label) → begins_at (rewritten l stays targets) b ≡ new_number stays (begins_at l b)
  beginning-moved None = sym (number-zero stays)
  beginning-moved (Some x) = label-moved (operand.Label x)
