-- Marks at taken labels.
use Rattle.std.proofs.Common.{◌≡◌, ◌↔◌, ◌⊎◌, inl, inr, ⊎_elim, ℕ, ◌+◌, ◌<◌, ◌≤◌, subst, length, arith}
use Rattle.std.proofs.lemmas.Bool.{cases_lt}
use Rattle.std.proofs.lemmas.Option.{slice_get_within}
use Rattle.lg_node.specs.Nodes.{LabelledNodes}
use Rattle.lg_node.specs.Shapes.{TextShape}
use Rattle.lg_live.specs.Points.{IsTakenBy, IsTakenAt}

-- one of the first labels is taken and bound at a node
pub record IsTakenBefore (l : LabelledNodes) (s : TextShape) (k count : ℕ) : Type 0 where
  pub label : ℕ
  pub below : label < count
  pub by : IsTakenBy l s k label

pub none_before : (l : LabelledNodes) (s : TextShape) (k : ℕ) → IsTakenBefore l s k 0 → ⊥
none_before l s k t = omega (arith, t.below)

pub one_more : (l : LabelledNodes) (s : TextShape) (k count : ℕ) → (IsTakenBefore l s k count ⊎ IsTakenBy l s k count) ↔ IsTakenBefore l s k (count + 1)
one_more l s k count = (
  (λ h. ⊎_elim (λ (b : IsTakenBefore l s k count). record { label = b.label; below = omega (arith, b.below); by = b.by }) (λ (t : IsTakenBy l s k count). record { label = count; below = omega arith; by = t }) h),
  (λ t. ⊎_elim (λ (less : t.label < count). inl record { label = t.label; below = less; by = t.by }) (λ (more : count ≤ t.label). inr (let e : t.label ≡ count = omega (arith, t.below) in let P : ℕ → Type 0 = λ n. IsTakenBy l s k n in subst P e t.by)) (cases_lt t.label count)),
)

pub all_before : (l : LabelledNodes) (s : TextShape) (k count : ℕ) → length l.places ≤ count → IsTakenBefore l s k count ↔ IsTakenAt l s k
all_before l s k count le = (
  (λ t. record { label = t.label; by = t.by }),
  (λ t. record { label = t.label; below = (let lt = slice_get_within l.places t.label _ t.by.place in omega (arith, lt)); by = t.by }),
)
