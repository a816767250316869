-- The lines of places, node by node.
use Rattle.std.proofs.Common.{◌≡◌, ℕ, zero, suc, ◌+◌, ◌-◌, ◌<◌, ◌≤◌, List, length, Some, inl, inr, sym, ap, ◌∙◌, arith, subst}
use Rattle.std.specs.Prelude.{slice_get, slice_index}
use Rattle.std.proofs.lemmas.Option.{same_Some, slice_get_within}
use Rattle.std.proofs.lemmas.Bool.{cases_lt}
use Rattle.lg_op.specs.declared.node.Node.{Node}
use Rattle.lg_prof.specs.Places.{AreLines, ArePlaced, Holds, NeverFall}

-- the lines of the bytes of the first n nodes
pub record HasLines (nodes : List Node) (places lines : List ℕ) (count : ℕ) : Type 0 where
  pub long : length lines ≡ slice_index places count
  pub each : (i place : ℕ) (n : Node) → i < count → slice_get nodes i ≡ Some n → Holds places i place → slice_get lines place ≡ Some n.line
  pub only : (place : ℕ) → place < length lines → (i : ℕ) × Holds places i place

-- a later place is not below an earlier one
pub later : (places : List ℕ) → NeverFall places → (i k : ℕ) → i + k < length places → slice_index places i ≤ slice_index places (i + k)
later places order i zero lt =
    let same : i + 0 ≡ i = omega arith in
    rw same (omega arith)
later places order i (suc k) lt =
    let below : i + k < length places = omega (arith, lt) in
    let within : i + k + 1 < length places = omega (arith, lt) in
    let before : slice_index places i ≤ slice_index places (i + k) = later places order i k below in
    let next : slice_index places (i + k) ≤ slice_index places (i + k + 1) = order (i + k) within in
    let same : i + suc k ≡ i + k + 1 = omega arith in
    rw same (omega (arith, before, next))

pub later_at : (places : List ℕ) → NeverFall places → (i j : ℕ) → i ≤ j → j < length places → slice_index places i ≤ slice_index places j
later_at places order i j le lt =
    let e : i + (j - i) ≡ j = omega (arith, le) in
    rw e at (later places order i (j - i) (rw e lt))

-- one node more
module _ (nodes : List Node) (places old new : List ℕ) (count : ℕ) (n : Node) (placed : ArePlaced nodes places) (below : count < length nodes) (here : slice_get nodes count ≡ Some n) (has : HasLines nodes places old count) where
  within : count + 1 < length places
  within = let c = placed.count in omega (arith, c, below)

  module _ (long : length new ≡ slice_index places (count + 1)) (kept : (p : ℕ) → p < length old → slice_get new p ≡ slice_get old p) (filled : (p : ℕ) → length old ≤ p → p < slice_index places (count + 1) → slice_get new p ≡ Some n.line) where
    each : (i place : ℕ) (m : Node) → i < count + 1 → slice_get nodes i ≡ Some m → Holds places i place → slice_get new place ≡ Some m.line
    each i place m lt at held = elim (cases_lt i count) [
      | inl less ↦
          let next : slice_index places (i + 1) ≤ slice_index places count = later_at places placed.order (i + 1) count (omega (arith, less)) (let w = within in omega (arith, w)) in
          let to = held.to in let l = has.long in
          let inside : place < length old = omega (arith, next, to, l) in
          kept place inside ∙ has.each i place m less at held
      | inr other ↦
          let same : i ≡ count = omega (arith, lt, other) in
          let is : m ≡ n = same_Some m n (sym at ∙ ap (slice_get nodes) same ∙ here) in
          let from : slice_index places count ≤ place = subst (λ j. slice_index places j ≤ place) same held.from in
          let to : place < slice_index places (count + 1) = subst (λ j. place < slice_index places (j + 1)) same held.to in
          let l = has.long in
          filled place (omega (arith, from, l)) to ∙ ap (λ k. Some k.line) (sym is)
    ]

    only : (place : ℕ) → place < length new → (i : ℕ) × Holds places i place
    only place lt = elim (cases_lt place (length old)) [
      | inl less ↦ has.only place less
      | inr other ↦ let l = has.long in (count, record { within = within; from = omega (arith, l, other); to = omega (arith, lt, long) })
    ]

    pub more : HasLines nodes places new (count + 1)
    more = record { long = long; each = each; only = only }

-- all nodes
pub whole : (nodes : List Node) (places lines : List ℕ) (count : ℕ) → count ≡ length nodes → HasLines nodes places lines count → AreLines nodes places lines
whole nodes places lines count all has = record {
  each = λ i place n at held. has.each i place n (let w = slice_get_within nodes i n at in omega (arith, w, all)) at held;
  only = has.only;
}
