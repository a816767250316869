-- A table of lines has the line of each place.
use Rattle.std.proofs.Common.{◌≡◌, ℕ, zero, suc, ◌+◌, ◌-◌, ◌<◌, ◌≤◌, Bool, true, false, List, [], ◌∷◌, length, Some, None, refl, sym, ap, ◌∙◌, subst, arith, inl, inr}
use Rattle.std.specs.Prelude.{◌⊎◌, nat_le, slice_get, slice_index, if◌then◌else◌}
use Rattle.std.proofs.lemmas.Bool.{cases_lt}
use Rattle.std.proofs.lemmas.Option.{slice_get_past}
use Rattle.lg_base.specs.Layout.{code_base}
use Rattle.lg_op.specs.declared.node.Node.{Node}
use Rattle.lg_prof.specs.Places.{AreLines, Holds}
use Rattle.lg_prof.specs.Spent.{lies_first, line_here}
use Rattle.lg_prof.specs.Laws.{TablesHaveLines}

-- a line is that of a node whose bytes hold the place, or there is none, and then no node's bytes hold it
pub record IsFound (nodes : List Node) (places : List ℕ) (place : ℕ) : Type 0 where
  pub i : ℕ
  pub n : Node
  pub here : slice_get nodes i ≡ Some n
  pub held : Holds places i place
  pub line : line_here nodes places place ≡ Some n.line

pub record IsNone (nodes : List Node) (places : List ℕ) (place : ℕ) : Type 0 where
  pub line : line_here nodes places place ≡ None
  pub held : (i : ℕ) → i < length nodes → Holds places i place → ⊥

-- by whether the first node's bytes hold the place
holds_first : (from to : ℕ) (places : List ℕ) (place : ℕ) → lies_first (from ∷ to ∷ places) place ≡ true → Holds (from ∷ to ∷ places) 0 place
holds_first from to places place is = record { within = omega arith; from = grind (arith, is); to = grind (arith, is) }

not_first : (from to : ℕ) (places : List ℕ) (place : ℕ) → lies_first (from ∷ to ∷ places) place ≡ false → Holds (from ∷ to ∷ places) 0 place → ⊥
not_first from to places place is held = let a : from ≤ place = held.from in let b : place < to = held.to in grind (arith, is, a, b)

-- a node further
behind : (i : ℕ) → suc i + 1 ≡ suc (i + 1)
behind i = omega arith

further : (from to : ℕ) (places : List ℕ) (i place : ℕ) → Holds (to ∷ places) i place → Holds (from ∷ to ∷ places) (suc i) place
further from to places i place held =
    let w = held.within in
    record { within = omega (arith, w); from = held.from; to = subst (λ k. place < slice_index (from ∷ to ∷ places) k) (sym (behind i)) held.to }

nearer : (from to : ℕ) (places : List ℕ) (i place : ℕ) → Holds (from ∷ to ∷ places) (suc i) place → Holds (to ∷ places) i place
nearer from to places i place held =
    let w = held.within in
    record { within = omega (arith, w); from = held.from; to = subst (λ k. place < slice_index (from ∷ to ∷ places) k) (behind i) held.to }

module _ (n : Node) (nodes : List Node) (from to : ℕ) (places : List ℕ) (place : ℕ) where
  not_held : lies_first (from ∷ to ∷ places) place ≡ false → ((i : ℕ) → i < length nodes → Holds (to ∷ places) i place → ⊥) → (i : ℕ) → i < length nodes + 1 → Holds (from ∷ to ∷ places) i place → ⊥
  not_held is none zero lt held = not_first from to places place is held
  not_held is none (suc i) lt held = none i (omega (arith, lt)) (nearer from to places i place held)

  by_first : (first : Bool) → lies_first (from ∷ to ∷ places) place ≡ first → IsFound nodes (to ∷ places) place ⊎ IsNone nodes (to ∷ places) place
      → IsFound (n ∷ nodes) (from ∷ to ∷ places) place ⊎ IsNone (n ∷ nodes) (from ∷ to ∷ places) place
  by_first true is rest = inl record {
    i = 0;
    n = n;
    here = refl;
    held = holds_first from to places place is;
    line = ap (λ t. if t then Some n.line else line_here nodes (to ∷ places) place) is;
  }
  by_first false is (inl f) = inl record {
    i = suc f.i;
    n = f.n;
    here = f.here;
    held = further from to places f.i place f.held;
    line = ap (λ t. if t then Some n.line else line_here nodes (to ∷ places) place) is ∙ f.line;
  }
  by_first false is (inr g) = inr record {
    line = ap (λ t. if t then Some n.line else line_here nodes (to ∷ places) place) is ∙ g.line;
    held = λ i lt. not_held is g.held i (omega (arith, lt));
  }

found : (nodes : List Node) (places : List ℕ) (place : ℕ) → length places ≡ length nodes + 1 → IsFound nodes places place ⊎ IsNone nodes places place
found [] places place e = inr record { line = refl; held = λ i lt held. absurd (omega (arith, lt)) }
found (n ∷ nodes) [] place e = absurd (omega (arith, e))
found (n ∷ nodes) (from ∷ []) place e = absurd (omega (arith, e))
found (n ∷ nodes) (from ∷ to ∷ places) place e =
    by_first n nodes from to places place (lies_first (from ∷ to ∷ places) place) refl (found nodes (to ∷ places) place (omega (arith, e)))

pub line_is : (nodes : List Node) (places lines : List ℕ) → length places ≡ length nodes + 1 → AreLines nodes places lines → (place : ℕ) → slice_get lines place ≡ line_here nodes places place
line_is nodes places lines count are place = elim (found nodes places place count) [
  | inl f ↦ are.each f.i place f.n f.here f.held ∙ sym f.line
  | inr g ↦ elim (cases_lt place (length lines)) [
    | inl less ↦
        let some = are.only place less in
        let w = some.1.within in
        absurd (g.held some.0 (omega (arith, w, count)) some.1)
    | inr past ↦ slice_get_past lines place past ∙ sym g.line
  ]
]

pub tables : TablesHaveLines
tables nodes places lines count are pc = ap (λ o. if nat_le code_base pc then o else None) (line_is nodes places lines count are (pc - code_base))
