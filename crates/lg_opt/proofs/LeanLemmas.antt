-- The walk over the nodes of a text is the walk over those that stay: so none of these is an idle move.
use Rattle.std.proofs.Common.{◌≡◌, ℕ, zero, suc, ◌<◌, ◌≤◌, Bool, true, false, not, ◌||◌, Option, Some, None, length, refl, sym, ap, ◌∙◌, subst, arith, ⊎_elim, add-one}
use Rattle.std.specs.Prelude.{if◌then◌else◌, slice_get}
use Rattle.std.proofs.lemmas.Bool.{cases_lt, true≢false, not-false, not-true}
use Rattle.std.proofs.lemmas.Option.{slice_get_past, slice_get_within}
use Rattle.lg_op.specs.declared.operand.Reg.{Reg}
use Rattle.lg_op.specs.declared.node.Node.{Node}
use Rattle.lg_node.specs.Nodes.{LabelledNodes}
use Rattle.lg_node.specs.Labels.{is_labelled}
use Rattle.lg_node.proofs.FunctionLaws.{node_within}
use Rattle.lg_opt.specs.Remaining.{new_number, labelled_from}
use Rattle.lg_carry.specs.Carries.{leaps}
use Rattle.lg_opt.specs.Moves.{Move, no_sources, is_idle, move_of, move_at, after_move, after_node, after_at, sources_before, is_idle_at, stays}
use Rattle.lg_opt.proofs.MovedLemmas.{comes-from}
use Rattle.lg_opt.proofs.RemainingLemmas.{number-stays, number-goes}
use Rattle.lg_opt.proofs.TidyLemmas.{move-is}

-- the nodes that stay, in their new places, and the labels that came with them
pub record KeepsNodes (l m : LabelledNodes) : Type 0 where
  pub nodes : (i : ℕ) (n : Node) → slice_get l.nodes i ≡ Some n → stays l i ≡ true → slice_get m.nodes (new_number (stays l) i) ≡ Some n
  pub labels : (i : ℕ) → i < length l.nodes → stays l i ≡ true → is_labelled m.places (new_number (stays l) i) ≡ labelled_from l.places (stays l) i
  pub count : length m.nodes ≡ new_number (stays l) (length l.nodes)

-- the sources after the node before one
abbrev after-last : LabelledNodes → ℕ → Reg → Option Reg
after-last m zero = no_sources
after-last m (suc q) = after_at (sources_before m q) (slice_get m.nodes q)

sources-here : (m : LabelledNodes) (k : ℕ) → sources_before m k ≡ (if is_labelled m.places k then no_sources else after-last m k)
unfolding sources_before
sources-here m zero = by (is_labelled m.places 0)
  where
    by : (b : Bool) → no_sources ≡ (if b then no_sources else no_sources)
    by true = refl
    by false = refl
sources-here m (suc q) = refl

move-falls : (n : Node) (k : Move) → move_of n.op n.operands ≡ Some k → leaps n.op ≡ false
move-falls n k e = ap leaps (move-is n.op n.operands k e).0

module _ (l m : LabelledNodes) (keeps : KeepsNodes l m) where
  abbrev nu : ℕ → ℕ
  nu = new_number (stays l)

  -- an idle move changes no sources
  idle-after : (i : ℕ) (n : Node) → slice_get l.nodes i ≡ Some n → stays l i ≡ false → after_at (sources_before l i) (slice_get l.nodes i) ≡ sources_before l i
  idle-after i n here gone = ap (after_at (sources_before l i)) here ∙ by (move_of n.op n.operands) refl
    where
      idle : is_idle (sources_before l i) (move_of n.op n.operands) ≡ true
      idle = not-false (is_idle (sources_before l i) (move_of n.op n.operands)) (ap (λ o. not (is_idle (sources_before l i) (move_at o))) (sym here) ∙ gone)

      by : (o : Option Move) → move_of n.op n.operands ≡ o → (if leaps n.op then no_sources else after_node (sources_before l i) n (move_of n.op n.operands)) ≡ sources_before l i
      by None e = absurd (true≢false (sym idle ∙ ap (is_idle (sources_before l i)) e))
      by (Some k) e =
          ap (λ b. if b then no_sources else after_node (sources_before l i) n (move_of n.op n.operands)) (move-falls n k e)
          ∙ ap (after_node (sources_before l i) n) e
          ∙ ap (λ b. if b then sources_before l i else after_move (sources_before l i) n k) (sym (ap (is_idle (sources_before l i)) e) ∙ idle)

  abbrev Walks : ℕ → Type 0
  Walks i = sources_before l i ≡ (if labelled_from l.places (stays l) i then no_sources else after-last m (nu i))

  same-there : (i : ℕ) → i < length l.nodes → stays l i ≡ true → Walks i → sources_before m (nu i) ≡ sources_before l i
  same-there i lt s w = sources-here m (nu i) ∙ ap (λ b. if b then no_sources else after-last m (nu i)) (keeps.labels i lt s) ∙ sym w

  walks : (i : ℕ) → i ≤ length l.nodes → Walks i
  unfolding sources_before new_number
  walks zero le = by (is_labelled l.places 0)
    where
      by : (b : Bool) → no_sources ≡ (if b then no_sources else no_sources)
      by true = refl
      by false = refl
  walks (suc i) le = by (stays l i) refl (walks i (omega arith))
    where
      here : (n : Node) × (slice_get l.nodes i ≡ Some n)
      here = node_within l.nodes i (omega arith)

      join : (b c : Bool) (x y : Reg → Option Reg) → x ≡ (if c then no_sources else y) → (if b then no_sources else x) ≡ (if b || c then no_sources else y)
      join true c x y e = refl
      join false c x y e = e

      by : (b : Bool) → stays l i ≡ b → Walks i → Walks (suc i)
      by true s w =
          let lt : i < length l.nodes = omega arith in
          let up : nu (suc i) ≡ suc (nu i) = number-stays (stays l) i s ∙ add-one (nu i) in
          let step : after_at (sources_before l i) (slice_get l.nodes i) ≡ after-last m (nu (suc i)) =
          ap (λ f. after_at f (slice_get l.nodes i)) (sym (same-there i lt s w))
          ∙ ap (after_at (sources_before m (nu i))) (here.1 ∙ sym (keeps.nodes i here.0 here.1 s))
          ∙ ap (after-last m) (sym up) in
          ap (λ x. if is_labelled l.places (suc i) then no_sources else x) step
          ∙ join (is_labelled l.places (suc i)) false (after-last m (nu (suc i))) (after-last m (nu (suc i))) refl
          ∙ ap (λ c. if is_labelled l.places (suc i) || (if c then false else labelled_from l.places (stays l) i) then no_sources else after-last m (nu (suc i))) (sym s)
      by false s w =
          let up : nu (suc i) ≡ nu i = number-goes (stays l) i s in
          ap (λ x. if is_labelled l.places (suc i) then no_sources else x) (idle-after i here.0 here.1 s)
          ∙ join (is_labelled l.places (suc i)) (labelled_from l.places (stays l) i) (sources_before l i) (after-last m (nu (suc i))) (w ∙ ap (λ k. if labelled_from l.places (stays l) i then no_sources else after-last m k) (sym up))
          ∙ ap (λ c. if is_labelled l.places (suc i) || (if c then false else labelled_from l.places (stays l) i) then no_sources else after-last m (nu (suc i))) (sym s)

  at-kept : (i : ℕ) (n : Node) → slice_get l.nodes i ≡ Some n → stays l i ≡ true → is_idle_at m (nu i) ≡ false
  at-kept i n here s =
      let lt : i < length l.nodes = slice_get_within l.nodes i n here in
      ap (λ g. is_idle g (move_at (slice_get m.nodes (nu i)))) (same-there i lt s (walks i (omega arith)))
      ∙ ap (λ o. is_idle (sources_before l i) (move_at o)) (keeps.nodes i n here s ∙ sym here) ∙ not-true (is_idle_at l i) s

  -- no node that stays is an idle move of the new list
  pub lean : (k : ℕ) → is_idle_at m k ≡ false
  lean k = ⊎_elim inside outside (cases_lt k (length m.nodes))
    where
      outside : length m.nodes ≤ k → is_idle_at m k ≡ false
      outside ge = ap (λ o. is_idle (sources_before m k) (move_at o)) (slice_get_past m.nodes k ge)

      inside : k < length m.nodes → is_idle_at m k ≡ false
      inside lt =
          let c = comes-from (stays l) l k (let count = keeps.count in omega arith) in
          subst (λ i. is_idle_at m i ≡ false) c.number (at-kept c.index c.node c.here c.kept)
