-- Nodes none of which jumps: nothing is threaded.
use Rattle.std.proofs.Common.{◌≡◌, ℕ, zero, suc, ◌-◌, ◌<◌, ◌≤◌, Bool, true, false, not, ◌&&◌, List, [], Option, Some, None, length, replicate, refl, sym, ap, ◌∙◌, arith}
use Rattle.std.specs.Prelude.{if◌then◌else◌, nat_lt, nat_le, slice_get}
use Rattle.std.proofs.lemmas.List.{length-replicate, get_or-replicate}
use Rattle.std.proofs.lemmas.Option.{slice_get_within}
use Rattle.lg_base.specs.Runs.{iter}
use Rattle.lg_temp.proofs.Steps.{iter-zero, iter-suc}
use Rattle.lg_op.specs.declared.node.Node.{Node}
use Rattle.lg_op.specs.declared.operand.Label.{Label}
use Rattle.lg_node.specs.Nodes.{LabelledNodes}
use Rattle.lg_opt.specs.Goals.{lead, goal_node, next_stays, stays}
use Rattle.lg_opt.specs.Hops.{is_jump_at, jump_at, hop}
use Rattle.lg_opt.specs.Rewritings.{target_in, AreTables}
use Rattle.lg_opt.specs.Targets.{target_node, end_of, AreTargets}
use Rattle.lg_opt.proofs.GoalLemmas.{rests-there}

empty-none : (i : ℕ) → target_in [] i ≡ None
empty-none zero = refl
empty-none (suc i) = refl

module _ (l : LabelledNodes) (none : (i : ℕ) → jump_at l i ≡ false) where
  rests : (m i : ℕ) → iter (hop l) m i ≡ i
  rests zero i = iter-zero (hop l) i
  rests (suc m) i = iter-suc (hop l) m i ∙ ap (hop l) (rests m i) ∙ rests-there l i (none i)

  end-there : (k : ℕ) → end_of l k ≡ k
  end-there k = ap (λ b. if b then k else lead l k) (none (lead l k)) ∙ rests (length l.nodes) k

  none-aimed : AreTargets l (target_in [])
  none-aimed = record {
    others = λ i n y h e. absurd (let f : ◌≡◌ {A = Option Label} None (Some y) = sym (empty-none i) ∙ e in cc);
    own = λ i n h t e. end-there (target_node l n);
  }

  all-stay : (i : ℕ) → stays l i ≡ true
  all-stay i = ap (λ b. not (b && (nat_lt i (goal_node l i) && nat_le (goal_node l i) (next_stays l (length l.nodes - suc i))))) (none i)

  pub no_tables : (kept : List Bool) (targets : List (Option Label)) → kept ≡ replicate (length l.nodes) true → targets ≡ [] → AreTables l kept targets
  no_tables kept targets e f = rw (e, f) record {
    count = length-replicate (length l.nodes) true;
    stays = λ i lt. get_or-replicate (length l.nodes) i true false lt ∙ sym (all-stay i);
    targets_are = none-aimed;
  }

-- the first nodes are no jumps
pub none_more : (l : LabelledNodes) (index : ℕ) (n : Node) → slice_get l.nodes index ≡ Some n → is_jump_at (Some n) ≡ false → jump_at l index ≡ false
none_more l index n here e = ap is_jump_at here ∙ e

pub none_at_all : (l : LabelledNodes) (index : ℕ) → length l.nodes ≤ index → ((i : ℕ) → i < index → jump_at l i ≡ false) → (i : ℕ) → jump_at l i ≡ false
none_at_all l index end before i = by (slice_get l.nodes i) refl
  where
    by : (o : Option Node) → slice_get l.nodes i ≡ o → jump_at l i ≡ false
    by None e = ap is_jump_at e
    by (Some n) e = let lt = slice_get_within l.nodes i n e in before i (omega (arith, lt, end))
