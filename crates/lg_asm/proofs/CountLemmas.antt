-- The counts of the first nodes of a text.
use Rattle.std.proofs.Common.{◌≡◌, ℕ, ◌+◌, ◌<◌, List, [], ◌∷◌, ◌++◌, length, refl, sym, ap, ◌∙◌, arith, add-one, below_more, length-append, Some}
use Rattle.std.proofs.Math.ListN.{get_or-append}
use Rattle.std.proofs.Math.Seq.{get_or-append_seam}
use Rattle.std.specs.Prelude.{cond, count_by, slice_get, slice_index}
use Rattle.std.proofs.lemmas.List.Recursion.{is_count_by}
use Rattle.std.specs.Option.{option_and_then}
use Rattle.lg_base.specs.declared.target.Target.{Target}
use Rattle.lg_node.specs.Checks.{IsAccepted}
use Rattle.lg_node.specs.Nodes.{LabelledNodes}
use Rattle.lg_node.specs.Preparations.{prepared_before, pushed}
use Rattle.lg_op.specs.declared.node.Node.{Node}
use Rattle.lg_live.specs.Liveness.{LiveSets}
use Rattle.lg_temp.specs.Chosen.{spills}
use Rattle.lg_temp.specs.declared.choice.Choice.{Choice}
use Rattle.lg_temp.specs.declared.choice.Choice.TheVariants.{Free, Own, Spill}
use Rattle.lg_asm.specs.Assembled.{ArePushed}
use Rattle.lg_asm.specs.Passed.{passed_after}
use Rattle.lg_asm.specs.NodeChoices.{live_behind, node_choices, choices_at, is_spill, spills_of, spills_in}
use Rattle.lg_asm.proofs.WellLemmas.{passed-next, pushed-few}

-- the registers that are saved, counted
pub spills-are : (choices : List Choice) → spills choices ≡ count_by is_spill choices
spills-are = is_count_by spills is_spill refl step
  where
    step : (choice : Choice) (choices : List Choice) → spills (choice ∷ choices) ≡ cond (is_spill choice) (1 + spills choices) (spills choices)
    step (Spill register slot) choices = omega arith
    step (Free register) choices = refl
    step (Own register) choices = refl

-- those of the choices of a node
pub saved-of : (target : Target) (nodes : List Node) (sets : LiveSets) (i passed : ℕ) (n : Node) (choices : List Choice) → slice_get nodes i ≡ Some n → passed ≡ pushed nodes i
    → node_choices target (live_behind sets i) passed n ≡ Some choices → spills choices ≡ spills_of (choices_at target nodes sets i)
saved-of target nodes sets i passed n choices here before is =
    sym (ap spills_of (ap (option_and_then (node_choices target (live_behind sets i) (pushed nodes i))) here ∙ (ap (λ k. node_choices target (live_behind sets i) k n) (sym before) ∙ is)))

-- the counts of the first nodes
pub record AreCounted (target : Target) (l : LabelledNodes) (sets : LiveSets) (xs : List ℕ) (passed saved count : ℕ) : Type 0 where
  pub pushed_are : ArePushed l.nodes xs count
  pub before : passed ≡ pushed l.nodes count
  pub saved_are : saved ≡ spills_in target l.nodes sets count

pub none-counted : (target : Target) (l : LabelledNodes) (sets : LiveSets) (xs : List ℕ) → xs ≡ [] → AreCounted target l sets xs 0 0 0
unfolding prepared_before spills_in
none-counted target l sets xs e = record {
  pushed_are = record { counted = ap length e; each = λ i h. absurd (omega (arith, h)); few = λ i h. absurd (omega (arith, h)) };
  before = refl;
  saved_are = refl;
}

spills-next : (target : Target) (nodes : List Node) (sets : LiveSets) (i : ℕ) → spills_in target nodes sets (i + 1) ≡ spills_in target nodes sets i + spills_of (choices_at target nodes sets i)
unfolding spills_in
spills-next target nodes sets i = rw add-one refl

-- those of one node more
pub one-counted : (target : Target) (l : LabelledNodes) (sets : LiveSets) (xs : List ℕ) (passed saved i : ℕ) (n : Node) (more : ℕ) → IsAccepted l → i < length l.nodes → AreCounted target l sets xs passed saved i → slice_get l.nodes i ≡ Some n
    → more ≡ saved + spills_of (choices_at target l.nodes sets i) → AreCounted target l sets (xs ++ passed ∷ []) (passed_after passed n.op) more (i + 1)
one-counted target l sets xs passed saved i n more accepted lt a here is = record {
  pushed_are = record {
    counted = length-append xs (passed ∷ []) ∙ ap (λ k. k + 1) long;
    each = each;
    few = λ j h. let e = each j h in let f = pushed-few l accepted j (omega (arith, h, lt)) in omega (arith, e, f);
  };
  before = passed-next l i passed n accepted here a.before;
  saved_are = is ∙ (ap (λ k. k + spills_of (choices_at target l.nodes sets i)) a.saved_are ∙ sym (spills-next target l.nodes sets i));
}
  where
    long : length xs ≡ i
    long = a.pushed_are.counted

    last : slice_index (xs ++ passed ∷ []) i ≡ passed
    last = ap (slice_index (xs ++ passed ∷ [])) (sym long) ∙ get_or-append_seam xs passed [] 0

    each : (j : ℕ) → j < i + 1 → slice_index (xs ++ passed ∷ []) j ≡ pushed l.nodes j
    each j h = below_more (λ k. slice_index (xs ++ passed ∷ []) k ≡ pushed l.nodes k) i
        (λ k below. get_or-append xs (passed ∷ []) 0 k (omega (arith, below, long)) ∙ a.pushed_are.each k below) (last ∙ a.before) j h
