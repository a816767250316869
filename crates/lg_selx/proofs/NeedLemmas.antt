-- The needs of nodes: those of a store, and those of what computes values.
use Rattle.std.proofs.Common.{◌≡◌, ℕ, ◌≤◌, Bool, true, false, List, [], length, refl, subst, arith}
use Rattle.lg_base.specs.declared.target.Target.TheVariants.{X86_64}
use Rattle.lg_op.specs.declared.node.Node.{Node}
use Rattle.lg_op.specs.declared.op.Op.{Op}
use Rattle.lg_op.specs.declared.op.Op.TheVariants as op
use Rattle.lg_op.specs.declared.operand.Reg.{Reg}
use Rattle.lg_carry.specs.Values.Parts.{HaveSlots}
use Rattle.lg_carry.specs.Values.ValueNodes.{is_value}
use Rattle.lg_selx.specs.Selected.{needs, is_store, AreChosen}
use Rattle.lg_selx.proofs.OfMemory.FitLemmas.{memory-items-fit}
use Rattle.lg_selx_values.proofs.ChoiceLemmas.{choices-have-slots}
use Rattle.lg_selx_values.specs.Needs.{value_needs}
use Rattle.lg_temp.proofs.ChoiceLemmas.{choices-are-for}
use Rattle.lg_temp.specs.Choices.{AreFor}
use Rattle.lg_temp.specs.Chosen.{around}
use Rattle.lg_temp.specs.declared.choice.Choice.{Choice}

same-needs : (o : Op) → is_store o ≡ false → needs o ≡ value_needs o
same-needs (op.Store t at) h = cc
same-needs o h = refl

pub value-is-none : (o : Op) → is_value o ≡ true → is_store o ≡ false
value-is-none (op.Store t at) h = cc
value-is-none o h = refl

-- choices for the needs of a node that is no store are those for what computes values
pub made-values : (n : Node) (live : Reg → Bool) (set : List Bool) (choices : List Choice) → is_store n.op ≡ false → AreFor (around X86_64 n live set) (needs n.op) [] (needs n.op) choices
    → AreFor (around X86_64 n live set) (value_needs n.op) [] (value_needs n.op) choices
made-values n live set choices h are = subst (λ ns. AreFor (around X86_64 n live set) ns [] ns choices) (same-needs n.op h) are

-- and those for the needs of a store
pub made-access : (n : Node) (o : Op) (live : Reg → Bool) (set : List Bool) (choices : List Choice) → n.op ≡ o → AreFor (around X86_64 n live set) (needs n.op) [] (needs n.op) choices
    → AreFor (around X86_64 n live set) (needs o) [] (needs o) choices
made-access n o live set choices e are = subst (λ q. AreFor (around X86_64 n live set) (needs q) [] (needs q) choices) e are

-- how many registers are chosen, with slots where they are saved
record AreFew (most : ℕ) (choices : List Choice) : Type 0 where
  few : length choices ≤ most
  slots : HaveSlots choices

module _ (n : Node) (live : Reg → Bool) (staged : List Bool) (choices : List Choice) (k : AreChosen n live staged choices) where
  are : AreFor (around X86_64 n live k.set) (needs n.op) [] (needs n.op) choices
  are = choices-are-for (around X86_64 n live k.set) (needs n.op) choices k.chosen

  of-values : is_store n.op ≡ false → AreFew 2 choices
  of-values h = let f = choices-have-slots n live k.set choices (made-values n live k.set choices h are) in record { few = f.few; slots = f.slots }

  of-store : (o : Op) → n.op ≡ o → is_store o ≡ true → AreFew 1 choices
  of-store (op.Store t at) e h = let f = memory-items-fit.choices at n live k.set choices (made-access n (op.Store t at) live k.set choices e are) in record { few = f.few; slots = f.slots }
  of-store o e h = cc

  pub store-choice : is_store n.op ≡ true → length choices ≤ 1
  store-choice h = (of-store n.op refl h).few

  -- at most two
  pub choices-fit : (length choices ≤ 2) × HaveSlots choices
  choices-fit = by (is_store n.op) refl
    where
      by : (b : Bool) → is_store n.op ≡ b → (length choices ≤ 2) × HaveSlots choices
      by true h = let f = of-store n.op refl h in let few = f.few in (omega (arith, few), f.slots)
      by false h = let f = of-values h in (f.few, f.slots)
