-- The choices for the needs of nodes that compute values: at most two, of registers that there are, with slots of a frame.
use Rattle.std.proofs.Common.{◌≡◌, ◌+◌, ◌<◌, ◌≤◌, List, [], ◌∷◌, ◌++◌, length, refl, sym, subst, arith}
use Rattle.std.specs.Prelude.{⊤}
use Rattle.lg_op.specs.declared.op.Op.{Op}
use Rattle.lg_op.specs.declared.op.Op.TheVariants as op
use Rattle.lg_op.specs.declared.op.BinaryOp.TheVariants as binary
use Rattle.lg_op.specs.declared.op.LastOperand.TheVariants as last_operand
use Rattle.lg_temp.specs.declared.choice.Need.{Need}
use Rattle.lg_temp.specs.declared.choice.Need.TheVariants.{Any, Only}
use Rattle.lg_temp.specs.declared.choice.Choice.{Choice}
use Rattle.lg_temp.specs.declared.choice.Choice.TheVariants.{Free, Own, Spill}
use Rattle.lg_temp.specs.Chosen.{Around, spills}
use Rattle.lg_temp.specs.Choices.{AreFor}
use Rattle.lg_selx_values.specs.GoodItems.{Fine}
use Rattle.lg_selx_values.specs.Needs.{value_needs}
use Rattle.lg_selx_values.specs.ValueFits.{ChoicesHaveSlots}
use Rattle.lg_carry.specs.Values.Parts.{HaveSlots}

-- needs that name registers
abbrev pub AreNamed : List Need → Type 0
AreNamed [] = ⊤
AreNamed (Any ∷ needs) = ⊥
AreNamed (Only r ∷ needs) = Fine r × AreNamed needs

-- registers that are saved, in slots of a frame
abbrev pub AreSaved : List Choice → Type 0
AreSaved [] = ⊤
AreSaved (Spill r k ∷ choices) = Fine r × (k < 5) × AreSaved choices
AreSaved (choice ∷ choices) = AreSaved choices

-- those that are after others (few), for the needs that are left
pub record AreKept (needs : List Need) (choices : List Choice) : Type 0 where
  pub saved : AreSaved choices
  pub count : length choices ≡ length needs

more-spills : (made : List Choice) (choice : Choice) → spills (made ++ choice ∷ []) ≤ spills made + 1
more-spills [] (Free r) = omega arith
more-spills [] (Own r) = omega arith
more-spills [] (Spill r k) = omega arith
more-spills (Free r ∷ made) choice = more-spills made choice
more-spills (Own r ∷ made) choice = more-spills made choice
more-spills (Spill r k ∷ made) choice = let m = more-spills made choice in omega (arith, m)

kept : (a : Around) (needs : List Need) (made : List Choice) (left : List Need) (choices : List Choice) → AreFor a needs made left choices → AreNamed left → spills made + length left ≤ 5 → AreKept left choices
kept a needs made [] [] h n few = record { saved = tt; count = refl }
kept a needs made [] (choice ∷ choices) h n few = absurd h
kept a needs made (need ∷ left) [] h n few = absurd h
kept a needs made (Any ∷ left) (choice ∷ choices) h n few = absurd n
kept a needs made (Only r ∷ left) (Free x ∷ choices) h n few =
    let m = more-spills made (Free x) in
    let k = kept a needs (made ++ Free x ∷ []) left choices h.1 n.1 (omega (arith, m, few)) in
    let c = k.count in
    record { saved = k.saved; count = omega (arith, c) }
kept a needs made (Only r ∷ left) (Own x ∷ choices) h n few =
    let m = more-spills made (Own x) in
    let k = kept a needs (made ++ Own x ∷ []) left choices h.1 n.1 (omega (arith, m, few)) in
    let c = k.count in
    record { saved = k.saved; count = omega (arith, c) }
kept a needs made (Only r ∷ left) (Spill x slot ∷ choices) h n few =
    let m = more-spills made (Spill x slot) in
    let k = kept a needs (made ++ Spill x slot ∷ []) left choices h.1 n.1 (omega (arith, m, few)) in
    let c = k.count in
    let at : slot ≡ spills made = h.0.2 in
    record { saved = (subst Fine (sym h.0.0) n.0, omega (arith, at, few), k.saved); count = omega (arith, c) }

-- the needs of a node are few and name rax, rcx and rdx
record AreFew (needs : List Need) : Type 0 where
  named : AreNamed needs
  few : length needs ≤ 2

count-named : AreFew (Only 1 ∷ [])
count-named = record { named = ((omega arith, refl), tt); few = omega arith }

pair-named : AreFew (Only 0 ∷ Only 2 ∷ [])
pair-named = record { named = ((omega arith, refl), ((omega arith, refl), tt)); few = omega arith }

needs-few : (o : Op) → AreFew (value_needs o)
needs-few (op.Binary binary.Lsh last_operand.Register) = count-named
needs-few (op.Binary binary.Rsh last_operand.Register) = count-named
needs-few (op.Binary binary.RshU last_operand.Register) = count-named
needs-few (op.Binary binary.Div last) = pair-named
needs-few (op.Binary binary.DivU last) = pair-named
needs-few (op.Binary binary.Rem last) = pair-named
needs-few (op.Binary binary.RemU last) = pair-named
needs-few (op.Wide o last) = pair-named
needs-few o = record { named = tt; few = omega arith }

pub record AreChosenWell (choices : List Choice) : Type 0 where
  pub saved : AreSaved choices
  pub few : length choices ≤ 2

pub chosen-well : (a : Around) (o : Op) (choices : List Choice) → AreFor a (value_needs o) [] (value_needs o) choices → AreChosenWell choices
chosen-well a o choices h =
    let n = needs-few o in
    let f = n.few in
    let k = kept a (value_needs o) [] (value_needs o) choices h n.named (omega (arith, f)) in
    let c = k.count in
    record { saved = k.saved; few = omega (arith, c, f) }

pub slots-of : (choices : List Choice) → AreSaved choices → HaveSlots choices
slots-of [] h = tt
slots-of (Free r ∷ choices) h = slots-of choices h
slots-of (Own r ∷ choices) h = slots-of choices h
slots-of (Spill r k ∷ choices) h = (h.1, slots-of choices h.2)

pub choices-have-slots : ChoicesHaveSlots
choices-have-slots n live staged choices h = let k = chosen-well _ n.op choices h in record { few = k.few; slots = slots-of choices k.saved }
