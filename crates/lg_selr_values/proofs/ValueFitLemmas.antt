-- The items of a node that are emitted.
use Rattle.std.proofs.Common.{◌≡◌, ℕ, ◌<◌, ◌⊎◌, inl, inr, Bool, true, false, List, [], ◌∷◌, ◌++◌, refl, sym, subst, arith, length, ◌≤◌}
use Rattle.std.specs.Prelude.{◌==◌, ◌||◌, ⊤, negsuc, pos, ◌≤ℤ◌, if◌then◌else◌}
use Rattle.std.specs.List.{list_any}
use Rattle.lg_base.specs.HostNames.{host_address}
use Rattle.lg_base.specs.declared.target.Target.TheVariants.{Riscv64}
use Rattle.lg_op.specs.declared.op.Op.{Op}
use Rattle.lg_op.specs.declared.op.Op.TheVariants as op
use Rattle.lg_op.specs.declared.op.BinaryOp.{BinaryOp}
use Rattle.lg_op.specs.declared.op.BinaryOp.TheVariants as binary
use Rattle.lg_op.specs.declared.op.WideOp.{WideOp}
use Rattle.lg_op.specs.declared.op.PlainOp.TheVariants as plain
use Rattle.lg_op.specs.declared.node.Node.{Node}
use Rattle.lg_op.specs.declared.operand.Operand.{Operand}
use Rattle.lg_op.specs.declared.operand.Operand.TheVariants as operand
use Rattle.lg_op.specs.Operators.{sets_carry}
use Rattle.lg_temp.specs.declared.choice.Need.{Need}
use Rattle.lg_temp.specs.declared.choice.Need.TheVariants.{Any}
use Rattle.lg_temp.specs.declared.choice.Choice.{Choice}
use Rattle.lg_temp.specs.declared.choice.Choice.TheVariants.{Free, Own, Spill}
use Rattle.lg_temp.specs.Abis.{register_of}
use Rattle.lg_temp.specs.Chosen.{Around, around, order}
use Rattle.lg_temp.specs.Choices.{AreFor}
use Rattle.lg_selr_values.specs.Processor.Numbers.{number_code}
use Rattle.lg_selr_values.specs.Processor.RvRows.{can_save, slot_offset}
use Rattle.lg_selr_values.proofs.OfProcessor.IsaLemmas.{tried-saved}
use Rattle.lg_selr_values.specs.declared.items.Item.{Item}
use Rattle.lg_selr_values.specs.Items.{words_in, ones, NameLabels}
use Rattle.lg_selr_values.proofs.ItemLemmas.{names-append, names-ones}
use Rattle.lg_selr_values.specs.BinaryCode.{register_code, number_form_code}
use Rattle.lg_selr_values.specs.CarryCode.{carry_code}
use Rattle.lg_selr_values.specs.UnaryCode.{unary_code, retval_code}
use Rattle.lg_selr_values.specs.WideCode.{wide_code}
use Rattle.lg_carry.specs.Values.Parts.{first_taken, operand_in, HaveSlots}
use Rattle.lg_selr_values.specs.ValueItems.{value_needs, load_items, binary_items, second_items, carry_items, wide_items, operation_items, register_in, body_items, saved_items, value_items}
use Rattle.lg_carry.specs.Nodes.Operands.{NamesBelow, NameBelow}
use Rattle.lg_selr_values.specs.ValueFits.{AreValueItems, ValueItemsFit, ValueItemsStay, ValueItemsName}
use Rattle.lg_selr_values.specs.GoodItems.{Fine, IsGoodItem}
use Rattle.lg_selr_values.proofs.GoodLemmas.{items-good, good-items-are-appendable}
use Rattle.lg_selr_values.proofs.FitLemmas.{body-good}
use Rattle.lg_selr_values.proofs.WithinLemmas.{In}
use Rattle.lg_sel.proofs.LabelLemmas.{operand-below}
use Rattle.lg_sel.specs.Holes.{Each}
use Rattle.lg_op.specs.declared.operand.Reg.{Reg}
use Rattle.std.proofs.lemmas.Bool.Decides.{nat_tests}
use Rattle.lg_selr_values.proofs.WordLemmas.{body_few, saved_few}

-- ---- choices
save-small : (r : ℕ) → can_save r ≡ true → r < 32
save-small r h = grind (arith, h)

first-slot : (negsuc 2047 ≤ℤ slot_offset 0) × (slot_offset 0 ≤ℤ pos 2047)
first-slot = (grind arith, grind arith)

-- a register that is tried
same : (x r : ℕ) → (x == r) ≡ true → x ≡ r
same x r h = grind (arith, nat_tests)

abbrev AllIn : List ℕ → Type 0
AllIn [] = ⊤
AllIn (x ∷ xs) = In x × AllIn xs

member : (xs : List ℕ) (r : ℕ) → AllIn xs → list_any (λ x. x == r) xs ≡ true → In r
member [] r k e = cc
member (x ∷ xs) r k e = by (x == r) refl (λ h. member xs r k.1 h) e
  where
    by : (b : Bool) → (x == r) ≡ b → (list_any (λ y. y == r) xs ≡ true → In r) → (b || list_any (λ y. y == r) xs) ≡ true → In r
    by true h rest e = subst (λ z. In z) (same x r h) k.0
    by false h rest e = rest e

tried : (r : ℕ) → list_any (λ x. x == r) (order Riscv64) ≡ true → In r
tried r h = member (order Riscv64) r (refl, (refl, (refl, (refl, (refl, (refl, (refl, (refl, (refl, (refl, (refl, (refl, (refl, (refl, tt)))))))))))))) h

fine : (r : ℕ) → list_any (λ x. x == r) (order Riscv64) ≡ true → Fine r
fine r h = (save-small r (tried-saved r h), tried r h)

-- good items with this choice, or none
good : (n : Node) (choices : List Choice) → length choices ≤ 1 → HaveSlots choices → words_in (value_items n choices) ≤ 32 → Each IsGoodItem (value_items n choices) → AreValueItems n choices
good n choices few slots short h =
    let a = good-items-are-appendable (value_items n choices) h in
    record { few = few; slots = slots; fit = a.fit; short = short; block = a.block }

needs-are : (o : Op) → (value_needs o ≡ []) ⊎ (value_needs o ≡ Any ∷ [])
needs-are (op.Binary binary.Addx last) = inr refl
needs-are (op.Binary binary.Subx last) = inr refl
needs-are (op.Binary o last) = inl refl
needs-are o = inl refl

-- items with one temporary at most, which is saved or not
pub record AreTemporary (choices : List Choice) (body : ℕ → List Item) : Type 0 where
  pub few : length choices ≤ 1
  pub slots : HaveSlots choices
  pub good : Each IsGoodItem (saved_items choices (body (first_taken choices)))

module _ (a : Around) (on : a.target ≡ Riscv64) (body : ℕ → List Item) (body-is-good : (u : ℕ) → Fine u → Each IsGoodItem (body u)) where
  without : (choices : List Choice) → AreFor a [] [] [] choices → AreTemporary choices body
  without [] h = record { few = omega arith; slots = tt; good = body-is-good 0 (omega arith, refl) }
  without (choice ∷ choices) h = absurd h

  one : (choices : List Choice) → AreFor a (Any ∷ []) [] (Any ∷ []) choices → AreTemporary choices body
  one [] h = absurd h
  one (choice ∷ next ∷ choices) h = absurd h.1
  one (Own r ∷ []) h = absurd h.0
  one (Free r ∷ []) h = record { few = omega arith; slots = tt; good = body-is-good r (fine r (subst (λ t. list_any (λ x. x == r) (order t) ≡ true) on h.0.0.tried)) }
  one (Spill r k ∷ []) h =
      let at = fine r (subst (λ t. list_any (λ x. x == r) (order t) ≡ true) on h.0.0.tried) in
      subst (λ z. AreTemporary (Spill r z ∷ []) body) (sym h.0.1) record {
        few = omega arith;
        slots = (omega arith, tt);
        good = (((omega arith, at.0, first-slot.0, first-slot.1), tt, refl), items-good (body r) _ (body-is-good r at) (((at.0, omega arith, first-slot.0, first-slot.1), at.1, refl), tt));
      }

  pub temporary-good : (needs : List Need) (choices : List Choice) → (needs ≡ []) ⊎ (needs ≡ Any ∷ []) → AreFor a needs [] needs choices → AreTemporary choices body
  temporary-good needs choices (inl e) h = without choices (subst (λ ns. AreFor a ns [] ns choices) e h)
  temporary-good needs choices (inr e) h = one choices (subst (λ ns. AreFor a ns [] ns choices) e h)

-- what is asked of the items of a node with these choices
record AreFine (n : Node) (choices : List Choice) : Type 0 where
  are : AreValueItems n choices
  good : Each IsGoodItem (value_items n choices)

fine-items : (n : Node) (live : Reg → Bool) (staged : List Bool) (choices : List Choice) → AreFor (around Riscv64 n live staged) (value_needs n.op) [] (value_needs n.op) choices → AreFine n choices
fine-items n live staged choices h =
    let body : ℕ → List Item = body_items n.op n.operands in
    let m = temporary-good (around Riscv64 n live staged) refl body (body-good n.op n.operands) (value_needs n.op) choices (needs-are n.op) h in
    let f = saved_few choices (body (first_taken choices)) 30 (body_few n.op n.operands (first_taken choices)) in
    let few = m.few in
    record { are = good n choices few m.slots (omega (arith, f, few)) m.good; good = m.good }

pub value-items-fit : ValueItemsFit
value-items-fit n live staged choices h = (fine-items n live staged choices h).are

pub value-items-stay : ValueItemsStay
value-items-stay n live staged choices h = (good-items-are-appendable (value_items n choices) (fine-items n live staged choices h).good).within

-- ---- labels
load-names : (labels t : ℕ) (x : Operand) → NamesBelow labels x → NameLabels labels (load_items t x)
load-names labels t (operand.Number v) h = names-ones labels (number_code t v)
load-names labels t (operand.Host name) h = names-ones labels (number_code t (host_address name))
load-names labels t (operand.Label l) h = (h, tt)
load-names labels t (operand.Reg r) h = tt
load-names labels t (operand.Slot k) h = tt

second-names : (labels : ℕ) (x : Operand) → NamesBelow labels x → NameLabels labels (second_items x)
second-names labels (operand.Reg r) h = (tt, tt)
second-names labels (operand.Number v) h = load-names labels 1 (operand.Number v) h
second-names labels (operand.Host name) h = load-names labels 1 (operand.Host name) h
second-names labels (operand.Label l) h = load-names labels 1 (operand.Label l) h
second-names labels (operand.Slot k) h = load-names labels 1 (operand.Slot k) h

loaded-names : (labels : ℕ) (o : BinaryOp) (d a : ℕ) (x : Operand) → NamesBelow labels x → NameLabels labels (load_items 1 x ++ ones (register_code o d a 1))
loaded-names labels o d a x h = names-append labels (load_items 1 x) (ones (register_code o d a 1)) (load-names labels 1 x h) (names-ones labels (register_code o d a 1))

binary-names : (labels : ℕ) (o : BinaryOp) (d a : ℕ) (x : Operand) → NamesBelow labels x → NameLabels labels (binary_items o d a x)
binary-names labels o d a (operand.Reg r) h = names-ones labels (register_code o d a (register_of Riscv64 r))
binary-names labels o d a (operand.Number v) h = names-ones labels (number_form_code o d a v)
binary-names labels o d a (operand.Host name) h = loaded-names labels o d a (operand.Host name) h
binary-names labels o d a (operand.Label l) h = loaded-names labels o d a (operand.Label l) h
binary-names labels o d a (operand.Slot k) h = loaded-names labels o d a (operand.Slot k) h

wide-loaded-names : (labels : ℕ) (o : WideOp) (d e a : ℕ) (x : Operand) → NamesBelow labels x → NameLabels labels (load_items 31 x ++ ones (wide_code o d e a 31))
wide-loaded-names labels o d e a x h = names-append labels (load_items 31 x) (ones (wide_code o d e a 31)) (load-names labels 31 x h) (names-ones labels (wide_code o d e a 31))

wide-names : (labels : ℕ) (o : WideOp) (d e a : ℕ) (x : Operand) → NamesBelow labels x → NameLabels labels (wide_items o d e a x)
wide-names labels o d e a (operand.Reg r) h = names-ones labels (wide_code o d e a (register_of Riscv64 r))
wide-names labels o d e a (operand.Number v) h = wide-loaded-names labels o d e a (operand.Number v) h
wide-names labels o d e a (operand.Host name) h = wide-loaded-names labels o d e a (operand.Host name) h
wide-names labels o d e a (operand.Label l) h = wide-loaded-names labels o d e a (operand.Label l) h
wide-names labels o d e a (operand.Slot k) h = wide-loaded-names labels o d e a (operand.Slot k) h

operation-names : (labels : ℕ) (o : BinaryOp) (u d a : ℕ) (x : Operand) → NamesBelow labels x → NameLabels labels (operation_items o u d a x)
operation-names labels o u d a x h = by (sets_carry o)
  where
    by : (b : Bool) → NameLabels labels (if b then carry_items o u d a x else binary_items o d a x)
    by true = names-append labels (second_items x) (ones (carry_code o u d a)) (second-names labels x h) (names-ones labels (carry_code o u d a))
    by false = binary-names labels o d a x h

body-names : (labels : ℕ) (o : Op) (xs : List Operand) (u : ℕ) → NameBelow labels xs → NameLabels labels (body_items o xs u)
body-names labels (op.Binary o last) xs u h = operation-names labels o u (register_in xs 0) (register_in xs 1) (operand_in xs 2) (operand-below labels xs 2 h)
body-names labels (op.Wide o last) xs u h = wide-names labels o (register_in xs 0) (register_in xs 1) (register_in xs 2) (operand_in xs 3) (operand-below labels xs 3 h)
body-names labels (op.Unary o) xs u h = names-ones labels (unary_code o (register_in xs 0) (register_in xs 1))
body-names labels (op.Plain plain.Movi) xs u h = load-names labels (register_in xs 0) (operand_in xs 1) (operand-below labels xs 1 h)
body-names labels (op.Plain plain.VaStart) xs u h = load-names labels (register_in xs 0) (operand_in xs 1) (operand-below labels xs 1 h)
body-names labels (op.Plain o) xs u h = tt
body-names labels (op.Retval t) xs u h = names-ones labels (retval_code t (register_in xs 0))
body-names labels o xs u h = tt

pub saved-names : (labels : ℕ) (choices : List Choice) (body : List Item) → NameLabels labels body → NameLabels labels (saved_items choices body)
saved-names labels [] body h = h
saved-names labels (Free r ∷ choices) body h = saved-names labels choices body h
saved-names labels (Own r ∷ choices) body h = saved-names labels choices body h
saved-names labels (Spill r k ∷ choices) body h = (tt, names-append labels (saved_items choices body) _ (saved-names labels choices body h) (tt, tt))

pub value-items-name : ValueItemsName
value-items-name labels n choices h = saved-names labels choices (body_items n.op n.operands (first_taken choices)) (body-names labels n.op n.operands (first_taken choices) h)
