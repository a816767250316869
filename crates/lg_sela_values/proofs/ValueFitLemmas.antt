-- The items of a node that are emitted.
use Rattle.std.proofs.Common.{◌≡◌, ℕ, ◌<◌, ◌⊎◌, inl, inr, Bool, true, false, List, [], ◌∷◌, ◌++◌, refl, sym, subst, arith, length, ◌≤◌}
use Rattle.std.specs.Prelude.{◌==◌, ◌||◌, ⊤, negsuc, pos, ◌≤ℤ◌}
use Rattle.std.specs.List.{list_any}
use Rattle.lg_base.specs.HostNames.{host_address}
use Rattle.lg_base.specs.declared.target.Target.TheVariants.{Aarch64}
use Rattle.lg_op.specs.declared.op.Op.{Op}
use Rattle.lg_op.specs.declared.op.Op.TheVariants as op
use Rattle.lg_op.specs.declared.op.BinaryOp.{BinaryOp}
use Rattle.lg_op.specs.declared.op.BinaryOp.TheVariants as binary
use Rattle.lg_op.specs.declared.op.LastOperand.TheVariants as last_operand
use Rattle.lg_op.specs.declared.op.WideOp.{WideOp}
use Rattle.lg_op.specs.declared.op.PlainOp.TheVariants as plain
use Rattle.lg_op.specs.declared.node.Node.{Node}
use Rattle.lg_op.specs.declared.operand.Operand.{Operand}
use Rattle.lg_op.specs.declared.operand.Operand.TheVariants as operand
use Rattle.lg_temp.specs.declared.choice.Need.TheVariants.{Any}
use Rattle.lg_temp.specs.declared.choice.Choice.{Choice}
use Rattle.lg_temp.specs.declared.choice.Choice.TheVariants.{Free, Own, Spill}
use Rattle.lg_temp.specs.Abis.{register_of}
use Rattle.lg_temp.specs.Chosen.{Around, around, order}
use Rattle.lg_temp.specs.Choices.{AreFor}
use Rattle.lg_sela_values.specs.Processor.Numbers.{number_code}
use Rattle.lg_sela_values.specs.Processor.A64Rows.{link, can_save, slot_offset}
use Rattle.lg_sela_values.proofs.OfProcessor.IsaLemmas.{tried-saved}
use Rattle.lg_sela_values.specs.declared.items.Item.{Item}
use Rattle.lg_sela_values.specs.Items.{words_in, ones, NameLabels}
use Rattle.lg_sela_values.proofs.ItemLemmas.{names-append, names-ones}
use Rattle.lg_sela_values.specs.BinaryCode.{register_code, second_register, number_form_code}
use Rattle.lg_sela_values.specs.UnaryCode.{unary_code, retval_code}
use Rattle.lg_sela_values.specs.WideCode.{wide_code, wide_by_link}
use Rattle.lg_carry.specs.Values.Parts.{first_taken, operand_in, HaveSlots}
use Rattle.lg_sela_values.specs.ValueItems.{value_needs, load_items, binary_items, wide_items, register_in, body_items, saved_items, value_items}
use Rattle.lg_carry.specs.Nodes.Operands.{NamesBelow, NameBelow}
use Rattle.lg_sela_values.specs.ValueFits.{AreValueItems, ValueItemsFit, ValueItemsStay, ValueItemsName}
use Rattle.lg_sela_values.specs.GoodItems.{Fine, IsGoodItem}
use Rattle.lg_sela_values.proofs.GoodLemmas.{items-good, good-items-are-appendable}
use Rattle.lg_sela_values.proofs.FitLemmas.{body-good}
use Rattle.lg_sela_values.proofs.WithinLemmas.{In}
use Rattle.lg_sel.proofs.LabelLemmas.{operand-below}
use Rattle.lg_sel.specs.Holes.{Each}
use Rattle.lg_op.specs.declared.operand.Reg.{Reg}
use Rattle.std.proofs.lemmas.Bool.Decides.{nat_tests}
use Rattle.lg_sela_values.proofs.WordLemmas.{body_few, saved_few}

-- ---- choices
save-small : (r : ℕ) → can_save r ≡ true → r < 32
save-small r h = grind (arith, h)

first-slot : (negsuc 255 ≤ℤ slot_offset 0) × (slot_offset 0 ≤ℤ pos 255)
first-slot = (grind arith, grind arith)

-- a register that is tried
same : (x r : ℕ) → (x == r) ≡ true → x ≡ r
same x r h = grind (arith, nat_tests)

abbrev AllIn : List ℕ → Type 0
AllIn [] = ⊤
AllIn (x ∷ xs) = In x × AllIn xs

member : (xs : List ℕ) (r : ℕ) → AllIn xs → list_any (λ x. x == r) xs ≡ true → In r
member [] r k e = cc
member (x ∷ xs) r k e = by (x == r) refl (λ h. member xs r k.1 h) e
  where
    by : (b : Bool) → (x == r) ≡ b → (list_any (λ y. y == r) xs ≡ true → In r) → (b || list_any (λ y. y == r) xs) ≡ true → In r
    by true h rest e = subst (λ z. In z) (same x r h) k.0
    by false h rest e = rest e

tried : (r : ℕ) → list_any (λ x. x == r) (order Aarch64) ≡ true → In r
tried r h = member (order Aarch64) r (refl, (refl, (refl, (refl, (refl, (refl, (refl, (refl, (refl, (refl, (refl, (refl, (refl, (refl, tt)))))))))))))) h

fine : (r : ℕ) → list_any (λ x. x == r) (order Aarch64) ≡ true → Fine r
fine r h = (save-small r (tried-saved r h), tried r h)

-- good items with this choice, or none
good : (n : Node) (choices : List Choice) → length choices ≤ 1 → HaveSlots choices → words_in (value_items n choices) ≤ 10 → Each IsGoodItem (value_items n choices) → AreValueItems n choices
good n choices few slots short h =
    let a = good-items-are-appendable (value_items n choices) h in
    record { few = few; slots = slots; fit = a.fit; short = short; block = a.block }

none-good : (n : Node) → Each IsGoodItem (value_items n [])
none-good n = body-good n.op n.operands 0 (omega arith, refl)

saved-good : (n : Node) (r : ℕ) → Fine r → Each IsGoodItem (value_items n (Spill r 0 ∷ []))
saved-good n r h =
    let body = body_items n.op n.operands r in
    (((h.0, omega arith, first-slot.0, first-slot.1), tt, refl), items-good body _ (body-good n.op n.operands r h) (((h.0, omega arith, first-slot.0, first-slot.1), h.1, refl), tt))

needs-are : (o : Op) → (value_needs o ≡ []) ⊎ (value_needs o ≡ Any ∷ [])
needs-are (op.Binary binary.Rem last_operand.Immediate) = inr refl
needs-are (op.Binary binary.RemU last_operand.Immediate) = inr refl
needs-are (op.Binary o last) = inl refl
needs-are o = inl refl

-- what is asked of the items of a node with these choices
record AreFine (n : Node) (choices : List Choice) : Type 0 where
  are : AreValueItems n choices
  good : Each IsGoodItem (value_items n choices)

without : (n : Node) (a : Around) (choices : List Choice) → AreFor a [] [] [] choices → AreFine n choices
without n a [] h = let f = body_few n.op n.operands 0 in record { are = good n [] (omega arith) tt (omega (arith, f)) (none-good n); good = none-good n }
without n a (choice ∷ choices) h = absurd h

one : (n : Node) (a : Around) (choices : List Choice) → a.target ≡ Aarch64 → AreFor a (Any ∷ []) [] (Any ∷ []) choices → AreFine n choices
one n a [] e h = absurd h
one n a (choice ∷ next ∷ choices) e h = absurd h.1
one n a (Own r ∷ []) e h = absurd h.0
one n a (Free r ∷ []) e h =
    let k = fine r (subst (λ t. list_any (λ x. x == r) (order t) ≡ true) e h.0.0.tried) in
    let f = body_few n.op n.operands r in
    let g = body-good n.op n.operands r k in
    record { are = good n (Free r ∷ []) (omega arith) tt (omega (arith, f)) g; good = g }
one n a (Spill r k ∷ []) e h =
    let at = fine r (subst (λ t. list_any (λ x. x == r) (order t) ≡ true) e h.0.0.tried) in
    let f = saved_few (Spill r 0 ∷ []) (body_items n.op n.operands r) 8 (body_few n.op n.operands r) in
    let g = saved-good n r at in
    subst (λ z. AreFine n (Spill r z ∷ [])) (sym h.0.1) record { are = good n (Spill r 0 ∷ []) (omega arith) (omega arith, tt) (omega (arith, f)) g; good = g }

fine-items : (n : Node) (live : Reg → Bool) (staged : List Bool) (choices : List Choice) → AreFor (around Aarch64 n live staged) (value_needs n.op) [] (value_needs n.op) choices → AreFine n choices
fine-items n live staged choices h = by (needs-are n.op)
  where
    by : (value_needs n.op ≡ []) ⊎ (value_needs n.op ≡ Any ∷ []) → AreFine n choices
    by (inl e) = without n (around Aarch64 n live staged) choices (subst (λ needs. AreFor (around Aarch64 n live staged) needs [] needs choices) e h)
    by (inr e) = one n (around Aarch64 n live staged) choices refl (subst (λ needs. AreFor (around Aarch64 n live staged) needs [] needs choices) e h)

pub value-items-fit : ValueItemsFit
value-items-fit n live staged choices h = (fine-items n live staged choices h).are

pub value-items-stay : ValueItemsStay
value-items-stay n live staged choices h = (good-items-are-appendable (value_items n choices) (fine-items n live staged choices h).good).within

-- ---- labels
load-names : (labels t : ℕ) (x : Operand) → NamesBelow labels x → NameLabels labels (load_items t x)
load-names labels t (operand.Number v) h = names-ones labels (number_code t v)
load-names labels t (operand.Host name) h = names-ones labels (number_code t (host_address name))
load-names labels t (operand.Label l) h = (h, tt)
load-names labels t (operand.Reg r) h = tt
load-names labels t (operand.Slot k) h = tt

loaded-names : (labels : ℕ) (o : BinaryOp) (u d a : ℕ) (x : Operand) → NamesBelow labels x → NameLabels labels (load_items (second_register o u) x ++ ones (register_code o d a (second_register o u)))
loaded-names labels o u d a x h =
    let t = second_register o u in names-append labels (load_items t x) (ones (register_code o d a t)) (load-names labels t x h) (names-ones labels (register_code o d a t))

binary-names : (labels : ℕ) (o : BinaryOp) (u d a : ℕ) (x : Operand) → NamesBelow labels x → NameLabels labels (binary_items o u d a x)
binary-names labels o u d a (operand.Reg r) h = names-ones labels (register_code o d a (register_of Aarch64 r))
binary-names labels o u d a (operand.Number v) h = names-ones labels (number_form_code o u d a v)
binary-names labels o u d a (operand.Host name) h = loaded-names labels o u d a (operand.Host name) h
binary-names labels o u d a (operand.Label l) h = loaded-names labels o u d a (operand.Label l) h
binary-names labels o u d a (operand.Slot k) h = loaded-names labels o u d a (operand.Slot k) h

link-names : (labels : ℕ) (o : WideOp) (d e a : ℕ) (x : Operand) → NamesBelow labels x → NameLabels labels (load_items link x ++ ones (wide_by_link o d e a))
link-names labels o d e a x h = names-append labels (load_items link x) (ones (wide_by_link o d e a)) (load-names labels link x h) (names-ones labels (wide_by_link o d e a))

wide-names : (labels : ℕ) (o : WideOp) (d e a : ℕ) (x : Operand) → NamesBelow labels x → NameLabels labels (wide_items o d e a x)
wide-names labels o d e a (operand.Reg r) h = names-ones labels (wide_code o d e a (register_of Aarch64 r))
wide-names labels o d e a (operand.Number v) h = link-names labels o d e a (operand.Number v) h
wide-names labels o d e a (operand.Host name) h = link-names labels o d e a (operand.Host name) h
wide-names labels o d e a (operand.Label l) h = link-names labels o d e a (operand.Label l) h
wide-names labels o d e a (operand.Slot k) h = link-names labels o d e a (operand.Slot k) h

body-names : (labels : ℕ) (o : Op) (xs : List Operand) (u : ℕ) → NameBelow labels xs → NameLabels labels (body_items o xs u)
body-names labels (op.Binary o last) xs u h = binary-names labels o u (register_in xs 0) (register_in xs 1) (operand_in xs 2) (operand-below labels xs 2 h)
body-names labels (op.Wide o last) xs u h = wide-names labels o (register_in xs 0) (register_in xs 1) (register_in xs 2) (operand_in xs 3) (operand-below labels xs 3 h)
body-names labels (op.Unary o) xs u h = names-ones labels (unary_code o (register_in xs 0) (register_in xs 1))
body-names labels (op.Plain plain.Movi) xs u h = load-names labels (register_in xs 0) (operand_in xs 1) (operand-below labels xs 1 h)
body-names labels (op.Plain plain.VaStart) xs u h = load-names labels (register_in xs 0) (operand_in xs 1) (operand-below labels xs 1 h)
body-names labels (op.Plain o) xs u h = tt
body-names labels (op.Retval t) xs u h = names-ones labels (retval_code t (register_in xs 0))
body-names labels o xs u h = tt

saved-names : (labels : ℕ) (choices : List Choice) (body : List Item) → NameLabels labels body → NameLabels labels (saved_items choices body)
saved-names labels [] body h = h
saved-names labels (Free r ∷ choices) body h = saved-names labels choices body h
saved-names labels (Own r ∷ choices) body h = saved-names labels choices body h
saved-names labels (Spill r k ∷ choices) body h = (tt, names-append labels (saved_items choices body) _ (saved-names labels choices body h) (tt, tt))

pub value-items-name : ValueItemsName
value-items-name labels n choices h = saved-names labels choices (body_items n.op n.operands (first_taken choices)) (body-names labels n.op n.operands (first_taken choices) h)
