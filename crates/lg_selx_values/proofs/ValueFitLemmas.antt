-- The items of a node that are emitted.
use Rattle.std.proofs.Common.{ℕ, zero, suc, ◌+◌, ◌-◌, ◌*◌, ◌^◌, ◌<◌, ◌≤◌, false, List, [], ◌∷◌, length, refl, arith}
use Rattle.std.specs.Prelude.{⊤, pos}
use Rattle.std.proofs.lemmas.Int.{ints}
use Rattle.lg_base.specs.HostNames.{host_address}
use Rattle.lg_base.specs.declared.host_name.HostName.{HostName}
use Rattle.lg_base.specs.declared.target.Target.TheVariants.{X86_64}
use Rattle.lg_op.specs.declared.op.Op.{Op}
use Rattle.lg_op.specs.declared.op.Op.TheVariants as op
use Rattle.lg_op.specs.declared.op.BinaryOp.{BinaryOp}
use Rattle.lg_op.specs.declared.op.PlainOp.TheVariants as plain
use Rattle.lg_op.specs.declared.op.WideOp.{WideOp}
use Rattle.lg_op.specs.declared.node.Node.{Node}
use Rattle.lg_op.specs.declared.operand.Operand.{Operand}
use Rattle.lg_op.specs.declared.operand.Operand.TheVariants as operand
use Rattle.lg_temp.specs.declared.choice.Choice.{Choice}
use Rattle.lg_temp.specs.declared.choice.Choice.TheVariants.{Free, Own, Spill}
use Rattle.lg_temp.specs.Abis.{register_of}
use Rattle.lg_temp.specs.Chosen.{around}
use Rattle.lg_x86.specs.Spelling.{IsNumber32}
use Rattle.lg_x86.specs.declared.instruction.Instr.{Instr}
use Rattle.lg_selx_values.specs.Processor.Destinations.{WritesWithin}
use Rattle.lg_selx_values.specs.Processor.Numbers.{number_row}
use Rattle.lg_selx_values.specs.Processor.X86Rows.{slot_offset}
use Rattle.lg_selx_values.proofs.OfProcessor.NumberCodeLemmas.{half-number}
use Rattle.lg_sel.proofs.LabelLemmas.{operand-below}
use Rattle.lg_sel.specs.Holes.{Each}
use Rattle.lg_sel.proofs.ListLemmas.{each-append}
use Rattle.lg_selx_values.specs.declared.items.Item.{Item}
use Rattle.lg_selx_values.specs.declared.items.Item.TheVariants.{One, Address}
use Rattle.lg_selx_values.specs.Items.{words_in, ones, StaysWithin, NameLabels}
use Rattle.lg_selx_values.specs.GoodItems.{Fine, IsGood, IsGoodItem}
use Rattle.lg_selx_values.proofs.GoodLemmas.{number-within, number-good, good-items-are-appendable}
use Rattle.lg_selx_values.proofs.ItemLemmas.{words_append, words-ones, names-append, names-ones}
use Rattle.lg_selx_values.proofs.WithinLemmas.{portable}
use Rattle.lg_selx_values.specs.UnaryCode.{unary_code, retval_code}
use Rattle.lg_carry.specs.Nodes.Operands.{HasWord, HaveWords, NamesBelow, NameBelow}
use Rattle.lg_selx_values.specs.ValueFits.{ValueItemsFit, ValueItemsName, ValueItemsStay}
use Rattle.lg_carry.specs.Values.Parts.{operand_in, register_for}
use Rattle.lg_selx_values.specs.ValueItems.{load_items, binary_code, binary_number_code, binary_items, wide_items, register_in, body_items, save, restore, saved_items, value_items}
use Rattle.lg_selx_values.specs.WideCode.{wide_code, wide_number_code}
use Rattle.lg_selx_values.proofs.ChoiceLemmas.{AreSaved, chosen-well, slots-of}
use Rattle.lg_selx_values.proofs.GivenLemmas.{host-small}
use Rattle.lg_selx_values.proofs.RegisterLemmas.{register-portable}
use Rattle.lg_selx_values.proofs.SpellingLemmas.{IsShort, rows-short, address-short, save-short, restore-short, bytes-few}
use Rattle.lg_selx_values.proofs.RowLemmas.{HoldsOfRows, Holds, rax-fine, binary-made, binary-number-made, unary-made, retval-made, wide-made, wide-number-made}

-- ---- registers and numbers of operands
register-fine : (x : Operand) → Fine (register_for X86_64 x)
register-fine (operand.Reg r) = ((register-portable r).small, portable r)
register-fine (operand.Number v) = rax-fine
register-fine x = rax-fine

fine-at : (xs : List Operand) (i : ℕ) → Fine (register_in xs i)
fine-at xs i = register-fine (operand_in xs i)

-- a fact of the number that an operand is
abbrev Has : (ℕ → Type 0) → Operand → Type 0
Has S (operand.Number v) = S v
Has S x = ⊤

-- ---- a fact of the items of a node, where it holds of those that they are made of
module _ (frame : ℕ) (Q : Item → Type 0) (S : ℕ → Type 0) (h : HoldsOfRows frame (λ i. Q (One i)) S) (hosts : (name : HostName) → S (host_address name)) (address : (t l : ℕ) → Fine t → Q (Address t l))
    (saves : (r k : ℕ) → Fine r → k < 5 → Q (One (save r k))) (restores : (r k : ℕ) → Fine r → k < 5 → Q (One (restore r k))) where
  abbrev P : Instr → Type 0
  P i = Q (One i)

  pub record Are (n : ℕ) (xs : List Item) : Type 0 where
    pub each : Each Q xs
    pub few : words_in xs ≤ n

  ones-each : (is : List Instr) → Each P is → Each Q (ones is)
  ones-each [] k = tt
  ones-each (i ∷ is) k = (k.0, ones-each is k.1)

  -- instructions (at most 8)
  of : (n : ℕ) (is : List Instr) → n ≤ 8 → Holds P n is → Are 8 (ones is)
  of n is le k = let w = words-ones is in let f = k.few in record { each = ones-each is k.each; few = omega (arith, w, f, le) }

  none : Are 8 []
  none = record { each = tt; few = omega arith }

  load-are : (t : ℕ) (x : Operand) → Fine t → Has S x → Are 8 (load_items t x)
  load-are t (operand.Number v) f s = of 1 (number_row t v ∷ []) (omega arith) record { each = (h.number t v f s, tt); few = omega arith }
  load-are t (operand.Host name) f s = of 1 (number_row t (host_address name) ∷ []) (omega arith) record { each = (h.number t (host_address name) f (hosts name), tt); few = omega arith }
  load-are t (operand.Label l) f s = record { each = (address t l.0 f, tt); few = omega arith }
  load-are t (operand.Reg r) f s = none
  load-are t (operand.Slot k) f s = none

  binary-are : (o : BinaryOp) (d a : ℕ) (x : Operand) → Fine d → Fine a → Has S x → Are 8 (binary_items o frame d a x)
  binary-are o d a (operand.Reg r) fd fa s = of 7 (binary_code o frame d a (register_of X86_64 r)) (omega arith) (binary-made frame P S h o d a (register_of X86_64 r) fd fa (register-fine (operand.Reg r)) (register-portable r).no_stack)
  binary-are o d a (operand.Number v) fd fa s = of 6 (binary_number_code o frame d a v) (omega arith) (binary-number-made frame P S h d a v fd fa s o)
  binary-are o d a (operand.Host name) fd fa s = of 6 (binary_number_code o frame d a (host_address name)) (omega arith) (binary-number-made frame P S h d a (host_address name) fd fa (hosts name) o)
  binary-are o d a (operand.Label l) fd fa s = none
  binary-are o d a (operand.Slot k) fd fa s = none

  wide-are : (o : WideOp) (d e a : ℕ) (x : Operand) → Fine d → Fine e → Fine a → Has S x → Are 8 (wide_items o frame d e a x)
  wide-are o d e a (operand.Reg r) fd fe fa s = of 8 (wide_code o frame d e a (register_of X86_64 r)) (omega arith) (wide-made frame P S h o d e a (register_of X86_64 r) fd fe fa.0 (register-portable r).small)
  wide-are o d e a (operand.Number v) fd fe fa s = of 8 (wide_number_code o frame d e a v) (omega arith) (wide-number-made frame P S h o d e a v fd fe fa.0 s)
  wide-are o d e a (operand.Host name) fd fe fa s = of 8 (wide_number_code o frame d e a (host_address name)) (omega arith) (wide-number-made frame P S h o d e a (host_address name) fd fe fa.0 (hosts name))
  wide-are o d e a (operand.Label l) fd fe fa s = none
  wide-are o d e a (operand.Slot k) fd fe fa s = none

  pub body-are : (o : Op) (xs : List Operand) → ((i : ℕ) → Has S (operand_in xs i)) → Are 8 (body_items frame o xs)
  body-are (op.Binary o last) xs s = binary-are o (register_in xs 0) (register_in xs 1) (operand_in xs 2) (fine-at xs 0) (fine-at xs 1) (s 2)
  body-are (op.Wide o last) xs s = wide-are o (register_in xs 0) (register_in xs 1) (register_in xs 2) (operand_in xs 3) (fine-at xs 0) (fine-at xs 1) (fine-at xs 2) (s 3)
  body-are (op.Unary o) xs s = of 3 (unary_code o (register_in xs 0) (register_in xs 1)) (omega arith) (unary-made frame P S h o (register_in xs 0) (register_in xs 1) (fine-at xs 0) (fine-at xs 1).0)
  body-are (op.Plain plain.Movi) xs s = load-are (register_in xs 0) (operand_in xs 1) (fine-at xs 0) (s 1)
  body-are (op.Plain plain.VaStart) xs s = load-are (register_in xs 0) (operand_in xs 1) (fine-at xs 0) (s 1)
  body-are (op.Plain o) xs s = none
  body-are (op.Retval t) xs s = of 3 (retval_code t (register_in xs 0)) (omega arith) (retval-made frame P S h t (register_in xs 0) (fine-at xs 0))
  body-are o xs s = none

  -- a save and a restore for each choice at most
  saved-are : (choices : List Choice) (body : List Item) (n : ℕ) → AreSaved choices → Are n body → Are (n + 2 * length choices) (saved_items choices body)
  saved-are [] body n s k = let f = k.few in record { each = k.each; few = omega (arith, f) }
  saved-are (Free r ∷ choices) body n s k = let m = saved-are choices body n s k in let f = m.few in record { each = m.each; few = omega (arith, f) }
  saved-are (Own r ∷ choices) body n s k = let m = saved-are choices body n s k in let f = m.few in record { each = m.each; few = omega (arith, f) }
  saved-are (Spill r j ∷ choices) body n s k =
      let m = saved-are choices body n s.2 k in
      let f = m.few in
      let w = words_append (saved_items choices body) (One (restore r j) ∷ []) in
      record {
        each = (saves r j s.0 s.1, each-append Q (saved_items choices body) (One (restore r j) ∷ []) m.each (restores r j s.0 s.1, tt));
        few = omega (arith, f, w);
      }

-- ---- ranges
slot-number : (k : ℕ) → k < 5 → IsNumber32 (slot_offset k)
slot-number k h = (omega (arith, ints, h), omega (arith, ints, h))

frame-number : (frame : ℕ) → frame ≤ 65808 → IsNumber32 (pos (frame - 16))
frame-number frame h = (omega (arith, ints, h), omega (arith, ints, h))

rows-good : (frame : ℕ) → frame ≤ 65808 → HoldsOfRows frame IsGood (λ v. v < 2 ^ 64)
rows-good frame high = record {
  two = λ o rm reg f l. ((f.0, l), (f.1, tt), refl);
  half = λ o rm v f small e. ((f.0, half-number v small e), (f.1, tt), refl);
  near = λ reg base v f l small e. ((f.0, l, half-number v small e), (f.1, tt), refl);
  sum = λ reg base index f l k ne. ((f.0, l, k, ne), (f.1, tt), refl);
  turned = λ v small. omega arith;
  ext = λ o reg rm f l. ((f.0, l), (f.1, tt), refl);
  number = λ r v f small. number-good r v f small;
  zero = ((omega arith, omega arith), (refl, tt), refl);
  one = λ o rm f. (f.0, (f.1, (refl, (refl, tt))), refl);
  shift = λ o rm count f l. ((f.0, l), (f.1, tt), refl);
  turn = λ r f. (f.0, (f.1, tt), refl);
  set = λ c r f. (f.0, (f.1, tt), refl);
  sign = (tt, (refl, tt), refl);
  again = ((omega arith, omega arith, frame-number frame high), (refl, tt), refl);
}

number-at : (xs : List Operand) (i : ℕ) → HaveWords xs → Has (λ v. v < 2 ^ 64) (operand_in xs i)
number-at [] i h = omega arith
number-at (x ∷ xs) zero h = by x h.0
  where
    by : (x : Operand) → HasWord x → Has (λ v. v < 2 ^ 64) x
    by (operand.Number v) h = h
    by (operand.Reg r) h = tt
    by x h = tt
number-at (x ∷ xs) (suc i) h = number-at xs i h.1

pub any-number : (x : Operand) → Has (λ v. ⊤) x
any-number (operand.Number v) = tt
any-number x = tt

-- each item is spelled in few bytes
each-short : (frame : ℕ) (n : Node) (choices : List Choice) → AreSaved choices → Each IsShort (value_items frame n choices)
each-short frame n choices saved =
    let rows = rows-short frame in
    let address : (t l : ℕ) → Fine t → IsShort (Address t l) = λ t l f. address-short t l in
    let saves : (r k : ℕ) → Fine r → k < 5 → IsShort (One (save r k)) = λ r k f l. save-short r k in
    let restores : (r k : ℕ) → Fine r → k < 5 → IsShort (One (restore r k)) = λ r k f l. restore-short r k in
    let body = body-are frame IsShort (λ v. ⊤) rows (λ name. tt) address saves restores n.op n.operands (λ i. any-number (operand_in n.operands i)) in
    (saved-are frame IsShort (λ v. ⊤) rows (λ name. tt) address saves restores choices (body_items frame n.op n.operands) 8 saved body).each

pub value-items-fit : ValueItemsFit
value-items-fit frame n live staged choices low high numbers h =
    let well = chosen-well (around X86_64 n live staged) n.op choices h in
    let rows = rows-good frame high in
    let address : (t l : ℕ) → Fine t → IsGoodItem (Address t l) = λ t l f. f in
    let saves : (r k : ℕ) → Fine r → k < 5 → IsGoodItem (One (save r k)) = λ r k f l. ((omega arith, slot-number k l, f.0), tt, refl) in
    let restores : (r k : ℕ) → Fine r → k < 5 → IsGoodItem (One (restore r k)) = λ r k f l. ((f.0, omega arith, slot-number k l), (f.1, tt), refl) in
    let body = body-are frame IsGoodItem (λ v. v < 2 ^ 64) rows host-small address saves restores n.op n.operands (λ i. number-at n.operands i numbers) in
    let all = saved-are frame IsGoodItem (λ v. v < 2 ^ 64) rows host-small address saves restores choices (body_items frame n.op n.operands) 8 well.saved body in
    let items = good-items-are-appendable (value_items frame n choices) all.each in
    let few = all.few in
    let two = well.few in
    let bytes = bytes-few (value_items frame n choices) (each-short frame n choices well.saved) in
    record { few = well.few; slots = slots-of choices well.saved; fit = items.fit; short = omega (arith, few, two); small = omega (arith, few, two, bytes); block = items.block }

-- ---- the conventions
rows-within : (frame : ℕ) → HoldsOfRows frame (WritesWithin false) (λ v. ⊤)
rows-within frame = record {
  two = λ o rm reg f l. (f.1, tt);
  half = λ o rm v f small e. (f.1, tt);
  near = λ reg base v f l small e. (f.1, tt);
  sum = λ reg base index f l k ne. (f.1, tt);
  turned = λ v small. tt;
  ext = λ o reg rm f l. (f.1, tt);
  number = λ r v f small. number-within r v f.1;
  zero = (refl, tt);
  one = λ o rm f. (f.1, (refl, (refl, tt)));
  shift = λ o rm count f l. (f.1, tt);
  turn = λ r f. (f.1, tt);
  set = λ c r f. (f.1, tt);
  sign = (refl, tt);
  again = (refl, tt);
}

pub value-items-stay : ValueItemsStay
value-items-stay frame n live staged choices h =
    let well = chosen-well (around X86_64 n live staged) n.op choices h in
    let rows = rows-within frame in
    let address : (t l : ℕ) → Fine t → StaysWithin false (Address t l) = λ t l f. f.1 in
    let saves : (r k : ℕ) → Fine r → k < 5 → StaysWithin false (One (save r k)) = λ r k f l. tt in
    let restores : (r k : ℕ) → Fine r → k < 5 → StaysWithin false (One (restore r k)) = λ r k f l. (f.1, tt) in
    let body = body-are frame (StaysWithin false) (λ v. ⊤) rows (λ name. tt) address saves restores n.op n.operands (λ i. any-number (operand_in n.operands i)) in
    (saved-are frame (StaysWithin false) (λ v. ⊤) rows (λ name. tt) address saves restores choices (body_items frame n.op n.operands) 8 well.saved body).each

-- ---- labels
load-names : (labels t : ℕ) (x : Operand) → NamesBelow labels x → NameLabels labels (load_items t x)
load-names labels t (operand.Number v) h = names-ones labels (number_row t v ∷ [])
load-names labels t (operand.Host name) h = names-ones labels (number_row t (host_address name) ∷ [])
load-names labels t (operand.Label l) h = (h, tt)
load-names labels t (operand.Reg r) h = tt
load-names labels t (operand.Slot k) h = tt

binary-names : (labels : ℕ) (o : BinaryOp) (frame d a : ℕ) (x : Operand) → NameLabels labels (binary_items o frame d a x)
binary-names labels o frame d a (operand.Reg r) = names-ones labels (binary_code o frame d a (register_of X86_64 r))
binary-names labels o frame d a (operand.Number v) = names-ones labels (binary_number_code o frame d a v)
binary-names labels o frame d a (operand.Host name) = names-ones labels (binary_number_code o frame d a (host_address name))
binary-names labels o frame d a (operand.Label l) = tt
binary-names labels o frame d a (operand.Slot k) = tt

wide-names : (labels : ℕ) (o : WideOp) (frame d e a : ℕ) (x : Operand) → NameLabels labels (wide_items o frame d e a x)
wide-names labels o frame d e a (operand.Reg r) = names-ones labels (wide_code o frame d e a (register_of X86_64 r))
wide-names labels o frame d e a (operand.Number v) = names-ones labels (wide_number_code o frame d e a v)
wide-names labels o frame d e a (operand.Host name) = names-ones labels (wide_number_code o frame d e a (host_address name))
wide-names labels o frame d e a (operand.Label l) = tt
wide-names labels o frame d e a (operand.Slot k) = tt

body-names : (labels frame : ℕ) (o : Op) (xs : List Operand) → NameBelow labels xs → NameLabels labels (body_items frame o xs)
body-names labels frame (op.Binary o last) xs h = binary-names labels o frame (register_in xs 0) (register_in xs 1) (operand_in xs 2)
body-names labels frame (op.Wide o last) xs h = wide-names labels o frame (register_in xs 0) (register_in xs 1) (register_in xs 2) (operand_in xs 3)
body-names labels frame (op.Unary o) xs h = names-ones labels (unary_code o (register_in xs 0) (register_in xs 1))
body-names labels frame (op.Plain plain.Movi) xs h = load-names labels (register_in xs 0) (operand_in xs 1) (operand-below labels xs 1 h)
body-names labels frame (op.Plain plain.VaStart) xs h = load-names labels (register_in xs 0) (operand_in xs 1) (operand-below labels xs 1 h)
body-names labels frame (op.Plain o) xs h = tt
body-names labels frame (op.Retval t) xs h = names-ones labels (retval_code t (register_in xs 0))
body-names labels frame o xs h = tt

saved-names : (labels : ℕ) (choices : List Choice) (body : List Item) → NameLabels labels body → NameLabels labels (saved_items choices body)
saved-names labels [] body h = h
saved-names labels (Free r ∷ choices) body h = saved-names labels choices body h
saved-names labels (Own r ∷ choices) body h = saved-names labels choices body h
saved-names labels (Spill r k ∷ choices) body h = (tt, names-append labels (saved_items choices body) _ (saved-names labels choices body h) (tt, tt))

pub value-items-name : ValueItemsName
value-items-name labels frame n choices h = saved-names labels choices (body_items frame n.op n.operands) (body-names labels frame n.op n.operands h)
