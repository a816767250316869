-- The items of each node can be appended to a buffer and stay within the conventions, where those of each family do.
use Rattle.std.proofs.Common.{◌≡◌, ℕ, zero, suc, ◌<◌, Bool, true, false, List, [], ◌∷◌, ap, arith, sym, subst}
use Rattle.std.specs.Prelude.{slice_index_or}
use Rattle.lg_carry.specs.Outside.{moves_stack}
use Rattle.lg_base.specs.declared.target.Target.{Target}
use Rattle.lg_meaning.specs.Steps.{operand_at}
use Rattle.lg_op.specs.Nodes.{InForm}
use Rattle.lg_op.specs.declared.node.Node.{Node}
use Rattle.lg_op.specs.declared.op.Addressing.{Addressing}
use Rattle.lg_op.specs.declared.op.ControlOp.TheVariants as control
use Rattle.lg_op.specs.declared.op.LastOperand.{LastOperand}
use Rattle.lg_op.specs.declared.op.Op.{Op}
use Rattle.lg_op.specs.declared.op.Op.TheVariants as op
use Rattle.lg_op.specs.declared.op.StoreType.{StoreType}
use Rattle.lg_op.specs.declared.op.ValueType.{ValueType}
use Rattle.lg_op.specs.declared.operand.Label.{Label}
use Rattle.lg_op.specs.declared.operand.Operand.{Operand}
use Rattle.lg_op.specs.declared.operand.Operand.TheVariants as operand
use Rattle.lg_op.specs.declared.operand.Reg.{Reg}
use Rattle.lg_sel.proofs.CountLemmas.{count-is}
use Rattle.lg_sel.proofs.FamilyLemmas.{HoldsOfFamilies, of-node, value-still}
use Rattle.lg_sel.proofs.OperandLemmas.{word-at, has-words, control-ends}
use Rattle.lg_carry.specs.Nodes.Operands.{NamesBelow, NameBelow, HasWord, HaveWords}
use Rattle.lg_sel.specs.Asked.{IsAsked}
use Rattle.lg_sel.specs.Families.{Families, staged_count, node_items}
use Rattle.lg_sel.specs.Selected.{IsFrame, is_pusharg}
use Rattle.lg_sel.specs.Control.Control.{is_control, ends_in_label}
use Rattle.lg_carry.specs.Values.ValueNodes.{is_value}
use Rattle.lg_sel.specs.Holes.{Each}
use Rattle.lg_carry.specs.Memory.Operands.{HasWords}
use Rattle.lg_temp.proofs.ChoiceLemmas.{choices-are-for}
use Rattle.lg_temp.specs.Choices.{AreFor}
use Rattle.lg_temp.specs.Chosen.{around}
use Rattle.lg_temp.specs.declared.choice.Choice.{Choice}
use Rattle.lg_temp.specs.declared.choice.Need.{Need}

pub named-at : (labels : ℕ) (xs : List Operand) (k : ℕ) → NameBelow labels xs → NamesBelow labels (slice_index_or xs k (operand.Number 0))
named-at labels [] k named = tt
named-at labels (x ∷ xs) zero named = named.0
named-at labels (x ∷ xs) (suc k) named = named-at labels xs k named.1

-- the label that is passed is one of the buffer's
pub passed : (labels : ℕ) (x : Operand) → NamesBelow labels x → (l : Label) → x ≡ operand.Label l → l.0 < labels
passed labels (operand.Label m) named l e = let same : m.0 ≡ l.0 = cc in omega (arith, named, same)
passed labels x named l e = cc

-- this many arguments are staged at a `pushargr` or `pushargi`
pub few-staged : {target : Target} {needs : Op → List Need} (n : Node) (live : Reg → Bool) (staged : List Bool) (choices : List Choice) (labels : ℕ) (last : LastOperand) → IsAsked target needs n live staged choices labels
    → n.op ≡ op.Control control.Pusharg last → staged_count staged < 16
few-staged n live staged choices labels last k e =
    let first = k.first (ap is_pusharg e) in let s = count-is first.0 staged first.2 in let f = first.1 in omega (arith, s, f)

module _ {L : Type 0} (target : Target) (needs : Op → List Need) (F : Families L) where
  -- choices for the needs of a node
  abbrev pub AreMade : Node → (Reg → Bool) → List Bool → List Choice → Type 0
  AreMade n live set choices = AreFor (around target n live set) (needs n.op) [] (needs n.op) choices

  pub are-made : (n : Node) (live : Reg → Bool) (staged : List Bool) (choices : List Choice) (labels : ℕ) (k : IsAsked target needs n live staged choices labels) → AreMade n live k.chosen.set choices
  are-made n live staged choices labels k = choices-are-for (around target n live k.chosen.set) (needs n.op) choices k.chosen.chosen

  -- ---- items that can be appended: they are in range and name labels of the buffer (this many)
  module _ (is_item : L → Type 0) (names_one_of : ℕ → L → Type 0) (labels : ℕ) where
    pub record Fit (xs : List L) : Type 0 where
      pub instrs : Each is_item xs
      pub names : Each (names_one_of labels) xs

    pub record FamiliesFit : Type 0 where
      pub values : (frame : ℕ) (n : Node) (live : Reg → Bool) (set : List Bool) (choices : List Choice) → IsFrame frame → is_value n.op ≡ true → AreMade n live set choices → NameBelow labels n.operands → HaveWords n.operands → Fit (F.values frame n choices)
      pub loads : (frame : ℕ) (n : Node) (t : ValueType) (at : Addressing) (live : Reg → Bool) (set : List Bool) (choices : List Choice) → IsFrame frame → n.op ≡ op.Load t at → AreMade n live set choices → HasWords n → Fit (F.load frame t at n choices)
      pub stores : (frame : ℕ) (n : Node) (t : StoreType) (at : Addressing) (live : Reg → Bool) (set : List Bool) (choices : List Choice) → IsFrame frame → n.op ≡ op.Store t at → AreMade n live set choices → HasWords n → Fit (F.store frame t at n choices)
      pub arguments : (frame : ℕ) (n : Node) (t : ValueType) → IsFrame frame → Fit (F.argument frame t n)
      pub next_arguments : (n : Node) → Fit (F.next_argument n)
      pub pushes : (frame : ℕ) (n : Node) (j : ℕ) → IsFrame frame → j < 16 → NamesBelow labels (operand_at n 0) → HasWord (operand_at n 0) → Fit (F.push frame j n)
      pub controls : (n : Node) (frame place : ℕ) → IsFrame frame → is_control n.op ≡ true → InForm n → NameBelow labels n.operands → HaveWords n.operands → ends_in_label n.operands ≡ false → Fit (F.control n.op n.operands frame place)

    module _ (f : FamiliesFit) (frame : ℕ) (sized : IsFrame frame) (live : Reg → Bool) (staged : List Bool) (choices : List Choice) (place : ℕ) where
      abbrev Fits : Node → List L → Type 0
      Fits n xs = IsAsked target needs n live staged choices labels → Fit xs

      families : HoldsOfFamilies F Fits frame choices staged place
      families = record {
        values = λ n is k. f.values frame n live k.chosen.set choices sized is (are-made n live staged choices labels k) k.named k.words;
        loads = λ n t at e k. f.loads frame n t at live k.chosen.set choices sized e (are-made n live staged choices labels k) (has-words n k.words);
        stores = λ n t at e k. f.stores frame n t at live k.chosen.set choices sized e (are-made n live staged choices labels k) (has-words n k.words);
        arguments = λ n t e k. f.arguments frame n t sized;
        next_arguments = λ n e k. f.next_arguments n;
        pushes = λ n last e k. f.pushes frame n (staged_count staged) sized (few-staged n live staged choices labels last k e) (named-at labels n.operands 0 k.named) (word-at n.operands 0 k.words);
        controls = λ n is k. f.controls n frame place sized is k.formed k.named k.words (control-ends n is k.formed.forms k.takes);
      }

      pub items-fit : (n : Node) → Fits n (node_items F n frame choices staged place)
      items-fit = of-node F Fits frame choices staged place families

  -- ---- items that write no register that is outside of the conventions
  module _ (stays : Bool → L → Type 0) where
    pub record FamiliesStay : Type 0 where
      pub values : (frame : ℕ) (n : Node) (live : Reg → Bool) (set : List Bool) (choices : List Choice) → is_value n.op ≡ true → AreMade n live set choices → Each (stays false) (F.values frame n choices)
      pub loads : (frame : ℕ) (t : ValueType) (at : Addressing) (n : Node) (live : Reg → Bool) (set : List Bool) (choices : List Choice) → n.op ≡ op.Load t at → AreMade n live set choices → Each (stays false) (F.load frame t at n choices)
      pub stores : (frame : ℕ) (t : StoreType) (at : Addressing) (n : Node) (live : Reg → Bool) (set : List Bool) (choices : List Choice) → n.op ≡ op.Store t at → AreMade n live set choices → Each (stays false) (F.store frame t at n choices)
      pub arguments : (frame : ℕ) (t : ValueType) (n : Node) → Each (stays false) (F.argument frame t n)
      pub next_arguments : (n : Node) → Each (stays false) (F.next_argument n)
      pub pushes : (frame j : ℕ) (n : Node) → Each (stays false) (F.push frame j n)
      pub controls : (n : Node) (frame place : ℕ) → Each (stays (moves_stack target n.op)) (F.control n.op n.operands frame place)

    module _ (f : FamiliesStay) (frame : ℕ) (live : Reg → Bool) (set staged : List Bool) (choices : List Choice) (place : ℕ) where
      abbrev Stay : Node → List L → Type 0
      Stay n xs = AreMade n live set choices → Each (stays (moves_stack target n.op)) xs

      -- the code of a node that moves no stack pointer
      keeping : (n : Node) (xs : List L) → moves_stack target n.op ≡ false → Each (stays false) xs → Each (stays (moves_stack target n.op)) xs
      keeping n xs e h = subst (λ b. Each (stays b) xs) (sym e) h

      stay-families : HoldsOfFamilies F Stay frame choices staged place
      stay-families = record {
        values = λ n is are. keeping n (F.values frame n choices) (value-still target n.op is) (f.values frame n live set choices is are);
        loads = λ n t at e are. keeping n (F.load frame t at n choices) (ap (moves_stack target) e) (f.loads frame t at n live set choices e are);
        stores = λ n t at e are. keeping n (F.store frame t at n choices) (ap (moves_stack target) e) (f.stores frame t at n live set choices e are);
        arguments = λ n t e are. keeping n (F.argument frame t n) (ap (moves_stack target) e) (f.arguments frame t n);
        next_arguments = λ n e are. keeping n (F.next_argument n) (ap (moves_stack target) e) (f.next_arguments n);
        pushes = λ n last e are. keeping n (F.push frame (staged_count staged) n) (ap (moves_stack target) e) (f.pushes frame (staged_count staged) n);
        controls = λ n is are. f.controls n frame place;
      }

      pub items-stay : (n : Node) → Stay n (node_items F n frame choices staged place)
      items-stay = of-node F Stay frame choices staged place stay-families
