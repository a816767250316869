-- The items of each node name the labels of its operands, have at most one fix, and store as often as they may, where those of each family do.
use Rattle.std.proofs.Common.{◌≡◌, ℕ, ◌≤◌, Bool, List, refl, sym, subst, arith, ◌+◌}
use Rattle.lg_base.specs.declared.target.Target.{Target}
use Rattle.lg_op.specs.declared.node.Node.{Node}
use Rattle.lg_op.specs.declared.op.Addressing.{Addressing}
use Rattle.lg_op.specs.declared.op.ControlOp.TheVariants as control
use Rattle.lg_op.specs.declared.op.Op.{Op}
use Rattle.lg_op.specs.declared.op.Op.TheVariants as op
use Rattle.lg_op.specs.declared.op.PlainOp.TheVariants as plain
use Rattle.lg_op.specs.declared.op.StoreType.{StoreType}
use Rattle.lg_op.specs.declared.op.ValueType.{ValueType}
use Rattle.lg_op.specs.declared.operand.Operand.{Operand}
use Rattle.lg_sel.proofs.EmissionLemmas as emission
use Rattle.lg_sel.proofs.FamilyLemmas.{HoldsOfFamilies, of-node}
use Rattle.lg_sel.proofs.LabelLemmas.{AllPass}
use Rattle.lg_sel.proofs.StoreLemmas.{allowed}
use Rattle.lg_sel.specs.Families.{Families, staged_count, node_items}
use Rattle.lg_sel.specs.Stores.{own_stores}
use Rattle.lg_sel.specs.Holes.{Holes}
use Rattle.lg_temp.specs.Chosen.{spills}
use Rattle.lg_temp.specs.declared.choice.Choice.{Choice}

module _ {L I : Type 0} (target : Target) (homes saved : ℕ) (H : Holes L I) (is_store : I → Bool) (passes : (ℕ → Bool) → L → Type 0) where
  abbrev pub Emits : (ℕ → Bool) → ℕ → ℕ → List L → Type 0
  Emits is fixes stores xs = emission.Emits H is_store (passes is) fixes stores xs

  -- for each test that the labels of the operands pass
  pub record FamiliesEmit (F : Families L) : Type 0 where
    pub values : (is : ℕ → Bool) (frame : ℕ) (n : Node) (choices : List Choice) → AllPass is n.operands → Emits is 1 (spills choices) (F.values frame n choices)
    pub loads : (is : ℕ → Bool) (frame : ℕ) (t : ValueType) (at : Addressing) (n : Node) (choices : List Choice) → Emits is 1 (spills choices) (F.load frame t at n choices)
    pub stores : (is : ℕ → Bool) (frame : ℕ) (t : StoreType) (at : Addressing) (n : Node) (choices : List Choice) → Emits is 1 (spills choices + own_stores target homes saved (op.Store t at)) (F.store frame t at n choices)
    pub arguments : (is : ℕ → Bool) (frame : ℕ) (t : ValueType) (n : Node) → Emits is 1 0 (F.argument frame t n)
    pub next_arguments : (is : ℕ → Bool) (n : Node) → Emits is 1 0 (F.next_argument n)
    pub pushes : (is : ℕ → Bool) (frame j : ℕ) (n : Node) → AllPass is n.operands → Emits is 1 1 (F.push frame j n)
    pub controls : (is : ℕ → Bool) (o : Op) (xs : List Operand) (frame at : ℕ) → AllPass is xs → Emits is 1 (own_stores target homes saved o) (F.control o xs frame at)

  module _ (F : Families L) (f : FamiliesEmit F) (frame : ℕ) (choices : List Choice) (staged : List Bool) (place : ℕ) where
    more : (is : ℕ → Bool) (s t : ℕ) (xs : List L) → s ≤ t → Emits is 1 s xs → Emits is 1 t xs
    more is s t xs h a = emission.emits-more H is_store (passes is) 1 1 s t xs (omega arith) h a

    abbrev AllEmit : Node → List L → Type 0
    AllEmit n xs = (is : ℕ → Bool) → AllPass is n.operands → Emits is 1 (allowed target homes saved choices n.op) xs

    -- the code of an operation may have its own stores
    own : (is : ℕ → Bool) (n : Node) (o : Op) (xs : List L) → n.op ≡ o → Emits is 1 (own_stores target homes saved o) xs → Emits is 1 (allowed target homes saved choices n.op) xs
    own is n o xs e a = subst (λ q. Emits is 1 (allowed target homes saved choices q) xs) (sym e) (more is (own_stores target homes saved o) (allowed target homes saved choices o) xs (omega arith) a)

    -- and those of its saves
    saves : (is : ℕ → Bool) (n : Node) (o : Op) (xs : List L) → n.op ≡ o → spills choices ≤ allowed target homes saved choices o → Emits is 1 (spills choices) xs → Emits is 1 (allowed target homes saved choices n.op) xs
    saves is n o xs e h a = subst (λ q. Emits is 1 (allowed target homes saved choices q) xs) (sym e) (more is (spills choices) (allowed target homes saved choices o) xs h a)

    families : HoldsOfFamilies F AllEmit frame choices staged place
    families = record {
      values = λ n is test h. more test (spills choices) (allowed target homes saved choices n.op) (F.values frame n choices) (omega arith) (f.values test frame n choices h);
      loads = λ n t at e is h. saves is n (op.Load t at) (F.load frame t at n choices) e (omega arith) (f.loads is frame t at n choices);
      stores = λ n t at e is h. subst (λ q. Emits is 1 (allowed target homes saved choices q) (F.store frame t at n choices)) (sym e) (f.stores is frame t at n choices);
      arguments = λ n t e is h. own is n (op.Getarg t) (F.argument frame t n) e (f.arguments is frame t n);
      next_arguments = λ n e is h. own is n (op.Plain plain.VaArg) (F.next_argument n) e (f.next_arguments is n);
      pushes = λ n last e is h. own is n (op.Control control.Pusharg last) (F.push frame (staged_count staged) n) e (f.pushes is frame (staged_count staged) n h);
      controls = λ n k is h. own is n n.op (F.control n.op n.operands frame place) refl (f.controls is n.op n.operands frame place h);
    }

    pub node-emits : (n : Node) → AllEmit n (node_items F n frame choices staged place)
    node-emits = of-node F AllEmit frame choices staged place families
