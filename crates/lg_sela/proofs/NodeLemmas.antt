-- Each node is carried by its items.
use Rattle.std.proofs.Common.{◌≡◌, ℕ, ◌<◌, Bool, true, false, List, [], refl, sym, ap, subst, ◌∙◌}
use Rattle.std.specs.Prelude.{slice_get, slice_index}
use Rattle.std.specs.List.{list_any}
use Rattle.lg_base.specs.declared.target.Target.TheVariants.{Aarch64}
use Rattle.lg_op.specs.Forms.{forms_of}
use Rattle.lg_op.specs.declared.node.Node.{Node}
use Rattle.lg_op.specs.declared.op.Op.{Op}
use Rattle.lg_op.specs.declared.op.Op.TheVariants as op
use Rattle.lg_op.specs.declared.op.ControlOp.TheVariants as control
use Rattle.lg_op.specs.declared.op.PlainOp.TheVariants as plain
use Rattle.lg_op.specs.declared.op.LastOperand.{LastOperand}
use Rattle.lg_op.specs.declared.op.Addressing.{Addressing}
use Rattle.lg_op.specs.declared.op.StoreType.{StoreType}
use Rattle.lg_op.specs.declared.op.ValueType.{ValueType}
use Rattle.lg_op.specs.declared.operand.Reg.{Reg}
use Rattle.lg_carry.specs.Carries.{leaps, leaps_at}
use Rattle.lg_carry.specs.FinalNodes.{Code}
use Rattle.lg_carry.specs.NodeCode.{numbered, CarriesNode}
use Rattle.lg_node.specs.Preparations.{pushed}
use Rattle.lg_sela_values.specs.Processor.Places.{IsInCode}
use Rattle.lg_sela_values.specs.Processor.A64Rows.{a64_processor}
use Rattle.lg_a64.specs.declared.instruction.Instr.{Instr}
use Rattle.lg_sel.proofs.PartLemmas as parts
use Rattle.lg_sel.proofs.CountLemmas.{count-is}
use Rattle.lg_sel.proofs.FamilyLemmas.{HoldsOfFamilies, value-stays}
use Rattle.lg_sel.proofs.OperandLemmas.{has-words, leads_nowhere, unlabelled, no-labels, control-ends, loads-lead, stores-lead, operands-are}
use Rattle.lg_sel.specs.Families.{staged_count}
use Rattle.lg_carry.specs.Values.ValueNodes.{is_value}
use Rattle.lg_carry.specs.Memory.Operands.{is_label}
use Rattle.lg_sel.specs.declared.reach.Reach.{Reach}
use Rattle.lg_sela.specs.Selected.{needs}
use Rattle.lg_sela.specs.Items.{a64_families}
use Rattle.lg_sel.specs.Selected.{is_pusharg, may_take_label}
use Rattle.lg_sel.proofs.NodeFitLemmas.{few-staged}
use Rattle.lg_carry.proofs.OfNodes.GivenLemmas.{are-given, are-words}
use Rattle.lg_sela.proofs.PlaceLemmas.{control-items-at}
use Rattle.lg_sela.specs.Control.ControlFits.{AreEmitted}
use Rattle.lg_sela.specs.Control.ControlItems.{control_items, is_control}
use Rattle.lg_sela.specs.Control.ControlLaws.{ends_in_label}
use Rattle.lg_sela.specs.Control.Standing.{StandsInCode}
use Rattle.lg_sela.proofs.OfControl.ControlLemmas.{control-nodes-carry}
use Rattle.lg_sela.proofs.OfControl.FitLemmas.{control-items-fit}
use Rattle.lg_sela_values.specs.declared.items.Item.{Item}
use Rattle.lg_sela_values.specs.Items.{words_in, settled, ones}
use Rattle.lg_sela_values.specs.GoodItems.{AreAppendable}
use Rattle.lg_sela_values.specs.OfNodes.{AreOfNode}
use Rattle.lg_sela_values.proofs.ItemLemmas.{settled-ones}
use Rattle.lg_sela_values.proofs.OfNodesLemmas.{items-are-node-code, items-are-in-code}
use Rattle.lg_sela.specs.Memory.Accesses.{load_code, store_code}
use Rattle.lg_sela.specs.Memory.ArgumentCode.{argument_code}
use Rattle.lg_sela.specs.Memory.PushCode.{push_code}
use Rattle.lg_sela.specs.Memory.VariableArgumentCode.{next_argument_code}
use Rattle.lg_sela.proofs.OfMemory.FitLemmas.{memory-items-fit}
use Rattle.lg_sela.proofs.OfMemory.MemoryNodeLemmas.{memory-is-carried}
use Rattle.lg_sela_values.specs.ValueItems.{value_needs, value_items}
use Rattle.lg_sela_values.proofs.ValueFitLemmas.{value-items-fit}
use Rattle.lg_sela_values.proofs.ValueNodeLemmas.{value-nodes-carry}
use Rattle.lg_temp.specs.declared.choice.Choice.{Choice}
use Rattle.lg_temp.specs.Choices.{AreFor}
use Rattle.lg_temp.specs.Chosen.{around}
use Rattle.lg_temp.proofs.ChoiceLemmas.{choices-are-for}
use Rattle.lg_carry.specs.TextNodes.{IsInText}

true-false : {A : Type 0} → true ≡ false → A
true-false e = cc

-- ---- a node of a text
-- one that is no branch, jump, call or return need have no code
falls : (c : Code) (i : ℕ) (n : Node) (items : List Item) → IsInText c i n → leaps n.op ≡ false → leaps_at (slice_get c.nodes.nodes i) ≡ true → 0 < words_in items
falls c i n items t stays leaping = true-false (sym leaping ∙ (ap leaps_at t.here ∙ stays))

-- its instructions, none of which names a label, are a block of it
plain-code : (code : List ℕ) (trash : ℕ) (c : Code) (i : ℕ) (n : Node) (is : List Instr) → IsInText c i n → leaps n.op ≡ false → AreAppendable (ones is) → AreOfNode code trash c i (ones is) → IsInCode code trash c i is
plain-code code trash c i n is t stays fit a =
    let to : ℕ → ℕ = slice_index c.addresses in
    subst (IsInCode code trash c i) (settled-ones to (c.place i) is) (items-are-in-code code trash c i (ones is) a (falls c i n (ones is) t stays) (fit.block to (c.place i)))

abbrev IsKnown : Code → ℕ → Node → ℕ → ℕ → ℕ → (Reg → Bool) → List Bool → List Choice → ℕ → ℕ → Type 0
IsKnown c i n frame homes saved live staged choices labels place = parts.IsKnown Aarch64 needs c i n frame homes saved live staged choices labels place

module _ (reach : Reach) (code : List ℕ) (trash : ℕ) (c : Code) (i frame homes saved : ℕ) (live : Reg → Bool) (staged : List Bool) (choices : List Choice) (labels place : ℕ) where
  abbrev Carries : Node → List Item → Type 0
  Carries n items = IsKnown c i n frame homes saved live staged choices labels place → AreOfNode code trash c i items → CarriesNode (a64_processor code trash) c i n (numbered live)

  values : (n : Node) → is_value n.op ≡ true → leaps n.op ≡ false → Carries n (value_items n choices)
  values n computes stays k a =
      let set = k.asked.chosen.set in
      let are : AreFor (around Aarch64 n live set) (value_needs n.op) [] (value_needs n.op) choices = choices-are-for (around Aarch64 n live set) (value_needs n.op) choices k.asked.chosen.chosen in
      let fit = value-items-fit n live set choices are in
      value-nodes-carry code trash c i n live set choices computes (are-words c.addresses k.node.low n.operands k.asked.words) are (λ j below. k.asked.chosen.holds j (k.node.pushed_are j below)) k.node.text
      (items-are-in-code code trash c i (value_items n choices) a (falls c i n (value_items n choices) k.node.text stays) (fit.block (slice_index c.addresses) (c.place i)))

  none-labels : (n : Node) (o : Op) → n.op ≡ o → may_take_label o ≡ false → leads_nowhere (forms_of o) ≡ true → IsKnown c i n frame homes saved live staged choices labels place → list_any is_label n.operands ≡ false
  none-labels n o e may leads k =
      no-labels (forms_of n.op) n.operands (ap (λ q. leads_nowhere (forms_of q)) e ∙ leads) (operands-are c i n k.node.text) (unlabelled n (ap may_take_label e ∙ may) k.asked.takes)

  loads : (n : Node) (t : ValueType) (at : Addressing) → n.op ≡ op.Load t at → Carries n (ones (load_code t at n))
  loads n t at e k a =
      let words = has-words n k.asked.words in
      (memory-is-carried code trash a.small a.bytes a.word).loads c i n t at frame (numbered live) e (none-labels n (op.Load t at) e refl (loads-lead at) k) words k.node.text k.node.frame_is
      (plain-code code trash c i n (load_code t at n) k.node.text (ap leaps e) (memory-items-fit.loads t at n).appendable a).block

  stores : (n : Node) (t : StoreType) (at : Addressing) → n.op ≡ op.Store t at → Carries n (ones (store_code t at n))
  stores n t at e k a =
      let words = has-words n k.asked.words in
      (memory-is-carried code trash a.small a.bytes a.word).stores c i n t at frame (numbered live) e (none-labels n (op.Store t at) e refl (stores-lead at) k) words k.node.text k.node.frame_is
      (plain-code code trash c i n (store_code t at n) k.node.text (ap leaps e) (memory-items-fit.stores t at n).appendable a).block

  arguments : (n : Node) (t : ValueType) → n.op ≡ op.Getarg t → Carries n (ones (argument_code t n))
  arguments n t e k a =
      (memory-is-carried code trash a.small a.bytes a.word).arguments c i n t frame (numbered live) e k.node.text k.node.frame_is
      (plain-code code trash c i n (argument_code t n) k.node.text (ap leaps e) (memory-items-fit.arguments t n).appendable a).block

  next-arguments : (n : Node) → n.op ≡ op.Plain plain.VaArg → Carries n (ones (next_argument_code n))
  next-arguments n e k a =
      (memory-is-carried code trash a.small a.bytes a.word).next_arguments c i n frame (numbered live) e k.node.text k.node.frame_is
      (plain-code code trash c i n (next_argument_code n) k.node.text (ap leaps e) (memory-items-fit.next_arguments n).appendable a).block

  pushes : (n : Node) (last : LastOperand) → n.op ≡ op.Control control.Pusharg last → Carries n (push_code (staged_count staged) n)
  pushes n last e k a =
      let j = staged_count staged in
      let to : ℕ → ℕ = slice_index c.addresses in
      let fit = memory-items-fit.pushes j n (few-staged n live staged choices labels last k.asked e) in
      let stands = items-are-in-code code trash c i (push_code j n) a (falls c i n (push_code j n) k.node.text (ap leaps e)) (fit.appendable.block to (c.place i)) in
      (memory-is-carried code trash a.small a.bytes a.word).pushes c i n last frame (numbered live) e (has-words n k.asked.words) k.node.names k.node.text k.node.frame_is
      (subst (λ m. IsInCode code trash c i (settled to (c.place i) (push_code m n))) (count-is (pushed c.nodes.nodes i) staged (k.node.exact (ap is_pusharg e))) stands).block

  controls : (n : Node) → is_control n.op ≡ true → Carries n (control_items reach n.op n.operands frame homes saved place)
  controls n is k a =
      let ends : ends_in_label n.operands ≡ false = control-ends n is (operands-are c i n k.node.text) k.asked.takes in
      let to : ℕ → ℕ = slice_index c.addresses in
      let items = control_items reach n.op n.operands frame homes saved place in
      let fit : AreEmitted labels (leaps n.op) items = control-items-fit reach n labels frame homes saved place is (k.node.text.formed n k.node.text.here) (are-given labels n.operands k.asked.named k.asked.words) ends in
      let stands : StandsInCode code trash c i (settled to (c.place i) items) = record {
        small = a.small;
        bytes = a.bytes;
        word = a.word;
        node = items-are-node-code code trash c i items a (λ leaping. fit.some (sym (ap leaps_at k.node.text.here) ∙ leaping));
      } in
      let same : items ≡ control_items reach n.op n.operands frame homes saved (c.place i) = sym (control-items-at reach n.op n.operands frame homes saved place (operands-are c i n k.node.text)) ∙ ap (control_items reach n.op n.operands frame homes saved) (sym k.address) in
      control-nodes-carry reach code trash c i n frame homes saved (numbered live) is k.node.places (are-words c.addresses k.node.low n.operands k.asked.words) ends k.node.frame_is
      k.node.homes_are k.node.saved_is k.node.text (subst (λ l. StandsInCode code trash c i (settled to (c.place i) l)) same stands)

  pub families : HoldsOfFamilies (a64_families homes saved reach) Carries frame choices staged place
  families = record {
    values = λ n is. values n is (value-stays n.op is);
    loads = loads;
    stores = stores;
    arguments = arguments;
    next_arguments = next-arguments;
    pushes = pushes;
    controls = controls;
  }
