-- The items of each node can be appended to a buffer, and write no register that is outside of the conventions.
use Rattle.std.proofs.Common.{ℕ, ◌≤◌, Bool, List, [], length, arith, ◌+◌}
use Rattle.lg_base.specs.declared.target.Target.TheVariants.{Aarch64}
use Rattle.lg_op.specs.declared.node.Node.{Node}
use Rattle.lg_op.specs.declared.operand.Reg.{Reg}
use Rattle.lg_meaning.specs.Steps.{operand_at}
use Rattle.lg_sel.proofs.NodeEmissionLemmas as emission
use Rattle.lg_sel.proofs.NodeFitLemmas as fit
use Rattle.lg_sel.proofs.NodeFitLemmas.{passed}
use Rattle.lg_carry.specs.Nodes.Operands.{NameBelow}
use Rattle.lg_sela.specs.Stores.{a64_stores}
use Rattle.lg_sel.specs.declared.reach.Reach.{Reach}
use Rattle.lg_sela.proofs.ControlEmissions.{controls-emit}
use Rattle.lg_sela.proofs.Emissions.{Names, more}
use Rattle.lg_sela.proofs.MemoryEmissions.{loads-emit, stores-emit, arguments-emit, next-arguments-emit, pushes-emit}
use Rattle.lg_carry.proofs.OfNodes.GivenLemmas.{are-given}
use Rattle.lg_sela.proofs.ValueEmissions.{values-emit}
use Rattle.lg_sela.specs.Items.{a64_families}
use Rattle.lg_sela.specs.Selected.{needs, AreChosen}
use Rattle.lg_sela.proofs.OfControl.FitLemmas.{control-items-fit}
use Rattle.lg_sela.proofs.OfControl.WithinLemmas.{control-items-stay}
use Rattle.lg_sela_values.specs.Items.{a64_holes, IsItem, NamesOneOf, StaysWithin, ones}
use Rattle.lg_sela_values.specs.declared.items.Item.{Item}
use Rattle.lg_sela.proofs.OfMemory.FitLemmas.{memory-items-fit}
use Rattle.lg_sela.proofs.OfMemory.WithinLemmas.{memory-items-name, memory-items-stay}
use Rattle.lg_sela_values.proofs.ValueFitLemmas.{value-items-fit, value-items-name, value-items-stay}
use Rattle.lg_carry.specs.Values.Parts.{HaveSlots}
use Rattle.lg_sela_values.specs.ValueItems.{value_items}
use Rattle.lg_temp.proofs.ChoiceLemmas.{choices-are-for}
use Rattle.lg_temp.specs.Choices.{AreFor}
use Rattle.lg_sela.specs.Memory.Accesses.{load_code, store_code}
use Rattle.lg_temp.specs.Chosen.{around, spills}
use Rattle.lg_temp.specs.declared.choice.Choice.{Choice}

-- at most one register is chosen, and it has a slot where it is saved
pub choices-fit : (n : Node) (live : Reg → Bool) (staged : List Bool) (choices : List Choice) → AreChosen n live staged choices → (length choices ≤ 1) × HaveSlots choices
choices-fit n live staged choices k =
    let values = value-items-fit n live k.set choices (choices-are-for (around Aarch64 n live k.set) (needs n.op) choices k.chosen) in
    (values.few, values.slots)

-- ---- labels, fixes and stores
pub families-emit : (homes saved : ℕ) (reach : Reach) → emission.FamiliesEmit Aarch64 homes saved a64_holes a64_stores (Names reach) (a64_families homes saved reach)
families-emit homes saved reach = record {
  values = λ is frame n choices h. values-emit reach is n choices h;
  loads = λ is frame t at n choices. more reach is 1 1 0 (spills choices) (ones (load_code t at n)) (omega arith) (omega arith) (loads-emit reach is t at n);
  stores = λ is frame t at n choices. more reach is 1 1 1 (spills choices + 1) (ones (store_code t at n)) (omega arith) (omega arith) (stores-emit reach is t at n);
  arguments = λ is frame t n. arguments-emit reach is t n;
  next_arguments = λ is n. next-arguments-emit reach is n;
  pushes = λ is frame j n h. pushes-emit reach is j n h;
  controls = λ is o xs frame at. controls-emit reach is o xs frame homes saved at;
}

-- ---- ranges
abbrev Fit : ℕ → ℕ → Reach → ℕ → List Item → Type 0
Fit homes saved reach labels xs = fit.Fit Aarch64 needs (a64_families homes saved reach) IsItem NamesOneOf labels xs

-- those of values
values : (homes saved : ℕ) (reach : Reach) (labels : ℕ) (n : Node) (live : Reg → Bool) (set : List Bool) (choices : List Choice) → AreFor (around Aarch64 n live set) (needs n.op) [] (needs n.op) choices → NameBelow labels n.operands → Fit homes saved reach labels (value_items n choices)
values homes saved reach labels n live set choices are named =
    record { instrs = (value-items-fit n live set choices are).fit; names = value-items-name labels n choices named }

pub families-fit : (homes saved : ℕ) (reach : Reach) (labels : ℕ) → fit.FamiliesFit Aarch64 needs (a64_families homes saved reach) IsItem NamesOneOf labels
families-fit homes saved reach labels = record {
  values = λ frame n live set choices sized is are named words. values homes saved reach labels n live set choices are named;
  loads = λ frame n t at live set choices sized e are words. record { instrs = (memory-items-fit.loads t at n).appendable.fit; names = memory-items-name.loads labels t at n };
  stores = λ frame n t at live set choices sized e are words. record { instrs = (memory-items-fit.stores t at n).appendable.fit; names = memory-items-name.stores labels t at n };
  next_arguments = λ n. record { instrs = (memory-items-fit.next_arguments n).appendable.fit; names = memory-items-name.next_arguments labels n };
  arguments = λ frame n t sized. record { instrs = (memory-items-fit.arguments t n).appendable.fit; names = memory-items-name.arguments labels t n };
  pushes = λ frame n j sized few named word.
      record { instrs = (memory-items-fit.pushes j n few).appendable.fit; names = memory-items-name.pushes labels j n (passed labels (operand_at n 0) named) };
  controls = λ n frame place sized is formed named words ends.
      let emitted = control-items-fit reach n labels frame homes saved place is formed (are-given labels n.operands named words) ends in
      record { instrs = emitted.items; names = emitted.labels };
}

-- ---- registers
pub families-stay : (homes saved : ℕ) (reach : Reach) → fit.FamiliesStay Aarch64 needs (a64_families homes saved reach) StaysWithin
families-stay homes saved reach = record {
  values = λ frame n live set choices is are. value-items-stay n live set choices are;
  loads = λ frame t at n live set choices e are. memory-items-stay.loads t at n;
  stores = λ frame t at n live set choices e are. memory-items-stay.stores t at n;
  arguments = λ frame t n. memory-items-stay.arguments t n;
  next_arguments = λ n. memory-items-stay.next_arguments n;
  pushes = λ frame j n. memory-items-stay.pushes j n;
  controls = λ n frame place. control-items-stay reach n frame homes saved place;
}
