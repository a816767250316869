-- The items of each node can be appended to a buffer, and write no register that is outside of the conventions.
use Rattle.std.proofs.Common.{ℕ, ◌<◌, Bool, List, [], arith}
use Rattle.lg_base.specs.declared.target.Target.TheVariants.{X86_64}
use Rattle.lg_op.specs.declared.node.Node.{Node}
use Rattle.lg_op.specs.declared.op.Op.TheVariants as op
use Rattle.lg_op.specs.declared.operand.Reg.{Reg}
use Rattle.lg_meaning.specs.Steps.{operand_at}
use Rattle.lg_sel.proofs.LabelLemmas.{names}
use Rattle.lg_sel.proofs.NodeEmissionLemmas as emission
use Rattle.lg_sel.proofs.NodeFitLemmas as fit
use Rattle.lg_sel.proofs.NodeFitLemmas.{passed}
use Rattle.lg_sel.proofs.OperandLemmas.{word-is}
use Rattle.lg_carry.specs.Nodes.Operands.{HaveWords, NameBelow}
use Rattle.lg_sel.specs.Selected.{IsFrame}
use Rattle.lg_selx.specs.Stores.{x86_stores}
use Rattle.lg_sel.specs.declared.reach.Reach.{Reach}
use Rattle.lg_selx.proofs.ControlEmissions.{controls-emit}
use Rattle.lg_selx.proofs.Emissions.{Names, more}
use Rattle.lg_selx.proofs.MemoryEmissions.{loads-emit, stores-emit, arguments-emit, next-arguments-emit, pushes-emit}
use Rattle.lg_carry.proofs.OfNodes.GivenLemmas.{are-given}
use Rattle.lg_selx.proofs.NeedLemmas.{value-is-none, made-values, made-access}
use Rattle.lg_selx.proofs.ValueEmissions.{values-emit}
use Rattle.lg_selx.specs.Items.{x86_families}
use Rattle.lg_selx.specs.Selected.{needs}
use Rattle.lg_selx.proofs.OfControl.FitLemmas.{control-items-fit}
use Rattle.lg_selx.proofs.OfControl.WithinLemmas.{control-items-stay}
use Rattle.lg_selx_values.specs.Items.{ones, x86_holes, IsItem, NamesOneOf, StaysWithin}
use Rattle.lg_selx_values.specs.declared.items.Item.{Item}
use Rattle.lg_selx.proofs.OfMemory.FitLemmas.{memory-items-fit}
use Rattle.lg_selx.proofs.OfMemory.WithinLemmas.{memory-items-name, memory-items-stay}
use Rattle.lg_selx_values.proofs.ValueFitLemmas.{value-items-fit, value-items-name, value-items-stay}
use Rattle.lg_selx_values.specs.Needs.{value_needs}
use Rattle.lg_selx_values.specs.ValueItems.{value_items}
use Rattle.lg_temp.specs.Choices.{AreFor}
use Rattle.lg_selx.specs.Memory.Accesses.{load_code}
use Rattle.lg_temp.specs.Chosen.{around, spills}
use Rattle.lg_temp.specs.declared.choice.Choice.{Choice}

-- ---- labels, fixes and stores
pub families-emit : (homes saved : ℕ) (reach : Reach) → emission.FamiliesEmit X86_64 homes saved x86_holes x86_stores (Names reach) (x86_families homes saved reach)
families-emit homes saved reach = record {
  values = λ is frame n choices h. values-emit reach is frame n choices h;
  loads = λ is frame t at n choices. more reach is 1 1 0 (spills choices) (ones (load_code frame t at n)) (omega arith) (omega arith) (loads-emit reach is frame t at n);
  stores = λ is frame t at n choices. stores-emit reach is frame t at n choices;
  arguments = λ is frame t n. arguments-emit reach is frame t n;
  next_arguments = λ is n. next-arguments-emit reach is n;
  pushes = λ is frame j n h. pushes-emit reach is frame j n h;
  controls = λ is o xs frame at. controls-emit reach is o xs frame homes saved at;
}

-- ---- ranges
abbrev Fit : ℕ → ℕ → Reach → ℕ → List Item → Type 0
Fit homes saved reach labels xs = fit.Fit X86_64 needs (x86_families homes saved reach) IsItem NamesOneOf labels xs

-- those of values
values : (homes saved : ℕ) (reach : Reach) (labels frame : ℕ) (n : Node) (live : Reg → Bool) (set : List Bool) (choices : List Choice) → IsFrame frame → AreFor (around X86_64 n live set) (value_needs n.op) [] (value_needs n.op) choices → NameBelow labels n.operands
    → HaveWords n.operands → Fit homes saved reach labels (value_items frame n choices)
values homes saved reach labels frame n live set choices sized are named words = record {
  instrs = (value-items-fit frame n live set choices sized.low sized.high words are).fit;
  names = value-items-name labels frame n choices named;
}

-- a frame is a number of 31 bits
frame-small : (frame : ℕ) → IsFrame frame → frame < 0x40000000
frame-small frame sized = let h = sized.high in omega (arith, h)

pub families-fit : (homes saved : ℕ) (reach : Reach) (labels : ℕ) → fit.FamiliesFit X86_64 needs (x86_families homes saved reach) IsItem NamesOneOf labels
families-fit homes saved reach labels = record {
  values = λ frame n live set choices sized is are named words. values homes saved reach labels frame n live set choices sized (made-values n live set choices (value-is-none n.op is) are) named words;
  loads = λ frame n t at live set choices sized e are words. record { instrs = (memory-items-fit.loads frame t at n (frame-small frame sized) words).appendable.fit; names = memory-items-name.loads labels frame t at n };
  stores = λ frame n t at live set choices sized e are words. record {
    instrs = (memory-items-fit.stores t at n live set choices words (made-access n (op.Store t at) live set choices e are)).appendable.fit;
    names = memory-items-name.stores labels t at n choices;
  };
  arguments = λ frame n t sized. record { instrs = (memory-items-fit.arguments frame t n (frame-small frame sized)).appendable.fit; names = memory-items-name.arguments labels frame t n };
  next_arguments = λ n. record { instrs = (memory-items-fit.next_arguments n).appendable.fit; names = memory-items-name.next_arguments labels n };
  pushes = λ frame n j sized few named word. record {
    instrs = (memory-items-fit.pushes frame j n (frame-small frame sized) few (λ v e. word-is (operand_at n 0) v e word)).appendable.fit;
    names = memory-items-name.pushes labels frame j n (passed labels (operand_at n 0) named);
  };
  controls = λ n frame place sized is formed named words ends.
      let emitted = control-items-fit reach n labels frame homes saved place (frame-small frame sized) is formed (are-given labels n.operands named words) ends in
      record { instrs = emitted.items; names = emitted.labels };
}

-- ---- registers
pub families-stay : (homes saved : ℕ) (reach : Reach) → fit.FamiliesStay X86_64 needs (x86_families homes saved reach) StaysWithin
families-stay homes saved reach = record {
  values = λ frame n live set choices is are. value-items-stay frame n live set choices (made-values n live set choices (value-is-none n.op is) are);
  loads = λ frame t at n live set choices e are. memory-items-stay.loads frame t at n;
  stores = λ frame t at n live set choices e are. memory-items-stay.stores t at n live set choices (made-access n (op.Store t at) live set choices e are);
  arguments = λ frame t n. memory-items-stay.arguments frame t n;
  next_arguments = λ n. memory-items-stay.next_arguments n;
  pushes = λ frame j n. memory-items-stay.pushes frame j n;
  controls = λ n frame place. control-items-stay reach n frame homes saved place;
}
