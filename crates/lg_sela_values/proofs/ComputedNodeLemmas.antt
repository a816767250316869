-- Nodes that instructions of AArch64 compute are carried by them, with their temporaries saved or not.
use Rattle.std.proofs.Common.{◌≡◌, ℕ, ◌<◌, ◌≤◌, Bool, true, false, List, [], length}
use Rattle.std.specs.Prelude.{slice_index_or}
use Rattle.lg_base.specs.declared.target.Target.TheVariants.{Aarch64}
use Rattle.lg_op.specs.declared.node.Node.{Node}
use Rattle.lg_op.specs.declared.operand.Reg.{Reg}
use Rattle.lg_node.specs.Preparations.{pushed}
use Rattle.lg_a64.specs.Spelling.{IsInstr}
use Rattle.lg_a64.specs.declared.instruction.Instr.{Instr}
use Rattle.lg_temp.specs.Chosen.{around}
use Rattle.lg_temp.specs.Choices.{AreFor}
use Rattle.lg_temp.specs.declared.choice.Choice.{Choice}
use Rattle.lg_temp.specs.declared.choice.Need.{Need}
use Rattle.lg_carry.specs.Carries.{leaps}
use Rattle.lg_carry.specs.FinalNodes.{Code}
use Rattle.lg_carry.specs.NodeCode.{numbered, CarriesNode}
use Rattle.lg_carry.specs.Spills.{wrapped}
use Rattle.lg_carry.specs.TextNodes.{IsInText, stands_inside}
use Rattle.lg_carry.specs.Nodes.Straight.{NeedWell}
use Rattle.lg_carry.proofs.OfNodes.StraightLemmas.{frame-here, computing-nodes-carry, plain-nodes-carry}
use Rattle.lg_carry.proofs.OfValues.ComputationLemmas.{computing-computes}
use Rattle.lg_sela_values.specs.Processor.Places.{IsInCode}
use Rattle.lg_sela_values.specs.Processor.A64Computers.{a64_scratch, a64_computer, IsComputed}
use Rattle.lg_sela_values.specs.Processor.A64Rows.{a64_processor, a64_rows}
use Rattle.lg_sela_values.proofs.OfProcessor.ComputerLemmas.{is-computer}
use Rattle.lg_sela_values.proofs.OfProcessor.IsaLemmas.{is-isa}

module _ (code : List ℕ) (trash : ℕ) (c : Code) (i : ℕ) (n : Node) (inside : stands_inside n.op ≡ true) (falls : leaps n.op ≡ false) (t : IsInText c i n) where
  pub computed-carries : (live : Reg → Bool) (staged : List Bool) (needs : List Need) (choices : List Choice) (body : List Instr) → NeedWell (a64_rows code trash) needs → length needs ≤ 3
      → AreFor (around Aarch64 n live staged) needs [] needs choices → ((j : ℕ) → j < pushed c.nodes.nodes i → slice_index_or staged j false ≡ true)
      → IsInCode code trash c i (wrapped (a64_rows code trash) choices body) → IsComputed c i n choices body → CarriesNode (a64_processor code trash) c i n (numbered live)
  computed-carries live staged needs choices body well few chosen pushes k m =
      let f = frame-here c i in
      computing-nodes-carry (a64_rows code trash) a64_scratch IsInstr (is-isa code trash k.small k.bytes k.word) c i n f.0 live staged needs choices body inside falls well few chosen pushes t f.1 k.block
      (computing-computes (a64_computer code trash) (is-computer code trash) a64_scratch c i n f.0 choices body (m code trash))

  pub plain-carries : (S : ℕ → Bool) (body : List Instr) → IsInCode code trash c i body → IsComputed c i n [] body → CarriesNode (a64_processor code trash) c i n S
  plain-carries S body k m =
      let f = frame-here c i in
      plain-nodes-carry (a64_rows code trash) a64_scratch IsInstr (is-isa code trash k.small k.bytes k.word) c i n f.0 S body inside falls t f.1 k.block
      (computing-computes (a64_computer code trash) (is-computer code trash) a64_scratch c i n f.0 [] body (m code trash))
