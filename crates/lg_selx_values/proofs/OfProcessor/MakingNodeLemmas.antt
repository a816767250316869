-- A node whose code makes registers and flags is one whose code goes straight on.
use Rattle.std.proofs.Common.{◌≡◌, ℕ, ◌⊎◌, inl, inr, List, Some, ap, ◌∙◌, None}
use Rattle.lg_base.specs.Layout.{frame_pointer}
use Rattle.lg_base.specs.declared.target.Target.TheVariants.{X86_64}
use Rattle.lg_op.specs.declared.node.Node.{Node}
use Rattle.lg_x86.specs.declared.instruction.Instr.{Instr}
use Rattle.lg_cpu.specs.X86Step.{Scene, scene_of}
use Rattle.lg_meaning.specs.States.{State}
use Rattle.lg_meaning.specs.Steps.{Undefined}
use Rattle.lg_meaning.specs.Texts.{step}
use Rattle.lg_temp.specs.declared.choice.Choice.{Choice}
use Rattle.lg_carry.specs.FinalNodes.{Code}
use Rattle.lg_carry.specs.Processors.{Seen}
use Rattle.lg_carry.specs.Spills.{Does, spilled}
use Rattle.lg_carry.specs.Nodes.Straight.{spoils, from_to, HoldsRead, StepsTo}
use Rattle.lg_selx_values.specs.Processor.MakingNodes.{scene, StepsBy, MakesNode, MakingNodesCompute}
use Rattle.lg_selx_values.specs.Processor.Makings.{makes}
use Rattle.lg_selx_values.specs.Processor.X86Computers.{x86_scratch}
use Rattle.lg_selx_values.specs.Processor.X86Rows.{x86_rows}
use Rattle.lg_selx_values.proofs.OfProcessor.MakingLemmas.{makings-run, still-above, makings-still}

module _ (code : List ℕ) (trash : ℕ) (c : Code) (i : ℕ) (n : Node) (frame : ℕ) (choices : List Choice) (body : List Instr) (m : MakesNode c i n frame choices body) where
  does : (s : State) (q : Seen) → HoldsRead X86_64 n frame s q → (p : StepsBy c n choices body s q)
      → Does (x86_rows code trash) (from_to q p.end q.bytes p.flags) body (frame_pointer s.frame.sp) (spilled choices) (spoils x86_scratch choices)
  does s q h p u looks room =
      let same : scene_of u.state ≡ scene q.registers q.flags u.state.bytes = λ j. scene (λ r. looks.has_registers r j) (looks.has_flags j) u.state.bytes in
      let from : makes body (scene_of u.state) ≡ Some (scene p.end p.flags u.state.bytes) =
      ap (makes body) same ∙ p.makes_it u.state.bytes in
      let r = makings-run body u (scene p.end p.flags u.state.bytes) from (still-above body (scene_of u.state) (makings-still body q.registers q.flags (scene p.end p.flags (λ a. None)) (p.makes_it (λ a. None)))) looks.runs room.low room.high in
      record {
        through = r.through;
        runs = r.runs;
        behind = r.behind;
        registers = λ x free. ap (λ (z : Scene). z.registers x) r.scene;
        bytes = λ a off. ap (λ (z : Scene). z.bytes a) r.scene ∙ looks.has_bytes a off;
        slots = λ a on. ap (λ (z : Scene). z.bytes a) r.scene;
        has_mark = r.mark ∙ looks.has_mark;
        has_flags = ap (λ (z : Scene). z.flags) r.scene;
      }

  steps : (s : State) (q : Seen) → HoldsRead X86_64 n frame s q → (step c.nodes c.shape c.addresses s ≡ Undefined) ⊎ StepsBy c n choices body s q → (step c.nodes c.shape c.addresses s ≡ Undefined) ⊎ StepsTo (x86_rows code trash) x86_scratch c n choices body s q
  steps s q h (inl e) = inl e
  steps s q h (inr p) = inr record { to = p.to; goes = p.goes; on = p.on; end = p.end; flags = p.flags; does = does s q h p; keeps = p.keeps; holds = p.holds }

pub making-nodes-compute : MakingNodesCompute
making-nodes-compute code trash c i n frame choices body m = record {
  steps = λ s q at h. steps code trash c i n frame choices body m s ((x86_rows code trash).processor.seen q) h (m.steps s ((x86_rows code trash).processor.seen q) at h);
}
