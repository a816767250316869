use Rattle.std.proofs.Common.{◌≡◌, ℕ, Bool, ap, refl, inr, ◌∙◌, map, reverse, ◌-◌, arith}
use Rattle.lg_cells.specs.Memories.{opened}
use Rattle.lg_meaning.specs.States.{Frame}
use Rattle.lg_mean.specs.Machines.{MachineState, frame_in}
use Rattle.lg_mean.proofs.FrameLemmas.{stacked_top, part_begin}
use Rattle.lg_mean.proofs.machine.Machine.begin.Goals as goal

pub invariant_of-self : goal.invariant_of-self
invariant_of-self c =
    let m = c.self.inside in
    let i = c.self.invariant in
    let sp_is : m.top.sp ≡ c.args.self.now.top.sp = ap (λ (s : MachineState). s.top.sp) c.self.view_is in
    let locals_is : m.top.locals ≡ c.args.self.now.top.locals = ap (λ (s : MachineState). s.top.locals) c.self.view_is in
    let o = c.open.ensures in
    let f : Frame = frame_in m.top in
    let f' : Frame = record f { size = c.args.size; locals = c.args.function.locals } in
    let fs = map frame_in (reverse m.below.items) in
    record {
      stacked = stacked_top f f' fs refl i.stacked;
      top_fits = record { low = omega (arith, c.requires.fits, sp_is); whole = inr c.requires.whole };
      high = i.high;
      data_small = i.data_small;
      args_small = i.args_small;
      heap_low = i.heap_low;
      heap_high = i.heap_high;
      few = i.few;
      space = i.space;
      rooms = o.rooms ∙ ap (λ (p : ℕ → Bool). opened p (m.top.sp - 144 - c.args.function.locals) c.args.function.locals) i.rooms ∙ (part_begin m.data_size m.args_size m.heap f f' fs (m.top.sp - 144 - c.args.function.locals) c.args.function.locals (locals_is ∙ c.requires.fresh) (λ a. refl));
    }
