use Rattle.std.proofs.Common.{◌≤◌, ℕ, Bool, ap, refl, sym, inl, ⊎_elim, ◌∙◌, map, reverse, ◌+◌, ◌-◌, arith}
use Rattle.lg_cells.specs.Memories.{closed}
use Rattle.lg_meaning.specs.States.{Frame}
use Rattle.lg_mean.specs.Machines.{state_of, frame_in, view_of}
use Rattle.lg_mean.proofs.FrameLemmas.{stacked_top, part_leave, part_enter}
use Rattle.lg_mean.proofs.EnteringLemmas.{stack_alone, alike_outside}
use Rattle.lg_mean.proofs.machine.Machine.close_top.Goals as goal

pub invariant_of-self : goal.invariant_of-self
invariant_of-self c =
    let m = c.self.inside in
    let i = c.self.invariant in
    let f : Frame = frame_in m.top in
    let f' : Frame = record f { size = 0; locals = 0 } in
    let fs = map frame_in (reverse m.below.items) in
    let room : 0x3FF00000 + 144 + m.top.locals ≤ m.top.sp = ⊎_elim (λ z. omega (arith, z, c.if-locals-eq0.false)) (λ w. omega (arith, w, i.top_fits.low)) i.top_fits.whole in
    record {
      stacked = stacked_top f f' fs refl i.stacked;
      top_fits = record { low = omega (arith, i.top_fits.low); whole = inl refl };
      high = i.high;
      data_small = i.data_small;
      args_small = i.args_small;
      heap_low = i.heap_low;
      heap_high = i.heap_high;
      few = i.few;
      space = i.space;
      rooms = c.close.ensures.rooms ∙ ap (λ (p : ℕ → Bool). closed p (m.top.sp - 144 - m.top.locals) m.top.locals) i.rooms ∙ (part_leave m.data_size m.args_size m.heap f fs i.data_small i.args_small i.heap_high i.stacked room) ∙ sym (part_enter m.data_size m.args_size m.heap f' fs refl);
    }

pub returns-clause-alike : goal.returns-clause-alike
returns-clause-alike c =
    let m = c.self.inside in
    let i = c.self.invariant in
    let low : 0x3FF00000 ≤ m.top.sp - 144 - m.top.locals = ⊎_elim (λ z. omega (arith, z, c.if-locals-eq0.false)) (λ w. omega (arith, w, i.top_fits.low)) i.top_fits.whole in
    rw (← c.self.view_is, c.close.ensures.bytes) (alike_outside (state_of (view_of m)) _ (stack_alone _ _ _ low))
