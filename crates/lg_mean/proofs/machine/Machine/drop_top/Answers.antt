use Rattle.std.proofs.Common.{◌≡◌, ap, inr, ◌∙◌, map, reverse, ◌∷◌, arith}
use Rattle.lg_mean.specs.Machines.{MachineState, frame_in, AreStacked}
use Rattle.lg_mean.proofs.FrameLemmas.{stacked_len, part_enter, map_push}
use Rattle.lg_mean.proofs.machine.Machine.drop_top.Goals as goal

pub invariant_of-self : goal.invariant_of-self
invariant_of-self c =
    let m = c.self.inside in
    let i = c.self.invariant in
    let locals_is : m.top.locals ≡ c.args.self.now.top.locals = ap (λ (s : MachineState). s.top.locals) c.self.view_is in
    let fs = map frame_in (reverse c.pop.new.self.items) in
    let less : map frame_in (reverse m.below.items) ≡ frame_in c.in-Some.caller ∷ fs = rw c.in-Some.ensures.items (map_push frame_in c.pop.new.self.items c.in-Some.caller) in
    let st : AreStacked (frame_in m.top) (frame_in c.in-Some.caller ∷ fs) = rw less at i.stacked in
    record {
      stacked = st.2;
      top_fits = record { low = omega (arith, st.0, i.top_fits.low); whole = inr st.1 };
      high = omega (arith, stacked_len (frame_in c.in-Some.caller) fs st.2);
      data_small = i.data_small;
      args_small = i.args_small;
      heap_low = i.heap_low;
      heap_high = i.heap_high;
      few = i.few;
      space = omega (arith, i.space, c.in-Some.ensures.capacity);
      rooms = (rw less at i.rooms) ∙ part_enter m.data_size m.args_size m.heap (frame_in m.top) (frame_in c.in-Some.caller ∷ fs) (locals_is ∙ c.requires);
    }
