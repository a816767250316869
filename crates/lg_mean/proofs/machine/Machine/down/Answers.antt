use Rattle.std.proofs.Common.{◌≡◌, ap, sym, inl, ◌∙◌, map, reverse, ◌∷◌, arith}
use Rattle.std.proofs.lemmas.List.{length-map, length-reverse}
use Rattle.lg_mean.specs.Machines.{MachineState, frame_in}
use Rattle.lg_mean.proofs.FrameLemmas.{stacked_len, part_enter, map_push}
use Rattle.lg_mean.proofs.machine.Machine.down.Goals as goal

pub push_reserved-requires : goal.push_reserved-requires
push_reserved-requires c =
    let m = c.self.inside in
    let sp_is : m.top.sp ≡ c.args.self.now.top.sp = ap (λ (s : MachineState). s.top.sp) c.self.view_is in
    let size_is : m.top.size ≡ c.args.self.now.top.size = ap (λ (s : MachineState). s.top.size) c.self.view_is in
    omega (arith, c.requires.below, c.requires.begun, c.requires.fits, stacked_len (frame_in m.top) (map frame_in (reverse m.below.items)) c.self.invariant.stacked, length-map (reverse m.below.items) frame_in, length-reverse m.below.items, m.below.ok.0)

pub invariant_of-self : goal.invariant_of-self
invariant_of-self c =
    let m = c.self.inside in
    let i = c.self.invariant in
    let sp_is : m.top.sp ≡ c.args.self.now.top.sp = ap (λ (s : MachineState). s.top.sp) c.self.view_is in
    let size_is : m.top.size ≡ c.args.self.now.top.size = ap (λ (s : MachineState). s.top.size) c.self.view_is in
    let locals_is : m.top.locals ≡ c.args.self.now.top.locals = ap (λ (s : MachineState). s.top.locals) c.self.view_is in
    let fs = map frame_in (reverse m.below.items) in
    let more : map frame_in (reverse c.push_reserved.new.self.items) ≡ frame_in m.top ∷ fs = rw c.push_reserved.ensures.items (map_push frame_in m.below.items m.top) in
    let r = c.requires in
    record {
      stacked = rw more (omega (arith, r.below), omega (arith, r.begun), i.stacked);
      top_fits = record { low = omega (arith, r.fits, r.empty.0); whole = inl r.empty.1 };
      high = omega (arith, r.below, i.high);
      data_small = i.data_small;
      args_small = i.args_small;
      heap_low = i.heap_low;
      heap_high = i.heap_high;
      few = i.few;
      space = omega (arith, i.space, c.push_reserved.ensures.capacity);
      rooms = rw more (i.rooms ∙ sym (part_enter m.data_size m.args_size m.heap (frame_in c.args.callee) (frame_in m.top ∷ fs) r.empty.1));
    }
