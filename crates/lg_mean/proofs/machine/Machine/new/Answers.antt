use Rattle.std.proofs.Common.{◌≡◌, ap, inl, ◌∙◌, length, arith}
use Rattle.lg_meaning.specs.States.{Frame}
use Rattle.lg_mean.specs.Machines.{frame_in}
use Rattle.lg_mean.proofs.FrameLemmas.{first_parts}
use Rattle.lg_mean.proofs.machine.Machine.new.Goals as goal

pub invariant_of-result : goal.invariant_of-result
invariant_of-result c =
    let f = c.entry_frame.result in
    let frame = c.entry_frame.ensures in
    let sp : f.sp ≡ 0x40000000 = ap (λ (x : Frame). x.sp) frame in
    let size : f.size ≡ 0 = ap (λ (x : Frame). x.size) frame in
    let locals : f.locals ≡ 0 = ap (λ (x : Frame). x.locals) frame in
    let none = c.in_ok-with_capacity.ensures.items in
    record {
      stacked = rw none (omega (arith, sp));
      top_fits = record { low = omega (arith, sp, size); whole = inl locals };
      high = omega (arith, sp);
      data_small = c.requires.image;
      args_small = c.requires.args;
      heap_low = omega (arith, c.new-2.ensures);
      heap_high = omega (arith, c.new-2.ensures);
      few = omega arith;
      space = omega (arith, c.in_ok-with_capacity.ensures.exact);
      rooms = rw none (c.in_ok-new.ensures.rooms ∙ first_parts (length c.args.image.now) (length c.args.args.now) c.new-2.result (frame_in f) c.new-2.ensures locals);
    }
