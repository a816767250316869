use Rattle.std.proofs.Common.{◌≡◌, ℕ, Bool, Option, ap, sym, inl, ◌∙◌, map, reverse, List, [], arith}
use Rattle.lg_cells.proofs.PlaceLemmas.{byte_room}
use Rattle.lg_meaning.specs.States.{Frame, is_part}
use Rattle.lg_mean.specs.Machines.{MachineState, state_of, frame_in, view_of}
use Rattle.lg_mean.proofs.EnteringLemmas.{all_outside}
use Rattle.lg_mean.proofs.FrameLemmas.{part_enter}
use Rattle.lg_mean.proofs.machine.Machine.put_first.Goals as goal

pub invariant_of-self : goal.invariant_of-self
invariant_of-self c =
    let m = c.self.inside in
    let i = c.self.invariant in
    let r = c.requires in
    let locals_is : m.top.locals ≡ c.args.self.now.top.locals = ap (λ (s : MachineState). s.top.locals) c.self.view_is in
    let alone : map frame_in (reverse m.below.items) ≡ [] = ap (λ (s : MachineState). (state_of s).callers) c.self.view_is ∙ r.alone in
    let fs = map frame_in (reverse m.below.items) in
    record {
      stacked = rw alone r.stack.high;
      top_fits = record { low = omega (arith, r.stack.room, r.fresh.0); whole = inl r.fresh.1 };
      high = r.stack.high;
      data_small = i.data_small;
      args_small = i.args_small;
      heap_low = i.heap_low;
      heap_high = i.heap_high;
      few = i.few;
      space = i.space;
      rooms = i.rooms ∙ part_enter m.data_size m.args_size m.heap (frame_in m.top) fs (locals_is ∙ r.empty) ∙ sym (part_enter m.data_size m.args_size m.heap (frame_in c.args.frame) fs r.fresh.1);
    }

pub returns : goal.returns
returns c =
    let m = c.self.inside in
    let i = c.self.invariant in
    let r = c.requires in
    let d = m.data_size in
    let g = m.args_size in
    let locals_is : m.top.locals ≡ c.args.self.now.top.locals = ap (λ (s : MachineState). s.top.locals) c.self.view_is in
    let alone : map frame_in (reverse m.below.items) ≡ [] = ap (λ (s : MachineState). (state_of s).callers) c.self.view_is ∙ r.alone in
    let fs = map frame_in (reverse m.below.items) in
    let rooms = i.rooms ∙ part_enter d g m.heap (frame_in m.top) fs (locals_is ∙ r.empty) ∙ ap (λ (x : List Frame). is_part d g m.heap x) alone in
    rw (← c.self.view_is) (ap (λ (mem : ℕ → Option ℕ). record (state_of (view_of m)) { frame = frame_in c.args.frame; mem = mem })
    (all_outside _ d g m.heap i.data_small i.args_small i.heap_high (λ a b h. sym (ap (λ (p : ℕ → Bool). p a) rooms) ∙ byte_room m.memory a b h)))
