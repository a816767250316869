use Rattle.std.proofs.Common.{ℕ, Bool, map, reverse, take, ◌∷◌, subst}
use Rattle.lg_host.specs.Host.{Mem, HostSays, host_of, memory, outcome}
use Rattle.lg_cells.specs.Memories.{byte_at, room_at}
use Rattle.lg_meaning.specs.States.{is_part}
use Rattle.lg_meaning.specs.Steps.{is_marked}
use Rattle.lg_mean.specs.Machines.{frame_in}
use Rattle.lg_mean.proofs.HostLemmas.{IsLater, host_mark, host_later}
use Rattle.lg_host.proofs.HostLemmas.{HostSays-count}
use Rattle.lg_mean.proofs.machine.Machine.call_out.Goals as goal

pub invariant_of-self : goal.invariant_of-self
invariant_of-self g c =
    let m = c.self.inside in
    let i = c.self.invariant in
    let old : Mem = memory (byte_at m.memory) (room_at m.memory) m.heap in
    let new : Mem = memory (byte_at c.call.new.mem) (room_at c.call.new.mem) c.call.new.heap in
    let later : IsLater m.data_size m.args_size (frame_in m.top ∷ map frame_in (reverse m.below.items)) new = host_later _ m.data_size m.args_size _ old new _ c.call.result (host_mark c.args.name (take c.args.count m.staged) (is_marked m.variadic) old i.heap_high) i.heap_low i.heap_high i.rooms (rw c.is_marked-variadic.ensures at c.call.ensures.says) in
    record {
      stacked = i.stacked;
      top_fits = i.top_fits;
      high = i.high;
      data_small = i.data_small;
      args_small = i.args_small;
      heap_low = later.low;
      heap_high = later.high;
      few = i.few;
      space = i.space;
      rooms = later.room;
    }

pub returns-clause-says : goal.returns-clause-says
returns-clause-says g c =
    let m = c.self.inside in
    let i = c.self.invariant in
    let name = c.args.name in
    let args = take c.args.count m.staged in
    let old : Mem = memory (byte_at m.memory) (room_at m.memory) m.heap in
    let new : Mem = memory (byte_at c.call.new.mem) (room_at c.call.new.mem) c.call.new.heap in
    let frames = frame_in m.top ∷ map frame_in (reverse m.below.items) in
    let out = outcome (g.O.Sink.taken c.args.out.now) (g.O.Sink.taken c.call.new.out) (g.O.Sink.faults c.args.out.now) (g.O.Sink.faults c.call.new.out) in
    let later : IsLater m.data_size m.args_size frames new = host_later _ m.data_size m.args_size _ old new _ c.call.result (host_mark name args (is_marked m.variadic) old i.heap_high) i.heap_low i.heap_high i.rooms (rw c.is_marked-variadic.ensures at c.call.ensures.says) in
    let first = subst (λ (q : ℕ → Bool). HostSays (host_of name args (is_marked m.variadic) old) old (memory (byte_at c.call.new.mem) q c.call.new.heap) out c.call.result) later.room (rw c.is_marked-variadic.ensures at c.call.ensures.says) in
    let second = subst (λ (p : ℕ → Bool). HostSays (host_of name args (is_marked m.variadic) (memory (byte_at m.memory) p m.heap)) (memory (byte_at m.memory) p m.heap) (memory (byte_at c.call.new.mem) (is_part m.data_size m.args_size c.call.new.heap frames) c.call.new.heap) out c.call.result) i.rooms first in
    rw (← c.self.view_is) second

pub returns-clause-kept : goal.returns-clause-kept
returns-clause-kept g c = HostSays-count _ _ _ _ c.call.result c.call.ensures.says
