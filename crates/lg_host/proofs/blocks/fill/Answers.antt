use Rattle.std.proofs.Common.{◌+◌, refl, ap, ◌∙◌, arith}
use Rattle.lg_host.proofs.BlockLemmas.{fill-none, fill-more}
use Rattle.lg_host.proofs.blocks.fill.Goals as goal

pub loop-i-init : goal.loop-i-init
loop-i-init g c = record { told = fill-none (g.S.Space.byte_of c.args.mem.now) c.args.to c.args.byte; rooms = refl }

pub loop-i-preserved : goal.loop-i-preserved
loop-i-preserved g c = record {
  told = fill-more _ (g.S.Space.byte_of c.args.mem.now) (g.S.Space.byte_of c.loop-i.mem) (g.S.Space.room c.args.mem.now) c.put.result c.args.to c.args.byte c.args.count c.loop-i.i (omega arith) c.requires.can (c.put.ensures.done ∙ ap (λ f. f (c.args.to + c.loop-i.i)) c.loop-i.invariant.rooms) c.put.ensures.bytes c.loop-i.invariant.told;
  rooms = c.put.ensures.rooms ∙ c.loop-i.invariant.rooms;
}
