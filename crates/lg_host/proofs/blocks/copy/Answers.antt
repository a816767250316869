use Rattle.std.proofs.Common.{◌+◌, refl, ap, ◌∙◌, arith}
use Rattle.std.specs.Prelude.{unwrap_or}
use Rattle.lg_host.proofs.BlockLemmas.{copy-none, copy-more}
use Rattle.lg_host.proofs.blocks.copy.Goals as goal

pub loop-i-init : goal.loop-i-init
loop-i-init g c = record { told = copy-none (g.S.Space.byte_of c.args.mem.now) c.args.to c.args.from; rooms = refl }

pub loop-i-preserved : goal.loop-i-preserved
loop-i-preserved g c = record {
  told = copy-more _ (g.S.Space.byte_of c.args.mem.now) (g.S.Space.byte_of c.loop-i.mem) (g.S.Space.room c.args.mem.now) c.put.result c.args.to c.args.from c.args.count c.loop-i.i c.unwrap_or-byte.result (omega arith) c.requires.can c.requires.can_read c.requires.apart (c.unwrap_or-byte.ensures ∙ ap (λ o. unwrap_or o 0) c.get.ensures) (c.put.ensures.done ∙ ap (λ f. f (c.args.to + c.loop-i.i)) c.loop-i.invariant.rooms) c.put.ensures.bytes c.loop-i.invariant.told;
  rooms = c.put.ensures.rooms ∙ c.loop-i.invariant.rooms;
}
