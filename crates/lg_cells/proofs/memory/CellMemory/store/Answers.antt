use Rattle.std.proofs.Common.{◌≡◌, ◌+◌, ◌-◌, ◌/◌, ◌%◌, true, sym, ap, ◌∙◌, arith}
use Rattle.lg_base.specs.Spaces.{put_some, stored}
use Rattle.lg_base.proofs.SpaceLemmas.{stored-none, stored-step}
use Rattle.lg_cells.specs.Memories.{byte_at, room_at}
use Rattle.lg_cells.proofs.LoadLemmas.{writable_at}
use Rattle.lg_cells.proofs.memory.CellMemory.store.Goals as goal

pub loop-i-preserved : goal.loop-i-preserved
loop-i-preserved c =
    let b : byte_at c.put_byte.new.self ≡ put_some (byte_at c.loop-i.self) (c.args.address + c.loop-i.i) (c.loop-i.rest % 256) = c.put_byte.ensures.bytes in
    record {
      bytes = ap (λ f. stored f (c.args.address + (c.loop-i.i + 1)) (c.args.width - (c.loop-i.i + 1)) (c.loop-i.rest / 256)) b
          ∙ sym (stored-step (byte_at c.loop-i.self) (c.args.address + c.loop-i.i) (c.args.width - c.loop-i.i) _ _ c.loop-i.rest (omega arith) (omega arith))
          ∙ c.loop-i.invariant.bytes;
      rooms = c.put_byte.ensures.rooms ∙ c.loop-i.invariant.rooms;
      sizes = record { data_same = c.put_byte.ensures.sizes.data_same ∙ c.loop-i.invariant.sizes.data_same; args_same = c.put_byte.ensures.sizes.args_same ∙ c.loop-i.invariant.sizes.args_same };
    }

pub returns-clause-bytes : goal.returns-clause-bytes
returns-clause-bytes c = sym (stored-none (byte_at c.loop-i.self) (c.args.address + c.loop-i.i) (c.args.width - c.loop-i.i) c.loop-i.rest (omega arith)) ∙ c.loop-i.invariant.bytes

pub put_byte-requires : goal.put_byte-requires
put_byte-requires c = ap (λ p. p (c.args.address + c.loop-i.i)) c.loop-i.invariant.rooms ∙ writable_at (room_at c.args.self.now) c.args.address c.args.width c.loop-i.i c.requires.room (omega arith)
