use Rattle.std.proofs.Common.{◌<◌, length, sym, subst, arith}
use Rattle.std.specs.List.{All}
use Rattle.lg_buf.specs.declared.fixes.Fix.{Fix}
use Rattle.lg_buf.specs.Buffers.{Buffer, AreApart, AreSound, EndsWithin}
use Rattle.lg_buf.proofs.SoundLemmas.{sound_push}
use Rattle.lg_buf.proofs.buffer.CodeBuf.fix.Goals as goal

pub invariant_of-self : goal.invariant_of-self
invariant_of-self c =
    let f : Fix = record { place = c.args.place; kind = c.args.kind; label = c.args.label } in
    let b = c.self.inside in let back = sym c.self.view_is in let i = c.self.invariant in
    let room = subst (λ (v : Buffer). 0 < v.room) back c.requires.room in
    let ends = subst (λ (v : Buffer). EndsWithin (length v.bytes) f) back c.requires.emitted in
    let label = subst (λ (v : Buffer). c.args.label.0 < length v.labels) back c.requires.label in
    let apart = subst (λ (v : Buffer). All (λ g. AreApart g f) v.fixes) back c.requires.apart in
    let len = c.push_reserved.ensures.len in let capacity = c.push_reserved.ensures.capacity in (
      omega (arith, i.0, room, len, capacity),
      subst (AreSound (length b.store.items) (length b.labels.items)) (sym c.push_reserved.ensures.items) (sound_push (length b.store.items) (length b.labels.items) b.fixes.items f i.1 ends label apart),
      i.2,
      i.3,
    )
