use Rattle.std.proofs.Common.{◌≡◌, ◌<◌, [], length, ap, ◌∙◌, arith}
use Rattle.std.specs.Prelude.{slice_index_or}
use Rattle.std.proofs.lemmas.List.{get_or_read}
use Rattle.lg_io.proofs.NamedTextLemmas.{read-consumes, read-end}
use Rattle.lg_io.proofs.memory_texts.MemoryTextsTexts.read.Goals as goal

pub returns-clause-bytes : goal.returns-clause-bytes
returns-clause-bytes c =
    let texts = c.self.inside.texts.items in
    let n = c.copy_from-count.result in
    let within : c.in-Some.place < length texts = omega (arith, c.self.invariant c.in-Some.place c.in-Some.is, c.self.inside.texts.ok.0) in
    let text : c.text.result.now ≡ (slice_index_or texts c.in-Some.place ([], [])).1 = c.text.ensures ∙ ap (λ x. x.1) (get_or_read texts c.in-Some.place c.index.result.now within c.index.ensures ([], [])) in
    rw (← c.self.view_is, c.in-Some.is, ← text) (
      rw c.copy_from-count.ensures.bytes (read-consumes c.text.result.now c.args.into.now c.self.inside.offset n c.copy_from-count.ensures.count),
      λ z some. read-end c.text.result.now c.args.into.now c.self.inside.offset n c.copy_from-count.ensures.count z (omega arith),
    )
