use Rattle.std.proofs.Common.{◌≡◌, drop}
use Rattle.lg_io.specs.NamedTexts.{text_under}
use Rattle.lg_io.proofs.memory_texts.place_of.Given as goal

abbrev pub invariant-loop-place : goal.invariant-loop-place
invariant-loop-place l = text_under (drop l.place l.texts) l.name ≡ text_under l.texts l.name
