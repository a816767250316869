use Rattle.std.proofs.Common.{◌∙◌, sym, ap}
use Rattle.std.specs.Int.{w64, from_le_bytes}
use Rattle.lg_base.proofs.CountLemmas.{eight}
use Rattle.lg_base.proofs.args.word_at.Goals as goal

pub returns : goal.returns
returns c = c.from_le_bytes.ensures ∙ ap (from_le_bytes w64) (sym (eight c.args.at c.args.bytes.now c.requires))
