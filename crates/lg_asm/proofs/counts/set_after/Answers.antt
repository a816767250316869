use Rattle.std.proofs.Common.{sym}
use Rattle.std.proofs.lemmas.Option.{get_or_from_slice_get}
use Rattle.lg_asm.proofs.counts.set_after.Goals as goal

pub returns : goal.returns
returns c = sym (get_or_from_slice_get c.args.live.now.behind c.args.index c.after.result (record { 0 = 0 }) (sym c.after.ensures))
