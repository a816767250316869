use Rattle.std.proofs.Common.{sym, ap, ◌∙◌}
use Rattle.std.specs.Prelude.{slice_set}
use Rattle.lg_opt.proofs.RebuildLemmas.{set-none}
use Rattle.lg_opt.proofs.rebuilding.bind_at.Goals as goal

pub returns-in-None : goal.returns-in-None
returns-in-None c =
    let l = c.args.list.now in
    ap (λ ps. record l { places = ps }) (sym (ap (slice_set l.places c.args.label.0) c.in-None.is ∙ set-none l.places c.args.label.0 c.requires.free))
