use Rattle.lg_base.proofs.FieldLemmas.{put_is}
use Rattle.lg_base.proofs.field.Field.put.Goals as goal

pub returns : goal.returns
returns g c =
    let r = c.requires in
    let is = put_is g.row.LO g.row.LEN c.args.word c.get.result c.args.value r.inside c.get.ensures.value c.get.ensures.fits r.value in
    record { sum = is.sum; got = is.got; kept = is.kept }
