use Rattle.std.proofs.Common.{refl, subst}
use Rattle.std.specs.Io.KnownBytes.{Appends}
use Rattle.lg_io.specs.Wrote.{AppendsPrefix}
use Rattle.lg_run.proofs.ListLemmas.{code_addressed, listed_is}
use Rattle.lg_run.proofs.listing.list_code.Goals as goal

pub list-written-requires-clause-addressed : goal.list-written-requires-clause-addressed
list-written-requires-clause-addressed g c = rw (c.nodes.ensures, c.labels.ensures, c.places.ensures) (code_addressed c.args.code.now c.target.ensures.code)

pub returns-in-Ok-clause-says : goal.returns-in-Ok-clause-says
returns-in-Ok-clause-says g c =
    let same = listed_is c.args.code.now _ _ _ _ c.target.ensures.value c.bytes.ensures c.places.ensures c.nodes.ensures in
    (refl, subst (Appends (g.O.Sink.taken c.args.out.now) (g.O.Sink.taken c.list-written.new.out)) same c.in-Ok.ensures.ok)

pub returns-in-Err-clause-says : goal.returns-in-Err-clause-says
returns-in-Err-clause-says g c =
    let same = listed_is c.args.code.now _ _ _ _ c.target.ensures.value c.bytes.ensures c.places.ensures c.nodes.ensures in
    (refl, subst (AppendsPrefix (g.O.Sink.taken c.args.out.now) (g.O.Sink.taken c.list-written.new.out)) same c.in-Err.ensures.err)
