use Rattle.std.proofs.Common.{◌++◌, take, arith}
use Rattle.std.proofs.KnownBytes.{Consumes-trans}
use Rattle.std.proofs.lemmas.List.{length-append, length-take}
use Rattle.lg_run.proofs.source.read_rest.Goals as goal

-- where no memory is left for a piece, it was read all the same
pub returns-then-is_err-clause-few : goal.returns-then-is_err-clause-few
returns-then-is_err-clause-few g c =
    let e = c.in-Ok.ensures in
    let last = take c.in-Ok.count c.read.new.into in
    let all = length-append c.loop-texts.text.items last in
    let short = length-take c.in-Ok.count c.read.new.into in (
      c.loop-texts.text.items ++ last,
      Consumes-trans _ (g.T.Texts.left c.loop-texts.texts) _ _ _ c.loop-texts.invariant.read e.bytes.0,
      omega (arith, all, short, e.bound, c.len.ensures, c.loop-texts-test.true, c.loop-texts.invariant.piece),
    )
