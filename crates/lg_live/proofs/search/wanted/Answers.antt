use Rattle.std.proofs.Common.{◌<◌, length, refl, arith}
use Rattle.std.proofs.lemmas.Option.{slice_get_read}
use Rattle.lg_live.specs.Searches.{state_of}
use Rattle.lg_live.proofs.SearchLemmas.{searching_on, all_needed}
use Rattle.lg_live.proofs.search.wanted.Goals as goal

pub loop-from-preserved : goal.loop-from-preserved
loop-from-preserved c =
    let lt : c.loop-from.from < length c.loop-from.search.queue.items = omega (arith, c.len.ensures, c.loop-from.search.queue.ok.0) in
    record {
      searching = searching_on c.args.points.now c.args.count c.loop-from.from c.index-point.result.now (state_of c.loop-from.search) (state_of c.spread.new.search) c.loop-from.invariant.searching
          (slice_get_read c.loop-from.search.queue.items (length c.loop-from.search.queue.items) c.loop-from.from c.index-point.result.now refl lt c.index-point.ensures) c.in_ok-spread.ensures.grows c.in_ok-spread.ensures.sound c.in_ok-spread.ensures.spread;
      within = omega (arith, lt, c.in_ok-spread.ensures.grows.longer);
    }

pub returns : goal.returns
returns c = all_needed c.args.points.now c.args.count c.loop-from.from (state_of c.loop-from.search) c.loop-from.invariant.searching (omega (arith, c.len.ensures, c.loop-from.search.queue.ok.0))
