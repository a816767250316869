use Rattle.lg_explain.proofs.TwiceStopsLemmas.{twice_stops}
use Rattle.lg_explain.proofs.laws.twice_is_where_reading_stops.Goals as goal

pub returns : goal.returns
returns c = twice_stops
