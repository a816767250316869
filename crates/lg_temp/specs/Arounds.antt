-- Where temporaries are chosen, as the definitions see it.
use Rattle.lg_live.specs.RegSets.{has}
use Rattle.lg_temp.specs.Chosen as chosen
use Rattle.lg_temp.specs.declared.choosing.Around.{Around}

abbrev pub seen : Around → chosen.Around
seen a = record { target = a.target; reads = has a.reads; writes = has a.writes; live = has a.live; staged = a.staged.arguments }
