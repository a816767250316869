use Rattle.lg_temp.proofs.PaceLemmas.{ends-alike}
use Rattle.lg_temp.proofs.end_alike.Goals as goal

pub returns : goal.returns
returns g c nodes p q agrees paced =
    let s = g.S.PacedSimulation in
    ends-alike s.portable s.processor s.alike nodes p q s.processor_is agrees paced
