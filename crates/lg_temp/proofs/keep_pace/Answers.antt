use Rattle.lg_temp.proofs.PaceLemmas.{keeps-pace}
use Rattle.lg_temp.proofs.keep_pace.Goals as goal

pub returns : goal.returns
returns g c p q st =
    let s = g.S.PacedSimulation in
    keeps-pace s.portable s.processor s.alike s.stands s.portable_is s.standing s.carries p q st
