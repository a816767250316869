use Rattle.std.proofs.Common.{refl}
use Rattle.lg_cpu.proofs.RoomLemmas.{room_is}
use Rattle.lg_cpu.proofs.StartLemmas.{start_is}
use Rattle.lg_cpu.proofs.board.Board.again.Goals as goal

pub returns-then-not-again-clause-done : goal.returns-then-not-again-clause-done
returns-then-not-again-clause-done c =
    let e = c.if-not-again.ensures in
    let room = room_is c.args.self.now.memory c.args.image.now c.args.args.now e.sized in
    ((λ done. room.0 (e.done.0 done)), (λ has. e.done.1 (room.1 has)))

pub returns-clause-memory : goal.returns-clause-memory
returns-clause-memory c done =
    let e = c.if-not-again.ensures in
    start_is c.again.new.self c.args.image.now c.args.args.now (e.zeroed refl) (e.«data» refl) (e.args refl)
