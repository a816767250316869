use Rattle.std.proofs.Common.{◌≡◌, length, rules, arith}
use Rattle.lg_macro.proofs.PieceLemmas.{copied_front}
use Rattle.lg_macro.proofs.pieces.drop_front.Goals as goal

pub returns : goal.returns
returns g c =
    let long : length c.args.items.now.items ≡ c.len-len.result = search rules in
    copied_front c.args.n c.len-len.result c.args.items.now.items c.copy_within.new.self.items c.truncate.new.self.items (omega arith) long c.copy_within.ensures.items c.truncate.ensures.items
