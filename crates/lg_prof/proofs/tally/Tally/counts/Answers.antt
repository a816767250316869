use Rattle.std.proofs.Common.{◌<◌, ◌≤◌, arith, length}
use Rattle.lg_prof.proofs.TallyLemmas.{counts_past, counts_read}
use Rattle.lg_prof.proofs.tally.Tally.counts.Goals as goal

pub returns-then-line-len : goal.returns-then-line-len
returns-then-line-len c =
    let within : c.args.line < length c.self.inside.ran.items = omega (arith, c.if-line-len.true, c.len.ensures) in
    counts_read c.self.inside.ran.items c.self.inside.spent.items c.args.self.now c.self.invariant c.self.view_is c.args.line c.index.result.now c.index-then-line-len.result.now c.index.ensures c.index-then-line-len.ensures within

pub returns : goal.returns
returns c =
    let past : length c.self.inside.ran.items ≤ c.args.line = omega (arith, c.if-line-len.false, c.len.ensures) in
    counts_past c.self.inside.ran.items c.self.inside.spent.items c.args.self.now c.self.invariant c.self.view_is c.args.line past
