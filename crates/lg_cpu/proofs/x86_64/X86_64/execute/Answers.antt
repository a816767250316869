use Rattle.std.proofs.Common.{rules, ◌-◌, ◌^◌, ◌<◌, drop}
use Rattle.lg_base.specs.Layout.{code_base}
use Rattle.lg_cpu.proofs.X86NextLemmas.{front-short, next-apart}
use Rattle.lg_cpu.proofs.x86_64.X86_64.execute.Goals as goal

pub act_registers-requires-clause-next : goal.act_registers-requires-clause-next
act_registers-requires-clause-next c =
    let old = c.args.self.now in
    let short = front-short (drop (old.pc - code_base) old.code) c.args.instr c.args.len c.requires.is in
    let word : old.pc < 2 ^ 64 = search rules in
    rw c.from.ensures (next-apart old.code old.pc c.args.len c.requires.inside word short)
