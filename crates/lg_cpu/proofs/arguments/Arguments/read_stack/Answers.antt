use Rattle.std.proofs.Common.{◌∙◌, sym, arith}
use Rattle.std.proofs.Math.ListN.{length-set}
use Rattle.lg_base.specs.Parts.{byte_at}
use Rattle.lg_cpu.proofs.ArgumentLemmas.{one_more, all_read, no_more}
use Rattle.lg_cpu.proofs.arguments.Arguments.read_stack.Goals as goal

pub loop-self-preserved : goal.loop-self-preserved
loop-self-preserved c =
    let i = c.loop-self.invariant in
    let here = sym c.load.ensures.value ∙ c.in-Some.is in
    record {
      long = length-set c.loop-self.self-inside.words c.loop-self.self-inside.count c.in-Some.word ∙ i.long;
      few = omega (arith, c.loop-self-test.true);
      words = one_more (byte_at c.args.memory.now) c.loop-self.address c.in-Some.word c.loop-self.self-inside.count c.loop-self.self-inside.words c.loop-self-test.true i.long here ∙ i.words;
    }

pub returns-in-None : goal.returns-in-None
returns-in-None c =
    let i = c.loop-self.invariant in
    let here = sym c.load.ensures.value ∙ c.in-None.is in
    no_more (byte_at c.args.memory.now) c.loop-self.address c.args.stack c.loop-self.self-inside.count c.self.inside.count c.loop-self.self-inside.words c.self.inside.words c.args.self.now c.loop-self-test.true c.self.invariant c.self.told here i.words c.self.view_is

pub returns : goal.returns
returns c =
    let i = c.loop-self.invariant in
    all_read (byte_at c.args.memory.now) c.loop-self.address c.args.stack c.loop-self.self-inside.count c.self.inside.count c.loop-self.self-inside.words c.self.inside.words c.args.self.now c.loop-self-test.false c.self.invariant c.self.told i.words c.self.view_is
