use Rattle.std.proofs.Common.{◌≡◌, length, arith}
use Rattle.lg_node.proofs.TableLemmas.{count_push}
use Rattle.lg_opt.proofs.LabelTableLemmas.{more-targets, targets-are}
use Rattle.lg_opt.proofs.targets.targets.Goals as goal

pub loop-index-preserved : goal.loop-index-preserved
loop-index-preserved c =
    let t = c.loop-index.table.items in
    let ys = c.push.new.self.items in
    let o = c.target_at.result in
    record {
      count = count_push t ys o c.loop-index.index c.in_ok-push.ensures.items c.loop-index.invariant.count;
      targets = more-targets c.args.nodes.now t ys o c.loop-index.index c.in_ok-push.ensures.items c.loop-index.invariant.count c.loop-index.invariant.targets c.target_at.ensures;
    }

pub returns : goal.returns
returns c =
    let t = c.loop-index.table.items in
    let count : length t ≡ length c.args.nodes.now.nodes = omega (arith, c.loop-index.invariant.count, c.loop-index-test.false, c.loop-index.auto.index-end, c.len-index-end.ensures) in
    targets-are c.args.nodes.now t count c.loop-index.invariant.targets
