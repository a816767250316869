use Rattle.std.proofs.Common.{◌≡◌, true, sym, ap, ◌∙◌}
use Rattle.lg_node.specs.Walks.{is_quiet}
use Rattle.lg_node.proofs.QuietLemmas.{quiet_passes, quiet_stays}
use Rattle.lg_node.proofs.checks.pass_node.Goals as goal

pub returns-then-is_quiet : goal.returns-then-is_quiet
returns-then-is_quiet c =
    let walk = c.args.walk.now in
    let node = c.args.node.now in
    let is : is_quiet walk node.op node.operands ≡ true = ap (is_quiet walk node.op) (sym c.as_slice.ensures.value) ∙ sym c.is_quiet.ensures ∙ c.if-is_quiet.true in
    record {
      walk = quiet_stays walk c.args.index node is;
      none = quiet_passes c.args.nodes.now c.args.index node walk c.requires.node c.requires.walk c.requires.limits is;
      refused = tt;
    }
