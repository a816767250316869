use Rattle.std.proofs.Common.{List, sym, ap, ◌∙◌}
use Rattle.lg_node.specs.declared.function.Function.{Function}
use Rattle.lg_node.specs.Functions.{function_of}
use Rattle.lg_node.proofs.AcceptedLaws.{is_closed, all_small}
use Rattle.lg_node.proofs.NumberLaws.{number_is}
use Rattle.lg_node.proofs.checks.shape_of.Goals as goal

pub from_ranges-requires-clause-few : goal.from_ranges-requires-clause-few
from_ranges-requires-clause-few c = c.in_ok-ranges.ensures.few

pub from_ranges-requires-clause-small : goal.from_ranges-requires-clause-small
from_ranges-requires-clause-small c = rw c.in_ok-ranges.ensures.functions (all_small c.args.nodes.now c.requires)

pub from_ranges-requires-clause-numbers : goal.from_ranges-requires-clause-numbers
from_ranges-requires-clause-numbers c node =
    c.in_ok-ranges.ensures.numbers node
    ∙ sym (number_is c.args.nodes.now.nodes (is_closed c.args.nodes.now c.requires) node)
    ∙ ap (λ (fs : List Function). function_of fs node) (sym c.in_ok-ranges.ensures.functions)
