use Rattle.std.proofs.Common.{ap, sym, ◌∙◌}
use Rattle.lg_op.specs.declared.op.Op.TheVariants as variant
use Rattle.lg_dead.specs.Known.{made}
use Rattle.lg_dead.specs.Tables.{known_of}
use Rattle.lg_dead.proofs.folding.made.Goals as goal

pub returns-in-Binary : goal.returns-in-Binary
returns-in-Binary c =
    c.made_binary.ensures c.in-Binary.field-1 ∙ ap (made (known_of c.args.known.now) (variant.Binary c.in-Binary.op c.in-Binary.field-1)) c.as_slice.ensures.value
    ∙ ap (λ o. made (known_of c.args.known.now) o c.args.node.now.operands) (sym c.in-Binary.is)
