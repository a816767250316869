use Rattle.std.proofs.Common.{◌^◌, ◌-◌, ◌/◌, bit_and, ap, ◌∙◌, arith}
use Rattle.std.proofs.lemmas.Nat.{and_mask, one_shl}
use Rattle.lg_base.proofs.field.Field.get.Goals as goal

pub returns-clause-value : goal.returns-clause-value
returns-clause-value g c =
    let word = c.args.word / 2 ^ g.row.LO in
    ap (λ m. bit_and word (m - 1)) (one_shl g.row.LEN 32 (omega arith)) ∙ and_mask word g.row.LEN
