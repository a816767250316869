use Rattle.std.proofs.Common.{◌<◌, None, length, sym, ap, subst, arith}
use Rattle.std.proofs.lemmas.Slice.{first_rest}
use Rattle.lg_io.specs.SinkChanges.{WroteTo, on_sink}
use Rattle.lg_op.specs.declared.operand.Reg.TheVariants.{R0}
use Rattle.lg_explain.specs.Sentences.{register_parts}
use Rattle.lg_explain.proofs.WriteLemmas.{then_wrote}
use Rattle.lg_explain.proofs.say.+write_parts_of.Goals as goal

pub returns-in-Ok : goal.returns-in-Ok
returns-in-Ok g t c =
    let some : 0 < length c.args.registers.now = omega (arith, c.in-len1-up.len_at_least) in
    subst (WroteTo (on_sink g.E.Sink.taken g.E.Sink.faults c.args.err.now c.write_parts_of.new.err) c.write_parts_of.result) (ap register_parts (sym (first_rest c.args.registers.now (R0, None) some)))
    (then_wrote _ _ _ _ _ _ _ _ _ c.in-Ok.ensures.ok c.in-Ok.ensures.cause.kept c.write_parts_of.ensures)
