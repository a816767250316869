use Rattle.std.proofs.Common.{inl, inr, sym, ◌∙◌}
use Rattle.lg_x86.specs.Reading.{mark_in, has_registers}
use Rattle.lg_x86.proofs.OtherLemmas.{IsPlain, short_is_other}
use Rattle.lg_x86.proofs.decoder.read_short.Goals as goal
use Rattle.lg_x86.proofs.decoder.read_short.Goals.{then-opcode-lt64-via-then-opcode-lt64, then-opcode-lt64-via-else-opcode-lt64+then-opcode-eq17}

pub returns-then-opcode-lt64 : goal.returns-then-opcode-lt64
returns-then-opcode-lt64 c =
    let a = c.args in
    let plain : IsPlain a.opcode = elim c.then-opcode-lt64.branch [
      | then-opcode-lt64-via-then-opcode-lt64 w ↦ inl w.if-opcode-lt64.true
      | then-opcode-lt64-via-else-opcode-lt64+then-opcode-eq17 w ↦ inr w.if-opcode-eq17.true
    ] in
    record {
      exact = c.read_other.ensures.exact ∙ sym (short_is_other a.is_word_sized a.rex a.len (mark_in a.rex) (has_registers a.tail.now) a.opcode a.tail.now plain);
      valid = c.read_other.ensures.valid;
    }
