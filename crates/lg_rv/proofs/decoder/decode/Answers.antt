use Rattle.std.proofs.Common.{ap, ◌∙◌, arith}
use Rattle.lg_base.specs.WordFronts.{word_front}
use Rattle.lg_base.proofs.WordFrontLemmas.{word_again, word_spells, none_from}
use Rattle.lg_base.specs.Fronts.{BeginsWith}
use Rattle.lg_rv.specs.Spelling.{IsInstr, spelling, word_of}
use Rattle.lg_rv.specs.Reading.{instr_of}
use Rattle.lg_rv.proofs.AgainLemmas.{read_again, word_fits}
use Rattle.lg_rv.proofs.SpellsLemmas.{read_spells}
use Rattle.lg_rv.proofs.decoder.decode.Goals as goal

pub returns-clause-again : goal.returns-clause-again
returns-clause-again c i more ok e =
    c.decode_front.ensures ∙ (ap (word_front instr_of) e ∙ word_again instr_of word_of IsInstr read_again word_fits i more ok)

pub returns-clause-front : goal.returns-clause-front
returns-clause-front c =
    rw c.decode_front.ensures (word_spells instr_of word_of IsInstr read_spells c.args.bytes.now (λ i. omega (arith, c.type_inv.bytes i)))

pub returns-clause-none : goal.returns-clause-none
returns-clause-none c = none_from (BeginsWith spelling IsInstr c.args.bytes.now) c.decode_front.result
    (λ i b. (4, c.decode_front.ensures ∙ (ap (word_front instr_of) b.2 ∙ word_again instr_of word_of IsInstr read_again word_fits i b.1 b.0)))
