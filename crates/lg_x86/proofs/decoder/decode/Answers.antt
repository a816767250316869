use Rattle.std.proofs.Common.{length, ◌∙◌, arith}
use Rattle.lg_base.proofs.WordFrontLemmas.{none_from}
use Rattle.lg_base.specs.Fronts.{BeginsWith}
use Rattle.lg_x86.specs.Spelling.{IsInstr, spelling}
use Rattle.lg_x86.specs.Reading.{guess_of}
use Rattle.lg_x86.proofs.CheckedLemmas.{checked_again, checked_front}
use Rattle.lg_x86.proofs.ReadLemmas.{read_same}
use Rattle.lg_x86.proofs.decoder.decode.Goals as goal

pub returns-clause-value : goal.returns-clause-value
returns-clause-value c = c.read.ensures.exact ∙ read_same c.args.bytes.now (λ k. let fits = c.type_inv.bytes k in omega (arith, fits))

pub returns-clause-again : goal.returns-clause-again
returns-clause-again c i more ok e =
    c.read.ensures.exact ∙ read_same c.args.bytes.now (λ k. let fits = c.type_inv.bytes k in omega (arith, fits)) ∙ checked_again c.args.bytes.now i more ok e

pub returns-clause-front : goal.returns-clause-front
returns-clause-front c =
    let exact = c.read.ensures.exact ∙ read_same c.args.bytes.now (λ k. let fits = c.type_inv.bytes k in omega (arith, fits)) in
    checked_front c.args.bytes.now (guess_of c.args.bytes.now) c.read.result exact c.read.ensures.valid

pub returns-clause-none : goal.returns-clause-none
returns-clause-none c =
    let exact = c.read.ensures.exact ∙ read_same c.args.bytes.now (λ k. let fits = c.type_inv.bytes k in omega (arith, fits)) in
    none_from (BeginsWith spelling IsInstr c.args.bytes.now) c.read.result (λ i b. (length (spelling i), exact ∙ checked_again c.args.bytes.now i b.1 b.0 b.2))
