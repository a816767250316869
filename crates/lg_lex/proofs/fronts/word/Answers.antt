use Rattle.std.proofs.Common.{◌≡◌, ◌<◌, sym, ◌∙◌, arith}
use Rattle.lg_lex.specs.Fronts.{word_len}
use Rattle.lg_lex.proofs.PlainLemmas.{word_len_is, label_is, word_is}
use Rattle.lg_lex.proofs.fronts.word.Goals as goal

pub returns-then-byte_at-eq58-clause-value : goal.returns-then-byte_at-eq58-clause-value
returns-then-byte_at-eq58-clause-value c =
    let len : word_len c.args.bytes.now ≡ c.word_byte_len-n.result = word_len_is c.args.bytes.now c.requires ∙ sym c.word_byte_len-n.ensures.value in
    label_is c.args.bytes.now c.word_byte_len-n.result len (sym c.byte_at.ensures ∙ c.if-byte_at-eq58.true)

pub returns-else-byte_at-eq58-clause-value : goal.returns-else-byte_at-eq58-clause-value
returns-else-byte_at-eq58-clause-value c =
    let len : word_len c.args.bytes.now ≡ c.word_byte_len-n.result = word_len_is c.args.bytes.now c.requires ∙ sym c.word_byte_len-n.ensures.value in
    word_is c.args.bytes.now c.word_byte_len-n.result len (λ e. c.if-byte_at-eq58.false (c.byte_at.ensures ∙ e))

pub returns-else-byte_at-eq58-clause-inside : goal.returns-else-byte_at-eq58-clause-inside
returns-else-byte_at-eq58-clause-inside c =
    let len : word_len c.args.bytes.now ≡ c.word_byte_len-n.result = word_len_is c.args.bytes.now c.requires ∙ sym c.word_byte_len-n.ensures.value in
    let some : 0 < word_len c.args.bytes.now = c.requires in
    (omega (arith, len, some), c.word_byte_len-n.ensures.inside)
