use Rattle.std.proofs.Common.{◌++◌, drop, ap, sym, ◌∙◌}
use Rattle.std.proofs.lemmas.List.{take_rest}
use Rattle.lg_back.specs.Digits.{hex_front}
use Rattle.lg_back.proofs.PairLemmas.{front-is}
use Rattle.lg_back.proofs.digits.read_four.Goals as goal

pub returns-then-word-lt-NONE : goal.returns-then-word-lt-NONE
returns-then-word-lt-NONE c =
    let text = c.args.text.now in
    let front = front-is text c.pair-first.result c.pair-second.result c.pair-third.result c.pair-fourth.result c.in-len8-up.len_at_least
    (record { some = c.pair-first.ensures.some; none = c.pair-first.ensures.none; far = c.pair-first.ensures.far })
    (record { some = c.pair-second.ensures.some; none = c.pair-second.ensures.none; far = c.pair-second.ensures.far })
    (record { some = c.pair-third.ensures.some; none = c.pair-third.ensures.none; far = c.pair-third.ensures.far })
    (record { some = c.pair-fourth.ensures.some; none = c.pair-fourth.ensures.none; far = c.pair-fourth.ensures.far })
    c.if-word-lt-NONE.true in
    rw take_rest (front ∙ ap (λ b. b ++ hex_front (drop 8 text)) (sym (c.set.ensures ∙ c.to_le_bytes.ensures)))
