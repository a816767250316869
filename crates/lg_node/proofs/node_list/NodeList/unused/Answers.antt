use Rattle.std.proofs.Common.{◌≡◌, ◌≤◌, true, length, arith, sym, ap, ◌∙◌}
use Rattle.lg_node.specs.Unused.{is_mentioned, numbered}
use Rattle.lg_node.proofs.NodeListLemmas.{up_to}
use Rattle.lg_node.proofs.node_list.NodeList.unused.Goals as goal

pub loop-number-preserved : goal.loop-number-preserved
loop-number-preserved c =
    let words = c.args.self.now.words in
    record {
      from = omega (arith, c.loop-number.invariant.from);
      first = λ k from before. up_to (λ n. length words ≤ n → is_mentioned words (numbered n) ≡ true) c.loop-number.number (λ j lt le. c.loop-number.invariant.first j le lt) (λ _. sym (ap (is_mentioned words) c.numbered.ensures.value) ∙ sym c.has_word.ensures ∙ c.if-not-has_word.false) k before from;
    }

pub returns-then-not-has_word : goal.returns-then-not-has_word
returns-then-not-has_word c =
    let words = c.args.self.now.words in
    record {
      from = c.loop-number.invariant.from;
      unused = sym (ap (is_mentioned words) c.numbered.ensures.value) ∙ sym c.has_word.ensures ∙ c.if-not-has_word.true;
      first = c.loop-number.invariant.first;
    }
