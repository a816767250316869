use Rattle.std.proofs.Common.{◌≡◌}
use Rattle.lg_base.specs.HostNames.{host_word}
use Rattle.lg_explain.specs.Sentences.{which_are_allowed}
use Rattle.lg_explain.proofs.say.write_sentence_of.Goals as goal

pub returns-in-NoCarry : goal.returns-in-NoCarry
returns-in-NoCarry g c = rw c.in-NoCarry.is c.write_parts-in-NoCarry.ensures

pub returns-in-NoResult : goal.returns-in-NoResult
returns-in-NoResult g c = rw c.in-NoResult.is c.write_parts-in-NoResult.ensures

pub returns-in-NotAllowed : goal.returns-in-NotAllowed
returns-in-NotAllowed g c =
    let word : c.word.result.now ≡ host_word c.in-NotAllowed.name = c.word.ensures in
    let which : c.which_are_allowed.result.now ≡ which_are_allowed c.in-NotAllowed.name = c.which_are_allowed.ensures in
    rw (c.in-NotAllowed.is, ← word, ← which) c.write_parts-in-NotAllowed.ensures
