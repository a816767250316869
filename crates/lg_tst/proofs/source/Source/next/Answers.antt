use Rattle.std.proofs.Common.{◌++◌, subst, sym}
use Rattle.std.specs.Prelude.{option_to_list}
use Rattle.std.specs.List.{All}
use Rattle.std.proofs.lemmas.List.Elements.{All-tail}
use Rattle.lg_tst.specs.Streams.{IsToken}
use Rattle.lg_tst.proofs.SourceLemmas.{rest_are}
use Rattle.lg_tst.proofs.source.Source.next.Goals as goal

pub invariant_of-self : goal.invariant_of-self
invariant_of-self c = All-tail (IsToken c.self.inside.text.now) c.in-Some.token c.self.inside.lexer.0 (subst (λ o. All (IsToken c.self.inside.text.now) (option_to_list o ++ c.self.inside.lexer.0)) c.in-Some.is c.self.invariant)

pub invariant_of-self-in-None : goal.invariant_of-self-in-None
invariant_of-self-in-None c =
    let before = subst (λ o. All (IsToken c.self.inside.text.now) (option_to_list o ++ c.self.inside.lexer.0)) c.in-None.is c.self.invariant in
    subst (λ o. All (IsToken c.self.inside.text.now) (option_to_list o ++ c.next.new.self.0)) (sym c.in-None.is)
    (rest_are (IsToken c.self.inside.text.now) c.self.inside.lexer.0 c.self.inside.lexer.1 c.next.result c.next.new.self c.next.ensures before)
