use Rattle.std.proofs.Common.{sym, ap, ◌∙◌}
use Rattle.lg_tst.specs.Streams.{Stream, passed}
use Rattle.lg_tst.specs.Units.{State}
use Rattle.lg_tst.proofs.ValueLemmas.{value_after, other_after, none_after}
use Rattle.lg_tst.proofs.parser.Parser.next_value.Goals as goal

pub returns-in-Some-clause-some : goal.returns-in-Some-clause-some
returns-in-Some-clause-some c =
    let state = λ (source : Stream). (let s : State = record { source = source; section = c.self.inside.section; part = c.self.inside.part; list = c.self.inside.nodes; names = c.self.inside.names } in s) in
    rw (← c.self.view_is) (value_after c.args.size (state c.self.inside.source) (state c.skip.new.self) c.in-Some.token (sym c.in-Some.is ∙ c.peek.ensures.value) (sym c.takes.ensures ∙ c.if-takes.true) (ap state (c.skip.ensures ∙ ap passed c.peek.ensures.same)))

pub returns-in_default-clause-none : goal.returns-in_default-clause-none
returns-in_default-clause-none c =
    let state = λ (source : Stream). (let s : State = record { source = source; section = c.self.inside.section; part = c.self.inside.part; list = c.self.inside.nodes; names = c.self.inside.names } in s) in
    rw (← c.self.view_is) (other_after c.args.size (state c.self.inside.source) (state c.peek.new.self) c.in-Some.token (sym c.in-Some.is ∙ c.peek.ensures.value) (sym c.takes.ensures ∙ c.if-takes.false) (ap state c.peek.ensures.same))

pub returns-in_default-2-clause-none : goal.returns-in_default-2-clause-none
returns-in_default-2-clause-none c =
    let state = λ (source : Stream). (let s : State = record { source = source; section = c.self.inside.section; part = c.self.inside.part; list = c.self.inside.nodes; names = c.self.inside.names } in s) in
    rw (← c.self.view_is) (none_after c.args.size (state c.self.inside.source) (state c.peek.new.self) (sym c.in_default.is ∙ c.peek.ensures.value) (ap state c.peek.ensures.same))
