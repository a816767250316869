use Rattle.std.proofs.Common.{sym, ◌∙◌, arith}
use Rattle.lg_macro.proofs.DefineLemmas.{names_wrong, names_twice, names_more, names_done}
use Rattle.lg_macro.proofs.defines.names_of.Goals as goal

pub returns-in-None : goal.returns-in-None
returns-in-None c = names_wrong c.args.groups.now c.groups.i c.index-groups-i.result c.groups.names.items (omega arith) c.index-groups-i.is (sym c.in-None.is ∙ c.in_ok-one_word.ensures) ∙ c.groups.invariant

pub returns-then-is_among : goal.returns-then-is_among
returns-then-is_among c = names_twice c.args.groups.now c.groups.i c.index-groups-i.result c.groups.names.items c.in-Some.word (omega arith) c.index-groups-i.is (sym c.in-Some.is ∙ c.in_ok-one_word.ensures) (rw (c.as_slice.ensures.value, c.deref.ensures.value) at (sym c.is_among.ensures ∙ c.if-is_among.true)) ∙ c.groups.invariant

pub groups-preserved : goal.groups-preserved
groups-preserved c = names_more c.args.groups.now c.groups.i c.index-groups-i.result c.groups.names.items c.push.new.self.items c.in-Some.word (omega arith) c.index-groups-i.is (sym c.in-Some.is ∙ c.in_ok-one_word.ensures) (rw (c.as_slice.ensures.value, c.deref.ensures.value) at (sym c.is_among.ensures ∙ c.if-is_among.false)) c.in_ok-push-in-Some.ensures.items ∙ c.groups.invariant

pub returns : goal.returns
returns c = names_done c.args.groups.now c.groups.i c.groups.names.items (omega arith) ∙ c.groups.invariant
