use Rattle.std.proofs.Common.{ℕ, not, List, [], ◌∷◌, ◌++◌, sym, ap, ◌∙◌, map, arith}
use Rattle.lg_op.specs.declared.operand.Operand.{Operand}
use Rattle.lg_node.proofs.NodeListLemmas.{keys-new, map-push}
use Rattle.lg_tst.specs.Names.{FunctionNames, is_made}
use Rattle.lg_tst.proofs.NameLemmas.{made_held, made_names, made_already}
use Rattle.lg_tst.proofs.names.Names.add.Goals as goal

pub returns-then-is_some-clause-new : goal.returns-then-is_some-clause-new
returns-then-is_some-clause-new c =
    let made = made_held (λ v. v.items) c.args.word.now c.self.inside.words.keys c.get_index_of.result c.get_index_of.ensures.index in
    rw (← c.self.view_is) (sym (ap not (made ∙ sym c.is_some.ensures ∙ c.if-is_some.true)))

pub returns-then-is_some-clause-ok : goal.returns-then-is_some-clause-ok
returns-then-is_some-clause-ok c =
    let made = made_held (λ v. v.items) c.args.word.now c.self.inside.words.keys c.get_index_of.result c.get_index_of.ensures.index in
    let held = ap (λ (n : FunctionNames). is_made n c.args.word.now) (sym c.self.view_is) in
    made_already c.args.self.now c.args.word.now c.args.meaning (held ∙ made ∙ sym c.is_some.ensures ∙ c.if-is_some.true)

pub returns-clause-new : goal.returns-clause-new
returns-clause-new c =
    let made = made_held (λ v. v.items) c.args.word.now c.self.inside.words.keys c.get_index_of.result c.get_index_of.ensures.index in
    rw (← c.self.view_is) (sym (ap not (made ∙ sym c.is_some.ensures ∙ c.if-is_some.false)))

pub returns-clause-ok : goal.returns-clause-ok
returns-clause-ok c =
    let made = made_held (λ v. v.items) c.args.word.now c.self.inside.words.keys c.get_index_of.result c.get_index_of.ensures.index in
    let held = ap (λ (n : FunctionNames). is_made n c.args.word.now) (sym c.self.view_is) in
    let absent = sym c.get_index_of.ensures.found ∙ sym c.is_some.ensures ∙ c.if-is_some.false in
    let new = keys-new (λ v. v.items) c.args.word.now c.self.inside.words.keys c.insert_full.new.self.keys c.in_ok-key.key c.in_ok-key.ensures.items absent c.in_ok-insert_full.ensures.keys in
    made_names c.args.self.now _ c.args.word.now c.args.meaning (held ∙ made ∙ sym c.is_some.ensures ∙ c.if-is_some.false)
    (rw (← c.self.view_is) (
    ap (λ (ws : List (List ℕ)). record { words = ws; meanings = c.push_reserved.new.self.items; arguments = c.self.inside.arguments; locals = c.self.inside.locals; lowest = c.self.inside.lowest }) (ap (map (λ v. v.items)) new ∙ map-push (λ v. v.items) c.args.word.now c.self.inside.words.keys c.in_ok-key.key c.in_ok-key.ensures.items)
    ∙ ap (λ (ms : List Operand). record { words = map (λ v. v.items) c.self.inside.words.keys ++ c.args.word.now ∷ []; meanings = ms; arguments = c.self.inside.arguments; locals = c.self.inside.locals; lowest = c.self.inside.lowest }) (c.push_reserved.ensures.items ∙ ap (λ (ms : List Operand). ms ++ c.args.meaning ∷ []) c.reserve.ensures.items)))

pub push_reserved-requires : goal.push_reserved-requires
push_reserved-requires c = omega (arith, c.in_ok-reserve.ensures.ok)
