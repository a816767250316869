use Rattle.std.proofs.Common.{◌≡◌, ℕ, ◌+◌, true, List, [], ◌∷◌, ◌++◌, Option, None, sym, refl, ap, ◌∙◌, is_some, length, map, arith}
use Rattle.std.proofs.lemmas.List.{length-map}
use Rattle.std.specs.List.{position_or_len}
use Rattle.std.specs.Str.{bytes_eq}
use Rattle.lg_node.specs.Nodes.{LabelledNodes, is_word}
use Rattle.lg_node.specs.Chains.{BoundLabels}
use Rattle.lg_node.specs.declared.place.Place.{Place}
use Rattle.lg_node.proofs.NodeListLemmas.{longer, all_longer, found_at, any-map, place-map, map-push, keys-new, mentioned-new}
use Rattle.lg_node.proofs.node_list.NodeList.label.Goals as goal

pub returns-in-Some-clause-number : goal.returns-in-Some-clause-number
returns-in-Some-clause-number c = rw (← c.self.view_is, place-map (λ v. v.items) c.args.word.now c.self.inside.words.keys) (sym (found_at (λ k. bytes_eq c.args.word.now k.items) c.self.inside.words.keys c.in-Some.index (sym c.in-Some.ensures.index)))

pub returns-in-Some-clause-ok : goal.returns-in-Some-clause-ok
returns-in-Some-clause-ok c = rw (← c.self.view_is, any-map (λ v. v.items) c.args.word.now c.self.inside.words.keys, ← c.in-Some.ensures.found) refl

pub invariant_of-self-in-Ok : goal.invariant_of-self-in-Ok
invariant_of-self-in-Ok c =
    let absent = sym c.get_index_of.ensures.found ∙ ap is_some c.in_default.is in
    let new = keys-new (λ v. v.items) c.args.word.now c.self.inside.words.keys c.insert_full.new.self.keys c.in_ok-key.key c.in_ok-key.ensures.items absent c.in-Ok.ensures.keys in
    let one = longer c.self.inside.words.keys c.insert_full.new.self.keys c.in_ok-key.key new in
    let bindings = c.in_ok-add_label.ensures.ok in
    let one_place = longer c.self.inside.bindings.places c.add_label.new.self.places None (ap (λ (b : BoundLabels). b.places) bindings) in
    let words = ap (λ (l : LabelledNodes). length l.words) c.self.view_is in
    record {
      paired = one_place ∙ ap (λ n. n + 1) c.self.invariant.paired ∙ sym one;
      counted = ap (λ (b : BoundLabels). b.nodes) bindings ∙ c.self.invariant.counted;
      nodes = c.self.invariant.nodes;
      labels = omega (arith, one, sym (length-map c.self.inside.words.keys (λ v. v.items)) ∙ words, c.requires.room);
      formed = c.self.invariant.formed;
      worded = all_longer (λ w. is_word w.items ≡ true) c.self.inside.words.keys c.insert_full.new.self.keys c.in_ok-key.key new c.self.invariant.worded (ap is_word c.in_ok-key.ensures.items ∙ c.requires.word);
    }

pub returns-in-Ok-clause-number : goal.returns-in-Ok-clause-number
returns-in-Ok-clause-number c = rw (← c.self.view_is, place-map (λ v. v.items) c.args.word.now c.self.inside.words.keys) (c.in-Ok.ensures.index ∙ ap (λ (w : List ℕ). position_or_len (λ k. bytes_eq w k.items) c.self.inside.words.keys) c.in_ok-key.ensures.items)

pub returns-in-Ok-clause-ok : goal.returns-in-Ok-clause-ok
returns-in-Ok-clause-ok c =
    let absent = sym c.get_index_of.ensures.found ∙ ap is_some c.in_default.is in
    let new = keys-new (λ v. v.items) c.args.word.now c.self.inside.words.keys c.insert_full.new.self.keys c.in_ok-key.key c.in_ok-key.ensures.items absent c.in-Ok.ensures.keys in
    rw (← c.self.view_is) (
    ap (λ (ws : List (List ℕ)). record { nodes = c.self.inside.nodes.items; words = ws; places = c.add_label.new.self.places }) (ap (map (λ v. v.items)) new ∙ map-push (λ v. v.items) c.args.word.now c.self.inside.words.keys c.in_ok-key.key c.in_ok-key.ensures.items)
    ∙ ap (λ (ps : List (Option Place)). record { nodes = c.self.inside.nodes.items; words = map (λ v. v.items) c.self.inside.words.keys ++ c.args.word.now ∷ []; places = ps }) (ap (λ (b : BoundLabels). b.places) c.in_ok-add_label.ensures.ok)
    ∙ sym (mentioned-new (λ v. v.items) c.args.word.now c.self.inside.words.keys c.self.inside.nodes.items c.self.inside.bindings.places absent))
