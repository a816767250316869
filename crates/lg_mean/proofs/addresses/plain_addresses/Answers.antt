use Rattle.std.proofs.Common.{◌≡◌, ◌≤◌, ◌*◌, ◌++◌, ◌∷◌, [], List, ℕ, map, take, ap, sym, subst, ◌∙◌, length, arith}
use Rattle.std.proofs.lemmas.List.{take_all}
use Rattle.lg_meaning.specs.Addresses.{AreAddresses, plain_address, plain_addresses}
use Rattle.lg_mean.proofs.AddressLemmas.{next_address, within_more, all_within}
use Rattle.lg_mean.proofs.addresses.plain_addresses.Goals as goal

pub loop-label-preserved : goal.loop-label-preserved
loop-label-preserved c =
    let i = c.loop-label.invariant in
    let done = map plain_address (take c.loop-label.label c.args.nodes.now.places) in
    record {
      value = c.in_ok-push.ensures.items ∙ ap (λ (xs : List ℕ). xs ++ c.plain_address.result ∷ []) i.value ∙ ap (λ (a : ℕ). done ++ a ∷ []) c.plain_address.ensures ∙ sym (next_address c.args.nodes.now.places c.loop-label.label c.place.result c.place.ensures.place);
      within = within_more c.args.nodes.now c.loop-label.label c.place.result c.place.ensures.place c.place.ensures.within i.within;
    }

pub returns-clause-addresses : goal.returns-clause-addresses
returns-clause-addresses c =
    let l = c.args.nodes.now in
    let i = c.loop-label.invariant in
    let n = c.labels-label-end.ensures in
    let all : length l.places ≤ c.loop-label.label = omega (arith, n.count, n.places, c.loop-label-test.false) in
    let value : c.from_vec.result ≡ plain_addresses l = c.from_vec.ensures ∙ i.value ∙ ap (map plain_address) (take_all c.loop-label.label l.places all) in
    subst (AreAddresses l (256 * length l.nodes)) (sym value) (c.plain_addresses_are_addresses.ensures l (256 * length l.nodes) (all_within l c.loop-label.label all i.within) (omega arith))
