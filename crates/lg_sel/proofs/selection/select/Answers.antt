use Rattle.std.proofs.Common.{◌≡◌, ◌≤◌, length, subst, arith, rules}
use Rattle.lg_carry.specs.Nodes.Operands.{HaveWords}
use Rattle.lg_live.specs.RegSets.{has}
use Rattle.lg_sel.proofs.AppendedLemmas.{one-fixed}
use Rattle.lg_sel.proofs.BackendLemmas.{promised}
use Rattle.lg_sel.specs.Finished.{AreAppended}
use Rattle.lg_sel.specs.Holes.{Each, words_in, fixes_of}
use Rattle.lg_sel.specs.Reaches.{IsChecked}
use Rattle.lg_sel.proofs.selection.select.Goals as goal

pub shortest_items-reach-requires-clause-given : goal.shortest_items-reach-requires-clause-given
shortest_items-reach-requires-clause-given g c =
    c.what_holds.ensures.given c.args.node.now (has c.args.live_after) c.args.site.now c.requires.formed c.requires.choices c.requires.staged

pub shortest_items-reach-requires-clause-emittable : goal.shortest_items-reach-requires-clause-emittable
shortest_items-reach-requires-clause-emittable g c = λ reach few.
    c.what_holds.ensures.emittable reach c.args.node.now (has c.args.live_after) c.args.site.now (length c.args.buf.now.labels) (length c.args.buf.now.bytes)
    record {
      formed = c.requires.formed;
      chosen = c.requires.choices;
      first = c.requires.staged;
      named = c.requires.labels;
      takes = c.requires.immediates;
      words = subst HaveWords c.as_slice-operands.ensures.value c.see_numbers.ensures;
    } few

pub append-requires : goal.append-requires
append-requires g c =
    let emittable = c.shortest_items-reach.ensures.emittable in
    let one : length (fixes_of g.B.Item.Item.holes (length c.args.buf.now.bytes) (g.B.List.ItemList.items c.shortest_items-reach.new.items)) ≤ 1 =
    emittable.fixed (length c.args.buf.now.bytes) in
    let r = c.requires.room in
    record { instrs = emittable.instrs; labels = emittable.names; short = emittable.small; room = omega (arith, one, r) }

pub returns-clause-refused : goal.returns-clause-refused
returns-clause-refused g c =
    let short = c.shortest_items-reach.ensures.emittable.small in
    let fits = c.append.ensures.fits in
    let same = c.append.ensures.refused in
    search rules

pub returns-clause-one_fix : goal.returns-clause-one_fix
returns-clause-one_fix g c =
    one-fixed c.append.result c.args.buf.now c.append.new.buf
    (length (fixes_of g.B.Item.Item.holes (length c.args.buf.now.bytes) (g.B.List.ItemList.items c.shortest_items-reach.new.items)))
    c.append.ensures.refused c.append.ensures.room (c.shortest_items-reach.ensures.emittable.fixed (length c.args.buf.now.bytes))

pub returns-clause-appended : goal.returns-clause-appended
returns-clause-appended g c = λ went.
    let H = g.B.Item.Item.holes in
    let place = length c.args.buf.now.bytes in
    let reach = c.shortest_items-reach.result in
    let made : g.B.List.ItemList.items c.shortest_items-reach.new.items ≡ g.B.Backend.items_of reach c.args.node.now c.args.site.now place = c.shortest_items-reach.ensures.made in
    promised c.what_holds.ensures reach c.args.node.now c.args.site.now (has c.args.live_after) c.args.buf.now c.append.new.buf record {
      asked = record {
        formed = c.requires.formed;
        chosen = c.requires.choices;
        first = c.requires.staged;
        named = c.requires.labels;
        takes = c.requires.immediates;
        words = subst HaveWords c.as_slice-operands.ensures.value c.see_numbers.ensures;
      };
      appended = subst (AreAppended H c.args.buf.now c.append.new.buf) made record { bytes = c.append.ensures.bytes went; fixes = c.append.ensures.fixes went };
      few = subst (λ xs. words_in H xs ≤ 64) made c.shortest_items-reach.ensures.few;
      whole = c.requires.whole;
      checked = subst (λ xs. Each (IsChecked reach c.args.buf.now) (fixes_of H place xs)) made c.shortest_items-reach.ensures.checked;
      least = c.shortest_items-reach.ensures.least;
      ahead = c.shortest_items-reach.ensures.ahead;
    }
