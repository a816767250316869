use Rattle.std.proofs.Common.{◌≡◌, length, drop, ◌∙◌, arith, refl, ℕ, List}
use Rattle.std.proofs.lemmas.List.{take_rest}
use Rattle.lg_base.specs.declared.target.Target.{Target}
use Rattle.lg_list.specs.Lines.{Entry, line_of, bytes_of}
use Rattle.lg_back.specs.Reading.{HasLine}
use Rattle.lg_back.proofs.ReaderLemmas.{IsNext, read-begins, read-goes, read-bad, read-ends, read-differs, room-for}
use Rattle.lg_back.proofs.reader.read_lines.Goals as goal

-- the line that was read
next : (t : Target) (a : ℕ) (text : List ℕ) (at len : ℕ) (bytes own : List ℕ) → (e : Entry) × HasLine t a (drop at text) e × (bytes ≡ bytes_of e) × (len ≡ length (line_of a e)) → own ≡ bytes → IsNext t a text at len own
next t a text at len bytes own f is = record { entry = f.0; line = f.1; own_is = is ∙ f.2; len_is = f.3 }

pub loop-at-init : goal.loop-at-init
loop-at-init c = read-begins c.args.text.now c.args.head.target c.args.head.count c.args.bytes.items c.args.bytes.room c.args.head.len c.requires.head c.requires.len c.requires.none c.requires.room

pub overflow_add-done : goal.overflow_add-done
overflow_add-done c = omega (arith, c.loop-at.invariant.half, c.loop-at.invariant.within, c.requires.small)

pub returns-in-None : goal.returns-in-None
returns-in-None c =
    let r = c.loop-at.invariant in
    let none = rw take_rest at c.in-None.ensures.none in
    rw c.bad_listing.ensures (refl, read-bad c.args.text.now c.args.head.target c.args.head.count c.loop-at.bytes.items c.loop-at.bytes.room c.loop-at.at c.loop-at.line c.loop-at.done r c.loop-at-test.true none)

pub overflow_add-done-in-Some : goal.overflow_add-done-in-Some
overflow_add-done-in-Some c = omega (arith, c.loop-at.invariant.half, c.loop-at.invariant.within, c.requires.small, c.as_slice-list.ensures.room)

pub keep-requires : goal.keep-requires
keep-requires c =
    room-for c.args.text.now c.args.head.target c.args.head.count c.loop-at.bytes.items c.loop-at.bytes.room c.loop-at.at c.loop-at.line c.loop-at.done c.in-Some.len c.as_slice-list.result.now
    c.loop-at.invariant (next _ _ _ _ _ _ _ (rw take_rest at c.in-Some.ensures.found) c.as_slice-list.ensures.value)

pub overflow_add-line : goal.overflow_add-line
overflow_add-line c = omega (arith, c.loop-at.invariant.below, c.loop-at-test.true, c.requires.small)

pub loop-at-preserved : goal.loop-at-preserved
loop-at-preserved c =
    read-goes c.args.text.now c.args.head.target c.args.head.count c.loop-at.bytes.items c.keep.new.bytes.items c.loop-at.bytes.room c.keep.new.bytes.room c.loop-at.at c.loop-at.line c.loop-at.done c.in-Some.len
    c.as_slice-list.result.now c.loop-at.invariant (next _ _ _ _ _ _ _ (rw take_rest at c.in-Some.ensures.found) c.as_slice-list.ensures.value) c.keep.ensures.items c.keep.ensures.room

pub returns-then-done-head : goal.returns-then-done-head
returns-then-done-head c = read-ends c.args.text.now c.args.head.target c.args.head.count c.loop-at.bytes.items c.loop-at.bytes.room c.loop-at.at c.loop-at.line c.loop-at.done c.loop-at.invariant c.loop-at-test.false c.if-done-head.true

pub returns-else-done-head : goal.returns-else-done-head
returns-else-done-head c =
    rw c.bad_listing-else-done-head.ensures (refl, read-differs c.args.text.now c.args.head.target c.args.head.count c.loop-at.bytes.items c.loop-at.bytes.room c.loop-at.at c.loop-at.line c.loop-at.done c.loop-at.invariant c.loop-at-test.false c.if-done-head.false)
