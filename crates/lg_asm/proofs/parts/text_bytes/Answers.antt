use Rattle.std.proofs.Common.{◌≡◌, ⊎_elim, ◌+◌, ◌*◌, ◌<◌, ◌≤◌, length, ℕ, zero, suc, true, List, [], ◌∷◌, Option, Some, refl, sym, ap, subst, ◌∙◌, arith, Bool}
use Rattle.std.specs.Prelude.{IsTrue, map, slice_index}
use Rattle.std.proofs.lemmas.Bool.{cases_lt}
use Rattle.std.proofs.lemmas.List.{length-map}
use Rattle.lg_base.specs.declared.target.Target.{Target}
use Rattle.lg_buf.specs.Buffers.{Buffer, place_of, place_or_zero, AreDone}
use Rattle.lg_cpu.specs.Laws.{AreBytes}
use Rattle.lg_node.specs.Nodes.{LabelledNodes}
use Rattle.lg_live.specs.Liveness.{LiveSets, AreLive}
use Rattle.lg_node.specs.Shapes.{TextShape}
use Rattle.lg_asm.specs.Lowered.{is_marked, ArePlaces, AreNodesCoded, IsFull, HasNoRoomFor, IsLowered, IsGiven}
use Rattle.lg_asm.proofs.parts.text_bytes.Goals as goal

tag-at : (labels : List (Option ℕ)) (x p : ℕ) → place_of labels x ≡ Some p → slice_index (map place_or_zero labels) x ≡ p
tag-at [] x p e = cc
tag-at (o ∷ os) zero p e = ap place_or_zero e
tag-at (o ∷ os) (suc x) p e = tag-at os x p e

-- what a finished buffer gives
given : (target : Target) (l : LabelledNodes) (shape : TextShape) (sets : LiveSets) (outward : ℕ → Bool) (size : ℕ) (places : List ℕ) (buf : Buffer) (bytes tags : List ℕ) → IsLowered target l shape sets outward places buf → buf.size ≡ size → length buf.bytes ≤ size
    → AreDone buf.labels buf.fixes (length buf.fixes) buf.bytes bytes → AreBytes bytes → tags ≡ map place_or_zero buf.labels → IsGiven target l shape sets outward size places tags bytes
given target l shape sets outward size places buf bytes tags low sized few done are is = record {
  small = let e = done.long in omega (arith, e, few);
  are_bytes = are;
  ordered = subst (ArePlaces l places) (sym done.long) low.ordered;
  count = ap length is ∙ (length-map buf.labels place_or_zero ∙ low.count);
  tagged = λ x i e. ap (λ t. slice_index t x) is ∙ tag-at buf.labels x (slice_index places i) (low.labels x i e);
  coded = λ addresses of. subst (λ k. AreNodesCoded target l shape sets outward k places addresses bytes) sized (low.coded bytes addresses are done of);
}

is-true : IsTrue true
is-true = refl

pub returns-clause-given : goal.returns-clause-given
returns-clause-given c =
    given c.args.target c.args.nodes.now c.args.shape.now c.args.live.now (is_marked c.args.nodes.now c.args.outward.now) c.args.size c.lower_with.new.places.items c.lower_with.new.buf c.finish-finished.result.bytes.items c.finish-finished.result.places.items
    (c.lower_with.ensures.lowered (subst IsTrue (sym c.if-not-lower_with.false) is-true))
    (c.lower_with.ensures.size ∙ c.in-Ok.ensures.bytes.1)
    (let w = c.here-end.ensures.within in let k = c.here-end.ensures.capacity in let z = c.lower_with.ensures.size in let e = c.in-Ok.ensures.bytes.1 in omega (arith, w, k, z, e))
    c.finish-finished.ensures.bytes c.see_bytes.ensures c.finish-finished.ensures.places

-- where the run over the nodes was full, they have no room: there was room for the whole size
full-for : (target : Target) (l : LabelledNodes) (shape : TextShape) (sets : LiveSets) (outward : ℕ → Bool) (room size : ℕ) (places : List ℕ) (buf : Buffer) → AreLive l shape sets → room ≤ size → (room < size → 256 * length l.nodes + 256 ≤ room)
    → buf.size ≡ size → buf.capacity ≡ room → IsFull target l shape sets outward places buf → (size < 256 * length l.nodes + 256) × HasNoRoomFor target l shape outward size
full-for target l shape sets outward room size places buf live within enough sized roomy full = (
  (let f = full.full in let g = full.few in let b = full.below in omega (arith, f, g, b, whole)),
  record { sets = sets; live = live; places = places; buf = buf; size_is = sized; capacity_is = whole; full = full },
) where
  whole : buf.capacity ≡ size
  whole = ⊎_elim
      (λ (less : room < size). let f = full.full in let g = full.few in let b = full.below in let e = enough less in absurd (omega (arith, f, g, b, e, roomy)))
      (λ (all : size ≤ room). omega (arith, all, within, roomy))
      (cases_lt room size)

pub returns-then-not-lower_with-clause-refused : goal.returns-then-not-lower_with-clause-refused
returns-then-not-lower_with-clause-refused c =
    let h = full-for c.args.target c.args.nodes.now c.args.shape.now c.args.live.now (is_marked c.args.nodes.now c.args.outward.now) c.room_for-room.result c.args.size c.lower_with.new.places.items c.lower_with.new.buf c.requires.live
    c.room_for-room.ensures.within (λ less. let e = c.room_for-room.ensures.enough less in let n = c.len-count.ensures in omega (arith, e, n)) (c.lower_with.ensures.size ∙ c.in-Ok.ensures.bytes.1) (c.lower_with.ensures.capacity ∙ c.in-Ok.ensures.bytes.2)
    (c.lower_with.ensures.refused c.if-not-lower_with.true) in
    (refl, h.0, h.1)
