-- The sets of registers that are live, and of those that are needed.
use Rattle.std.proofs.Common.{◌≡◌, ◌↔◌, ⊎_elim, ℕ, ◌+◌, ◌*◌, ◌<◌, ◌≤◌, Bool, true, List, [], ◌∷◌, ◌++◌, Some, refl, sym, ap, ◌∙◌, subst, length, take, arith}
use Rattle.std.specs.Prelude.{slice_get}
use Rattle.std.proofs.lemmas.Bool.{cases_lt}
use Rattle.std.proofs.lemmas.List.{get_or_append_left, get_or-take, length-take}
use Rattle.std.proofs.lemmas.Option.{slice_get_within, slice_get-get_or, get_or_from_slice_get, same_Some}
use Rattle.std.proofs.Math.ListN.{length-append}
use Rattle.lg_op.specs.declared.op.Op.{Op}
use Rattle.lg_op.specs.declared.operand.Reg.{Reg}
use Rattle.lg_node.specs.Nodes.{LabelledNodes}
use Rattle.lg_node.specs.Shapes.{TextShape}
use Rattle.lg_live.specs.RegSets.{has}
use Rattle.lg_live.specs.declared.reg_set.RegSet.{RegSet}
use Rattle.lg_live.specs.declared.definitions.Sought.TheVariants as sought
use Rattle.lg_live.specs.declared.point.Point.{Point}
use Rattle.lg_live.specs.Definitions.{feeding}
use Rattle.lg_live.specs.Graphs.{set_at, IsWantedAfter, AreWanted}
use Rattle.lg_live.specs.Liveness.{IsLive, IsLiveAfter, AreLive}
use Rattle.lg_live.specs.Liveness as live
use Rattle.lg_live.specs.Needs.{IsNeededBy, IsNeededAfter, AreNeeded}
use Rattle.lg_live.specs.Needs as need
use Rattle.lg_live.specs.Points.{ArePoints}
use Rattle.lg_live.proofs.LinkLemmas.{needed_is, needed_after_is}
use Rattle.lg_live.proofs.SearchLemmas.{zero_set, get_pushed}

-- what is needed where no operation reads only for what it writes is what is live
live_of : (l : LabelledNodes) (s : TextShape) (r : Reg) (i : ℕ) → IsNeededBy (feeding sought.Live) l s r i → IsLive l s r i
live_of l s r i (need.read_here r1 j n h e d) = live.read_here i n h e
live_of l s r i (need.read_for r1 q j k n h e w t v) = live.read_here i n h e
live_of l s r i (need.kept_to r1 j k n h w t v) = live.kept_to i k n h w t (live_of l s r k v)

needed_of : (l : LabelledNodes) (s : TextShape) (r : Reg) (i : ℕ) → IsLive l s r i → IsNeededBy (feeding sought.Live) l s r i
needed_of l s r i (live.read_here j n h e) = need.read_here r i n h e refl
needed_of l s r i (live.kept_to j k n h w t v) = need.kept_to r i k n h w t (needed_of l s r k v)

live_after_of : (l : LabelledNodes) (s : TextShape) (r : Reg) (i : ℕ) → IsNeededAfter (feeding sought.Live) l s r i ↔ IsLiveAfter l s r i
live_after_of l s r i = (
  (λ b. record { next = b.next; successor = b.successor; live = live_of l s r b.next b.needed }),
  (λ b. record { next = b.next; successor = b.successor; needed = needed_of l s r b.next b.live }),
)

abbrev pub IsBehind : List Point → RegSet → ℕ → Type 0
IsBehind points set i = (r : Reg) → (has set r ≡ true) ↔ IsWantedAfter points r i

-- the sets after the first points
pub record AreAfter (points : List Point) (sets : List RegSet) (count : ℕ) : Type 0 where
  pub many : length sets ≡ count
  pub each : (i : ℕ) (set : RegSet) → slice_get sets i ≡ Some set → IsBehind points set i

pub after_more : (points : List Point) (sets more : List RegSet) (count : ℕ) (set : RegSet) → AreAfter points sets count → IsBehind points set count → more ≡ sets ++ set ∷ [] → AreAfter points more (count + 1)
after_more points sets more count set a is e = rw e record {
  many = omega (arith, length-append sets (set ∷ []), a.many);
  each = λ i found b.
      ⊎_elim
      (λ (less : i < length sets). a.each i found (slice_get-get_or sets i found less ∙ ap Some (sym (get_or_append_left sets (set ∷ []) found i less) ∙ get_or_from_slice_get (sets ++ set ∷ []) i found found b)))
      (λ (more : length sets ≤ i).
      let lt : i < length (sets ++ set ∷ []) = slice_get_within (sets ++ set ∷ []) i found b in
      let this : i ≡ length sets = omega (arith, lt, length-append sets (set ∷ [])) in
      let same : set ≡ found = same_Some set found (sym (get_pushed sets set) ∙ ap (slice_get (sets ++ set ∷ [])) (sym this) ∙ b) in
      let P : ℕ → Type 0 = λ k. IsBehind points found k in
      let Q : RegSet → Type 0 = λ x. IsBehind points x count in
      subst P (sym (this ∙ a.many)) (subst Q same is))
      (cases_lt i (length sets));
}

-- the sets of the first points, which are the nodes
record AreBefore (feeding : Op → Bool) (l : LabelledNodes) (s : TextShape) (before : List RegSet) : Type 0 where
  count : length before ≡ length l.nodes
  exact : (i : ℕ) (set : RegSet) → slice_get before i ≡ Some set → (r : Reg) → (has set r ≡ true) ↔ IsNeededBy feeding l s r i

all_before : (feeding : Op → Bool) (l : LabelledNodes) (s : TextShape) (points : List Point) (count : ℕ) (sets before : List RegSet) → ArePoints feeding l s points → AreWanted points count sets → count ≡ 2 * length l.nodes → before ≡ take (length points) sets → AreBefore feeding l s before
all_before feeding l s points count sets before are wanted twice e = rw e record {
  count = omega (arith, length-take (length points) sets, are.count, wanted.all, twice);
  exact = λ i set h r.
      let lt = slice_get_within (take (length points) sets) i set h in
      let small : i < length l.nodes = omega (arith, length-take (length points) sets, are.count, wanted.all, lt) in
      let at : set_at sets i ≡ set = sym (get_or-take (length points) sets i zero_set (omega (arith, are.count))) ∙ get_or_from_slice_get (take (length points) sets) i set zero_set h in
      let is = needed_is feeding l s points are r i small in
      ((λ f. is.0 (wanted.sound i r (ap (λ (x : RegSet). has x r) at ∙ f))), (λ v. ap (λ (x : RegSet). has x r) (sym at) ∙ wanted.complete i r (is.1 v)));
}

pub all_needed : (l : LabelledNodes) (s : TextShape) (points : List Point) (count : ℕ) (sets before : List RegSet) → ArePoints (feeding sought.Needed) l s points → AreWanted points count sets → count ≡ 2 * length l.nodes → before ≡ take (length points) sets → AreNeeded l s before
all_needed l s points count sets before are wanted twice e =
    let b = all_before (feeding sought.Needed) l s points count sets before are wanted twice e in
    record { count = b.count; exact = λ i set h r. b.exact i set h r }

pub all_live : (l : LabelledNodes) (s : TextShape) (points : List Point) (count : ℕ) (sets before behind : List RegSet) → ArePoints (feeding sought.Live) l s points → AreWanted points count sets → count ≡ 2 * length l.nodes → before ≡ take (length points) sets → AreAfter points behind (length points) → AreLive l s record { before = before; behind = behind }
all_live l s points count sets before behind are wanted twice e b =
    let a = all_before (feeding sought.Live) l s points count sets before are wanted twice e in
    record {
      before_count = a.count;
      after_count = b.many ∙ are.count;
      before = λ i set h r. let is = a.exact i set h r in ((λ f. live_of l s r i (is.0 f)), (λ v. is.1 (needed_of l s r i v)));
      behind = λ i set h r.
          let lt = slice_get_within behind i set h in
          let is = needed_after_is (feeding sought.Live) l s points are r i (omega (arith, b.many, are.count, lt)) in
          let at = b.each i set h r in
          let of = live_after_of l s r i in
          ((λ f. of.0 (is.0 (at.0 f))), (λ v. at.1 (is.1 (of.1 v))));
    }
