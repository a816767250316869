use Rattle.std.proofs.Common.{◌≡◌, ◌∙◌, ap, ◌<◌, ◌+◌, ◌++◌, ◌∷◌, [], ℕ, List, true, Some, inl, inr, length, sym, subst, arith}
use Rattle.std.specs.Prelude.{slice_set, ◌||◌}
use Rattle.lg_op.specs.declared.operand.Reg.{Reg}
use Rattle.lg_live.specs.RegSets.{has}
use Rattle.lg_live.specs.Graphs.{point_at, passes, set_at}
use Rattle.lg_live.specs.Searches.{state_of, IsSound, AreWantedAt, IsSwept}
use Rattle.lg_live.proofs.SweepLemmas.{settled_by, queued_more, queued_here, within_more}
use Rattle.lg_live.proofs.search.settle.Goals as goal

pub returns-in_ok-push : goal.returns-in_ok-push
returns-in_ok-push c =
    let points = c.args.points.now in
    let s = state_of c.args.search.now in
    let p = c.args.index in
    let count = length c.args.search.now.sets.items in
    let lt : p < count = omega (arith, c.requires.point, c.requires.within.few) in
    let P : List ℕ → Type 0 = λ q. IsSwept points count p record { sets = slice_set s.sets p c.union-set.result; queue = q } in
    subst P (sym c.in_ok-push.ensures.items)
    (settled_by points count p s c.wanted_by_fall-fall.result c.wanted_by_jump-jump.result c.union.result c.union-set.result (s.queue ++ p ∷ []) c.requires.swept lt
    c.union.ensures.registers (λ r. c.union-set.ensures.registers r ∙ ap (λ b. b || has c.union.result r) (c.reads.ensures r))
    (subst (λ xs. (point_at points p).falls ≡ true → (r : Reg) → passes (point_at points p) (has (set_at xs (p + 1))) r ≡ true → has c.wanted_by_fall-fall.result r ≡ true) c.deref.ensures.value c.wanted_by_fall-fall.ensures.passed)
    (subst (λ xs. (k : ℕ) → (point_at points p).jumps ≡ Some k → (r : Reg) → passes (point_at points p) (has (set_at xs k)) r ≡ true → has c.wanted_by_jump-jump.result r ≡ true) c.deref-2.ensures.value c.wanted_by_jump-jump.ensures.passed)
    (subst (λ xs. IsSound points record { sets = xs; queue = [] } → AreWantedAt points c.wanted_by_fall-fall.result p) c.deref.ensures.value c.wanted_by_fall-fall.ensures.sound)
    (subst (λ xs. IsSound points record { sets = xs; queue = [] } → AreWantedAt points c.wanted_by_jump-jump.result p) c.deref-2.ensures.value c.wanted_by_jump-jump.ensures.sound)
    (within_more count p s.queue lt c.requires.swept.within) (queued_more s.queue p) (inl (queued_here s.queue p)))

pub returns-else-is_met : goal.returns-else-is_met
returns-else-is_met c =
    let points = c.args.points.now in
    let s = state_of c.args.search.now in
    let p = c.args.index in
    let count = length c.args.search.now.sets.items in
    let lt : p < count = omega (arith, c.requires.point, c.requires.within.few) in
    settled_by points count p s c.wanted_by_fall-fall.result c.wanted_by_jump-jump.result c.union.result c.union-set.result s.queue c.requires.swept lt
    c.union.ensures.registers (λ r. c.union-set.ensures.registers r ∙ ap (λ b. b || has c.union.result r) (c.reads.ensures r))
    (subst (λ xs. (point_at points p).falls ≡ true → (r : Reg) → passes (point_at points p) (has (set_at xs (p + 1))) r ≡ true → has c.wanted_by_fall-fall.result r ≡ true) c.deref.ensures.value c.wanted_by_fall-fall.ensures.passed)
    (subst (λ xs. (k : ℕ) → (point_at points p).jumps ≡ Some k → (r : Reg) → passes (point_at points p) (has (set_at xs k)) r ≡ true → has c.wanted_by_jump-jump.result r ≡ true) c.deref-2.ensures.value c.wanted_by_jump-jump.ensures.passed)
    (subst (λ xs. IsSound points record { sets = xs; queue = [] } → AreWantedAt points c.wanted_by_fall-fall.result p) c.deref.ensures.value c.wanted_by_fall-fall.ensures.sound)
    (subst (λ xs. IsSound points record { sets = xs; queue = [] } → AreWantedAt points c.wanted_by_jump-jump.result p) c.deref-2.ensures.value c.wanted_by_jump-jump.ensures.sound)
    c.requires.swept.within (λ k q. q) (inr (c.is_met.ensures c.if-is_met.false))
