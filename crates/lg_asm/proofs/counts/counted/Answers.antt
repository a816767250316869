use Rattle.std.proofs.Common.{◌≡◌, ◌≤◌, ◌+◌, ◌<◌, ◌∙◌, ℕ, List, [], ◌∷◌, ◌++◌, ap, sym, subst, length, arith}
use Rattle.lg_live.specs.Liveness.{LiveSets}
use Rattle.lg_base.specs.declared.target.Target.{Target}
use Rattle.lg_node.specs.Checks.{IsAccepted}
use Rattle.lg_node.specs.Nodes.{LabelledNodes}
use Rattle.lg_asm.proofs.CountLemmas.{AreCounted, none-counted, one-counted}
use Rattle.lg_asm.proofs.WellLemmas.{pushed-few}
use Rattle.lg_asm.proofs.counts.counted.Goals as goal

few : (target : Target) (l : LabelledNodes) (sets : LiveSets) (xs : List ℕ) (passed saved i : ℕ) → IsAccepted l → i < length l.nodes → AreCounted target l sets xs passed saved i → passed ≤ 16
few target l sets xs passed saved i accepted lt a = let f = pushed-few l accepted i (omega (arith, lt)) in let e = a.before in omega (arith, e, f)

pub nodes-init : goal.nodes-init
nodes-init c = none-counted c.args.target c.args.nodes.now c.args.live.now c.in_ok-list.list.items c.in_ok-list.ensures.items

pub saved_at-requires : goal.saved_at-requires
saved_at-requires c = record {
  index = let lt = c.nodes-test.true in let e = c.len-index-end.ensures in omega (arith, lt, e);
  live = c.requires.live;
  passed = c.nodes.invariant.before;
  few = few c.args.target c.args.nodes.now c.args.live.now c.nodes.list.items c.nodes.passed c.nodes.saved c.nodes.index c.requires.accepted (let lt = c.nodes-test.true in let e = c.len-index-end.ensures in omega (arith, lt, e)) c.nodes.invariant;
}

pub overflow_cast-passed : goal.overflow_cast-passed
overflow_cast-passed c =
    let f = few c.args.target c.args.nodes.now c.args.live.now c.nodes.list.items c.nodes.passed c.nodes.saved c.nodes.index c.requires.accepted (let lt = c.nodes-test.true in let e = c.len-index-end.ensures in omega (arith, lt, e)) c.nodes.invariant in omega (arith, f)

pub pushed_after-passed-requires : goal.pushed_after-passed-requires
pushed_after-passed-requires c =
    few c.args.target c.args.nodes.now c.args.live.now c.nodes.list.items c.nodes.passed c.nodes.saved c.nodes.index c.requires.accepted (let lt = c.nodes-test.true in let e = c.len-index-end.ensures in omega (arith, lt, e)) c.nodes.invariant

pub nodes-preserved : goal.nodes-preserved
nodes-preserved c =
    subst (λ xs. AreCounted c.args.target c.args.nodes.now c.args.live.now xs c.pushed_after-passed.result c.in-Some.more (c.nodes.index + 1)) (sym (c.in_ok-push.ensures.items))
    (subst (λ k. AreCounted c.args.target c.args.nodes.now c.args.live.now (c.nodes.list.items ++ c.nodes.passed ∷ []) k c.in-Some.more (c.nodes.index + 1)) (sym c.pushed_after-passed.ensures)
    (one-counted c.args.target c.args.nodes.now c.args.live.now c.nodes.list.items c.nodes.passed c.nodes.saved c.nodes.index c.node.result c.in-Some.more c.requires.accepted
    (let lt = c.nodes-test.true in let e = c.len-index-end.ensures in omega (arith, lt, e)) c.nodes.invariant (sym c.node.ensures.node)
    (sum c.nodes.saved c.saved_at.result c.in-Some.more (grind (arith, c.in-Some.ensures)) ∙ ap (λ k. c.nodes.saved + k) c.saved_at.ensures)))
  where
    sum : (a b x : ℕ) → x ≡ a + b → x ≡ a + b
    sum a b x e = e
