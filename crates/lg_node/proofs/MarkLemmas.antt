-- What is known within a function stays after an operation that is no mark.
use Rattle.std.proofs.Common.{◌≡◌, ℕ, ◌+◌, Bool, true, false, ◌||◌, cond, List, Option, Some, None, is_some, refl, sym, ap, ◌∙◌, arith}
use Rattle.std.specs.Prelude.{if◌then◌else◌}
use Rattle.std.proofs.Math.Bool.{or-false}
use Rattle.lg_op.specs.declared.node.Node.{Node}
use Rattle.lg_op.specs.declared.op.Op.{Op}
use Rattle.lg_op.specs.declared.op.Op.TheVariants as op
use Rattle.lg_op.specs.declared.operand.Operand.{Operand}
use Rattle.lg_node.specs.declared.preparation.Preparation.{Preparation}
use Rattle.lg_node.specs.declared.walk.Walk.{Walk}
use Rattle.lg_node.specs.Functions.{is_prolog, home_of, open_after, local_of, local_size}
use Rattle.lg_node.specs.Preparations.{prepared_after, varies_after}
use Rattle.lg_node.specs.Checks.{is_arg}
use Rattle.lg_node.specs.Walks.{is_mark, walk_after}

pub inner : (p i : ℕ) (call : Option Preparation) (varies : Bool) (xs : List Operand) (o : Op) → is_mark o ≡ false
    → (open_after (home_of (Some p) i o) o ≡ Some p) × (is_prolog o ≡ false) × (is_arg o ≡ false) × (local_of o xs ≡ 0) × (prepared_after call o ≡ call) × (varies_after varies call o ≡ varies)
inner p i (Some x) varies xs (op.Binary a b) e = (refl, refl, refl, refl, refl, refl)
inner p i (Some x) varies xs (op.Wide a b) e = (refl, refl, refl, refl, refl, refl)
inner p i (Some x) varies xs (op.Branch a b) e = (refl, refl, refl, refl, refl, refl)
inner p i (Some x) varies xs (op.BranchSum a b) e = (refl, refl, refl, refl, refl, refl)
inner p i (Some x) varies xs (op.Unary a) e = (refl, refl, refl, refl, refl, refl)
inner p i (Some x) varies xs (op.Load a b) e = (refl, refl, refl, refl, refl, refl)
inner p i (Some x) varies xs (op.Store a b) e = (refl, refl, refl, refl, refl, refl)
inner p i (Some x) varies xs (op.Retval a) e = (refl, refl, refl, refl, refl, refl)
inner p i (Some x) varies xs (op.Getarg a) e = (refl, refl, refl, refl, refl, refl)
inner p i call varies xs (op.Plain a) e = cc
inner p i call varies xs (op.Control a b) e = cc
inner p i None varies xs other e = (refl, refl, refl, refl, refl, refl)

abbrev known : Option ℕ → Bool → ℕ → ℕ → Option Preparation → Bool → Walk
known function begun args locals call varies = record { function = function; begun = begun; args = args; locals = locals; call = call; varies = varies }

-- the parts of what is known after a node
same : (w : Walk) (p : ℕ) (function : Option ℕ) (prolog arg : Bool) (size : ℕ) (call : Option Preparation) (varies : Bool)
    → w.function ≡ Some p → function ≡ Some p → prolog ≡ false → arg ≡ false → size ≡ 0 → call ≡ w.call → varies ≡ w.varies
    → known function (w.begun || prolog) (if is_some function then w.args + cond arg 1 0 else 0) (if is_some function then w.locals + size else 0) call varies ≡ w
same w p function prolog arg size call varies f a b c d e g =
    let args : w.args + 0 ≡ w.args = omega arith in
    let locals : w.locals + 0 ≡ w.locals = omega arith in
    ap (λ k. known k (w.begun || prolog) (if is_some k then w.args + cond arg 1 0 else 0) (if is_some k then w.locals + size else 0) call varies) a
    ∙ ap (λ k. known (Some p) (w.begun || k) (w.args + cond arg 1 0) (w.locals + size) call varies) b
    ∙ ap (λ k. known (Some p) k (w.args + cond arg 1 0) (w.locals + size) call varies) (or-false w.begun)
    ∙ ap (λ k. known (Some p) w.begun (w.args + cond k 1 0) (w.locals + size) call varies) c
    ∙ ap (λ k. known (Some p) w.begun k (w.locals + size) call varies) args
    ∙ ap (λ k. known (Some p) w.begun w.args (w.locals + k) call varies) d
    ∙ ap (λ k. known (Some p) w.begun w.args k call varies) locals
    ∙ ap (λ k. known (Some p) w.begun w.args w.locals k varies) e
    ∙ ap (λ k. known (Some p) w.begun w.args w.locals w.call k) g
    ∙ ap (λ k. known k w.begun w.args w.locals w.call w.varies) (sym f)

stays : (w : Walk) (i p : ℕ) (n : Node) → w.function ≡ Some p → is_mark n.op ≡ false → walk_after w i n ≡ w
stays w i p n f e =
    let t = inner p i w.call w.varies n.operands n.op e in
    same w p (open_after (home_of w.function i n.op) n.op) (is_prolog n.op) (is_arg n.op) (local_size n) (prepared_after w.call n.op) (varies_after w.varies w.call n.op)
    f (ap (λ h. open_after (home_of h i n.op) n.op) f ∙ t.0) t.1 t.2 t.3 t.4 t.5

pub unmarked : (w : Walk) (i : ℕ) (n : Node) → is_some w.function ≡ true → is_mark n.op ≡ false → w ≡ walk_after w i n
unmarked w i n some e = by w.function refl some
  where
    by : (h : Option ℕ) → w.function ≡ h → is_some h ≡ true → w ≡ walk_after w i n
    by None f s = cc
    by (Some p) f s = sym (stays w i p n f e)
