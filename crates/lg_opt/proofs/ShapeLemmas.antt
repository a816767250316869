-- What is known before each node where nodes were dropped that begin and end no function and prepare nothing.
use Rattle.std.proofs.Common.{◌≡◌, ℕ, zero, suc, ◌+◌, ◌≤◌, Bool, true, false, ◌||◌, cond, List, Option, Some, None, is_some, length, refl, sym, ap, ◌∙◌, arith, add-one, add-zero}
use Rattle.std.specs.Prelude.{if◌then◌else◌, slice_get}
use Rattle.std.specs.List.{count_by, sum_by}
use Rattle.std.specs.Option.{option_map}
use Rattle.std.proofs.Math.Bool.{or-false}
use Rattle.lg_op.specs.declared.node.Node.{Node}
use Rattle.lg_op.specs.declared.op.Op.{Op}
use Rattle.lg_op.specs.declared.op.Op.TheVariants as op
use Rattle.lg_op.specs.declared.op.ControlOp.TheVariants as control
use Rattle.lg_op.specs.declared.op.LastOperand.TheVariants as last_operand
use Rattle.lg_op.specs.declared.op.PlainOp.TheVariants as plains
use Rattle.lg_op.specs.declared.operand.Label.{Label}
use Rattle.lg_op.specs.declared.operand.Operand.{Operand}
use Rattle.lg_node.specs.declared.preparation.Preparation.{Preparation}
use Rattle.lg_node.specs.declared.walk.Walk.{Walk}
use Rattle.lg_node.specs.Nodes.{LabelledNodes}
use Rattle.lg_node.specs.Checks.{is_arg, is_arg_node, is_begun, args_before, locals_before}
use Rattle.lg_node.specs.Functions.{is_prolog, is_epilog, home_of, open_after, open_before, home, since, local_of, local_size}
use Rattle.lg_node.specs.Preparations.{prepared_after, prepared_before, varies_after, varies_before}
use Rattle.lg_node.specs.Walks.{walk_at, walk_after}
use Rattle.lg_node.proofs.FunctionLaws.{node_within}
use Rattle.lg_node.proofs.WalkLemmas.{home_here, walk_start, walk_on}
use Rattle.lg_opt.specs.Remaining.{new_number, retargeted, rewritten, may_go, IsRewriting}
use Rattle.lg_opt.proofs.RemainingLemmas.{number-zero, number-stays, number-goes}
use Rattle.lg_opt.proofs.MovedLemmas.{same-op, same-size, stands}

-- what is known after an operation with a local of this size
abbrev after : Option ℕ → Walk → Op → ℕ → Walk
after f w p size = record {
  function = f;
  begun = w.begun || is_prolog p;
  args = if is_some f then w.args + cond (is_arg p) 1 0 else 0;
  locals = if is_some f then w.locals + size else 0;
  call = prepared_after w.call p;
  varies = varies_after w.varies w.call p;
}

abbrev built : Option ℕ → Bool → ℕ → ℕ → Option Preparation → Bool → Walk
built f b a s c v = record { function = f; begun = b; args = a; locals = s; call = c; varies = v }

built-same : (f g : Option ℕ) (b d : Bool) (a e s t : ℕ) (c : Option Preparation) (y : Bool) → f ≡ g → b ≡ d → a ≡ e → s ≡ t → built f b a s c y ≡ built g d e t c y
built-same f g b d a e s t c y p q r v = ap (λ x. built x b a s c y) p ∙ ap (λ x. built g x a s c y) q ∙ ap (λ x. built g d x s c y) r ∙ ap (λ x. built g d e x c y) v

-- a node that may be dropped begins and ends no function, and has no local and no argument
record IsPlain (p : Op) (xs : List Operand) : Type 0 where
  prolog : is_prolog p ≡ false
  epilog : is_epilog p ≡ false
  arg : is_arg p ≡ false
  local : local_of p xs ≡ 0
  call : (c : Option Preparation) → prepared_after c p ≡ c
  varies : (v : Bool) (c : Option Preparation) → varies_after v c p ≡ v

plain : (p : Op) (xs : List Operand) → may_go p ≡ true → IsPlain p xs
plain (op.Binary o last) xs e = record { prolog = refl; epilog = refl; arg = refl; local = refl; call = λ c. same c; varies = λ v c. as-before v c }
  where
    as-before : (v : Bool) (c : Option Preparation) → varies_after v c (op.Binary o last) ≡ v
    as-before v None = refl
    as-before v (Some c) = refl

    same : (c : Option Preparation) → prepared_after c (op.Binary o last) ≡ c
    same None = refl
    same (Some c) = refl
plain (op.Wide o last) xs e = record { prolog = refl; epilog = refl; arg = refl; local = refl; call = λ c. same c; varies = λ v c. as-before v c }
  where
    as-before : (v : Bool) (c : Option Preparation) → varies_after v c (op.Wide o last) ≡ v
    as-before v None = refl
    as-before v (Some c) = refl

    same : (c : Option Preparation) → prepared_after c (op.Wide o last) ≡ c
    same None = refl
    same (Some c) = refl
plain (op.Unary o) xs e = record { prolog = refl; epilog = refl; arg = refl; local = refl; call = λ c. same c; varies = λ v c. as-before v c }
  where
    as-before : (v : Bool) (c : Option Preparation) → varies_after v c (op.Unary o) ≡ v
    as-before v None = refl
    as-before v (Some c) = refl

    same : (c : Option Preparation) → prepared_after c (op.Unary o) ≡ c
    same None = refl
    same (Some c) = refl
plain (op.Plain plains.Movi) xs e = record { prolog = refl; epilog = refl; arg = refl; local = refl; call = λ c. same c; varies = λ v c. as-before v c }
  where
    as-before : (v : Bool) (c : Option Preparation) → varies_after v c (op.Plain plains.Movi) ≡ v
    as-before v None = refl
    as-before v (Some c) = refl

    same : (c : Option Preparation) → prepared_after c (op.Plain plains.Movi) ≡ c
    same None = refl
    same (Some c) = refl
plain (op.Load ty at) xs e = record { prolog = refl; epilog = refl; arg = refl; local = refl; call = λ c. same c; varies = λ v c. as-before v c }
  where
    as-before : (v : Bool) (c : Option Preparation) → varies_after v c (op.Load ty at) ≡ v
    as-before v None = refl
    as-before v (Some c) = refl

    same : (c : Option Preparation) → prepared_after c (op.Load ty at) ≡ c
    same None = refl
    same (Some c) = refl
plain (op.Retval ty) xs e = record { prolog = refl; epilog = refl; arg = refl; local = refl; call = λ c. same c; varies = λ v c. as-before v c }
  where
    as-before : (v : Bool) (c : Option Preparation) → varies_after v c (op.Retval ty) ≡ v
    as-before v None = refl
    as-before v (Some c) = refl

    same : (c : Option Preparation) → prepared_after c (op.Retval ty) ≡ c
    same None = refl
    same (Some c) = refl
plain (op.Getarg ty) xs e = record { prolog = refl; epilog = refl; arg = refl; local = refl; call = λ c. same c; varies = λ v c. as-before v c }
  where
    as-before : (v : Bool) (c : Option Preparation) → varies_after v c (op.Getarg ty) ≡ v
    as-before v None = refl
    as-before v (Some c) = refl

    same : (c : Option Preparation) → prepared_after c (op.Getarg ty) ≡ c
    same None = refl
    same (Some c) = refl
plain (op.Control control.Jmp last_operand.Immediate) xs e = record { prolog = refl; epilog = refl; arg = refl; local = refl; call = λ c. same c; varies = λ v c. as-before v c }
  where
    as-before : (v : Bool) (c : Option Preparation) → varies_after v c (op.Control control.Jmp last_operand.Immediate) ≡ v
    as-before v None = refl
    as-before v (Some c) = refl

    same : (c : Option Preparation) → prepared_after c (op.Control control.Jmp last_operand.Immediate) ≡ c
    same None = refl
    same (Some c) = refl
plain p xs e = cc

pub goes-no-prolog : (p : Op) → may_go p ≡ true → is_prolog p ≡ false
goes-no-prolog (op.Binary o last) e = refl
goes-no-prolog (op.Wide o last) e = refl
goes-no-prolog (op.Unary o) e = refl
goes-no-prolog (op.Plain plains.Movi) e = refl
goes-no-prolog (op.Load v at) e = refl
goes-no-prolog (op.Retval v) e = refl
goes-no-prolog (op.Getarg v) e = refl
goes-no-prolog (op.Control control.Jmp last_operand.Immediate) e = refl
goes-no-prolog p e = cc

pub goes-no-epilog : (p : Op) → may_go p ≡ true → is_epilog p ≡ false
goes-no-epilog (op.Binary o last) e = refl
goes-no-epilog (op.Wide o last) e = refl
goes-no-epilog (op.Unary o) e = refl
goes-no-epilog (op.Plain plains.Movi) e = refl
goes-no-epilog (op.Load v at) e = refl
goes-no-epilog (op.Retval v) e = refl
goes-no-epilog (op.Getarg v) e = refl
goes-no-epilog (op.Control control.Jmp last_operand.Immediate) e = refl
goes-no-epilog p e = cc

-- so it changes nothing of what is known
unchanged : (w : Walk) (i : ℕ) (p : Op) (xs : List Operand) → IsPlain p xs → (w.function ≡ None → (w.args ≡ 0) × (w.locals ≡ 0)) → after (open_after (home_of w.function i p) p) w p (local_of p xs) ≡ w
unchanged w i p xs h none =
    built-same _ w.function _ w.begun _ w.args _ w.locals (prepared_after w.call p) (varies_after w.varies w.call p) same-open (ap (λ b. w.begun || b) h.prolog ∙ or-false w.begun) (args w.function refl) (locals w.function refl)
    ∙ ap (λ c. built w.function w.begun w.args w.locals c (varies_after w.varies w.call p)) (h.call w.call)
    ∙ ap (built w.function w.begun w.args w.locals w.call) (h.varies w.varies w.call)
  where
    open-of : (f : Option ℕ) → home_of f i p ≡ f
    open-of None = ap (λ b. if b then Some i else None) h.prolog
    open-of (Some q) = refl

    same-open : open_after (home_of w.function i p) p ≡ w.function
    same-open = ap (λ b. if b then None else home_of w.function i p) h.epilog ∙ open-of w.function

    args : (f : Option ℕ) → w.function ≡ f → (if is_some (open_after (home_of w.function i p) p) then w.args + cond (is_arg p) 1 0 else 0) ≡ w.args
    args None e = ap (λ o. if is_some o then w.args + cond (is_arg p) 1 0 else 0) (same-open ∙ e) ∙ sym (none e).0
    args (Some q) e = ap (λ o. if is_some o then w.args + cond (is_arg p) 1 0 else 0) (same-open ∙ e) ∙ ap (λ b. w.args + cond b 1 0) h.arg ∙ add-zero w.args

    locals : (f : Option ℕ) → w.function ≡ f → (if is_some (open_after (home_of w.function i p) p) then w.locals + local_of p xs else 0) ≡ w.locals
    locals None e = ap (λ o. if is_some o then w.locals + local_of p xs else 0) (same-open ∙ e) ∙ sym (none e).1
    locals (Some q) e = ap (λ o. if is_some o then w.locals + local_of p xs else 0) (same-open ∙ e) ∙ ap (λ s. w.locals + s) h.local ∙ add-zero w.locals

pub walk-stood : (nodes : List Node) (i : ℕ) (n : Node) → slice_get nodes i ≡ Some n → may_go n.op ≡ true → walk_at nodes (i + 1) ≡ walk_at nodes i
walk-stood nodes i n e may = sym (walk_on nodes i n e) ∙ unchanged (walk_at nodes i) i n.op n.operands (plain n.op n.operands may)
    (λ o. (ap (λ f. count_by is_arg_node (since nodes f i)) o, ap (λ f. sum_by local_size (since nodes f i)) o))

module _ (nu : ℕ → ℕ) where
  abbrev pub moved-walk : Walk → Walk
  moved-walk w = record w { function = option_map nu w.function }

  pub home-of-moved : (o : Option ℕ) (i : ℕ) (p : Op) → home_of (option_map nu o) (nu i) p ≡ option_map nu (home_of o i p)
  home-of-moved (Some q) i p = refl
  home-of-moved None i p = by (is_prolog p)
    where
      by : (b : Bool) → (if b then Some (nu i) else None) ≡ option_map nu (if b then Some i else None)
      by true = refl
      by false = refl

  after-moved : (o : Option ℕ) (p : Op) → open_after (option_map nu o) p ≡ option_map nu (open_after o p)
  after-moved o p = by (is_epilog p)
    where
      by : (b : Bool) → (if b then None else option_map nu o) ≡ option_map nu (if b then None else o)
      by true = refl
      by false = refl

  went : (w : Walk) (i : ℕ) (n k : Node) → k.op ≡ n.op → local_size k ≡ local_size n → walk_after (moved-walk w) (nu i) k ≡ moved-walk (walk_after w i n)
  went w i n k same size =
      ap (λ p. after (open_after (home_of (option_map nu w.function) (nu i) p) p) w p (local_size k)) same
      ∙ ap (λ s. after (open_after (home_of (option_map nu w.function) (nu i) n.op) n.op) w n.op s) size
      ∙ ap (λ f. after f w n.op (local_size n)) (ap (λ o. open_after o n.op) (home-of-moved w.function i n.op) ∙ after-moved (home_of w.function i n.op) n.op)
      ∙ by (open_after (home_of w.function i n.op) n.op)
    where
      by : (f : Option ℕ) → after (option_map nu f) w n.op (local_size n) ≡ moved-walk (after f w n.op (local_size n))
      by None = refl
      by (Some q) = refl

module _ (l : LabelledNodes) (stays : ℕ → Bool) (targets : ℕ → Option Label) (r : IsRewriting l stays targets) where
  abbrev m : LabelledNodes
  m = rewritten l stays targets

  abbrev nu : ℕ → ℕ
  nu = new_number stays

  pub walk-moved : (i : ℕ) → i ≤ length l.nodes → walk_at (rewritten l stays targets).nodes (new_number stays i) ≡ moved-walk (new_number stays) (walk_at l.nodes i)
  walk-moved zero le = ap (walk_at m.nodes) (number-zero stays) ∙ walk_start m.nodes ∙ ap (moved-walk nu) (sym (walk_start l.nodes))
  walk-moved (suc i) le = by (stays i) refl (node_within l.nodes i (omega arith)) (walk-moved i (omega arith))
    where
      by : (b : Bool) → stays i ≡ b → (n : Node) × (slice_get l.nodes i ≡ Some n) → walk_at m.nodes (nu i) ≡ moved-walk nu (walk_at l.nodes i) → walk_at m.nodes (nu (suc i)) ≡ moved-walk nu (walk_at l.nodes (suc i))
      by true s n h =
          let k = retargeted (targets i) n.0 in
          let size = same-size (targets i) n.0 (λ y e. (r.leads i n.0 y n.1 e).0) in
          ap (walk_at m.nodes) (number-stays stays i s)
          ∙ sym (walk_on m.nodes (nu i) k (stands l stays targets i n.0 n.1 s))
          ∙ ap (λ w. walk_after w (nu i) k) h
          ∙ went nu (walk_at l.nodes i) i n.0 k (same-op (targets i) n.0) size
          ∙ ap (moved-walk nu) (walk_on l.nodes i n.0 n.1 ∙ ap (walk_at l.nodes) (add-one i))
      by false s n h =
          ap (walk_at m.nodes) (number-goes stays i s) ∙ h
          ∙ ap (moved-walk nu) (sym (walk-stood l.nodes i n.0 n.1 (r.goes i n.0 n.1 s)) ∙ ap (walk_at l.nodes) (add-one i))

  pub open-moved : (i : ℕ) → i ≤ length l.nodes → open_before (rewritten l stays targets).nodes (new_number stays i) ≡ option_map (new_number stays) (open_before l.nodes i)
  open-moved i le = ap (λ w. w.function) (walk-moved i le)

  pub begun-moved : (i : ℕ) → i ≤ length l.nodes → is_begun (rewritten l stays targets).nodes (new_number stays i) ≡ is_begun l.nodes i
  begun-moved i le = ap (λ w. w.begun) (walk-moved i le)

  pub args-moved : (i : ℕ) → i ≤ length l.nodes → args_before (rewritten l stays targets).nodes (new_number stays i) ≡ args_before l.nodes i
  args-moved i le = ap (λ w. w.args) (walk-moved i le)

  pub locals-moved : (i : ℕ) → i ≤ length l.nodes → locals_before (rewritten l stays targets).nodes (new_number stays i) ≡ locals_before l.nodes i
  locals-moved i le = ap (λ w. w.locals) (walk-moved i le)

  pub prepared-moved : (i : ℕ) → i ≤ length l.nodes → prepared_before (rewritten l stays targets).nodes (new_number stays i) ≡ prepared_before l.nodes i
  prepared-moved i le = ap (λ w. w.call) (walk-moved i le)

  pub varies-moved : (i : ℕ) → i ≤ length l.nodes → varies_before (rewritten l stays targets).nodes (new_number stays i) ≡ varies_before l.nodes i
  varies-moved i le = ap (λ w. w.varies) (walk-moved i le)

  -- a node that stays is one of the same function
  pub home-moved : (i : ℕ) (n : Node) → slice_get l.nodes i ≡ Some n → i ≤ length l.nodes → stays i ≡ true → home (rewritten l stays targets).nodes (new_number stays i) ≡ option_map (new_number stays) (home l.nodes i)
  home-moved i n e le s =
      home_here m.nodes (nu i) (retargeted (targets i) n) (stands l stays targets i n e s)
      ∙ ap (home_of (open_before m.nodes (nu i)) (nu i)) (same-op (targets i) n)
      ∙ ap (λ o. home_of o (nu i) n.op) (open-moved i le)
      ∙ home-of-moved nu (open_before l.nodes i) i n.op
      ∙ ap (option_map nu) (sym (home_here l.nodes i n e))
