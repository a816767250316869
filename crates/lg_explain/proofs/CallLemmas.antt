-- A call that is being prepared; it is only known whether an `ellipsis` came.
use Rattle.std.proofs.Common.{◌≡◌, ℕ, zero, suc, ◌+◌, ◌<◌, Bool, true, false, ◌||◌, List, [], ◌∷◌, Option, Some, None, is_some, length, refl, sym, ap, ◌∙◌, arith}
use Rattle.std.specs.Prelude.{slice_get, slice_index_or, if◌then◌else◌, IfSome, IfNone}
use Rattle.std.specs.List.{list_any, position, position_or_len}
use Rattle.std.specs.Option.{option_map}
use Rattle.std.proofs.lemmas.Grind.{common_steps}
use Rattle.std.proofs.lemmas.List.Sums.{position_or_len_is}
use Rattle.lg_op.specs.declared.node.Node.{Node}
use Rattle.lg_op.specs.declared.op.Op.{Op}
use Rattle.lg_op.specs.declared.op.Op.TheVariants.{Binary, Control, Plain}
use Rattle.lg_op.specs.declared.op.ControlOp.TheVariants as control
use Rattle.lg_op.specs.declared.op.PlainOp.TheVariants as plain
use Rattle.lg_op.specs.declared.operand.Label.{Label}
use Rattle.lg_node.specs.Checks.{is_bad_call}
use Rattle.lg_node.specs.Labels.{is_at, is_labelled}
use Rattle.lg_node.specs.Nodes.{LabelledNodes}
use Rattle.lg_node.specs.NextLabels.{NextAt, NoneAt}
use Rattle.lg_node.specs.Preparations.{prepared_before, prepared_after, variadic, variadic_of, varies_before, varies_after}
use Rattle.lg_node.specs.declared.place.Place.{Place}
use Rattle.lg_node.specs.declared.preparation.Preparation.{Preparation}
use Rattle.lg_node.proofs.WalkLemmas.{prepared_on, prepared_start, varies_on}
use Rattle.lg_explain.specs.Blames.{bad_call_at, label_at, label_between}
use Rattle.lg_explain.specs.Calls.{is_bad, variadic_after, varies_by}

pub bad_is : (p : Option Preparation) (varies labelled : Bool) (op : Op) → is_bad_call p varies labelled op ≡ is_bad (variadic_of p) varies labelled op
bad_is None varies labelled op = refl
bad_is (Some call) varies labelled op = refl

after_is : (p : Option Preparation) (op : Op) → variadic_of (prepared_after p op) ≡ variadic_after (variadic_of p) op
after_is None (Binary o last) = refl
after_is None (Control control.Jmp last) = refl
after_is None (Plain plain.Movi) = refl
after_is (Some call) (Binary o last) = refl
after_is (Some call) (Control control.Jmp last) = refl
after_is (Some call) (Plain plain.Movi) = refl
after_is _ _ = refl

varies_is : (varies : Bool) (p : Option Preparation) (op : Op) → varies_after varies p op ≡ varies_by varies (variadic_of p) op
varies_is varies None (Binary o last) = refl
varies_is varies None (Control control.Jmp last) = refl
varies_is varies None (Plain plain.Movi) = refl
varies_is varies (Some call) (Binary o last) = refl
varies_is varies (Some call) (Control control.Jmp last) = refl
varies_is varies (Some call) (Plain plain.Movi) = refl
varies_is varies _ _ = refl

pub variadic_start : (nodes : List Node) → variadic nodes 0 ≡ None
variadic_start nodes = ap variadic_of (prepared_start nodes)

pub variadic_on : (nodes : List Node) (i : ℕ) (n : Node) → slice_get nodes i ≡ Some n → variadic nodes (i + 1) ≡ variadic_after (variadic nodes i) n.op
variadic_on nodes i n e = ap variadic_of (prepared_on nodes i n e) ∙ after_is (prepared_before nodes i) n.op

pub varies_next : (nodes : List Node) (i : ℕ) (n : Node) → slice_get nodes i ≡ Some n → varies_before nodes (i + 1) ≡ varies_by (varies_before nodes i) (variadic nodes i) n.op
varies_next nodes i n e = varies_on nodes i n e ∙ varies_is (varies_before nodes i) (prepared_before nodes i) n.op

-- ---- the label that is bound at a node
pub position_is : {A : Type 0} (p : A → Bool) (xs : List A) (i : ℕ) (d : A) → i < length xs → p (slice_index_or xs i d) ≡ true → ((k : ℕ) → k < i → p (slice_index_or xs k d) ≡ false) → position p xs ≡ Some i
position_is p xs i d h here before =
    let at : position_or_len p xs ≡ i = position_or_len_is p xs i d (omega arith) before (λ _. here) in grind (arith, common_steps)

pub position_none : {A : Type 0} (p : A → Bool) (xs : List A) (d : A) → ((k : ℕ) → k < length xs → p (slice_index_or xs k d) ≡ false) → position p xs ≡ None
position_none p xs d none =
    let at : position_or_len p xs ≡ length xs = position_or_len_is p xs (length xs) d (omega arith) none (λ h. absurd (omega arith)) in grind (arith, common_steps)

or_true : (b : Bool) → (b || true) ≡ true
or_true true = refl
or_true false = refl

any_true : {A : Type 0} (p : A → Bool) (xs : List A) (i : ℕ) (d : A) → i < length xs → p (slice_index_or xs i d) ≡ true → list_any p xs ≡ true
any_true p [] i d h e = absurd (omega arith)
any_true p (x ∷ xs) zero d h e = rw e refl
any_true p (x ∷ xs) (suc i) d h e = ap (λ b. p x || b) (any_true p xs i d (omega arith) e) ∙ or_true (p x)

any_false : {A : Type 0} (p : A → Bool) (xs : List A) (d : A) → ((k : ℕ) → k < length xs → p (slice_index_or xs k d) ≡ false) → list_any p xs ≡ false
any_false p [] d none = refl
any_false p (x ∷ xs) d none = ap (λ b. b || list_any p xs) (none 0 (omega arith)) ∙ any_false p xs d (λ k h. none (suc k) (omega arith))

abbrev as_label : Option ℕ → Option Label
as_label o = option_map (λ k. record { 0 = k }) o

pub label_is : (places : List (Option Place)) (i : ℕ) (o : Option Label) → IfSome o (λ l. NextAt places i 0 l.0) → IfNone o (NoneAt places i 0) → o ≡ label_at places i
label_is places i (Some label) next none = sym (ap as_label (position_is (is_at i) places label.0 None next.within next.bound (λ k h. next.none k (omega arith) h)))
label_is places i None next none = sym (ap as_label (position_none (is_at i) places None (λ k h. none k (omega arith) h)))

pub labelled_is : (places : List (Option Place)) (i : ℕ) (o : Option Label) → IfSome o (λ l. NextAt places i 0 l.0) → IfNone o (NoneAt places i 0) → is_labelled places i ≡ is_some o
labelled_is places i (Some label) next none = any_true (is_at i) places label.0 None next.within next.bound
labelled_is places i None next none = any_false (is_at i) places None (λ k h. none k (omega arith) h)

-- ---- a node that is out of place
abbrev Bad : LabelledNodes → ℕ → Node → Bool
Bad l i n = is_bad_call (prepared_before l.nodes i) (varies_before l.nodes i) (is_labelled l.places i) n.op

pub bad_here : (l : LabelledNodes) (i : ℕ) (n : Node) (call : Option Bool) (varies labelled r : Bool) → call ≡ variadic l.nodes i → varies ≡ varies_before l.nodes i → is_labelled l.places i ≡ labelled
    → r ≡ is_bad call varies labelled n.op → Bad l i n ≡ r
bad_here l i n call varies labelled r ec ev el er =
    bad_is (prepared_before l.nodes i) (varies_before l.nodes i) (is_labelled l.places i) n.op ∙ (λ j. is_bad (sym ec j) (sym ev j) (el j) n.op) ∙ sym er

pub bad_gives : (l : LabelledNodes) (i : ℕ) (n : Node) (b : Bool) → Bad l i n ≡ b → bad_call_at l i n ≡ (if b then Some (label_between (prepared_before l.nodes i) l.places i) else None)
bad_gives l i n b e = ap (λ b. if b then Some (label_between (prepared_before l.nodes i) l.places i) else None) e

pub between_is : (p : Option Preparation) (places : List (Option Place)) (i : ℕ) (call : Option Bool) → call ≡ variadic_of p → label_between p places i ≡ (if is_some call then label_at places i else None)
between_is None places i call e = rw e refl
between_is (Some p) places i call e = rw e refl
