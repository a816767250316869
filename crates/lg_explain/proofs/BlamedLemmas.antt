-- The label that a refusal blames, from what the check says of the nodes.
use Rattle.std.proofs.Common.{◌≡◌, ◌⊎◌, inl, inr, ℕ, zero, suc, ◌+◌, ◌<◌, ◌≤◌, Bool, true, false, cond, ◌||◌, List, [], ◌∷◌, Option, Some, None, Ok, is_some, length, get_or, refl, sym, ap, ◌∙◌, subst, arith}
use Rattle.std.specs.Prelude.{slice_get, if◌then◌else◌}
use Rattle.std.specs.List.{find, list_any, position}
use Rattle.std.specs.Option.{option_and_then, option_flatten, option_map}
use Rattle.std.proofs.lemmas.Bool.{cases_lt}
use Rattle.std.proofs.lemmas.Bool.Decides.{nat_tests}
use Rattle.std.proofs.lemmas.List.Quantifiers.{position-Some}
use Rattle.std.proofs.lemmas.Option.{slice_get-get_or, get_or_from_slice_get, slice_get_within, same_Some}
use Rattle.lg_base.specs.declared.refusal.Refusal.{Refusal}
use Rattle.lg_base.specs.declared.refusal.RefusalKind.{RefusalKind}
use Rattle.lg_base.specs.declared.refusal.RefusalKind.TheVariants.{LabelTwice, LabelMissing, TargetOutside, BadCall, FunctionOpen, NoCode}
use Rattle.lg_meaning.specs.Addresses.{IsBound}
use Rattle.lg_op.specs.Forms.{forms_of}
use Rattle.lg_op.specs.declared.form.Form.{Form}
use Rattle.lg_op.specs.declared.form.Form.TheVariants as form
use Rattle.lg_op.specs.declared.op.Op.{Op}
use Rattle.lg_op.specs.declared.node.Node.{Node}
use Rattle.lg_op.specs.declared.operand.Label.{Label}
use Rattle.lg_op.specs.declared.operand.Operand.{Operand}
use Rattle.lg_op.specs.declared.operand.Operand.TheVariants as operand
use Rattle.lg_node.specs.Checks.{FailsAll, NoneBefore, IsRefused, is_astray, is_label, is_missing, any_by_form, end_refusal, end_refusal_of, kinds, line_of, refuses, refusal_of, refusal_at}
use Rattle.lg_node.specs.Functions.{home, is_prolog_node, open_before}
use Rattle.lg_node.specs.Labels.{is_at}
use Rattle.lg_node.specs.Nodes.{LabelledNodes}
use Rattle.lg_node.specs.Preparations.{prepared_before}
use Rattle.lg_node.specs.declared.place.Place.{Place}
use Rattle.lg_node.specs.declared.place.Place.TheVariants as place
use Rattle.lg_node.specs.declared.preparation.Preparation.{Preparation}
use Rattle.lg_node.specs.declared.unit.Unit.{Unit as TextUnit}
use Rattle.lg_node.proofs.FunctionLaws.{node_within}
use Rattle.lg_node.proofs.LimitLemmas.{not_refused}
use Rattle.lg_pre.specs.Expanded.{expanded}
use Rattle.lg_tst.specs.Units.{unit_of}
use Rattle.lg_explain.specs.Blamed.{IsFirstWrong, IsFirstAstray, IsFirstBound, Blames, IsBlamed, IsWordBlamed, LabelsAreBlamed, WordsAreBlamed}
use Rattle.lg_explain.specs.Blames.{first_of, of_node, label_in, missing_in, missing_at, found_by_form, astray_at, label_at, label_between, bad_call_at, label_of, word_in, word_of}
use Rattle.lg_explain.specs.Lines.{shown}
use Rattle.lg_explain.specs.Words.{blamed_as, blamed_by, names_word, word_told}
use Rattle.lg_explain.proofs.BlameLemmas.{at_node, first_found, first_on, first_start}
use Rattle.lg_explain.proofs.CallLemmas.{bad_gives, position_is}

-- ---- the first node that gives something
pub first_none : {A : Type 0} (f : ℕ → Option A) (i : ℕ) → ((j : ℕ) → j < i → f j ≡ None) → first_of f i ≡ None
first_none f zero none = first_start f
first_none f (suc i) none =
    let e : suc i ≡ i + 1 = omega arith in rw e (first_on f i (first_none f i (λ j h. none j (omega (arith, h)))) (none i (omega arith)))

-- ---- what the check says of nodes
found_true : {A : Type 0} (test : A → Bool) (xs : List A) (y : A) → find test xs ≡ Some y → test y ≡ true
found_true test [] y e = cc
found_true test (x ∷ xs) y e = by (test x) refl e (found_true test xs y)
  where
    by : (b : Bool) → test x ≡ b → cond b (Some x) (find test xs) ≡ Some y → (find test xs ≡ Some y → test y ≡ true) → test y ≡ true
    by true f e call = subst (λ z. test z ≡ true) (same_Some x y e) f
    by false f e call = call e

pub record Refuses (l : LabelledNodes) (i : ℕ) (n : Node) (r : Refusal) : Type 0 where
  pub kind : refuses l i n r.kind ≡ true
  pub line : r.line ≡ n.line

pub refuses_so : (l : LabelledNodes) (i : ℕ) (n : Node) (r : Refusal) → slice_get l.nodes i ≡ Some n → refusal_at l i ≡ Some r → Refuses l i n r
unfolding refusal_at
refuses_so l i n r e is = by (find (refuses l i n) kinds) refl (sym (ap (option_and_then (refusal_of l i)) e) ∙ is)
  where
    by : (o : Option RefusalKind) → find (refuses l i n) kinds ≡ o → option_map (λ (k : RefusalKind). record { kind = k; line = n.line }) o ≡ Some r → Refuses l i n r
    by None f e = cc
    by (Some k) f e =
        let same : record { kind = k; line = n.line } ≡ r = same_Some (record { kind = k; line = n.line }) r e in
        subst (Refuses l i n) same record { kind = found_true (refuses l i n) kinds k f; line = refl }

-- ---- labels that nothing binds
missing_label : (places : List (Option Place)) (y : Operand) → is_missing places y ≡ true → (x : Label) × (y ≡ operand.Label x)
missing_label places (operand.Label x) e = (x, refl)
missing_label places y e = cc

pub none_missing : (places : List (Option Place)) (ops : List Operand) → list_any (is_missing places) ops ≡ false → missing_in places ops ≡ None
none_missing places [] e = refl
none_missing places (y ∷ ops) e = by (is_missing places y) refl e (none_missing places ops)
  where
    by : (b : Bool) → is_missing places y ≡ b → (b || list_any (is_missing places) ops) ≡ false → (list_any (is_missing places) ops ≡ false → missing_in places ops ≡ None)
        → missing_in places (y ∷ ops) ≡ None
    by true f e call = cc
    by false f e call = ap (λ b. option_and_then label_in (cond b (Some y) (find (is_missing places) ops))) f ∙ call e

abbrev Missing : List (Option Place) → List Operand → Type 0
Missing places ops = (x : Label) × (missing_in places ops ≡ Some x) × IsFirstWrong (is_missing places) ops x

pub some_missing : (places : List (Option Place)) (ops : List Operand) → list_any (is_missing places) ops ≡ true → Missing places ops
some_missing places [] e = cc
some_missing places (y ∷ ops) e = by (is_missing places y) refl e (some_missing places ops)
  where
    by : (b : Bool) → is_missing places y ≡ b → (b || list_any (is_missing places) ops) ≡ true → (list_any (is_missing places) ops ≡ true → Missing places ops) → Missing places (y ∷ ops)
    by true f e call =
        let x = missing_label places y f in (
          x.0,
          ap (λ b. option_and_then label_in (cond b (Some y) (find (is_missing places) ops))) f ∙ ap label_in x.1,
          record { index = 0; here = ap Some x.1; is = subst (λ z. is_missing places z ≡ true) x.1 f; before = λ j z h g. absurd (omega (arith, h)) },
        )
    by false f e call =
        let x = call e in (
          x.0,
          ap (λ b. option_and_then label_in (cond b (Some y) (find (is_missing places) ops))) f ∙ x.1,
          record { index = suc x.2.index; here = x.2.here; is = x.2.is; before = sooner x.2.index x.2.before },
        )
      where
        sooner : (index : ℕ) → ((j : ℕ) (z : Operand) → j < index → slice_get ops j ≡ Some z → is_missing places z ≡ false)
            → (j : ℕ) (z : Operand) → j < suc index → slice_get (y ∷ ops) j ≡ Some z → is_missing places z ≡ false
        sooner index before zero z h g = subst (λ w. is_missing places w ≡ false) (same_Some y z g) f
        sooner index before (suc j) z h g = before j z (omega (arith, h)) g

pub missing_is : (places : List (Option Place)) (ops : List Operand) (x : Label) → IsFirstWrong (is_missing places) ops x → missing_in places ops ≡ Some x
missing_is places ops x w = by ops w.index w.here w.is w.before
  where
    by : (ops : List Operand) (index : ℕ) → slice_get ops index ≡ Some (operand.Label x) → is_missing places (operand.Label x) ≡ true
        → ((j : ℕ) (y : Operand) → j < index → slice_get ops j ≡ Some y → is_missing places y ≡ false) → missing_in places ops ≡ Some x
    by [] index here is before = cc
    by (y ∷ ops) zero here is before =
        let same : y ≡ operand.Label x = same_Some y (operand.Label x) here in
        ap (λ b. option_and_then label_in (cond b (Some y) (find (is_missing places) ops))) (ap (is_missing places) same ∙ is) ∙ ap label_in same
    by (y ∷ ops) (suc index) here is before =
        ap (λ b. option_and_then label_in (cond b (Some y) (find (is_missing places) ops))) (before 0 y (omega arith) refl)
        ∙ by ops index here is (λ j z h g. before (suc j) z (omega (arith, h)) g)

-- ---- labels that lead where they may not
module _ (l : LabelledNodes) (o : Option ℕ) (op : Op) where
  abbrev wrong : Form → Operand → Bool
  wrong f y = is_astray l o op f y

  no_label_still : (h : Option ℕ) (f : Form) (y : Operand) → is_label y ≡ false → is_astray l h op f y ≡ false
  no_label_still None form.Target (operand.Label x) e = cc
  no_label_still (Some p) form.Target (operand.Label x) e = cc
  no_label_still h form.Callee (operand.Label x) e = cc
  no_label_still h form.Immediate (operand.Label x) e = cc
  no_label_still h f y e = refl

  astray_label : (f : Form) (y : Operand) → wrong f y ≡ true → (x : Label) × (y ≡ operand.Label x)
  astray_label f (operand.Label x) e = (x, refl)
  astray_label f y e = let no : ◌≡◌ {A = Bool} false true = sym (no_label_still o f y refl) ∙ e in absurd (cc)

  pub none_astray : (forms : List Form) (ops : List Operand) → any_by_form wrong forms ops ≡ false → found_by_form wrong forms ops ≡ None
  none_astray (f ∷ fs) (y ∷ ops) e = by (wrong f y) refl e (none_astray fs ops)
    where
      by : (b : Bool) → wrong f y ≡ b → (b || any_by_form wrong fs ops) ≡ false → (any_by_form wrong fs ops ≡ false → found_by_form wrong fs ops ≡ None)
          → found_by_form wrong (f ∷ fs) (y ∷ ops) ≡ None
      by true g e call = cc
      by false g e call = ap (λ b. if b then label_in y else found_by_form wrong fs ops) g ∙ call e
  none_astray fs ops e = refl

  abbrev Astray : List Form → List Operand → Type 0
  Astray forms ops = (x : Label) × (found_by_form wrong forms ops ≡ Some x) × IsFirstAstray wrong forms ops x

  pub some_astray : (forms : List Form) (ops : List Operand) → any_by_form wrong forms ops ≡ true → Astray forms ops
  some_astray (f ∷ fs) (y ∷ ops) e = by (wrong f y) refl e (some_astray fs ops)
    where
      sooner : wrong f y ≡ false → (index : ℕ) → ((j : ℕ) (g : Form) (z : Operand) → j < index → slice_get fs j ≡ Some g → slice_get ops j ≡ Some z → wrong g z ≡ false)
          → (j : ℕ) (g : Form) (z : Operand) → j < suc index → slice_get (f ∷ fs) j ≡ Some g → slice_get (y ∷ ops) j ≡ Some z → wrong g z ≡ false
      sooner right index before zero g z h a b = subst (λ w. wrong w z ≡ false) (same_Some f g a) (subst (λ w. wrong f w ≡ false) (same_Some y z b) right)
      sooner right index before (suc j) g z h a b = before j g z (omega (arith, h)) a b

      by : (b : Bool) → wrong f y ≡ b → (b || any_by_form wrong fs ops) ≡ true → (any_by_form wrong fs ops ≡ true → Astray fs ops) → Astray (f ∷ fs) (y ∷ ops)
      by true g e call =
          let x = astray_label f y g in (
            x.0,
            ap (λ b. if b then label_in y else found_by_form wrong fs ops) g ∙ ap label_in x.1,
            record { index = 0; form = f; formed = refl; here = ap Some x.1; is = subst (λ z. wrong f z ≡ true) x.1 g; before = λ j h z lt. absurd (omega (arith, lt)) },
          )
      by false g e call =
          let x = call e in (
            x.0,
            ap (λ b. if b then label_in y else found_by_form wrong fs ops) g ∙ x.1,
            record { index = suc x.2.index; form = x.2.form; formed = x.2.formed; here = x.2.here; is = x.2.is; before = sooner g x.2.index x.2.before },
          )
  some_astray [] ops e = cc
  some_astray (f ∷ fs) [] e = cc

  pub astray_is : (forms : List Form) (ops : List Operand) (x : Label) → IsFirstAstray wrong forms ops x → found_by_form wrong forms ops ≡ Some x
  astray_is forms ops x w = by forms ops w.index w.form w.formed w.here w.is w.before
    where
      by : (forms : List Form) (ops : List Operand) (index : ℕ) (form : Form) → slice_get forms index ≡ Some form → slice_get ops index ≡ Some (operand.Label x) → wrong form (operand.Label x) ≡ true
          → ((j : ℕ) (f : Form) (y : Operand) → j < index → slice_get forms j ≡ Some f → slice_get ops j ≡ Some y → wrong f y ≡ false) → found_by_form wrong forms ops ≡ Some x
      by [] ops index form formed here is before = cc
      by (f ∷ fs) [] index form formed here is before = cc
      by (f ∷ fs) (y ∷ ops) zero form formed here is before =
          let same : y ≡ operand.Label x = same_Some y (operand.Label x) here in
          ap (λ b. if b then label_in y else found_by_form wrong fs ops) (subst (λ g. wrong g y ≡ true) (sym (same_Some f form formed)) (ap (wrong form) same ∙ is)) ∙ ap label_in same
      by (f ∷ fs) (y ∷ ops) (suc index) form formed here is before =
          ap (λ b. if b then label_in y else found_by_form wrong fs ops) (before 0 f y (omega arith) refl refl)
          ∙ by fs ops index form formed here is (λ j g z h a b. before (suc j) g z (omega (arith, h)) a b)

-- ---- labels that are bound at a node
at_bound : (i : ℕ) (p : Option Place) → is_at i p ≡ true → p ≡ Some (place.Node i)
at_bound i (Some (place.Node k)) e = let same : k ≡ i = grind (arith, nat_tests) in ap (λ (j : ℕ). Some (place.Node j)) same
at_bound i _ e = cc

node_at : (i : ℕ) → is_at i (Some (place.Node i)) ≡ true
node_at i = grind (arith, nat_tests)

module _ (l : LabelledNodes) (i : ℕ) where
  passes_at : (k : ℕ) → IsBound l k (place.Node i) → (k < length l.places) × (is_at i (get_or l.places k None) ≡ true)
  passes_at k b = (slice_get_within l.places k (Some (place.Node i)) b, ap (is_at i) (get_or_from_slice_get l.places k (Some (place.Node i)) None b) ∙ node_at i)

  pub bound_is : (x : Label) → IsFirstBound l i x → label_at l.places i ≡ Some x
  bound_is x w =
      let here = passes_at x.0 w.bound in
      ap (option_map (λ k. record { 0 = k })) (position_is (is_at i) l.places x.0 None here.0 here.1 (λ k h. by k h (is_at i (get_or l.places k None)) refl))
    where
      by : (k : ℕ) → k < x.0 → (b : Bool) → is_at i (get_or l.places k None) ≡ b → b ≡ false
      by k h false e = refl
      by k h true e =
          let here = passes_at x.0 w.bound in
          let bound : IsBound l k (place.Node i) = slice_get-get_or l.places k None (omega (arith, h, here.0)) ∙ ap Some (at_bound i (get_or l.places k None) e) in
          let low = w.first k bound in absurd (omega (arith, h, low))

  pub first_bound : (x : Label) → label_at l.places i ≡ Some x → IsFirstBound l i x
  first_bound x e = by (position (is_at i) l.places) refl e
    where
      by : (o : Option ℕ) → position (is_at i) l.places ≡ o → option_map (λ k. record { 0 = k }) o ≡ Some x → IsFirstBound l i x
      by None f g = cc
      by (Some k) f g =
          let w = position-Some (is_at i) l.places k None f in
          let label : Label = record { 0 = k } in
          let same : label ≡ x = same_Some label x g in
          subst (IsFirstBound l i) same record {
            bound = slice_get-get_or l.places k None w.0 ∙ ap Some (at_bound i (get_or l.places k None) w.1);
            first = λ j b. not_sooner k w.2 j b (cases_lt j k);
          }
        where
          not_sooner : (k : ℕ) → ((j : ℕ) → j < k → is_at i (get_or l.places j None) ≡ false) → (j : ℕ) → IsBound l j (place.Node i) → (j < k) ⊎ (k ≤ j) → k ≤ j
          not_sooner k none j b (inl lt) = let no : ◌≡◌ {A = Bool} false true = sym (none j lt) ∙ (passes_at j b).1 in absurd (cc)
          not_sooner k none j b (inr le) = le

between_some : (p : Option Preparation) (places : List (Option Place)) (i : ℕ) (x : Label) → label_between p places i ≡ Some x → (is_some p ≡ true) × (label_at places i ≡ Some x)
between_some None places i x e = cc
between_some (Some call) places i x e = (refl, e)

between_here : (p : Option Preparation) (places : List (Option Place)) (i : ℕ) (x : Label) → is_some p ≡ true → label_at places i ≡ Some x → label_between p places i ≡ Some x
between_here None places i x s e = cc
between_here (Some call) places i x s e = e

-- ---- the first node that is refused
module _ (l : LabelledNodes) (at : ℕ) (n : Node) (here : slice_get l.nodes at ≡ Some n) (before : NoneBefore l at) where
  within : at < length l.nodes
  within = slice_get_within l.nodes at n here

  abbrev earlier : (j : ℕ) → j < at → (m : Node) × (slice_get l.nodes j ≡ Some m)
  earlier j h = node_within l.nodes j (omega (arith, h, within))

  passed : (j : ℕ) (h : j < at) → FailsAll (refuses l j (earlier j h).0) kinds
  passed j h = not_refused l j (earlier j h).0 (earlier j h).1 (before j h)

  first_missing : first_of (of_node (missing_at l) l) at ≡ None
  first_missing = first_none (of_node (missing_at l) l) at (λ j h. at_node (missing_at l) l j (earlier j h).0 (earlier j h).1 ∙ none_missing l.places (earlier j h).0.operands (passed j h).0)

  first_astray : first_of (of_node (astray_at l) l) at ≡ None
  first_astray = first_none (of_node (astray_at l) l) at
      (λ j h. at_node (astray_at l) l j (earlier j h).0 (earlier j h).1 ∙ none_astray l (home l.nodes j) (earlier j h).0.op (forms_of (earlier j h).0.op) (earlier j h).0.operands (passed j h).1.1.1.0)

  first_bad : first_of (of_node (bad_call_at l) l) at ≡ None
  first_bad = first_none (of_node (bad_call_at l) l) at (λ j h. at_node (bad_call_at l) l j (earlier j h).0 (earlier j h).1 ∙ bad_gives l j (earlier j h).0 false (passed j h).1.1.1.1.0)

  missing_found : (x : Label) → missing_in l.places n.operands ≡ Some x → label_of LabelMissing l ≡ Some x
  missing_found x e = first_found (of_node (missing_at l) l) at (length l.nodes) x within first_missing (at_node (missing_at l) l at n here ∙ e)

  astray_found : (x : Label) → astray_at l at n ≡ Some x → label_of TargetOutside l ≡ Some x
  astray_found x e = first_found (of_node (astray_at l) l) at (length l.nodes) x within first_astray (at_node (astray_at l) l at n here ∙ e)

  bad_found : refuses l at n BadCall ≡ true → label_of BadCall l ≡ label_between (prepared_before l.nodes at) l.places at
  bad_found e = ap option_flatten (first_found (of_node (bad_call_at l) l) at (length l.nodes) (label_between (prepared_before l.nodes at) l.places at) within first_bad (at_node (bad_call_at l) l at n here ∙ bad_gives l at n true e))

  -- it is blamed where it is reported
  pub told_blames : (k : RefusalKind) (x : Label) → refuses l at n k ≡ true → label_of k l ≡ Some x → Blames k l at n x
  told_blames LabelMissing x r e =
      let m = some_missing l.places n.operands r in
      subst (λ y. IsFirstWrong (is_missing l.places) n.operands y) (same_Some m.0 x (sym (missing_found m.0 m.1) ∙ e)) m.2
  told_blames TargetOutside x r e =
      let m = some_astray l (home l.nodes at) n.op (forms_of n.op) n.operands r in
      subst (λ y. IsFirstAstray (is_astray l (home l.nodes at) n.op) (forms_of n.op) n.operands y) (same_Some m.0 x (sym (astray_found m.0 m.1) ∙ e)) m.2
  told_blames BadCall x r e =
      let b = between_some (prepared_before l.nodes at) l.places at x (sym (bad_found r) ∙ e) in (b.0, first_bound l at x b.1)
  told_blames k x r e = cc

  -- and reported where it is blamed
  pub blames_told : (k : RefusalKind) (x : Label) → refuses l at n k ≡ true → Blames k l at n x → label_of k l ≡ Some x
  blames_told LabelMissing x r b = missing_found x (missing_is l.places n.operands x b)
  blames_told TargetOutside x r b = astray_found x (astray_is l (home l.nodes at) n.op (forms_of n.op) n.operands x b)
  blames_told BadCall x r b = bad_found r ∙ between_here (prepared_before l.nodes at) l.places at x b.0 (bound_is l at x b.1)
  blames_told k x r b = absurd b

-- at the end of the nodes no label is blamed
end_none : (nodes : List Node) (r : Refusal) (l : LabelledNodes) → end_refusal nodes ≡ Some r → label_of r.kind l ≡ None
end_none nodes r l e = by (open_before nodes (length nodes)) (list_any is_prolog_node nodes) e
  where
    by : (o : Option ℕ) (b : Bool) → end_refusal_of nodes o b ≡ Some r → label_of r.kind l ≡ None
    by (Some p) b e = subst (λ (q : Refusal). label_of q.kind l ≡ None) (same_Some (record { kind = FunctionOpen; line = line_of (slice_get nodes p) }) r e) refl
    by None true e = cc
    by None false e = subst (λ (q : Refusal). label_of q.kind l ≡ None) (same_Some (record { kind = NoCode; line = 1 }) r e) refl

pub label_blamed : (l : LabelledNodes) (r : Refusal) (x : Label) → IsRefused l r → label_of r.kind l ≡ Some x → IsBlamed l r x
label_blamed l r x (inl w) e =
    let n = node_within l.nodes w.at w.within in
    let so = refuses_so l w.at n.0 r n.1 w.here in record {
      at = w.at;
      node = n.0;
      here = n.1;
      refused = w.here;
      line = so.line;
      before = w.before;
      blames = told_blames l w.at n.0 n.1 w.before r.kind x so.kind e;
    }
label_blamed l r x (inr w) e = let no = sym (end_none l.nodes r l w.here) ∙ e in absurd (cc)

pub blamed_label : (l : LabelledNodes) (r : Refusal) (x : Label) → IsBlamed l r x → label_of r.kind l ≡ Some x
blamed_label l r x b = blames_told l b.at b.node b.here b.before r.kind x (refuses_so l b.at b.node r b.here b.refused).kind b.blames

-- ---- words
told_in : (k : RefusalKind) (read text : List ℕ) (unit : TextUnit) → expanded read ≡ Ok text → unit_of text ≡ Ok unit → word_told read k ≡ option_map shown (word_in k unit.nodes)
told_in k read text unit e u = by (names_word k) refl
  where
    inside : blamed_by k (expanded read) ≡ word_in k unit.nodes
    inside = ap (blamed_by k) e ∙ ap (blamed_as k text) u

    none : (k : RefusalKind) → names_word k ≡ false → word_in k unit.nodes ≡ None
    none LabelTwice f = cc
    none LabelMissing f = cc
    none TargetOutside f = cc
    none BadCall f = cc
    none k f = refl

    by : (b : Bool) → names_word k ≡ b → option_map shown (if b then blamed_by k (expanded read) else None) ≡ option_map shown (word_in k unit.nodes)
    by true f = ap (option_map shown) inside
    by false f = ap (option_map shown) (sym (none k f))

pub word_blamed : (l : LabelledNodes) (r : Refusal) (word : List ℕ) → IsRefused l r → option_map shown (word_in r.kind l) ≡ Some word → IsWordBlamed l r word
word_blamed l r word refused e = by (label_of r.kind l) refl e
  where
    by : (o : Option Label) → label_of r.kind l ≡ o → option_map shown (option_and_then (word_of l) o) ≡ Some word → IsWordBlamed l r word
    by None f e = cc
    by (Some x) f e = named (slice_get l.words x.0) refl e
      where
        named : (o : Option (List ℕ)) → slice_get l.words x.0 ≡ o → option_map shown o ≡ Some word → IsWordBlamed l r word
        named None g e = cc
        named (Some text) g e = record { label = x; blamed = label_blamed l r x refused f; text = text; named = g; is = sym (same_Some (shown text) word e) }

pub blamed_word : (l : LabelledNodes) (r : Refusal) (word : List ℕ) → IsWordBlamed l r word → option_map shown (word_in r.kind l) ≡ Some word
blamed_word l r word b =
    ap (λ o. option_map shown (option_and_then (word_of l) o)) (blamed_label l r b.label b.blamed) ∙ (ap (option_map shown) b.named ∙ ap Some (sym b.is))

pub words_are : WordsAreBlamed
words_are read text word unit r e u refused =
    let told = told_in r.kind read text unit e u in
    (λ w. word_blamed unit.nodes r word refused (sym told ∙ w), λ b. told ∙ blamed_word unit.nodes r word b)

pub labels_are : LabelsAreBlamed
labels_are l r x refused = (λ e. label_blamed l r x refused e, λ b. blamed_label l r x b)
