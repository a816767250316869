-- Rewritten nodes are accepted.
use Rattle.std.proofs.Common.{◌≡◌, ⊎_elim, ℕ, zero, suc, ◌<◌, ◌≤◌, Bool, true, false, not, ◌&&◌, ◌||◌, cond, List, [], ◌∷◌, Option, Some, None, is_some, length, refl, sym, ap, ◌∙◌, subst, arith, add-one}
use Rattle.std.specs.Prelude.{◌==◌, is_none, if◌then◌else◌, slice_get}
use Rattle.std.specs.List.{find, list_any}
use Rattle.std.specs.Option.{option_map, option_and_then}
use Rattle.std.proofs.lemmas.Bool.{cases_lt, eqb-true, eqb-false, eq-eqb, and_parts, not-true, not-false, or_parts, or_from, false≢true, or_right}
use Rattle.std.proofs.lemmas.Bool.Decides.{eqb_tells}
use Rattle.std.proofs.Math.Seq.{take-length}
use Rattle.std.proofs.lemmas.Option.{slice_get_within}
use Rattle.lg_base.specs.declared.refusal.Refusal.{Refusal}
use Rattle.lg_base.specs.declared.refusal.RefusalKind.{RefusalKind}
use Rattle.lg_op.specs.Forms.{last_form, forms_of}
use Rattle.lg_op.specs.declared.form.Form.{Form}
use Rattle.lg_op.specs.declared.form.Form.TheVariants as form
use Rattle.lg_op.specs.declared.node.Node.{Node}
use Rattle.lg_op.specs.declared.op.Op.{Op}
use Rattle.lg_op.specs.declared.op.Op.TheVariants as op
use Rattle.lg_op.specs.declared.op.ControlOp.TheVariants as control
use Rattle.lg_op.specs.declared.op.LastOperand.TheVariants as last_operand
use Rattle.lg_op.specs.declared.operand.Label.{Label}
use Rattle.lg_op.specs.declared.operand.Operand.{Operand}
use Rattle.lg_op.specs.declared.operand.Operand.TheVariants as operand
use Rattle.lg_node.specs.declared.place.Place.{Place}
use Rattle.lg_node.specs.declared.place.Place.TheVariants as place
use Rattle.lg_node.specs.declared.preparation.Preparation.{Preparation}
use Rattle.lg_node.specs.Checks.{FailsAll, refuses, kinds, refusal_of, refusal_at, end_refusal_of, may_stand_outside, is_begun, is_missing, is_astray, any_by_form, is_bad_call, is_too_many, is_too_big, breaks_preparation, args_before, locals_before, IsAccepted}
use Rattle.lg_node.specs.Functions.{is_prolog, is_prolog_at, is_prolog_node, open_before, home, local_size}
use Rattle.lg_node.specs.Labels.{place_of, is_labelled, is_code, is_entry, is_inside, is_after_prolog, takes_address}
use Rattle.lg_node.specs.Nodes.{LabelledNodes}
use Rattle.lg_node.specs.Preparations.{prepared_before, varies_before}
use Rattle.lg_node.specs.ShapeLaws.{has_target, JumpsTo, IsWellShaped}
use Rattle.lg_node.proofs.AcceptedLaws.{is_closed}
use Rattle.lg_node.proofs.FunctionLaws.{node_within, home_within, home_from, home_next, home_between, Begins, home_cases}
use Rattle.lg_node.proofs.WellShaped.{well_shaped}
use Rattle.lg_meaning.specs.Starts.{MayBegin}
use Rattle.lg_opt.specs.Remaining.{new_number, moved_place, with_first, retargeted, rewritten, IsRewriting, labelled_from}
use Rattle.lg_opt.proofs.RemainingLemmas.{number-le, number-lt}
use Rattle.lg_opt.proofs.MovedLemmas.{same-op, same-size, comes-from, new-count, stands, place-moved}
use Rattle.lg_opt.proofs.LabelLemmas.{labelled-moved}
use Rattle.lg_opt.proofs.ShapeLemmas.{goes-no-prolog, walk-stood, open-moved, begun-moved, args-moved, locals-moved, prepared-moved, varies-moved, home-moved}

fails-none : (p : RefusalKind → Bool) (ks : List RefusalKind) → FailsAll p ks → find p ks ≡ None
fails-none p [] h = refl
fails-none p (k ∷ ks) h = ap (λ b. cond b (Some k) (find p ks)) h.0 ∙ fails-none p ks h.1

-- the target of a branch or jump comes first
target-first : (p : Op) → has_target p ≡ true → (fs : List Form) × (forms_of p ≡ form.Target ∷ fs)
target-first (op.Branch c last) e = (form.Read ∷ last_form last ∷ [], refl)
target-first (op.BranchSum o last) e = (form.Update ∷ last_form last ∷ [], refl)
target-first (op.Control control.Jmp last_operand.Immediate) e = ([], refl)
target-first p e = cc

module _ (l : LabelledNodes) (stays : ℕ → Bool) (targets : ℕ → Option Label) (r : IsRewriting l stays targets) (a : IsAccepted l) where
  abbrev m : LabelledNodes
  m = rewritten l stays targets

  abbrev nu : ℕ → ℕ
  nu = new_number stays

  abbrev new : ℕ → Node → Node
  new i n = retargeted (targets i) n

  w : IsWellShaped l
  w = well_shaped l a

  -- a node that begins a function stays
  pub prolog-stays : (k : ℕ) → is_prolog_at (slice_get l.nodes k) ≡ true → stays k ≡ true
  prolog-stays k e = by (slice_get l.nodes k) (stays k) refl refl e
    where
      by : (o : Option Node) (b : Bool) → slice_get l.nodes k ≡ o → stays k ≡ b → is_prolog_at o ≡ true → stays k ≡ true
      by None b f s e = cc
      by (Some n) true f s e = s
      by (Some n) false f s e = let no = goes-no-prolog n.op (r.goes k n f s) in absurd (false≢true (sym no ∙ e))

  pub prolog-moved : (k : ℕ) → is_prolog_at (slice_get l.nodes k) ≡ true → is_prolog_at (slice_get (rewritten l stays targets).nodes (new_number stays k)) ≡ true
  prolog-moved k e = by (slice_get l.nodes k) refl e
    where
      by : (o : Option Node) → slice_get l.nodes k ≡ o → is_prolog_at o ≡ true → is_prolog_at (slice_get m.nodes (nu k)) ≡ true
      by None f e = cc
      by (Some n) f e' = ap is_prolog_at (stands l stays targets k n f (prolog-stays k e)) ∙ ap is_prolog (same-op (targets k) n) ∙ e'

  entry-moved : (o : Option Place) → is_entry l.nodes o ≡ true → is_entry m.nodes (moved_place nu o) ≡ true
  entry-moved None e = cc
  entry-moved (Some (place.Image k)) e = cc
  entry-moved (Some (place.Node k)) e = prolog-moved k e

  -- where a run may begin at a label, so may one of the new nodes
  pub begins-moved : (b : Option Label) → MayBegin l b → MayBegin (rewritten l stays targets) b
  begins-moved None e = tt
  begins-moved (Some x) e = ap (is_entry m.nodes) (place-moved l stays targets x) ∙ entry-moved (place_of l.places x) e

  -- a node after the `prolog` of a function reaches one of that function
  pub inside-moved : (k p : ℕ) → home l.nodes k ≡ Some p → p < k → home (rewritten l stays targets).nodes (new_number stays k) ≡ Some (new_number stays p)
  inside-moved k p h lt = ⊎_elim was-open (λ (b : Begins l.nodes k p). absurd (omega (arith, b.here))) (home_cases l.nodes k p h)
    where
      few : k < length l.nodes
      few = home_within l.nodes k p h

      was-open : open_before l.nodes k ≡ Some p → home m.nodes (nu k) ≡ Some (nu p)
      was-open e = ⊎_elim (λ inside. home_next m.nodes (nu k) (nu p) inside opened) past (cases_lt (nu k) (length m.nodes))
        where
          opened : open_before m.nodes (nu k) ≡ Some (nu p)
          opened = open-moved l stays targets r k (omega (arith, few)) ∙ ap (option_map nu) e

          past : length m.nodes ≤ nu k → home m.nodes (nu k) ≡ Some (nu p)
          past ge =
              let count = new-count l stays targets in
              let up = number-le stays k (length l.nodes) (omega (arith, few)) in
              let same : nu k ≡ nu (length l.nodes) = omega arith in
              let closed : open_before m.nodes (nu k) ≡ None = ap (open_before m.nodes) same ∙ open-moved l stays targets r (length l.nodes) (omega arith) ∙ ap (option_map nu) (is_closed l a) in
              let no : ◌≡◌ {A = Option ℕ} None (Some (nu p)) = sym closed ∙ opened in
              cc

  -- the `prolog` of a function stays
  pub entry-stays : (k p : ℕ) → home l.nodes k ≡ Some p → stays p ≡ true
  entry-stays k p h = prolog-stays p (w.prologs p (home_between l.nodes k p h p (omega arith) (home_from l.nodes k p h)))

  after-moved : (k p : ℕ) → home l.nodes k ≡ Some p → p < k → is_after_prolog (home m.nodes (nu k)) (nu p) (nu k) ≡ true
  after-moved k p h lt =
      let up = number-lt stays p k lt (entry-stays k p h) in
      ap (λ o. is_after_prolog o (nu p) (nu k)) (inside-moved k p h lt)
      ∙ ap (λ b. b && not (nu k == nu p)) (eq-eqb (nu p) (nu p) refl)
      ∙ ap not (⊎_elim (λ t. let same = t.1 in absurd (omega arith)) (λ t. t.0) (eqb_tells (nu k) (nu p)))

  is-inside-moved : (p : ℕ) (o : Option Place) → is_inside l.nodes p o ≡ true → is_inside m.nodes (nu p) (moved_place nu o) ≡ true
  is-inside-moved p None e = cc
  is-inside-moved p (Some (place.Image k)) e = cc
  is-inside-moved p (Some (place.Node k)) e = by (home l.nodes k) refl e
    where
      by : (h : Option ℕ) → home l.nodes k ≡ h → is_after_prolog h p k ≡ true → is_after_prolog (home m.nodes (nu k)) (nu p) (nu k) ≡ true
      by None h e = cc
      by (Some q) h e =
          let parts = and_parts (q == p) (not (k == p)) e in
          let same : q ≡ p = eqb-true q p parts.0 in
          let inside : home l.nodes k ≡ Some p = h ∙ ap (λ (x : ℕ). Some x) same in
          let from : p ≤ k = home_from l.nodes k p inside in
          let other : k ≡ p → ⊥ = eqb-false k p (not-true (k == p) parts.1) in
          after-moved k p inside (⊎_elim (λ (b : p < k). b) (λ (b : k ≤ p). absurd (other (omega arith))) (cases_lt p k))

  -- ---- operands that are the same
  is-code-moved : (o : Option Place) → is_code (moved_place nu o) ≡ is_code o
  is-code-moved None = refl
  is-code-moved (Some (place.Node k)) = refl
  is-code-moved (Some (place.Image k)) = refl

  is-none-moved : (o : Option Place) → is_none (moved_place nu o) ≡ is_none o
  is-none-moved None = refl
  is-none-moved (Some (place.Node k)) = refl
  is-none-moved (Some (place.Image k)) = refl

  at-place : (f : Option Place → Bool) (y : Label) → f (place_of m.places y) ≡ f (moved_place nu (place_of l.places y))
  at-place f y = ap f (place-moved l stays targets y)

  entry-passes : (y : Label) → not (is_entry l.nodes (place_of l.places y)) ≡ false → not (is_entry m.nodes (place_of m.places y)) ≡ false
  entry-passes y e = ap not (at-place (is_entry m.nodes) y ∙ entry-moved (place_of l.places y) (not-false (is_entry l.nodes (place_of l.places y)) e))

  inside-passes : (p : ℕ) (y : Label) → not (is_inside l.nodes p (place_of l.places y)) ≡ false → not (is_inside m.nodes (nu p) (place_of m.places y)) ≡ false
  inside-passes p y e = ap not (at-place (is_inside m.nodes (nu p)) y ∙ is-inside-moved p (place_of l.places y) (not-false (is_inside l.nodes p (place_of l.places y)) e))

  code-passes : (p : Op) (y : Label) → (is_code (place_of l.places y) && not (takes_address p)) ≡ false → (is_code (place_of m.places y) && not (takes_address p)) ≡ false
  code-passes p y e = ap (λ b. b && not (takes_address p)) (at-place is_code y ∙ is-code-moved (place_of l.places y)) ∙ e

  one-passes : (h : Option ℕ) (p : Op) (f : Form) (x : Operand) → is_astray l h p f x ≡ false → is_astray m (option_map nu h) p f x ≡ false
  one-passes None p form.Target (operand.Label y) e = entry-passes y e
  one-passes (Some q) p form.Target (operand.Label y) e = inside-passes q y e
  one-passes None p form.Callee (operand.Label y) e = entry-passes y e
  one-passes (Some q) p form.Callee (operand.Label y) e = entry-passes y e
  one-passes None p form.Immediate (operand.Label y) e = code-passes p y e
  one-passes (Some q) p form.Immediate (operand.Label y) e = code-passes p y e
  one-passes None p f x e = refl
  one-passes (Some q) p f x e = refl

  all-pass : (h : Option ℕ) (p : Op) (fs : List Form) (xs : List Operand) → any_by_form (is_astray l h p) fs xs ≡ false → any_by_form (is_astray m (option_map nu h) p) fs xs ≡ false
  all-pass h p [] xs e = refl
  all-pass h p (f ∷ fs) [] e = refl
  all-pass h p (f ∷ fs) (x ∷ xs) e =
      let parts = or_parts (is_astray l h p f x) (any_by_form (is_astray l h p) fs xs) e in
      or_from (is_astray m (option_map nu h) p f x) (any_by_form (is_astray m (option_map nu h) p) fs xs) (one-passes h p f x parts.0) (all-pass h p fs xs parts.1)

  missing-moved : (x : Operand) → is_missing m.places x ≡ is_missing l.places x
  missing-moved (operand.Label y) = at-place is_none y ∙ is-none-moved (place_of l.places y)
  missing-moved (operand.Reg y) = refl
  missing-moved (operand.Number y) = refl
  missing-moved (operand.Host y) = refl
  missing-moved (operand.Slot y) = refl

  all-missing : (xs : List Operand) → list_any (is_missing m.places) xs ≡ list_any (is_missing l.places) xs
  all-missing [] = refl
  all-missing (x ∷ xs) = ap (λ b. b || list_any (is_missing m.places) xs) (missing-moved x) ∙ ap (λ b. is_missing l.places x || b) (all-missing xs)

  -- ---- another target
  target-passes : (h : Option ℕ) (p : Op) (y : Label) → JumpsTo l h (place_of l.places y) → is_astray m (option_map nu h) p form.Target (operand.Label y) ≡ false
  target-passes None p y j = ap not (at-place (is_entry m.nodes) y ∙ ap (λ o. is_entry m.nodes (moved_place nu o)) j.place ∙ prolog-moved j.node (w.prologs j.node j.entry))
  target-passes (Some q) p y j = ap not (at-place (is_inside m.nodes (nu q)) y ∙ ap (λ o. is_inside m.nodes (nu q) (moved_place nu o)) j.place ∙ after-moved j.node q j.inside j.behind)

  bound : (h : Option ℕ) (o : Option Place) → JumpsTo l h o → is_none o ≡ false
  bound None o j = ap is_none j.place
  bound (Some q) o j = ap is_none j.place

  astray-passes : (i : ℕ) (n : Node) → slice_get l.nodes i ≡ Some n → (o : Option Label) → targets i ≡ o → any_by_form (is_astray m (option_map nu (home l.nodes i)) n.op) (forms_of n.op) (retargeted o n).operands ≡ false
  astray-passes i n e None t = all-pass (home l.nodes i) n.op (forms_of n.op) n.operands (w.passes i n e).1.1.1.0
  astray-passes i n e (Some y) t =
      let lead = r.leads i n y e t in
      let first = target-first n.op lead.0 in
      ap (λ fs. any_by_form (is_astray m (option_map nu (home l.nodes i)) n.op) fs (with_first n.operands y)) first.1
      ∙ by n.operands first.0 (ap (λ fs. any_by_form (is_astray l (home l.nodes i) n.op) fs n.operands) (sym first.1) ∙ (w.passes i n e).1.1.1.0) lead.1
    where
      by : (xs : List Operand) (fs : List Form) → any_by_form (is_astray l (home l.nodes i) n.op) (form.Target ∷ fs) xs ≡ false → JumpsTo l (home l.nodes i) (place_of l.places y)
          → any_by_form (is_astray m (option_map nu (home l.nodes i)) n.op) (form.Target ∷ fs) (with_first xs y) ≡ false
      by [] fs h j = refl
      by (x ∷ xs) fs h j =
          let parts = or_parts (is_astray l (home l.nodes i) n.op form.Target x) (any_by_form (is_astray l (home l.nodes i) n.op) fs xs) h in
          or_from _ _ (target-passes (home l.nodes i) n.op y j) (all-pass (home l.nodes i) n.op fs xs parts.1)

  missing-passes : (i : ℕ) (n : Node) → slice_get l.nodes i ≡ Some n → (o : Option Label) → targets i ≡ o → list_any (is_missing m.places) (retargeted o n).operands ≡ false
  missing-passes i n e None t = all-missing n.operands ∙ (w.passes i n e).0
  missing-passes i n e (Some y) t = by n.operands (w.passes i n e).0
    where
      by : (xs : List Operand) → list_any (is_missing l.places) xs ≡ false → list_any (is_missing m.places) (with_first xs y) ≡ false
      by [] h = refl
      by (x ∷ xs) h =
          let parts = or_parts (is_missing l.places x) (list_any (is_missing l.places) xs) h in
          or_from _ _ (missing-moved (operand.Label y) ∙ bound (home l.nodes i) (place_of l.places y) (r.leads i n y e t).1) (all-missing xs ∙ parts.1)

  -- ---- calls that are being prepared
  unlabelled : (i : ℕ) (call : Preparation) → i < length l.nodes → prepared_before l.nodes i ≡ Some call → is_labelled l.places i ≡ false
  unlabelled i call lt e = by (is_labelled l.places i) refl
    where
      by : (b : Bool) → is_labelled l.places i ≡ b → is_labelled l.places i ≡ false
      by false f = f
      by true f =
          let n = node_within l.nodes i lt in
          let none = w.unprepared i n.0 n.1 (ap (λ b. breaks_preparation n.0.op || b) f ∙ or_right (breaks_preparation n.0.op) true refl) in
          let no : ◌≡◌ {A = Option Preparation} None (Some call) = sym none ∙ e in
          cc

  pub unlabelled-from : (i : ℕ) (call : Preparation) → i < length l.nodes → prepared_before l.nodes i ≡ Some call → labelled_from l.places stays i ≡ false
  unlabelled-from zero call lt e = unlabelled 0 call lt e
  unlabelled-from (suc i) call lt e = ap (λ b. b || (if stays i then false else labelled_from l.places stays i)) (unlabelled (suc i) call lt e) ∙ by (stays i) refl (unlabelled-from i call (omega arith))
    where
      by : (b : Bool) → stays i ≡ b → (prepared_before l.nodes i ≡ Some call → labelled_from l.places stays i ≡ false) → (if b then false else labelled_from l.places stays i) ≡ false
      by true s again = refl
      by false s again =
          let n = node_within l.nodes i (omega arith) in
          again (sym (ap (λ x. x.call) (walk-stood l.nodes i n.0 n.1 (r.goes i n.0 n.1 s))) ∙ ap (prepared_before l.nodes) (add-one i) ∙ e)

  call-passes : (i : ℕ) (p : Op) → i < length l.nodes → stays i ≡ true → is_bad_call (prepared_before l.nodes i) (varies_before l.nodes i) (is_labelled l.places i) p ≡ false
      → is_bad_call (prepared_before m.nodes (nu i)) (varies_before m.nodes (nu i)) (is_labelled m.places (nu i)) p ≡ false
  call-passes i p lt s h =
      ap (λ c. is_bad_call c (varies_before m.nodes (nu i)) (is_labelled m.places (nu i)) p) (prepared-moved l stays targets r i (omega arith))
      ∙ ap (λ v. is_bad_call (prepared_before l.nodes i) v (is_labelled m.places (nu i)) p) (varies-moved l stays targets r i (omega arith))
      ∙ ap (λ b. is_bad_call (prepared_before l.nodes i) (varies_before l.nodes i) b p) (labelled-moved stays l.places i s)
      ∙ by (prepared_before l.nodes i) refl h
    where
      by : (c : Option Preparation) → prepared_before l.nodes i ≡ c → is_bad_call c (varies_before l.nodes i) (is_labelled l.places i) p ≡ false → is_bad_call c (varies_before l.nodes i) (labelled_from l.places stays i) p ≡ false
      by None e h = h
      by (Some call) e h = ap (λ b. is_bad_call (Some call) (varies_before l.nodes i) b p) (unlabelled-from i call lt e ∙ sym (unlabelled i call lt e)) ∙ h

  -- ---- no kind refuses a node
  pub passes-moved : (i : ℕ) (n : Node) → slice_get l.nodes i ≡ Some n → stays i ≡ true → FailsAll (refuses (rewritten l stays targets) (new_number stays i) (retargeted (targets i) n)) kinds
  passes-moved i n e s =
      let lt : i < length l.nodes = slice_get_within l.nodes i n e in
      let old = w.passes i n e in
      let same = same-op (targets i) n in
      let home-is = home-moved l stays targets r i n e (omega arith) s in
      let size = same-size (targets i) n (λ y t. (r.leads i n y e t).0) in (
        missing-passes i n e (targets i) refl,
        (
          ap (λ p. is_none (home m.nodes (nu i)) && not (may_stand_outside p (is_begun m.nodes (nu i)))) same
              ∙ ap (λ b. is_none (home m.nodes (nu i)) && not (may_stand_outside n.op b)) (begun-moved l stays targets r i (omega arith))
              ∙ ap (λ o. is_none o && not (may_stand_outside n.op (is_begun l.nodes i))) home-is
              ∙ outside (home l.nodes i) (is_begun l.nodes i) n.op ∙ old.1.0,
          (
            ap (λ p. is_prolog p && is_some (open_before m.nodes (nu i))) same
                ∙ ap (λ o. is_prolog n.op && is_some o) (open-moved l stays targets r i (omega arith))
                ∙ opened (open_before l.nodes i) n.op ∙ old.1.1.0,
            (
              ap (λ p. any_by_form (is_astray m (home m.nodes (nu i)) p) (forms_of p) (retargeted (targets i) n).operands) same
                  ∙ ap (λ o. any_by_form (is_astray m o n.op) (forms_of n.op) (retargeted (targets i) n).operands) home-is
                  ∙ astray-passes i n e (targets i) refl,
              (
                ap (λ p. is_bad_call (prepared_before m.nodes (nu i)) (varies_before m.nodes (nu i)) (is_labelled m.places (nu i)) p) same ∙ call-passes i n.op lt s old.1.1.1.1.0,
                (
                  ap (λ p. is_too_many (args_before m.nodes (nu i)) (prepared_before m.nodes (nu i)) p) same
                      ∙ ap (λ k. is_too_many k (prepared_before m.nodes (nu i)) n.op) (args-moved l stays targets r i (omega arith))
                      ∙ ap (λ c. is_too_many (args_before l.nodes i) c n.op) (prepared-moved l stays targets r i (omega arith)) ∙ old.1.1.1.1.1.0,
                  (
                    ap (λ k. is_too_big k (local_size (retargeted (targets i) n))) (locals-moved l stays targets r i (omega arith))
                        ∙ ap (λ k. is_too_big (locals_before l.nodes i) k) size ∙ old.1.1.1.1.1.1.0,
                    tt,
                  ),
                ),
              ),
            ),
          ),
        ),
      )
    where
      outside : (o : Option ℕ) (b : Bool) (p : Op) → (is_none (option_map nu o) && not (may_stand_outside p b)) ≡ (is_none o && not (may_stand_outside p b))
      outside None b p = refl
      outside (Some q) b p = refl

      opened : (o : Option ℕ) (p : Op) → (is_prolog p && is_some (option_map nu o)) ≡ (is_prolog p && is_some o)
      opened None p = refl
      opened (Some q) p = refl

  none-refused : (i : ℕ) (n : Node) → slice_get l.nodes i ≡ Some n → stays i ≡ true → refusal_at m (nu i) ≡ None
  unfolding refusal_at
  none-refused i n e s =
      ap (option_and_then (refusal_of m (nu i))) (stands l stays targets i n e s)
      ∙ ap (option_map {U = Refusal} (λ k. record { kind = k; line = (retargeted (targets i) n).line })) (fails-none (refuses m (nu i) (retargeted (targets i) n)) kinds (passes-moved i n e s))

  pub accepted : IsAccepted (rewritten l stays targets)
  accepted = record {
    nodes = λ k lt.
        let c = comes-from stays l k (let count = new-count l stays targets in omega arith) in
        subst (λ j. refusal_at m j ≡ None) c.number (none-refused c.index c.node c.here c.kept);
    end =
        let count = new-count l stays targets in
        ap (λ o. end_refusal_of m.nodes o (list_any is_prolog_node m.nodes)) (ap (open_before m.nodes) count ∙ open-moved l stays targets r (length l.nodes) (omega arith) ∙ ap (option_map nu) (is_closed l a))
        ∙ ap (λ b. end_refusal_of m.nodes None b) (begun (begun-moved l stays targets r (length l.nodes) (omega arith)) count)
        ∙ by (list_any is_prolog_node l.nodes) (ap (λ o. end_refusal_of l.nodes o (list_any is_prolog_node l.nodes)) (sym (is_closed l a)) ∙ a.end);
  }
    where
      begun : is_begun m.nodes (nu (length l.nodes)) ≡ is_begun l.nodes (length l.nodes) → length m.nodes ≡ nu (length l.nodes) → list_any is_prolog_node m.nodes ≡ list_any is_prolog_node l.nodes
      begun h count =
          sym (ap (list_any is_prolog_node) (take-length m.nodes))
          ∙ ap (is_begun m.nodes) count ∙ h
          ∙ ap (list_any is_prolog_node) (take-length l.nodes)

      by : (b : Bool) → end_refusal_of l.nodes None b ≡ None → end_refusal_of m.nodes None b ≡ None
      by true e = refl
      by false e = cc
