-- The tables of the labels at nodes, and of targets.
use Rattle.std.proofs.Common.{◌≡◌, ℕ, ◌+◌, ◌<◌, ◌≤◌, ◌≢◌, Bool, true, false, ◌||◌, List, [], ◌∷◌, ◌++◌, Option, Some, None, is_some, length, length-append, take, refl, sym, ap, ◌∙◌, subst, arith, ⊎_elim}
use Rattle.std.specs.Prelude.{◌==◌, if◌then◌else◌, slice_get, slice_index, slice_index_or}
use Rattle.std.specs.List.{All, list_any}
use Rattle.std.specs.Option.{option_flatten}
use Rattle.std.proofs.Math.Seq.{take-length, get_or-append_seam}
use Rattle.std.proofs.lemmas.Bool.{eqb-true, cases_lt, true≢false}
use Rattle.std.proofs.lemmas.Bool.Decides.{eqb_tells}
use Rattle.std.proofs.lemmas.List.{get_or_past, get_or_append_left}
use Rattle.std.proofs.lemmas.Option.{slice_get_within}
use Rattle.lg_op.specs.Nodes.{InForm}
use Rattle.lg_op.specs.declared.node.Node.{Node}
use Rattle.lg_op.specs.declared.operand.Label.{Label}
use Rattle.lg_node.specs.declared.place.Place.{Place}
use Rattle.lg_node.specs.declared.place.Place.TheVariants as place
use Rattle.lg_node.specs.Checks.{IsAccepted}
use Rattle.lg_node.specs.Labels.{place_of, is_at, is_labelled}
use Rattle.lg_node.specs.Nodes.{LabelledNodes}
use Rattle.lg_node.specs.ShapeLaws.{has_target}
use Rattle.lg_node.proofs.TableLemmas.{any_on}
use Rattle.lg_opt.specs.Goals.{lead, turns, AreEnds}
use Rattle.lg_opt.specs.Hops.{jump_at}
use Rattle.lg_opt.specs.Rewritings.{target_in}
use Rattle.lg_opt.specs.Targets.{target_node, end_of, IsTargetOf, AreTargets, AreLabelsAt, IsTargetAt}
use Rattle.lg_opt.proofs.LabelLemmas.{labelled-at}
use Rattle.lg_opt.proofs.TargetLemmas.{target-of, lead-labelled}

-- the labels below this one are noted
pub record AreNoted (l : LabelledNodes) (table : List (Option Label)) (i : ℕ) : Type 0 where
  pub count : length table ≡ length l.nodes
  pub bound : (k : ℕ) (x : Label) → k < length table → slice_index_or table k None ≡ Some x → place_of l.places x ≡ Some (place.Node k)
  pub all : (k : ℕ) → k < length table → list_any (is_at k) (take i l.places) ≡ true → is_some (slice_index_or table k None) ≡ true

module _ (l : LabelledNodes) (old new : List (Option Label)) (i : ℕ) (p : Option Place) (x : Label) (is : x.0 ≡ i) (here : Some p ≡ slice_get l.places i) (h : AreNoted l old i) (count : length new ≡ length old)
    (noted : (k : ℕ) → k < length old → slice_index_or new k None ≡ (if is_at k p then Some x else slice_index_or old k None)) where
  at-is : (k : ℕ) (o : Option Place) → is_at k o ≡ true → o ≡ Some (place.Node k)
  at-is k None e = cc
  at-is k (Some (place.Image j)) e = cc
  at-is k (Some (place.Node j)) e = ap (λ q. Some (place.Node q)) (eqb-true j k e)

  bound-here : (k : ℕ) (y : Label) → k < length old → slice_index_or new k None ≡ Some y → place_of l.places y ≡ Some (place.Node k)
  bound-here k y lt e = by (is_at k p) refl (sym (noted k lt) ∙ e)
    where
      by : (b : Bool) → is_at k p ≡ b → (if b then Some x else slice_index_or old k None) ≡ Some y → place_of l.places y ≡ Some (place.Node k)
      by true f e =
          let same : x ≡ y = cc in
          subst (λ z. place_of l.places z ≡ Some (place.Node k)) same (ap (λ j. option_flatten (slice_get l.places j)) is ∙ ap option_flatten (sym here) ∙ at-is k p f)
      by false f e = h.bound k y lt e

  all-here : (k : ℕ) → k < length old → list_any (is_at k) (take (i + 1) l.places) ≡ true → is_some (slice_index_or new k None) ≡ true
  all-here k lt e = ap is_some (noted k lt) ∙ by (is_at k p) refl (sym (any_on (is_at k) l.places i p (sym here)) ∙ e)
    where
      right-false : (b : Bool) → (b || false) ≡ true → b ≡ true
      right-false true e = refl
      right-false false e = cc

      by : (b : Bool) → is_at k p ≡ b → (list_any (is_at k) (take i l.places) || b) ≡ true → is_some (if b then Some x else slice_index_or old k None) ≡ true
      by true f e = refl
      by false f e = h.all k lt (right-false (list_any (is_at k) (take i l.places)) e)

  pub note-next : AreNoted l new (i + 1)
  note-next = record {
    count = count ∙ h.count;
    bound = λ k y lt e. bound-here k y (omega (arith, lt, count)) e;
    all = λ k lt e. all-here k (omega (arith, lt, count)) e;
  }

pub noted-all : (l : LabelledNodes) (table : List (Option Label)) (i : ℕ) → AreNoted l table i → i ≡ length l.places → AreLabelsAt l table
noted-all l table i h e = record {
  bound = λ k x f. ⊎_elim (λ lt. h.bound k x lt f) (λ ge. past k x ge f) (cases_lt k (length table));
  all = λ k lt f. h.all k lt (ap (λ j. list_any (is_at k) (take j l.places)) e ∙ ap (list_any (is_at k)) (take-length l.places) ∙ f);
}
  where
    past : (k : ℕ) (x : Label) → length table ≤ k → slice_index_or table k None ≡ Some x → place_of l.places x ≡ Some (place.Node k)
    past k x ge f = let none : ◌≡◌ {A = Option Label} None (Some x) = sym (get_or_past table k None ge) ∙ f in cc

-- what the table has of a node
pub labelled-by : (l : LabelledNodes) (table : List (Option Label)) (i : ℕ) → i < length table → AreLabelsAt l table → is_some (slice_index_or table i None) ≡ is_labelled l.places i
labelled-by l table i lt h = by (slice_index_or table i None) (is_labelled l.places i) refl refl
  where
    by : (o : Option Label) (b : Bool) → slice_index_or table i None ≡ o → is_labelled l.places i ≡ b → is_some (slice_index_or table i None) ≡ is_labelled l.places i
    by o true e f = h.all i lt f ∙ sym f
    by None false e f = ap is_some e ∙ sym f
    by (Some x) false e f = absurd (true≢false (sym (labelled-at l.places x i (h.bound i x e)) ∙ f))

-- ---- targets
module _ (l : LabelledNodes) (a : IsAccepted l) (formed : All InForm l.nodes) (i : ℕ) (n : Node) (here : slice_get l.nodes i ≡ Some n) where
  same-node : (k : Node) → slice_get l.nodes i ≡ Some k → n ≡ k
  same-node k e = some (sym here ∙ e)
    where
      some : {x y : Node} → ◌≡◌ {A = Option Node} (Some x) (Some y) → x ≡ y
      some e = cc

  -- a node without target
  pub without : has_target n.op ≡ false → IsTargetAt l i None
  without f = record { others = λ k y e g. cc; own = λ k e t g. absurd (true≢false (sym t ∙ ap (λ (x : Node). has_target x.op) (sym (same-node k e)) ∙ f)) }

  module _ (ends : List ℕ) (are : AreEnds l ends) (t : target_node l n < length ends) where
    -- one whose jumps turn
    pub turning : jump_at l (slice_index ends (target_node l n)) ≡ true → IsTargetAt l i None
    turning f =
        let e = are (target_node l n) t in
        let turn : turns l (target_node l n) ≡ true = sym e.turning ∙ f in
        record {
          others = λ k y e g. cc;
          own = λ k e t g. subst (λ (x : Node). end_of l (target_node l x) ≡ target_node l x) (same-node k e) (ap (λ b. if b then target_node l n else lead l (target_node l n)) turn);
        }

    -- one whose jumps end
    pub ending : has_target n.op ≡ true → jump_at l (slice_index ends (target_node l n)) ≡ false → (labels : List (Option Label)) → AreLabelsAt l labels → slice_index ends (target_node l n) < length labels → IsTargetAt l i (slice_index_or labels (slice_index ends (target_node l n)) None)
    ending jumps f labels at lt =
        let e = are (target_node l n) t in
        let ends-there : turns l (target_node l n) ≡ false = sym e.turning ∙ f in
        let end : slice_index ends (target_node l n) ≡ lead l (target_node l n) = e.end ends-there in
        let h = target-of l a formed i n here jumps in
        let labelled : is_labelled l.places (slice_index ends (target_node l n)) ≡ true = ap (is_labelled l.places) end ∙ lead-labelled l a formed (target_node l n) (labelled-at l.places h.label (target_node l n) h.place) in
        record {
          others = λ k y g z. subst (λ (x : Node). IsTargetOf l x y) (same-node k g) (record { jumps = jumps; ends = ends-there; place = at.bound (slice_index ends (target_node l n)) y z ∙ ap (λ j. Some (place.Node j)) end });
          own = λ k g t z. absurd (true≢false (sym (at.all (slice_index ends (target_node l n)) lt labelled) ∙ ap is_some z));
        }

-- a table of targets
abbrev pub AreTargetsAt : LabelledNodes → List (Option Label) → Type 0
AreTargetsAt l table = (i : ℕ) → i < length table → IsTargetAt l i (slice_index_or table i None)

pub targets-are : (l : LabelledNodes) (table : List (Option Label)) → length table ≡ length l.nodes → AreTargetsAt l table → AreTargets l (target_in table)
targets-are l table count are = record {
  others = λ i n y e t. (are i (let lt = slice_get_within l.nodes i n e in omega (arith, lt, count))).others n y e t;
  own = λ i n e f t. (are i (let lt = slice_get_within l.nodes i n e in omega (arith, lt, count))).own n e f t;
}

pub more-targets : (l : LabelledNodes) (t ys : List (Option Label)) (o : Option Label) (i : ℕ) → ys ≡ t ++ o ∷ [] → length t ≡ i → AreTargetsAt l t → IsTargetAt l i o → AreTargetsAt l ys
more-targets l t ys o i e count are here k lt = subst (IsTargetAt l k) (sym (ap (λ zs. slice_index_or zs k None) e)) (⊎_elim same other (eqb_tells k (length t)))
  where
    same : ((k == length t) ≡ true) × (k ≡ length t) → IsTargetAt l k (slice_index_or (t ++ o ∷ []) k None)
    same s = subst (λ j. IsTargetAt l j (slice_index_or (t ++ o ∷ []) j None)) (sym s.1) (subst (IsTargetAt l (length t)) (sym (get_or-append_seam t o [] None)) (subst (λ j. IsTargetAt l j o) (sym count) here))

    other : ((k == length t) ≡ false) × (k ≢ length t) → IsTargetAt l k (slice_index_or (t ++ o ∷ []) k None)
    other s =
        let ne = s.1 in
        let inside : k < length t = omega (arith, lt, ap length e, length-append t (o ∷ [])) in
        subst (IsTargetAt l k) (sym (get_or_append_left t (o ∷ []) None k inside)) (are k inside)
