-- Functions, jumps to labels in registers and entries have their new numbers.
use Rattle.std.proofs.Common.{◌≡◌, ◌⊎◌, inl, inr, ⊎_elim, ℕ, zero, suc, ◌<◌, ◌≤◌, Bool, true, false, ◌&&◌, List, Option, Some, None, length, map, max, refl, sym, ap, ◌∙◌, subst, arith, nat_lt, add-one}
use Rattle.std.specs.Prelude.{◌==◌, nat_le, if◌then◌else◌, slice_get, slice_index, slice_index_or}
use Rattle.std.specs.Option.{option_map}
use Rattle.std.proofs.Math.Nat.{max-eq_left, max-eq_right}
use Rattle.std.proofs.lemmas.Bool.{cases_lt, eqb-true, eq-eqb, lt-ltb, le-ltb, lt-leb, le-leb}
use Rattle.std.proofs.lemmas.Bool.Decides.{leb_tells}
use Rattle.std.proofs.lemmas.List.{length-map}
use Rattle.std.proofs.lemmas.Option.{slice_get-map}
use Rattle.lg_op.specs.declared.operand.Label.{Label}
use Rattle.lg_node.specs.declared.function.Function.{Function}
use Rattle.lg_node.specs.declared.place.Place.{Place}
use Rattle.lg_node.specs.declared.place.Place.TheVariants as place
use Rattle.lg_node.specs.Checks.{IsAccepted}
use Rattle.lg_node.specs.Functions.{is_prolog_at, functions}
use Rattle.lg_node.specs.Nodes.{LabelledNodes}
use Rattle.lg_node.specs.Shapes.{TextShape}
use Rattle.lg_meaning.specs.Addresses.{BeginsAt, AreAddresses}
use Rattle.lg_meaning.specs.Steps.{Text, later, landing, last_landing, function_here, is_after, is_target, jump_target, begins, is_entry_label, entry_target}
use Rattle.lg_meaning.specs.Texts.{text}
use Rattle.lg_opt.specs.Remaining.{new_number, moved_place, rewritten, IsRewriting}
use Rattle.lg_opt.specs.Renumbered.{moved_function, Renumbers}
use Rattle.lg_opt.proofs.RemainingLemmas.{number-stays, number-le, number-lt}
use Rattle.lg_opt.proofs.AcceptLemmas.{prolog-stays, accepted}
use Rattle.lg_opt.proofs.FunctionLemmas.{epilog-stays, function-is, function-moved}

-- ---- where a word leads
module _ (test : ℕ → ℕ → Bool) (places : List (Option Place)) (A : List ℕ) (w : ℕ) where
  landing-is : (x k : ℕ) → slice_get places x ≡ Some (Some (place.Node k)) → landing test places A w x ≡ (if (slice_index A x == w) && test x k then Some k else None)
  landing-is x k e = rw e refl

  -- a label whose word is the address
  pub record LandsAt (x k : ℕ) : Type 0 where
    pub bound : slice_get places x ≡ Some (Some (place.Node k))
    pub passes : test x k ≡ true
    pub address : slice_index A x ≡ w

  lands-at : (x k : ℕ) → landing test places A w x ≡ Some k → LandsAt x k
  lands-at x k h = by (slice_get places x) refl
    where
      node : (b c : Bool) (i : ℕ) → slice_get places x ≡ Some (Some (place.Node i)) → (slice_index A x == w) ≡ b → test x i ≡ c → ◌≡◌ {A = Option ℕ} (if b && c then Some i else None) (Some k) → LandsAt x k
      node true true i e a c h = let same : i ≡ k = cc in record { bound = rw (← same) e; passes = rw (← same) c; address = eqb-true (slice_index A x) w a }
      node true false i e a c h = cc
      node false c i e a c' h = cc

      by : (o : Option (Option Place)) → slice_get places x ≡ o → LandsAt x k
      by None e = let no : ◌≡◌ {A = Option ℕ} None (Some k) = rw e at h in cc
      by (Some None) e = let no : ◌≡◌ {A = Option ℕ} None (Some k) = rw e at h in cc
      by (Some (Some (place.Image i))) e = let no : ◌≡◌ {A = Option ℕ} None (Some k) = rw e at h in cc
      by (Some (Some (place.Node i))) e = node (slice_index A x == w) (test x i) i e refl refl (sym (landing-is x i e) ∙ h)

  -- and one of n labels is the last such one
  pub record LastAt (n k : ℕ) : Type 0 where
    pub label : ℕ
    pub below : label < n
    pub lands : LandsAt label k

  pub last-at : (n k : ℕ) → last_landing test places A w n ≡ Some k → LastAt n k
  unfolding last_landing
  last-at zero k h = let no : ◌≡◌ {A = Option ℕ} None (Some k) = h in cc
  last-at (suc n) k h = by (last-at n k) (landing test places A w n) (last_landing test places A w n) refl refl h
    where
      either : (i j : ℕ) → (max i j ≡ i) ⊎ (max i j ≡ j)
      either i j = grind arith

      more : LastAt n k → LastAt (suc n) k
      more b = record { label = b.label; below = omega (arith, b.below); lands = b.lands }

      by : (last_landing test places A w n ≡ Some k → LastAt n k) → (a b : Option ℕ) → landing test places A w n ≡ a → last_landing test places A w n ≡ b → later a b ≡ Some k → LastAt (suc n) k
      by before None b ea eb h = more (before (eb ∙ h))
      by before (Some i) None ea eb h = record { label = n; below = omega arith; lands = lands-at n k (ea ∙ h) }
      by before (Some i) (Some j) ea eb h =
          let top : max i j ≡ k = cc in
          ⊎_elim
          (λ (e : max i j ≡ i). record { label = n; below = omega arith; lands = lands-at n k (ea ∙ ap Some (sym e ∙ top)) })
          (λ (e : max i j ≡ j). more (before (eb ∙ ap Some (sym e ∙ top))))
          (either i j)

  -- where all that land do so at one node
  pub all-at : (c : ℕ) → ((x k : ℕ) → LandsAt x k → k ≡ c) → (y n : ℕ) → y < n → LandsAt y c → last_landing test places A w n ≡ Some c
  unfolding last_landing
  all-at c all y zero lt at = absurd (omega arith)
  all-at c all y (suc n) lt at = by (landing test places A w n) (last_landing test places A w n) refl refl (cases_lt y n) (λ less. all-at c all y n less at)
    where
      here : LandsAt y c → landing test places A w y ≡ Some c
      here at =
          landing-is y c at.bound
          ∙ ap (λ b. if b && test y c then Some c else None) (eq-eqb (slice_index A y) w at.address)
          ∙ ap (λ b. if b then Some c else None) at.passes

      one : (i : ℕ) → landing test places A w n ≡ Some i → i ≡ c
      one i e = all n i (lands-at n i e)

      some : (j : ℕ) → last_landing test places A w n ≡ Some j → j ≡ c
      some j e = let b = last-at n j e in all b.label j b.lands

      double : (i j : ℕ) → i ≡ c → j ≡ c → later (Some i) (Some j) ≡ Some c
      double i j e f = let z : max i j ≡ c = grind arith in ap Some z

      by : (a b : Option ℕ) → landing test places A w n ≡ a → last_landing test places A w n ≡ b → (y < n) ⊎ (n ≤ y) → (y < n → last_landing test places A w n ≡ Some c) → later a b ≡ Some c
      by None b ea eb (inl less) again = sym eb ∙ again less
      by None b ea eb (inr ge) again =
          let z : y ≡ n = omega arith in
          let no : ◌≡◌ {A = Option ℕ} None (Some c) = sym ea ∙ ap (landing test places A w) (sym z) ∙ here at in
          cc
      by (Some i) None ea eb s again = ap Some (one i ea)
      by (Some i) (Some j) ea eb s again = double i j (one i ea) (some j eb)

module _ (nu : ℕ → ℕ) (rising : (i k : ℕ) → i ≤ k → nu i ≤ nu k) (test new : ℕ → ℕ → Bool) (places : List (Option Place)) (A : List ℕ) (w : ℕ)
    (same : (x k : ℕ) → slice_get places x ≡ Some (Some (place.Node k)) → new x (nu k) ≡ test x k) where
  abbrev moved : List (Option Place)
  moved = map (moved_place nu) places

  later-moved : (a b : Option ℕ) → later (option_map nu a) (option_map nu b) ≡ option_map nu (later a b)
  later-moved None b = refl
  later-moved (Some i) None = refl
  later-moved (Some i) (Some j) = ⊎_elim
      (λ lt. let le : i ≤ j = omega arith in ap Some (max-eq_right (rising i j le) ∙ ap nu (sym (max-eq_right le))))
      (λ ge. ap Some (max-eq_left (rising j i ge) ∙ ap nu (sym (max-eq_left ge))))
      (cases_lt i j)

  landing-moved : (x : ℕ) → landing new moved A w x ≡ option_map nu (landing test places A w x)
  landing-moved x = by (slice_get places x) refl
    where
      there : (o : Option (Option Place)) → slice_get places x ≡ o → slice_get moved x ≡ option_map (moved_place nu) o
      there o e = slice_get-map (moved_place nu) places x ∙ ap (option_map (moved_place nu)) e

      chosen : (b : Bool) (k : ℕ) → (if b then Some (nu k) else None) ≡ option_map nu (if b then Some k else None)
      chosen true k = refl
      chosen false k = refl

      by : (o : Option (Option Place)) → slice_get places x ≡ o → landing new moved A w x ≡ option_map nu (landing test places A w x)
      by None e = rw (there None e, e) refl
      by (Some None) e = rw (there (Some None) e, e) refl
      by (Some (Some (place.Image i))) e = rw (there (Some (Some (place.Image i))) e, e) refl
      by (Some (Some (place.Node k))) e =
          landing-is new moved A w x (nu k) (there (Some (Some (place.Node k))) e)
          ∙ ap (λ b. if (slice_index A x == w) && b then Some (nu k) else None) (same x k e)
          ∙ chosen ((slice_index A x == w) && test x k) k
          ∙ ap (option_map nu) (sym (landing-is test places A w x k e))

  pub last-moved : (n : ℕ) → last_landing new moved A w n ≡ option_map nu (last_landing test places A w n)
  unfolding last_landing
  last-moved zero = refl
  last-moved (suc n) =
      ap (λ a. later a (last_landing new moved A w n)) (landing-moved n) ∙ ap (later (option_map nu (landing test places A w n))) (last-moved n)
      ∙ later-moved (landing test places A w n) (last_landing test places A w n)

module _ (l : LabelledNodes) (stays : ℕ → Bool) (targets : ℕ → Option Label) (r : IsRewriting l stays targets) (a : IsAccepted l) (A : List ℕ) (taken : List Bool) where
  abbrev m : LabelledNodes
  m = rewritten l stays targets

  abbrev nu : ℕ → ℕ
  nu = new_number stays

  abbrev t : Text
  t = record { addresses = A; places = l.places; functions = functions l.nodes; taken = taken }

  abbrev u : Text
  u = record { addresses = A; places = m.places; functions = functions m.nodes; taken = taken }

  -- nodes of a function after its `prolog`
  after-same : (f : Function) (k : ℕ) → stays f.entry ≡ true → stays f.last ≡ true → is_after (Some (moved_function nu f)) (nu k) ≡ is_after (Some f) k
  after-same f k first last =
      ap (λ b. b && nat_le (nu k) (nu f.last)) (⊎_elim
      (λ x. lt-ltb (nu f.entry) (nu k) (number-lt stays f.entry k (let z = x.1 in omega arith) first) ∙ sym x.0)
      (λ x. le-ltb (nu f.entry) (nu k) (number-le stays k f.entry (let z = x.1 in omega arith)) ∙ sym x.0)
      (leb_tells (suc f.entry) k))
      ∙ ap (λ b. nat_lt f.entry k && b) (⊎_elim
      (λ x. le-leb (nu k) (nu f.last) (number-le stays k f.last x.1) ∙ sym x.0)
      (λ x. lt-leb (nu k) (nu f.last) (number-lt stays f.last k x.1 last) ∙ sym x.0)
      (leb_tells k f.last))

  jumps : (i w k : ℕ) → jump_target t i w ≡ Some k → jump_target u (nu i) w ≡ Some (nu k)
  jumps i w k e = by (function_here (functions l.nodes) i) refl
    where
      never : (b : Bool) → (b && false) ≡ true → ⊥
      never true e = cc
      never false e = cc

      by : (o : Option Function) → function_here (functions l.nodes) i ≡ o → jump_target u (nu i) w ≡ Some (nu k)
      by None h =
          let at = last-at (is_target t i) l.places A w (length l.places) k e in
          absurd (never (slice_index_or taken at.label false) (sym (ap (λ o. slice_index_or taken at.label false && is_after o k) h) ∙ at.lands.passes))
      by (Some f) h =
          let is = function-is l a i f h in
          let first = prolog-stays l stays targets r a f.entry is.begins in
          let last = epilog-stays l stays targets r a f.last is.ends in
          let there = function-moved l stays targets r a i f h in
          ap (last_landing (is_target u (nu i)) m.places A w) (length-map l.places (moved_place nu))
          ∙ last-moved nu (number-le stays) (is_target t i) (is_target u (nu i)) l.places A w
          (λ x j b. ap (λ o. slice_index_or taken x false && is_after o (nu j)) there ∙ ap (λ c. slice_index_or taken x false && c) (after-same f j first last) ∙ sym (ap (λ o. slice_index_or taken x false && is_after o j) h))
          (length l.places)
          ∙ ap (option_map nu) e

  module _ (size : ℕ) (are : AreAddresses m size A) where
    begins-at : (o : Option Function) (k : ℕ) → begins o k ≡ true → (f : Function) × (o ≡ Some f) × (f.entry ≡ k)
    begins-at None k e = cc
    begins-at (Some f) k e = (f, refl, eqb-true f.entry k e)

    -- an entry of the new nodes is a `prolog`
    is-prolog : (x k : ℕ) → is_entry_label u x k ≡ true → is_prolog_at (slice_get m.nodes k) ≡ true
    is-prolog x k e =
        let f = begins-at (function_here (functions m.nodes) k) k e in
        let is = function-is m (accepted l stays targets r a) k f.0 f.1 in
        ap (λ j. is_prolog_at (slice_get m.nodes j)) (sym f.2) ∙ is.begins

    entries : (w k : ℕ) → entry_target t w ≡ Some k → entry_target u w ≡ Some (nu k)
    entries w k e =
        let y = last-at (is_entry_label t) l.places A w (length l.places) k e in
        let f = begins-at (function_here (functions l.nodes) k) k y.lands.passes in
        let there : function_here (functions m.nodes) (nu k) ≡ Some (moved_function nu f.0) = function-moved l stays targets r a k f.0 f.1 in
        let bound : slice_get m.places y.label ≡ Some (Some (place.Node (nu k))) = slice_get-map (moved_place nu) l.places y.label ∙ ap (option_map (moved_place nu)) y.lands.bound in
        let passes : is_entry_label u y.label (nu k) ≡ true = ap (λ o. begins o (nu k)) there ∙ eq-eqb (nu f.0.entry) (nu k) (ap nu f.2) in
        let first : BeginsAt m y.label (nu k) = record { bound = bound; begins = is-prolog y.label (nu k) passes } in
        let few : y.label < length m.places = let b = y.below in let z = length-map l.places (moved_place nu) in omega arith in
        all-at (is_entry_label u) m.places A w (nu k) (one y.label first y.lands.address) y.label (length m.places) few record { bound = bound; passes = passes; address = y.lands.address }
      where
        one : (y : ℕ) → BeginsAt m y (nu k) → slice_index A y ≡ w → (x j : ℕ) → LandsAt (is_entry_label u) m.places A w x j → j ≡ nu k
        one y first at x j lands =
            let other : BeginsAt m x j = record { bound = lands.bound; begins = is-prolog x j lands.passes } in
            let mine = lands.address in
            ⊎_elim
            (λ lt. let up = are.entries x y j (nu k) other first lt in absurd (omega arith))
            (λ ge. ⊎_elim (λ lt. let up = are.entries y x (nu k) j first other lt in absurd (omega arith)) (λ le. omega arith) (cases_lt (nu k) j))
            (cases_lt j (nu k))

    pub renumbers-plain : (Lands : ℕ → ℕ → Type 0) → ((k : ℕ) → Lands k (new_number stays k)) → (i : ℕ) → stays i ≡ true → Renumbers t u (new_number stays) Lands i
    renumbers-plain Lands lands i s = record {
      addresses = refl;
      next = ap nu (add-one i) ∙ number-stays stays i s;
      lands = lands;
      functions = function-moved l stays targets r a;
      jumps = λ w k e. jumps i w k e;
      entries = entries;
    }

-- the same of shapes
pub renumbers : (l : LabelledNodes) (stays : ℕ → Bool) (targets : ℕ → Option Label) → IsRewriting l stays targets → IsAccepted l → (shape new_shape : TextShape) → shape.functions ≡ functions l.nodes
    → new_shape.functions ≡ functions (rewritten l stays targets).nodes → new_shape.taken ≡ shape.taken → (A : List ℕ) (size : ℕ) → AreAddresses (rewritten l stays targets) size A
    → (Lands : ℕ → ℕ → Type 0) → ((k : ℕ) → Lands k (new_number stays k)) → (i : ℕ) → stays i ≡ true → Renumbers (text l shape A) (text (rewritten l stays targets) new_shape A) (new_number stays) Lands i
renumbers l stays targets r a shape new_shape es en et A size are Lands lands i s =
    subst (λ fs. Renumbers (record { addresses = A; places = l.places; functions = fs; taken = shape.taken }) (text (rewritten l stays targets) new_shape A) (new_number stays) Lands i) (sym es)
    (subst (λ fs. Renumbers (record { addresses = A; places = l.places; functions = functions l.nodes; taken = shape.taken }) (record { addresses = A; places = (rewritten l stays targets).places; functions = fs; taken = new_shape.taken }) (new_number stays) Lands i) (sym en)
    (subst (λ ts. Renumbers (record { addresses = A; places = l.places; functions = functions l.nodes; taken = shape.taken }) (record { addresses = A; places = (rewritten l stays targets).places; functions = functions (rewritten l stays targets).nodes; taken = ts }) (new_number stays) Lands i) (sym et)
    (renumbers-plain l stays targets r a A shape.taken size are Lands lands i s)))
