-- Where the word of a register leads.
use Rattle.std.proofs.Common.{◌≡◌, ℕ, zero, suc, ◌<◌, ◌≤◌, ◌⊎◌, ⊎_elim, Bool, true, false, List, [], ◌∷◌, Option, Some, None, refl, sym, ap, ◌∙◌, arith, length}
use Rattle.std.specs.Prelude.{◌==◌, ◌&&◌, max, nat_lt, nat_le, slice_get, slice_index, slice_index_or, if◌then◌else◌, find}
use Rattle.std.proofs.lemmas.Bool.{eqb-true, and_parts}
use Rattle.lg_base.specs.HostNames.{host_names, host_address, host_by_address}
use Rattle.lg_base.specs.declared.host_name.HostName.{HostName}
use Rattle.lg_op.specs.declared.node.Node.{Node}
use Rattle.lg_node.specs.declared.function.Function.{Function}
use Rattle.lg_node.specs.declared.place.Place.{Place}
use Rattle.lg_node.specs.declared.place.Place.TheVariants as place
use Rattle.lg_node.specs.Functions.{home}
use Rattle.lg_meaning.specs.Steps.{later, landing, last_landing, is_after, is_target, jump_target, begins, is_entry_label, entry_target, function_here, Text}
use Rattle.lg_meaning.specs.Texts.{text}
use Rattle.lg_meaning.proofs.FunctionFacts.{function_at_home}
use Rattle.lg_meaning.proofs.NodeFacts.{function_found}
use Rattle.lg_carry.specs.FinalNodes.{Code, is_inside, function_at}
use Rattle.lg_carry.specs.TextNodes.{IsInText}
use Rattle.lg_carry.proofs.OfNodes.HomesLemmas.{inside-home, function-same}
use Rattle.lg_carry.proofs.OfNodes.LeapLemmas.{inner-is}

-- ---- where a word leads
-- a label with this address is bound at the node, and passes the test
pub record LandsAt (test : ℕ → ℕ → Bool) (places : List (Option Place)) (addresses : List ℕ) (w k : ℕ) : Type 0 where
  pub label : ℕ
  pub bound : slice_get places label ≡ Some (Some (place.Node k))
  pub address : slice_index addresses label ≡ w
  pub passes : test label k ≡ true

landed : (test : ℕ → ℕ → Bool) (places : List (Option Place)) (A : List ℕ) (w y k : ℕ) (o : Option (Option Place)) → slice_get places y ≡ o
    → landing test places A w y ≡ Some k → LandsAt test places A w k
landed test places A w y k None e h = let none : ◌≡◌ {A = Option ℕ} None (Some k) = rw e at h in cc
landed test places A w y k (Some None) e h = let none : ◌≡◌ {A = Option ℕ} None (Some k) = rw e at h in cc
landed test places A w y k (Some (Some (place.Image i))) e h = let none : ◌≡◌ {A = Option ℕ} None (Some k) = rw e at h in cc
landed test places A w y k (Some (Some (place.Node i))) e h = by (slice_index A y == w) (test y i) refl refl (rw e at h)
  where
    by : (b c : Bool) → (slice_index A y == w) ≡ b → test y i ≡ c → ◌≡◌ {A = Option ℕ} (if b && c then Some i else None) (Some k) → LandsAt test places A w k
    by true true at ok h = let same : i ≡ k = cc in record {
      label = y;
      bound = rw (← same) e;
      address = eqb-true (slice_index A y) w at;
      passes = rw (← same) ok;
    }
    by true false at ok h = cc
    by false c at ok h = cc

pub last-landed : (test : ℕ → ℕ → Bool) (places : List (Option Place)) (A : List ℕ) (w n k : ℕ) → last_landing test places A w n ≡ Some k
    → LandsAt test places A w k
unfolding last_landing
last-landed test places A w zero k h = let none : ◌≡◌ {A = Option ℕ} None (Some k) = h in cc
last-landed test places A w (suc n) k h = by (last-landed test places A w n k) (landing test places A w n) (last_landing test places A w n) refl refl h
  where
    either_of : (i j : ℕ) → (max i j ≡ i) ⊎ (max i j ≡ j)
    either_of i j = grind arith

    by : (last_landing test places A w n ≡ Some k → LandsAt test places A w k) → (a b : Option ℕ) → landing test places A w n ≡ a
        → last_landing test places A w n ≡ b → later a b ≡ Some k → LandsAt test places A w k
    by before None b ea eb h = before (eb ∙ h)
    by before (Some i) None ea eb h = landed test places A w n k (slice_get places n) refl (ea ∙ h)
    by before (Some i) (Some j) ea eb h =
        let top : max i j ≡ k = cc in
        ⊎_elim
        (λ (e : max i j ≡ i). landed test places A w n k (slice_get places n) refl (ea ∙ ap Some (sym e ∙ top)))
        (λ (e : max i j ≡ j). before (eb ∙ ap Some (sym e ∙ top)))
        (either_of i j)

-- a word that leads to a host function is the address of its entry
pub host-found : (w : ℕ) (name : HostName) → host_by_address w ≡ Some name → w ≡ host_address name
host-found w name e = by host_names e
  where
    by : (names : List HostName) → find (λ n. w == host_address n) names ≡ Some name → w ≡ host_address name
    by [] e = cc
    by (n ∷ names) e = one (w == host_address n) refl e (by names)
      where
        one : (b : Bool) → (w == host_address n) ≡ b → (if b then Some n else find (λ m. w == host_address m) names) ≡ Some name
            → (find (λ m. w == host_address m) names ≡ Some name → w ≡ host_address name) → w ≡ host_address name
        one true h e rest = let same : n ≡ name = cc in eqb-true w (host_address n) h ∙ ap host_address same
        one false h e rest = rest e

-- ---- the functions of a text
-- a node is in the function of another one, after its `prolog`
record IsBehind (c : Code) (at k : ℕ) : Type 0 where
  function : Function
  here : function_here c.shape.functions at ≡ Some function
  home_is : home c.nodes.nodes k ≡ Some function.entry
  behind : function.entry < k

module _ (c : Code) (i : ℕ) (n : Node) (t : IsInText c i n) where
  abbrev T : Text
  T = text c.nodes c.shape c.addresses

  pub entry-home : (w k : ℕ) → entry_target T w ≡ Some k → home c.nodes.nodes k ≡ Some k
  entry-home w k h = by (function_here c.shape.functions k) refl
      (last-landed (is_entry_label T) c.nodes.places c.addresses w (length c.nodes.places) k h).passes
    where
      by : (o : Option Function) → function_here c.shape.functions k ≡ o → begins o k ≡ true → home c.nodes.nodes k ≡ Some k
      by None e b = cc
      by (Some f) e b =
          let is = function_found c.nodes c.shape t.functions t.shape.functions k f e in
          let at : f.entry ≡ k = eqb-true f.entry k b in
          let order : f.entry ≤ f.last = is.order in
          is.all k (omega (arith, at)) (omega (arith, at, order)) ∙ ap Some at

  -- a taken label of the function of a node is in it, after its `prolog`
  target-after : (at w k : ℕ) → jump_target T at w ≡ Some k → IsBehind c at k
  target-after at w k h = by (function_here c.shape.functions at) refl
      (and_parts (slice_index_or c.shape.taken l.label false) (is_after (function_here c.shape.functions at) k) l.passes).1
    where
      l : LandsAt (is_target T at) c.nodes.places c.addresses w k
      l = last-landed (is_target T at) c.nodes.places c.addresses w (length c.nodes.places) k h

      by : (o : Option Function) → function_here c.shape.functions at ≡ o → is_after o k ≡ true → IsBehind c at k
      by None e b = cc
      by (Some f) e b =
          let is = function_found c.nodes c.shape t.functions t.shape.functions at f e in
          let p = and_parts (nat_lt f.entry k) (nat_le k f.last) b in
          let lt : f.entry < k = grind (arith, p.0) in
          let le : k ≤ f.last = grind (arith, p.1) in
          record { function = f; here = e; home_is = is.all k (omega (arith, lt)) le; behind = lt }

  pub target-inside : (at w k : ℕ) → jump_target T at w ≡ Some k → is_inside c k ≡ true
  target-inside at w k h =
      let b = target-after at w k h in
      let lt = b.behind in
      inner-is (home c.nodes.nodes k) k b.function.entry b.home_is (λ z. absurd (omega (arith, z, lt)))

  -- in the same function
  pub target-function : (at w k : ℕ) → jump_target T at w ≡ Some k → is_inside c at ≡ true → function_at c k ≡ function_at c at
  target-function at w k h inside =
      let b = target-after at w k h in
      let from = inside-home (home c.nodes.nodes at) at inside in
      let f = function_at_home c.nodes c.shape t.functions t.shape.functions at from.0 from.1 in
      function-same c i n t at k from.0 from.1 (b.home_is ∙ ap Some (same-entry f.0 b.function (sym f.1.here ∙ b.here) ∙ f.1.entry))
    where
      same-entry : (f g : Function) → Some f ≡ Some g → g.entry ≡ f.entry
      same-entry f g e = let same : f ≡ g = cc in ap (λ (x : Function). x.entry) (sym same)
