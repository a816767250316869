-- How a label gets into the tables of where words lead.
use Rattle.std.proofs.Common.{◌≡◌, ℕ, zero, suc, length, ◌+◌, ◌<◌, ◌≤◌, Bool, true, false, List, [], Option, Some, None, refl, sym, ap, ◌∙◌, subst, arith}
use Rattle.std.specs.Prelude.{◌==◌, ◌&&◌, nat_eq, nat_lt, nat_le, if◌then◌else◌, slice_get, slice_index, slice_index_or}
use Rattle.std.specs.Map.{lookup}
use Rattle.std.specs.Option.{option_flatten}
use Rattle.std.proofs.lemmas.Option.{same_Some}
use Rattle.lg_node.specs.declared.function.Function.{Function}
use Rattle.lg_node.specs.declared.place.Place.{Place}
use Rattle.lg_node.specs.declared.place.Place.TheVariants as place
use Rattle.lg_node.specs.Nodes.{LabelledNodes}
use Rattle.lg_node.specs.Functions.{home, functions, IsFunction}
use Rattle.lg_node.specs.Shapes.{TextShape}
use Rattle.lg_node.specs.ShapeLaws.{HasFunctions}
use Rattle.lg_meaning.specs.Steps.{Text, later, landing, last_landing, function_here, is_after, begins, is_entry_label, is_target, jump_target}
use Rattle.lg_meaning.specs.Texts.{text}
use Rattle.lg_meaning.proofs.FunctionFacts.{function_at_home, same_function, IsAt}
use Rattle.lg_mean.specs.Programs.{pair_eq, is_jump_key, lands_in, jump_in, call_among, LeadsAmong, entry_after, jump_entry}
use Rattle.lg_mean.proofs.LandingLemmas.{last_landing-none, last_landing-next}

-- a label that is bound at no node
abbrev pub IsElsewhere : Option Place → Type 0
IsElsewhere (Some (place.Node k)) = ⊥
IsElsewhere o = Unit {0}

abbrev is_entry : ℕ → Option ℕ → Bool
is_entry e None = false
is_entry e (Some x) = nat_eq x e

later_if : (b : Bool) (k : ℕ) (o : Option ℕ) → later (if b then Some k else None) o ≡ (if b then later (Some k) o else o)
later_if true k o = refl
later_if false k o = refl

and_comm : (b c : Bool) → b && c ≡ c && b
and_comm true true = refl
and_comm true false = refl
and_comm false true = refl
and_comm false false = refl

none_some : {A : Type 0} (x : A) → ◌≡◌ {A = Option A} None (Some x) → ⊥
none_some x e = cc

-- ---- the function of a node
pub record IsHere (l : LabelledNodes) (k : ℕ) (g : Function) : Type 0 where
  pub is : IsFunction l.nodes g
  pub from : g.entry ≤ k
  pub to : k ≤ g.last

module _ (l : LabelledNodes) (shape : TextShape) (A : List ℕ) (hf : HasFunctions l) (fe : shape.functions ≡ functions l.nodes) where
  here_in : (k : ℕ) (g : Function) (h : Option ℕ) → home l.nodes k ≡ h → function_here shape.functions k ≡ Some g → IsHere l k g
  here_in k g None out e = absurd (none_some g (sym outside ∙ e))
    where
      outside : function_here shape.functions k ≡ None
      outside = rw (fe, (hf.outside k out).0) refl
  here_in k g (Some p) inside e =
      let x : (f : Function) × IsAt l shape k p f = function_at_home l shape hf fe k p inside in
      let same : x.0 ≡ g = same_Some x.0 g (sym x.1.here ∙ e) in
      let is : IsFunction l.nodes g = subst (IsFunction l.nodes) same x.1.is in
      let entry : g.entry ≡ p = ap (λ (f : Function). f.entry) (sym same) ∙ x.1.entry in
      let range = is.only k (inside ∙ ap Some (sym entry)) in
      record { is = is; from = range.0; to = range.1 }

  pub here : (k : ℕ) (g : Function) → function_here shape.functions k ≡ Some g → IsHere l k g
  here k g e = here_in k g (home l.nodes k) refl e

  -- ---- a label that is taken and bound after the `prolog` of a function
  after_none : (f : Function) → IsFunction l.nodes f → (k : ℕ) → function_here shape.functions k ≡ None → is_after (Some f) k ≡ false
  after_none f i k e = by (is_after (Some f) k) refl
    where
      by : (b : Bool) → is_after (Some f) k ≡ b → is_after (Some f) k ≡ false
      by false t = t
      by true t =
          let lt : f.entry < k = grind (arith, t) in
          let le : k ≤ f.last = grind (arith, t) in
          let x = function_at_home l shape hf fe k f.entry (i.all k (omega (arith, lt)) le) in
          absurd (none_some x.0 (sym e ∙ x.1.here))

  after_some : (f g : Function) → IsFunction l.nodes f → (k : ℕ) → IsHere l k g → is_after (Some f) k ≡ is_entry f.entry (entry_after (Some g) k)
  after_some f g i k x = by (nat_eq g.entry f.entry) refl (nat_lt g.entry k) refl
    where
      to : f ≡ g → nat_le k f.last ≡ true
      to e = rw e (grind (arith, x.to))

      by : (b : Bool) → nat_eq g.entry f.entry ≡ b → (c : Bool) → nat_lt g.entry k ≡ c → is_after (Some f) k ≡ is_entry f.entry (if nat_lt g.entry k then Some g.entry else None)
      by true e c t =
          let entry : f.entry ≡ g.entry = grind (arith, e) in
          let same : f ≡ g = same_function l f g i x.is entry in
          let lt : nat_lt f.entry k ≡ c = rw entry t in
          rw (lt, to same, t) (last c e)
        where
          last : (c : Bool) → nat_eq g.entry f.entry ≡ true → c && true ≡ is_entry f.entry (if c then Some g.entry else None)
          last true e = sym e
          last false e = refl
      by false e c t = never (is_after (Some f) k) refl ∙ sym (rw t (last c))
        where
          last : (c : Bool) → is_entry f.entry (if c then Some g.entry else None) ≡ false
          last true = e
          last false = refl

          never : (b : Bool) → is_after (Some f) k ≡ b → is_after (Some f) k ≡ false
          never false u = u
          never true u =
              let lt : f.entry < k = grind (arith, u) in
              let le : k ≤ f.last = grind (arith, u) in
              let entry : f.entry ≡ g.entry = same_Some f.entry g.entry (sym (i.all k (omega (arith, lt)) le) ∙ x.is.all k x.from x.to) in
              let no_more : ⊥ = grind (arith, e, entry) in
              absurd no_more

  lands : (f : Function) → IsFunction l.nodes f → (label k : ℕ) → lands_in (text l shape A) f label k ≡ is_entry f.entry (jump_entry (text l shape A) label k)
  lands f i label k = by (slice_index_or shape.taken label false) (function_here shape.functions k) refl
    where
      by : (taken : Bool) (o : Option Function) → function_here shape.functions k ≡ o → taken && is_after (Some f) k ≡ is_entry f.entry (if taken then entry_after (function_here shape.functions k) k else None)
      by false o e = refl
      by true None e = rw e (after_none f i k e)
      by true (Some g) e = rw e (after_some f g i k (here k g e))

  -- ---- one label more
  module _ (label k : ℕ) (bound : slice_get l.places label ≡ Some (Some (place.Node k))) where
    landing_is : (test : ℕ → ℕ → Bool) (w : ℕ) → landing test l.places A w label ≡ (if (slice_index A label == w) && test label k then Some k else None)
    landing_is test w = rw bound refl

    jump_next : (f : Function) → IsFunction l.nodes f → (w : ℕ) → jump_in (text l shape A) f w (label + 1) ≡ (if is_jump_key (jump_entry (text l shape A) label k) (slice_index A label) (f.entry, w) then later (Some k) (jump_in (text l shape A) f w label) else jump_in (text l shape A) f w label)
    jump_next f i w =
        last_landing-next (lands_in (text l shape A) f) l.places A w label
        ∙ ap (λ o. later o (jump_in (text l shape A) f w label)) (landing_is (lands_in (text l shape A) f) w ∙ ap (λ b. if (slice_index A label == w) && b then Some k else None) (lands f i label k) ∙ ap (λ b. if b then Some k else None) (by (jump_entry (text l shape A) label k)))
        ∙ later_if (is_jump_key (jump_entry (text l shape A) label k) (slice_index A label) (f.entry, w)) k (jump_in (text l shape A) f w label)
      where
        by : (o : Option ℕ) → (slice_index A label == w) && is_entry f.entry o ≡ is_jump_key o (slice_index A label) (f.entry, w)
        by None = and_comm (slice_index A label == w) false
        by (Some e) = and_comm (slice_index A label == w) (nat_eq e f.entry)

    call_next : (w : ℕ) → call_among (text l shape A) w (label + 1) ≡ (if begins (function_here shape.functions k) k && nat_eq (slice_index A label) w then later (Some k) (call_among (text l shape A) w label) else call_among (text l shape A) w label)
    call_next w =
        last_landing-next (is_entry_label (text l shape A)) l.places A w label
        ∙ ap (λ o. later o (call_among (text l shape A) w label)) (landing_is (is_entry_label (text l shape A)) w ∙ ap (λ b. if b then Some k else None) (and_comm (slice_index A label == w) (begins (function_here shape.functions k) k)))
        ∙ later_if (begins (function_here shape.functions k) k && nat_eq (slice_index A label) w) k (call_among (text l shape A) w label)

    pub one_more : (jumps jumps' : List ((ℕ × ℕ) × ℕ)) (calls calls' : List (ℕ × ℕ))
        → LeadsAmong l (text l shape A) jumps calls label
        → ((key : ℕ × ℕ) → lookup (pair_eq key) jumps' ≡ (if is_jump_key (jump_entry (text l shape A) label k) (slice_index A label) key then later (Some k) (lookup (pair_eq key) jumps) else lookup (pair_eq key) jumps))
        → ((key : ℕ) → lookup (nat_eq key) calls' ≡ (if begins (function_here shape.functions k) k && nat_eq (slice_index A label) key then later (Some k) (lookup (nat_eq key) calls) else lookup (nat_eq key) calls))
        → LeadsAmong l (text l shape A) jumps' calls' (label + 1)
    one_more jumps jumps' calls calls' leads j c = record {
      jumped = λ f i w. j (f.entry, w) ∙ ap (λ o. if is_jump_key (jump_entry (text l shape A) label k) (slice_index A label) (f.entry, w) then later (Some k) o else o) (leads.jumped f i w) ∙ sym (jump_next f i w);
      called = λ w. c w ∙ ap (λ o. if begins (function_here shape.functions k) k && nat_eq (slice_index A label) w then later (Some k) o else o) (leads.called w) ∙ sym (call_next w);
    }

  -- ---- where a jump leads
  pub jumps_to : (at w : ℕ) (f : Function) (jumps : List ((ℕ × ℕ) × ℕ)) (calls : List (ℕ × ℕ)) → function_here shape.functions at ≡ Some f
      → LeadsAmong l (text l shape A) jumps calls (length l.places) → lookup (pair_eq (f.entry, w)) jumps ≡ jump_target (text l shape A) at w
  jumps_to at w f jumps calls e leads = leads.jumped f (here at f e).is w ∙ sym (ap (λ (o : Option Function). last_landing (λ x k. slice_index_or shape.taken x false && is_after o k) l.places A w (length l.places)) e)

-- ---- a word that leads nowhere
module _ (test : ℕ → ℕ → Bool) (h : (l k : ℕ) → test l k ≡ false) (places : List (Option Place)) (A : List ℕ) (w : ℕ) where
  landing_never : (l : ℕ) (o : Option Place) → option_flatten (slice_get places l) ≡ o → landing test places A w l ≡ None
  landing_never l None e = rw e refl
  landing_never l (Some (place.Image i)) e = rw e refl
  landing_never l (Some (place.Node k)) e = rw e (ap (λ b. if b then Some k else None) (ap (λ b. (slice_index A l == w) && b) (h l k) ∙ and_comm (slice_index A l == w) false))

  lands_never : (n : ℕ) → last_landing test places A w n ≡ None
  unfolding last_landing
  lands_never zero = refl
  lands_never (suc n) = ap (λ o. later o (last_landing test places A w n)) (landing_never n (option_flatten (slice_get places n)) refl) ∙ lands_never n

pub jumps_nowhere : (t : Text) (at w : ℕ) → function_here t.functions at ≡ None → jump_target t at w ≡ None
jumps_nowhere t at w e = lands_never (is_target t at) (λ l k. rw e (and_comm (slice_index_or t.taken l false) false)) t.places t.addresses w (length t.places)

-- ---- a label that is bound at no node
module _ (l : LabelledNodes) (shape : TextShape) (A : List ℕ) where
  pub none_more : (label : ℕ) (o : Option Place) → slice_get l.places label ≡ Some o → IsElsewhere o
      → (jumps : List ((ℕ × ℕ) × ℕ)) (calls : List (ℕ × ℕ)) → LeadsAmong l (text l shape A) jumps calls label → LeadsAmong l (text l shape A) jumps calls (label + 1)
  none_more label o e out jumps calls leads = record {
    jumped = λ f i w. leads.jumped f i w ∙ sym (last_landing-next (lands_in (text l shape A) f) l.places A w label ∙ ap (λ x. later x (jump_in (text l shape A) f w label)) (nowhere o e out (lands_in (text l shape A) f) w));
    called = λ w. leads.called w ∙ sym (last_landing-next (is_entry_label (text l shape A)) l.places A w label ∙ ap (λ x. later x (call_among (text l shape A) w label)) (nowhere o e out (is_entry_label (text l shape A)) w));
  }
    where
      nowhere : (o : Option Place) → slice_get l.places label ≡ Some o → IsElsewhere o → (test : ℕ → ℕ → Bool) (w : ℕ) → landing test l.places A w label ≡ None
      nowhere None e out test w = rw e refl
      nowhere (Some (place.Image at)) e out test w = rw e refl
      nowhere (Some (place.Node at)) e out test w = absurd out

-- ---- before the first label
pub none_yet : (l : LabelledNodes) (t : Text) → LeadsAmong l t [] [] 0
none_yet l t = record { jumped = λ f i w. last_landing-none _ _ _ _; called = λ w. last_landing-none _ _ _ _ }
