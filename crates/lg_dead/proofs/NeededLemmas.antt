-- Where definitions that are not needed are dropped, each that stays is of use.
use Rattle.std.proofs.Common.{◌≡◌, ◌⊎◌, inl, inr, ℕ, ◌+◌, ◌<◌, Bool, true, false, not, ◌&&◌, ◌||◌, List, [], ◌∷◌, Some, length, refl, sym, ap, ◌∙◌, subst, add-one, arith}
use Rattle.std.specs.Prelude.{slice_get, slice_index_or}
use Rattle.std.specs.Option.{option_map}
use Rattle.std.proofs.lemmas.Bool.{and_parts, or_cases, or_parts}
use Rattle.std.proofs.lemmas.Option.{slice_get_within, slice_get-map, same_Some}
use Rattle.lg_op.specs.declared.node.Node.{Node}
use Rattle.lg_op.specs.declared.operand.Operand.{Operand}
use Rattle.lg_op.specs.declared.operand.Operand.TheVariants as operand
use Rattle.lg_op.specs.declared.operand.Reg.{Reg}
use Rattle.lg_op.specs.declared.operand.Reg.TheVariants.{R0, R1, R2, V0, V1, V2, Fp}
use Rattle.lg_node.specs.declared.place.Place.TheVariants as place
use Rattle.lg_node.specs.Checks.{IsAccepted}
use Rattle.lg_node.specs.Nodes.{LabelledNodes}
use Rattle.lg_node.specs.Shapes.{TextShape, IsSuccessor, GoesBy, Way, Next, Jump, Either, Taken, Leave, way_of, target_of}
use Rattle.lg_live.specs.Uses.{is_read, is_written}
use Rattle.lg_live.specs.Liveness.{IsLive, IsLiveAfter}
use Rattle.lg_live.specs.Liveness as live
use Rattle.lg_live.specs.Definitions.{defines}
use Rattle.lg_dead.specs.Needs.{AreNeeds}
use Rattle.lg_opt.specs.Remaining.{new_number, moved_place, rewritten, no_targets, IsRewriting}
use Rattle.lg_opt.proofs.AcceptLemmas.{inside-moved, entry-stays}
use Rattle.lg_opt.proofs.MovedLemmas.{comes-from, new-count, stands, place-moved}
use Rattle.lg_opt.proofs.RemainingLemmas.{number-stays, number-goes, number-lt}
use Rattle.lg_opt.proofs.ShapeLemmas.{home-moved}
use Rattle.lg_dead.specs.Dead.{AllAreOfUse, any_needed, stays_at, stays, AreExact}
use Rattle.lg_live.specs.Needs.{IsNeeded}
use Rattle.lg_live.specs.Needs as needed
use Rattle.lg_dead.proofs.DeadRunLemmas.{next-by-defining}

no : true ≡ false → ⊥
no e = cc

-- ---- successors of nodes that stay
module _ (l : LabelledNodes) (shape new_shape : TextShape) (keep : ℕ → Bool) (r : IsRewriting l keep no_targets) (a : IsAccepted l) (et : new_shape.taken ≡ shape.taken) where
  abbrev m : LabelledNodes
  m = rewritten l keep no_targets

  abbrev nu : ℕ → ℕ
  nu = new_number keep

  target-moved : (xs : List Operand) (k : ℕ) → target_of l.places xs ≡ Some (place.Node k) → target_of m.places xs ≡ Some (place.Node (nu k))
  target-moved (operand.Label y ∷ xs) k e = place-moved l keep no_targets y ∙ ap (moved_place nu) e
  target-moved other k e = cc

  goes-moved : (i k : ℕ) (n : Node) → slice_get l.nodes i ≡ Some n → keep i ≡ true → nu k < length m.nodes → (w : Way) → GoesBy l shape i n w k → GoesBy m new_shape (nu i) n w (nu k)
  goes-moved i k n here s lt Next g = (ap nu (g.0 ∙ add-one i) ∙ number-stays keep i s, lt)
  goes-moved i k n here s lt Jump g = target-moved n.operands k g
  goes-moved i k n here s lt Either (inl g) = inl (target-moved n.operands k g)
  goes-moved i k n here s lt Either (inr g) = inr (ap nu (g.0 ∙ add-one i) ∙ number-stays keep i s, lt)
  goes-moved i k n here s lt Taken g = record {
    label = g.label;
    taken = ap (λ ts. slice_index_or ts g.label false) et ∙ g.taken;
    place = slice_get-map (moved_place nu) l.places g.label ∙ ap (option_map (moved_place nu)) g.place;
    function = nu g.function;
    here = home-moved l keep no_targets r i n here (let z = slice_get_within l.nodes i n here in omega arith) s ∙ ap (option_map nu) g.here;
    there = inside-moved l keep no_targets r a k g.function g.there g.behind;
    behind = number-lt keep g.function k g.behind (entry-stays l keep no_targets r a k g.function g.there);
  }
  goes-moved i k n here s lt Leave g = g

  pub successor-moved : (i k : ℕ) → keep i ≡ true → nu k < length m.nodes → IsSuccessor l shape i k → IsSuccessor (rewritten l keep no_targets) new_shape (new_number keep i) (new_number keep k)
  successor-moved i k s lt x = record {
    node = x.node;
    here = stands l keep no_targets i x.node x.here s;
    goes = goes-moved i k x.node x.here s lt (way_of x.node.op) x.goes;
  }

-- ---- what is needed
pub needed-inside : (l : LabelledNodes) (s : TextShape) (r : Reg) (i : ℕ) → IsNeeded l s r i → i < length l.nodes
needed-inside l s r i (needed.read_here r1 i1 n e f d) = slice_get_within l.nodes i n e
needed-inside l s r i (needed.read_for r1 q i1 k n e f w c x) = slice_get_within l.nodes i n e
needed-inside l s r i (needed.kept_to r1 i1 k n e w c x) = slice_get_within l.nodes i n e

-- what is needed is live
pub needed-live : (l : LabelledNodes) (s : TextShape) (r : Reg) (i : ℕ) → IsNeeded l s r i → IsLive l s r i
needed-live l s r i (needed.read_here r1 i1 n e f d) = live.read_here i n e f
needed-live l s r i (needed.read_for r1 q i1 k n e f w c x) = live.read_here i n e f
needed-live l s r i (needed.kept_to r1 i1 k n e w c x) = live.kept_to i k n e w c (needed-live l s r k x)

-- the one successor of a definition is the next node
pub next-only : (l : LabelledNodes) (s : TextShape) (i k : ℕ) (n : Node) → slice_get l.nodes i ≡ Some n → defines n.op ≡ true → IsSuccessor l s i k → k ≡ i + 1
next-only l s i k n e d x =
    let same : x.node ≡ n = same_Some x.node n (sym x.here ∙ e) in
    let way : way_of x.node.op ≡ Next = ap (λ (y : Node). way_of y.op) same ∙ next-by-defining n.op d in
    let g : (k ≡ i + 1) × (k < length l.nodes) = subst (λ (w : Way). GoesBy l s i x.node w k) way x.goes in
    g.0

-- ---- which registers a node writes

both-not : (b c : Bool) → (b && c) ≡ false → b ≡ true → c ≡ false
both-not true c e f = e
both-not false c e f = cc

record Found (needs : Reg → Bool) (n : Node) : Type 0 where
  register : Reg
  written : is_written n register ≡ true
  needed : needs register ≡ true

find-needed : (needs : Reg → Bool) (n : Node) → any_needed needs n ≡ true → Found needs n
find-needed needs n e = at0 (or_cases _ _ e)
  where
    one : (r : Reg) → (is_written n r && needs r) ≡ true → Found needs n
    one r e = let p = and_parts (is_written n r) (needs r) e in record { register = r; written = p.0; needed = p.1 }

    at4 : (((is_written n V1 && needs V1) ≡ true) ⊎ ((is_written n V2 && needs V2) ≡ true)) → Found needs n
    at4 (inl e) = one V1 e
    at4 (inr e) = one V2 e

    at3 : (((is_written n V0 && needs V0) ≡ true) ⊎ (((is_written n V1 && needs V1) || (is_written n V2 && needs V2)) ≡ true)) → Found needs n
    at3 (inl e) = one V0 e
    at3 (inr e) = at4 (or_cases _ _ e)

    at2 : (((is_written n R2 && needs R2) ≡ true) ⊎ (((is_written n V0 && needs V0) || ((is_written n V1 && needs V1) || (is_written n V2 && needs V2))) ≡ true)) → Found needs n
    at2 (inl e) = one R2 e
    at2 (inr e) = at3 (or_cases _ _ e)

    at1 : (((is_written n R1 && needs R1) ≡ true) ⊎ (((is_written n R2 && needs R2) || ((is_written n V0 && needs V0) || ((is_written n V1 && needs V1) || (is_written n V2 && needs V2)))) ≡ true)) → Found needs n
    at1 (inl e) = one R1 e
    at1 (inr e) = at2 (or_cases _ _ e)

    at0 : (((is_written n R0 && needs R0) ≡ true) ⊎ (((is_written n R1 && needs R1) || ((is_written n R2 && needs R2) || ((is_written n V0 && needs V0) || ((is_written n V1 && needs V1) || (is_written n V2 && needs V2))))) ≡ true)) → Found needs n
    at0 (inl e) = one R0 e
    at0 (inr e) = at1 (or_cases _ _ e)

none-needed : (needs : Reg → Bool) (n : Node) → (needs Fp ≡ false) → any_needed needs n ≡ false → (r : Reg) → is_written n r ≡ true → needs r ≡ false
none-needed needs n fp e r w = by r w
  where
    p0 : ((is_written n R0 && needs R0) ≡ false) × (((is_written n R1 && needs R1) || ((is_written n R2 && needs R2) || ((is_written n V0 && needs V0) || ((is_written n V1 && needs V1) || (is_written n V2 && needs V2))))) ≡ false)
    p0 = or_parts (is_written n R0 && needs R0) _ e

    p1 : ((is_written n R1 && needs R1) ≡ false) × (((is_written n R2 && needs R2) || ((is_written n V0 && needs V0) || ((is_written n V1 && needs V1) || (is_written n V2 && needs V2)))) ≡ false)
    p1 = or_parts (is_written n R1 && needs R1) _ p0.1

    p2 : ((is_written n R2 && needs R2) ≡ false) × (((is_written n V0 && needs V0) || ((is_written n V1 && needs V1) || (is_written n V2 && needs V2))) ≡ false)
    p2 = or_parts (is_written n R2 && needs R2) _ p1.1

    p3 : ((is_written n V0 && needs V0) ≡ false) × (((is_written n V1 && needs V1) || (is_written n V2 && needs V2)) ≡ false)
    p3 = or_parts (is_written n V0 && needs V0) _ p2.1

    p4 : ((is_written n V1 && needs V1) ≡ false) × ((is_written n V2 && needs V2) ≡ false)
    p4 = or_parts (is_written n V1 && needs V1) _ p3.1

    by : (r : Reg) → is_written n r ≡ true → needs r ≡ false
    by R0 w = both-not (is_written n R0) (needs R0) p0.0 w
    by R1 w = both-not (is_written n R1) (needs R1) p1.0 w
    by R2 w = both-not (is_written n R2) (needs R2) p2.0 w
    by V0 w = both-not (is_written n V0) (needs V0) p3.0 w
    by V1 w = both-not (is_written n V1) (needs V1) p4.0 w
    by V2 w = both-not (is_written n V2) (needs V2) p4.1 w
    by Fp w = fp

not-both : (b c : Bool) → (not b || c) ≡ false → (b ≡ true) × (c ≡ false)
not-both true c e = (refl, e)
not-both false c e = cc

not-one : (b c : Bool) → (not b || c) ≡ true → b ≡ true → c ≡ true
not-one true c e f = e
not-one false c e f = cc

-- ---- a table that is exact serves the run
module _ (l : LabelledNodes) (shape : TextShape) (needs : ℕ → Reg → Bool) (exact : AreExact l shape needs) (fp : (i : ℕ) → needs i Fp ≡ false) where
  kept-use : (i : ℕ) (n : Node) → slice_get l.nodes i ≡ Some n → stays needs l i ≡ true → defines n.op ≡ true → Found (needs (i + 1)) n
  kept-use i n e s d = find-needed (needs (i + 1)) n (not-one (defines n.op) (any_needed (needs (i + 1)) n) (ap (stays_at (needs (i + 1))) (sym e) ∙ s) d)

  next-of : (i : ℕ) (n : Node) (q : Reg) → slice_get l.nodes i ≡ Some n → defines n.op ≡ true → needs (i + 1) q ≡ true → IsSuccessor l shape i (i + 1)
  next-of i n q e d x = record { node = n; here = e; goes = subst (λ (w : Way). GoesBy l shape i n w (i + 1)) (sym (next-by-defining n.op d)) (refl, needed-inside l shape q (i + 1) ((exact (i + 1) q).0 x)) }

  pub are-needs : AreNeeds l shape (stays needs l) needs
  are-needs = record {
    reads = reads;
    passes = λ i k n r e c x w. (exact i r).1 (needed.kept_to r i k n e w c ((exact k r).0 x));
    inside = λ k r x. needed-inside l shape r k ((exact k r).0 x);
    gone = λ i n e s.
        let p = not-both (defines n.op) (any_needed (needs (i + 1)) n) (ap (stays_at (needs (i + 1))) (sym e) ∙ s) in
        (p.0, none-needed (needs (i + 1)) n (fp (i + 1)) p.1);
  }
    where
      reads : (i : ℕ) (n : Node) (r : Reg) → slice_get l.nodes i ≡ Some n → stays needs l i ≡ true → is_read n r ≡ true → needs i r ≡ true
      reads i n r e s f = by (defines n.op) refl
        where
          by : (b : Bool) → defines n.op ≡ b → needs i r ≡ true
          by false d = (exact i r).1 (needed.read_here r i n e f d)
          by true d =
              let q = kept-use i n e s d in
              (exact i r).1 (needed.read_for r q.register i (i + 1) n e f q.written (next-of i n q.register e d q.needed) ((exact (i + 1) q.register).0 q.needed))

  module _ (new_shape : TextShape) (r : IsRewriting l (stays needs l) no_targets) (a : IsAccepted l) (et : new_shape.taken ≡ shape.taken) where
    abbrev keep : ℕ → Bool
    keep = stays needs l

    abbrev res : LabelledNodes
    res = rewritten l (stays needs l) no_targets

    abbrev num : ℕ → ℕ
    num = new_number (stays needs l)

    -- a definition that is dropped writes nothing that is needed
    idle : (i k : ℕ) (n : Node) (q : Reg) → slice_get l.nodes i ≡ Some n → keep i ≡ false → is_written n q ≡ true → IsSuccessor l shape i k → IsNeeded l shape q k → ⊥
    idle i k n q e s w c x =
        let p = not-both (defines n.op) (any_needed (needs (i + 1)) n) (ap (stays_at (needs (i + 1))) (sym e) ∙ s) in
        let here : needs (i + 1) q ≡ true = (exact (i + 1) q).1 (subst (IsNeeded l shape q) (next-only l shape i k n e p.0 c) x) in
        no (sym here ∙ none-needed (needs (i + 1)) n (fp (i + 1)) p.1 q w)

    -- what is needed is needed still
    pub needed-moved : (q : Reg) (i : ℕ) → IsNeeded l shape q i → IsNeeded (rewritten l (stays needs l) no_targets) new_shape q (new_number (stays needs l) i)
    needed-moved q i (needed.read_here r1 i1 n e f d) = by (keep i) refl
      where
        by : (b : Bool) → keep i ≡ b → IsNeeded res new_shape q (num i)
        by true s = needed.read_here q (num i) n (stands l keep no_targets i n e s) f d
        by false s = let p = not-both (defines n.op) (any_needed (needs (i + 1)) n) (ap (stays_at (needs (i + 1))) (sym e) ∙ s) in absurd (no (sym p.0 ∙ d))
    needed-moved q i (needed.read_for r1 o i1 k n e f w c x) = by (keep i) refl (needed-moved o k x)
      where
        by : (b : Bool) → keep i ≡ b → IsNeeded res new_shape o (num k) → IsNeeded res new_shape q (num i)
        by true s y = needed.read_for q o (num i) (num k) n (stands l keep no_targets i n e s) f w (successor-moved l shape new_shape keep r a et i k s (needed-inside res new_shape o (num k) y) c) y
        by false s y = absurd (idle i k n o e s w c x)
    needed-moved q i (needed.kept_to r1 i1 k n e w c x) = by (keep i) refl (needed-moved q k x)
      where
        by : (b : Bool) → keep i ≡ b → IsNeeded res new_shape q (num k) → IsNeeded res new_shape q (num i)
        by true s y = needed.kept_to q (num i) (num k) n (stands l keep no_targets i n e s) w (successor-moved l shape new_shape keep r a et i k s (needed-inside res new_shape q (num k) y) c) y
        by false s y =
            let p = not-both (defines n.op) (any_needed (needs (i + 1)) n) (ap (stays_at (needs (i + 1))) (sym e) ∙ s) in
            subst (IsNeeded res new_shape q) (ap num (next-only l shape i k n e p.0 c ∙ add-one i) ∙ number-goes keep i s) y

    -- so each definition of the result is of use
    pub all-of-use : AllAreOfUse (rewritten l (stays needs l) no_targets) new_shape
    all-of-use k n e d =
        let o = comes-from keep l k (let count = new-count l keep no_targets in let lt = slice_get_within res.nodes k n e in omega arith) in
        let same : n ≡ o.node = same_Some n o.node (sym e ∙ ap (slice_get res.nodes) (sym o.number) ∙ stands l keep no_targets o.index o.node o.here o.kept) in
        let d' : defines o.node.op ≡ true = ap (λ (x : Node). defines x.op) (sym same) ∙ d in
        let f = kept-use o.index o.node o.here o.kept d' in
        let y = needed-moved f.register (o.index + 1) ((exact (o.index + 1) f.register).0 f.needed) in
        let c = successor-moved l shape new_shape keep r a et o.index (o.index + 1) o.kept (needed-inside res new_shape f.register (num (o.index + 1)) y) (next-of o.index o.node f.register o.here d' f.needed) in
        record {
          register = f.register;
          next = num (o.index + 1);
          written = ap (λ (x : Node). is_written x f.register) same ∙ f.written;
          successor = subst (λ j. IsSuccessor res new_shape j (num (o.index + 1))) o.number c;
          needed = y;
        }
