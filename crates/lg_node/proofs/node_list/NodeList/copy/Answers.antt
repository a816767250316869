use Rattle.std.proofs.Common.{◌≡◌, ◌<◌, ◌^◌, ℕ, zero, suc, true, arith, get_or, List, [], ◌∷◌, map, length, refl, ap, ap₂, sym, subst, ◌∙◌, Vec, Global, vec_len}
use Rattle.std.specs.List.{All, AllZip}
use Rattle.lg_op.specs.Nodes.{InForm}
use Rattle.lg_node.specs.Nodes.{LabelledNodes, is_word}
use Rattle.lg_node.specs.Chains.{BoundLabels}
use Rattle.lg_node.proofs.node_list.NodeList.copy.Goals as goal

same-bytes : (xs ys : List ℕ) → AllZip (λ x y. y ≡ x) xs ys → ys ≡ xs
same-bytes [] [] h = refl
same-bytes [] (y ∷ ys) h = absurd h
same-bytes (x ∷ xs) [] h = absurd h
same-bytes (x ∷ xs) (y ∷ ys) h = ap₂ (λ b bs. b ∷ bs) h.0 (same-bytes xs ys h.1)

-- copies of words, one by one, have the same bytes
same-words : (xs ys : List (Vec ℕ Global)) → AllZip (λ v w. AllZip (λ x y. y ≡ x) v.items w.items × (vec_len w ≡ vec_len v)) xs ys → map (λ w. w.items) ys ≡ map (λ w. w.items) xs
same-words [] [] h = refl
same-words [] (y ∷ ys) h = absurd h
same-words (x ∷ xs) [] h = absurd h
same-words (x ∷ xs) (y ∷ ys) h = ap₂ (λ b bs. b ∷ bs) (same-bytes x.items y.items h.0.0) (same-words xs ys h.1)

-- so there are as many, and they are words where the others are
same-count : (xs ys : List (Vec ℕ Global)) → map (λ w. w.items) ys ≡ map (λ w. w.items) xs → length ys ≡ length xs
same-count [] [] e = refl
same-count [] (y ∷ ys) e = cc
same-count (x ∷ xs) [] e = cc
same-count (x ∷ xs) (y ∷ ys) e = let rest : map (λ (w : Vec ℕ Global). w.items) ys ≡ map (λ (w : Vec ℕ Global). w.items) xs = cc in ap suc (same-count xs ys rest)

words-of : (xs ys : List (Vec ℕ Global)) → map (λ w. w.items) ys ≡ map (λ w. w.items) xs → ((k : ℕ) (d : Vec ℕ Global) → k < length xs → is_word (get_or xs k d).items ≡ true)
    → (k : ℕ) (d : Vec ℕ Global) → k < length ys → is_word (get_or ys k d).items ≡ true
words-of [] [] e h k d lt = h k d lt
words-of [] (y ∷ ys) e h k d lt = cc
words-of (x ∷ xs) [] e h k d lt = cc
words-of (x ∷ xs) (y ∷ ys) e h zero d lt = let same : x.items ≡ y.items = cc in subst (λ (b : List ℕ). is_word b ≡ true) same (h zero d (omega arith))
words-of (x ∷ xs) (y ∷ ys) e h (suc k) d lt =
    let rest : map (λ (w : Vec ℕ Global). w.items) ys ≡ map (λ (w : Vec ℕ Global). w.items) xs = cc in
    let words : (j : ℕ) (c : Vec ℕ Global) → j < length xs → is_word (get_or xs j c).items ≡ true = λ j c less. h (suc j) c (omega arith) in
    words-of xs ys rest words k d (omega arith)

pub invariant_of-result : goal.invariant_of-result
invariant_of-result c =
    let i = c.self.invariant in
    let e = same-words c.self.inside.words.keys c.in_ok-words.words.keys c.in_ok-words.ensures.cases in
    let count = same-count c.self.inside.words.keys c.in_ok-words.words.keys e in
    let nodes = c.in_ok-nodes.ensures.items ∙ c.deref.ensures.value in
    let bindings : c.in_ok-bindings.bindings ≡ c.self.inside.bindings = c.in_ok-bindings.ensures in
    record {
      paired = ap (λ (b : BoundLabels). length b.places) bindings ∙ i.paired ∙ sym count;
      counted = ap (λ (b : BoundLabels). b.nodes) bindings ∙ i.counted ∙ sym (ap length nodes);
      nodes = subst (λ xs. length xs < 2 ^ 32) (sym nodes) i.nodes;
      labels = subst (λ n. n < 2 ^ 32) (sym count) i.labels;
      formed = subst (λ xs. All InForm xs) (sym nodes) i.formed;
      worded = words-of c.self.inside.words.keys c.in_ok-words.words.keys e i.worded;
    }

pub returns : goal.returns
returns c =
    let words = same-words c.self.inside.words.keys c.in_ok-words.words.keys c.in_ok-words.ensures.cases in
    let nodes = c.in_ok-nodes.ensures.items ∙ c.deref.ensures.value in
    let bindings : c.in_ok-bindings.bindings ≡ c.self.inside.bindings = c.in_ok-bindings.ensures in
    let same : ◌≡◌ {A = LabelledNodes} record { nodes = c.in_ok-nodes.nodes.items; words = map (λ w. w.items) c.in_ok-words.words.keys; places = c.in_ok-bindings.bindings.places } record { nodes = c.self.inside.nodes.items; words = map (λ w. w.items) c.self.inside.words.keys; places = c.self.inside.bindings.places } = λ i. record { nodes = nodes i; words = words i; places = (bindings i).places } in
    same ∙ c.self.view_is
