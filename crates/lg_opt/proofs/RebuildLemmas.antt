-- How a list is built anew.
use Rattle.std.proofs.Common.{◌≡◌, ℕ, suc, ◌+◌, ◌<◌, ◌≤◌, Bool, true, false, not, ◌||◌, cond, List, [], ◌∷◌, ◌++◌, Option, Some, None, length, length-append, map, take, get_or, refl, sym, ap, ◌∙◌, arith, add-one, ⊎_elim, append-nil}
use Rattle.std.specs.Prelude.{if◌then◌else◌, replicate, slice_get, slice_index_or, slice_set}
use Rattle.std.specs.List.{All, list_any, position_or_len}
use Rattle.std.proofs.Math.Seq.{take-length}
use Rattle.std.proofs.lemmas.List.Elements.{All-head, All-tail}
use Rattle.std.specs.Option.{option_map, option_to_list}
use Rattle.std.specs.Str.{bytes_eq}
use Rattle.std.proofs.lemmas.Bool.Decides.{eqb_tells}
use Rattle.std.proofs.lemmas.List.{take_more, replicate-append-replicate, get_or-set_same, get_or-set_other, set-get_or}
use Rattle.std.proofs.lemmas.Option.{slice_get_within, get_or_from_slice_get, slice_get-map}
use Rattle.lg_op.specs.Forms.{last_form, forms_of, admit}
use Rattle.lg_op.specs.Nodes.{InForm, IsApart}
use Rattle.lg_op.specs.declared.form.Form.{Form}
use Rattle.lg_op.specs.declared.form.Form.TheVariants as form
use Rattle.lg_op.specs.declared.node.Node.{Node}
use Rattle.lg_op.specs.declared.op.Op.{Op}
use Rattle.lg_op.specs.declared.op.Op.TheVariants as op
use Rattle.lg_op.specs.declared.op.ControlOp.TheVariants as control
use Rattle.lg_op.specs.declared.op.LastOperand.TheVariants as last_operand
use Rattle.lg_op.specs.declared.operand.Label.{Label}
use Rattle.lg_op.specs.declared.operand.Operand.{Operand}
use Rattle.lg_op.specs.declared.operand.Operand.TheVariants as operand
use Rattle.lg_node.specs.declared.place.Place.{Place}
use Rattle.lg_node.specs.declared.place.Place.TheVariants as place
use Rattle.lg_node.specs.Nodes.{LabelledNodes, MayStand, mentioned, number_of, with_node}
use Rattle.lg_node.specs.ShapeLaws.{has_target}
use Rattle.lg_opt.specs.Remaining.{new_number, remaining, moved_place, with_first}
use Rattle.lg_opt.specs.Rewritings.{unbound}

-- ---- labels of another list
none-found : {A : Type 0} (p : A → Bool) (xs : List A) → position_or_len p xs ≡ length xs → list_any p xs ≡ false
none-found p [] e = refl
none-found p (x ∷ xs) e = by (p x) refl e (none-found p xs)
  where
    by : (b : Bool) → p x ≡ b → cond (not b) (1 + position_or_len p xs) 0 ≡ length (x ∷ xs) → (position_or_len p xs ≡ length xs → list_any p xs ≡ false) → list_any p (x ∷ xs) ≡ false
    by true f e again = absurd (omega (arith, e))
    by false f e again = ap (λ b. b || list_any p xs) f ∙ again (omega (arith, e))

-- one word more
pub record IsMentioned (all : List (List ℕ)) (i : ℕ) (l : LabelledNodes) : Type 0 where
  pub nodes : l.nodes ≡ []
  pub words : l.words ≡ take i all
  pub places : l.places ≡ replicate i None
  pub count : length l.words ≡ i

pub mention-next : (words : List (List ℕ)) (i : ℕ) (l m : LabelledNodes) (word : List ℕ) (label : ℕ) → IsMentioned words i l → Some word ≡ slice_get words i → m ≡ mentioned l word → label ≡ number_of l.words word → label ≡ i → IsMentioned words (i + 1) m
mention-next words i l m word label h here is number same =
    let absent : list_any (bytes_eq word) l.words ≡ false = none-found (bytes_eq word) l.words (sym number ∙ same ∙ sym h.count) in
    let new : m ≡ record l { words = l.words ++ word ∷ []; places = l.places ++ None ∷ [] } = is ∙ ap (λ b. if b then l else record l { words = l.words ++ word ∷ []; places = l.places ++ None ∷ [] }) absent in
    record {
      nodes = ap (λ x. x.nodes) new ∙ h.nodes;
      words = ap (λ x. x.words) new ∙ ap (λ ws. ws ++ word ∷ []) h.words ∙ ap (λ w. take i words ++ w ∷ []) (sym (get_or_from_slice_get words i word [] (sym here))) ∙ sym (more (sym here));
      places = ap (λ x. x.places) new ∙ ap (λ ps. ps ++ None ∷ []) h.places ∙ replicate-append-replicate i 1 None;
      count = ap (λ x. length x.words) new ∙ length-append l.words (word ∷ []) ∙ ap (λ n. n + 1) h.count;
    }
  where
    more : slice_get words i ≡ Some word → take (i + 1) words ≡ take i words ++ get_or words i [] ∷ []
    more e = take_more words i [] (slice_get_within words i word e)

-- a list of these parts
pub from-parts : (l : LabelledNodes) (ns : List Node) (ws : List (List ℕ)) (ps : List (Option Place)) → l.nodes ≡ ns → l.words ≡ ws → l.places ≡ ps → l ≡ record { nodes = ns; words = ws; places = ps }
from-parts l ns ws ps a b c =
    ap (λ x. record { nodes = x; words = l.words; places = l.places }) a ∙ ap (λ x. record { nodes = ns; words = x; places = l.places }) b
    ∙ ap (λ x. record { nodes = ns; words = ws; places = x }) c

pub mentioned-none : (words : List (List ℕ)) (l : LabelledNodes) → l ≡ record { nodes = []; words = []; places = [] } → IsMentioned words 0 l
mentioned-none words l e = record { nodes = ap (λ x. x.nodes) e; words = ap (λ x. x.words) e; places = ap (λ x. x.places) e; count = ap (λ x. length x.words) e }

pub mentioned-all : (words : List (List ℕ)) (i n : ℕ) (l : LabelledNodes) → IsMentioned words i l → n ≡ length words → n ≤ i → i ≤ n → l ≡ unbound words
mentioned-all words i n l h e le ge =
    let same : i ≡ length words = omega (arith, e) in
    from-parts l [] words (replicate (length words) None) h.nodes (h.words ∙ ap (λ k. take k words) same ∙ take-length words) (h.places ∙ ap (λ k. replicate k None) same)

-- ---- nodes in form
pub form-kept : (n : Node) (y : Label) → InForm n → has_target n.op ≡ true → InForm (record n { operands = with_first n.operands y })
form-kept n y h t = record { forms = by n.op n.operands t h.forms; apart = apart n.op (with_first n.operands y) t }
  where
    first : (fs : List Form) (xs : List Operand) → admit (form.Target ∷ fs) xs ≡ true → admit (form.Target ∷ fs) (with_first xs y) ≡ true
    first fs [] e = e
    first fs (operand.Label z ∷ xs) e = e
    first fs (operand.Reg z ∷ xs) e = cc
    first fs (operand.Number z ∷ xs) e = cc
    first fs (operand.Host z ∷ xs) e = cc
    first fs (operand.Slot z ∷ xs) e = cc

    by : (o : Op) (xs : List Operand) → has_target o ≡ true → admit (forms_of o) xs ≡ true → admit (forms_of o) (with_first xs y) ≡ true
    by (op.Branch c last) xs t e = first (form.Read ∷ last_form last ∷ []) xs e
    by (op.BranchSum o last) xs t e = first (form.Update ∷ last_form last ∷ []) xs e
    by (op.Control control.Jmp last_operand.Immediate) xs t e = first [] xs e
    by o xs t e = cc

    apart : (o : Op) (xs : List Operand) → has_target o ≡ true → IsApart o xs
    apart (op.Branch c last) xs t = tt
    apart (op.BranchSum o last) xs t = tt
    apart (op.Control control.Jmp last_operand.Immediate) xs t = tt
    apart o xs t = cc

-- ---- one node more
pub remaining-next : {X : Type 0} (stays : ℕ → Bool) (node : ℕ → Option X) (i : ℕ) (x : X) → node i ≡ Some x → remaining stays node (i + 1) ≡ remaining stays node i ++ cond (stays i) (x ∷ []) []
unfolding remaining
remaining-next stays node i x e = ap (remaining stays node) (add-one i) ∙ ap (λ o. remaining stays node i ++ cond (stays i) (option_to_list o) []) e

pub remaining-none : {X : Type 0} (stays : ℕ → Bool) (node : ℕ → Option X) → remaining stays node 0 ≡ []
unfolding remaining
remaining-none stays node = refl

pub number-next : (stays : ℕ → Bool) (i : ℕ) → new_number stays (i + 1) ≡ new_number stays i + cond (stays i) 1 0
unfolding new_number
number-next stays i = ap (new_number stays) (add-one i)

pub grown : {X : Type 0} (b : Bool) (xs : List X) (x : X) (ys : List X) → ys ≡ xs ++ cond b (x ∷ []) [] → length ys ≤ length xs + 1
grown b xs x ys e = by b (ap length e ∙ length-append xs (cond b (x ∷ []) []))
  where
    by : (b : Bool) → length ys ≡ length xs + length (cond b (x ∷ []) []) → length ys ≤ length xs + 1
    by true h = omega (arith, h)
    by false h = omega (arith, h)

-- ---- labels that are bound
pub same-lists : {A : Type 0} (d : A) (xs ys : List A) → length xs ≡ length ys → ((k : ℕ) → k < length xs → slice_index_or xs k d ≡ slice_index_or ys k d) → xs ≡ ys
same-lists d [] [] e h = refl
same-lists d [] (y ∷ ys) e h = absurd (omega (arith, e))
same-lists d (x ∷ xs) [] e h = absurd (omega (arith, e))
same-lists d (x ∷ xs) (y ∷ ys) e h =
    let first : x ≡ y = h 0 (omega arith) in
    let rest : xs ≡ ys = same-lists d xs ys (omega (arith, e)) (λ k lt. h (suc k) (omega (arith, lt))) in
    ap (λ z. z ∷ xs) first ∙ ap (λ zs. y ∷ zs) rest

pub set-none : (ps : List (Option Place)) (x : ℕ) → slice_get ps x ≡ Some None → slice_set ps x None ≡ ps
set-none ps x e = ap (slice_set ps x) (sym (get_or_from_slice_get ps x None None e)) ∙ set-get_or ps x None

module _ (f : Option Place → Option Place) (old now : List (Option Place)) (i n : ℕ) (p q : Option Place) (here : Some p ≡ slice_get old i) (is : q ≡ f p) (count : length now ≡ n) (lt : i < n) where
  -- one label more
  pub bound-next : ((k : ℕ) → k < i → slice_index_or now k None ≡ slice_index_or (map f old) k None) → (k : ℕ) → k < i + 1 → slice_index_or (slice_set now i q) k None ≡ slice_index_or (map f old) k None
  bound-next done k less = ⊎_elim
      (λ t. ap (λ j. slice_index_or (slice_set now i q) j None) t.1 ∙ get_or-set_same now i q None (omega (arith, count)) ∙ is
      ∙ sym (ap (λ j. slice_index_or (map f old) j None) t.1 ∙ get_or_from_slice_get (map f old) i (f p) None (slice_get-map f old i ∙ ap (option_map f) (sym here))))
      (λ t. let ne = t.1 in get_or-set_other now i k q None t.1 ∙ done k (omega arith))
      (eqb_tells k i)

  pub free-next : ((k : ℕ) → i ≤ k → k < n → slice_index_or now k None ≡ None) → (k : ℕ) → i + 1 ≤ k → k < n → slice_index_or (slice_set now i q) k None ≡ None
  free-next rest k ge less = ⊎_elim
      (λ t. let e = t.1 in absurd (omega arith))
      (λ t. get_or-set_other now i k q None t.1 ∙ rest k (omega arith) less)
      (eqb_tells k i)

-- labels that are within this many nodes
pub moved-same : (f g : ℕ → ℕ) (n : ℕ) → ((k : ℕ) → k ≤ n → f k ≡ g k) → (ps : List (Option Place)) → All (MayStand n) ps → map (moved_place f) ps ≡ map (moved_place g) ps
moved-same f g n h [] all = refl
moved-same f g n h (p ∷ ps) all = ap (λ x. x ∷ map (moved_place f) ps) (one p (All-head (MayStand n) p ps all)) ∙ ap (λ xs. moved_place g p ∷ xs) (moved-same f g n h ps (All-tail (MayStand n) p ps all))
  where
    one : (p : Option Place) → MayStand n p → moved_place f p ≡ moved_place g p
    one None s = refl
    one (Some (place.Image k)) s = refl
    one (Some (place.Node k)) s = ap (λ j. Some (place.Node j)) (h k s)

-- one node more, or none
pub push-next : (b : Bool) (l m base : LabelledNodes) (n : Node) (xs : List Node) → m ≡ (if b then with_node l n else l) → l ≡ record base { nodes = xs } → m ≡ record base { nodes = xs ++ cond b (n ∷ []) [] }
push-next true l m base n xs e h = e ∙ ap (λ x. with_node x n) h
push-next false l m base n xs e h = e ∙ h ∙ ap (λ ys. record base { nodes = ys }) (sym (append-nil xs))

pub push-few : (b : Bool) (l m : LabelledNodes) (n : Node) → m ≡ (if b then with_node l n else l) → length m.nodes ≤ length l.nodes + 1
push-few true l m n e = let z = ap (λ x. length x.nodes) e ∙ length-append l.nodes (n ∷ []) in omega (arith, z)
push-few false l m n e = let z = ap (λ x. length x.nodes) e in omega (arith, z)

pub one-most : (b : Bool) → cond b 1 0 ≤ 1
one-most true = omega arith
one-most false = omega arith
