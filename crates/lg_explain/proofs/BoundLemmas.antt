-- The words that are bound as labels, by the words of a list and their places.
use Rattle.std.proofs.Common.{◌≡◌, ℕ, suc, ◌+◌, Bool, true, false, not, ◌||◌, cond, List, [], ◌∷◌, ◌++◌, length, Option, Some, None, is_some, refl, sym, ap, ◌∙◌, arith}
use Rattle.std.specs.Prelude.{if◌then◌else◌, slice_get, slice_set}
use Rattle.std.specs.List.{list_any}
use Rattle.std.specs.Str.{bytes_eq}
use Rattle.std.proofs.lemmas.List.{length-append, length-set}
use Rattle.std.proofs.lemmas.List.Folds.{list_any-append}
use Rattle.std.proofs.lemmas.Slice.Eq.{bytes_eq-Decides}
use Rattle.lg_node.specs.Nodes.{LabelledNodes, mentioned, number_of}
use Rattle.lg_node.specs.declared.place.Place.{Place}
use Rattle.lg_tst.specs.Units.{is_unbound}

-- the first label of a word is bound
abbrev pub is_bound : List (List ℕ) → List (Option Place) → List ℕ → Bool
is_bound (x ∷ words) (p ∷ places) word = if bytes_eq word x then is_some p else is_bound words places word
is_bound _ _ word = false

abbrev IsAmong : List (List ℕ) → List ℕ → Type 0
IsAmong words word = list_any (bytes_eq word) words ≡ true

same_bytes : (word : List ℕ) → bytes_eq word word ≡ true
same_bytes word = (bytes_eq-Decides word word).1 refl

pub one_more : (n : ℕ) → 1 + n ≡ suc n
one_more n = omega arith

-- where both ways give the same
either_way : (b : Bool) (c : Bool) → (if b then c else c) ≡ c
either_way true c = refl
either_way false c = refl

-- a label that is added is not bound
more_bound : (words : List (List ℕ)) (places : List (Option Place)) (x word : List ℕ) → length places ≡ length words → is_bound (words ++ x ∷ []) (places ++ None ∷ []) word ≡ is_bound words places word
more_bound [] [] x word e = either_way (bytes_eq word x) false
more_bound (y ∷ words) (p ∷ places) x word e = ap (λ b. if bytes_eq word y then is_some p else b) (more_bound words places x word (omega (arith, e)))
more_bound _ _ x word e = absurd (omega (arith, e))

-- the label of a word's number is unbound exactly where the word is not bound
unbound_among : (words : List (List ℕ)) (places : List (Option Place)) (word : List ℕ) → length places ≡ length words → IsAmong words word
    → is_unbound (slice_get places (number_of words word)) ≡ not (is_bound words places word)
unbound_among [] places word e h = cc
unbound_among (x ∷ words) [] word e h = absurd (omega (arith, e))
unbound_among (x ∷ words) (p ∷ places) word e h = by (bytes_eq word x) h (unbound_among words places word (omega (arith, e)))
  where
    here : (q : Option Place) → is_unbound (Some q) ≡ not (is_some q)
    here None = refl
    here (Some q) = refl

    by : (b : Bool) → (b || list_any (bytes_eq word) words) ≡ true
        → (IsAmong words word → is_unbound (slice_get places (number_of words word)) ≡ not (is_bound words places word))
        → is_unbound (slice_get (p ∷ places) (cond (not b) (1 + number_of words word) 0)) ≡ not (if b then is_some p else is_bound words places word)
    by true f rest = here p
    by false f rest = ap (λ n. is_unbound (slice_get (p ∷ places) n)) (one_more (number_of words word)) ∙ rest f

-- a word's label is bound, and no other is by that
placed_among : (words : List (List ℕ)) (places : List (Option Place)) (word other : List ℕ) (p : Place) → length places ≡ length words → IsAmong words word
    → is_bound words (slice_set places (number_of words word) (Some p)) other ≡ (bytes_eq other word || is_bound words places other)
placed_among [] places word other p e h = cc
placed_among (x ∷ words) [] word other p e h = absurd (omega (arith, e))
placed_among (x ∷ words) (q ∷ places) word other p e h = by (bytes_eq word x) refl h (placed_among words places word other p (omega (arith, e)))
  where
    first : (b : Bool) → (if b then true else is_bound words places other) ≡ (b || (if b then is_some q else is_bound words places other))
    first true = refl
    first false = refl

    apart : bytes_eq word x ≡ false → bytes_eq other x ≡ true → (b : Bool) → bytes_eq other word ≡ b → is_some q ≡ (b || is_some q)
    apart f g true k =
        let is : word ≡ x = sym ((bytes_eq-Decides other word).0 k) ∙ (bytes_eq-Decides other x).0 g in
        let no : ◌≡◌ {A = Bool} false true = sym f ∙ (bytes_eq-Decides word x).1 is in cc
    apart f g false k = refl

    later : bytes_eq word x ≡ false → (now : Bool) → now ≡ (bytes_eq other word || is_bound words places other) → (b : Bool) → bytes_eq other x ≡ b
        → (if b then is_some q else now) ≡ (bytes_eq other word || (if b then is_some q else is_bound words places other))
    later f now g true k = apart f k (bytes_eq other word) refl
    later f now g false k = g

    by : (b : Bool) → bytes_eq word x ≡ b → (b || list_any (bytes_eq word) words) ≡ true
        → (IsAmong words word → is_bound words (slice_set places (number_of words word) (Some p)) other ≡ (bytes_eq other word || is_bound words places other))
        → is_bound (x ∷ words) (slice_set (q ∷ places) (cond (not b) (1 + number_of words word) 0) (Some p)) other
        ≡ (bytes_eq other word || (if bytes_eq other x then is_some q else is_bound words places other))
    by true f g more =
        let same = (bytes_eq-Decides word x).0 f in
        first (bytes_eq other x) ∙ ap (λ y. bytes_eq other y || (if bytes_eq other x then is_some q else is_bound words places other)) (sym same)
    by false f g more = ap (λ n. is_bound (x ∷ words) (slice_set (q ∷ places) n (Some p)) other) (one_more (number_of words word)) ∙ later f (is_bound words (slice_set places (number_of words word) (Some p)) other) (more g) (bytes_eq other x) refl

-- a word that is not among others has the next number
number_kept : (words : List (List ℕ)) (word : List ℕ) → list_any (bytes_eq word) words ≡ false → number_of (words ++ word ∷ []) word ≡ number_of words word
number_kept [] word e = ap (λ b. cond (not b) 1 0) (same_bytes word)
number_kept (x ∷ words) word e = by (bytes_eq word x) e (number_kept words word)
  where
    by : (b : Bool) → (b || list_any (bytes_eq word) words) ≡ false → (list_any (bytes_eq word) words ≡ false → number_of (words ++ word ∷ []) word ≡ number_of words word)
        → cond (not b) (1 + number_of (words ++ word ∷ []) word) 0 ≡ cond (not b) (1 + number_of words word) 0
    by true f rest = cc
    by false f rest = ap (λ n. 1 + n) (rest f)

or_true : (b : Bool) → (b || true) ≡ true
or_true true = refl
or_true false = refl

added_among : (words : List (List ℕ)) (word : List ℕ) → IsAmong (words ++ word ∷ []) word
added_among words word = list_any-append (bytes_eq word) words (word ∷ [])
    ∙ ap (λ b. list_any (bytes_eq word) words || (b || false)) (same_bytes word) ∙ or_true (list_any (bytes_eq word) words)

-- after a word is mentioned it has a label, of the same number, and what was bound is
pub record IsMentioned (l : LabelledNodes) (word : List ℕ) (m : LabelledNodes) : Type 0 where
  pub even : length m.places ≡ length m.words
  pub same : (other : List ℕ) → is_bound m.words m.places other ≡ is_bound l.words l.places other
  pub among : IsAmong m.words word
  pub number : number_of m.words word ≡ number_of l.words word

pub mention : (l : LabelledNodes) (word : List ℕ) → length l.places ≡ length l.words → IsMentioned l word (mentioned l word)
mention l word e = by (list_any (bytes_eq word) l.words) refl
  where
    none : Option Place
    none = None

    by : (b : Bool) → list_any (bytes_eq word) l.words ≡ b
        → IsMentioned l word (if b then l else record l { words = l.words ++ word ∷ []; places = l.places ++ None ∷ [] })
    by true f = record { even = e; same = λ other. refl; among = f; number = refl }
    by false f = record {
      even = (let a = length-append l.words (word ∷ []) in let b = length-append l.places (none ∷ []) in omega (arith, a, b, e));
      same = λ other. more_bound l.words l.places word other e;
      among = added_among l.words word;
      number = number_kept l.words word f;
    }

-- the label of a word that is mentioned is unbound exactly where the word was not bound
pub unbound_is : (l : LabelledNodes) (word : List ℕ) → length l.places ≡ length l.words
    → is_unbound (slice_get (mentioned l word).places (number_of l.words word)) ≡ not (is_bound l.words l.places word)
unbound_is l word e =
    let m = mention l word e in
    ap (λ n. is_unbound (slice_get (mentioned l word).places n)) (sym m.number)
    ∙ (unbound_among (mentioned l word).words (mentioned l word).places word m.even m.among ∙ ap not (m.same word))

-- after it is bound it is, and else the same are
pub placed_is : (l : LabelledNodes) (word other : List ℕ) (p : Place) → length l.places ≡ length l.words
    → is_bound (mentioned l word).words (slice_set (mentioned l word).places (number_of l.words word) (Some p)) other ≡ (bytes_eq other word || is_bound l.words l.places other)
placed_is l word other p e =
    let m = mention l word e in
    ap (λ n. is_bound (mentioned l word).words (slice_set (mentioned l word).places n (Some p)) other) (sym m.number)
    ∙ (placed_among (mentioned l word).words (mentioned l word).places word other p m.even m.among ∙ ap (λ b. bytes_eq other word || b) (m.same other))

pub placed_even : (l : LabelledNodes) (word : List ℕ) (p : Place) → length l.places ≡ length l.words
    → length (slice_set (mentioned l word).places (number_of l.words word) (Some p)) ≡ length (mentioned l word).words
placed_even l word p e = length-set (mentioned l word).places (number_of l.words word) (Some p) ∙ (mention l word e).even
