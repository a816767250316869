-- The first word that is made again, token by token.
use Rattle.std.proofs.Common.{◌≡◌, ◌⊎◌, inl, inr, ℕ, zero, suc, ◌<◌, ◌≤◌, Bool, true, false, ◌||◌, List, [], ◌∷◌, ◌++◌, Option, Some, None, Ok, Err, drop, refl, sym, ap, ◌∙◌, subst, arith}
use Rattle.std.specs.Prelude.{if◌then◌else◌}
use Rattle.std.specs.Option.{option_map, option_or}
use Rattle.std.specs.Str.{bytes_eq}
use Rattle.std.proofs.lemmas.Bool.{cases_lt}
use Rattle.std.proofs.lemmas.List.Folds.{list_any-append}
use Rattle.std.proofs.lemmas.Option.{same_Some}
use Rattle.std.proofs.lemmas.Slice.Eq.{bytes_eq-Decides}
use Rattle.lg_base.specs.declared.refusal.Refusal.{Refusal}
use Rattle.lg_base.specs.declared.refusal.RefusalKind.TheVariants.{LabelTwice}
use Rattle.lg_lex.specs.Tokens.{tokens_of}
use Rattle.lg_lex.specs.declared.token.Token.{Token}
use Rattle.lg_lex.specs.declared.token.TokenKind.{TokenKind}
use Rattle.lg_op.specs.declared.form.Form.{Form}
use Rattle.lg_pre.specs.Expanded.{expanded}
use Rattle.lg_tst.specs.Streams.{text_of, without_last}
use Rattle.lg_tst.specs.Units.{unit_of}
use Rattle.lg_explain.specs.Lines.{shown}
use Rattle.lg_explain.specs.Twice.{again, begins_function, forms_after, is_made, labels_after, made_again, made_twice, makes_label, makes_name_in, names_after, twice_from, with_word}
use Rattle.lg_explain.specs.TwiceMade.{forms_at, MakesLabel, MakesName, BeginsFunction, MakesAgain, IsFirstAgain, FirstIsMadeTwice, IsToldTwice, FirstIsTold}
use Rattle.lg_explain.specs.Words.{blamed_as, blamed_by, word_told}

-- ---- words that were made
or_cases : (a b : Bool) → (a || b) ≡ true → (a ≡ true) ⊎ (b ≡ true)
or_cases true b e = inl refl
or_cases false b e = inr e

made_more : (words : List (List ℕ)) (word x : List ℕ) → is_made (words ++ word ∷ []) x ≡ (is_made words x || (bytes_eq x word || false))
made_more words word x = list_any-append (bytes_eq x) words (word ∷ [])

with_cases : (words : List (List ℕ)) (word x : List ℕ) → is_made (with_word words word) x ≡ true → (is_made words x ≡ true) ⊎ (x ≡ word)
with_cases words word x e = by (is_made words word) e
  where
    last : (bytes_eq x word || false) ≡ true → x ≡ word
    last f = by_or (or_cases (bytes_eq x word) false f)
      where
        by_or : (bytes_eq x word ≡ true) ⊎ ◌≡◌ {A = Bool} false true → x ≡ word
        by_or (inl g) = (bytes_eq-Decides x word).0 g
        by_or (inr g) = cc

    more : (is_made words x ≡ true) ⊎ ((bytes_eq x word || false) ≡ true) → (is_made words x ≡ true) ⊎ (x ≡ word)
    more (inl f) = inl f
    more (inr f) = inr (last f)

    by : (b : Bool) → is_made (if b then words else words ++ word ∷ []) x ≡ true → (is_made words x ≡ true) ⊎ (x ≡ word)
    by true f = inl f
    by false f = more (or_cases (is_made words x) (bytes_eq x word || false) (sym (made_more words word x) ∙ f))

or_left : (a b : Bool) → a ≡ true → (a || b) ≡ true
or_left a b e = ap (λ c. c || b) e

or_right : (a b : Bool) → b ≡ true → (a || b) ≡ true
or_right true b e = refl
or_right false b e = e

with_kept : (words : List (List ℕ)) (word x : List ℕ) → is_made words x ≡ true → is_made (with_word words word) x ≡ true
with_kept words word x e = by (is_made words word)
  where
    by : (b : Bool) → is_made (if b then words else words ++ word ∷ []) x ≡ true
    by true = e
    by false = made_more words word x ∙ or_left (is_made words x) (bytes_eq x word || false) e

with_it : (words : List (List ℕ)) (word : List ℕ) → is_made (with_word words word) word ≡ true
with_it words word = by (is_made words word) refl
  where
    by : (b : Bool) → is_made words word ≡ b → is_made (if b then words else words ++ word ∷ []) word ≡ true
    by true e = e
    by false e = made_more words word word ∙ or_right (is_made words word) (bytes_eq word word || false) (or_left (bytes_eq word word) false ((bytes_eq-Decides word word).1 refl))

-- ---- what a token makes is a label, a name, or the beginning of a function, and no two of them
name_begins_none : (forms : List Form) (kind : TokenKind) (text : List ℕ) → makes_name_in forms kind ≡ true → begins_function forms kind text ≡ false
name_begins_none [] kind text e = cc
name_begins_none (f ∷ fs) kind text e = refl

name_no_label : (forms : List Form) (kind : TokenKind) → makes_name_in forms kind ≡ true → makes_label forms kind ≡ false
name_no_label [] kind e = cc
name_no_label (f ∷ fs) kind e = refl

-- ---- the tokens that are left, after what was made and with the forms that are left
module _ (text : List ℕ) where
  abbrev pub NoneBegins : List Form → List Token → (from to : ℕ) → Type 0
  NoneBegins forms tokens from to = (k : ℕ) → from ≤ k → k < to → BeginsFunction text forms tokens k → ⊥

  -- a label was made before token i, or a name in its function
  abbrev pub HadLabel : List (List ℕ) → List Form → List Token → ℕ → List ℕ → Type 0
  HadLabel labels forms tokens i word = (is_made labels word ≡ true) ⊎ ((j : ℕ) × (j < i) × MakesLabel text forms tokens j word)

  abbrev pub HadName : List (List ℕ) → List Form → List Token → ℕ → List ℕ → Type 0
  HadName names forms tokens i word =
      ((is_made names word ≡ true) × NoneBegins forms tokens 0 i) ⊎ ((j : ℕ) × (j < i) × MakesName text forms tokens j word × NoneBegins forms tokens (suc j) i)

  abbrev pub Again : (labels names : List (List ℕ)) → List Form → List Token → ℕ → List ℕ → Type 0
  Again labels names forms tokens i word =
      (MakesLabel text forms tokens i word × HadLabel labels forms tokens i word) ⊎ (MakesName text forms tokens i word × HadName names forms tokens i word)

  module _ (t : Token) (tokens : List Token) (forms : List Form) where
    abbrev bytes : List ℕ
    bytes = text_of text t

    abbrev next : List Form
    next = forms_after forms t.kind (text_of text t)

    label_on : (i : ℕ) (word : List ℕ) → MakesLabel text next tokens i word → MakesLabel text forms (t ∷ tokens) (suc i) word
    label_on i word m = record { token = m.token; here = m.here; makes = m.makes; is = m.is }

    label_off : (i : ℕ) (word : List ℕ) → MakesLabel text forms (t ∷ tokens) (suc i) word → MakesLabel text next tokens i word
    label_off i word m = record { token = m.token; here = m.here; makes = m.makes; is = m.is }

    name_on : (i : ℕ) (word : List ℕ) → MakesName text next tokens i word → MakesName text forms (t ∷ tokens) (suc i) word
    name_on i word m = record { token = m.token; here = m.here; makes = m.makes; is = m.is }

    name_off : (i : ℕ) (word : List ℕ) → MakesName text forms (t ∷ tokens) (suc i) word → MakesName text next tokens i word
    name_off i word m = record { token = m.token; here = m.here; makes = m.makes; is = m.is }

    begins_on : (i : ℕ) → BeginsFunction text next tokens i → BeginsFunction text forms (t ∷ tokens) (suc i)
    begins_on i m = record { token = m.token; here = m.here; begins = m.begins }

    begins_off : (i : ℕ) → BeginsFunction text forms (t ∷ tokens) (suc i) → BeginsFunction text next tokens i
    begins_off i m = record { token = m.token; here = m.here; begins = m.begins }

    label_here : (word : List ℕ) → MakesLabel text forms (t ∷ tokens) 0 word → (makes_label forms t.kind ≡ true) × (word ≡ without_last bytes)
    label_here word m = let same : t ≡ m.token = same_Some t m.token m.here in
        (subst (λ (x : Token). makes_label forms x.kind ≡ true) (sym same) m.makes, subst (λ (x : Token). word ≡ without_last (text_of text x)) (sym same) m.is)

    label_made : makes_label forms t.kind ≡ true → MakesLabel text forms (t ∷ tokens) 0 (without_last bytes)
    label_made e = record { token = t; here = refl; makes = e; is = refl }

    name_here : (word : List ℕ) → MakesName text forms (t ∷ tokens) 0 word → (makes_name_in forms t.kind ≡ true) × (word ≡ drop 1 bytes)
    name_here word m = let same : t ≡ m.token = same_Some t m.token m.here in
        (subst (λ (x : Token). makes_name_in forms x.kind ≡ true) (sym same) m.makes, subst (λ (x : Token). word ≡ drop 1 (text_of text x)) (sym same) m.is)

    name_made : makes_name_in forms t.kind ≡ true → MakesName text forms (t ∷ tokens) 0 (drop 1 bytes)
    name_made e = record { token = t; here = refl; makes = e; is = refl }

    begins_here : BeginsFunction text forms (t ∷ tokens) 0 → begins_function forms t.kind bytes ≡ true
    begins_here m = subst (λ (x : Token). begins_function forms x.kind (text_of text x) ≡ true) (sym (same_Some t m.token m.here)) m.begins

    begins_made : begins_function forms t.kind bytes ≡ true → BeginsFunction text forms (t ∷ tokens) 0
    begins_made e = record { token = t; here = refl; begins = e }

    -- ---- labels
    module _ (labels : List (List ℕ)) where
      abbrev more_labels : List (List ℕ)
      more_labels = labels_after forms t.kind bytes labels

      label_kept : (word : List ℕ) → is_made labels word ≡ true → is_made more_labels word ≡ true
      label_kept word e = by (makes_label forms t.kind)
        where
          by : (b : Bool) → is_made (if b then with_word labels (without_last bytes) else labels) word ≡ true
          by true = with_kept labels (without_last bytes) word e
          by false = e

      label_new : makes_label forms t.kind ≡ true → is_made more_labels (without_last bytes) ≡ true
      label_new e = ap (λ b. is_made (if b then with_word labels (without_last bytes) else labels) (without_last bytes)) e ∙ with_it labels (without_last bytes)

      label_cases : (word : List ℕ) → is_made more_labels word ≡ true → (is_made labels word ≡ true) ⊎ ((makes_label forms t.kind ≡ true) × (word ≡ without_last bytes))
      label_cases word e = by (makes_label forms t.kind) refl e
        where
          made : makes_label forms t.kind ≡ true → (is_made labels word ≡ true) ⊎ (word ≡ without_last bytes) → (is_made labels word ≡ true) ⊎ ((makes_label forms t.kind ≡ true) × (word ≡ without_last bytes))
          made f (inl g) = inl g
          made f (inr g) = inr (f, g)

          by : (b : Bool) → makes_label forms t.kind ≡ b → is_made (if b then with_word labels (without_last bytes) else labels) word ≡ true
              → (is_made labels word ≡ true) ⊎ ((makes_label forms t.kind ≡ true) × (word ≡ without_last bytes))
          by true f g = made f (with_cases labels (without_last bytes) word g)
          by false f g = inl g

      had_label_off : (i : ℕ) (word : List ℕ) → HadLabel labels forms (t ∷ tokens) (suc i) word → HadLabel more_labels next tokens i word
      had_label_off i word (inl e) = inl (label_kept word e)
      had_label_off i word (inr (zero, lt, m)) = let h = label_here word m in inl (subst (λ w. is_made more_labels w ≡ true) (sym h.1) (label_new h.0))
      had_label_off i word (inr (suc j, lt, m)) = inr (j, omega (arith, lt), label_off j word m)

      had_label_on : (i : ℕ) (word : List ℕ) → HadLabel more_labels next tokens i word → HadLabel labels forms (t ∷ tokens) (suc i) word
      had_label_on i word (inl e) = by (label_cases word e)
        where
          by : (is_made labels word ≡ true) ⊎ ((makes_label forms t.kind ≡ true) × (word ≡ without_last bytes)) → HadLabel labels forms (t ∷ tokens) (suc i) word
          by (inl f) = inl f
          by (inr (f, g)) = inr (0, omega arith, subst (MakesLabel text forms (t ∷ tokens) 0) (sym g) (label_made f))
      had_label_on i word (inr (j, lt, m)) = inr (suc j, omega (arith, lt), label_on j word m)

    -- ---- names
    module _ (names : List (List ℕ)) where
      abbrev more_names : List (List ℕ)
      more_names = names_after forms t.kind bytes names

      abbrev named : Bool → Bool → List (List ℕ)
      named begins makes = if begins then [] else (if makes then with_word names (drop 1 bytes) else names)

      name_kept : (word : List ℕ) → begins_function forms t.kind bytes ≡ false → is_made names word ≡ true → is_made more_names word ≡ true
      name_kept word none e = ap (λ b. is_made (named b (makes_name_in forms t.kind)) word) none ∙ by (makes_name_in forms t.kind)
        where
          by : (b : Bool) → is_made (named false b) word ≡ true
          by true = with_kept names (drop 1 bytes) word e
          by false = e

      name_new : makes_name_in forms t.kind ≡ true → is_made more_names (drop 1 bytes) ≡ true
      name_new e = ap (λ b. is_made (named b (makes_name_in forms t.kind)) (drop 1 bytes)) (name_begins_none forms t.kind bytes e)
          ∙ (ap (λ b. is_made (named false b) (drop 1 bytes)) e ∙ with_it names (drop 1 bytes))

      abbrev NameCase : List ℕ → Type 0
      NameCase word = (begins_function forms t.kind bytes ≡ false) × ((is_made names word ≡ true) ⊎ ((makes_name_in forms t.kind ≡ true) × (word ≡ drop 1 bytes)))

      name_cases : (word : List ℕ) → is_made more_names word ≡ true → NameCase word
      name_cases word e = by (begins_function forms t.kind bytes) refl (makes_name_in forms t.kind) refl e
        where
          made : makes_name_in forms t.kind ≡ true → (is_made names word ≡ true) ⊎ (word ≡ drop 1 bytes) → (is_made names word ≡ true) ⊎ ((makes_name_in forms t.kind ≡ true) × (word ≡ drop 1 bytes))
          made f (inl g) = inl g
          made f (inr g) = inr (f, g)

          by : (b : Bool) → begins_function forms t.kind bytes ≡ b → (m : Bool) → makes_name_in forms t.kind ≡ m → is_made (named b m) word ≡ true → NameCase word
          by true f m g h = cc
          by false f true g h = (f, made g (with_cases names (drop 1 bytes) word h))
          by false f false g h = (f, inl h)

      none_off : (i from : ℕ) → NoneBegins forms (t ∷ tokens) (suc from) (suc i) → NoneBegins next tokens from i
      none_off i from none = λ k le lt b. none (suc k) (omega (arith, le)) (omega (arith, lt)) (begins_on k b)

      none_on : (i from : ℕ) → NoneBegins next tokens from i → NoneBegins forms (t ∷ tokens) (suc from) (suc i)
      none_on i from none zero le lt b = absurd (omega (arith, le))
      none_on i from none (suc k) le lt b = none k (omega (arith, le)) (omega (arith, lt)) (begins_off k b)

      none_all : (i : ℕ) → begins_function forms t.kind bytes ≡ false → NoneBegins next tokens 0 i → NoneBegins forms (t ∷ tokens) 0 (suc i)
      none_all i e none zero le lt b = let no : ◌≡◌ {A = Bool} false true = sym e ∙ begins_here b in absurd (cc)
      none_all i e none (suc k) le lt b = none k (omega arith) (omega (arith, lt)) (begins_off k b)

      had_name_off : (i : ℕ) (word : List ℕ) → HadName names forms (t ∷ tokens) (suc i) word → HadName more_names next tokens i word
      had_name_off i word (inl (e, none)) = inl (name_kept word (by (begins_function forms t.kind bytes) refl) e, none_off i 0 (λ k le lt b. none k (omega arith) lt b))
        where
          by : (b : Bool) → begins_function forms t.kind bytes ≡ b → b ≡ false
          by true f = absurd (none 0 (omega arith) (omega arith) (begins_made f))
          by false f = refl
      had_name_off i word (inr (zero, lt, m, none)) =
          let h = name_here word m in inl (subst (λ w. is_made more_names w ≡ true) (sym h.1) (name_new h.0), none_off i 0 none)
      had_name_off i word (inr (suc j, lt, m, none)) = inr (j, omega (arith, lt), name_off j word m, none_off i (suc j) none)

      had_name_on : (i : ℕ) (word : List ℕ) → HadName more_names next tokens i word → HadName names forms (t ∷ tokens) (suc i) word
      had_name_on i word (inl (e, none)) = by (name_cases word e)
        where
          by : NameCase word → HadName names forms (t ∷ tokens) (suc i) word
          by (f, inl g) = inl (g, none_all i f none)
          by (f, inr (g, h)) = inr (0, omega arith, subst (MakesName text forms (t ∷ tokens) 0) (sym h) (name_made g), none_on i 0 none)
      had_name_on i word (inr (j, lt, m, none)) = inr (suc j, omega (arith, lt), name_on j word m, none_on i (suc j) none)

    -- ---- the token at hand
    module _ (labels names : List (List ℕ)) where
      abbrev here_again : Option (List ℕ)
      here_again = again forms t.kind bytes labels names

      abbrev pub later : ℕ → List ℕ → Type 0
      later i word = Again (labels_after forms t.kind bytes labels) (names_after forms t.kind bytes names) next tokens i word

      pub again_off : (i : ℕ) (word : List ℕ) → Again labels names forms (t ∷ tokens) (suc i) word → later i word
      again_off i word (inl (m, had)) = inl (label_off i word m, had_label_off labels i word had)
      again_off i word (inr (m, had)) = inr (name_off i word m, had_name_off names i word had)

      pub again_on : (i : ℕ) (word : List ℕ) → later i word → Again labels names forms (t ∷ tokens) (suc i) word
      again_on i word (inl (m, had)) = inl (label_on i word m, had_label_on labels i word had)
      again_on i word (inr (m, had)) = inr (name_on i word m, had_name_on names i word had)

      abbrev chosen : Bool → Bool → Option (List ℕ)
      chosen label name = if label then made_again labels (without_last bytes) else (if name then made_again names (drop 1 bytes) else None)

      made_is : (words : List (List ℕ)) (word : List ℕ) → is_made words word ≡ true → made_again words word ≡ Some word
      made_is words word e = ap (λ b. if b then Some word else None) e

      made_so : (words : List (List ℕ)) (word other : List ℕ) → made_again words word ≡ Some other → (is_made words word ≡ true) × (other ≡ word)
      made_so words word other e = by (is_made words word) refl e
        where
          by : (b : Bool) → is_made words word ≡ b → (if b then Some word else None) ≡ Some other → (is_made words word ≡ true) × (other ≡ word)
          by true f g = (f, sym (same_Some word other g))
          by false f g = cc

      pub now_told : (word : List ℕ) → Again labels names forms (t ∷ tokens) 0 word → here_again ≡ Some word
      now_told word (inl (m, inl e)) =
          let h = label_here word m in
          ap (λ b. chosen b (makes_name_in forms t.kind)) h.0 ∙ (made_is labels (without_last bytes) (subst (λ w. is_made labels w ≡ true) h.1 e) ∙ ap Some (sym h.1))
      now_told word (inl (m, inr (j, lt, f))) = absurd (omega (arith, lt))
      now_told word (inr (m, inl (e, none))) =
          let h = name_here word m in
          ap (λ b. chosen b (makes_name_in forms t.kind)) (name_no_label forms t.kind h.0) ∙ (ap (chosen false) h.0
          ∙ (made_is names (drop 1 bytes) (subst (λ w. is_made names w ≡ true) h.1 e) ∙ ap Some (sym h.1)))
      now_told word (inr (m, inr (j, lt, f, none))) = absurd (omega (arith, lt))

      pub told_now : (word : List ℕ) → here_again ≡ Some word → Again labels names forms (t ∷ tokens) 0 word
      told_now word e = by (makes_label forms t.kind) refl (makes_name_in forms t.kind) refl e
        where
          by : (b : Bool) → makes_label forms t.kind ≡ b → (m : Bool) → makes_name_in forms t.kind ≡ m → chosen b m ≡ Some word → Again labels names forms (t ∷ tokens) 0 word
          by true f m g h =
              let s = made_so labels (without_last bytes) word h in
              inl (subst (MakesLabel text forms (t ∷ tokens) 0) (sym s.1) (label_made f), inl (subst (λ w. is_made labels w ≡ true) (sym s.1) s.0))
          by false f true g h =
              let s = made_so names (drop 1 bytes) word h in
              inr (subst (MakesName text forms (t ∷ tokens) 0) (sym s.1) (name_made g), inl (subst (λ w. is_made names w ≡ true) (sym s.1) s.0, λ k le lt b. absurd (omega (arith, lt))))
          by false f false g h = cc

  -- ---- the first one
  pub record First (labels names : List (List ℕ)) (forms : List Form) (tokens : List Token) (word : List ℕ) : Type 0 where
    pub at : ℕ
    pub again : Again labels names forms tokens at word
    pub first : (j : ℕ) (other : List ℕ) → j < at → Again labels names forms tokens j other → ⊥

  -- it is the token at hand, or one of those after it
  abbrev pub first_now : (t : Token) (tokens : List Token) (labels names : List (List ℕ)) (forms : List Form) (word : List ℕ) → again forms t.kind (text_of text t) labels names ≡ Some word
      → First labels names forms (t ∷ tokens) word
  first_now t tokens labels names forms word e = record {
    at = 0;
    again = told_now t tokens forms labels names word e;
    first = λ j other lt a. absurd (omega (arith, lt));
  }

  pub none_sooner : (t : Token) (tokens : List Token) (labels names : List (List ℕ)) (forms : List Form) (at : ℕ) → again forms t.kind (text_of text t) labels names ≡ None
      → ((j : ℕ) (other : List ℕ) → j < at → later t tokens forms labels names j other → ⊥) → (j : ℕ) (other : List ℕ) → j < suc at → Again labels names forms (t ∷ tokens) j other → ⊥
  none_sooner t tokens labels names forms at e first zero other lt a = let no = sym e ∙ now_told t tokens forms labels names other a in cc
  none_sooner t tokens labels names forms at e first (suc j) other lt a = first j other (omega (arith, lt)) (again_off t tokens forms labels names j other a)

  abbrev pub first_later : (t : Token) (tokens : List Token) (labels names : List (List ℕ)) (forms : List Form) (word : List ℕ) → again forms t.kind (text_of text t) labels names ≡ None
      → First (labels_after forms t.kind (text_of text t) labels) (names_after forms t.kind (text_of text t) names) (forms_after forms t.kind (text_of text t)) tokens word
      → First labels names forms (t ∷ tokens) word
  first_later t tokens labels names forms word e h = record {
    at = suc h.at;
    again = again_on t tokens forms labels names h.at word h.again;
    first = none_sooner t tokens labels names forms h.at e h.first;
  }

  pub twice_first : (tokens : List Token) (labels names : List (List ℕ)) (forms : List Form) (word : List ℕ) → twice_from text tokens labels names forms ≡ Some word → First labels names forms tokens word
  unfolding twice_from
  twice_first [] labels names forms word e = cc
  twice_first (t ∷ tokens) labels names forms word e =
      by (again forms t.kind (text_of text t) labels names) refl e
      (twice_first tokens (labels_after forms t.kind (text_of text t) labels) (names_after forms t.kind (text_of text t) names) (forms_after forms t.kind (text_of text t)) word)
    where
      rest : Option (List ℕ)
      rest = twice_from text tokens (labels_after forms t.kind (text_of text t) labels) (names_after forms t.kind (text_of text t) names) (forms_after forms t.kind (text_of text t))

      by : (o : Option (List ℕ)) → again forms t.kind (text_of text t) labels names ≡ o → option_or o rest ≡ Some word → (rest ≡ Some word → First (labels_after forms t.kind (text_of text t) labels) (names_after forms t.kind (text_of text t) names) (forms_after forms t.kind (text_of text t)) tokens word) → First labels names forms (t ∷ tokens) word
      by (Some w) f g call = first_now t tokens labels names forms word (f ∙ g)
      by None f g call = first_later t tokens labels names forms word f (call g)

  pub none_twice : (tokens : List Token) (labels names : List (List ℕ)) (forms : List Form) → twice_from text tokens labels names forms ≡ None → (j : ℕ) (other : List ℕ) → Again labels names forms tokens j other → ⊥
  unfolding twice_from
  none_twice [] labels names forms e j other (inl (m, had)) = let no = m.here in cc
  none_twice [] labels names forms e j other (inr (m, had)) = let no = m.here in cc
  none_twice (t ∷ tokens) labels names forms e j other a =
      by (again forms t.kind (text_of text t) labels names) refl e j a
      (λ f i b. none_twice tokens (labels_after forms t.kind (text_of text t) labels) (names_after forms t.kind (text_of text t) names) (forms_after forms t.kind (text_of text t)) f i other b)
    where
      rest : Option (List ℕ)
      rest = twice_from text tokens (labels_after forms t.kind (text_of text t) labels) (names_after forms t.kind (text_of text t) names) (forms_after forms t.kind (text_of text t))

      by : (o : Option (List ℕ)) → again forms t.kind (text_of text t) labels names ≡ o → option_or o rest ≡ None → (j : ℕ) → Again labels names forms (t ∷ tokens) j other
          → (rest ≡ None → (i : ℕ) → later t tokens forms labels names i other → ⊥) → ⊥
      by (Some w) f g j a call = cc
      by None f g zero a call = let no = sym f ∙ now_told t tokens forms labels names other a in cc
      by None f g (suc j) a call = call g j (again_off t tokens forms labels names j other a)

  -- a token makes one word
  one_word : (forms : List Form) (tokens : List Token) (i : ℕ) (v w : List ℕ) → MakesAgain text tokens i v → MakesAgain text tokens i w → v ≡ w
  one_word forms tokens i v w (inl a) (inl b) =
      a.second.is ∙ ap (λ (x : Token). without_last (text_of text x)) (same_Some a.second.token b.second.token (sym a.second.here ∙ b.second.here)) ∙ sym b.second.is
  one_word forms tokens i v w (inr a) (inr b) =
      a.second.is ∙ ap (λ (x : Token). drop 1 (text_of text x)) (same_Some a.second.token b.second.token (sym a.second.here ∙ b.second.here)) ∙ sym b.second.is
  one_word forms tokens i v w (inl a) (inr b) = absurd (apart a.second b.second)
    where
      apart : MakesLabel text [] tokens i v → MakesName text [] tokens i w → ⊥
      apart m n =
          let same : n.token ≡ m.token = same_Some n.token m.token (sym n.here ∙ m.here) in
          let no : ◌≡◌ {A = Bool} false true = sym (name_no_label (forms_at text [] tokens i) n.token.kind n.makes) ∙ (ap (λ (x : Token). makes_label (forms_at text [] tokens i) x.kind) same ∙ m.makes) in cc
  one_word forms tokens i v w (inr a) (inl b) = absurd (apart b.second a.second)
    where
      apart : MakesLabel text [] tokens i w → MakesName text [] tokens i v → ⊥
      apart m n =
          let same : n.token ≡ m.token = same_Some n.token m.token (sym n.here ∙ m.here) in
          let no : ◌≡◌ {A = Bool} false true = sym (name_no_label (forms_at text [] tokens i) n.token.kind n.makes) ∙ (ap (λ (x : Token). makes_label (forms_at text [] tokens i) x.kind) same ∙ m.makes) in cc

  -- where nothing was made before
  pub to_again : (tokens : List Token) (i : ℕ) (word : List ℕ) → Again [] [] [] tokens i word → MakesAgain text tokens i word
  to_again tokens i word (inl (m, inl e)) = cc
  to_again tokens i word (inl (m, inr (j, lt, f))) = inl (record { before = j; sooner = lt; first = f; second = m })
  to_again tokens i word (inr (m, inl (e, none))) = cc
  to_again tokens i word (inr (m, inr (j, lt, f, none))) = inr (record { before = j; sooner = lt; first = f; second = m; within = λ k gt below b. none k (omega (arith, gt)) below b })

  pub from_again : (tokens : List Token) (i : ℕ) (word : List ℕ) → MakesAgain text tokens i word → Again [] [] [] tokens i word
  from_again tokens i word (inl a) = inl (a.second, inr (a.before, a.sooner, a.first))
  from_again tokens i word (inr a) = inr (a.second, inr (a.before, a.sooner, a.first, λ k le lt b. a.within k (omega (arith, le)) lt b))

  abbrev pub is_first : (tokens : List Token) (word : List ℕ) → First [] [] [] tokens word → IsFirstAgain text tokens word
  is_first tokens word h = record {
    at = h.at;
    again = to_again tokens h.at word h.again;
    first = λ j other lt a. h.first j other lt (from_again tokens j other a);
  }

  pub first_again : (tokens : List Token) (word : List ℕ) → twice_from text tokens [] [] [] ≡ Some word → IsFirstAgain text tokens word
  first_again tokens word e = is_first tokens word (twice_first tokens [] [] [] word e)

  pub again_first : (tokens : List Token) (word : List ℕ) → IsFirstAgain text tokens word → twice_from text tokens [] [] [] ≡ Some word
  again_first tokens word h = by (twice_from text tokens [] [] []) refl
    where
      by : (o : Option (List ℕ)) → twice_from text tokens [] [] [] ≡ o → o ≡ Some word
      by None e = absurd (none_twice tokens [] [] [] e h.at word (from_again tokens h.at word h.again))
      by (Some w) e = ap Some (same (first_again tokens w e))
        where
          same : IsFirstAgain text tokens w → w ≡ word
          same g = here g.at h.at g.again h.again g.first h.first (cases_lt g.at h.at)
            where
              here : (a b : ℕ) → MakesAgain text tokens a w → MakesAgain text tokens b word → ((j : ℕ) (other : List ℕ) → j < a → MakesAgain text tokens j other → ⊥)
                  → ((j : ℕ) (other : List ℕ) → j < b → MakesAgain text tokens j other → ⊥) → (a < b) ⊎ (b ≤ a) → w ≡ word
              here a b x y none_a none_b (inl lt) = absurd (none_b a w lt x)
              here a b x y none_a none_b (inr le) = at_most (cases_lt b a)
                where
                  at_most : (b < a) ⊎ (a ≤ b) → w ≡ word
                  at_most (inl lt) = absurd (none_a b word lt y)
                  at_most (inr ge) = let e : a ≡ b = omega (arith, le, ge) in one_word [] tokens b w word (subst (λ i. MakesAgain text tokens i w) e x) y

pub first_is : FirstIsMadeTwice
first_is text word = (λ e. first_again text (tokens_of text).0 word e, λ h. again_first text (tokens_of text).0 word h)

told_in : (read text : List ℕ) (fault : Refusal) → expanded read ≡ Ok text → unit_of text ≡ Err fault → word_told read LabelTwice ≡ option_map shown (made_twice text)
told_in read text fault e u = ap (λ r. option_map shown (blamed_by LabelTwice r)) e ∙ ap (λ r. option_map shown (blamed_as LabelTwice text r)) u

pub first_told : FirstIsTold
first_told read text word fault e u = (λ w. there (made_twice text) refl (sym (told_in read text fault e u) ∙ w), λ b. told_in read text fault e u ∙ (ap (option_map shown) (again_first text (tokens_of text).0 b.again b.first) ∙ ap Some (sym b.is)))
  where
    there : (o : Option (List ℕ)) → made_twice text ≡ o → option_map shown o ≡ Some word → IsToldTwice text word
    there None f g = cc
    there (Some w) f g = record { again = w; first = first_again text (tokens_of text).0 w f; is = sym (same_Some (shown w) word g) }
