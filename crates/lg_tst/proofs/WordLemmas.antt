-- Words of operations and of floating point.
use Rattle.std.proofs.Common.{◌≡◌, ℕ, ◌+◌, ◌<◌, ◌≤◌, ◌==◌, Bool, true, false, not, ◌&&◌, ◌||◌, cond, List, [], ◌∷◌, length, drop, get_or, Option, Some, None, Ok, IfSome, refl, sym, ap, ◌∙◌, inl, inr, add-one, codes}
use Rattle.std.specs.Prelude.{slice_index}
use Rattle.std.specs.List.{list_all}
use Rattle.std.specs.Str.{bytes_eq}
use Rattle.std.proofs.lemmas.Bool.{and_parts}
use Rattle.std.proofs.lemmas.Slice.Eq.{bytes_eq-Decides}
use Rattle.std.proofs.Math.Seq.{drop-cons}
use Rattle.std.proofs.lemmas.List.{drop_all}
use Rattle.lg_op.specs.declared.op.Op.{Op}
use Rattle.lg_op.specs.Names.{IsName, named, names_from}
use Rattle.lg_op.proofs.NameLemmas.{found, found_named, again, long_again}
use Rattle.lg_tst.specs.Statements.{word_statement}
use Rattle.lg_tst.specs.Words.{op_of, is_float_word, begins_float_part}
use Rattle.lg_tst.specs.declared.statement.Section.TheVariants as section
use Rattle.lg_tst.specs.declared.statement.Statement.TheVariants as statement

-- a word that an operation's name is leads to that operation
named_found : (op : Op) (word : List ℕ) → IsName op word → found word ≡ Some op
named_found op word (inl same) = ap found same ∙ again op
named_found op word (inr long) = ap found long.1 ∙ long_again op long.0

-- the operation that is found by its name and by no other is that of the table
pub op_of_is : (word : List ℕ) (r : Option Op) → IfSome r (λ op. IsName op word) → ((op : Op) → IsName op word → r ≡ Some op) → r ≡ op_of word
op_of_is word None named every = by (found word) refl
  where
    by : (o : Option Op) → found word ≡ o → None ≡ o
    by None e = refl
    by (Some op) e = every op (found_named (Some op) word (sym e))
op_of_is word (Some op) named every = sym (named_found op word named)

-- ---- no operation has a name of floating point, nor one that the sections have

abbrev is_plain : List ℕ → Bool
is_plain word = not (is_float_word word) && (not (bytes_eq word (codes "note")) && not (bytes_eq word (codes "name")))

all_of : (c : Bool) (xs ys : List (List ℕ × Op)) → list_all (λ e. is_plain e.0) xs ≡ true → list_all (λ e. is_plain e.0) ys ≡ true → list_all (λ e. is_plain e.0) (cond c xs ys) ≡ true
all_of true xs ys x y = x
all_of false xs ys x y = y

all_plain : (b : ℕ) → list_all (λ e. is_plain e.0) (names_from b) ≡ true
unfolding is_float_word
all_plain b =
    (all_of (b == 46) _ _ refl
    (all_of (b == 97) _ _ refl
    (all_of (b == 98) _ _ refl
    (all_of (b == 99) _ _ refl
    (all_of (b == 100) _ _ refl
    (all_of (b == 101) _ _ refl
    (all_of (b == 102) _ _ refl
    (all_of (b == 103) _ _ refl
    (all_of (b == 104) _ _ refl
    (all_of (b == 106) _ _ refl
    (all_of (b == 108) _ _ refl
    (all_of (b == 109) _ _ refl
    (all_of (b == 110) _ _ refl
    (all_of (b == 111) _ _ refl
    (all_of (b == 112) _ _ refl
    (all_of (b == 113) _ _ refl
    (all_of (b == 114) _ _ refl
    (all_of (b == 115) _ _ refl
    (all_of (b == 118) _ _ refl
    (all_of (b == 120) _ _ refl refl
    ))))))))))))))))))))

named_plain : (word : List ℕ) (op : Op) (es : List (List ℕ × Op)) → list_all (λ e. is_plain e.0) es ≡ true → named word es ≡ Some op → is_plain word ≡ true
named_plain word op [] all found = cc
named_plain word op (e ∷ es) all found =
    let parts = and_parts (is_plain e.0) (list_all (λ x. is_plain x.0) es) all in
    by (bytes_eq word e.0) refl parts.0 found (named_plain word op es parts.1)
  where
    by : (b : Bool) → bytes_eq word e.0 ≡ b → is_plain e.0 ≡ true → cond b (Some e.1) (named word es) ≡ Some op → (named word es ≡ Some op → is_plain word ≡ true) → is_plain word ≡ true
    by true same plain found rest = ap is_plain ((bytes_eq-Decides word e.0).0 same) ∙ plain
    by false other plain found rest = rest found

false_of : (b : Bool) → not b ≡ true → b ≡ false
false_of false e = refl
false_of true e = sym e

-- a word that names an operation begins an instruction
pub op_begins : (word : List ℕ) (op : Op) → op_of word ≡ Some op → Ok (statement.Instruction op) ≡ word_statement section.Code word
op_begins word op found =
    let plain = named_plain word op (names_from (slice_index word 0)) (all_plain (slice_index word 0)) found in
    let one = and_parts (not (is_float_word word)) (not (bytes_eq word (codes "note")) && not (bytes_eq word (codes "name"))) plain in
    let two = and_parts (not (bytes_eq word (codes "note"))) (not (bytes_eq word (codes "name"))) one.1 in
    rw (false_of (is_float_word word) one.0, false_of (bytes_eq word (codes "note")) two.0, false_of (bytes_eq word (codes "name")) two.1, found) refl

-- the next byte
float_on : (word : List ℕ) (i : ℕ) → i < length word → is_float_word (drop i word) ≡ (begins_float_part (drop i word) || is_float_word (drop (i + 1) word))
unfolding is_float_word
float_on word i h =
    let here : drop i word ≡ get_or word i 0 ∷ drop (i + 1) word = rw add-one (drop-cons word i 0 h) in
    ap is_float_word here ∙ ap (λ bytes. begins_float_part bytes || is_float_word (drop (i + 1) word)) (sym here)

module _ (word : List ℕ) (i : ℕ) (invariant : is_float_word (drop i word) ≡ is_float_word word) where
  pub float_found : i < length word → begins_float_part (drop i word) ≡ true → true ≡ is_float_word word
  float_found h e = sym (ap (λ b. b || is_float_word (drop (i + 1) word)) e) ∙ sym (float_on word i h) ∙ invariant

  pub float_further : i < length word → begins_float_part (drop i word) ≡ false → is_float_word (drop (i + 1) word) ≡ is_float_word word
  float_further h e = sym (ap (λ b. b || is_float_word (drop (i + 1) word)) e) ∙ sym (float_on word i h) ∙ invariant

  pub float_end : length word ≤ i → false ≡ is_float_word word
  unfolding is_float_word
  float_end h = sym (ap is_float_word (drop_all i word h)) ∙ invariant
