-- Words that are made, token by token.
use Rattle.std.proofs.Common.{◌≡◌, ℕ, ◌<◌, ◌≤◌, true, false, List, [], ◌∷◌, ◌++◌, Option, Some, None, Ok, IfSome, length, refl, sym, ap, ◌∙◌, inl, inr, subst, arith}
use Rattle.std.specs.Prelude.{Result, if◌then◌else◌}
use Rattle.std.specs.Option.{option_map, option_or}
use Rattle.lg_base.specs.declared.refusal.Refusal.{Refusal}
use Rattle.lg_lex.specs.Tokens.{AreInOrder, Gives, Tokens}
use Rattle.lg_lex.specs.declared.token.Token.{Token}
use Rattle.lg_op.specs.Names.{IsName}
use Rattle.lg_op.specs.declared.form.Form.{Form}
use Rattle.lg_op.specs.declared.op.Op.{Op}
use Rattle.lg_op.proofs.NameLemmas.{found, found_named, again as again_named, long_again}
use Rattle.lg_tst.specs.Streams.{text_of}
use Rattle.lg_tst.specs.Words.{op_of}
use Rattle.lg_explain.specs.Lines.{shown}
use Rattle.lg_explain.specs.Twice.{again, forms_after, is_made, labels_after, names_after, twice_from, with_word}

-- a word that an operation's name is leads to that operation
named_found : (op : Op) (word : List ℕ) → IsName op word → found word ≡ Some op
named_found op word (inl same) = ap found same ∙ again_named op
named_found op word (inr long) = ap found long.1 ∙ long_again op long.0

pub op_of_is : (word : List ℕ) (r : Option Op) → IfSome r (λ op. IsName op word) → ((op : Op) → IsName op word → r ≡ Some op) → r ≡ op_of word
op_of_is word None named every = by (found word) refl
  where
    by : (o : Option Op) → found word ≡ o → None ≡ o
    by None e = refl
    by (Some op) e = every op (found_named (Some op) word (sym e))
op_of_is word (Some op) named every = sym (named_found op word named)

-- ---- what is left of a text: its tokens in order, and the first word that is made again is that of the whole text
pub record IsLeft (text : List ℕ) (all : Option (List ℕ)) (left : Tokens) (labels names : List (List ℕ)) (forms : List Form) : Type 0 where
  pub place : ℕ
  pub order : AreInOrder text place left.0
  pub same : twice_from text left.0 labels names forms ≡ all

-- the next token
pub record IsNext (text : List ℕ) (all : Option (List ℕ)) (token : Token) (left : Tokens) (labels names : List (List ℕ)) (forms : List Form) : Type 0 where
  pub start : token.start < token.end
  pub end : token.end ≤ length text
  pub order : AreInOrder text token.end left.0
  pub same : option_or (again forms token.kind (text_of text token) labels names)
      (twice_from text left.0 (labels_after forms token.kind (text_of text token) labels) (names_after forms token.kind (text_of text token) names) (forms_after forms token.kind (text_of text token))) ≡ all

next_at : (text : List ℕ) (all : Option (List ℕ)) (place : ℕ) (tokens : List Token) (fault : Option Refusal) (labels names : List (List ℕ)) (forms : List Form) (r : Result (Option Token) Refusal) (left : Tokens) (token : Token)
    → AreInOrder text place tokens → twice_from text tokens labels names forms ≡ all → Gives (tokens, fault) r left → r ≡ Ok (Some token)
    → IsNext text all token left labels names forms
unfolding twice_from
next_at text all place [] None labels names forms r left token order same gives is = let no = sym is ∙ gives.0 in cc
next_at text all place [] (Some refusal) labels names forms r left token order same gives is = let no = sym is ∙ gives.0 in cc
next_at text all place (t ∷ more) fault labels names forms r left token order same gives is = here t token (ok_some (sym gives.0 ∙ is)) (more, fault) left (sym gives.1) order same
  where
    ok_some : {a b : Token} → ◌≡◌ {A = Result (Option Token) Refusal} (Ok (Some a)) (Ok (Some b)) → a ≡ b
    ok_some e = cc

    here : (t token : Token) → t ≡ token → (rest left : Tokens) → rest ≡ left → AreInOrder text place (t ∷ rest.0) → twice_from text (t ∷ rest.0) labels names forms ≡ all → IsNext text all token left labels names forms
    here t token e rest left f order same =
        subst (λ (x : Token × Tokens). IsNext text all x.0 x.1 labels names forms) (λ i. (e i, f i))
        record { start = order.1; end = order.2; order = order.3; same = same }

pub next : (text : List ℕ) (all : Option (List ℕ)) (tokens : Tokens) (labels names : List (List ℕ)) (forms : List Form) (r : Result (Option Token) Refusal) (left : Tokens) (token : Token)
    → IsLeft text all tokens labels names forms → Gives tokens r left → r ≡ Ok (Some token) → IsNext text all token left labels names forms
next text all tokens labels names forms r left token h gives is = next_at text all h.place tokens.0 tokens.1 labels names forms r left token h.order h.same gives is

-- there is none
end_at : (text : List ℕ) (tokens : List Token) (fault : Option Refusal) (labels names : List (List ℕ)) (forms : List Form) (r : Result (Option Token) Refusal) (left : Tokens)
    → Gives (tokens, fault) r left → ((token : Token) → r ≡ Ok (Some token) → ⊥) → twice_from text tokens labels names forms ≡ None
unfolding twice_from
end_at text [] fault labels names forms r left gives none = refl
end_at text (t ∷ more) fault labels names forms r left gives none = absurd (none t gives.0)

pub at_end : (text : List ℕ) (all : Option (List ℕ)) (tokens : Tokens) (labels names : List (List ℕ)) (forms : List Form) (r : Result (Option Token) Refusal) (left : Tokens)
    → IsLeft text all tokens labels names forms → Gives tokens r left → ((token : Token) → r ≡ Ok (Some token) → ⊥) → all ≡ None
at_end text all tokens labels names forms r left h gives none = sym h.same ∙ end_at text tokens.0 tokens.1 labels names forms r left gives none

-- a word that is made again is the first one, and after a token that makes none there is what is left
pub found_here : (text : List ℕ) (all : Option (List ℕ)) (token : Token) (left : Tokens) (labels names : List (List ℕ)) (forms : List Form) (word : List ℕ)
    → IsNext text all token left labels names forms → Some word ≡ option_map shown (again forms token.kind (text_of text token) labels names) → Some word ≡ option_map shown all
found_here text all token left labels names forms word h is = by (again forms token.kind (text_of text token) labels names) is h.same
  where
    rest : Option (List ℕ)
    rest = twice_from text left.0 (labels_after forms token.kind (text_of text token) labels) (names_after forms token.kind (text_of text token) names) (forms_after forms token.kind (text_of text token))

    by : (o : Option (List ℕ)) → Some word ≡ option_map shown o → option_or o rest ≡ all → Some word ≡ option_map shown all
    by None is same = cc
    by (Some w) is same = is ∙ ap (option_map shown) same

pub left_after : (text : List ℕ) (all : Option (List ℕ)) (token : Token) (left : Tokens) (labels names : List (List ℕ)) (forms : List Form) (labels' names' : List (List ℕ)) (forms' : List Form)
    → IsNext text all token left labels names forms → None ≡ option_map shown (again forms token.kind (text_of text token) labels names)
    → labels' ≡ labels_after forms token.kind (text_of text token) labels → names' ≡ names_after forms token.kind (text_of text token) names
    → forms' ≡ forms_after forms token.kind (text_of text token) → IsLeft text all left labels' names' forms'
left_after text all token left labels names forms labels' names' forms' h is el en ef =
    record { place = token.end; order = h.order; same = (λ i. twice_from text left.0 (el i) (en i) (ef i)) ∙ by (again forms token.kind (text_of text token) labels names) is h.same }
  where
    rest : Option (List ℕ)
    rest = twice_from text left.0 (labels_after forms token.kind (text_of text token) labels) (names_after forms token.kind (text_of text token) names) (forms_after forms token.kind (text_of text token))

    by : (o : Option (List ℕ)) → None ≡ option_map shown o → option_or o rest ≡ all → rest ≡ all
    by None is same = same
    by (Some w) is same = cc

-- there are fewer tokens left
pub fewer : (tokens : Tokens) (r : Result (Option Token) Refusal) (left : Tokens) (token : Token) → Gives tokens r left → r ≡ Ok (Some token) → length left.0 < length tokens.0
fewer tokens r left token gives is = by tokens.0 tokens.1 gives
  where
    by : (xs : List Token) (fault : Option Refusal) → Gives (xs, fault) r left → length left.0 < length xs
    by [] None g = let no = sym is ∙ g.0 in cc
    by [] (Some refusal) g = let no = sym is ∙ g.0 in cc
    by (t ∷ more) fault g = let same : length left.0 ≡ length more = ap (λ (x : Tokens). length x.0) g.1 in omega (arith, same)

-- ---- a word that is added
pub kept : (words : List (List ℕ)) (word : List ℕ) → is_made words word ≡ true → words ≡ with_word words word
kept words word e = sym (ap (λ b. if b then words else words ++ word ∷ []) e)

pub added : (words new : List (List ℕ)) (word : List ℕ) → is_made words word ≡ false → new ≡ words ++ word ∷ [] → new ≡ with_word words word
added words new word e is = is ∙ sym (ap (λ b. if b then words else words ++ word ∷ []) e)
