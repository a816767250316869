-- The first token that is no operand which its place takes, token by token.
use Rattle.std.proofs.Common.{◌≡◌, ℕ, ◌<◌, ◌≤◌, List, [], ◌∷◌, Option, Some, None, Ok, length, sym, ap, ◌∙◌, subst, refl}
use Rattle.std.specs.Prelude.{Result}
use Rattle.std.specs.Option.{option_map, option_or}
use Rattle.lg_base.specs.declared.refusal.Refusal.{Refusal}
use Rattle.lg_lex.specs.Tokens.{AreInOrder, Gives, Tokens}
use Rattle.lg_lex.specs.declared.token.Token.{Token}
use Rattle.lg_op.specs.declared.form.Form.{Form}
use Rattle.lg_tst.specs.Streams.{text_of}
use Rattle.lg_explain.specs.Lines.{shown}
use Rattle.lg_explain.specs.Misfits.{misfit, misfit_from, missing, word_after}
use Rattle.lg_explain.specs.Unknown.{forms_after, part_after, rest_after}
use Rattle.lg_explain.specs.declared.place.Part.{Part}
use Rattle.lg_explain.specs.declared.place.Rest.{Rest}

-- what a token is, and what comes after it
abbrev pub here_of : List ℕ → Token → List Form → Rest → (word before : List ℕ) → Option (List ℕ)
here_of text t left r word before = misfit left r word before t.kind (text_of text t) t.value

abbrev pub later : List ℕ → Token → List Token → Part → List Form → Rest → (word : List ℕ) → Option (List ℕ)
later text t more p left r word = misfit_from text more (part_after p left r t.kind (text_of text t)) (forms_after p left r t.kind (text_of text t))
    (rest_after p left r t.kind (text_of text t)) (word_after left r word t.kind (text_of text t)) (text_of text t)

-- what is left of a text: its tokens in order, and the first of them that does not fit is that of the whole text
pub record IsLeft (text : List ℕ) (all : Option (List ℕ)) (tokens : Tokens) (p : Part) (left : List Form) (r : Rest) (word before : List ℕ) : Type 0 where
  pub place : ℕ
  pub order : AreInOrder text place tokens.0
  pub same : misfit_from text tokens.0 p left r word before ≡ all

-- the next token
pub record IsNext (text : List ℕ) (all : Option (List ℕ)) (token : Token) (tokens : Tokens) (p : Part) (left : List Form) (r : Rest) (word before : List ℕ) : Type 0 where
  pub start : token.start < token.end
  pub end : token.end ≤ length text
  pub order : AreInOrder text token.end tokens.0
  pub same : option_or (here_of text token left r word before) (later text token tokens.0 p left r word) ≡ all

next_at : (text : List ℕ) (all : Option (List ℕ)) (place : ℕ) (tokens : List Token) (fault : Option Refusal) (p : Part) (left : List Form) (r : Rest) (word before : List ℕ)
    (read : Result (Option Token) Refusal) (behind : Tokens) (token : Token)
    → AreInOrder text place tokens → misfit_from text tokens p left r word before ≡ all → Gives (tokens, fault) read behind → read ≡ Ok (Some token)
    → IsNext text all token behind p left r word before
unfolding misfit_from
next_at text all place [] None p left r word before read behind token order same gives is = let no = sym is ∙ gives.0 in cc
next_at text all place [] (Some refusal) p left r word before read behind token order same gives is = let no = sym is ∙ gives.0 in cc
next_at text all place (t ∷ more) fault p left r word before read behind token order same gives is = here t token (ok_some (sym gives.0 ∙ is)) (more, fault) behind (sym gives.1) order same
  where
    ok_some : {a b : Token} → ◌≡◌ {A = Result (Option Token) Refusal} (Ok (Some a)) (Ok (Some b)) → a ≡ b
    ok_some e = cc

    here : (t token : Token) → t ≡ token → (rest behind : Tokens) → rest ≡ behind → AreInOrder text place (t ∷ rest.0) → misfit_from text (t ∷ rest.0) p left r word before ≡ all
        → IsNext text all token behind p left r word before
    here t token e rest behind f order same =
        subst (λ (x : Token × Tokens). IsNext text all x.0 x.1 p left r word before) (λ i. (e i, f i))
        record { start = order.1; end = order.2; order = order.3; same = same }

pub next : (text : List ℕ) (all : Option (List ℕ)) (tokens : Tokens) (p : Part) (left : List Form) (r : Rest) (word before : List ℕ) (read : Result (Option Token) Refusal) (behind : Tokens) (token : Token)
    → IsLeft text all tokens p left r word before → Gives tokens read behind → read ≡ Ok (Some token) → IsNext text all token behind p left r word before
next text all tokens p left r word before read behind token h gives is = next_at text all h.place tokens.0 tokens.1 p left r word before read behind token h.order h.same gives is

-- there is none
end_at : (text : List ℕ) (tokens : List Token) (fault : Option Refusal) (p : Part) (left : List Form) (r : Rest) (word before : List ℕ) (read : Result (Option Token) Refusal) (behind : Tokens)
    → Gives (tokens, fault) read behind → ((token : Token) → read ≡ Ok (Some token) → ⊥) → misfit_from text tokens p left r word before ≡ missing left r word
unfolding misfit_from
end_at text [] fault p left r word before read behind gives none = refl
end_at text (t ∷ more) fault p left r word before read behind gives none = absurd (none t gives.0)

pub at_end : (text : List ℕ) (all : Option (List ℕ)) (tokens : Tokens) (p : Part) (left : List Form) (r : Rest) (word before : List ℕ) (read : Result (Option Token) Refusal) (behind : Tokens)
    → IsLeft text all tokens p left r word before → Gives tokens read behind → ((token : Token) → read ≡ Ok (Some token) → ⊥) → missing left r word ≡ all
at_end text all tokens p left r word before read behind h gives none = sym (end_at text tokens.0 tokens.1 p left r word before read behind gives none) ∙ h.same

-- a token that does not fit is the first one, and after one that does there is what is left
pub found_here : (text : List ℕ) (all : Option (List ℕ)) (token : Token) (behind : Tokens) (p : Part) (left : List Form) (r : Rest) (word before said : List ℕ)
    → IsNext text all token behind p left r word before → Some said ≡ option_map shown (here_of text token left r word before) → Some said ≡ option_map shown all
found_here text all token behind p left r word before said h is = by (here_of text token left r word before) is h.same
  where
    by : (o : Option (List ℕ)) → Some said ≡ option_map shown o → option_or o (later text token behind.0 p left r word) ≡ all → Some said ≡ option_map shown all
    by None is same = cc
    by (Some w) is same = is ∙ ap (option_map shown) same

pub left_after : (text : List ℕ) (all : Option (List ℕ)) (token : Token) (behind : Tokens) (p : Part) (left : List Form) (r : Rest) (word before : List ℕ)
    (p' : Part) (left' : List Form) (r' : Rest) (word' before' : List ℕ)
    → IsNext text all token behind p left r word before → None ≡ option_map shown (here_of text token left r word before)
    → p' ≡ part_after p left r token.kind (text_of text token) → left' ≡ forms_after p left r token.kind (text_of text token)
    → r' ≡ rest_after p left r token.kind (text_of text token) → word' ≡ word_after left r word token.kind (text_of text token) → before' ≡ text_of text token
    → IsLeft text all behind p' left' r' word' before'
left_after text all token behind p left r word before p' left' r' word' before' h is ep ef er ew eb =
    record { place = token.end; order = h.order; same = (λ i. misfit_from text behind.0 (ep i) (ef i) (er i) (ew i) (eb i)) ∙ by (here_of text token left r word before) is h.same }
  where
    by : (o : Option (List ℕ)) → None ≡ option_map shown o → option_or o (later text token behind.0 p left r word) ≡ all → later text token behind.0 p left r word ≡ all
    by None is same = same
    by (Some w) is same = cc
