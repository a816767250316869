-- The first token that begins no statement, token by token.
use Rattle.std.proofs.Common.{◌≡◌, ℕ, ◌<◌, ◌≤◌, List, [], ◌∷◌, Option, Some, None, Ok, length, sym, ap, ◌∙◌, subst, refl}
use Rattle.std.specs.Prelude.{Result}
use Rattle.std.specs.Option.{option_map, option_or}
use Rattle.lg_base.specs.declared.refusal.Refusal.{Refusal}
use Rattle.lg_lex.specs.Tokens.{AreInOrder, Gives, Tokens}
use Rattle.lg_lex.specs.declared.token.Token.{Token}
use Rattle.lg_op.specs.declared.form.Form.{Form}
use Rattle.lg_tst.specs.Streams.{text_of}
use Rattle.lg_explain.specs.Lines.{shown}
use Rattle.lg_explain.specs.Unknown.{forms_after, part_after, rest_after, unknown, unknown_from}
use Rattle.lg_explain.specs.declared.place.Part.{Part}
use Rattle.lg_explain.specs.declared.place.Rest.{Rest}

-- what comes after a token
abbrev pub later : List ℕ → Token → List Token → Part → List Form → Rest → Option (List ℕ)
later text t more p forms r = unknown_from text more (part_after p forms r t.kind (text_of text t)) (forms_after p forms r t.kind (text_of text t)) (rest_after p forms r t.kind (text_of text t))

-- what is left of a text: its tokens in order, and the first of them that begins no statement is that of the whole text
pub record IsLeft (text : List ℕ) (all : Option (List ℕ)) (left : Tokens) (p : Part) (forms : List Form) (r : Rest) : Type 0 where
  pub place : ℕ
  pub order : AreInOrder text place left.0
  pub same : unknown_from text left.0 p forms r ≡ all

-- the next token
pub record IsNext (text : List ℕ) (all : Option (List ℕ)) (token : Token) (left : Tokens) (p : Part) (forms : List Form) (r : Rest) : Type 0 where
  pub start : token.start < token.end
  pub end : token.end ≤ length text
  pub order : AreInOrder text token.end left.0
  pub same : option_or (unknown p forms r token.kind (text_of text token)) (later text token left.0 p forms r) ≡ all

next_at : (text : List ℕ) (all : Option (List ℕ)) (place : ℕ) (tokens : List Token) (fault : Option Refusal) (p : Part) (forms : List Form) (r : Rest) (read : Result (Option Token) Refusal) (left : Tokens) (token : Token)
    → AreInOrder text place tokens → unknown_from text tokens p forms r ≡ all → Gives (tokens, fault) read left → read ≡ Ok (Some token)
    → IsNext text all token left p forms r
unfolding unknown_from
next_at text all place [] None p forms r read left token order same gives is = let no = sym is ∙ gives.0 in cc
next_at text all place [] (Some refusal) p forms r read left token order same gives is = let no = sym is ∙ gives.0 in cc
next_at text all place (t ∷ more) fault p forms r read left token order same gives is = here t token (ok_some (sym gives.0 ∙ is)) (more, fault) left (sym gives.1) order same
  where
    ok_some : {a b : Token} → ◌≡◌ {A = Result (Option Token) Refusal} (Ok (Some a)) (Ok (Some b)) → a ≡ b
    ok_some e = cc

    here : (t token : Token) → t ≡ token → (rest left : Tokens) → rest ≡ left → AreInOrder text place (t ∷ rest.0) → unknown_from text (t ∷ rest.0) p forms r ≡ all → IsNext text all token left p forms r
    here t token e rest left f order same =
        subst (λ (x : Token × Tokens). IsNext text all x.0 x.1 p forms r) (λ i. (e i, f i))
        record { start = order.1; end = order.2; order = order.3; same = same }

pub next : (text : List ℕ) (all : Option (List ℕ)) (tokens : Tokens) (p : Part) (forms : List Form) (r : Rest) (read : Result (Option Token) Refusal) (left : Tokens) (token : Token)
    → IsLeft text all tokens p forms r → Gives tokens read left → read ≡ Ok (Some token) → IsNext text all token left p forms r
next text all tokens p forms r read left token h gives is = next_at text all h.place tokens.0 tokens.1 p forms r read left token h.order h.same gives is

-- there is none
end_at : (text : List ℕ) (tokens : List Token) (fault : Option Refusal) (p : Part) (forms : List Form) (r : Rest) (read : Result (Option Token) Refusal) (left : Tokens)
    → Gives (tokens, fault) read left → ((token : Token) → read ≡ Ok (Some token) → ⊥) → unknown_from text tokens p forms r ≡ None
unfolding unknown_from
end_at text [] fault p forms r read left gives none = refl
end_at text (t ∷ more) fault p forms r read left gives none = absurd (none t gives.0)

pub at_end : (text : List ℕ) (all : Option (List ℕ)) (tokens : Tokens) (p : Part) (forms : List Form) (r : Rest) (read : Result (Option Token) Refusal) (left : Tokens)
    → IsLeft text all tokens p forms r → Gives tokens read left → ((token : Token) → read ≡ Ok (Some token) → ⊥) → all ≡ None
at_end text all tokens p forms r read left h gives none = sym h.same ∙ end_at text tokens.0 tokens.1 p forms r read left gives none

-- a token that begins none is the first one, and after one that does, or belongs to the statement at hand, there is what is left
pub found_here : (text : List ℕ) (all : Option (List ℕ)) (token : Token) (left : Tokens) (p : Part) (forms : List Form) (r : Rest) (word : List ℕ)
    → IsNext text all token left p forms r → Some word ≡ option_map shown (unknown p forms r token.kind (text_of text token)) → Some word ≡ option_map shown all
found_here text all token left p forms r word h is = by (unknown p forms r token.kind (text_of text token)) is h.same
  where
    by : (o : Option (List ℕ)) → Some word ≡ option_map shown o → option_or o (later text token left.0 p forms r) ≡ all → Some word ≡ option_map shown all
    by None is same = cc
    by (Some w) is same = is ∙ ap (option_map shown) same

pub left_after : (text : List ℕ) (all : Option (List ℕ)) (token : Token) (left : Tokens) (p : Part) (forms : List Form) (r : Rest) (p' : Part) (forms' : List Form) (r' : Rest)
    → IsNext text all token left p forms r → None ≡ option_map shown (unknown p forms r token.kind (text_of text token))
    → p' ≡ part_after p forms r token.kind (text_of text token) → forms' ≡ forms_after p forms r token.kind (text_of text token)
    → r' ≡ rest_after p forms r token.kind (text_of text token) → IsLeft text all left p' forms' r'
left_after text all token left p forms r p' forms' r' h is ep ef er =
    record { place = token.end; order = h.order; same = (λ i. unknown_from text left.0 (ep i) (ef i) (er i)) ∙ by (unknown p forms r token.kind (text_of text token)) is h.same }
  where
    by : (o : Option (List ℕ)) → None ≡ option_map shown o → option_or o (later text token left.0 p forms r) ≡ all → later text token left.0 p forms r ≡ all
    by None is same = same
    by (Some w) is same = cc
