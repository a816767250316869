-- A text that is refused for a word that is made twice is refused at the first token that makes one again.
use Rattle.std.proofs.Common.{◌≡◌, ◌⊎◌, inl, inr, ℕ, suc, List, [], ◌∷◌, Option, Some, None, Ok, Err, length, refl, sym, ◌∙◌, subst}
use Rattle.std.specs.Prelude.{Result, slice_get}
use Rattle.lg_base.specs.Refusals.{◌>>=◌}
use Rattle.lg_base.specs.declared.refusal.Refusal.{Refusal}
use Rattle.lg_base.specs.declared.refusal.RefusalKind.TheVariants.{BadExpr, BadToken, LabelTwice}
use Rattle.lg_lex.specs.Tokens.{tokens_of}
use Rattle.lg_lex.specs.declared.token.Token.{Token}
use Rattle.lg_lex.proofs.FaultKindLemmas.{IsTokenFault, tokens_fault}
use Rattle.lg_op.specs.declared.form.Form.{Form}
use Rattle.lg_tst.specs.Streams.{text_of}
use Rattle.lg_tst.specs.Units.{State, start, statements_of, unit_from}
use Rattle.lg_explain.specs.Twice.{forms_after, labels_after, names_after}
use Rattle.lg_explain.specs.TwiceMade.{TwiceIsWhereReadingStops}
use Rattle.lg_explain.proofs.FirstTwiceLemmas.{First, first_now, first_later, is_first}
use Rattle.lg_explain.proofs.ReadingStopsLemmas.{HasMade, Stops, StopsAt, statements_stop}
use Rattle.lg_explain.proofs.ReadingTokenLemmas.{NoTwice}

-- a fault of the tokens is for another reason
other_fault : (fault : Option Refusal) → IsTokenFault fault → NoTwice fault
other_fault None h = tt
other_fault (Some fault) h = λ e. by e h
  where
    by : fault.kind ≡ LabelTwice → (fault.kind ≡ BadToken) ⊎ (fault.kind ≡ BadExpr) → ⊥
    by e (inl f) = let no : BadToken ≡ LabelTwice = sym f ∙ e in cc
    by e (inr f) = let no : BadExpr ≡ LabelTwice = sym f ∙ e in cc

module _ (text : List ℕ) where
  -- the first token that makes a word again, and its line
  pub record IsFirstIn (labels names : List (List ℕ)) (forms : List Form) (tokens : List Token) (line : ℕ) : Type 0 where
    pub word : List ℕ
    pub first : First text labels names forms tokens word
    pub token : Token
    pub here : slice_get tokens first.at ≡ Some token
    pub line_is : token.line ≡ line

  first_in : (tokens : List Token) (labels names : List (List ℕ)) (forms : List Form) (line : ℕ) → Stops text tokens labels names forms line → IsFirstIn labels names forms tokens line
  first_in [] labels names forms line h = absurd h
  first_in (t ∷ tokens) labels names forms line (inl (word, e, same)) = record {
    word = word;
    first = first_now text t tokens labels names forms word e;
    token = t;
    here = refl;
    line_is = same;
  }
  first_in (t ∷ tokens) labels names forms line (inr (none, rest)) =
      let h = first_in tokens (labels_after forms t.kind (text_of text t) labels) (names_after forms t.kind (text_of text t) names) (forms_after forms t.kind (text_of text t)) line rest in record {
        word = h.word;
        first = first_later text t tokens labels names forms h.word none h.first;
        token = h.token;
        here = h.here;
        line_is = h.line_is;
      }

  begins : HasMade text (start text) [] []
  begins = record { of = refl; faultless = other_fault (tokens_of text).1 (tokens_fault text); even = refl; bound = λ word. refl; named = refl }

  stopped : (fault : Refusal) (r : Result State Refusal) → statements_of (start text) ≡ r → (r >>= λ s. Ok (unit_from s)) ≡ Err fault → fault.kind ≡ LabelTwice
      → Stops text (tokens_of text).0 [] [] [] fault.line
  stopped fault (Ok s) e is kind = cc
  stopped fault (Err other) e is kind =
      let same : other ≡ fault = cc in
      subst (λ f. f.kind ≡ LabelTwice → Stops text (tokens_of text).0 [] [] [] f.line) same
      (read (Err other) e (statements_stop text (suc (length (tokens_of text).0)) (start text) [] [] begins)) kind
    where
      read : (q : Result State Refusal) → statements_of (start text) ≡ q → StopsAt text (statements_of (start text)) (tokens_of text).0 [] [] → StopsAt text q (tokens_of text).0 [] []
      read q f g = subst (λ x. StopsAt text x (tokens_of text).0 [] []) f g

pub twice_stops : TwiceIsWhereReadingStops
twice_stops text fault e kind =
    let h = first_in text (tokens_of text).0 [] [] [] fault.line (stopped text fault (statements_of (start text)) refl e kind) in record {
      word = h.word;
      first = is_first text (tokens_of text).0 h.word h.first;
      token = h.token;
      here = h.here;
      line = h.line_is;
    }
