-- What is left of the tokens after one was taken.
use Rattle.std.proofs.Common.{List, [], ◌∷◌, Option, Some, None, Result, subst, sym}
use Rattle.std.specs.List.{All}
use Rattle.std.proofs.lemmas.List.Elements.{All-nil, All-tail}
use Rattle.lg_base.specs.declared.refusal.Refusal.{Refusal}
use Rattle.lg_lex.specs.declared.token.Token.{Token}
use Rattle.lg_lex.specs.Tokens.{Tokens, Gives}

module _ (P : Token → Type 0) where
  pub rest_are : (left : List Token) (fault : Option Refusal) (result : Result (Option Token) Refusal) (behind : Tokens) → Gives (left, fault) result behind → All P left → All P behind.0
  rest_are [] None result behind gives all = subst (λ (b : Tokens). All P b.0) (sym gives.1) (All-nil P)
  rest_are [] (Some refusal) result behind gives all = subst (λ (b : Tokens). All P b.0) (sym gives.1) (All-nil P)
  rest_are (token ∷ more) fault result behind gives all = subst (λ (b : Tokens). All P b.0) (sym gives.1) (All-tail P token more all)
