-- The statements of a text, one after another.
use Rattle.std.proofs.Common.{◌≡◌, ℕ, suc, ◌-◌, ◌<◌, List, [], ◌∷◌, length, Option, Some, None, Result, Ok, Err, refl, sym, ap, ◌∙◌, arith}
use Rattle.lg_base.specs.declared.refusal.Refusal.{Refusal}
use Rattle.lg_lex.specs.declared.token.Token.{Token}
use Rattle.lg_base.specs.Refusals.{◌>>=◌}
use Rattle.lg_tst.specs.Streams.{next_of, tail_of}
use Rattle.lg_tst.proofs.ProgressLemmas.{statement_less}
use Rattle.lg_tst.specs.Units.{State, behind, statement_from, text_from, statements, statements_of}

-- the statements that are left decide what all of them give, and there is room to read them
pub record IsLeft (s first : State) : Type 0 where
  pub most : ℕ
  pub room : length s.source.left < most
  pub whole : statements most s ≡ statements_of first

none_left : (left : List Token) (fault : Option Refusal) → next_of left fault ≡ Ok None → tail_of left ≡ left
none_left [] fault e = refl
none_left (t ∷ more) fault e = cc

some_left : (left : List Token) (fault : Option Refusal) (t : Token) → next_of left fault ≡ Ok (Some t) → length (tail_of left) < length left
some_left [] None t e = cc
some_left [] (Some refusal) t e = cc
some_left (x ∷ more) fault t e = omega arith

module _ (s first : State) (left : IsLeft s first) where
  -- what the next token leads to
  next_leads : (n : Result (Option Token) Refusal) → next_of s.source.left s.source.fault ≡ n → statements_of first ≡ text_from (statements (left.most - 1)) s n
  unfolding statements
  next_leads n e =
      let more : left.most ≡ suc (left.most - 1) = omega (arith, left.room) in
      sym left.whole ∙ ap (λ k. statements k s) more ∙ ap (text_from (statements (left.most - 1)) s) e

  pub text_ends : next_of s.source.left s.source.fault ≡ Ok None → statements_of first ≡ Ok (behind s)
  text_ends e = next_leads (Ok None) e ∙ ap (λ ts. Ok (record s { source = record s.source { left = ts } })) (sym (none_left s.source.left s.source.fault e))

  pub text_faults : (refusal : Refusal) → next_of s.source.left s.source.fault ≡ Err refusal → statements_of first ≡ Err refusal
  text_faults refusal e = next_leads (Err refusal) e

  module _ (t : Token) (e : next_of s.source.left s.source.fault ≡ Ok (Some t)) where
    pub statement_faults : (refusal : Refusal) → statement_from (behind s) t ≡ Err refusal → statements_of first ≡ Err refusal
    statement_faults refusal is = next_leads (Ok (Some t)) e ∙ ap (λ r. r >>= λ u. statements (left.most - 1) u) is

    pub fewer_left : (new : State) → statement_from (behind s) t ≡ Ok new → length new.source.left < length s.source.left
    fewer_left new is =
        let some = some_left s.source.left s.source.fault t e in
        let kept = statement_less (behind s) new t is in
        omega (arith, some, kept)

    pub statement_read : (new : State) → statement_from (behind s) t ≡ Ok new → IsLeft new first
    statement_read new is = let less = fewer_left new is in record {
      most = left.most - 1;
      room = omega (arith, less, left.room);
      whole = sym (next_leads (Ok (Some t)) e ∙ ap (λ r. r >>= λ u. statements (left.most - 1) u) is);
    }
