-- The values of a data item, one after another.
use Rattle.std.proofs.Common.{◌≡◌, true, false, if◌then◌else◌, List, [], ◌∷◌, Some, None, Ok, sym, ap, ◌∙◌, refl}
use Rattle.lg_lex.specs.declared.token.Token.{Token}
use Rattle.lg_tst.specs.Statements.{is_value}
use Rattle.lg_base.specs.Refusals.{◌>>=◌}
use Rattle.lg_tst.specs.Streams.{head_of, tail_of}
use Rattle.lg_tst.specs.Units.{State, behind, item, more_values, value_and_more}
use Rattle.lg_tst.specs.declared.statement.ItemSize.{ItemSize}

-- a value comes next
pub value_next : (size : ItemSize) (left : List Token) (s : State) (t : Token) → Some t ≡ head_of left → is_value size t.kind ≡ true → more_values size left s ≡ (item size t (behind s) >>= λ u. more_values size (tail_of left) u)
unfolding more_values
value_next size [] s t e is = cc
value_next size (x ∷ more) s t e is =
    let same : t ≡ x = cc in
    let first = ap (λ (y : Token). is_value size y.kind) (sym same) ∙ is in
    ap (λ b. if b then (item size x (behind s) >>= λ u. more_values size more u) else Ok s) first
    ∙ ap (λ y. item size y (behind s) >>= λ u. more_values size more u) (sym same)

-- another token comes next
pub other_next : (size : ItemSize) (left : List Token) (s : State) (t : Token) → Some t ≡ head_of left → is_value size t.kind ≡ false → more_values size left s ≡ Ok s
unfolding more_values
other_next size [] s t e is = cc
other_next size (x ∷ more) s t e is =
    let same : t ≡ x = cc in
    let first = ap (λ (y : Token). is_value size y.kind) (sym same) ∙ is in
    ap (λ b. if b then (item size x (behind s) >>= λ u. more_values size more u) else Ok s) first

-- no token comes next
pub none_next : (size : ItemSize) (left : List Token) (s : State) → None ≡ head_of left → more_values size left s ≡ Ok s
unfolding more_values
none_next size [] s e = refl
none_next size (x ∷ more) s e = cc

-- the same where the state after the value, or the state as it was, is given
pub value_after : (size : ItemSize) (s new : State) (t : Token) → Some t ≡ head_of s.source.left → is_value size t.kind ≡ true → new ≡ behind s → more_values size s.source.left s ≡ value_and_more size t new
value_after size s new t e is same = value_next size s.source.left s t e is ∙ sym (ap (value_and_more size t) same)

pub other_after : (size : ItemSize) (s new : State) (t : Token) → Some t ≡ head_of s.source.left → is_value size t.kind ≡ false → new ≡ s → more_values size s.source.left s ≡ Ok new
other_after size s new t e is same = other_next size s.source.left s t e is ∙ ap (λ u. Ok u) (sym same)

pub none_after : (size : ItemSize) (s new : State) → None ≡ head_of s.source.left → new ≡ s → more_values size s.source.left s ≡ Ok new
none_after size s new e same = none_next size s.source.left s e ∙ ap (λ u. Ok u) (sym same)
