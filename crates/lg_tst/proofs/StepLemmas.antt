-- Statements that are read one after the other: a first one and the others.
use Rattle.std.proofs.Common.{◌≡◌, ℕ, zero, suc, List, [], ◌∷◌, ◌++◌, Some, None, Ok, slice_get, refl, sym, ap, ◌∙◌, subst}
use Rattle.std.proofs.lemmas.List.{append_assoc}
use Rattle.std.proofs.lemmas.Option.{same_Some}
use Rattle.lg_lex.specs.declared.token.Token.{Token}
use Rattle.lg_tst.specs.Streams.{tail_of}
use Rattle.lg_tst.specs.Units.{State, behind, statement_from}
use Rattle.lg_tst.specs.Readings.{IsRead, AreRead, joined}
use Rattle.lg_tst.proofs.TakeLemmas.{statement_later}

-- a statement that is read takes its first token and some after it
pub statement_read : (s u : State) (t : Token) (more : List Token) → s.source.left ≡ t ∷ more → statement_from (behind s) t ≡ Ok u → (taken : List Token) × IsRead s (t ∷ taken) u
statement_read s u t more here leads =
    let later = statement_later (behind s) u t leads in (
      later.taken,
      record {
        first = t;
        more = later.taken;
        begins = refl;
        leads = leads;
        takes = here ∙ ap (λ ts. t ∷ tail_of ts) (sym here) ∙ ap (λ ts. t ∷ ts) later.left;
      },
    )

pub fault_stays : (s u : State) (slice : List Token) → IsRead s slice u → u.source.fault ≡ s.source.fault
fault_stays s u slice one = (statement_later (behind s) u one.first one.leads).fault

no_slice : {A : Type 0} (slice : List Token) → None ≡ Some slice → A
no_slice slice e = cc

pub none_read : (s : State) → AreRead s [] s
none_read s = record { states = λ i. s; first = refl; last = refl; each = λ i slice e. no_slice slice e }

-- a state, and others after it
abbrev from : State → (ℕ → State) → ℕ → State
from s states zero = s
from s states (suc i) = states i

pub more_read : (s u v : State) (slice : List Token) (slices : List (List Token)) → IsRead s slice u → AreRead u slices v → AreRead s (slice ∷ slices) v
more_read s u v slice slices one others = record { states = from s others.states; first = refl; last = others.last; each = by }
  where
    by : (i : ℕ) (x : List Token) → slice_get (slice ∷ slices) i ≡ Some x → IsRead (from s others.states i) x (from s others.states (suc i))
    by zero x e = subst (λ y. IsRead s y (others.states zero)) (same_Some slice x e) (subst (λ w. IsRead s slice w) (sym others.first) one)
    by (suc i) x e = others.each i x e

-- the state after the first of some slices
pub record Split (s v : State) (slice : List Token) (slices : List (List Token)) : Type 0 where
  pub state : State
  pub one : IsRead s slice state
  pub others : AreRead state slices v

pub split : (s v : State) (slice : List Token) (slices : List (List Token)) → AreRead s (slice ∷ slices) v → Split s v slice slices
split s v slice slices all = record {
  state = all.states (suc zero);
  one = subst (λ w. IsRead w slice (all.states (suc zero))) all.first (all.each zero slice refl);
  others = record { states = λ i. all.states (suc i); first = refl; last = all.last; each = λ i. all.each (suc i) };
}

pub nothing_read : (s v : State) → AreRead s [] v → s ≡ v
nothing_read s v all = sym all.first ∙ all.last

pub slices_join : (slices : List (List Token)) (s v : State) → AreRead s slices v → s.source.left ≡ joined slices ++ v.source.left
slices_join [] s v all = ap (λ (w : State). w.source.left) (nothing_read s v all)
slices_join (slice ∷ slices) s v all =
    let x = split s v slice slices all in
    x.one.takes ∙ ap (λ ts. slice ++ ts) (slices_join slices x.state v x.others) ∙ sym (append_assoc slice (joined slices) v.source.left)

pub faults_stay : (slices : List (List Token)) (s v : State) → AreRead s slices v → v.source.fault ≡ s.source.fault
faults_stay [] s v all = ap (λ (w : State). w.source.fault) (sym (nothing_read s v all))
faults_stay (slice ∷ slices) s v all = let x = split s v slice slices all in faults_stay slices x.state v x.others ∙ fault_stays s x.state slice x.one
