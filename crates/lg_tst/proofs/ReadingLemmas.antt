-- The statements of a text are those that are read one after the other, to its end or up to its first fault.
use Rattle.std.proofs.Common.{◌≡◌, ◌⊎◌, inl, inr, ⊎_elim, ℕ, zero, suc, ◌<◌, List, [], ◌∷◌, ◌++◌, length, Option, Some, None, Result, Ok, Err, refl, sym, ap, ◌∙◌, subst, arith}
use Rattle.std.proofs.lemmas.List.{append-nil, length-append}
use Rattle.lg_base.specs.declared.refusal.Refusal.{Refusal}
use Rattle.lg_lex.specs.declared.token.Token.{Token}
use Rattle.lg_node.specs.declared.unit.Unit.{Unit as TextUnit}
use Rattle.lg_base.specs.Refusals.{◌>>=◌}
use Rattle.lg_tst.specs.Streams.{next_of}
use Rattle.lg_tst.specs.Units.{State, behind, statement_from, text_from, statements, statements_of, start, unit_from, unit_of}
use Rattle.lg_tst.specs.Laws.{StatementsJoin, FirstFaultsAreFirst, ReadingsDecide}
use Rattle.lg_tst.specs.Readings.{IsRead, AreRead, joined, IsRefusedNext, IsReadAs, IsFirstFault}
use Rattle.lg_tst.proofs.StepLemmas.{statement_read, none_read, more_read, split, nothing_read, slices_join, faults_stay}

-- ---- what is read, from what the recursion gives
abbrev IsFault : State → Refusal → Type 0
IsFault s refusal = IsRefusedNext s refusal ⊎ ((s.source.left ≡ []) × (s.source.fault ≡ Some refusal))

abbrev Outcome : State → Result State Refusal → Type 0
Outcome s (Ok u) = (slices : List (List Token)) × AreRead s slices u × (u.source.left ≡ []) × (u.source.fault ≡ None)
Outcome s (Err refusal) = (slices : List (List Token)) × (u : State) × AreRead s slices u × IsFault u refusal

ahead : (s u : State) (slice : List Token) → IsRead s slice u → (r : Result State Refusal) → Outcome u r → Outcome s r
ahead s u slice one (Ok v) o = (slice ∷ o.0, more_read s u v slice o.0 one o.1, o.2, o.3)
ahead s u slice one (Err refusal) o = (slice ∷ o.0, o.1, more_read s u o.1 slice o.0 one o.2, o.3)

fewer : (s u : State) (t : Token) (taken : List Token) (k : ℕ) → IsRead s (t ∷ taken) u → length s.source.left < suc k → length u.source.left < k
fewer s u t taken k one room =
    let all : length s.source.left ≡ suc (length (taken ++ u.source.left)) = ap length one.takes in
    let parts = length-append taken u.source.left in
    omega (arith, room, all, parts)

module _ (k : ℕ) (again : (u : State) → length u.source.left < k → Outcome u (statements k u)) (s : State) (room : length s.source.left < suc k) where
  by_statement : (t : Token) (more : List Token) → s.source.left ≡ t ∷ more → (r : Result State Refusal) → statement_from (behind s) t ≡ r → Outcome s (r >>= λ u. statements k u)
  by_statement t more here (Err refusal) e = ([], s, none_read s, inl (record { first = t; more = more; begins = here; refused = e }))
  by_statement t more here (Ok u) e =
      let one = statement_read s u t more here e in
      ahead s u (t ∷ one.0) one.1 (statements k u) (again u (fewer s u t one.0 k one.1 room))

  by_token : (left : List Token) (fault : Option Refusal) → s.source.left ≡ left → s.source.fault ≡ fault → Outcome s (text_from (statements k) s (next_of left fault))
  by_token [] None here fault = ([], none_read s, here, fault)
  by_token [] (Some refusal) here fault = ([], s, none_read s, inr (here, fault))
  by_token (t ∷ more) fault here is = by_statement t more here (statement_from (behind s) t) refl

outcome : (k : ℕ) (s : State) → length s.source.left < k → Outcome s (statements k s)
unfolding statements
outcome zero s room = absurd (omega (arith, room))
outcome (suc k) s room = by_token k (outcome k) s room s.source.left s.source.fault refl refl

whole : (s : State) → Outcome s (statements_of s)
whole s = outcome (suc (length s.source.left)) s (omega arith)

module _ (text : List ℕ) where
  read_as : (unit : TextUnit) (r : Result State Refusal) → Outcome (start text) r → (r >>= λ s. Ok (unit_from s)) ≡ Ok unit → IsReadAs text unit
  read_as unit (Err refusal) o e = cc
  read_as unit (Ok s) o e = record {
    slices = o.0;
    end = s;
    read = o.1;
    joins = slices_join o.0 (start text) s o.1 ∙ ap (λ ts. joined o.0 ++ ts) o.2 ∙ append-nil (joined o.0);
    rest = o.2;
    faultless = sym (faults_stay o.0 (start text) s o.1) ∙ o.3;
    made = cc;
  }

  first_fault : (refusal : Refusal) (r : Result State Refusal) → Outcome (start text) r → (r >>= λ s. Ok (unit_from s)) ≡ Err refusal → IsFirstFault text refusal
  first_fault refusal (Ok s) o e = cc
  first_fault refusal (Err other) o e =
      let same : other ≡ refusal = cc in
      record {
        slices = o.0;
        end = o.1;
        read = o.2;
        joins = slices_join o.0 (start text) o.1 o.2;
        fault = ⊎_elim
            (λ next. inl (subst (IsRefusedNext o.1) same next))
            (λ none. inr (none.0, sym (faults_stay o.0 (start text) o.1 o.2) ∙ none.1 ∙ ap (λ x. Some x) same))
            o.3;
      }

pub statements-join : StatementsJoin
statements-join text unit e = read_as text unit (statements_of (start text)) (whole (start text)) e

pub first-faults : FirstFaultsAreFirst
first-faults text refusal e = first_fault text refusal (statements_of (start text)) (whole (start text)) e

-- ---- what the recursion gives, from what is read
step : (k : ℕ) (s u : State) (slice : List Token) → IsRead s slice u → statements (suc k) s ≡ statements k u
unfolding statements
step k s u slice one =
    let here : s.source.left ≡ one.first ∷ (one.more ++ u.source.left) = one.takes ∙ ap (λ ts. ts ++ u.source.left) one.begins in
    ap (λ ts. text_from (statements k) s (next_of ts s.source.fault)) here ∙ ap (λ r. r >>= λ v. statements k v) one.leads

-- with room for all tokens that are left, reading from a state gives this
abbrev GivesFrom : State → Result State Refusal → Type 0
GivesFrom s r = (k : ℕ) → length s.source.left < k → statements k s ≡ r

given : (slices : List (List Token)) (s v : State) (r : Result State Refusal) → AreRead s slices v → GivesFrom v r → GivesFrom s r
given [] s v r all gives k room = subst (λ w. GivesFrom w r) (sym (nothing_read s v all)) gives k room
given (slice ∷ slices) s v r all gives zero room = absurd (omega (arith, room))
given (slice ∷ slices) s v r all gives (suc k) room =
    let x = split s v slice slices all in
    let here : length s.source.left ≡ suc (length (x.one.more ++ x.state.source.left)) = ap length (x.one.takes ∙ ap (λ ts. ts ++ x.state.source.left) x.one.begins) in
    let parts = length-append x.one.more x.state.source.left in
    step k s x.state slice x.one ∙ given slices x.state v r x.others gives k (omega (arith, room, here, parts))

at_end : (s : State) → s.source.left ≡ [] → s.source.fault ≡ None → GivesFrom s (Ok s)
unfolding statements
at_end s rest fault zero room = absurd (omega (arith, room))
at_end s rest fault (suc k) room =
    ap (λ ts. text_from (statements k) s (next_of ts s.source.fault)) rest ∙ ap (λ f. text_from (statements k) s (next_of [] f)) fault

at_fault : (s : State) (refusal : Refusal) → IsFault s refusal → GivesFrom s (Err refusal)
unfolding statements
at_fault s refusal fault zero room = absurd (omega (arith, room))
at_fault s refusal (inl next) (suc k) room =
    ap (λ ts. text_from (statements k) s (next_of ts s.source.fault)) next.begins ∙ ap (λ r. r >>= λ v. statements k v) next.refused
at_fault s refusal (inr none) (suc k) room =
    ap (λ ts. text_from (statements k) s (next_of ts s.source.fault)) none.0 ∙ ap (λ f. text_from (statements k) s (next_of [] f)) none.1

all_given : (slices : List (List Token)) (s v : State) (r : Result State Refusal) → AreRead s slices v → GivesFrom v r → statements_of s ≡ r
all_given slices s v r all gives = given slices s v r all gives (suc (length s.source.left)) (omega arith)

unit_decided : (text : List ℕ) (unit : TextUnit) → IsReadAs text unit → unit_of text ≡ Ok unit
unit_decided text unit is =
    let faultless = faults_stay is.slices (start text) is.end is.read ∙ is.faultless in
    let all = all_given is.slices (start text) is.end (Ok is.end) is.read (at_end is.end is.rest faultless) in
    ap (λ r. r >>= λ s. Ok (unit_from s)) all ∙ ap (λ u. Ok u) (sym is.made)

fault_decided : (text : List ℕ) (refusal : Refusal) → IsFirstFault text refusal → unit_of text ≡ Err refusal
fault_decided text refusal is =
    let fault = ⊎_elim (λ next. inl next) (λ none. inr (none.0, faults_stay is.slices (start text) is.end is.read ∙ none.1)) is.fault in
    ap (λ r. r >>= λ s. Ok (unit_from s)) (all_given is.slices (start text) is.end (Err refusal) is.read (at_fault is.end refusal fault))

same_refusal : (r : Result TextUnit Refusal) (refusal other : Refusal) → r ≡ Err refusal → r ≡ Err other → refusal ≡ other
same_refusal r refusal other e f = cc

pub decided : ReadingsDecide
decided = record {
  units = unit_decided;
  faults = fault_decided;
  one = λ text refusal other a b. same_refusal (unit_of text) refusal other (fault_decided text refusal a) (fault_decided text other b);
}
