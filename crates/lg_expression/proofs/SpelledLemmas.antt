-- What a text spells is read.
use Rattle.std.proofs.Common.{◌≡◌, ◌⊎◌, inl, inr, ⊎_elim, ℕ, suc, ◌+◌, ◌-◌, ◌*◌, ◌<◌, ◌≤◌, ◌^◌, ◌==◌, nat_le, nat_lt, Bool, true, false, if◌then◌else◌, List, [], ◌∷◌, ◌++◌, Option, Some, None, Result, Ok, Err, refl, sym, ap, subst, ◌∙◌, arith, append_assoc, append-nil, lt-ltb, le-leb, ltb-true, leb-true, eqb-true}
use Rattle.std.specs.Int.{is_in_range}
use Rattle.std.proofs.lemmas.Bool.{false_from_ne_true}
use Rattle.std.proofs.lemmas.Option.{none-some}
use Rattle.lg_op.specs.declared.op.BinaryOp.{BinaryOp}
use Rattle.lg_op.specs.declared.op.BinaryOp.TheVariants.{Add, Sub, Mul, Div, Lt, Gt, Eq}
use Rattle.lg_expression.specs.declared.reading.Next.{Next}
use Rattle.lg_expression.specs.declared.reading.Next.TheVariants.{Operand, Digits, Operator}
use Rattle.lg_expression.specs.declared.reading.ReadError.{ReadError}
use Rattle.lg_expression.specs.declared.reading.Waiting.{Waiting}
use Rattle.lg_expression.specs.declared.reading.Waiting.TheVariants as waits
use Rattle.lg_expression.specs.declared.step.Step.{Step}
use Rattle.lg_expression.specs.declared.step.Step.TheVariants.{Number, Argument, Negate, Operation}
use Rattle.lg_expression.specs.Grammar.{Spells, number, argument, enclosed, negated, spaced_before, spaced_after, applied, alone, Writes, one_digit, one_more, closeness, comparison, operand, opening, closing, minus, space, letter_x, operation_at}
use Rattle.lg_expression.specs.Reading.{State, closed_from, digit_from, ended, given, kept, longer, operator_from, read_on, steps_read, taken, then_on, whole_from, whole_of}

abbrev pub at : List Step → List Waiting → Next → State
at steps waiting next = record { steps = steps; waiting = waiting; next = next }

-- ---- closeness

pub least_closeness : (o : BinaryOp) → 1 ≤ closeness o
least_closeness Mul = omega arith
least_closeness Div = omega arith
least_closeness Add = omega arith
least_closeness Sub = omega arith
least_closeness o = omega arith

pub most_closeness : (o : BinaryOp) → closeness o ≤ 3
most_closeness Mul = omega arith
most_closeness Div = omega arith
most_closeness Add = omega arith
most_closeness Sub = omega arith
most_closeness o = omega arith

-- what waits takes no text of this level for its own
abbrev pub fits : ℕ → List Waiting → Bool
fits level [] = true
fits level (waits.Open ∷ ws) = true
fits level (waits.Negate ∷ ws) = nat_le operand level
fits level (waits.Operation o ∷ ws) = nat_lt (closeness o) level

pub fits_operand : (ws : List Waiting) → fits operand ws ≡ true
fits_operand (waits.Operation o ∷ ws) = lt-ltb (closeness o) 4 (omega (arith, most_closeness o))
fits_operand other = refl

fits_more : (level : ℕ) (ws : List Waiting) → fits level ws ≡ true → fits (suc level) ws ≡ true
fits_more level [] h = refl
fits_more level (waits.Open ∷ ws) h = refl
fits_more level (waits.Negate ∷ ws) h = le-leb 4 (suc level) (omega (arith, leb-true 4 level h))
fits_more level (waits.Operation o ∷ ws) h = lt-ltb (closeness o) (suc level) (omega (arith, ltb-true (closeness o) level h))

pub not_le : (n m : ℕ) → m < n → nat_le n m ≡ false
not_le n m h = false_from_ne_true (nat_le n m) (λ e. let le : n ≤ m = leb-true n m e in omega arith)

-- nothing goes for an operation of a level that fits
none_given : (level : ℕ) (ws : List Waiting) → level ≤ 3 → fits level ws ≡ true → (given level ws ≡ []) × (kept level ws ≡ ws)
none_given level [] few h = (refl, refl)
none_given level (waits.Open ∷ ws) few h = (refl, refl)
none_given level (waits.Negate ∷ ws) few h = absurd (omega (arith, leb-true 4 level h))
none_given level (waits.Operation o ∷ ws) few h =
    let no : nat_le level (closeness o) ≡ false = not_le level (closeness o) (ltb-true (closeness o) level h) in
    (rw no refl, rw no refl)

-- an operation that waits goes where it holds as close as this
pub operation_given : (least : ℕ) (o : BinaryOp) (ws : List Waiting) → least ≤ closeness o → (given least (waits.Operation o ∷ ws) ≡ Operation o ∷ given least ws) × (kept least (waits.Operation o ∷ ws) ≡ kept least ws)
operation_given least o ws h = let yes : nat_le least (closeness o) ≡ true = le-leb least (closeness o) h in (rw yes refl, rw yes refl)

-- ---- bytes

range_is : (d : ℕ) → d < 10 → is_in_range 48 57 (48 + d) ≡ true
range_is d h = rw (le-leb 48 (48 + d) (omega arith), le-leb (48 + d) 57 (omega arith)) refl

taken_digit : (d : ℕ) (s : State) → d < 10 → taken (48 + d) s ≡ digit_from s.next d s
taken_digit d s h =
    let in_range : is_in_range 48 57 (48 + d) ≡ true = range_is d h in
    let back : 48 + d - 48 ≡ d = omega arith in
    rw (in_range, back) refl

-- the sign of an operation: one of seven bytes
choose : (byte k : ℕ) (o : BinaryOp) (rest : Option BinaryOp) (op : BinaryOp) (b : Bool) → b ≡ (byte == k) → (if b then Some o else rest) ≡ Some op → ((byte ≡ k) × (o ≡ op)) ⊎ (rest ≡ Some op)
choose byte k o rest op true is e = inl (eqb-true byte k (sym is), cc)
choose byte k o rest op false is e = inr e

pub by_sign : (P : ℕ → BinaryOp → Type 0) → P 42 Mul → P 47 Div → P 43 Add → P 45 Sub → P 60 Lt → P 62 Gt → P 61 Eq → (byte : ℕ) (op : BinaryOp) → operation_at byte ≡ Some op → P byte op
by_sign P mul div add sub lt gt eq byte op e =
    let at : (k : ℕ) (o : BinaryOp) → P k o → (byte ≡ k) × (o ≡ op) → P byte op = λ k o p h. subst (λ (x : ℕ). P x op) (sym h.0) (subst (λ (x : BinaryOp). P k x) h.1 p) in
    ⊎_elim (at 42 Mul mul) (λ e1. ⊎_elim (at 47 Div div) (λ e2. ⊎_elim (at 43 Add add) (λ e3. ⊎_elim (at 45 Sub sub) (λ e4. ⊎_elim (at 60 Lt lt) (λ e5. ⊎_elim (at 62 Gt gt) (λ e6. ⊎_elim (at 61 Eq eq)
    (λ (e7 : None ≡ Some op). absurd (none-some op e7))
    (choose byte 61 Eq _ op _ refl e6)) (choose byte 62 Gt _ op _ refl e5)) (choose byte 60 Lt _ op _ refl e4)) (choose byte 45 Sub _ op _ refl e3)) (choose byte 43 Add _ op _ refl e2)) (choose byte 47 Div _ op _ refl e1)) (choose byte 42 Mul _ op _ refl e)

taken_sign : (byte : ℕ) (op : BinaryOp) (s : State) → operation_at byte ≡ Some op → taken byte s ≡ operator_from (ended s).next op (ended s)
taken_sign byte op s e = by_sign (λ b o. taken b s ≡ operator_from (ended s).next o (ended s)) refl refl refl refl refl refl refl byte op e

-- ---- texts one after the other

after_by : (r : Result State ReadError) (a b : List ℕ) → ((s : State) → read_on s (a ++ b) ≡ then_on (read_on s a) (λ t. read_on t b))
    → then_on r (λ t. read_on t (a ++ b)) ≡ then_on (then_on r (λ t. read_on t a)) (λ t. read_on t b)
after_by (Ok s) a b h = h s
after_by (Err e) a b h = refl

pub read_behind : (s : State) (a b : List ℕ) → read_on s (a ++ b) ≡ then_on (read_on s a) (λ t. read_on t b)
unfolding read_on
read_behind s [] b = refl
read_behind s (x ∷ a) b = after_by (taken x s) a b (λ t. read_behind t a b)

read_one : (s t : State) (byte : ℕ) (b : List ℕ) → taken byte s ≡ Ok t → read_on s (byte ∷ b) ≡ read_on t b
unfolding read_on
read_one s t byte b e = ap (λ (r : Result State ReadError). then_on r (λ u. read_on u b)) e

read_none : (s : State) → read_on s [] ≡ Ok s
unfolding read_on
read_none s = refl

read_then : (s t : State) (a b : List ℕ) → read_on s a ≡ Ok t → read_on s (a ++ b) ≡ read_on t b
read_then s t a b e = read_behind s a b ∙ ap (λ (r : Result State ReadError). then_on r (λ u. read_on u b)) e

-- ---- numbers

longer_is : (n d : ℕ) → n * 10 + d < 2 ^ 64 → longer n d ≡ Ok (n * 10 + d)
longer_is n d h = let yes : nat_lt (n * 10 + d) (2 ^ 64) ≡ true = lt-ltb (n * 10 + d) (2 ^ 64) h in rw yes refl

numeral_read : (steps : List Step) (waiting : List Waiting) {ds : List ℕ} {n : ℕ} → Writes ds n → n < 2 ^ 64 → read_on (at steps waiting Operand) ds ≡ Ok (at steps waiting (Digits n))
numeral_read steps waiting (one_digit d small) few =
    read_one (at steps waiting Operand) (at steps waiting (Digits d)) (48 + d) []
    (taken_digit d (at steps waiting Operand) small ∙ (let zero_more : 0 * 10 + d ≡ d = omega arith in rw (longer_is 0 d (omega arith), zero_more) refl))
    ∙ read_none (at steps waiting (Digits d))
numeral_read steps waiting (one_more ds n d w small) few =
    read_then (at steps waiting Operand) (at steps waiting (Digits n)) ds ((48 + d) ∷ []) (numeral_read steps waiting w (omega arith))
    ∙ read_one (at steps waiting (Digits n)) (at steps waiting (Digits (n * 10 + d))) (48 + d) [] (taken_digit d (at steps waiting (Digits n)) small ∙ rw (longer_is n d few) refl)
    ∙ read_none (at steps waiting (Digits (n * 10 + d)))

-- ---- a text of a level, read where an operand is expected

-- the state after it is that with its steps, up to what an operation of the level or below makes go
pub record Ends (level : ℕ) (text : List ℕ) (spelled : List Step) (steps : List Step) (waiting : List Waiting) : Type 0 where
  pub to : State
  pub run : read_on (at steps waiting Operand) text ≡ Ok to
  pub behind : (ended to).next ≡ Operator
  pub gives : (least : ℕ) → least ≤ level → (ended to).steps ++ given least (ended to).waiting ≡ (steps ++ spelled) ++ given least waiting
  pub keeps : (least : ℕ) → least ≤ level → kept least (ended to).waiting ≡ kept least waiting

-- an operand is all there after it
whole_operand : (text : List ℕ) (spelled steps : List Step) (waiting : List Waiting) (to : State) → read_on (at steps waiting Operand) text ≡ Ok to → ended to ≡ at (steps ++ spelled) waiting Operator → Ends operand text spelled steps waiting
whole_operand text spelled steps waiting to run e = record {
  to = to;
  run = run;
  behind = ap (λ (s : State). s.next) e;
  gives = λ least few. ap (λ (s : State). s.steps ++ given least s.waiting) e;
  keeps = λ least few. ap (λ (s : State). kept least s.waiting) e;
}

ended_by : (next : Next) (steps : List Step) (waiting : List Waiting) → ended (ended (at steps waiting next)) ≡ ended (at steps waiting next)
ended_by Operand steps waiting = refl
ended_by other steps waiting = refl

ended_twice : (s : State) → ended (ended s) ≡ ended s
ended_twice s = ended_by s.next s.steps s.waiting

more_step : (a s : List Step) (x : Step) (rest : List Step) → (a ++ s) ++ x ∷ rest ≡ (a ++ (s ++ x ∷ [])) ++ rest
more_step a s x rest = sym (append_assoc (a ++ s) (x ∷ []) rest) ∙ ap (λ (l : List Step). l ++ rest) (append_assoc a s (x ∷ []))

closed_ok : (next : Next) (s : State) (steps : List Step) (waiting : List Waiting) → next ≡ Operator → s.next ≡ Operator → s.steps ++ given comparison s.waiting ≡ steps → kept comparison s.waiting ≡ waits.Open ∷ waiting
    → closed_from next s ≡ Ok (at steps waiting Operator)
closed_ok next s steps waiting is here gives keeps = rw (is, keeps, gives, here) refl

operator_ok : (next : Next) (o : BinaryOp) (s : State) (steps : List Step) (waiting : List Waiting) → next ≡ Operator → s.steps ++ given (closeness o) s.waiting ≡ steps → kept (closeness o) s.waiting ≡ waiting
    → operator_from next o s ≡ Ok (at steps (waits.Operation o ∷ waiting) Operand)
operator_ok next o s steps waiting is gives keeps = rw (is, keeps, gives) refl

whole_ok : (next : Next) (s : State) (steps : List Step) → next ≡ Operator → s.steps ++ given comparison s.waiting ≡ steps → kept comparison s.waiting ≡ [] → whole_from next s ≡ Ok steps
whole_ok next s steps is gives keeps = rw (is, keeps, gives) refl

module _ (t : List ℕ) (s steps : List Step) (waiting : List Waiting) where
  enclosed_ends : Ends comparison t s steps (waits.Open ∷ waiting) → Ends operand (opening ∷ t ++ closing ∷ []) s steps waiting
  enclosed_ends a =
      let gives : (ended a.to).steps ++ given comparison (ended a.to).waiting ≡ steps ++ s = a.gives comparison (omega arith) ∙ append-nil (steps ++ s) in
      let run = read_one (at steps waiting Operand) (at steps (waits.Open ∷ waiting) Operand) opening (t ++ closing ∷ []) refl
      ∙ read_then (at steps (waits.Open ∷ waiting) Operand) a.to t (closing ∷ []) a.run
      ∙ read_one a.to (at (steps ++ s) waiting Operator) closing [] (closed_ok (ended a.to).next (ended a.to) (steps ++ s) waiting a.behind a.behind gives (a.keeps comparison (omega arith)))
      ∙ read_none (at (steps ++ s) waiting Operator) in
      whole_operand (opening ∷ t ++ closing ∷ []) s steps waiting (at (steps ++ s) waiting Operator) run refl

  negated_ends : Ends operand t s steps (waits.Negate ∷ waiting) → Ends operand (minus ∷ t) (s ++ Negate ∷ []) steps waiting
  negated_ends a = record {
    to = a.to;
    run = read_one (at steps waiting Operand) (at steps (waits.Negate ∷ waiting) Operand) minus t refl ∙ a.run;
    behind = a.behind;
    gives = λ least few. a.gives least few ∙ more_step steps s Negate (given least waiting);
    keeps = λ least few. a.keeps least few;
  }

  before_ends : Ends operand t s steps waiting → Ends operand (space ∷ t) s steps waiting
  before_ends a = record {
    to = a.to;
    run = read_one (at steps waiting Operand) (at steps waiting Operand) space t refl ∙ a.run;
    behind = a.behind;
    gives = a.gives;
    keeps = a.keeps;
  }

  after_ends : Ends operand t s steps waiting → Ends operand (t ++ space ∷ []) s steps waiting
  after_ends a = record {
    to = ended a.to;
    run = read_then (at steps waiting Operand) a.to t (space ∷ []) a.run ∙ read_one a.to (ended a.to) space [] refl ∙ read_none (ended a.to);
    behind = ap (λ (x : State). x.next) (ended_twice a.to) ∙ a.behind;
    gives = λ least few. ap (λ (x : State). x.steps ++ given least x.waiting) (ended_twice a.to) ∙ a.gives least few;
    keeps = λ least few. ap (λ (x : State). kept least x.waiting) (ended_twice a.to) ∙ a.keeps least few;
  }

  alone_ends : (level : ℕ) → Ends (suc level) t s steps waiting → Ends level t s steps waiting
  alone_ends level a = record {
    to = a.to;
    run = a.run;
    behind = a.behind;
    gives = λ least few. a.gives least (omega arith);
    keeps = λ least few. a.keeps least (omega arith);
  }

module _ (byte : ℕ) (op : BinaryOp) (t u : List ℕ) (s r steps : List Step) (waiting : List Waiting) where
  applied_ends : operation_at byte ≡ Some op → fits (closeness op) waiting ≡ true → Ends (closeness op) t s steps waiting → Ends (suc (closeness op)) u r (steps ++ s) (waits.Operation op ∷ waiting)
      → Ends (closeness op) (t ++ byte ∷ u) (s ++ r ++ Operation op ∷ []) steps waiting
  applied_ends sign h a b =
      let none = none_given (closeness op) waiting (most_closeness op) h in
      let gives : (ended a.to).steps ++ given (closeness op) (ended a.to).waiting ≡ steps ++ s =
      a.gives (closeness op) (omega arith) ∙ ap (λ (l : List Step). (steps ++ s) ++ l) none.0 ∙ append-nil (steps ++ s) in
      let taken_is = taken_sign byte op a.to sign ∙ operator_ok (ended a.to).next op (ended a.to) (steps ++ s) waiting a.behind gives (a.keeps (closeness op) (omega arith) ∙ none.1) in
      record {
        to = b.to;
        run = read_then (at steps waiting Operand) a.to t (byte ∷ u) a.run ∙ read_one a.to (at (steps ++ s) (waits.Operation op ∷ waiting) Operand) byte u taken_is ∙ b.run;
        behind = b.behind;
        gives = λ least few.
            b.gives least (omega arith) ∙ ap (λ (l : List Step). ((steps ++ s) ++ r) ++ l) (operation_given least op waiting few).0
            ∙ ap (λ (l : List Step). l ++ Operation op ∷ given least waiting) (append_assoc steps s r) ∙ more_step steps (s ++ r) (Operation op) (given least waiting);
        keeps = λ least few. b.keeps least (omega arith) ∙ (operation_given least op waiting few).1;
      }

pub complete : {level : ℕ} {text : List ℕ} {spelled : List Step} → Spells level text spelled → (steps : List Step) (waiting : List Waiting) → fits level waiting ≡ true → Ends level text spelled steps waiting
complete (number ds n w few) steps waiting h = whole_operand ds (Number n ∷ []) steps waiting (at steps waiting (Digits n)) (numeral_read steps waiting w few) refl
complete argument steps waiting h =
    let to = at (steps ++ Argument ∷ []) waiting Operator in
    whole_operand (letter_x ∷ []) (Argument ∷ []) steps waiting to (read_one (at steps waiting Operand) to letter_x [] refl ∙ read_none to) refl
complete (enclosed t s inner) steps waiting h = enclosed_ends t s steps waiting (complete inner steps (waits.Open ∷ waiting) refl)
complete (negated t s inner) steps waiting h = negated_ends t s steps waiting (complete inner steps (waits.Negate ∷ waiting) refl)
complete (spaced_before t s inner) steps waiting h = before_ends t s steps waiting (complete inner steps waiting h)
complete (spaced_after t s inner) steps waiting h = after_ends t s steps waiting (complete inner steps waiting h)
complete (applied byte op t u s r sign left right) steps waiting h =
    applied_ends byte op t u s r steps waiting sign h (complete left steps waiting h)
    (complete right (steps ++ s) (waits.Operation op ∷ waiting) (lt-ltb (closeness op) (suc (closeness op)) (omega arith)))
complete (alone level t s inner) steps waiting h = alone_ends t s steps waiting level (complete inner steps waiting (fits_more level waiting h))

-- the steps that a text spells are read in it
pub spelled_read : (text : List ℕ) (steps : List Step) → Spells comparison text steps → steps_read text ≡ Ok steps
spelled_read text steps d =
    let a = complete d [] [] refl in
    ap whole_of a.run ∙ whole_ok (ended a.to).next (ended a.to) steps a.behind (a.gives comparison (omega arith) ∙ append-nil steps) (a.keeps comparison (omega arith))
