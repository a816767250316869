-- What is read is spelled.
use Rattle.std.proofs.Common.{◌≡◌, ⊎_elim, ℕ, zero, suc, ◌+◌, ◌-◌, ◌*◌, ◌<◌, ◌≤◌, ◌^◌, ◌==◌, nat_le, nat_lt, Bool, true, false, if◌then◌else◌, List, [], ◌∷◌, ◌++◌, Option, Some, None, Result, Ok, Err, refl, sym, ap, subst, ◌∙◌, arith, append_assoc, append-nil, lt-ltb, ltb-true, ltb-false, leb-true, eqb-true}
use Rattle.std.proofs.lemmas.Bool.{and_parts, cases_lt}
use Rattle.std.specs.Int.{is_in_range}
use Rattle.lg_op.specs.declared.op.BinaryOp.{BinaryOp}
use Rattle.lg_op.specs.declared.op.BinaryOp.TheVariants.{Sub}
use Rattle.lg_expression.specs.declared.reading.Next.{Next}
use Rattle.lg_expression.specs.declared.reading.Next.TheVariants.{Operand, Digits, Operator}
use Rattle.lg_expression.specs.declared.reading.ReadError.{ReadError}
use Rattle.lg_expression.specs.declared.reading.ReadError.TheVariants.{NoExpression, NumberTooWide, TooLarge, OutOfMemory}
use Rattle.lg_expression.specs.declared.reading.Waiting.{Waiting}
use Rattle.lg_expression.specs.declared.reading.Waiting.TheVariants as waits
use Rattle.lg_expression.specs.declared.step.Step.{Step}
use Rattle.lg_expression.specs.declared.step.Step.TheVariants.{Number, Argument, Negate, Operation}
use Rattle.lg_expression.specs.Grammar.{Spells, number, argument, enclosed, negated, spaced_before, spaced_after, applied, alone, Writes, one_digit, one_more, closeness, comparison, operand, opening, closing, minus, space, letter_x, operation_at, HasWideNumber, IsLarge, IsNone, SpellOnce}
use Rattle.lg_expression.specs.Reading.{Fails, State, argument_from, at_digits, closed_by, closed_from, digit_from, ended, given, kept, opened_from, operator_by, operator_from, read_on, sign_by, start, steps_read, taken, taken_behind, then_on, whole, whole_by, whole_from, whole_of}
use Rattle.lg_expression.specs.Steps.{IsExpression}
use Rattle.lg_expression.proofs.SpelledLemmas.{at, by_sign, fits, fits_operand, most_closeness, not_le, operation_given, spelled_read}

-- a text that is before operands, as spaces do
abbrev pub Keeps : List ℕ → Type 0
Keeps before = (t : List ℕ) (s : List Step) → Spells operand t s → Spells operand (before ++ t) s

nothing_keeps : Keeps []
nothing_keeps t s d = d

space_keeps : (before : List ℕ) → Keeps before → Keeps (before ++ space ∷ [])
space_keeps before keeps t s d = let P : List ℕ → Type 0 = λ l. Spells operand l s in subst P (sym (append_assoc before (space ∷ []) t)) (keeps (space ∷ t) s (spaced_before t s d))

lowered : (level least : ℕ) (t : List ℕ) (s : List Step) → least ≤ level → Spells level t s → Spells least t s
lowered zero least t s few d = let is : zero ≡ least = omega arith in let P : ℕ → Type 0 = λ l. Spells l t s in subst P is d
lowered (suc level) least t s few d =
    ⊎_elim (λ (lt : level < least). let is : suc level ≡ least = omega arith in let P : ℕ → Type 0 = λ l. Spells l t s in subst P is d)
    (λ (le : least ≤ level). lowered level least t s le (alone level t s d)) (cases_lt level least)

-- ---- what waits, and the text before it

-- a sign that is before an operand, with what is before it
pub record IsBefore (Below : List ℕ → List Step → Type 0) (byte : ℕ) (text : List ℕ) (steps : List Step) : Type 0 where
  pub front : List ℕ
  pub before : List ℕ
  pub below : Below front steps
  pub keeps : Keeps before
  pub is : text ≡ front ++ before ++ byte ∷ []

-- an operation that is after its first operand
pub record IsBehind (Below : List ℕ → List Step → Type 0) (op : BinaryOp) (waiting : List Waiting) (text : List ℕ) (steps : List Step) : Type 0 where
  pub front : List ℕ
  pub front_steps : List Step
  pub first : List ℕ
  pub first_steps : List Step
  pub byte : ℕ
  pub below : Below front front_steps
  pub spelled : Spells (closeness op) first first_steps
  pub fit : fits (closeness op) waiting ≡ true
  pub sign : operation_at byte ≡ Some op
  pub is : text ≡ front ++ first ++ byte ∷ []
  pub steps_are : steps ≡ front_steps ++ first_steps

-- this waits after a text, which has given these steps
abbrev pub Wants : List Waiting → List ℕ → List Step → Type 0
Wants [] text steps = (text ≡ []) × (steps ≡ [])
Wants (waits.Open ∷ ws) text steps = IsBefore (Wants ws) opening text steps
Wants (waits.Negate ∷ ws) text steps = IsBefore (Wants ws) minus text steps
Wants (waits.Operation op ∷ ws) text steps = IsBehind (Wants ws) op ws text steps

-- a text of a level is after what waits
pub record Has (level : ℕ) (waiting : List Waiting) (steps : List Step) (text : List ℕ) : Type 0 where
  pub front : List ℕ
  pub front_steps : List Step
  pub last : List ℕ
  pub last_steps : List Step
  pub wants : Wants waiting front front_steps
  pub spelled : Spells level last last_steps
  pub fit : fits level waiting ≡ true
  pub small : level ≤ operand
  pub is : text ≡ front ++ last
  pub steps_are : steps ≡ front_steps ++ last_steps

-- ---- an operation goes

-- a minus sign before an operand makes one
negated_has : (ws : List Waiting) (steps : List Step) (text : List ℕ) → Has operand (waits.Negate ∷ ws) steps text → Has operand ws (steps ++ Negate ∷ []) text
negated_has ws steps text h =
    let w = h.wants in
    record {
      front = w.front;
      front_steps = h.front_steps;
      last = w.before ++ minus ∷ h.last;
      last_steps = h.last_steps ++ Negate ∷ [];
      wants = w.below;
      spelled = w.keeps (minus ∷ h.last) (h.last_steps ++ Negate ∷ []) (negated h.last h.last_steps h.spelled);
      fit = fits_operand ws;
      small = omega arith;
      is = h.is ∙ ap (λ (l : List ℕ). l ++ h.last) w.is ∙ append_assoc (w.front ++ w.before) (minus ∷ []) h.last ∙ append_assoc w.front w.before (minus ∷ h.last);
      steps_are = ap (λ (l : List Step). l ++ Negate ∷ []) h.steps_are ∙ append_assoc h.front_steps h.last_steps (Negate ∷ []);
    }

-- an operation between its operands makes a text of its level
applied_has : (level : ℕ) (op : BinaryOp) (ws : List Waiting) (steps : List Step) (text : List ℕ) → closeness op < level → Has level (waits.Operation op ∷ ws) steps text → Has (closeness op) ws (steps ++ Operation op ∷ []) text
applied_has level op ws steps text lt h =
    let w = h.wants in
    record {
      front = w.front;
      front_steps = w.front_steps;
      last = w.first ++ w.byte ∷ h.last;
      last_steps = w.first_steps ++ h.last_steps ++ Operation op ∷ [];
      wants = w.below;
      spelled = applied w.byte op w.first h.last w.first_steps h.last_steps w.sign w.spelled (lowered level (suc (closeness op)) h.last h.last_steps (omega arith) h.spelled);
      fit = w.fit;
      small = omega (arith, most_closeness op);
      is = h.is ∙ ap (λ (l : List ℕ). l ++ h.last) w.is ∙ append_assoc (w.front ++ w.first) (w.byte ∷ []) h.last ∙ append_assoc w.front w.first (w.byte ∷ h.last);
      steps_are = ap (λ (l : List Step). l ++ Operation op ∷ []) (h.steps_are ∙ ap (λ (l : List Step). l ++ h.last_steps) w.steps_are ∙ append_assoc w.front_steps w.first_steps h.last_steps)
          ∙ append_assoc w.front_steps (w.first_steps ++ h.last_steps) (Operation op ∷ []);
    }

lowered_has : (level least : ℕ) (ws : List Waiting) (steps : List Step) (text : List ℕ) → least ≤ level → fits least ws ≡ true → Has level ws steps text → Has least ws steps text
lowered_has level least ws steps text few fit h = record {
  front = h.front;
  front_steps = h.front_steps;
  last = h.last;
  last_steps = h.last_steps;
  wants = h.wants;
  spelled = lowered level least h.last h.last_steps few h.spelled;
  fit = fit;
  small = omega (arith, h.small, few);
  is = h.is;
  steps_are = h.steps_are;
}

with_steps : (level : ℕ) (ws : List Waiting) (a b : List Step) (text : List ℕ) → a ≡ b → Has level ws a text → Has level ws b text
with_steps level ws a b text e h = let P : List Step → Type 0 = λ l. Has level ws l text in subst P e h

more : (steps rest : List Step) (x : Step) → (steps ++ x ∷ []) ++ rest ≡ steps ++ x ∷ rest
more steps rest x = append_assoc steps (x ∷ []) rest

-- after all that goes the text has the level of what does not
pub released_has : (level least : ℕ) (ws : List Waiting) (steps : List Step) (text : List ℕ) → least ≤ level → least ≤ 3 → Has level ws steps text → Has least (kept least ws) (steps ++ given least ws) text
released_has level least [] steps text few small h = with_steps least [] steps (steps ++ []) text (sym (append-nil steps)) (lowered_has level least [] steps text few refl h)
released_has level least (waits.Open ∷ ws) steps text few small h =
    with_steps least (waits.Open ∷ ws) steps (steps ++ []) text (sym (append-nil steps)) (lowered_has level least (waits.Open ∷ ws) steps text few refl h)
released_has level least (waits.Negate ∷ ws) steps text few small h =
    let four : level ≡ operand = omega (arith, leb-true 4 level h.fit, h.small) in
    let P : ℕ → Type 0 = λ l. Has l (waits.Negate ∷ ws) steps text in
    with_steps least (kept least ws) ((steps ++ Negate ∷ []) ++ given least ws) (steps ++ Negate ∷ given least ws) text (more steps (given least ws) Negate)
    (released_has operand least ws (steps ++ Negate ∷ []) text (omega arith) small (negated_has ws steps text (subst P four h)))
released_has level least (waits.Operation op ∷ ws) steps text few small h =
    ⊎_elim
    (λ (lt : closeness op < least).
    let fails : nat_le least (closeness op) ≡ false = not_le least (closeness op) lt in
    let fit : fits least (waits.Operation op ∷ ws) ≡ true = lt-ltb (closeness op) least lt in
    rw (fails, append-nil steps) (lowered_has level least (waits.Operation op ∷ ws) steps text few fit h))
    (λ (le : least ≤ closeness op).
    let goes = operation_given least op ws le in
    let lt : closeness op < level = ltb-true (closeness op) level h.fit in
    rw (goes.0, goes.1)
    (with_steps least (kept least ws) ((steps ++ Operation op ∷ []) ++ given least ws) (steps ++ Operation op ∷ given least ws) text (more steps (given least ws) (Operation op))
    (released_has (closeness op) least ws (steps ++ Operation op ∷ []) text le small (applied_has level op ws steps text lt h))))
    (cases_lt (closeness op) least)

-- ---- the states of reading

pub record WantsOperand (waiting : List Waiting) (steps : List Step) (text : List ℕ) : Type 0 where
  pub front : List ℕ
  pub before : List ℕ
  pub wants : Wants waiting front steps
  pub keeps : Keeps before
  pub is : text ≡ front ++ before

pub record HasDigits (n : ℕ) (waiting : List Waiting) (steps : List Step) (text : List ℕ) : Type 0 where
  pub front : List ℕ
  pub before : List ℕ
  pub digits : List ℕ
  pub wants : Wants waiting front steps
  pub keeps : Keeps before
  pub writes : Writes digits n
  pub few : n < 2 ^ 64
  pub is : text ≡ front ++ before ++ digits

abbrev pub Stands : Next → List Waiting → List Step → List ℕ → Type 0
Stands Operand waiting steps text = WantsOperand waiting steps text
Stands (Digits n) waiting steps text = HasDigits n waiting steps text
Stands Operator waiting steps text = Has operand waiting steps text

-- this text was read, and nothing is open but what waits
abbrev pub IsRead : State → List ℕ → Type 0
IsRead s text = Stands s.next s.waiting s.steps text

abbrev pub After : Result State ReadError → List ℕ → Type 0
After (Ok s) text = IsRead s text
After (Err NoExpression) text = Unit {0}
After (Err NumberTooWide) text = HasWideNumber text
After (Err TooLarge) text = ⊥
After (Err OutOfMemory) text = ⊥

if_after : (b : Bool) (x y : Result State ReadError) (text : List ℕ) → (b ≡ true → After x text) → (b ≡ false → After y text) → After (if b then x else y) text
if_after true x y text holds fails = holds refl
if_after false x y text holds fails = fails refl

-- an operand is where one is expected
operand_has : (waiting : List Waiting) (steps : List Step) (text t : List ℕ) (s : List Step) → WantsOperand waiting steps text → Spells operand t s → Has operand waiting (steps ++ s) (text ++ t)
operand_has waiting steps text t s h d = record {
  front = h.front;
  front_steps = steps;
  last = h.before ++ t;
  last_steps = s;
  wants = h.wants;
  spelled = h.keeps t s d;
  fit = fits_operand waiting;
  small = omega arith;
  is = ap (λ (l : List ℕ). l ++ t) h.is ∙ append_assoc h.front h.before t;
  steps_are = refl;
}

-- what waits is all that was read
nothing_after : (waiting : List Waiting) (steps : List Step) (text : List ℕ) → Wants waiting text steps → WantsOperand waiting steps text
nothing_after waiting steps text w = record { front = text; before = []; wants = w; keeps = nothing_keeps; is = sym (append-nil text) }

-- ---- a digit

with_number : (ds : List ℕ) (m n : ℕ) → m ≡ n → Writes ds m → Writes ds n
with_number ds m n e w = let P : ℕ → Type 0 = λ k. Writes ds k in subst P e w

first_digit : (waiting : List Waiting) (steps : List Step) (text : List ℕ) (d : ℕ) → d < 10 → WantsOperand waiting steps text → 0 * 10 + d < 2 ^ 64 → HasDigits (0 * 10 + d) waiting steps (text ++ (48 + d) ∷ [])
first_digit waiting steps text d small h few = record {
  front = h.front;
  before = h.before;
  digits = (48 + d) ∷ [];
  wants = h.wants;
  keeps = h.keeps;
  writes = with_number ((48 + d) ∷ []) d (0 * 10 + d) (omega arith) (one_digit d small);
  few = few;
  is = ap (λ (l : List ℕ). l ++ (48 + d) ∷ []) h.is;
}

next_digit : (n : ℕ) (waiting : List Waiting) (steps : List Step) (text : List ℕ) (d : ℕ) → d < 10 → HasDigits n waiting steps text → n * 10 + d < 2 ^ 64 → HasDigits (n * 10 + d) waiting steps (text ++ (48 + d) ∷ [])
next_digit n waiting steps text d small h few = record {
  front = h.front;
  before = h.before;
  digits = h.digits ++ (48 + d) ∷ [];
  wants = h.wants;
  keeps = h.keeps;
  writes = one_more h.digits n d h.writes small;
  few = few;
  is = ap (λ (l : List ℕ). l ++ (48 + d) ∷ []) h.is ∙ append_assoc (h.front ++ h.before) h.digits ((48 + d) ∷ []);
}

wide_digit : (n : ℕ) (waiting : List Waiting) (steps : List Step) (text : List ℕ) (d : ℕ) → d < 10 → HasDigits n waiting steps text → 2 ^ 64 ≤ n * 10 + d → HasWideNumber (text ++ (48 + d) ∷ [])
wide_digit n waiting steps text d small h wide = record {
  front = h.front ++ h.before;
  digits = h.digits ++ (48 + d) ∷ [];
  back = [];
  value = n * 10 + d;
  is = ap (λ (l : List ℕ). l ++ (48 + d) ∷ []) h.is ∙ append_assoc (h.front ++ h.before) h.digits ((48 + d) ∷ []) ∙ sym (append-nil ((h.front ++ h.before) ++ (h.digits ++ (48 + d) ∷ [])));
  writes = one_more h.digits n d h.writes small;
  wide = wide;
}

longer_after : (b : Bool) (m : ℕ) (s : State) (text : List ℕ) → (b ≡ true → IsRead (at s.steps s.waiting (Digits m)) text) → (b ≡ false → HasWideNumber text) → After (at_digits (if b then Ok m else Err NumberTooWide) s) text
longer_after true m s text holds fails = holds refl
longer_after false m s text holds fails = fails refl

digit_after : (next : Next) (waiting : List Waiting) (steps : List Step) (text : List ℕ) (d : ℕ) → d < 10 → Stands next waiting steps text → After (digit_from next d (at steps waiting next)) (text ++ (48 + d) ∷ [])
digit_after Operand waiting steps text d small h =
    longer_after (nat_lt (0 * 10 + d) (2 ^ 64)) (0 * 10 + d) (at steps waiting Operand) (text ++ (48 + d) ∷ []) (λ holds. first_digit waiting steps text d small h (ltb-true (0 * 10 + d) (2 ^ 64) holds))
    (λ fails. let wide : 2 ^ 64 ≤ 0 * 10 + d = ltb-false (0 * 10 + d) (2 ^ 64) fails in absurd (omega arith))
digit_after (Digits n) waiting steps text d small h =
    longer_after (nat_lt (n * 10 + d) (2 ^ 64)) (n * 10 + d) (at steps waiting (Digits n)) (text ++ (48 + d) ∷ []) (λ holds. next_digit n waiting steps text d small h (ltb-true (n * 10 + d) (2 ^ 64) holds))
    (λ fails. wide_digit n waiting steps text d small h (ltb-false (n * 10 + d) (2 ^ 64) fails))
digit_after Operator waiting steps text d small h = tt

-- ---- the argument, and a parenthesis that opens

argument_after : (next : Next) (waiting : List Waiting) (steps : List Step) (text : List ℕ) → Stands next waiting steps text → After (argument_from next (at steps waiting next)) (text ++ letter_x ∷ [])
argument_after Operand waiting steps text h = operand_has waiting steps text (letter_x ∷ []) (Argument ∷ []) h argument
argument_after (Digits n) waiting steps text h = tt
argument_after Operator waiting steps text h = tt

sign_before : (Below : List ℕ → List Step → Type 0) (byte : ℕ) (front before : List ℕ) (steps : List Step) (text : List ℕ) → Below front steps → Keeps before → text ≡ front ++ before → IsBefore Below byte (text ++ byte ∷ []) steps
sign_before Below byte front before steps text below keeps is = record { front = front; before = before; below = below; keeps = keeps; is = ap (λ (l : List ℕ). l ++ byte ∷ []) is }

opened_after : (next : Next) (waiting : List Waiting) (steps : List Step) (text : List ℕ) → Stands next waiting steps text → After (opened_from next (at steps waiting next)) (text ++ opening ∷ [])
opened_after Operand waiting steps text h =
    nothing_after (waits.Open ∷ waiting) steps (text ++ opening ∷ []) (sign_before (Wants waiting) opening h.front h.before steps text h.wants h.keeps h.is)
opened_after (Digits n) waiting steps text h = tt
opened_after Operator waiting steps text h = tt

-- ---- where a number has ended

abbrev pub HasEnded : Next → Type 0
HasEnded Operand = Unit {0}
HasEnded (Digits n) = ⊥
HasEnded Operator = Unit {0}

has_ended : (next : Next) (steps : List Step) (waiting : List Waiting) → HasEnded (ended (at steps waiting next)).next
has_ended Operand steps waiting = tt
has_ended other steps waiting = tt

ended_is_read : (next : Next) (waiting : List Waiting) (steps : List Step) (text : List ℕ) → Stands next waiting steps text → IsRead (ended (at steps waiting next)) text
ended_is_read Operand waiting steps text h = h
ended_is_read (Digits n) waiting steps text h = record {
  front = h.front;
  front_steps = steps;
  last = h.before ++ h.digits;
  last_steps = Number n ∷ [];
  wants = h.wants;
  spelled = h.keeps h.digits (Number n ∷ []) (number h.digits n h.writes h.few);
  fit = fits_operand waiting;
  small = omega arith;
  is = h.is ∙ append_assoc h.front h.before h.digits;
  steps_are = refl;
}
ended_is_read Operator waiting steps text h = h

space_after : (next : Next) (waiting : List Waiting) (steps : List Step) (text : List ℕ) → HasEnded next → Stands next waiting steps text → Stands next waiting steps (text ++ space ∷ [])
space_after Operand waiting steps text e h = record {
  front = h.front;
  before = h.before ++ space ∷ [];
  wants = h.wants;
  keeps = space_keeps h.before h.keeps;
  is = ap (λ (l : List ℕ). l ++ space ∷ []) h.is ∙ append_assoc h.front h.before (space ∷ []);
}
space_after (Digits n) waiting steps text e h = absurd e
space_after Operator waiting steps text e h = record {
  front = h.front;
  front_steps = h.front_steps;
  last = h.last ++ space ∷ [];
  last_steps = h.last_steps;
  wants = h.wants;
  spelled = spaced_after h.last h.last_steps h.spelled;
  fit = h.fit;
  small = h.small;
  is = ap (λ (l : List ℕ). l ++ space ∷ []) h.is ∙ append_assoc h.front h.last (space ∷ []);
  steps_are = h.steps_are;
}

-- ---- a parenthesis that closes

enclosed_has : (ws : List Waiting) (steps : List Step) (text : List ℕ) → Has comparison (waits.Open ∷ ws) steps text → Has operand ws steps (text ++ closing ∷ [])
enclosed_has ws steps text h =
    let w = h.wants in
    record {
      front = w.front;
      front_steps = h.front_steps;
      last = w.before ++ (opening ∷ h.last ++ closing ∷ []);
      last_steps = h.last_steps;
      wants = w.below;
      spelled = w.keeps (opening ∷ h.last ++ closing ∷ []) h.last_steps (enclosed h.last h.last_steps h.spelled);
      fit = fits_operand ws;
      small = omega arith;
      is = ap (λ (l : List ℕ). l ++ closing ∷ []) (h.is ∙ ap (λ (l : List ℕ). l ++ h.last) w.is ∙ append_assoc (w.front ++ w.before) (opening ∷ []) h.last)
          ∙ append_assoc (w.front ++ w.before) (opening ∷ h.last) (closing ∷ []) ∙ append_assoc w.front w.before (opening ∷ h.last ++ closing ∷ []);
      steps_are = h.steps_are;
    }

closed_by_after : (waiting : List Waiting) (steps : List Step) (text : List ℕ) → Has comparison waiting steps text → After (closed_by waiting (at steps waiting Operator)) (text ++ closing ∷ [])
closed_by_after (waits.Open ∷ ws) steps text h = enclosed_has ws steps text h
closed_by_after other steps text h = tt

closed_after : (next : Next) (waiting : List Waiting) (steps : List Step) (text : List ℕ) → Stands next waiting steps text → After (closed_from next (at steps waiting next)) (text ++ closing ∷ [])
closed_after Operand waiting steps text h = tt
closed_after (Digits n) waiting steps text h = tt
closed_after Operator waiting steps text h =
    closed_by_after (kept comparison waiting) (steps ++ given comparison waiting) text (released_has operand comparison waiting steps text (omega arith) (omega arith) h)

-- ---- an operator

operation_wants : (op : BinaryOp) (byte : ℕ) (ws : List Waiting) (steps : List Step) (text : List ℕ) → operation_at byte ≡ Some op → Has (closeness op) ws steps text → Wants (waits.Operation op ∷ ws) (text ++ byte ∷ []) steps
operation_wants op byte ws steps text sign h = record {
  front = h.front;
  front_steps = h.front_steps;
  first = h.last;
  first_steps = h.last_steps;
  byte = byte;
  below = h.wants;
  spelled = h.spelled;
  fit = h.fit;
  sign = sign;
  is = ap (λ (l : List ℕ). l ++ byte ∷ []) h.is;
  steps_are = h.steps_are;
}

minus_sign : (byte : ℕ) → operation_at byte ≡ Some Sub → byte ≡ minus
minus_sign byte e =
    by_sign (λ b o. o ≡ Sub → b ≡ minus) (λ x. cc) (λ x. cc) (λ x. cc) (λ x. refl) (λ x. cc) (λ x. cc) (λ x. cc) byte Sub e refl

sign_after : (op : BinaryOp) (byte : ℕ) (waiting : List Waiting) (steps : List Step) (text : List ℕ) → operation_at byte ≡ Some op → WantsOperand waiting steps text → After (sign_by op (at steps waiting Operand)) (text ++ byte ∷ [])
sign_after Sub byte waiting steps text sign h =
    let P : ℕ → Type 0 = λ b. WantsOperand (waits.Negate ∷ waiting) steps (text ++ b ∷ []) in
    subst P (sym (minus_sign byte sign))
    (nothing_after (waits.Negate ∷ waiting) steps (text ++ minus ∷ []) (sign_before (Wants waiting) minus h.front h.before steps text h.wants h.keeps h.is))
sign_after op byte waiting steps text sign h = tt

operator_after : (next : Next) (op : BinaryOp) (byte : ℕ) (waiting : List Waiting) (steps : List Step) (text : List ℕ) → operation_at byte ≡ Some op → HasEnded next → Stands next waiting steps text
    → After (operator_from next op (at steps waiting next)) (text ++ byte ∷ [])
operator_after Operand op byte waiting steps text sign e h = sign_after op byte waiting steps text sign h
operator_after (Digits n) op byte waiting steps text sign e h = absurd e
operator_after Operator op byte waiting steps text sign e h =
    let went = released_has operand (closeness op) waiting steps text (omega (arith, most_closeness op)) (most_closeness op) h in
    nothing_after (waits.Operation op ∷ kept (closeness op) waiting) (steps ++ given (closeness op) waiting) (text ++ byte ∷ [])
    (operation_wants op byte (kept (closeness op) waiting) (steps ++ given (closeness op) waiting) text sign went)

found_after : (found : Option BinaryOp) (next : Next) (byte : ℕ) (waiting : List Waiting) (steps : List Step) (text : List ℕ) → operation_at byte ≡ found → HasEnded next → Stands next waiting steps text
    → After (operator_by found (at steps waiting next)) (text ++ byte ∷ [])
found_after None next byte waiting steps text sign e h = tt
found_after (Some op) next byte waiting steps text sign e h = operator_after next op byte waiting steps text sign e h

-- ---- a byte

byte_is : (r : Result State ReadError) (text : List ℕ) (byte k : ℕ) → (byte == k) ≡ true → After r (text ++ k ∷ []) → After r (text ++ byte ∷ [])
byte_is r text byte k e h = let P : ℕ → Type 0 = λ b. After r (text ++ b ∷ []) in subst P (sym (eqb-true byte k e)) h

after_after : (next : Next) (byte : ℕ) (waiting : List Waiting) (steps : List Step) (text : List ℕ) → HasEnded next → Stands next waiting steps text → After (taken_behind byte (at steps waiting next)) (text ++ byte ∷ [])
after_after next byte waiting steps text e h =
    let s = at steps waiting next in
    if_after (byte == space) (Ok s) _ (text ++ byte ∷ []) (λ holds. byte_is (Ok s) text byte space holds (space_after next waiting steps text e h))
    (λ fails. if_after (byte == closing) (closed_from next s) (operator_by (operation_at byte) s) (text ++ byte ∷ [])
    (λ holds. byte_is (closed_from next s) text byte closing holds (closed_after next waiting steps text h))
    (λ other. found_after (operation_at byte) next byte waiting steps text refl e h))

digit_byte : (next : Next) (byte : ℕ) (waiting : List Waiting) (steps : List Step) (text : List ℕ) → is_in_range 48 57 byte ≡ true → Stands next waiting steps text → After (digit_from next (byte - 48) (at steps waiting next)) (text ++ byte ∷ [])
digit_byte next byte waiting steps text range h =
    let both = and_parts (nat_le 48 byte) (nat_le byte 57) range in
    let low : 48 ≤ byte = leb-true 48 byte both.0 in
    let high : byte ≤ 57 = leb-true byte 57 both.1 in
    let is : 48 + (byte - 48) ≡ byte = omega arith in
    let P : ℕ → Type 0 = λ b. After (digit_from next (byte - 48) (at steps waiting next)) (text ++ b ∷ []) in
    subst P is (digit_after next waiting steps text (byte - 48) (omega arith) h)

taken_after : (next : Next) (byte : ℕ) (waiting : List Waiting) (steps : List Step) (text : List ℕ) → Stands next waiting steps text → After (taken byte (at steps waiting next)) (text ++ byte ∷ [])
taken_after next byte waiting steps text h =
    let s = at steps waiting next in
    let e = ended s in
    if_after (is_in_range 48 57 byte) (digit_from next (byte - 48) s) _ (text ++ byte ∷ []) (λ range. digit_byte next byte waiting steps text range h)
    (λ fails. if_after (byte == letter_x) (argument_from next s) _ (text ++ byte ∷ []) (λ holds. byte_is (argument_from next s) text byte letter_x holds (argument_after next waiting steps text h))
    (λ no_x. if_after (byte == opening) (opened_from next s) (taken_behind byte e) (text ++ byte ∷ []) (λ holds. byte_is (opened_from next s) text byte opening holds (opened_after next waiting steps text h))
    (λ other. after_after e.next byte e.waiting e.steps text (has_ended next steps waiting) (ended_is_read next waiting steps text h))))

-- ---- a text

wide_more : (text bytes : List ℕ) → HasWideNumber text → HasWideNumber (text ++ bytes)
wide_more text bytes h = record {
  front = h.front;
  digits = h.digits;
  back = h.back ++ bytes;
  value = h.value;
  is = ap (λ (l : List ℕ). l ++ bytes) h.is ∙ append_assoc (h.front ++ h.digits) h.back bytes;
  writes = h.writes;
  wide = h.wide;
}

then_after : (r : Result State ReadError) (text bytes : List ℕ) → After r text → ((s : State) → IsRead s text → After (read_on s bytes) (text ++ bytes)) → After (then_on r (λ s. read_on s bytes)) (text ++ bytes)
then_after (Ok s) text bytes h rest = rest s h
then_after (Err NoExpression) text bytes h rest = tt
then_after (Err NumberTooWide) text bytes h rest = wide_more text bytes h
then_after (Err TooLarge) text bytes h rest = h
then_after (Err OutOfMemory) text bytes h rest = h

read_after : (bytes : List ℕ) (s : State) (text : List ℕ) → IsRead s text → After (read_on s bytes) (text ++ bytes)
unfolding read_on
read_after [] s text h = let P : List ℕ → Type 0 = λ l. IsRead s l in subst P (sym (append-nil text)) h
read_after (byte ∷ bytes) s text h =
    let P : List ℕ → Type 0 = λ l. After (then_on (taken byte s) (λ t. read_on t bytes)) l in
    subst P (append_assoc text (byte ∷ []) bytes)
    (then_after (taken byte s) (text ++ byte ∷ []) bytes (taken_after s.next byte s.waiting s.steps text h) (λ t g. read_after bytes t (text ++ byte ∷ []) g))

-- ---- the end

abbrev pub AfterWhole : Result (List Step) ReadError → List ℕ → Type 0
AfterWhole (Ok steps) text = Spells comparison text steps
AfterWhole (Err NoExpression) text = Unit {0}
AfterWhole (Err NumberTooWide) text = HasWideNumber text
AfterWhole (Err TooLarge) text = ⊥
AfterWhole (Err OutOfMemory) text = ⊥

whole_by_after : (waiting : List Waiting) (steps : List Step) (text : List ℕ) → Has comparison waiting steps text → AfterWhole (whole_by waiting steps) text
whole_by_after [] steps text h =
    let text_is : text ≡ h.last = h.is ∙ ap (λ (l : List ℕ). l ++ h.last) h.wants.0 in
    let steps_is : steps ≡ h.last_steps = h.steps_are ∙ ap (λ (l : List Step). l ++ h.last_steps) h.wants.1 in
    let P : List ℕ → Type 0 = λ l. Spells comparison l steps in
    let Q : List Step → Type 0 = λ l. Spells comparison h.last l in
    subst P (sym text_is) (subst Q (sym steps_is) h.spelled)
whole_by_after (w ∷ ws) steps text h = tt

whole_from_after : (next : Next) (waiting : List Waiting) (steps : List Step) (text : List ℕ) → Stands next waiting steps text → AfterWhole (whole_from next (at steps waiting next)) text
whole_from_after Operand waiting steps text h = tt
whole_from_after (Digits n) waiting steps text h = tt
whole_from_after Operator waiting steps text h =
    whole_by_after (kept comparison waiting) (steps ++ given comparison waiting) text (released_has operand comparison waiting steps text (omega arith) (omega arith) h)

whole_after : (s : State) (text : List ℕ) → IsRead s text → AfterWhole (whole s) text
whole_after s text h = let e = ended s in whole_from_after e.next e.waiting e.steps text (ended_is_read s.next s.waiting s.steps text h)

whole_of_after : (r : Result State ReadError) (text : List ℕ) → After r text → AfterWhole (whole_of r) text
whole_of_after (Ok s) text h = whole_after s text h
whole_of_after (Err NoExpression) text h = tt
whole_of_after other text h = h

steps_after : (text : List ℕ) → AfterWhole (steps_read text) text
steps_after text = whole_of_after (read_on start text) text (read_after text start [] (nothing_after [] [] [] (refl, refl)))

-- the steps that are read in a text are spelled there
pub read_spelled : (text : List ℕ) (steps : List Step) → steps_read text ≡ Ok steps → Spells comparison text steps
read_spelled text steps e = let P : Result (List Step) ReadError → Type 0 = λ r. AfterWhole r text in subst P e (steps_after text)

pub read_wide : (text : List ℕ) → steps_read text ≡ Err NumberTooWide → HasWideNumber text
read_wide text e = let P : Result (List Step) ReadError → Type 0 = λ r. AfterWhole r text in subst P e (steps_after text)

pub never_large : (text : List ℕ) → steps_read text ≡ Err TooLarge → ⊥
never_large text e = let P : Result (List Step) ReadError → Type 0 = λ r. AfterWhole r text in subst P e (steps_after text)

-- ---- what an error says

abbrev fine : List Step → Result (List Step) ReadError
fine steps = Ok steps

same_steps : (a b : List Step) → fine a ≡ fine b → a ≡ b
same_steps a b e = cc

never_both : (steps : List Step) (error : ReadError) → Ok steps ≡ Err error → ⊥
never_both steps error e = cc

none_spelled : (text : List ℕ) (error : ReadError) → steps_read text ≡ Err error → IsNone text
none_spelled text error e steps d = never_both steps error (sym (spelled_read text steps d) ∙ e)

fails_so : (text : List ℕ) (error wanted : ReadError) → Fails (steps_read text) error → error ≡ wanted → Fails (steps_read text) wanted
fails_so text error wanted h e = let P : ReadError → Type 0 = λ x. Fails (steps_read text) x in subst P e h

pub says_none : (text : List ℕ) (error : ReadError) → Fails (steps_read text) error → error ≡ NoExpression → IsNone text
says_none text error h e = none_spelled text NoExpression (fails_so text error NoExpression h e)

pub says_wide : (text : List ℕ) (error : ReadError) → Fails (steps_read text) error → error ≡ NumberTooWide → IsNone text × HasWideNumber text
says_wide text error h e = let is = fails_so text error NumberTooWide h e in (none_spelled text NumberTooWide is, read_wide text is)

pub says_large : (text : List ℕ) (error : ReadError) → Fails (steps_read text) error → error ≡ TooLarge → IsLarge text
says_large text error h e = absurd (never_large text (fails_so text error TooLarge h e))

pub is_large : (text : List ℕ) (steps : List Step) → steps_read text ≡ Ok steps → (IsExpression steps → ⊥) → IsLarge text
is_large text steps e h = record { steps = steps; spelled = read_spelled text steps e; large = h }

pub once : SpellOnce
once text a b da db = same_steps a b (sym (spelled_read text a da) ∙ spelled_read text b db)

pub same_error : {A : Type 0} (a b : ReadError) → ◌≡◌ {A = Result A ReadError} (Err a) (Err b) → a ≡ b
same_error a b e = cc
