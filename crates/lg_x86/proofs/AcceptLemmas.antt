-- A front is compared with a spelling: the size prefix, REX and the opcode, and then what is after it.
use Rattle.std.proofs.Common.{◌≡◌, ℕ, ◌+◌, ◌<◌, ◌≤◌, Bool, true, false, List, [], ◌∷◌, ◌++◌, length, length-append, Option, Some, None, refl, sym, ap, ◌∙◌, arith, nat_eq}
use Rattle.std.specs.Prelude.{◌==◌, ◌&&◌, ◌||◌, not, find, if◌then◌else◌}
use Rattle.std.specs.List.{starts_with}
use Rattle.std.specs.Option.{option_map}
use Rattle.std.proofs.lemmas.Bool.Decides.{nat_tests}
use Rattle.std.proofs.lemmas.Bool.{and_parts, eqb-true, and_from}
use Rattle.lg_x86.specs.declared.rows.Mark.{Mark}
use Rattle.lg_x86.specs.declared.rows.Mark.TheVariants.{Wide, Low, Plain}
use Rattle.lg_x86.specs.declared.instruction.Instr.{Instr}
use Rattle.lg_x86.specs.Spelling.{spelling, rex, size_prefix, opcode_bytes}
use Rattle.lg_x86.specs.Reading.{same_bool, checked, rex_byte, front_bytes, front_length, accepted}
use Rattle.lg_x86.proofs.FrontLemmas.{rex_value, IsOpcode}

-- REX, or none
pub data IsRex (r : ℕ) : Type 0 where
  none : r ≡ 0 → IsRex r
  some : 64 ≤ r → r < 80 → IsRex r

pub same : (x : ℕ) → (x == x) ≡ true
same x = grind (arith, nat_tests)

pub opcode_same : (e : Bool) (o p : ℕ) (t u : List ℕ) → starts_with nat_eq (opcode_bytes e o ++ t) (opcode_bytes e p ++ u) ≡ (p == o && starts_with nat_eq t u)
opcode_same true o p t u = refl
opcode_same false o p t u = refl

-- a byte of REX or of the size prefix is none of an opcode
pub rex_no_opcode : (x : ℕ) (e : Bool) (o : ℕ) (t u : List ℕ) → 64 ≤ x → x < 80 → IsOpcode o → starts_with nat_eq (x ∷ t) (opcode_bytes e o ++ u) ≡ false
rex_no_opcode x true o t u low high is = let no : (0x0f == x) ≡ false = grind (arith, nat_tests) in rw no refl
rex_no_opcode x false o t u low high is = let not_four = is.no_rex in let no : (o == x) ≡ false = grind (arith, nat_tests) in rw no refl

pub opcode_no_rex : (x : ℕ) (e : Bool) (o : ℕ) (t u : List ℕ) → 64 ≤ x → x < 80 → IsOpcode o → starts_with nat_eq (opcode_bytes e o ++ t) (x ∷ u) ≡ false
opcode_no_rex x true o t u low high is = let no : (x == 0x0f) ≡ false = grind (arith, nat_tests) in rw no refl
opcode_no_rex x false o t u low high is = let not_four = is.no_rex in let no : (x == o) ≡ false = grind (arith, nat_tests) in rw no refl

pub turned : (x y : ℕ) → (x == y) ≡ (y == x)
turned x y = by (x == y) (y == x) refl refl
  where
    by : (a b : Bool) → (x == y) ≡ a → (y == x) ≡ b → a ≡ b
    by true true e f = refl
    by false false e f = refl
    by true false e f = absurd (grind (arith, nat_tests))
    by false true e f = absurd (grind (arith, nat_tests))

pub no_zero : (x : ℕ) → 64 ≤ x → (x == 0) ≡ false
no_zero x low = grind (arith, nat_tests)

pub zero_no : (x : ℕ) → 64 ≤ x → (0 == x) ≡ false
zero_no x low = grind (arith, nat_tests)

-- REX is compared with a byte that is asked for
pub with_rex : (r : ℕ) → IsRex r → (x : ℕ) → 64 ≤ x → x < 80 → (e : Bool) (o p : ℕ) → IsOpcode o → (t u : List ℕ) → starts_with nat_eq (rex_byte r ++ (opcode_bytes e o ++ t)) (x ∷ (opcode_bytes e p ++ u)) ≡ (r == x && (p == o && starts_with nat_eq t u))
with_rex r (none naught) x low high e o p is t u = rw (naught, zero_no x low) (opcode_no_rex x e o t (opcode_bytes e p ++ u) low high is)
with_rex r (some over under) x low high e o p is t u = rw (no_zero r over, turned x r, opcode_same e o p t u) refl

-- and where none is asked for
pub without_rex : (r : ℕ) → IsRex r → (e : Bool) (o p : ℕ) → IsOpcode p → (t u : List ℕ) → starts_with nat_eq (rex_byte r ++ (opcode_bytes e o ++ t)) (opcode_bytes e p ++ u) ≡ (r == 0 && (p == o && starts_with nat_eq t u))
without_rex r (none naught) e o p is t u = rw naught (opcode_same e o p t u)
without_rex r (some over under) e o p is t u = rw (no_zero r over) (rex_no_opcode r e p (opcode_bytes e o ++ t) u over under is)

pub rex_same : (r : ℕ) → IsRex r → (mark : Mark) (bits : ℕ) → bits < 8 → (e : Bool) (o p : ℕ) → IsOpcode o → IsOpcode p → (t u : List ℕ) → starts_with nat_eq (rex_byte r ++ (opcode_bytes e o ++ t)) (rex mark bits ++ (opcode_bytes e p ++ u)) ≡ (r == rex_value mark bits && (p == o && starts_with nat_eq t u))
rex_same r rex_is Wide bits fits e o p is ip t u = with_rex r rex_is (0x48 + bits) (omega arith) (omega arith) e o p is t u
rex_same r rex_is Low bits fits e o p is ip t u = with_rex r rex_is (0x40 + bits) (omega arith) (omega arith) e o p is t u
rex_same r rex_is Plain bits fits e o p is ip t u = by (bits == 0)
  where
    by : (b : Bool) → starts_with nat_eq (rex_byte r ++ (opcode_bytes e o ++ t)) ((if b then [] else (0x40 + bits) ∷ []) ++ (opcode_bytes e p ++ u)) ≡ (r == (if b then 0 else 0x40 + bits) && (p == o && starts_with nat_eq t u))
    by true = without_rex r rex_is e o p ip t u
    by false = with_rex r rex_is (0x40 + bits) (omega arith) (omega arith) e o p is t u

-- the size prefix is no byte of REX, nor of an opcode
pub size_no_opcode : (e : Bool) (o : ℕ) → IsOpcode o → (t u : List ℕ) → starts_with nat_eq (0x66 ∷ t) (opcode_bytes e o ++ u) ≡ false
size_no_opcode true o is t u = refl
size_no_opcode false o is t u = rw is.no_size refl

pub size_no_rex : (mark : Mark) (bits : ℕ) → bits < 8 → (e : Bool) (o : ℕ) → IsOpcode o → (t u : List ℕ) → starts_with nat_eq (0x66 ∷ t) (rex mark bits ++ (opcode_bytes e o ++ u)) ≡ false
size_no_rex Wide bits fits e o is t u = let no : (0x48 + bits == 0x66) ≡ false = grind (arith, nat_tests) in rw no refl
size_no_rex Low bits fits e o is t u = let no : (0x40 + bits == 0x66) ≡ false = grind (arith, nat_tests) in rw no refl
size_no_rex Plain bits fits e o is t u = by (bits == 0)
  where
    by : (b : Bool) → starts_with nat_eq (0x66 ∷ t) ((if b then [] else (0x40 + bits) ∷ []) ++ (opcode_bytes e o ++ u)) ≡ false
    by true = size_no_opcode e o is t u
    by false = let no : (0x40 + bits == 0x66) ≡ false = grind (arith, nat_tests) in rw no refl

pub opcode_no_size : (e : Bool) (o : ℕ) → IsOpcode o → (t u : List ℕ) → starts_with nat_eq (opcode_bytes e o ++ t) (0x66 ∷ u) ≡ false
opcode_no_size true o is t u = refl
opcode_no_size false o is t u = rw (turned 0x66 o, is.no_size) refl

pub rex_no_size : (r : ℕ) → IsRex r → (e : Bool) (o : ℕ) → IsOpcode o → (t u : List ℕ) → starts_with nat_eq (rex_byte r ++ (opcode_bytes e o ++ t)) (0x66 ∷ u) ≡ false
rex_no_size r (none naught) e o is t u = rw naught (opcode_no_size e o is t u)
rex_no_size r (some over under) e o is t u = let no : (0x66 == r) ≡ false = grind (arith, nat_tests) in rw (no_zero r over, no) refl

pub front_same : (s z : Bool) (r : ℕ) → IsRex r → (mark : Mark) (bits : ℕ) → bits < 8 → (e : Bool) (o p : ℕ) → IsOpcode o → IsOpcode p → (t u : List ℕ) → starts_with nat_eq (front_bytes s r e o t) (size_prefix z ++ (rex mark bits ++ (opcode_bytes e p ++ u))) ≡ (same_bool s z && (r == rex_value mark bits && (p == o && starts_with nat_eq t u)))
front_same true true r rex_is mark bits fits e o p is ip t u = rex_same r rex_is mark bits fits e o p is ip t u
front_same false false r rex_is mark bits fits e o p is ip t u = rex_same r rex_is mark bits fits e o p is ip t u
front_same true false r rex_is mark bits fits e o p is ip t u = size_no_rex mark bits fits e p ip _ u
front_same false true r rex_is mark bits fits e o p is ip t u = rex_no_size r rex_is e o is t _

-- ---- lengths
pub rex_length : (r : ℕ) (mark : Mark) (bits : ℕ) → (r == rex_value mark bits) ≡ true → length (rex mark bits) ≡ length (rex_byte r)
rex_length r Wide bits e = let is : r ≡ 0x48 + bits = grind (arith, nat_tests) in let no : (r == 0) ≡ false = grind (arith, nat_tests) in rw no refl
rex_length r Low bits e = let is : r ≡ 0x40 + bits = grind (arith, nat_tests) in let no : (r == 0) ≡ false = grind (arith, nat_tests) in rw no refl
rex_length r Plain bits e = by (bits == 0) e
  where
    by : (b : Bool) → (r == (if b then 0 else 0x40 + bits)) ≡ true → length (if b then [] else (0x40 + bits) ∷ []) ≡ length (rex_byte r)
    by true f = let is : r ≡ 0 = grind (arith, nat_tests) in rw is refl
    by false f = let no : (r == 0) ≡ false = grind (arith, nat_tests) in rw no refl

pub opcode_length : (e : Bool) (o p : ℕ) (u : List ℕ) → length (opcode_bytes e o ++ u) ≡ length (opcode_bytes e p ++ []) + length u
opcode_length true o p u = omega arith
opcode_length false o p u = omega arith

pub front_long : (s : Bool) (r : ℕ) (mark : Mark) (bits : ℕ) (e : Bool) (o : ℕ) (u : List ℕ) → (r == rex_value mark bits) ≡ true → length (size_prefix s ++ (rex mark bits ++ (opcode_bytes e o ++ u))) ≡ front_length s r e + length u
front_long s r mark bits e o u is =
    let a = length-append (size_prefix s) (rex mark bits ++ (opcode_bytes e o ++ u)) in
    let b = length-append (rex mark bits) (opcode_bytes e o ++ u) in
    let c = length-append (size_prefix s) (rex_byte r ++ (opcode_bytes e 0 ++ [])) in
    let d = length-append (rex_byte r) (opcode_bytes e 0 ++ []) in
    let f = opcode_length e o 0 u in
    let g = rex_length r mark bits is in
    omega (arith, a, b, c, d, f, g)

-- ---- what is accepted
pub finish : (bs : List ℕ) (i : Instr) (fits : Bool) (n : ℕ) → starts_with nat_eq bs (spelling i) ≡ fits → (fits ≡ true → length (spelling i) ≡ n) → accepted fits n (Some i) ≡ checked bs (Some i)
finish bs i true n e l = rw (e, l refl) refl
finish bs i false n e l = rw e refl

pub none_accepted : (fits : Bool) (n : ℕ) → accepted fits n None ≡ None
none_accepted true n = refl
none_accepted false n = refl

pub both : (a b c : Bool) → (a && (b && c)) ≡ ((a && b) && c)
both true b c = refl
both false b c = refl

pub same_is : (s z : Bool) → same_bool s z ≡ true → s ≡ z
same_is true true e = refl
same_is false false e = refl
same_is false true e = e
same_is true false e = sym e

-- the tests of an instruction's front and of its tail: z, mark, bits and p are those of its spelling, u what is after the opcode there
pub record Tested (s : Bool) (r : ℕ) (e : Bool) (o : ℕ) (t : List ℕ) (i : Instr) (front tails : Bool) (k : ℕ) : Type 0 where
  pub z : Bool
  pub mark : Mark
  pub bits : ℕ
  pub fits : bits < 8
  pub p : ℕ
  pub is : IsOpcode o
  pub ip : IsOpcode p
  pub u : List ℕ
  pub spelled : spelling i ≡ size_prefix z ++ (rex mark bits ++ (opcode_bytes e p ++ u))
  pub front_is : (same_bool s z && (r == rex_value mark bits)) ≡ front
  pub tail_is : (p == o && starts_with nat_eq t u) ≡ tails
  pub long : tails ≡ true → length u ≡ k

-- a guess is accepted by these tests, and its length is this, as if it had been spelled and compared
abbrev pub Same : Bool → ℕ → Bool → ℕ → List ℕ → Bool → ℕ → Option Instr → Type 0
Same s r e o t fits n guess = accepted fits n guess ≡ checked (front_bytes s r e o t) guess

pub accepts : (s : Bool) (r : ℕ) → IsRex r → (e : Bool) (o : ℕ) (t : List ℕ) (i : Instr) (front tails : Bool) (len k : ℕ) → len ≡ front_length s r e → Tested s r e o t i front tails k → Same s r e o t (front && tails) (len + k) (Some i)
accepts s r rex_is e o t i front tails len k at x =
    finish (front_bytes s r e o t) i (front && tails) (len + k)
    (ap (starts_with nat_eq (front_bytes s r e o t)) x.spelled
    ∙ front_same s x.z r rex_is x.mark x.bits x.fits e o x.p x.is x.ip t x.u
    ∙ both (same_bool s x.z) (r == rex_value x.mark x.bits) (x.p == o && starts_with nat_eq t x.u)
    ∙ ap (λ b. b && (x.p == o && starts_with nat_eq t x.u)) x.front_is
    ∙ ap (λ b. front && b) x.tail_is)
    (λ yes.
    let f : (same_bool s x.z && (r == rex_value x.mark x.bits)) ≡ true = x.front_is ∙ (and_parts front tails yes).0 in
    let sz : s ≡ x.z = same_is s x.z (and_parts (same_bool s x.z) _ f).0 in
    ap length x.spelled
    ∙ ap (λ b. length (size_prefix b ++ (rex x.mark x.bits ++ (opcode_bytes e x.p ++ x.u)))) (sym sz)
    ∙ front_long s r x.mark x.bits e x.p x.u (and_parts (same_bool s x.z) _ f).1
    ∙ ap (λ n. front_length s r e + n) (x.long (and_parts front tails yes).1)
    ∙ ap (λ n. n + k) (sym at))

pub with_found : {Op : Type 0} (f : Option Op) (g : Op → Instr) (s : Bool) (r : ℕ) (e : Bool) (o : ℕ) (t : List ℕ) (fits : Bool) (n : ℕ) → ((op : Op) → f ≡ Some op → Same s r e o t fits n (Some (g op))) → Same s r e o t fits n (option_map g f)
with_found None g s r e o t fits n k = none_accepted fits n
with_found (Some op) g s r e o t fits n k = k op refl

pub found : {Op : Type 0} (p : Op → Bool) (xs : List Op) (o : Op) → find p xs ≡ Some o → p o ≡ true
found p [] o e = absurd (let no : ⊥ = cc in no)
found p (x ∷ xs) o e = by (p x) refl e (found p xs o)
  where
    by : (b : Bool) → p x ≡ b → (if b then Some x else find p xs) ≡ Some o → (find p xs ≡ Some o → p o ≡ true) → p o ≡ true
    by true h f k = let is : x ≡ o = cc in ap p (sym is) ∙ h
    by false h f k = k f

pub true_is : (x y : ℕ) → x ≡ y → (x == y) ≡ true
true_is x y e = grind (arith, nat_tests)

pub decided : (a b : Bool) → (a ≡ true → b ≡ true) → (b ≡ true → a ≡ true) → a ≡ b
decided true b f g = sym (f refl)
decided false true f g = g refl
decided false false f g = refl

pub pair_true : (a b x y : ℕ) → a ≡ b → x ≡ y → ((a == b) && (x == y)) ≡ true
pair_true a b x y e f = and_from (a == b) (x == y) (true_is a b e) (true_is x y f)

pub pair_is : (a b x y : ℕ) → ((a == b) && (x == y)) ≡ true → (a ≡ b) × (x ≡ y)
pair_is a b x y e = (eqb-true a b (and_parts (a == b) (x == y) e).0, eqb-true x y (and_parts (a == b) (x == y) e).1)

pub never : (a b : Bool) → (a && (b && false)) ≡ true → ⊥
never true true e = let none : ⊥ = cc in none
never true false e = let none : ⊥ = cc in none
never false b e = let none : ⊥ = cc in none

pub or_first : (a b : Bool) → b ≡ false → (a || b) ≡ true → a ≡ true
or_first true b e f = refl
or_first false b e f = sym e ∙ f

-- no size prefix is asked for
pub unsized : (s b : Bool) → (same_bool s false && b) ≡ (not s && b)
unsized true b = refl
unsized false b = refl
