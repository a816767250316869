-- Every expression of the grammar is read, with its value and its levels.
use Rattle.std.proofs.Common.{◌≡◌, ◌≢◌, ℕ, zero, suc, ◌+◌, ◌-◌, ◌<◌, ◌≤◌, max, Bool, true, false, cond, eqb, leb, List, length, get_or, drop, [], ◌∷◌, refl, sym, ap, subst, ◌∙◌, arith, Option, Some, None, option_map, option_and_then, ℤ, ◌⊎◌, inl, inr}
use Rattle.std.specs.Int.{w64, cast_signed}
use Rattle.std.specs.Char.{is_digit}
use Rattle.std.specs.Option.{option_map_or}
use Rattle.std.proofs.lemmas.Option.{none-some, same_Some, option_and_then_some}
use Rattle.std.proofs.lemmas.Bool.Decides.{nat_tests}
use Rattle.lg_lex.specs.declared.numbers.Literal.{Literal}
use Rattle.lg_lex.specs.declared.operators.Operator.{Operator}
use Rattle.lg_lex.specs.declared.operators.Operator.TheVariants.{Multiply, Divide, Remainder, Add, Subtract, ShiftLeft, ShiftRight, Less, LessEqual, Greater, GreaterEqual, Equal, NotEqual, BitAnd, BitXor, BitOr, And, Or}
use Rattle.lg_lex.specs.declared.operators.Sign.{Sign}
use Rattle.lg_lex.specs.declared.expressions.Reading.{Reading}
use Rattle.lg_lex.specs.Blanks.{blank_at, after_most_blanks, after_blanks}
use Rattle.lg_lex.specs.Numbers.{digits_at, magnitude_at, unsigned_at}
use Rattle.lg_lex.specs.Operators.{level_of, double_symbol, single_symbol, sign_symbol, is_zero, binary_value, unary_value}
use Rattle.lg_lex.specs.Expressions.{Reader, after_byte, or_single, symbol_at, operator_at, sign_at, literal_at, constant_at, closed, unary_by, unary_of, paired, combined, joined, binary_of, chosen, chosen_by, whole_of, unary_at, whole_at, ended, expression_at}
use Rattle.lg_lex.specs.Trees.{Tree, literal, parens, unary, binary, conditional, value_of, levels_of, Spells, IsExpression}
use Rattle.lg_lex.proofs.ByteLemmas.{eqb_true, within, first_of_drop, eqb_same, eqb_other, option_map_some}
use Rattle.lg_lex.proofs.ReaderLemmas.{binary_lowest, binary_first, joined_more, joined_end, inner_unary_below, inner_whole_below, whole_plain}

-- ---- bytes

-- blanks lead forward
blanks_forward : (k : ℕ) (bytes : List ℕ) (place : ℕ) → place ≤ after_most_blanks k bytes place
unfolding after_most_blanks
blanks_forward zero bytes place = omega arith
blanks_forward (suc k) bytes place = by_blank (blank_at (drop place bytes)) (λ n. blanks_forward k bytes (place + n)) where
  by_blank : (o : Option ℕ) → ((n : ℕ) → place + n ≤ after_most_blanks k bytes (place + n)) → place ≤ option_map_or (λ n. after_most_blanks k bytes (place + n)) o place
  by_blank None h = omega arith
  by_blank (Some n) h = let more = h n in omega arith

after_forward : (bytes : List ℕ) (place : ℕ) → place ≤ after_blanks bytes place
unfolding after_blanks
after_forward bytes place = blanks_forward (suc (length bytes)) bytes place

-- levels are 1 to 10
level_bounds : (operator : Operator) → (1 ≤ level_of operator) × (level_of operator ≤ 10)
level_bounds Multiply = (omega arith, omega arith)
level_bounds other = (omega arith, omega arith)

-- where no operator of a level up to some one stands
abbrev pub Stops : List ℕ → ℕ → ℕ → Type 0
Stops bytes level place = (j : ℕ) → j ≤ level → operator_at bytes j place ≡ None

-- a byte that begins no operator
no_symbol : (bytes : List ℕ) (place b : ℕ) → ((c : ℕ) → or_single b (double_symbol b c) ≡ None) → get_or bytes place 0 ≡ b → symbol_at bytes place ≡ None
unfolding symbol_at
no_symbol bytes place b none is = ap (λ a. or_single a (double_symbol a (get_or bytes (place + 1) 0))) is ∙ none (get_or bytes (place + 1) 0)

stops_at : (bytes : List ℕ) (level place b : ℕ) → ((c : ℕ) → or_single b (double_symbol b c) ≡ None) → get_or bytes place 0 ≡ b → Stops bytes level place
unfolding operator_at
stops_at bytes level place b none is j h = rw (no_symbol bytes place b none is) refl

no_question : (c : ℕ) → or_single 63 (double_symbol 63 c) ≡ None
no_question c = refl

no_colon : (c : ℕ) → or_single 58 (double_symbol 58 c) ≡ None
no_colon c = refl

no_close : (c : ℕ) → or_single 41 (double_symbol 41 c) ≡ None
no_close c = refl

-- an operator is one of its level alone
operator_here : (bytes : List ℕ) (place n : ℕ) (operator : Operator) → symbol_at bytes place ≡ Some (operator, n) → operator_at bytes (level_of operator) place ≡ Some (operator, after_blanks bytes (place + n))
unfolding operator_at
operator_here bytes place n operator is = rw (is, eqb_same (level_of operator) (level_of operator) refl) refl

operator_above : (bytes : List ℕ) (level place n : ℕ) (operator : Operator) → symbol_at bytes place ≡ Some (operator, n) → level < level_of operator → Stops bytes level place
unfolding operator_at
operator_above bytes level place n operator is h j low = let other : level_of operator ≢ j = omega arith in rw (is, eqb_other (level_of operator) j other) refl

-- a symbol has a byte, and is within the text
symbol_within : (bytes : List ℕ) (place n : ℕ) (operator : Operator) → symbol_at bytes place ≡ Some (operator, n) → (0 < n) × (place < length bytes)
unfolding symbol_at
symbol_within bytes place n operator is = by_first (get_or bytes place 0) refl where
  len_of : (a : ℕ) (o : Option Operator) → or_single a o ≡ Some (operator, n) → 0 < n
  len_of a (Some op) h = let e = ap (λ (p : Operator × ℕ). p.1) (same_Some _ _ h) in omega arith
  len_of a None h = option_map_some (λ (op : Operator). (let p : Operator × ℕ = (op, 1) in p)) (single_symbol a) (operator, n) h (λ op _ same. let e = ap (λ (p : Operator × ℕ). p.1) same in omega arith)

  by_first : (a : ℕ) → get_or bytes place 0 ≡ a → (0 < n) × (place < length bytes)
  by_first zero e = absurd (none-some _ (sym (ap (λ b. or_single b (double_symbol b (get_or bytes (place + 1) 0))) e) ∙ is))
  by_first (suc a) e = (len_of (get_or bytes place 0) (double_symbol (get_or bytes place 0) (get_or bytes (place + 1) 0)) is, within bytes place (omega arith))

byte_here : (bytes : List ℕ) (b place : ℕ) → get_or bytes place 0 ≡ b → after_byte bytes b place ≡ Some (after_blanks bytes (place + 1))
unfolding after_byte
byte_here bytes b place is = rw (eqb_same _ _ is) refl

byte_other : (bytes : List ℕ) (b a place : ℕ) → get_or bytes place 0 ≡ a → a ≢ b → after_byte bytes b place ≡ None
unfolding after_byte
byte_other bytes b a place is other = let e : eqb (get_or bytes place 0) b ≡ false = eqb_other _ _ (rw is other) in rw e refl

-- a number does not begin with a byte that is no digit
unsigned_none : (bytes : List ℕ) (b : ℕ) → get_or bytes 0 0 ≡ b → eqb b 48 ≡ false → is_digit b 10 ≡ false → unsigned_at bytes ≡ None
unfolding unsigned_at magnitude_at digits_at
unsigned_none [] b is zero_not digit = refl
unsigned_none (a ∷ bytes) b is zero_not digit =
    let first : eqb a 48 ≡ false = ap (λ x. eqb x 48) is ∙ zero_not in
    let none : is_digit a 10 ≡ false = ap (λ x. is_digit x 10) is ∙ digit in
    rw (first, none) refl

-- a literal begins with no sign and no (
literal_no : (bytes : List ℕ) (l : Literal) (b : ℕ) → literal_at bytes ≡ Some l → eqb b 39 ≡ false → eqb b 48 ≡ false → is_digit b 10 ≡ false → eqb (get_or bytes 0 0) b ≡ false
unfolding literal_at
literal_no bytes l b is quote zero_not digit = by_test (eqb (get_or bytes 0 0) b) refl where
  by_test : (t : Bool) → eqb (get_or bytes 0 0) b ≡ t → t ≡ false
  by_test false e = refl
  by_test true e =
      let same = eqb_true _ _ e in
      let none : literal_at bytes ≡ None = rw (ap (λ x. eqb x 39) same ∙ quote) (unsigned_none bytes b same zero_not digit) in
      absurd (none-some l (sym none ∙ is))

literal_first : (bytes : List ℕ) (l : Literal) → literal_at bytes ≡ Some l → (sign_symbol (get_or bytes 0 0) ≡ None) × (eqb (get_or bytes 0 0) 40 ≡ false)
literal_first bytes l is = (
  rw (literal_no bytes l 43 is refl refl refl, literal_no bytes l 45 is refl refl refl, literal_no bytes l 126 is refl refl refl, literal_no bytes l 33 is refl refl refl) refl,
  literal_no bytes l 40 is refl refl refl,
)

-- ---- places

Spells-forward : (bytes : List ℕ) (level : ℕ) (tree : Tree) (from to : ℕ) → Spells bytes level tree from to → from ≤ to
Spells-forward bytes level (literal l) from to s = let end = s.1 in let more = after_forward bytes (from + l.len) in omega arith
Spells-forward bytes level (parens tree) from to s =
    let first = after_forward bytes (from + 1) in
    let inner = Spells-forward bytes 11 tree (after_blanks bytes (from + 1)) s.1 s.2 in
    let last = after_forward bytes (s.1 + 1) in
    let end = s.4 in
    omega arith
Spells-forward bytes level (unary sign tree) from to s =
    let first = after_forward bytes (from + 1) in
    let inner = Spells-forward bytes 0 tree (after_blanks bytes (from + 1)) to s.1 in
    omega arith
Spells-forward bytes level (binary operator left right) from to s =
    let first = Spells-forward bytes (level_of operator) left from s.1 s.2 in
    let gap = after_forward bytes (s.1 + s.3) in
    let second = Spells-forward bytes (level_of operator - 1) right (after_blanks bytes (s.1 + s.3)) to s.5 in
    omega arith
Spells-forward bytes level (conditional test first second) from to s =
    let a = Spells-forward bytes 10 test from s.1 s.2 in
    let b = after_forward bytes (s.1 + 1) in
    let c = Spells-forward bytes 11 first (after_blanks bytes (s.1 + 1)) s.4 s.5 in
    let d = after_forward bytes (s.4 + 1) in
    let e = Spells-forward bytes 11 second (after_blanks bytes (s.4 + 1)) to s.7 in
    omega arith

-- ---- the chain of a level

abbrev reading : ℤ → ℕ → ℕ → Reading
reading v levels end = record { value = v; levels = levels; end = end }

-- the operators of a level have reached what was read
record Chain (bytes : List ℕ) (operand : Reader) (level from : ℕ) (read : Reading) : Type 0 where
  steps : ℕ
  some : 0 < steps
  enough : length bytes < read.end + steps
  same : joined bytes (binary_of bytes operand level) (suc level) steps read ≡ binary_of bytes operand (suc level) from

chain_start : (bytes : List ℕ) (operand : Reader) (level from : ℕ) (read : Reading) → binary_of bytes operand level from ≡ Some read → Chain bytes operand level from read
chain_start bytes operand level from read is =
    let one : suc level - 1 ≡ level = omega arith in
    let is' = ap (λ k. binary_of bytes operand k from) one ∙ is in
    let whole = binary_first bytes operand (suc level) from read (omega arith) is' in
    record { steps = suc (length bytes); some = omega arith; enough = omega arith; same = ap (λ k. joined bytes (binary_of bytes operand k) (suc level) (suc (length bytes)) read) (sym one) ∙ whole }

chain_step : (bytes : List ℕ) (operand : Reader) (level from n next : ℕ) (operator : Operator) (left right both : Reading) → Chain bytes operand level from left → symbol_at bytes left.end ≡ Some (operator, n) → operator_at bytes (suc level) left.end ≡ Some (operator, next) → binary_of bytes operand level next ≡ Some right → combined operator left right ≡ Some both → left.end < both.end → Chain bytes operand level from both
chain_step bytes operand level from n next operator left right both chain symbol found here made later =
    let inside = symbol_within bytes left.end n operator symbol in
    let some = chain.some in
    let enough = chain.enough in
    record {
      steps = chain.steps - 1;
      some = omega arith;
      enough = omega arith;
      same = joined_more bytes (binary_of bytes operand level) (suc level) chain.steps left _ chain.same right both operator next some found here made;
    }

chain_end : (bytes : List ℕ) (operand : Reader) (level from : ℕ) (read : Reading) → Chain bytes operand level from read → operator_at bytes (suc level) read.end ≡ None → binary_of bytes operand (suc level) from ≡ Some read
chain_end bytes operand level from read chain none = sym (joined_end bytes (binary_of bytes operand level) (suc level) chain.steps read _ chain.same chain.some none)

-- what is read at a level is read at a higher one, where no operator between them follows
climb : (bytes : List ℕ) (operand : Reader) (level from : ℕ) (read : Reading) → binary_of bytes operand level from ≡ Some read → (d : ℕ) → Stops bytes (level + d) read.end → binary_of bytes operand (level + d) from ≡ Some read
climb bytes operand level from read is zero stops = ap (λ k. binary_of bytes operand k from) (let e : level + 0 ≡ level = omega arith in e) ∙ is
climb bytes operand level from read is (suc d) stops =
    let one : level + suc d ≡ suc (level + d) = omega arith in
    let below = climb bytes operand level from read is d (λ j low. stops j (omega arith)) in
    ap (λ k. binary_of bytes operand k from) one ∙ chain_end bytes operand (level + d) from read (chain_start bytes operand (level + d) from read below) (stops (suc (level + d)) (omega arith))

climb_to : (bytes : List ℕ) (operand : Reader) (level above from : ℕ) (read : Reading) → level ≤ above → binary_of bytes operand level from ≡ Some read → Stops bytes above read.end → binary_of bytes operand above from ≡ Some read
climb_to bytes operand level above from read low is stops =
    let sum : level + (above - level) ≡ above = omega arith in
    ap (λ k. binary_of bytes operand k from) (sym sum) ∙ climb bytes operand level from read is (above - level) (λ j h. stops j (omega arith))

-- ---- trees

-- that a tree is read where it is spelled: as an operand, as the chain of a level so far, and as a whole expression
record Done (bytes : List ℕ) (tree : Tree) : Type 0 where
  operand : (n from to : ℕ) (v : ℤ) → Spells bytes 0 tree from to → value_of tree ≡ Some v → levels_of tree ≤ n → unary_at bytes n from ≡ Some (reading v (levels_of tree) to)
  chain : (n level from to : ℕ) (v : ℤ) → Spells bytes (suc level) tree from to → level < 10 → value_of tree ≡ Some v → levels_of tree ≤ n → Stops bytes level to → Chain bytes (unary_at bytes n) level from (reading v (levels_of tree) to)
  whole : (n from to : ℕ) (v : ℤ) → Spells bytes 11 tree from to → value_of tree ≡ Some v → levels_of tree ≤ n → Stops bytes 10 to → after_byte bytes 63 to ≡ None → whole_at bytes n from ≡ Some (reading v (levels_of tree) to)

-- a tree that is read as an operand is read at every level
abbrev OperandRead : List ℕ → Tree → Type 0
OperandRead bytes tree = (n from to : ℕ) (v : ℤ) → Spells bytes 0 tree from to → value_of tree ≡ Some v → levels_of tree ≤ n → unary_at bytes n from ≡ Some (reading v (levels_of tree) to)

operand_chain : (bytes : List ℕ) (n level from : ℕ) (read : Reading) → unary_at bytes n from ≡ Some read → Stops bytes level read.end → Chain bytes (unary_at bytes n) level from read
operand_chain bytes n level from read is stops =
    let lowest = sym (binary_lowest bytes (unary_at bytes n) 0 from refl) ∙ is in
    chain_start bytes (unary_at bytes n) level from read (climb_to bytes (unary_at bytes n) 0 level from read (omega arith) lowest stops)

operand_whole : (bytes : List ℕ) (n from : ℕ) (read : Reading) → unary_at bytes n from ≡ Some read → Stops bytes 10 read.end → after_byte bytes 63 read.end ≡ None → whole_at bytes n from ≡ Some read
operand_whole bytes n from read is stops none =
    let lowest = sym (binary_lowest bytes (unary_at bytes n) 0 from refl) ∙ is in
    whole_plain bytes n from read (climb_to bytes (unary_at bytes n) 0 10 from read (omega arith) lowest stops) none

-- what is read at the level of an operator's operands: an operand, or a chain with its end
at_level : (bytes : List ℕ) (tree : Tree) → Done bytes tree → (n level from to : ℕ) (v : ℤ) → Spells bytes level tree from to → level ≤ 10 → value_of tree ≡ Some v → levels_of tree ≤ n → Stops bytes level to → binary_of bytes (unary_at bytes n) level from ≡ Some (reading v (levels_of tree) to)
at_level bytes tree done n zero from to v spelled low value levels stops =
    sym (binary_lowest bytes (unary_at bytes n) 0 from refl) ∙ done.operand n from to v spelled value levels
at_level bytes tree done n (suc level) from to v spelled low value levels stops =
    chain_end bytes (unary_at bytes n) level from (reading v (levels_of tree) to)
    (done.chain n level from to v spelled (omega arith) value levels (λ j h. stops j (omega arith)))
    (stops (suc level) (omega arith))

-- an operator and its operands, at the operator's own level
joined_chain : (bytes : List ℕ) (operator : Operator) (left right : Tree) → Done bytes left → Done bytes right → (n level from to end m : ℕ) (v : ℤ) → level_of operator ≡ suc level → Spells bytes (suc level) left from end → symbol_at bytes end ≡ Some (operator, m) → Spells bytes level right (after_blanks bytes (end + m)) to → value_of (binary operator left right) ≡ Some v → levels_of (binary operator left right) ≤ n → Stops bytes level to → Chain bytes (unary_at bytes n) level from (reading v (levels_of (binary operator left right)) to)
unfolding combined
joined_chain bytes operator left right lefts rights n level from to end m v own first symbol second value levels stops =
    option_and_then_some (λ a. option_and_then (binary_value operator a) (value_of right)) (value_of left) v value
    (λ a here rest. option_and_then_some (binary_value operator a) (value_of right) v rest
    (λ b there made.
    let bounds = level_bounds operator in
    let inside = symbol_within bytes end m operator symbol in
    let gap = after_forward bytes (end + m) in
    let forward = Spells-forward bytes level right (after_blanks bytes (end + m)) to second in
    let next = after_blanks bytes (end + m) in
    let chain = lefts.chain n level from end a first (omega arith) here (omega arith) (operator_above bytes level end m operator symbol (omega arith)) in
    let found = ap (λ k. operator_at bytes k end) (sym own) ∙ operator_here bytes end m operator symbol in
    let right_read = at_level bytes right rights n level next to b second (omega arith) there (omega arith) stops in
    let both : combined operator (reading a (levels_of left) end) (reading b (levels_of right) to) ≡ Some (reading v (max (levels_of left) (levels_of right)) to) =
    ap (option_map (paired (reading a (levels_of left) end) (reading b (levels_of right) to))) made in
    chain_step bytes (unary_at bytes n) level from m next operator (reading a (levels_of left) end) (reading b (levels_of right) to) (reading v (max (levels_of left) (levels_of right)) to) chain symbol found right_read both (omega arith)))

-- the chain of a level, where the operator is of that level or of a lower one
binary_chain : (bytes : List ℕ) (operator : Operator) (left right : Tree) → Done bytes left → Done bytes right → (n level from to : ℕ) (v : ℤ) → Spells bytes (suc level) (binary operator left right) from to → level < 10 → value_of (binary operator left right) ≡ Some v → levels_of (binary operator left right) ≤ n → Stops bytes level to → Chain bytes (unary_at bytes n) level from (reading v (levels_of (binary operator left right)) to)
binary_chain bytes operator left right lefts rights n level from to v s low value levels stops =
    let bounds = level_bounds operator in
    let own : level_of operator ≡ suc (level_of operator - 1) = omega arith in
    let below : level_of operator ≤ suc level = s.0 in
    let lower : level_of operator - 1 ≤ level = omega arith in
    let chain = joined_chain bytes operator left right lefts rights n (level_of operator - 1) from to s.1 s.3 v own (subst (λ k. Spells bytes k left from s.1) own s.2) s.4 s.5 value levels (λ j h. stops j (omega arith)) in
    by_level (level_of operator - 1) lower chain (compare_levels (level_of operator - 1) level lower) where
      compare_levels : (a b : ℕ) → a ≤ b → (a ≡ b) ⊎ (a < b)
      compare_levels a b h = grind arith

      by_level : (own : ℕ) → own ≤ level → Chain bytes (unary_at bytes n) own from (reading v (levels_of (binary operator left right)) to) → (own ≡ level) ⊎ (own < level) → Chain bytes (unary_at bytes n) level from (reading v (levels_of (binary operator left right)) to)
      by_level own h chain (inl same) = subst (λ k. Chain bytes (unary_at bytes n) k from (reading v (levels_of (binary operator left right)) to)) same chain
      by_level own h chain (inr less) =
          let read = reading v (levels_of (binary operator left right)) to in
          let ended = chain_end bytes (unary_at bytes n) own from read chain (stops (suc own) (omega arith)) in
          chain_start bytes (unary_at bytes n) level from read (climb_to bytes (unary_at bytes n) (suc own) level from read (omega arith) ended stops)

-- an operand by itself: as the chain of a level and as a whole
done_operand : (bytes : List ℕ) (tree : Tree) → OperandRead bytes tree → ((level from to : ℕ) → Spells bytes level tree from to → Spells bytes 0 tree from to) → Done bytes tree
done_operand bytes tree read lowest = record {
  operand = read;
  chain = λ n level from to v spelled low value levels stops. operand_chain bytes n level from (reading v (levels_of tree) to) (read n from to v (lowest (suc level) from to spelled) value levels) stops;
  whole = λ n from to v spelled value levels stops none. operand_whole bytes n from (reading v (levels_of tree) to) (read n from to v (lowest 11 from to spelled) value levels) stops none;
}

literal_read : (bytes : List ℕ) (l : Literal) → OperandRead bytes (literal l)
unfolding unary_at unary_of unary_by sign_at constant_at
literal_read bytes l n from to v spelled value levels =
    let first = literal_first (drop from bytes) l spelled.0 in
    let byte = first_of_drop bytes from in
    let sign : sign_symbol (get_or bytes from 0) ≡ None = ap sign_symbol (sym byte) ∙ first.0 in
    let plain : eqb (get_or bytes from 0) 40 ≡ false = ap (λ b. eqb b 40) (sym byte) ∙ first.1 in
    rw (sign, plain, spelled.0) (ap (λ (w : ℤ). Some (reading w 0 (after_blanks bytes (from + l.len)))) (same_Some (cast_signed w64 l.value) v value) ∙ ap (λ e. Some (reading v 0 e)) (sym spelled.1))

parens_read : (bytes : List ℕ) (tree : Tree) → Done bytes tree → OperandRead bytes (parens tree)
unfolding unary_at unary_of unary_by sign_at closed
parens_read bytes tree done n from to v spelled value levels =
    let inner = after_blanks bytes (from + 1) in
    let sign : sign_symbol (get_or bytes from 0) ≡ None = ap sign_symbol spelled.0 in
    let mark : eqb (get_or bytes from 0) 40 ≡ true = eqb_same _ _ spelled.0 in
    let stops = stops_at bytes 10 spelled.1 41 no_close spelled.3 in
    let none = byte_other bytes 63 41 spelled.1 spelled.3 (omega arith) in
    let read = sym (inner_whole_below bytes n inner (omega arith)) ∙ done.whole (n - 1) inner spelled.1 v spelled.2 value (omega arith) stops none in
    rw (sign, mark, read, byte_here bytes 41 spelled.1 spelled.3) (ap (λ e. Some (reading v (1 + levels_of tree) e)) (sym spelled.4))

unary_read : (bytes : List ℕ) (sign : Sign) (tree : Tree) → Done bytes tree → OperandRead bytes (unary sign tree)
unfolding unary_at unary_of unary_by sign_at
unary_read bytes sign tree done n from to v spelled value levels =
    option_map_some (unary_value sign) (value_of tree) v value
    (λ a here same.
    let next = after_blanks bytes (from + 1) in
    let read = sym (inner_unary_below bytes n next (omega arith)) ∙ done.operand (n - 1) next to a spelled.1 here (omega arith) in
    rw (spelled.0, read) (ap (λ (w : ℤ). Some (reading w (1 + levels_of tree) to)) same))

done_binary : (bytes : List ℕ) (operator : Operator) (left right : Tree) → Done bytes left → Done bytes right → Done bytes (binary operator left right)
done_binary bytes operator left right lefts rights =
    let bounds = level_bounds operator in
    record {
      operand = λ n from to v spelled value levels. absurd (omega (arith, spelled.0));
      chain = λ n level from to v spelled low value levels stops. binary_chain bytes operator left right lefts rights n level from to v spelled low value levels stops;
      whole = λ n from to v spelled value levels stops none.
          (let ten : level_of operator ≤ 10 = bounds.1 in
          let chain = binary_chain bytes operator left right lefts rights n 9 from to v (ten, spelled.1, spelled.2, spelled.3, spelled.4, spelled.5) (omega arith) value levels (λ j h. stops j (omega arith)) in
          whole_plain bytes n from _ (chain_end bytes (unary_at bytes n) 9 from (reading v (levels_of (binary operator left right)) to) chain (stops 10 (omega arith))) none);
    }

conditional_whole : (bytes : List ℕ) (test first second : Tree) → Done bytes test → Done bytes first → Done bytes second → (n from to : ℕ) (v : ℤ) → Spells bytes 11 (conditional test first second) from to → value_of (conditional test first second) ≡ Some v → levels_of (conditional test first second) ≤ n → Stops bytes 10 to → after_byte bytes 63 to ≡ None → whole_at bytes n from ≡ Some (reading v (levels_of (conditional test first second)) to)
unfolding whole_at whole_of chosen_by chosen
conditional_whole bytes test first second tests firsts seconds n from to v s value levels stops none =
    option_and_then_some (λ a. option_and_then (λ b. option_map (λ c. cond (is_zero a) c b) (value_of second)) (value_of first)) (value_of test) v value
    (λ a test_is rest. option_and_then_some (λ b. option_map (λ c. cond (is_zero a) c b) (value_of second)) (value_of first) v rest
    (λ b first_is rest'. option_map_some (λ c. cond (is_zero a) c b) (value_of second) v rest'
    (λ c second_is same.
    let next = after_blanks bytes (s.1 + 1) in
    let after = after_blanks bytes (s.4 + 1) in
    let test_read = at_level bytes test tests n 10 from s.1 a s.2 (omega arith) test_is (omega arith) (stops_at bytes 10 s.1 63 no_question s.3) in
    let first_read = sym (inner_whole_below bytes n next (omega arith)) ∙ firsts.whole (n - 1) next s.4 b s.5 first_is (omega arith) (stops_at bytes 10 s.4 58 no_colon s.6) (byte_other bytes 63 58 s.4 s.6 (omega arith)) in
    let second_read = sym (inner_whole_below bytes n after (omega arith)) ∙ seconds.whole (n - 1) after to c s.7 second_is (omega arith) stops none in
    let low : leb (1 + max (levels_of test) (max (levels_of first) (levels_of second))) n ≡ true = grind (arith, nat_tests) in
    rw (test_read, byte_here bytes 63 s.1 s.3, first_read, byte_here bytes 58 s.4 s.6, second_read, low)
    (ap (λ (w : ℤ). Some (reading w (1 + max (levels_of test) (max (levels_of first) (levels_of second))) to)) same))))

done_conditional : (bytes : List ℕ) (test first second : Tree) → Done bytes test → Done bytes first → Done bytes second → Done bytes (conditional test first second)
done_conditional bytes test first second tests firsts seconds = record {
  operand = λ n from to v spelled value levels. absurd (omega (arith, spelled.0));
  chain = λ n level from to v spelled low value levels stops. absurd (omega (arith, spelled.0));
  whole = λ n from to v spelled value levels stops none. conditional_whole bytes test first second tests firsts seconds n from to v spelled value levels stops none;
}

done : (bytes : List ℕ) (tree : Tree) → Done bytes tree
done bytes (literal l) = done_operand bytes (literal l) (literal_read bytes l) (λ level from to spelled. spelled)
done bytes (parens tree) = done_operand bytes (parens tree) (parens_read bytes tree (done bytes tree)) (λ level from to spelled. spelled)
done bytes (unary sign tree) = done_operand bytes (unary sign tree) (unary_read bytes sign tree (done bytes tree)) (λ level from to spelled. spelled)
done bytes (binary operator left right) = done_binary bytes operator left right (done bytes left) (done bytes right)
done bytes (conditional test first second) = done_conditional bytes test first second (done bytes test) (done bytes first) (done bytes second)

-- every expression of the grammar is read
pub expression_complete : (bytes : List ℕ) (len : ℕ) (v : ℤ) (is : IsExpression bytes len v) → expression_at bytes ≡ Some (record { value = v; levels = levels_of is.tree; end = is.end })
unfolding expression_at ended
expression_complete bytes len v is =
    let whole = (done bytes is.tree).whole 64 (after_blanks bytes 2) is.end v is.spelled is.value_is is.low (stops_at bytes 10 is.end 41 no_close is.closed) (byte_other bytes 63 41 is.end is.closed (omega arith)) in
    rw (whole, eqb_same _ _ is.closed) refl
