-- What the readers read is an expression of the grammar, with its value and its levels.
use Rattle.std.proofs.Common.{◌≡◌, ℕ, zero, suc, ◌+◌, ◌-◌, ◌<◌, ◌≤◌, max, true, cond, eqb, leb, List, length, get_or, drop, slice_index, refl, sym, ap, subst, ◌∙◌, arith, Option, Some, None, option_map, option_and_then, ℤ}
use Rattle.std.proofs.lemmas.Option.{none-some, same_Some, cond_some, option_and_then_some}
use Rattle.std.proofs.lemmas.Bool.Decides.{nat_tests}
use Rattle.lg_lex.specs.declared.operators.Operator.{Operator}
use Rattle.lg_lex.specs.declared.operators.Sign.{Sign}
use Rattle.lg_lex.specs.declared.expressions.Reading.{Reading}
use Rattle.lg_lex.specs.Blanks.{after_blanks}
use Rattle.lg_lex.specs.Operators.{level_of, sign_symbol, is_zero, binary_value, unary_value}
use Rattle.lg_lex.specs.Expressions.{Reader, after_byte, symbol_at, in_level, operator_at, sign_at, literal_at, constant, constant_at, signed, enclosed, closed, unary_by, unary_of, paired, combined, joined_by, joined, binary_of, chosen, chosen_by, whole_of, readers_in, inner_unary, inner_whole, unary_at, whole_at, ended, expression_at}
use Rattle.lg_lex.specs.Trees.{Tree, literal, parens, unary, binary, conditional, value_of, levels_of, Spells, IsExpression}
use Rattle.lg_lex.proofs.ByteLemmas.{eqb_true, option_map_some, cond_case}

leb_true : (a b : ℕ) → leb a b ≡ true → a ≤ b
leb_true a b h = grind (arith, nat_tests)

-- a tree that what was read spells, of at most this many levels
pub record Reads (bytes : List ℕ) (level most from : ℕ) (read : Reading) : Type 0 where
  pub tree : Tree
  pub spelled : Spells bytes level tree from read.end
  pub value_is : value_of tree ≡ Some read.value
  pub levels_are : levels_of tree ≡ read.levels
  pub low : read.levels ≤ most

-- what is at a level is at a higher one
pub Spells-higher : (bytes : List ℕ) (level above : ℕ) (tree : Tree) (from to : ℕ) → level ≤ above → Spells bytes level tree from to → Spells bytes above tree from to
Spells-higher bytes level above (literal l) from to h s = s
Spells-higher bytes level above (parens tree) from to h s = s
Spells-higher bytes level above (unary sign tree) from to h s = s
Spells-higher bytes level above (binary operator left right) from to h s = (omega (arith, s.0), s.1, s.2, s.3, s.4, s.5)
Spells-higher bytes level above (conditional test first second) from to h s = (omega (arith, s.0), s.1, s.2, s.3, s.4, s.5, s.6, s.7)

higher : (bytes : List ℕ) (level above most from : ℕ) (read : Reading) → level ≤ above → Reads bytes level most from read → Reads bytes above most from read
higher bytes level above most from read h r = record { tree = r.tree; spelled = Spells-higher bytes level above r.tree from read.end h r.spelled; value_is = r.value_is; levels_are = r.levels_are; low = r.low }

-- what the parts say
after_byte_some : (bytes : List ℕ) (b place next : ℕ) → after_byte bytes b place ≡ Some next → (slice_index bytes place ≡ b) × (next ≡ after_blanks bytes (place + 1))
unfolding after_byte
after_byte_some bytes b place next h = let both = cond_some (eqb (get_or bytes place 0) b) (after_blanks bytes (place + 1)) next h in (eqb_true _ _ both.0, sym both.1)

pub operator_some : (bytes : List ℕ) (level place next : ℕ) (operator : Operator) → operator_at bytes level place ≡ Some (operator, next) → (level_of operator ≡ level) × (n : ℕ) × (symbol_at bytes place ≡ Some (operator, n)) × (next ≡ after_blanks bytes (place + n))
unfolding operator_at
operator_some bytes level place next operator h =
    option_and_then_some (in_level bytes level place) (symbol_at bytes place) (operator, next) h
    (λ (found : Operator × ℕ) is kept.
    let both = cond_some (eqb (level_of found.0) level) (let p : Operator × ℕ = (found.0, after_blanks bytes (place + found.1)) in p) (operator, next) kept in
    let op : found.0 ≡ operator = ap (λ (p : Operator × ℕ). p.0) both.1 in
    let end : after_blanks bytes (place + found.1) ≡ next = ap (λ (p : Operator × ℕ). p.1) both.1 in
    (sym (ap level_of op) ∙ eqb_true _ _ both.0, found.1, is ∙ ap (λ o. Some (let p : Operator × ℕ = (o, found.1) in p)) op, sym end))

sign_some : (bytes : List ℕ) (place next : ℕ) (sign : Sign) → sign_at bytes place ≡ Some (sign, next) → (sign_symbol (slice_index bytes place) ≡ Some sign) × (next ≡ after_blanks bytes (place + 1))
unfolding sign_at
sign_some bytes place next sign h =
    option_map_some (λ s. (let p : Sign × ℕ = (s, after_blanks bytes (place + 1)) in p)) (sign_symbol (slice_index bytes place)) (sign, next) h
    (λ s is same. (is ∙ ap Some (ap (λ (p : Sign × ℕ). p.0) same), sym (ap (λ (p : Sign × ℕ). p.1) same)))

-- readers that read what the grammar spells
abbrev Sound : List ℕ → ℕ → ℕ → Reader → Type 0
Sound bytes level most reader = (from : ℕ) (read : Reading) → reader from ≡ Some read → Reads bytes level most from read

abbrev SoundBelow : List ℕ → ℕ → ℕ → Reader → Type 0
SoundBelow bytes level most reader = (from : ℕ) (read : Reading) → reader from ≡ Some read → Reads bytes level most from read × (read.levels < most)

constant_sound : (bytes : List ℕ) (most : ℕ) → Sound bytes 0 most (constant_at bytes)
unfolding constant_at
constant_sound bytes most from read h =
    option_map_some (constant bytes from) (literal_at (drop from bytes)) read h
    (λ l is same. record {
      tree = literal l;
      spelled = (is, ap (λ (r : Reading). r.end) (sym same));
      value_is = ap (λ (r : Reading). Some r.value) same;
      levels_are = ap (λ (r : Reading). r.levels) same;
      low = (let levels = ap (λ (r : Reading). r.levels) same in omega arith);
    })

-- an expression in parentheses, from its ( on
parens_sound : (bytes : List ℕ) (n from : ℕ) (inner read : Reading) → slice_index bytes from ≡ 40 → Reads bytes 11 n (after_blanks bytes (from + 1)) inner × (inner.levels < n) → closed bytes inner ≡ Some read → Reads bytes 0 n from read
unfolding closed
parens_sound bytes n from inner read begun reads h =
    option_map_some (enclosed inner) (after_byte bytes 41 inner.end) read h
    (λ end is same.
    let close = after_byte_some bytes 41 inner.end end is in
    let levels = ap (λ (r : Reading). r.levels) same in
    let levels' = reads.0.levels_are in
    record {
      tree = parens reads.0.tree;
      spelled = (begun, inner.end, reads.0.spelled, close.0, sym (ap (λ (r : Reading). r.end) same) ∙ close.1);
      value_is = reads.0.value_is ∙ ap (λ (r : Reading). Some r.value) same;
      levels_are = ap (λ k. 1 + k) reads.0.levels_are ∙ levels;
      low = (let below = reads.1 in omega arith);
    })

-- a sign and its operand
signed_sound : (bytes : List ℕ) (n from next : ℕ) (sign : Sign) (inner read : Reading) → sign_at bytes from ≡ Some (sign, next) → Reads bytes 0 n next inner × (inner.levels < n) → signed sign inner ≡ read → Reads bytes 0 n from read
signed_sound bytes n from next sign inner read is reads same =
    let mark = sign_some bytes from next sign is in
    let levels = ap (λ (r : Reading). r.levels) same in
    record {
      tree = unary sign reads.0.tree;
      spelled = (mark.0, subst (λ place. Spells bytes 0 reads.0.tree place read.end) mark.1 (subst (λ end. Spells bytes 0 reads.0.tree next end) (ap (λ (r : Reading). r.end) same) reads.0.spelled));
      value_is = ap (option_map (unary_value sign)) reads.0.value_is ∙ ap (λ (r : Reading). Some r.value) same;
      levels_are = ap (λ k. 1 + k) reads.0.levels_are ∙ levels;
      low = (let below = reads.1 in omega arith);
    }

unary_sound : (bytes : List ℕ) (n : ℕ) (operand whole : Reader) → SoundBelow bytes 0 n operand → SoundBelow bytes 11 n whole → Sound bytes 0 n (unary_of bytes operand whole)
unfolding unary_of unary_by
unary_sound bytes n operand whole operands wholes from read h = by_sign (sign_at bytes from) refl h where
  by_sign : (found : Option (Sign × ℕ)) → sign_at bytes from ≡ found → unary_by bytes operand whole from found ≡ Some read → Reads bytes 0 n from read
  by_sign (Some found) is h' =
      option_map_some (signed found.0) (operand found.1) read h'
      (λ inner here same. signed_sound bytes n from found.1 found.0 inner read is (operands found.1 inner here) same)
  by_sign None is h' =
      cond_case (eqb (get_or bytes from 0) 40) _ _ _ h'
      (λ begun inside. option_and_then_some (closed bytes) (whole (after_blanks bytes (from + 1))) read inside
      (λ inner here close. parens_sound bytes n from inner read (eqb_true _ _ begun) (wholes (after_blanks bytes (from + 1)) inner here) close))
      (λ _ plain. constant_sound bytes n from read plain)

-- two operands and the operator between them
combined_sound : (bytes : List ℕ) (level n from next : ℕ) (operator : Operator) (left right read : Reading) → Reads bytes (suc level) n from left → operator_at bytes (suc level) left.end ≡ Some (operator, next) → Reads bytes level n next right → combined operator left right ≡ Some read → Reads bytes (suc level) n from read
unfolding combined
combined_sound bytes level n from next operator left right read lefts is rights h =
    option_map_some (paired left right) (binary_value operator left.value right.value) read h
    (λ value here same.
    let found = operator_some bytes (suc level) left.end next operator is in
    let below : level_of operator - 1 ≡ level = omega (arith, found.0) in
    let levels = ap (λ (r : Reading). r.levels) same in
    let l = lefts.levels_are in
    let r = rights.levels_are in
    let ll = lefts.low in
    let rl = rights.low in
    record {
      tree = binary operator lefts.tree rights.tree;
      spelled = (
        omega (arith, found.0),
        left.end,
        subst (λ k. Spells bytes k lefts.tree from left.end) (sym found.0) lefts.spelled,
        found.1,
        found.2,
        subst (λ k. Spells bytes k rights.tree (after_blanks bytes (left.end + found.1)) read.end) (sym below)
            (subst (λ place. Spells bytes level rights.tree place read.end) found.3
            (subst (λ end. Spells bytes level rights.tree next end) (ap (λ (r : Reading). r.end) same) rights.spelled)),
      );
      value_is = rw (lefts.value_is, rights.value_is) here ∙ ap (λ (r : Reading). Some r.value) same;
      levels_are = ap (λ k. max k (levels_of rights.tree)) l ∙ ap (λ k. max left.levels k) r ∙ levels;
      low = omega arith;
    })

-- one operator more, or none
operator_sound : (bytes : List ℕ) (level n from : ℕ) (operand : Reader) (more : Reading → Option Reading) (left read : Reading) → Sound bytes level n operand → ((both : Reading) → Reads bytes (suc level) n from both → more both ≡ Some read → Reads bytes (suc level) n from read) → Reads bytes (suc level) n from left → (found : Option (Operator × ℕ)) → operator_at bytes (suc level) left.end ≡ found → joined_by operand left more found ≡ Some read → Reads bytes (suc level) n from read
operator_sound bytes level n from operand more left read operands rest lefts None is h = subst (Reads bytes (suc level) n from) (same_Some left read h) lefts
operator_sound bytes level n from operand more left read operands rest lefts (Some found) is h =
    option_and_then_some (λ right. option_and_then more (combined found.0 left right)) (operand found.1) read h
    (λ right here then.
    option_and_then_some more (combined found.0 left right) read then
    (λ both made left'. rest both (combined_sound bytes level n from found.1 found.0 left right both lefts is (operands found.1 right here) made) left'))

joined_sound : (bytes : List ℕ) (level n : ℕ) (operand : Reader) → Sound bytes level n operand → (k from : ℕ) (left read : Reading) → Reads bytes (suc level) n from left → joined bytes operand (suc level) k left ≡ Some read → Reads bytes (suc level) n from read
unfolding joined
joined_sound bytes level n operand operands zero from left read lefts h = absurd (none-some read h)
joined_sound bytes level n operand operands (suc k) from left read lefts h =
    operator_sound bytes level n from operand (joined bytes operand (suc level) k) left read operands
    (λ both reads rest. joined_sound bytes level n operand operands k from both read reads rest) lefts (operator_at bytes (suc level) left.end) refl h

binary_sound : (bytes : List ℕ) (n : ℕ) (operand : Reader) → Sound bytes 0 n operand → (level : ℕ) → Sound bytes level n (binary_of bytes operand level)
unfolding binary_of
binary_sound bytes n operand operands zero from read h = operands from read h
binary_sound bytes n operand operands (suc level) from read h =
    option_and_then_some (joined bytes (binary_of bytes operand level) (suc level) (suc (length bytes))) (binary_of bytes operand level from) read h
    (λ left here more.
    joined_sound bytes level n (binary_of bytes operand level) (binary_sound bytes n operand operands level) (suc (length bytes)) from left read
    (higher bytes level (suc level) n from left (omega arith) (binary_sound bytes n operand operands level from left here)) more)

-- a conditional
chosen_sound : (bytes : List ℕ) (n from next after : ℕ) (test first second read : Reading) → Reads bytes 10 n from test → after_byte bytes 63 test.end ≡ Some next → Reads bytes 11 n next first → after_byte bytes 58 first.end ≡ Some after → Reads bytes 11 n after second → chosen n test first second ≡ Some read → Reads bytes 11 n from read
unfolding chosen
chosen_sound bytes n from next after test first second read tests mark firsts colon seconds h =
    let levels = 1 + max test.levels (max first.levels second.levels) in
    let made = λ (v : ℤ). (let r : Reading = record { value = v; levels = levels; end = second.end } in r) in
    let both = cond_some (leb levels n) (made (cond (is_zero test.value) second.value first.value)) read h in
    let question = after_byte_some bytes 63 test.end next mark in
    let colons = after_byte_some bytes 58 first.end after colon in
    let t = tests.levels_are in
    let f = firsts.levels_are in
    let s = seconds.levels_are in
    let same = ap (λ (r : Reading). r.levels) both.1 in
    let value = ap (λ (r : Reading). Some r.value) both.1 in
    record {
      tree = conditional tests.tree firsts.tree seconds.tree;
      spelled = (
        omega arith,
        test.end,
        tests.spelled,
        question.0,
        first.end,
        subst (λ place. Spells bytes 11 firsts.tree place first.end) question.1 firsts.spelled,
        colons.0,
        subst (λ place. Spells bytes 11 seconds.tree place read.end) colons.1
            (subst (λ end. Spells bytes 11 seconds.tree after end) (ap (λ (r : Reading). r.end) both.1) seconds.spelled),
      );
      value_is = rw (tests.value_is, firsts.value_is, seconds.value_is) value;
      levels_are = ap (λ k. 1 + max k (max (levels_of firsts.tree) (levels_of seconds.tree))) t ∙ ap (λ k. 1 + max test.levels (max k (levels_of seconds.tree))) f ∙ ap (λ k. 1 + max test.levels (max first.levels k)) s ∙ same;
      low = (let most = leb_true levels n both.0 in omega arith);
    }

lower : (bytes : List ℕ) (n from : ℕ) (read : Reading) → Reads bytes 11 n from read × (read.levels < n) → Reads bytes 11 n from read
lower bytes n from read h = h.0

chosen_by_sound : (bytes : List ℕ) (n from : ℕ) (inner : Reader) (test read : Reading) → SoundBelow bytes 11 n inner → Reads bytes 10 n from test → (mark : Option ℕ) → after_byte bytes 63 test.end ≡ mark → chosen_by bytes inner n test mark ≡ Some read → Reads bytes 11 n from read
unfolding chosen_by
chosen_by_sound bytes n from inner test read inners tests None is h = subst (Reads bytes 11 n from) (same_Some test read h) (higher bytes 10 11 n from test (omega arith) tests)
chosen_by_sound bytes n from inner test read inners tests (Some next) is h =
    option_and_then_some (λ first. option_and_then (λ after. option_and_then (chosen n test first) (inner after)) (after_byte bytes 58 first.end)) (inner next) read h
    (λ first here then.
    option_and_then_some (λ after. option_and_then (chosen n test first) (inner after)) (after_byte bytes 58 first.end) read then
    (λ after colon last.
    option_and_then_some (chosen n test first) (inner after) read last
    (λ second there made.
    chosen_sound bytes n from next after test first second read tests is (lower bytes n next first (inners next first here)) colon (lower bytes n after second (inners after second there)) made)))

whole_sound : (bytes : List ℕ) (n : ℕ) (operand inner : Reader) → Sound bytes 0 n operand → SoundBelow bytes 11 n inner → Sound bytes 11 n (whole_of bytes operand inner n)
unfolding whole_of
whole_sound bytes n operand inner operands inners from read h =
    option_and_then_some (λ test. chosen_by bytes inner n test (after_byte bytes 63 test.end)) (binary_of bytes operand 10 from) read h
    (λ test here more. chosen_by_sound bytes n from inner test read inners (binary_sound bytes n operand operands 10 from test here) (after_byte bytes 63 test.end) refl more)

-- ---- by the levels that are left

raised : (bytes : List ℕ) (level n : ℕ) (reader : Reader) → Sound bytes level n reader → SoundBelow bytes level (suc n) reader
raised bytes level n reader sound from read h =
    let reads = sound from read h in
    let low = reads.low in
    (record { tree = reads.tree; spelled = reads.spelled; value_is = reads.value_is; levels_are = reads.levels_are; low = omega arith }, omega arith)

inner_sound : (bytes : List ℕ) (n : ℕ) → SoundBelow bytes 0 n (inner_unary bytes n) × SoundBelow bytes 11 n (inner_whole bytes n)
unfolding inner_unary inner_whole readers_in
inner_sound bytes zero = (λ from read h. absurd (none-some read h), λ from read h. absurd (none-some read h))
inner_sound bytes (suc n) =
    let below = inner_sound bytes n in
    let operand = unary_of bytes (inner_unary bytes n) (inner_whole bytes n) in
    let operands = unary_sound bytes n (inner_unary bytes n) (inner_whole bytes n) below.0 below.1 in
    (raised bytes 0 n operand operands, raised bytes 11 n (whole_of bytes operand (inner_whole bytes n) n) (whole_sound bytes n operand (inner_whole bytes n) operands below.1))

whole_at_sound : (bytes : List ℕ) (n : ℕ) → Sound bytes 11 n (whole_at bytes n)
unfolding whole_at unary_at
whole_at_sound bytes n =
    let below = inner_sound bytes n in
    whole_sound bytes n (unary_of bytes (inner_unary bytes n) (inner_whole bytes n)) (inner_whole bytes n) (unary_sound bytes n (inner_unary bytes n) (inner_whole bytes n) below.0 below.1) below.1

-- what is read as an expression is one
pub expression_sound : (bytes : List ℕ) (read : Reading) → expression_at bytes ≡ Some read → IsExpression bytes (read.end + 1) read.value
unfolding expression_at ended
expression_sound bytes read h =
    option_and_then_some (ended bytes) (whole_at bytes 64 (after_blanks bytes 2)) read h
    (λ whole here kept.
    let both = cond_some (eqb (get_or bytes whole.end 0) 41) whole read kept in
    let close = eqb_true _ _ both.0 in
    let reads = subst (Reads bytes 11 64 (after_blanks bytes 2)) both.1 (whole_at_sound bytes 64 (after_blanks bytes 2) whole here) in
    record {
      tree = reads.tree;
      end = read.end;
      spelled = reads.spelled;
      closed = ap (λ (r : Reading). get_or bytes r.end 0) (sym both.1) ∙ close;
      len_is = refl;
      value_is = reads.value_is;
      low = (let levels = reads.levels_are in let low = reads.low in omega arith);
    })
