-- Each line of a listing is one line of the text.
use Rattle.std.proofs.Common.{◌≡◌, ℕ, ◌+◌, Bool, true, false, List, [], ◌∷◌, ◌++◌, length, refl, ap, ◌∙◌, arith, codes}
use Rattle.std.specs.Prelude.{◌==◌, ◌&&◌, if◌then◌else◌}
use Rattle.std.specs.Int.{w32, to_be_bytes}
use Rattle.std.specs.List.{All, list_all}
use Rattle.std.proofs.lemmas.Bool.Decides.{nat_tests}
use Rattle.std.proofs.lemmas.List.Elements.{All-head, All-tail}
use Rattle.lg_base.specs.WordBytes.{is_word_start, is_word_byte}
use Rattle.lg_base.specs.declared.target.Target.{Target}
use Rattle.lg_base.specs.declared.target.Target.TheVariants as target
use Rattle.lg_base.specs.Layout.{code_base}
use Rattle.lg_node.specs.Nodes.{is_word}
use Rattle.lg_op.specs.Names.{name}
use Rattle.lg_list.specs.declared.instruction.Instruction.{Instruction}
use Rattle.lg_list.specs.declared.instruction.Instruction.TheVariants as instruction
use Rattle.lg_list.specs.Back.{IsEntry}
use Rattle.lg_list.specs.Instructions.{spelling, text_of}
use Rattle.lg_list.specs.Lines.{Entry, target_word, first_line, line_of, bytes_of, rendered, address}
use Rattle.lg_list.specs.Lines.Entry.{Label, Node, Code}
use Rattle.lg_list.specs.Texts.{decimal, hex}
use Rattle.lg_back.specs.Words.{is_free}
use Rattle.lg_back.specs.Refused.{HasBadLine}
use Rattle.lg_back.proofs.NameLemmas.{name_free}
use Rattle.lg_back.proofs.WordLemmas.{free-append, free-one}
use Rattle.lg_run.specs.Feeds.{feeds, IsLine}
use Rattle.lg_run.proofs.OperandLemmas.{decimal_free, hex_free}
use Rattle.lg_run.proofs.Riscv64Lemmas as rv
use Rattle.lg_run.proofs.Aarch64Lemmas as a64
use Rattle.lg_run.proofs.X86_64Lemmas as x86

-- ---- each line has one line feed, at its end
target_free : (t : Target) → is_free 10 (target_word t) ≡ true
target_free target.X86_64 = refl
target_free other = refl

text_free : (at : ℕ) (i : Instruction) → is_free 10 (text_of at i) ≡ true
text_free at (instruction.X86_64 i) = x86.text_free at i
text_free at (instruction.Aarch64 i) = a64.text_free at i
text_free at (instruction.Riscv64 i) = rv.text_free at i

byte_other : (c : ℕ) → is_word_byte c ≡ true → (c == 10) ≡ false
byte_other c e = grind (arith, nat_tests)

start_other : (c : ℕ) → is_word_start c ≡ true → (c == 10) ≡ false
start_other c e = grind (arith, nat_tests)

both : (a b : Bool) → (a && b) ≡ true → (a ≡ true) × (b ≡ true)
both true true e = (refl, refl)
both true false e = cc
both false b e = cc

bytes_free : (bs : List ℕ) → list_all is_word_byte bs ≡ true → is_free 10 bs ≡ true
bytes_free [] e = refl
bytes_free (b ∷ bs) e = let parts = both (is_word_byte b) (list_all is_word_byte bs) e in free-one 10 b bs (byte_other b parts.0) (bytes_free bs parts.1)

word_free : (word : List ℕ) → is_word word ≡ true → is_free 10 word ≡ true
word_free [] e = cc
word_free (b ∷ bs) e = let parts = both (is_word_start b) (list_all is_word_byte bs) e in free-one 10 b bs (start_other b parts.0) (bytes_free bs parts.1)

-- the parts of a line, each without a line feed
two : (a b : List ℕ) → is_free 10 a ≡ true → is_free 10 b ≡ true → is_free 10 (a ++ b) ≡ true
two a b e f = free-append 10 a b e f

label_is : (a w : List ℕ) → is_free 10 a ≡ true → is_free 10 w ≡ true → IsLine (a ++ codes " " ++ w ++ codes ":\n")
label_is a w e f = record {
  front = a ++ codes " " ++ w ++ codes ":";
  is = ends (a ++ codes " " ++ w);
  free = two (a ++ codes " " ++ w) (codes ":") (two (a ++ codes " ") w (two a (codes " ") e refl) f) refl;
}
  where
    ends : (xs : List ℕ) → xs ++ codes ":\n" ≡ (xs ++ codes ":") ++ codes "\n"
    ends [] = refl
    ends (x ∷ xs) = ap (λ t. x ∷ t) (ends xs)

pub line_is : (t : Target) (at : ℕ) (e : Entry) → IsEntry t e → IsLine (line_of at e)
line_is t at (Label word) form = label_is (address at) word (hex_free (to_be_bytes w32 at)) (word_free word form)
line_is t at (Node line op) form = record {
  front = codes "; " ++ decimal line ++ codes " " ++ name op;
  is = refl;
  free = two (codes "; " ++ decimal line ++ codes " ") (name op) (two (codes "; " ++ decimal line) (codes " ") (two (codes "; ") (decimal line) refl (decimal_free line)) refl) (name_free op);
}
line_is t at (Code i) form = record {
  front = address at ++ codes "  " ++ hex (spelling i) ++ codes "  " ++ text_of at i;
  is = refl;
  free = two (address at ++ codes "  " ++ hex (spelling i) ++ codes "  ") (text_of at i)
      (two (address at ++ codes "  " ++ hex (spelling i)) (codes "  ") (two (address at ++ codes "  ") (hex (spelling i)) (two (address at) (codes "  ") (hex_free (to_be_bytes w32 at)) refl) (hex_free (spelling i))) refl)
      (text_free at i);
}

pub head_is : (t : Target) (count : ℕ) → IsLine (first_line t count)
head_is t count = record {
  front = codes "; " ++ target_word t ++ codes " " ++ decimal count;
  is = refl;
  free = two (codes "; " ++ target_word t ++ codes " ") (decimal count) (two (codes "; " ++ target_word t) (codes " ") (two (codes "; ") (target_word t) refl (target_free t)) refl) (decimal_free count);
}

-- ---- n lines have n line feeds
feeds-append : (xs ys : List ℕ) → feeds (xs ++ ys) ≡ feeds xs + feeds ys
feeds-append [] ys = omega arith
feeds-append (x ∷ xs) ys = let rest = feeds-append xs ys in omega arith

one_less : (b f : Bool) (n : ℕ) → (if b then false else f) ≡ true → (f ≡ true → n ≡ 0) → (if b then 1 else 0) + n ≡ 0
one_less true f n e h = cc
one_less false f n e h = let z : n ≡ 0 = h e in omega arith

free_feeds : (xs : List ℕ) → is_free 10 xs ≡ true → feeds xs ≡ 0
free_feeds [] e = refl
free_feeds (x ∷ xs) e = one_less (x == 10) (is_free 10 xs) (feeds xs) e (free_feeds xs)

one_feed : (bytes : List ℕ) → IsLine bytes → feeds bytes ≡ 1
one_feed bytes l = ap feeds l.is ∙ feeds-append l.front (codes "\n") ∙ ap (λ n. n + 1) (free_feeds l.front l.free)

lines_feeds : (t : Target) (at : ℕ) (es : List Entry) → All (IsEntry t) es → feeds (rendered at es) ≡ length es
lines_feeds t at [] form = refl
lines_feeds t at (e ∷ es) form =
    let own = one_feed (line_of at e) (line_is t at e (All-head (IsEntry t) e es form)) in
    let rest = lines_feeds t (at + length (bytes_of e)) es (All-tail (IsEntry t) e es form) in
    let whole = feeds-append (line_of at e) (rendered (at + length (bytes_of e)) es) in
    omega (arith, own, rest, whole)

pub bad_line_is : (text : List ℕ) (line : ℕ) (bad : HasBadLine text line) → line ≡ feeds (first_line bad.t bad.count ++ rendered code_base bad.lines) + 1
bad_line_is text line bad =
    let head = one_feed (first_line bad.t bad.count) (head_is bad.t bad.count) in
    let rest = lines_feeds bad.t code_base bad.lines bad.front.form in
    let whole = feeds-append (first_line bad.t bad.count) (rendered code_base bad.lines) in
    omega (arith, head, rest, whole, bad.line_is)
