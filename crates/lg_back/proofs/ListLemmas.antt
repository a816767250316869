-- Lines one after another: one text is of one list of them at most.
use Rattle.std.proofs.Common.{◌≡◌, ℕ, suc, ◌+◌, ◌*◌, ◌<◌, ◌≤◌, List, [], ◌∷◌, ◌++◌, length, refl, sym, ap, ap₂, ◌∙◌, subst, arith, append_assoc, codes, length-append, inl, inr}
use Rattle.std.specs.List.{All}
use Rattle.std.proofs.lemmas.List.{append-nil, append_cancel_left}
use Rattle.std.proofs.lemmas.List.Elements.{All-append, All-nil, All-cons, All-head, All-tail}
use Rattle.lg_base.specs.Layout.{code_base}
use Rattle.lg_base.specs.declared.target.Target.{Target}
use Rattle.lg_op.specs.Names.{name}
use Rattle.lg_list.specs.Texts.{decimal, hex}
use Rattle.lg_list.specs.Instructions.{spelling, text_of}
use Rattle.lg_list.specs.Lines.{Entry, first_line, line_of, bytes_of, rendered, joined, address}
use Rattle.lg_list.specs.Lines.Entry.{Label, Node, Code}
use Rattle.lg_list.specs.Back.{IsEntry, Back}
use Rattle.lg_list.proofs.BackLemmas.{joined-append, rendered-append}
use Rattle.lg_list.proofs.TextLemmas.{length-hex}
use Rattle.lg_back.specs.Reading.{HasHead, HasLine, HasNoLine, HasLines, address_after}
use Rattle.lg_back.specs.Refused.{IsBadListing}
use Rattle.lg_back.proofs.LineLemmas.{head-one, line-one}

-- ---- lengths

first-part : (a b : List ℕ) → length a ≤ length (a ++ b)
first-part a b = omega (arith, length-append a b)

last-part : (a b : List ℕ) → length b ≤ length (a ++ b)
last-part a b = omega (arith, length-append a b)

code-long : (a h t : List ℕ) (n : ℕ) → length h ≡ 2 * n → 2 * n + 1 ≤ length (a ++ codes "  " ++ h ++ codes "  " ++ t ++ codes "\n")
code-long a h t n e =
    omega (arith, e, length-append a (codes "  "), length-append (a ++ codes "  ") h, length-append (a ++ codes "  " ++ h) (codes "  "), length-append (a ++ codes "  " ++ h ++ codes "  ") t, length-append (a ++ codes "  " ++ h ++ codes "  " ++ t) (codes "\n"))

some-after : (a b : List ℕ) → 0 < length b → 2 * 0 + 1 ≤ length (a ++ b)
some-after a b some = omega (arith, length-append a b)

-- a line has two digits for each of its bytes, and a line feed
pub line-long : (at : ℕ) (e : Entry) → 2 * length (bytes_of e) + 1 ≤ length (line_of at e)
line-long at (Label word) = some-after (address at ++ codes " " ++ word) (codes ":\n") (omega arith)
line-long at (Node line op) = some-after (codes "; " ++ decimal line ++ codes " " ++ name op) (codes "\n") (omega arith)
line-long at (Code i) = code-long (address at) (hex (spelling i)) (text_of at i) (length (spelling i)) (length-hex (spelling i))

nothing : {X : Type 0} (xs ys : List X) → 0 < length xs → [] ≡ xs ++ ys → ⊥
nothing [] ys some e = absurd (omega arith)
nothing (x ∷ xs) ys some e = cc

-- no text at all begins with none
pub nil-none : (t : Target) (at : ℕ) → HasNoLine t at []
nil-none t at e h = nothing (line_of at e) h.rest (omega (arith, line-long at e)) h.text_is

-- ---- one line more

pub address-more : (lines : List Entry) (e : Entry) → address_after (lines ++ e ∷ []) ≡ address_after lines + length (bytes_of e)
address-more lines e = let l = ap length (joined-append lines (e ∷ [])) in omega (arith, l, length-append (joined lines) (bytes_of e ++ []), length-append (bytes_of e) [])

pub lines-none : (text : List ℕ) (t : Target) (count : ℕ) → (h : HasHead text t count) → HasLines text t count [] h.rest
lines-none text t count h = record { form = All-nil (IsEntry t); text_is = h.text_is; small = h.small }

pub lines-more : (text : List ℕ) (t : Target) (count : ℕ) (lines : List Entry) (rest : List ℕ) (e : Entry) → HasLines text t count lines rest → (h : HasLine t (address_after lines) rest e) → HasLines text t count (lines ++ e ∷ []) h.rest
lines-more text t count lines rest e s h = record {
  form = All-append (IsEntry t) lines (e ∷ []) s.form (All-cons (IsEntry t) e [] h.form (All-nil (IsEntry t)));
  text_is = s.text_is ∙ ap (λ x. first_line t count ++ x)
      (ap (λ x. rendered code_base lines ++ x) h.text_is
      ∙ sym (append_assoc (rendered code_base lines) (line_of (address_after lines) e) h.rest)
      ∙ ap (λ x. x ++ h.rest) (sym (rendered-append code_base lines (e ∷ []) ∙ ap (λ x. rendered code_base lines ++ x) (append-nil (line_of (address_after lines) e)))));
  small = s.small;
}

-- ---- one text, one list of lines

-- two lists of lines that one text is, up to where none begins
pub record AreSame (es fs : List Entry) (more rest : List ℕ) : Type 0 where
  pub bytes : joined es ≡ joined fs
  pub count : length es ≡ length fs
  pub rests : more ≡ rest

abbrev here : (t : Target) (at : ℕ) (text : List ℕ) (e : Entry) (es : List Entry) (more : List ℕ) → IsEntry t e → text ≡ rendered at (e ∷ es) ++ more → HasLine t at text e
here t at text e es more form is = record { form = form; rest = rendered (at + length (bytes_of e)) es ++ more; text_is = is ∙ append_assoc (line_of at e) (rendered (at + length (bytes_of e)) es) more }

at-once : (t : Target) (at n : ℕ) (text : List ℕ) → n ≡ 0 → HasNoLine t (at + n) text → HasNoLine t at text
at-once t at n text e none = let same : at + n ≡ at = omega arith in subst (λ a. HasNoLine t a text) same none

after-it : (t : Target) (at : ℕ) (bs cs text : List ℕ) → HasNoLine t (at + length (bs ++ cs)) text → HasNoLine t (at + length bs + length cs) text
after-it t at bs cs text none = let same : at + length (bs ++ cs) ≡ at + length bs + length cs = omega (arith, length-append bs cs) in subst (λ a. HasNoLine t a text) same none

parse-one : (t : Target) (at : ℕ) (text : List ℕ) (es fs : List Entry) (more rest : List ℕ) → All (IsEntry t) es → All (IsEntry t) fs
    → text ≡ rendered at es ++ more → text ≡ rendered at fs ++ rest → HasNoLine t (at + length (joined es)) more → HasNoLine t (at + length (joined fs)) rest → AreSame es fs more rest
parse-one t at text [] [] more rest a b e f m r = record { bytes = refl; count = refl; rests = sym e ∙ f }
parse-one t at text [] (y ∷ ys) more rest a b e f m r = absurd (at-once t at 0 more refl m y (here t at more y ys rest (All-head (IsEntry t) y ys b) (sym e ∙ f)))
parse-one t at text (x ∷ xs) [] more rest a b e f m r = absurd (at-once t at 0 rest refl r x (here t at rest x xs more (All-head (IsEntry t) x xs a) (sym f ∙ e)))
parse-one t at text (x ∷ xs) (y ∷ ys) more rest a b e f m r =
    let g = here t at text x xs more (All-head (IsEntry t) x xs a) e in
    let h = here t at text y ys rest (All-head (IsEntry t) y ys b) f in
    let alike = line-one t at text x y g h in
    let len : length (bytes_of y) ≡ length (bytes_of x) = ap length (sym alike.bytes) in
    let second : g.rest ≡ rendered (at + length (bytes_of x)) ys ++ rest = alike.rests ∙ ap (λ n. rendered (at + n) ys ++ rest) len in
    let last : HasNoLine t (at + length (bytes_of x) + length (joined ys)) rest = subst (λ n. HasNoLine t (at + n + length (joined ys)) rest) len (after-it t at (bytes_of y) (joined ys) rest r) in
    let tail = parse-one t (at + length (bytes_of x)) g.rest xs ys more rest (All-tail (IsEntry t) x xs a) (All-tail (IsEntry t) y ys b) refl second (after-it t at (bytes_of x) (joined xs) more m) last in
    record { bytes = ap₂ (λ u v. u ++ v) alike.bytes tail.bytes; count = ap suc tail.count; rests = tail.rests }

head-of : (text : List ℕ) (t : Target) (n : ℕ) (lines : List Entry) (rest : List ℕ) → HasLines text t n lines rest → HasHead text t n
head-of text t n lines rest h = record { rest = rendered code_base lines ++ rest; text_is = h.text_is; small = h.small }

-- a text that is shown up to where no line begins is shown once
pub record AreOne (t u : Target) (n m : ℕ) (es fs : List Entry) (more rest : List ℕ) : Type 0 where
  pub target : t ≡ u
  pub number : n ≡ m
  pub lines : AreSame es fs more rest

same-target : (text : List ℕ) (t : Target) (n m : ℕ) (es fs : List Entry) (more rest : List ℕ) → n ≡ m → HasLines text t n es more → HasLines text t m fs rest
    → HasNoLine t (address_after es) more → HasNoLine t (address_after fs) rest → AreSame es fs more rest
same-target text t n m es fs more rest same g h a b =
    parse-one t code_base (rendered code_base es ++ more) es fs more rest g.form h.form refl
    (append_cancel_left (first_line t m) (rendered code_base es ++ more) (rendered code_base fs ++ rest) (ap (λ k. first_line t k ++ (rendered code_base es ++ more)) (sym same) ∙ sym g.text_is ∙ h.text_is)) a b

pub lines-one : (text : List ℕ) (t u : Target) (n m : ℕ) (es fs : List Entry) (more rest : List ℕ) → HasLines text t n es more → HasLines text u m fs rest
    → HasNoLine t (address_after es) more → HasNoLine u (address_after fs) rest → AreOne t u n m es fs more rest
lines-one text t u n m es fs more rest g h a b =
    let one = head-one text t u n m (head-of text t n es more g) (head-of text u m fs rest h) in
    let same : HasLines text t m fs rest = subst (λ v. HasLines text v m fs rest) (sym one.0) h in
    let none : HasNoLine t (address_after fs) rest = subst (λ v. HasNoLine v (address_after fs) rest) (sym one.0) b in
    record { target = one.0; number = one.1; lines = same-target text t n m es fs more rest one.1 g same a none }

-- ---- listings

pub lines-of : (text : List ℕ) (t : Target) (bytes : List ℕ) → (b : Back text t bytes) → HasLines text t (length bytes) b.lines []
lines-of text t bytes b = record { form = b.form; text_is = b.text_is ∙ ap (λ x. first_line t (length bytes) ++ x) (sym (append-nil (rendered code_base b.lines))); small = b.small }

pub back-one : (text : List ℕ) (t u : Target) (b c : List ℕ) → Back text t b → Back text u c → (t ≡ u) × (b ≡ c)
back-one text t u b c g h =
    let one = lines-one text t u (length b) (length c) g.lines h.lines [] [] (lines-of text t b g) (lines-of text u c h) (nil-none t _) (nil-none u _) in
    (one.target, g.bytes_are ∙ one.lines.bytes ∙ sym h.bytes_are)

some-nil : (rest : List ℕ) → 0 < length rest → [] ≡ rest → ⊥
some-nil rest some e = let none : 0 ≡ length rest = ap length e in omega arith

-- ---- texts that are none

pub bad-none : (text : List ℕ) (line : ℕ) (t : Target) (b : List ℕ) → IsBadListing text line → Back text t b → ⊥
bad-none text line t b (inl bad) g = bad.none t (length b) (head-of text t (length b) g.lines [] (lines-of text t b g))
bad-none text line t b (inr (inl bad)) g =
    let one = lines-one text t bad.t (length b) bad.count g.lines bad.lines [] bad.rest (lines-of text t b g) bad.front (nil-none t _) bad.none in
    some-nil bad.rest bad.some one.lines.rests
bad-none text line t b (inr (inr bad)) g =
    let one = lines-one text t bad.t (length b) bad.count g.lines bad.lines [] [] (lines-of text t b g) bad.front (nil-none t _) (nil-none bad.t _) in
    bad.other (sym one.number ∙ ap length (g.bytes_are ∙ one.lines.bytes))

pub bad-one : (text : List ℕ) (line other : ℕ) → IsBadListing text line → IsBadListing text other → line ≡ other
bad-one text line other (inl a) (inl b) = a.line_is ∙ sym b.line_is
bad-one text line other (inl a) (inr (inl b)) = absurd (a.none b.t b.count (head-of text b.t b.count b.lines b.rest b.front))
bad-one text line other (inl a) (inr (inr b)) = a.line_is ∙ sym b.line_is
bad-one text line other (inr (inl a)) (inl b) = absurd (b.none a.t a.count (head-of text a.t a.count a.lines a.rest a.front))
bad-one text line other (inr (inl a)) (inr (inl b)) =
    let one = lines-one text a.t b.t a.count b.count a.lines b.lines a.rest b.rest a.front b.front a.none b.none in
    a.line_is ∙ ap (λ n. n + 2) one.lines.count ∙ sym b.line_is
bad-one text line other (inr (inl a)) (inr (inr b)) =
    let one = lines-one text a.t b.t a.count b.count a.lines b.lines a.rest [] a.front b.front a.none (nil-none b.t _) in
    absurd (some-nil a.rest a.some (sym one.lines.rests))
bad-one text line other (inr (inr a)) (inl b) = a.line_is ∙ sym b.line_is
bad-one text line other (inr (inr a)) (inr (inl b)) =
    let one = lines-one text a.t b.t a.count b.count a.lines b.lines [] b.rest a.front b.front (nil-none a.t _) b.none in
    absurd (some-nil b.rest b.some one.lines.rests)
bad-one text line other (inr (inr a)) (inr (inr b)) = a.line_is ∙ sym b.line_is
