-- How the lines of a listing begin, and that one text begins with one of them.
use Rattle.std.proofs.Common.{◌≡◌, ℕ, ◌+◌, ◌/◌, ◌%◌, ◌<◌, Bool, true, false, List, [], ◌∷◌, ◌++◌, length, drop, refl, sym, ap, ap₂, ◌∙◌, arith, append_assoc, codes, length-append, ◌≢◌, nat_eq}
use Rattle.std.specs.Prelude.{slice_index, nat_lt, ◌==◌, if◌then◌else◌, Option, Some, None, IfSome, IfNone}
use Rattle.std.specs.Fmt.{digit_glyph}
use Rattle.std.specs.List.{starts_with}
use Rattle.std.proofs.lemmas.Bool.Decides.{nat_tests}
use Rattle.std.proofs.Math.Seq.{drop-append_seam}
use Rattle.std.proofs.lemmas.List.{append_cancel_left}
use Rattle.std.proofs.lemmas.Fmt.{decimal_injective}
use Rattle.lg_base.specs.declared.target.Target.{Target}
use Rattle.lg_base.specs.declared.target.Target.TheVariants as target
use Rattle.lg_op.specs.declared.op.Op.{Op}
use Rattle.lg_op.specs.Names.{name}
use Rattle.lg_list.specs.declared.instruction.Instruction.{Instruction}
use Rattle.lg_list.specs.Texts.{decimal, hex}
use Rattle.lg_list.specs.Instructions.{spelling, text_of}
use Rattle.lg_list.specs.Lines.{Entry, target_word, bytes_of, address, label_line, node_line, instruction_line}
use Rattle.lg_list.specs.Lines.Entry.{Label, Node, Code}
use Rattle.lg_back.specs.Words.{until, is_free, first_word, second_word}
use Rattle.lg_back.specs.Reading.{HasHead, HasLine, HasNoLine}
use Rattle.lg_back.proofs.WordLemmas.{until-front, decimal-free, word-free, word-begins, two-words}
use Rattle.lg_back.proofs.NameLemmas.{name_free}
use Rattle.lg_back.proofs.InstructionLemmas.{code-unique, starts-again, starts-front}

-- ---- the first line

target_word-free : (t : Target) → is_free 32 (target_word t) ≡ true
target_word-free target.X86_64 = refl
target_word-free _ = refl

letters : (a b : ℕ) → a ≡ b → a ≢ b → ⊥
letters a b e other = other e

pub target_word-one : (t u : Target) → target_word t ≡ target_word u → t ≡ u
target_word-one target.X86_64 target.X86_64 e = refl
target_word-one target.X86_64 target.Aarch64 e = absurd (letters 120 97 (ap (λ (w : List ℕ). slice_index w 0) e) (omega arith))
target_word-one target.X86_64 target.Riscv64 e = absurd (letters 120 114 (ap (λ (w : List ℕ). slice_index w 0) e) (omega arith))
target_word-one target.Aarch64 target.X86_64 e = absurd (letters 97 120 (ap (λ (w : List ℕ). slice_index w 0) e) (omega arith))
target_word-one target.Aarch64 target.Aarch64 e = refl
target_word-one target.Aarch64 target.Riscv64 e = absurd (letters 97 114 (ap (λ (w : List ℕ). slice_index w 0) e) (omega arith))
target_word-one target.Riscv64 target.X86_64 e = absurd (letters 114 120 (ap (λ (w : List ℕ). slice_index w 0) e) (omega arith))
target_word-one target.Riscv64 target.Aarch64 e = absurd (letters 114 97 (ap (λ (w : List ℕ). slice_index w 0) e) (omega arith))
target_word-one target.Riscv64 target.Riscv64 e = refl

pub head-words : (text : List ℕ) (t : Target) (count : ℕ) → HasHead text t count → (first_word text ≡ target_word t) × (second_word text ≡ decimal count)
head-words text t count h = two-words (target_word t) (decimal count) h.rest text (target_word-free t) (decimal-free 10 count (omega arith) (omega (arith, h.small))) h.text_is

-- a text begins with one first line
pub head-one : (text : List ℕ) (t u : Target) (n m : ℕ) → HasHead text t n → HasHead text u m → (t ≡ u) × (n ≡ m)
head-one text t u n m g h =
    let a = head-words text t n g in
    let b = head-words text u m h in
    (target_word-one t u (sym a.0 ∙ b.0), decimal_injective n m (omega (arith, g.small)) (omega (arith, h.small)) (sym a.1 ∙ b.1))

-- ---- how a line begins

pub node-words : (t : Target) (at line : ℕ) (op : Op) (text : List ℕ) → HasLine t at text (Node line op) → (first_word text ≡ decimal line) × (second_word text ≡ name op)
node-words t at line op text h = two-words (decimal line) (name op) h.rest text (decimal-free 32 line (omega arith) (omega (arith, h.form))) (name_free op) h.text_is

node-regroup : (a b more : List ℕ) → (codes "; " ++ a ++ codes " " ++ b ++ codes "\n") ++ more ≡ 59 ∷ 32 ∷ (a ++ 32 ∷ (b ++ 10 ∷ more))
node-regroup a b more = simp append_assoc

pub node-begins : (t : Target) (at line : ℕ) (op : Op) (text : List ℕ) → HasLine t at text (Node line op) → (rest : List ℕ) × (text ≡ 59 ∷ rest)
node-begins t at line op text h = (32 ∷ (decimal line ++ 32 ∷ (name op ++ 10 ∷ h.rest)), h.text_is ∙ node-regroup (decimal line) (name op) h.rest)

glyph-other : (d : ℕ) (b : Bool) → nat_lt d 10 ≡ b → (if b then 48 + d else 87 + d) ≡ 59 → ⊥
glyph-other d true e f = let low : d < 10 = grind (arith, nat_tests) in omega arith
glyph-other d false e f = omega arith

-- an address does not begin with a semicolon
address-begins : (at : ℕ) (more rest : List ℕ) → address at ++ more ≡ 59 ∷ rest → ⊥
address-begins at more rest e = let d = at / 16777216 % 256 / 16 in let first : digit_glyph false d ≡ 59 = cc in glyph-other d (nat_lt d 10) refl first

label-regroup : (a w more : List ℕ) → (a ++ codes " " ++ w ++ codes ":\n") ++ more ≡ a ++ (32 ∷ (w ++ 58 ∷ 10 ∷ more))
label-regroup a w more = simp append_assoc

pub label-rest : (t : Target) (at : ℕ) (word text : List ℕ) → (h : HasLine t at text (Label word)) → drop 9 text ≡ word ++ 58 ∷ 10 ∷ h.rest
label-rest t at word text h = ap (drop 9) (h.text_is ∙ label-regroup (address at) word h.rest)

pub label-word : (t : Target) (at : ℕ) (word text : List ℕ) → HasLine t at text (Label word) → until 58 (drop 9 text) ≡ word
label-word t at word text h = ap (until 58) (label-rest t at word text h) ∙ until-front 58 word (10 ∷ h.rest) (word-free word h.form)

pub label-begins : (t : Target) (at : ℕ) (word text rest : List ℕ) → HasLine t at text (Label word) → text ≡ 59 ∷ rest → ⊥
label-begins t at word text rest h e = address-begins at (32 ∷ (word ++ 58 ∷ 10 ∷ h.rest)) rest (sym (h.text_is ∙ label-regroup (address at) word h.rest) ∙ e)

pub label-ninth : (t : Target) (at : ℕ) (word text rest : List ℕ) → HasLine t at text (Label word) → drop 9 text ≡ 32 ∷ rest → ⊥
label-ninth t at word text rest h e = word-begins word (58 ∷ 10 ∷ h.rest) rest h.form (sym (label-rest t at word text h) ∙ e)

prefix-step : (b : Bool) (c : ℕ) (cs us : List ℕ) → cs ≡ us ++ drop (length us) cs → (c ∷ cs) ≡ (if b then [] else (c ∷ us)) ++ drop (length (if b then [] else (c ∷ us))) (c ∷ cs)
prefix-step true c cs us e = refl
prefix-step false c cs us e = ap (λ t. c ∷ t) e

-- what is in front of a byte is in front
until-prefix : (byte : ℕ) (xs : List ℕ) → xs ≡ until byte xs ++ drop (length (until byte xs)) xs
until-prefix byte [] = refl
until-prefix byte (c ∷ cs) = prefix-step (c == byte) c cs (until byte cs) (until-prefix byte cs)

label-whole : (a w end : List ℕ) → a ++ codes " " ++ (w ++ (codes ":\n" ++ end)) ≡ (a ++ codes " " ++ w ++ codes ":\n") ++ end
label-whole a w end = simp append_assoc

-- a text of these parts begins with the line of a label
pub label-found : (at : ℕ) (text word end : List ℕ) → text ≡ (address at ++ codes " ") ++ drop 9 text → word ≡ until 58 (drop 9 text) → end ≡ drop (length word) (drop 9 text)
    → end ≡ codes ":\n" ++ drop 2 end → text ≡ label_line at word ++ drop 2 end
label-found at text word end front is rest colon =
    let own : drop 9 text ≡ word ++ end = until-prefix 58 (drop 9 text) ∙ ap₂ (λ w r. w ++ r) (sym is) (ap (λ w. drop (length w) (drop 9 text)) (sym is) ∙ sym rest) in
    front ∙ ap (λ r. (address at ++ codes " ") ++ r) (own ∙ ap (λ r. word ++ r) colon) ∙ label-whole (address at) word (drop 2 end)

-- and its parts are these
pub label-front : (t : Target) (at : ℕ) (word text : List ℕ) → (h : HasLine t at text (Label word)) → text ≡ (address at ++ codes " ") ++ (word ++ (codes ":\n" ++ h.rest))
label-front t at word text h = h.text_is ∙ sym (label-whole (address at) word h.rest)

pub label-end : (t : Target) (at : ℕ) (word text : List ℕ) → (h : HasLine t at text (Label word)) → drop (length word) (drop 9 text) ≡ codes ":\n" ++ h.rest
label-end t at word text h = ap (drop (length word)) (label-rest t at word text h) ∙ drop-append_seam word (58 ∷ 10 ∷ h.rest)

pub label-length : (at : ℕ) (word : List ℕ) → 11 + length word ≡ length (label_line at word)
label-length at word = let l = length-append word (codes ":\n") in omega (arith, l)

code-regroup : (a b c more : List ℕ) → (a ++ codes "  " ++ b ++ codes "  " ++ c ++ codes "\n") ++ more ≡ a ++ (32 ∷ 32 ∷ (b ++ 32 ∷ 32 ∷ (c ++ 10 ∷ more)))
code-regroup a b c more = simp append_assoc

pub code-begins : (t : Target) (at : ℕ) (i : Instruction) (text rest : List ℕ) → HasLine t at text (Code i) → text ≡ 59 ∷ rest → ⊥
code-begins t at i text rest h e =
    address-begins at _ rest (sym (h.text_is ∙ code-regroup (address at) (hex (spelling i)) (text_of at i) h.rest) ∙ e)

pub code-ninth : (t : Target) (at : ℕ) (i : Instruction) (text : List ℕ) → HasLine t at text (Code i) → (rest : List ℕ) × (drop 9 text ≡ 32 ∷ rest)
code-ninth t at i text h =
    (hex (spelling i) ++ 32 ∷ 32 ∷ (text_of at i ++ 10 ∷ h.rest), ap (drop 9) (h.text_is ∙ code-regroup (address at) (hex (spelling i)) (text_of at i) h.rest))

-- ---- one text begins with one line

-- lines of one text are of one length where they are one
pub rest-one : (text a b more rest : List ℕ) → text ≡ a ++ more → text ≡ b ++ rest → a ≡ b → more ≡ rest
rest-one text a b more rest e f same = append_cancel_left b more rest (sym (ap (λ x. x ++ more) same) ∙ sym e ∙ f)

-- two lines that begin one text have the same bytes, and leave the same rest
pub record AreAlike (e f : Entry) (more rest : List ℕ) : Type 0 where
  pub bytes : bytes_of e ≡ bytes_of f
  pub rests : more ≡ rest

pub line-one : (t : Target) (at : ℕ) (text : List ℕ) (e f : Entry) → (g : HasLine t at text e) → (h : HasLine t at text f) → AreAlike e f g.rest h.rest
line-one t at text (Label v) (Label w) g h =
    let same : v ≡ w = sym (label-word t at v text g) ∙ label-word t at w text h in
    record { bytes = refl; rests = rest-one text (label_line at v) (label_line at w) g.rest h.rest g.text_is h.text_is (ap (label_line at) same) }
line-one t at text (Label v) (Node line op) g h = let n = node-begins t at line op text h in absurd (label-begins t at v text n.0 g n.1)
line-one t at text (Label v) (Code i) g h = let n = code-ninth t at i text h in absurd (label-ninth t at v text n.0 g n.1)
line-one t at text (Node line op) (Label w) g h = let n = node-begins t at line op text g in absurd (label-begins t at w text n.0 h n.1)
line-one t at text (Node line op) (Node other o) g h =
    let a = node-words t at line op text g in
    let b = node-words t at other o text h in
    let digits : decimal line ≡ decimal other = sym a.0 ∙ b.0 in
    let names : name op ≡ name o = sym a.1 ∙ b.1 in
    record {
      bytes = refl;
      rests = rest-one text (node_line line op) (node_line other o) g.rest h.rest g.text_is h.text_is (ap₂ (λ d n. codes "; " ++ d ++ codes " " ++ n ++ codes "\n") digits names);
    }
line-one t at text (Node line op) (Code i) g h = let n = node-begins t at line op text g in absurd (code-begins t at i text n.0 h n.1)
line-one t at text (Code i) (Label w) g h = let n = code-ninth t at i text g in absurd (label-ninth t at w text n.0 h n.1)
line-one t at text (Code i) (Node line op) g h = let n = node-begins t at line op text h in absurd (code-begins t at i text n.0 g n.1)
line-one t at text (Code i) (Code j) g h =
    let same : i ≡ j = code-unique t at i j text g.rest h.rest g.form h.form g.text_is h.text_is in
    record { bytes = ap spelling same; rests = rest-one text (instruction_line at i) (instruction_line at j) g.rest h.rest g.text_is h.text_is (ap (instruction_line at) same) }

-- ---- which kind of line a text may begin with

pub none-but-nodes : (t : Target) (at : ℕ) (text : List ℕ) → starts_with nat_eq text (59 ∷ []) ≡ true → ((u : Target) (a line : ℕ) (op : Op) → ¬ HasLine u a text (Node line op)) → HasNoLine t at text
none-but-nodes t at text begins none (Label word) h = label-begins t at word text (drop 1 text) h (starts-front text (59 ∷ []) begins)
none-but-nodes t at text begins none (Node line op) h = none t at line op h
none-but-nodes t at text begins none (Code i) h = code-begins t at i text (drop 1 text) h (starts-front text (59 ∷ []) begins)

no-node : (t : Target) (at line : ℕ) (op : Op) (text : List ℕ) → starts_with nat_eq text (59 ∷ []) ≡ false → HasLine t at text (Node line op) → ⊥
no-node t at line op text begins h = let n = node-begins t at line op text h in let yes = starts-again text (59 ∷ []) n.0 n.1 in cc

pub none-but-codes : (t : Target) (at : ℕ) (text : List ℕ) → starts_with nat_eq text (59 ∷ []) ≡ false → starts_with nat_eq (drop 9 text) (32 ∷ []) ≡ true → ((i : Instruction) → ¬ HasLine t at text (Code i)) → HasNoLine t at text
none-but-codes t at text begins ninth none (Label word) h = label-ninth t at word text (drop 1 (drop 9 text)) h (starts-front (drop 9 text) (32 ∷ []) ninth)
none-but-codes t at text begins ninth none (Node line op) h = no-node t at line op text begins h
none-but-codes t at text begins ninth none (Code i) h = none i h

pub none-but-labels : (t : Target) (at : ℕ) (text : List ℕ) → starts_with nat_eq text (59 ∷ []) ≡ false → starts_with nat_eq (drop 9 text) (32 ∷ []) ≡ false → ((u : Target) (word : List ℕ) → ¬ HasLine u at text (Label word)) → HasNoLine t at text
none-but-labels t at text begins ninth none (Label word) h = none t word h
none-but-labels t at text begins ninth none (Node line op) h = no-node t at line op text begins h
none-but-labels t at text begins ninth none (Code i) h = let n = code-ninth t at i text h in let yes = starts-again (drop 9 text) (32 ∷ []) n.0 n.1 in cc

-- ---- what a length that is given says

pub if-none : (r : Option ℕ) (P Q : Type 0) → (P → Q) → IfNone r P → IfNone r Q
if-none None P Q f p = f p
if-none (Some n) P Q f p = tt

pub if-some : (r : Option ℕ) (P Q : ℕ → Type 0) → ((n : ℕ) → P n → Q n) → IfSome r P → IfSome r Q
if-some None P Q f p = tt
if-some (Some n) P Q f p = f n p
