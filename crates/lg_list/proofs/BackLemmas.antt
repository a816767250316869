-- The listing of code, read back.
use Rattle.std.proofs.Common.{◌≡◌, ℕ, zero, suc, ◌+◌, ◌-◌, ◌^◌, ◌<◌, ◌≤◌, Bool, true, false, List, [], ◌∷◌, ◌++◌, length, drop, map, Option, Some, None, refl, sym, ap, ap₂, ◌∙◌, subst, arith, append_assoc, length-append}
use Rattle.std.specs.Prelude.{slice_get, slice_index, if◌then◌else◌}
use Rattle.std.specs.List.{All}
use Rattle.std.specs.Option.{option_map}
use Rattle.std.proofs.lemmas.List.{take-append-drop, drop-drop, length-take, length-drop, drop_all}
use Rattle.std.proofs.Math.Seq.{drop-append_seam}
use Rattle.std.proofs.lemmas.List.Elements.{All-append, All-nil, All-cons, All-head, All-tail}
use Rattle.lg_base.specs.Layout.{code_base}
use Rattle.lg_base.specs.declared.target.Target.{Target}
use Rattle.lg_base.proofs.WordFrontLemmas.{word_again}
use Rattle.lg_a64.specs.Spelling as a64_spelling
use Rattle.lg_a64.specs.Reading as a64_reading
use Rattle.lg_a64.proofs.AgainLemmas as a64_again
use Rattle.lg_x86.specs.Spelling as x86_spelling
use Rattle.lg_x86.proofs.CheckedLemmas.{checked_again}
use Rattle.lg_list.proofs.SpellingLemmas.{x86_some}
use Rattle.lg_rv.specs.Spelling as rv_spelling
use Rattle.lg_rv.specs.Reading as rv_reading
use Rattle.lg_rv.proofs.AgainLemmas as rv_again
use Rattle.lg_op.specs.declared.node.Node.{Node as OpNode}
use Rattle.lg_node.specs.declared.place.Place.{Place}
use Rattle.lg_node.specs.Labels.{is_at}
use Rattle.lg_node.specs.Nodes.{LabelledNodes, is_word}
use Rattle.lg_list.specs.declared.instruction.Instruction.{Instruction}
use Rattle.lg_list.specs.declared.instruction.Instruction.TheVariants as instruction
use Rattle.lg_list.specs.Instructions.{front, first_instructions, instructions, spelling}
use Rattle.lg_list.specs.Lines.{Entry, rendered, line_of, bytes_of, joined, first_line}
use Rattle.lg_list.specs.Lines.Entry.{Label, Node, Code}
use Rattle.lg_list.specs.Listing.{labels_at, entry_of, bytes_between, node_entries, nodes_from, listing}
use Rattle.lg_list.specs.Back.{IsOf, IsEntry, Back, IsWhole, IsListable}
use Rattle.lg_list.proofs.ListingLemmas.{instructions-some, instructions-nil, Placed-below}

-- lines one after another
pub joined-append : (xs ys : List Entry) → joined (xs ++ ys) ≡ joined xs ++ joined ys
joined-append [] ys = refl
joined-append (x ∷ xs) ys = ap (λ t. bytes_of x ++ t) (joined-append xs ys) ∙ sym (append_assoc (bytes_of x) (joined xs) (joined ys))

pub rendered-append : (at : ℕ) (xs ys : List Entry) → rendered at (xs ++ ys) ≡ rendered at xs ++ rendered (at + length (joined xs)) ys
rendered-append at [] ys = let e : at ≡ at + 0 = omega arith in ap (λ a. rendered a ys) e
rendered-append at (x ∷ xs) ys =
    let e : at + length (bytes_of x) + length (joined xs) ≡ at + length (bytes_of x ++ joined xs) = omega (arith, length-append (bytes_of x) (joined xs)) in
    ap (λ t. line_of at x ++ t) (rendered-append (at + length (bytes_of x)) xs ys ∙ ap (λ a. rendered (at + length (bytes_of x)) xs ++ rendered a ys) e) ∙ sym (append_assoc (line_of at x) (rendered (at + length (bytes_of x)) xs) _)

-- an instruction is read from its bytes
pub front-again : (t : Target) (i : Instruction) (more : List ℕ) → IsOf t i → front t (spelling i ++ more) ≡ Some (i, length (spelling i))
unfolding front
front-again t (instruction.X86_64 i) more of =
    ap (λ u. front u (spelling (instruction.X86_64 i) ++ more)) (sym of.0) ∙ ap (option_map (λ f. (instruction.X86_64 f.0, f.1))) (checked_again (x86_spelling.spelling i ++ more) i more of.1 refl)
front-again t (instruction.Aarch64 i) more of =
    ap (λ u. front u (spelling (instruction.Aarch64 i) ++ more)) (sym of.0) ∙ ap (option_map (λ f. (instruction.Aarch64 f.0, f.1))) (word_again a64_reading.instr_of a64_spelling.word_of a64_spelling.IsInstr a64_again.read_again a64_again.word_fits i more of.1)
front-again t (instruction.Riscv64 i) more of =
    ap (λ u. front u (spelling (instruction.Riscv64 i) ++ more)) (sym of.0) ∙ ap (option_map (λ f. (instruction.Riscv64 f.0, f.1))) (word_again rv_reading.instr_of rv_spelling.word_of rv_spelling.IsInstr rv_again.read_again rv_again.word_fits i more of.1)

pub spelling-some : (i : Instruction) → 0 < length (spelling i)
spelling-some (instruction.X86_64 i) = x86_some i
spelling-some (instruction.Aarch64 i) = omega arith
spelling-some (instruction.Riscv64 i) = omega arith

pub instructions-again : (k : ℕ) (t : Target) (is : List Instruction) → All (IsOf t) is → length (joined (map Code is)) ≤ k → first_instructions k t (joined (map Code is)) ≡ is
instructions-again k t [] of le = instructions-nil k t
instructions-again zero t (i ∷ is) of le = absurd (omega (arith, spelling-some i, length-append (spelling i) (joined (map Code is))))
instructions-again (suc k) t (i ∷ is) of le =
    let rest = joined (map Code is) in
    let some : front t (spelling i ++ rest) ≡ Some (i, length (spelling i)) = front-again t i rest (All-head (IsOf t) i is of) in
    instructions-some k t (spelling i ++ rest) i (length (spelling i)) some ∙ ap (λ bs. i ∷ first_instructions k t bs) (drop-append_seam (spelling i) rest) ∙ ap (λ js. i ∷ js) (instructions-again k t is (All-tail (IsOf t) i is of) (omega (arith, le, spelling-some i, length-append (spelling i) rest)))

pub whole-again : (t : Target) (bytes : List ℕ) (w : IsWhole t bytes) → instructions t bytes ≡ w.instructions
whole-again t bytes w =
    let len : length (joined (map Code w.instructions)) ≤ length bytes = omega (arith, ap length w.bytes_are) in
    ap (first_instructions (length bytes) t) w.bytes_are ∙ instructions-again (length bytes) t w.instructions w.form len

-- the labels have no bytes, and are words
labels-joined-one : (w : List ℕ) (es : List Entry) (b : Bool) → joined es ≡ [] → joined (if b then (Label w ∷ es) else es) ≡ []
labels-joined-one w es true h = h
labels-joined-one w es false h = h

pub labels-joined : (i : ℕ) (words : List (List ℕ)) (places : List (Option Place)) → joined (labels_at i words places) ≡ []
labels-joined i [] places = refl
labels-joined i (w ∷ ws) [] = refl
labels-joined i (w ∷ ws) (p ∷ ps) = labels-joined-one w (labels_at i ws ps) (is_at i p) (labels-joined i ws ps)

labels-form-one : (t : Target) (w : List ℕ) (es : List Entry) (b : Bool) → is_word w ≡ true → All (IsEntry t) es → All (IsEntry t) (if b then (Label w ∷ es) else es)
labels-form-one t w es true ok h = All-cons (IsEntry t) (Label w) es ok h
labels-form-one t w es false ok h = h

pub labels-form : (t : Target) (i : ℕ) (words : List (List ℕ)) (places : List (Option Place)) → All (λ w. is_word w ≡ true) words → All (IsEntry t) (labels_at i words places)
labels-form t i [] places ok = All-nil (IsEntry t)
labels-form t i (w ∷ ws) [] ok = All-nil (IsEntry t)
labels-form t i (w ∷ ws) (p ∷ ps) ok = labels-form-one t w (labels_at i ws ps) (is_at i p) (All-head (λ v. is_word v ≡ true) w ws ok) (labels-form t i ws ps (All-tail (λ v. is_word v ≡ true) w ws ok))

code-form : (t : Target) (is : List Instruction) → All (IsOf t) is → All (IsEntry t) (map Code is)
code-form t [] of = All-nil (IsEntry t)
code-form t (i ∷ is) of = All-cons (IsEntry t) (Code i) (map Code is) (All-head (IsOf t) i is of) (code-form t is (All-tail (IsOf t) i is of))

entry-form : (t : Target) (nodes : List OpNode) (i : ℕ) → All (λ n. n.line < 2 ^ 32) nodes → All (IsEntry t) (entry_of (slice_get nodes i))
entry-form t [] i ok = All-nil (IsEntry t)
entry-form t (n ∷ ns) zero ok = All-cons (IsEntry t) (Node n.line n.op) [] (All-head (λ m. m.line < 2 ^ 32) n ns ok) (All-nil (IsEntry t))
entry-form t (n ∷ ns) (suc i) ok = entry-form t ns i (All-tail (λ m. m.line < 2 ^ 32) n ns ok)

entry-joined : (o : Option OpNode) (es : List Entry) → joined (entry_of o ++ es) ≡ joined es
entry-joined None es = refl
entry-joined (Some n) es = refl

-- the lines of a node have the node's bytes
pub node-joined : (t : Target) (bytes : List ℕ) (l : LabelledNodes) (i : ℕ) → IsWhole t bytes → joined (node_entries t bytes l i) ≡ bytes
node-joined t bytes l i w =
    let code = map Code (instructions t bytes) in
    joined-append (labels_at i l.words l.places) (entry_of (slice_get l.nodes i) ++ code) ∙ ap₂ (λ a b. a ++ b) (labels-joined i l.words l.places) (entry-joined (slice_get l.nodes i) code) ∙ ap (λ is. joined (map Code is)) (whole-again t bytes w) ∙ sym w.bytes_are

pub node-form : (t : Target) (bytes : List ℕ) (l : LabelledNodes) (i : ℕ) → IsWhole t bytes → All (λ w. is_word w ≡ true) l.words → All (λ n. n.line < 2 ^ 32) l.nodes → All (IsEntry t) (node_entries t bytes l i)
node-form t bytes l i w words lines =
    let code : All (IsEntry t) (map Code (instructions t bytes)) = subst (λ is. All (IsEntry t) (map Code is)) (sym (whole-again t bytes w)) (code-form t w.instructions w.form) in
    All-append (IsEntry t) (labels_at i l.words l.places) _ (labels-form t i l.words l.places words) (All-append (IsEntry t) (entry_of (slice_get l.nodes i)) _ (entry-form t l.nodes i lines) code)

-- the lines from node i on
pub record IsRest (t : Target) (code places : List ℕ) (l : LabelledNodes) (i k : ℕ) : Type 0 where
  pub lines : List Entry
  pub form : All (IsEntry t) lines
  pub text_is : nodes_from t code places l i k ≡ rendered (code_base + slice_index places i) lines
  pub bytes_are : drop (slice_index places i) code ≡ joined lines

pub rest-of : (t : Target) (code places : List ℕ) (l : LabelledNodes) (labels : List ℕ) (c : IsListable t code places l labels) (lines : All (λ n. n.line < 2 ^ 32) l.nodes) (k i : ℕ) → i + k ≡ length l.nodes → IsRest t code places l i k
rest-of t code places l labels c lines zero i e =
    let at : i ≡ length l.nodes = omega arith in
    let end : slice_index places i ≡ length code = ap (slice_index places) at ∙ c.placed.last in
    let none : drop (slice_index places i) code ≡ [] = drop_all (slice_index places i) code (omega (arith, end)) in
    record {
      lines = labels_at i l.words l.places;
      form = labels-form t i l.words l.places c.words;
      text_is = refl;
      bytes_are = none ∙ sym (labels-joined i l.words l.places);
    }
rest-of t code places l labels c lines (suc k) i e =
    let below : i < length l.nodes = omega arith in
    let r = rest-of t code places l labels c lines k (i + 1) (omega arith) in
    let w = c.whole i below in
    let mine = node_entries t (bytes_between code places i) l i in
    let p = slice_index places i in
    let q = slice_index places (i + 1) in
    let rise : p ≤ q = c.placed.rise i below in
    let end : q ≤ length code = Placed-below k (i + 1) places (length l.nodes) (length code) (omega arith) c.placed in
    let own : joined mine ≡ bytes_between code places i = node-joined t (bytes_between code places i) l i w in
    let len : length (bytes_between code places i) ≡ q - p = omega (arith, rise, end, length-take (q - p) (drop p code), length-drop p code) in
    let next : code_base + p + length (joined mine) ≡ code_base + q = omega (arith, ap length own, len, rise) in
    let there : p + (q - p) ≡ q = omega (arith, rise) in
    let split : drop p code ≡ bytes_between code places i ++ drop q code = sym (take-append-drop (q - p) (drop p code)) ∙ ap (λ t. bytes_between code places i ++ t) (drop-drop (q - p) p code ∙ ap (λ j. drop j code) there) in
    record {
      lines = mine ++ r.lines;
      form = All-append (IsEntry t) mine r.lines (node-form t (bytes_between code places i) l i w c.words lines) r.form;
      text_is = ap (λ t. rendered (code_base + p) mine ++ t) (r.text_is ∙ ap (λ a. rendered a r.lines) (sym next)) ∙ sym (rendered-append (code_base + p) mine r.lines);
      bytes_are = split ∙ ap₂ (λ a b. a ++ b) (sym own) r.bytes_are ∙ sym (joined-append mine r.lines);
    }

pub reads_back : (t : Target) (code places : List ℕ) (l : LabelledNodes) (labels : List ℕ) → IsListable t code places l labels → All (λ n. n.line < 2 ^ 32) l.nodes → Back (listing t code places l) t code
reads_back t code places l labels c lines =
    let r = rest-of t code places l labels c lines (length l.nodes) 0 (omega arith) in
    let at : code_base + slice_index places 0 ≡ code_base = omega (arith, c.placed.first) in
    record {
      lines = r.lines;
      form = r.form;
      text_is = ap (λ x. first_line t (length code) ++ x) (r.text_is ∙ ap (λ a. rendered a r.lines) at);
      bytes_are = ap (λ j. drop j code) (sym c.placed.first) ∙ r.bytes_are;
      small = c.placed.small;
    }
