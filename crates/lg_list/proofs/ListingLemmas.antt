-- The parts of a listing.
use Rattle.std.proofs.Common.{◌≡◌, ℕ, zero, suc, ◌+◌, ◌-◌, ◌<◌, ◌≤◌, Bool, true, false, List, [], ◌∷◌, ◌++◌, length, drop, map, Option, Some, None, refl, sym, ap, ap₂, ◌∙◌, arith, append_assoc, add-one, drop-cons}
use Rattle.std.specs.Prelude.{slice_get, slice_index, if◌then◌else◌}
use Rattle.std.proofs.lemmas.List.{drop-drop}
use Rattle.std.proofs.lemmas.Option.{slice_get_within, get_or_from_slice_get}
use Rattle.lg_base.specs.Layout.{code_base}
use Rattle.lg_base.specs.declared.target.Target.{Target}
use Rattle.lg_base.specs.declared.target.Target.TheVariants as target
use Rattle.lg_base.specs.WordFronts.{word_front}
use Rattle.lg_x86.specs.Reading.{guess_of, sized_of, code_of, short_at, rm_reg_of, rm_reg_by_opcode}
use Rattle.lg_op.specs.declared.op.Op.{Op}
use Rattle.lg_node.specs.declared.place.Place.{Place}
use Rattle.lg_op.specs.declared.node.Node.{Node as OpNode}
use Rattle.lg_node.specs.Labels.{is_at}
use Rattle.lg_node.specs.Nodes.{LabelledNodes}
use Rattle.lg_list.specs.declared.instruction.Instruction.{Instruction}
use Rattle.lg_list.specs.Instructions.{front, begin_with, first_instructions, instructions, spelling}
use Rattle.lg_list.specs.Lines.{Entry, rendered, label_line, node_line, instruction_line}
use Rattle.lg_list.specs.Lines.Entry.{Label, Node, Code}
use Rattle.lg_list.specs.Listing.{labels_at, entry_of, bytes_between, node_entries, nodes_from, Placed}

pub drop_at : {A : Type 0} (xs : List A) (n : ℕ) (x : A) → slice_get xs n ≡ Some x → drop n xs ≡ x ∷ drop (n + 1) xs
drop_at xs n x e = rw add-one (drop-cons xs n x (slice_get_within xs n x e) ∙ ap (λ y. y ∷ drop (suc n) xs) (get_or_from_slice_get xs n x x e))

-- a label that is bound there, and one that is not
pub labels-bound : (i n : ℕ) (words : List (List ℕ)) (places : List (Option Place)) (word : List ℕ) (place : Option Place) → Some word ≡ slice_get words n → Some place ≡ slice_get places n → is_at i place ≡ true → labels_at i (drop n words) (drop n places) ≡ Label word ∷ labels_at i (drop (n + 1) words) (drop (n + 1) places)
labels-bound i n words places word place e f b = rw (drop_at words n word (sym e), drop_at places n place (sym f), b) refl

pub labels-elsewhere : (i n : ℕ) (words : List (List ℕ)) (places : List (Option Place)) (word : List ℕ) (place : Option Place) → Some word ≡ slice_get words n → Some place ≡ slice_get places n → is_at i place ≡ false → labels_at i (drop n words) (drop n places) ≡ labels_at i (drop (n + 1) words) (drop (n + 1) places)
labels-elsewhere i n words places word place e f b = rw (drop_at words n word (sym e), drop_at places n place (sym f), b) refl

pub labels-none : (i : ℕ) (words : List (List ℕ)) (places : List (Option Place)) → words ≡ [] → labels_at i words places ≡ []
labels-none i words places e = rw e refl

-- a label's line, and those after it
pub rendered-label : (at : ℕ) (word : List ℕ) (es : List Entry) → rendered at (Label word ∷ es) ≡ label_line at word ++ rendered at es
rendered-label at word es = let e : at + 0 ≡ at = omega arith in ap (λ k. label_line at word ++ rendered k es) e

pub front-nil : (t : Target) → front t [] ≡ None
unfolding front word_front guess_of sized_of code_of short_at rm_reg_of rm_reg_by_opcode
front-nil target.X86_64 = refl
front-nil target.Aarch64 = refl
front-nil target.Riscv64 = refl

pub instructions-nil : (k : ℕ) (t : Target) → first_instructions k t [] ≡ []
instructions-nil zero t = refl
instructions-nil (suc k) t = ap (begin_with (λ n. first_instructions k t (drop n []))) (front-nil t)

pub instructions-none : (k : ℕ) (t : Target) (bytes : List ℕ) → front t bytes ≡ None → first_instructions k t bytes ≡ []
instructions-none zero t bytes e = refl
instructions-none (suc k) t bytes e = ap (begin_with (λ n. first_instructions k t (drop n bytes))) e

pub instructions-some : (k : ℕ) (t : Target) (bytes : List ℕ) (i : Instruction) (n : ℕ) → front t bytes ≡ Some (i, n) → first_instructions (suc k) t bytes ≡ i ∷ first_instructions k t (drop n bytes)
instructions-some k t bytes i n e = ap (begin_with (λ m. first_instructions k t (drop m bytes))) e

labels-then-one : (i at : ℕ) (w : List ℕ) (ws : List (List ℕ)) (ps : List (Option Place)) (es : List Entry) (b : Bool) → rendered at (labels_at i ws ps ++ es) ≡ rendered at (labels_at i ws ps) ++ rendered at es → rendered at ((if b then (Label w ∷ labels_at i ws ps) else labels_at i ws ps) ++ es) ≡ rendered at (if b then (Label w ∷ labels_at i ws ps) else labels_at i ws ps) ++ rendered at es
labels-then-one i at w ws ps es false h = h
labels-then-one i at w ws ps es true h =
    rendered-label at w (labels_at i ws ps ++ es) ∙ ap (λ t. label_line at w ++ t) h ∙ sym (append_assoc (label_line at w) (rendered at (labels_at i ws ps)) (rendered at es)) ∙ ap (λ t. t ++ rendered at es) (sym (rendered-label at w (labels_at i ws ps)))

pub labels-then : (i at : ℕ) (words : List (List ℕ)) (places : List (Option Place)) (es : List Entry) → rendered at (labels_at i words places ++ es) ≡ rendered at (labels_at i words places) ++ rendered at es
labels-then i at [] places es = refl
labels-then i at (w ∷ ws) [] es = refl
labels-then i at (w ∷ ws) (p ∷ ps) es = labels-then-one i at w ws ps es (is_at i p) (labels-then i at ws ps es)

pub rendered-node : (at line : ℕ) (op : Op) (es : List Entry) → rendered at (Node line op ∷ es) ≡ node_line line op ++ rendered at es
rendered-node at line op es = let e : at + 0 ≡ at = omega arith in ap (λ k. node_line line op ++ rendered k es) e

-- no place passes the end
pub Placed-below : (d i : ℕ) (places : List ℕ) (nodes len : ℕ) → i + d ≡ nodes → Placed places nodes len → slice_index places i ≤ len
Placed-below zero i places nodes len e p = let h : i ≡ nodes = omega arith in let l = p.last in rw h (omega arith)
Placed-below (suc d) i places nodes len e p = let r = p.rise i (omega arith) in let h = Placed-below d (i + 1) places nodes len (omega arith) p in omega arith

-- the instruction that is at an offset, its line, and those after it
pub code-step : (fuel at done : ℕ) (t : Target) (bytes : List ℕ) (i : Instruction) (n : ℕ) → 0 < fuel → front t (drop done bytes) ≡ Some (i, n) → n ≡ length (spelling i) → (k : ℕ) × (fuel ≡ suc k) × (rendered (at + done) (map Code (first_instructions fuel t (drop done bytes))) ≡ instruction_line (at + done) i ++ rendered (at + (done + n)) (map Code (first_instructions k t (drop (done + n) bytes))))
code-step zero at done t bytes i n h e l = absurd (omega arith)
code-step (suc k) at done t bytes i n h e l =
    let a : at + done + n ≡ at + (done + n) = omega arith in
    let rest : drop n (drop done bytes) ≡ drop (done + n) bytes = drop-drop n done bytes in
    (k, refl, ap (λ is. rendered (at + done) (map Code is)) (instructions-some k t (drop done bytes) i n e) ∙ ap₂ (λ m bs. instruction_line (at + done) i ++ rendered m (map Code (first_instructions k t bs))) (ap (λ m. at + done + m) (sym l) ∙ a) rest)

-- the lines of a node: its labels, its own line, and its instructions
pub node-split : (t : Target) (bytes : List ℕ) (l : LabelledNodes) (i at : ℕ) (n : OpNode) → Some n ≡ slice_get l.nodes i → rendered at (node_entries t bytes l i) ≡ rendered at (labels_at i l.words l.places) ++ (node_line n.line n.op ++ rendered at (map Code (instructions t bytes)))
node-split t bytes l i at n e =
    labels-then i at l.words l.places (entry_of (slice_get l.nodes i) ++ map Code (instructions t bytes)) ∙ ap (λ t. rendered at (labels_at i l.words l.places) ++ t) (ap (λ o. rendered at (entry_of o ++ map Code (instructions t bytes))) (sym e) ∙ rendered-node at n.line n.op (map Code (instructions t bytes)))

-- the lines of the nodes from node i on
pub nodes-step : (t : Target) (bytes places : List ℕ) (l : LabelledNodes) (i len : ℕ) → i < len → nodes_from t bytes places l i (len - i) ≡ rendered (code_base + slice_index places i) (node_entries t (bytes_between bytes places i) l i) ++ nodes_from t bytes places l (i + 1) (len - (i + 1))
nodes-step t bytes places l i len lt = let e : len - i ≡ suc (len - (i + 1)) = omega arith in ap (nodes_from t bytes places l i) e

pub nodes-end : (t : Target) (bytes places : List ℕ) (l : LabelledNodes) (i len : ℕ) → i ≡ len → nodes_from t bytes places l i (len - i) ≡ rendered (code_base + slice_index places len) (labels_at len l.words l.places)
nodes-end t bytes places l i len e = let z : len - i ≡ 0 = omega arith in ap (nodes_from t bytes places l i) z ∙ ap (λ k. rendered (code_base + slice_index places k) (labels_at k l.words l.places)) e

pub node-lines : (t : Target) (code places : List ℕ) (l : LabelledNodes) (i at : ℕ) (bytes : List ℕ) → at ≡ code_base + slice_index places i → bytes ≡ bytes_between code places i → rendered at (node_entries t bytes l i) ≡ rendered (code_base + slice_index places i) (node_entries t (bytes_between code places i) l i)
node-lines t code places l i at bytes e f = ap₂ (λ a bs. rendered a (node_entries t bs l i)) e f

pub last-lines : (t : Target) (code places : List ℕ) (l : LabelledNodes) (i len a b at : ℕ) → i ≡ len → a ≡ len → b ≡ len → at ≡ code_base + slice_index places a → nodes_from t code places l i (len - i) ≡ rendered at (labels_at b l.words l.places)
last-lines t code places l i len a b at e f g h = nodes-end t code places l i len e ∙ ap₂ (λ k m. rendered (code_base + slice_index places k) (labels_at m l.words l.places)) (sym f) (sym g) ∙ ap (λ x. rendered x (labels_at b l.words l.places)) (sym h)
