-- The tokens that a statement takes, counted.
use Rattle.std.proofs.Common.{◌≡◌, ℕ, suc, ◌+◌, Bool, true, false, List, [], ◌∷◌, ◌++◌, length, Option, Some, None, Ok, Err, IfOk, codes, refl, sym, ap, ◌∙◌, subst, arith}
use Rattle.std.specs.Prelude.{Result, if◌then◌else◌, nat_lt}
use Rattle.std.specs.Str.{bytes_eq}
use Rattle.std.proofs.lemmas.List.{length-append}
use Rattle.lg_base.specs.Refusals.{◌>>=◌}
use Rattle.lg_base.specs.declared.refusal.Refusal.{Refusal}
use Rattle.lg_base.specs.declared.refusal.RefusalKind.TheVariants.{FloatRefused, TooManyNodes}
use Rattle.lg_lex.specs.declared.token.Token.{Token}
use Rattle.lg_lex.specs.declared.token.TokenKind.{TokenKind}
use Rattle.lg_lex.specs.declared.token.TokenKind.TheVariants.{Word}
use Rattle.lg_node.specs.Functions.{is_prolog}
use Rattle.lg_op.specs.declared.form.Form.{Form}
use Rattle.lg_op.specs.declared.form.Form.TheVariants.{Immediate}
use Rattle.lg_op.specs.declared.op.Op.{Op}
use Rattle.lg_op.specs.declared.op.Op.TheVariants.{Plain}
use Rattle.lg_op.specs.declared.op.PlainOp.TheVariants as plain
use Rattle.lg_op.specs.declared.operand.Operand.{Operand}
use Rattle.lg_tst.specs.Names.{no_names}
use Rattle.lg_tst.specs.Statements.{instruction_or, statement_of, word_in}
use Rattle.lg_tst.specs.Streams.{tail_of, wanted_of}
use Rattle.lg_tst.specs.Units.{State, begun, behind, instruction, is_word_kind, most_nodes, name_word, named, noted, noted_by, operand_of, operands, statement_by, statement_from, token_text, written_forms}
use Rattle.lg_tst.specs.Words.{is_float_word, op_of}
use Rattle.lg_tst.specs.declared.statement.Section.{Section}
use Rattle.lg_tst.specs.declared.statement.Section.TheVariants as section
use Rattle.lg_tst.specs.declared.statement.Statement.TheVariants as statement
use Rattle.lg_explain.specs.FormsTaken.{FormsAreTaken}
use Rattle.lg_explain.specs.Twice.{forms_by, forms_of_word}

-- what is read took this many tokens
abbrev Takes : List Token → ℕ → Result State Refusal → Type 0
Takes left n read = IfOk read (λ u. length left ≡ n + length u.source.left)

pub noted_same : (k : TokenKind) (s : State) (form : Form) (done : List Operand) (text : List ℕ) → (noted_by k s form done text).source ≡ s.source
noted_same Word s form done text = refl
noted_same _ s form done text = refl

-- what begins with an instruction: the names of the next function, with `prolog`
pub begun_is : (op : Op) (s : State) → begun op s ≡ (if is_prolog op then record s { names = no_names } else s)
begun_is (Plain plain.Prolog) s = refl
begun_is _ s = refl

pub begun_same : (op : Op) (s : State) → (begun op s).source ≡ s.source
begun_same op s = ap (λ z. z.source) (begun_is op s) ∙ by (is_prolog op)
  where
    by : (b : Bool) → (if b then record s { names = no_names } else s).source ≡ s.source
    by true = refl
    by false = refl

-- a token that is requested is the first, and one more is taken
one_more : (n : ℕ) (xs : List Token) (r : Result State Refusal) → Takes xs n r → (x : Token) → Takes (x ∷ xs) (suc n) r
one_more n xs (Ok u) h x = omega (arith, h)
one_more n xs (Err e) h x = tt

on_wanted : (n line : ℕ) (left : List Token) (fault : Option Refusal) (f : Token → Result State Refusal)
    → ((t : Token) → Takes (tail_of left) n (f t)) → Takes left (suc n) (wanted_of line left fault >>= f)
on_wanted n line [] None f each = tt
on_wanted n line [] (Some refusal) f each = tt
on_wanted n line (x ∷ xs) fault f each = one_more n xs (f x) (each x) x

on_operand : (n : ℕ) (left : List Token) (r : Result Operand Refusal) (f : Operand → Result State Refusal)
    → ((x : Operand) → Takes left n (f x)) → Takes left n (r >>= f)
on_operand n left (Ok x) f each = each x
on_operand n left (Err e) f each = tt

operands_taken : (op : Op) (line : ℕ) (fs : List Form) (done : List Operand) (s : State) → Takes s.source.left (length fs) (operands op line fs done s)
unfolding operands
operands_taken op line [] done s = omega arith
operands_taken op line (f ∷ fs) done s =
    on_wanted (length fs) line s.source.left s.source.fault _ (λ t. on_operand (length fs) (tail_of s.source.left) (operand_of (behind s) op f done t) _ (λ x.
    let new = noted (behind s) f done t in
    subst (λ z. Takes z.left (length fs) (operands op line fs (done ++ x ∷ []) new)) (noted_same t.kind (behind s) f done (token_text (behind s) t))
    (operands_taken op line fs (done ++ x ∷ []) new)))

instruction_taken : (op : Op) (s : State) (line : ℕ) → Takes s.source.left (length (written_forms op)) (instruction op s line)
instruction_taken op s line = by (nat_lt (length s.list.nodes) most_nodes)
  where
    by : (b : Bool) → Takes s.source.left (length (written_forms op))
        (if b then operands op line (written_forms op) [] (begun op s) else Err (record { kind = TooManyNodes; line = line }))
    by true = subst (λ z. Takes z.left (length (written_forms op)) (operands op line (written_forms op) [] (begun op s))) (begun_same op s)
        (operands_taken op line (written_forms op) [] (begun op s))
    by false = tt

named_taken : (left : List Token) (s : State) (t : Token) → s.source.left ≡ left → Takes left 0 (named s t)
named_taken left s t e = by (is_word_kind t.kind) _
  where
    by : (b : Bool) (r : Refusal) → Takes left 0 (if b then Ok s else Err r)
    by true r = let same : length s.source.left ≡ length left = ap length e in omega (arith, same)
    by false r = tt

name_taken : (s : State) (line : ℕ) → Takes s.source.left 1 (name_word s line)
name_taken s line = on_wanted 0 line s.source.left s.source.fault _ (λ t. named_taken (tail_of s.source.left) (behind s) t refl)

-- ---- by the word
by_op : (s : State) (t : Token) (o : Option Op) → Takes s.source.left (length (forms_by o)) (statement_by (instruction_or o) s t)
by_op s t None = tt
by_op s t (Some op) = instruction_taken op s t.line

by_name : (s : State) (t : Token) (word : List ℕ) (b : Bool)
    → Takes s.source.left (length (if b then Immediate ∷ [] else forms_by (op_of word)))
    (statement_by (if b then Ok statement.Name else instruction_or (op_of word)) s t)
by_name s t word true = name_taken s t.line
by_name s t word false = by_op s t (op_of word)

by_section : (s : State) (t : Token) (word : List ℕ) (here : Section) → Takes s.source.left (length (forms_of_word word)) (statement_by (word_in here word) s t)
by_section s t word section.Code = by_name s t word (bytes_eq word (codes "name"))
by_section s t word section.Data = tt

by_float : (s : State) (t : Token) (word : List ℕ) (here : Section) (float note : Bool) → note ≡ false
    → Takes s.source.left (length (forms_of_word word))
    (statement_by (if float then Err FloatRefused else (if note then Ok statement.Note else word_in here word)) s t)
by_float s t word here true note e = tt
by_float s t word here false true e = cc
by_float s t word here false false e = by_section s t word here

taken : (s : State) (t : Token) → t.kind ≡ Word → bytes_eq (token_text s t) (codes "note") ≡ false
    → Takes s.source.left (length (forms_of_word (token_text s t))) (statement_from s t)
taken s t is e =
    subst (λ k. Takes s.source.left (length (forms_of_word (token_text s t))) (statement_by (statement_of s.section k (token_text s t)) s t)) (sym is)
    (by_float s t (token_text s t) s.section (is_float_word (token_text s t)) (bytes_eq (token_text s t) (codes "note")) e)

pub forms_are : FormsAreTaken
forms_are before first more after read is e =
    let head = first_of first read.first more read.more read.begins in
    let leads : statement_from (behind before) first ≡ Ok after = subst (λ t. statement_from (behind before) t ≡ Ok after) (sym head) read.leads in
    let n : ℕ = length (forms_of_word (token_text before first)) in
    let counted : Takes (tail_of before.source.left) n (Ok after) = subst (λ r. Takes (tail_of before.source.left) n r) leads (taken (behind before) first is e) in
    let rest : tail_of before.source.left ≡ more ++ after.source.left = ap tail_of read.takes in
    let all = length-append more after.source.left in
    let same : length (tail_of before.source.left) ≡ length (more ++ after.source.left) = ap length rest in
    omega (arith, counted, same, all)
  where
    first_of : (a b : Token) (xs ys : List Token) → ◌≡◌ {A = List Token} (a ∷ xs) (b ∷ ys) → a ≡ b
    first_of a b xs ys e = cc
