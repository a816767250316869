-- No statement leaves more tokens than it found.
use Rattle.std.proofs.Common.{◌≡◌, ℕ, ◌≤◌, Bool, true, false, cond, List, [], ◌∷◌, ◌++◌, length, Option, Some, None, Result, Ok, Err, IfOk, is_some, nat_lt, nat_le, subst, arith}
use Rattle.lg_base.specs.declared.refusal.Refusal.{Refusal}
use Rattle.lg_base.specs.declared.refusal.RefusalKind.{RefusalKind}
use Rattle.lg_lex.specs.declared.token.Token.{Token}
use Rattle.lg_lex.specs.declared.token.TokenKind.{TokenKind}
use Rattle.lg_lex.specs.declared.token.TokenKind.TheVariants.{Word, Directive, LabelMark, Register, Number, Character, Expression, Name, Host, Str}
use Rattle.lg_op.specs.declared.form.Form.{Form}
use Rattle.lg_op.specs.declared.op.Op.{Op}
use Rattle.lg_op.specs.declared.op.Op.TheVariants.{Binary, Wide, Branch, BranchSum, Control, Unary, Plain, Load, Store, Retval, Getarg}
use Rattle.lg_op.specs.declared.op.PlainOp.TheVariants as plain
use Rattle.lg_op.specs.declared.operand.Operand.{Operand}
use Rattle.lg_node.specs.Nodes.{LabelledNodes}
use Rattle.lg_tst.specs.DataParts.{fits}
use Rattle.lg_tst.specs.Statements.{is_value}
use Rattle.lg_base.specs.Refusals.{◌>>=◌}
use Rattle.lg_tst.specs.Streams.{tail_of}
use Rattle.lg_tst.specs.Units.{State, token_text, behind, wanted, operand_of, noted_by, noted, operands, written_forms, begun, instruction, number_wanted, opened, data_section, stored, is_data_alignment, aligned, item, more_values, first_value, values, or_twice, is_word_kind, named, is_string, is_digits, after_if, skip_if, note, statement_by, statement_from}
use Rattle.lg_tst.specs.declared.statement.ItemSize.{ItemSize}
use Rattle.lg_tst.specs.declared.statement.Statement.{Statement}
use Rattle.lg_tst.specs.declared.statement.Statement.TheVariants as statement

-- at most this many tokens are left of what is read
abbrev Leaves : ℕ → Result State Refusal → Type 0
Leaves n read = IfOk read (λ u. length u.source.left ≤ n)

bind_leaves : {A : Type 0} (n : ℕ) (r : Result A Refusal) (f : A → Result State Refusal) → ((x : A) → Leaves n (f x)) → Leaves n (r >>= f)
bind_leaves n (Ok x) f each = each x
bind_leaves n (Err e) f each = tt

step_leaves : (m n : ℕ) (r : Result State Refusal) (f : State → Result State Refusal) → Leaves m r → ((u : State) → length u.source.left ≤ m → Leaves n (f u)) → Leaves n (r >>= f)
step_leaves m n (Ok u) f first each = each u first
step_leaves m n (Err e) f first each = tt

cond_leaves : (n : ℕ) (b : Bool) (x y : Result State Refusal) → Leaves n x → Leaves n y → Leaves n (cond b x y)
cond_leaves n true x y first second = first
cond_leaves n false x y first second = second

tail_less : (ts : List Token) → length (tail_of ts) ≤ length ts
tail_less [] = omega arith
tail_less (t ∷ ts) = omega arith

noted_left : (k : TokenKind) (s : State) (form : Form) (done : List Operand) (text : List ℕ) → length (noted_by k s form done text).source.left ≤ length s.source.left
noted_left Word s form done text = omega arith
noted_left other s form done text = omega arith

weaker : (m n : ℕ) (r : Result State Refusal) → m ≤ n → Leaves m r → Leaves n r
weaker m n (Ok u) h leaves = omega (arith, h, leaves)
weaker m n (Err e) h leaves = tt

operands_leave : (op : Op) (line : ℕ) (fs : List Form) (done : List Operand) (s : State) → Leaves (length s.source.left) (operands op line fs done s)
unfolding operands
operands_leave op line [] done s = omega arith
operands_leave op line (f ∷ fs) done s =
    let most = length s.source.left in
    bind_leaves most (wanted line s) _ (λ t. bind_leaves most (operand_of (behind s) op f done t) _ (λ x.
    let new = noted (behind s) f done t in
    let fewer = noted_left t.kind (behind s) f done (token_text (behind s) t) in
    let less = tail_less s.source.left in
    weaker (length new.source.left) most _ (omega (arith, fewer, less)) (operands_leave op line fs (done ++ x ∷ []) new)))

begun_left : (op : Op) (s : State) → length (begun op s).source.left ≤ length s.source.left
begun_left (Plain plain.Prolog) s = omega arith
begun_left other s = omega arith

instruction_leaves : (op : Op) (s : State) (line : ℕ) → Leaves (length s.source.left) (instruction op s line)
instruction_leaves op s line = cond_leaves _ (nat_lt (length s.list.nodes) 1048576) _ _ (weaker (length (begun op s).source.left) _ _ (begun_left op s) (operands_leave op line (written_forms op) [] (begun op s))) tt

-- a part of a statement whose other tokens have been taken
stored_leaves : (line n : ℕ) (bytes : List ℕ) (s : State) → Leaves (length s.source.left) (stored line n bytes s)
stored_leaves line n bytes s = cond_leaves _ (fits s.part n) _ _ (omega arith) tt

stored_after : (line n : ℕ) (bytes : List ℕ) (s : State) → Leaves (length s.source.left) (stored line n bytes (behind s))
stored_after line n bytes s = weaker (length (behind s).source.left) _ _ (tail_less s.source.left) (stored_leaves line n bytes (behind s))

opened_leaves : (s : State) (t : Token) → Leaves (length s.source.left) (opened (behind s) t)
opened_leaves s t = cond_leaves _ (nat_le t.value 16777216) _ _ (tail_less s.source.left) tt

data_leaves : (s : State) (line : ℕ) → Leaves (length s.source.left) (data_section s line)
data_leaves s line = cond_leaves _ (is_some s.part.size) _ _ tt (bind_leaves _ (number_wanted line s) _ (opened_leaves s))

aligned_leaves : (s : State) (t : Token) → Leaves (length s.source.left) (aligned (behind s) t)
aligned_leaves s t = cond_leaves _ (is_data_alignment t.value) _ _ (stored_after t.line _ _ s) tt

item_leaves : (size : ItemSize) (t : Token) (s : State) → Leaves (length s.source.left) (item size t s)
item_leaves size t s = stored_leaves t.line _ _ s

more_leave : (size : ItemSize) (left : List Token) (s : State) → Leaves (length s.source.left) (more_values size left s)
unfolding more_values
more_leave size [] s = omega arith
more_leave size (t ∷ more) s =
    let most = length s.source.left in
    let less = tail_less s.source.left in
    cond_leaves most (is_value size t.kind) _ _
    (step_leaves most most (item size t (behind s)) _ (weaker (length (behind s).source.left) most _ less (item_leaves size t (behind s))) (λ u h. weaker (length u.source.left) most _ h (more_leave size more u)))
    (omega arith)

values_leave : (size : ItemSize) (s : State) (line : ℕ) → Leaves (length s.source.left) (values size s line)
values_leave size s line =
    let most = length s.source.left in
    let less = tail_less s.source.left in
    bind_leaves most (wanted line s) _ (λ t.
    step_leaves most most (first_value size (behind s) t) _ (cond_leaves most (is_value size t.kind) _ _ (weaker (length (behind s).source.left) most _ less (item_leaves size t (behind s))) tt) (λ u h.
    weaker (length u.source.left) most _ h (more_leave size u.source.left u)))

twice_leaves : (list : Option LabelledNodes) (s : State) (line : ℕ) → Leaves (length s.source.left) (or_twice list s line)
twice_leaves None s line = tt
twice_leaves (Some list) s line = omega arith

named_leaves : (s : State) (t : Token) → Leaves (length s.source.left) (named (behind s) t)
named_leaves s t = cond_leaves _ (is_word_kind t.kind) _ _ (tail_less s.source.left) tt

after_if_left : (test : TokenKind → Bool) (left : List Token) (s : State) → length (after_if test left s).source.left ≤ length s.source.left
after_if_left test [] s = omega arith
after_if_left test (t ∷ more) s = by (test t.kind)
  where
    by : (b : Bool) → length (cond b (behind s) s).source.left ≤ length s.source.left
    by true = tail_less s.source.left
    by false = omega arith

note_left : (s : State) → length (note s).source.left ≤ length s.source.left
note_left s =
    let first = after_if_left is_string s.source.left s in
    let second = after_if_left is_digits (skip_if is_string s).source.left (skip_if is_string s) in
    omega (arith, first, second)

statement_leaves : (r : Result Statement RefusalKind) (s : State) (t : Token) → Leaves (length s.source.left) (statement_by r s t)
statement_leaves (Ok statement.Data) s t = data_leaves s t.line
statement_leaves (Ok statement.Code) s t = omega arith
statement_leaves (Ok statement.Label) s t = twice_leaves _ s t.line
statement_leaves (Ok statement.Name) s t = bind_leaves _ (wanted t.line s) _ (named_leaves s)
statement_leaves (Ok statement.Note) s t = note_left s
statement_leaves (Ok (statement.Values size)) s t = values_leave size s t.line
statement_leaves (Ok statement.Skip) s t = bind_leaves _ (number_wanted t.line s) _ (λ n. stored_after n.line n.value _ s)
statement_leaves (Ok statement.AlignData) s t = bind_leaves _ (number_wanted t.line s) _ (aligned_leaves s)
statement_leaves (Ok (statement.Instruction op)) s t = instruction_leaves op s t.line
statement_leaves (Err kind) s t = tt

ok_leaves : (n : ℕ) (r : Result State Refusal) (u : State) → r ≡ Ok u → Leaves n r → length u.source.left ≤ n
ok_leaves n (Ok v) u e leaves = let same : v ≡ u = cc in subst (λ (w : State). length w.source.left ≤ n) same leaves
ok_leaves n (Err x) u e leaves = cc

-- a statement that is read leaves no more tokens than stood after its first
pub statement_less : (s new : State) (t : Token) → statement_from s t ≡ Ok new → length new.source.left ≤ length s.source.left
statement_less s new t e = ok_leaves _ (statement_from s t) new e (statement_leaves _ s t)
