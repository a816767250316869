-- A statement takes the first of the tokens that are left, and leaves the others and the fault after them as they are.
use Rattle.std.proofs.Common.{◌≡◌, ℕ, Bool, true, false, cond, List, [], ◌∷◌, ◌++◌, length, Option, Some, None, Result, Ok, Err, IfOk, is_some, nat_lt, nat_le, refl, sym, ap, ◌∙◌, subst}
use Rattle.std.proofs.lemmas.List.{append_assoc}
use Rattle.lg_base.specs.declared.refusal.Refusal.{Refusal}
use Rattle.lg_base.specs.declared.refusal.RefusalKind.{RefusalKind}
use Rattle.lg_lex.specs.declared.token.Token.{Token}
use Rattle.lg_lex.specs.declared.token.TokenKind.{TokenKind}
use Rattle.lg_lex.specs.declared.token.TokenKind.TheVariants.{Word, Directive, LabelMark, Register, Number, Character, Expression, Name, Host, Str}
use Rattle.lg_op.specs.declared.form.Form.{Form}
use Rattle.lg_op.specs.declared.op.Op.{Op}
use Rattle.lg_op.specs.declared.op.Op.TheVariants.{Binary, Wide, Branch, BranchSum, Control, Unary, Plain, Load, Store, Retval, Getarg}
use Rattle.lg_op.specs.declared.op.PlainOp.TheVariants as plain
use Rattle.lg_op.specs.declared.operand.Operand.{Operand}
use Rattle.lg_node.specs.Nodes.{LabelledNodes}
use Rattle.lg_tst.specs.DataParts.{fits}
use Rattle.lg_tst.specs.Statements.{is_value}
use Rattle.lg_base.specs.Refusals.{◌>>=◌}
use Rattle.lg_tst.specs.Streams.{Stream, tail_of, passed}
use Rattle.lg_tst.specs.Units.{State, token_text, behind, wanted, operand_of, noted_by, noted, operands, written_forms, begun, instruction, number_wanted, opened, data_section, stored, is_data_alignment, aligned, item, more_values, first_value, values, or_twice, is_word_kind, named, is_string, is_digits, after_if, skip_if, note, statement_by, statement_from}
use Rattle.lg_tst.specs.declared.statement.ItemSize.{ItemSize}
use Rattle.lg_tst.specs.declared.statement.Statement.{Statement}
use Rattle.lg_tst.specs.declared.statement.Statement.TheVariants as statement

-- after tokens that were taken
pub record IsLater (s u : Stream) : Type 0 where
  pub taken : List Token
  pub left : s.left ≡ taken ++ u.left
  pub fault : u.fault ≡ s.fault

same : (s : Stream) → IsLater s s
same s = record { taken = []; left = refl; fault = refl }

later_then : (s t u : Stream) → IsLater s t → IsLater t u → IsLater s u
later_then s t u a b = record {
  taken = a.taken ++ b.taken;
  left = a.left ∙ ap (λ ts. a.taken ++ ts) b.left ∙ sym (append_assoc a.taken b.taken u.left);
  fault = b.fault ∙ a.fault;
}

tail_taken : (ts : List Token) → (taken : List Token) × (ts ≡ taken ++ tail_of ts)
tail_taken [] = ([], refl)
tail_taken (t ∷ ts) = (t ∷ [], refl)

tail : (s : Stream) → IsLater s (passed s)
tail s = record { taken = (tail_taken s.left).0; left = (tail_taken s.left).1; fault = refl }

-- what is read leads after tokens that were taken
abbrev Leads : Stream → Result State Refusal → Type 0
Leads s read = IfOk read (λ u. IsLater s u.source)

bind_leads : {A : Type 0} (s : Stream) (r : Result A Refusal) (f : A → Result State Refusal) → ((x : A) → Leads s (f x)) → Leads s (r >>= f)
bind_leads s (Ok x) f each = each x
bind_leads s (Err e) f each = tt

step_leads : (s : Stream) (r : Result State Refusal) (f : State → Result State Refusal) → Leads s r → ((u : State) → IsLater s u.source → Leads s (f u)) → Leads s (r >>= f)
step_leads s (Ok u) f first each = each u first
step_leads s (Err e) f first each = tt

cond_leads : (s : Stream) (b : Bool) (x y : Result State Refusal) → Leads s x → Leads s y → Leads s (cond b x y)
cond_leads s true x y first second = first
cond_leads s false x y first second = second

further : (s t : Stream) (r : Result State Refusal) → IsLater s t → Leads t r → Leads s r
further s t (Ok u) h leads = later_then s t u.source h leads
further s t (Err e) h leads = tt

after_leads : (s : State) (r : Result State Refusal) → Leads (behind s).source r → Leads s.source r
after_leads s r leads = further s.source (passed s.source) r (tail s.source) leads

noted_later : (k : TokenKind) (s : State) (form : Form) (done : List Operand) (text : List ℕ) → IsLater s.source (noted_by k s form done text).source
noted_later Word s form done text = same s.source
noted_later other s form done text = same s.source

operands_lead : (op : Op) (line : ℕ) (fs : List Form) (done : List Operand) (s : State) → Leads s.source (operands op line fs done s)
unfolding operands
operands_lead op line [] done s = same s.source
operands_lead op line (f ∷ fs) done s =
    bind_leads s.source (wanted line s) _ (λ t. bind_leads s.source (operand_of (behind s) op f done t) _ (λ x.
    let new = noted (behind s) f done t in
    after_leads s _
    (further (behind s).source new.source _ (noted_later t.kind (behind s) f done (token_text (behind s) t)) (operands_lead op line fs (done ++ x ∷ []) new))))

begun_later : (op : Op) (s : State) → IsLater s.source (begun op s).source
begun_later (Plain plain.Prolog) s = same s.source
begun_later other s = same s.source

instruction_leads : (op : Op) (s : State) (line : ℕ) → Leads s.source (instruction op s line)
instruction_leads op s line =
    cond_leads s.source (nat_lt (length s.list.nodes) 1048576) _ _
    (further s.source (begun op s).source _ (begun_later op s) (operands_lead op line (written_forms op) [] (begun op s)))
    tt

-- a part of a statement whose other tokens have been taken
stored_leads : (line n : ℕ) (bytes : List ℕ) (s : State) → Leads s.source (stored line n bytes s)
stored_leads line n bytes s = cond_leads s.source (fits s.part n) _ _ (same s.source) tt

stored_after : (line n : ℕ) (bytes : List ℕ) (s : State) → Leads s.source (stored line n bytes (behind s))
stored_after line n bytes s = after_leads s _ (stored_leads line n bytes (behind s))

opened_leads : (s : State) (t : Token) → Leads s.source (opened (behind s) t)
opened_leads s t = cond_leads s.source (nat_le t.value 16777216) _ _ (tail s.source) tt

data_leads : (s : State) (line : ℕ) → Leads s.source (data_section s line)
data_leads s line = cond_leads s.source (is_some s.part.size) _ _ tt (bind_leads s.source (number_wanted line s) _ (opened_leads s))

aligned_leads : (s : State) (t : Token) → Leads s.source (aligned (behind s) t)
aligned_leads s t = cond_leads s.source (is_data_alignment t.value) _ _ (stored_after t.line _ _ s) tt

item_leads : (size : ItemSize) (t : Token) (s : State) → Leads s.source (item size t s)
item_leads size t s = stored_leads t.line _ _ s

more_lead : (size : ItemSize) (left : List Token) (s : State) → Leads s.source (more_values size left s)
unfolding more_values
more_lead size [] s = same s.source
more_lead size (t ∷ more) s =
    cond_leads s.source (is_value size t.kind) _ _
    (step_leads s.source (item size t (behind s)) _ (after_leads s _ (item_leads size t (behind s))) (λ u h. further s.source u.source _ h (more_lead size more u)))
    (same s.source)

values_lead : (size : ItemSize) (s : State) (line : ℕ) → Leads s.source (values size s line)
values_lead size s line =
    bind_leads s.source (wanted line s) _ (λ t.
    step_leads s.source (first_value size (behind s) t) _
    (cond_leads s.source (is_value size t.kind) _ _ (after_leads s _ (item_leads size t (behind s))) tt)
    (λ u h. further s.source u.source _ h (more_lead size u.source.left u)))

twice_leads : (list : Option LabelledNodes) (s : State) (line : ℕ) → Leads s.source (or_twice list s line)
twice_leads None s line = tt
twice_leads (Some list) s line = same s.source

named_leads : (s : State) (t : Token) → Leads s.source (named (behind s) t)
named_leads s t = cond_leads s.source (is_word_kind t.kind) _ _ (tail s.source) tt

after_if_later : (test : TokenKind → Bool) (left : List Token) (s : State) → IsLater s.source (after_if test left s).source
after_if_later test [] s = same s.source
after_if_later test (t ∷ more) s = by (test t.kind)
  where
    by : (b : Bool) → IsLater s.source (cond b (behind s) s).source
    by true = tail s.source
    by false = same s.source

note_later : (s : State) → IsLater s.source (note s).source
note_later s =
    let second = skip_if is_string s in
    later_then s.source second.source (note s).source (after_if_later is_string s.source.left s) (after_if_later is_digits second.source.left second)

statement_leads : (r : Result Statement RefusalKind) (s : State) (t : Token) → Leads s.source (statement_by r s t)
statement_leads (Ok statement.Data) s t = data_leads s t.line
statement_leads (Ok statement.Code) s t = same s.source
statement_leads (Ok statement.Label) s t = twice_leads _ s t.line
statement_leads (Ok statement.Name) s t = bind_leads s.source (wanted t.line s) _ (named_leads s)
statement_leads (Ok statement.Note) s t = note_later s
statement_leads (Ok (statement.Values size)) s t = values_lead size s t.line
statement_leads (Ok statement.Skip) s t = bind_leads s.source (number_wanted t.line s) _ (λ n. stored_after n.line n.value _ s)
statement_leads (Ok statement.AlignData) s t = bind_leads s.source (number_wanted t.line s) _ (aligned_leads s)
statement_leads (Ok (statement.Instruction op)) s t = instruction_leads op s t.line
statement_leads (Err kind) s t = tt

ok_leads : (s : Stream) (r : Result State Refusal) (u : State) → r ≡ Ok u → Leads s r → IsLater s u.source
ok_leads s r u e leads = subst (Leads s) e leads

-- a statement that is read leads after tokens that stood after its first
pub statement_later : (s new : State) (t : Token) → statement_from s t ≡ Ok new → IsLater s.source new.source
statement_later s new t e = ok_leads s.source (statement_from s t) new e (statement_leads _ s t)
