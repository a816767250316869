-- Where the reading of a text stops for a word that is made twice, statement by statement: at the first token that makes a word again.
use Rattle.std.proofs.Common.{◌≡◌, ◌⊎◌, inl, inr, ℕ, zero, suc, Bool, true, false, not, ◌||◌, ◌&&◌, List, [], ◌∷◌, ◌++◌, length, drop, Option, Some, None, Ok, Err, codes, is_some, refl, sym, ap, ◌∙◌, subst}
use Rattle.std.specs.Prelude.{Result, if◌then◌else◌, nat_le, nat_lt, slice_get}
use Rattle.std.specs.Str.{bytes_eq}
use Rattle.std.proofs.lemmas.Slice.Eq.{bytes_eq-Decides}
use Rattle.lg_base.specs.HostNames.{host_by_name}
use Rattle.lg_base.specs.Refusals.{◌>>=◌, refuse}
use Rattle.lg_base.specs.declared.refusal.Refusal.{Refusal}
use Rattle.lg_base.specs.declared.refusal.RefusalKind.{RefusalKind}
use Rattle.lg_base.specs.declared.refusal.RefusalKind.TheVariants.{BadOperand, DataFull, FloatRefused, LabelTwice, TooManyNodes, UnknownName}
use Rattle.lg_lex.specs.declared.token.Token.{Token}
use Rattle.lg_lex.specs.declared.token.TokenKind.{TokenKind}
use Rattle.lg_lex.specs.declared.token.TokenKind.TheVariants.{Word, Directive, LabelMark, Register, Number, Character, Expression, Name, Host}
use Rattle.lg_node.specs.Functions.{is_prolog}
use Rattle.lg_node.specs.Nodes.{mentioned, number_of, with_place}
use Rattle.lg_node.specs.declared.place.Place.{Place}
use Rattle.lg_op.specs.declared.form.Form.{Form}
use Rattle.lg_op.specs.declared.form.Form.TheVariants.{Immediate, NewArgument, Argument, NewLocal, Alignment}
use Rattle.lg_op.specs.declared.op.Op.{Op}
use Rattle.lg_op.specs.declared.op.Op.TheVariants.{Plain}
use Rattle.lg_op.specs.declared.op.PlainOp.TheVariants as plain
use Rattle.lg_op.specs.declared.operand.Operand.{Operand}
use Rattle.lg_op.specs.declared.operand.Operand.TheVariants as operand
use Rattle.lg_operand.specs.Operands.{admitted, host_operand, local_size, misfit, register_operand, stays_apart}
use Rattle.lg_operand.specs.Registers.{is_float_register}
use Rattle.lg_tst.specs.DataParts.{DataBytes, fits, with_bytes, zeros}
use Rattle.lg_tst.specs.Names.{FunctionNames, no_names, meaning_of}
use Rattle.lg_tst.specs.Names as names_spec
use Rattle.lg_tst.specs.Operands.{apart_or, name_operand, new_name, operand_at}
use Rattle.lg_tst.specs.Statements.{directive_statement, instruction_or, is_number, is_value, statement_of, word_in}
use Rattle.lg_tst.specs.Streams.{next_of, tail_of, text_of, wanted_of, without_last}
use Rattle.lg_tst.specs.Units.{State, after_if, align_data, aligned, at_line, begun, behind, data_section, first_value, instruction, is_data_alignment, is_digits, is_string, is_unbound, is_word_kind, item, label, more_values, most_data, most_nodes, name_word, named, note, noted, noted_by, number_at, number_wanted, operands, opened, or_twice, padding, place_in, skip, skip_if, statement_by, statement_from, statements, stored, text_from, token_text, value_bytes, values, written_forms}
use Rattle.lg_tst.specs.Words.{directive_of, is_float_word, op_of}
use Rattle.lg_tst.specs.declared.statement.ItemSize.{ItemSize}
use Rattle.lg_tst.specs.declared.statement.ItemSize.TheVariants.{One, Two, Four, Eight}
use Rattle.lg_tst.specs.declared.statement.Section.{Section}
use Rattle.lg_tst.specs.declared.statement.Section.TheVariants as section
use Rattle.lg_tst.specs.declared.statement.Statement.TheVariants as statement
use Rattle.lg_tst.specs.declared.words.Directive.{Directive as DirectiveName}
use Rattle.lg_tst.specs.declared.words.Directive.TheVariants as directive
use Rattle.lg_explain.specs.Twice.{again, begins, forms_after, forms_by, forms_of_word, is_made, is_name, labels_after, made_again, makes_name, names_after, with_word}
use Rattle.lg_explain.proofs.BoundLemmas.{is_bound, mention, placed_even, placed_is, unbound_is}
use Rattle.lg_explain.proofs.FormsTakenLemmas.{begun_is, begun_same, noted_same}
use Rattle.lg_explain.proofs.ReadingTokenLemmas.{IsMild, IsOther, NoTwice, admitted_mild, argument_mild, bad_operand, data_full, digits_quiet, float_refused, host_mild, is_name_made, is_quiet, local_mild, made_none, made_some, made_with, misfit_other, number_quiet, quiet_passed, register_mild, string_quiet, too_many, unknown_name, value_quiet, with_new}

module _ (text : List ℕ) where
  -- ---- where the first word is made again, by the tokens that are left: in this line
  abbrev pub Stops : List Token → (labels names : List (List ℕ)) → List Form → ℕ → Type 0
  Stops [] labels names forms line = ⊥
  Stops (t ∷ more) labels names forms line =
      ((word : List ℕ) × (again forms t.kind (text_of text t) labels names ≡ Some word) × (t.line ≡ line))
      ⊎ ((again forms t.kind (text_of text t) labels names ≡ None)
      × Stops more (labels_after forms t.kind (text_of text t) labels) (names_after forms t.kind (text_of text t) names) (forms_after forms t.kind (text_of text t)) line)

  -- what a state of the reading has made: the labels that are bound, and the names of the function
  pub record HasMade (s : State) (labels names : List (List ℕ)) : Type 0 where
    pub of : s.source.text ≡ text
    pub faultless : NoTwice s.source.fault
    pub even : length s.list.places ≡ length s.list.words
    pub bound : (word : List ℕ) → is_bound s.list.words s.list.places word ≡ is_made labels word
    pub named : s.names.words ≡ names

  -- a part of a statement is read from tokens on: to a state from which the rest is read, or it stops there
  abbrev Follows : Result State Refusal → List Token → (labels names : List (List ℕ)) → List Form → Type 0
  Follows (Ok u) left labels names forms =
      (ls : List (List ℕ)) × (ns : List (List ℕ)) × HasMade u ls ns × ((line : ℕ) → Stops u.source.left ls ns [] line → Stops left labels names forms line)
  Follows (Err refusal) left labels names forms = refusal.kind ≡ LabelTwice → Stops left labels names forms refusal.line

  -- nothing is read
  stays : (s : State) (labels names : List (List ℕ)) → HasMade s labels names → Follows (Ok s) s.source.left labels names []
  stays s labels names h = (labels, names, h, λ line f. f)

  refused : (kind : RefusalKind) (line : ℕ) (left : List Token) (labels names : List (List ℕ)) (forms : List Form) → IsOther kind
      → Follows (Err (record { kind = kind; line = line })) left labels names forms
  refused kind line left labels names forms other e = absurd (other e)

  then_on : (r : Result State Refusal) (f : State → Result State Refusal) (left : List Token) (labels names : List (List ℕ)) (forms : List Form) → Follows r left labels names forms
      → ((u : State) (ls ns : List (List ℕ)) → HasMade u ls ns → Follows (f u) u.source.left ls ns []) → Follows (r >>= f) left labels names forms
  then_on (Err refusal) f left labels names forms h each = h
  then_on (Ok u) f left labels names forms h each = by (f u) (each u h.0 h.1 h.2)
    where
      by : (r : Result State Refusal) → Follows r u.source.left h.0 h.1 [] → Follows r left labels names forms
      by (Ok v) g = (g.0, g.1, g.2, λ line s. h.3 line (g.3 line s))
      by (Err refusal) g = λ e. h.3 refusal.line (g e)

  -- ---- a token, with its kind and its bytes
  abbrev IsToken : Token → TokenKind → List ℕ → Type 0
  IsToken t kind word = (t.kind ≡ kind) × (word ≡ text_of text t)

  -- that makes nothing again
  on : (r : Result State Refusal) (t : Token) (more : List Token) (labels names : List (List ℕ)) (forms : List Form) (kind : TokenKind) (word : List ℕ) → IsToken t kind word
      → again forms kind word labels names ≡ None → Follows r more (labels_after forms kind word labels) (names_after forms kind word names) (forms_after forms kind word)
      → Follows r (t ∷ more) labels names forms
  on r t more labels names forms kind word is =
      subst (λ (x : TokenKind × List ℕ). again forms x.0 x.1 labels names ≡ None
      → Follows r more (labels_after forms x.0 x.1 labels) (names_after forms x.0 x.1 names) (forms_after forms x.0 x.1) → Follows r (t ∷ more) labels names forms)
      (λ i. (is.0 i, sym is.1 i)) (by r)
    where
      by : (r : Result State Refusal) → again forms t.kind (text_of text t) labels names ≡ None
          → Follows r more (labels_after forms t.kind (text_of text t) labels) (names_after forms t.kind (text_of text t) names) (forms_after forms t.kind (text_of text t))
          → Follows r (t ∷ more) labels names forms
      by (Ok u) none h = (h.0, h.1, h.2, λ line f. inr (none, h.3 line f))
      by (Err refusal) none h = λ e. inr (none, h e)

  -- that makes a word again
  stops_here : (t : Token) (more : List Token) (labels names : List (List ℕ)) (forms : List Form) (kind : TokenKind) (word made : List ℕ) → IsToken t kind word
      → again forms kind word labels names ≡ Some made → Stops (t ∷ more) labels names forms t.line
  stops_here t more labels names forms kind word made is e =
      inl (made, (λ i. again forms (is.0 i) (sym is.1 i) labels names) ∙ e, refl)

  -- that makes nothing and begins nothing
  passed : (r : Result State Refusal) (t : Token) (more : List Token) (labels names : List (List ℕ)) → is_quiet t.kind ≡ true → Follows r more labels names []
      → Follows r (t ∷ more) labels names []
  passed r t more labels names quiet h =
      let p = quiet_passed t.kind (text_of text t) labels names quiet in
      on r t more labels names [] t.kind (text_of text t) (refl, refl) p.0
      (subst (λ (x : List (List ℕ) × List (List ℕ) × List Form). Follows r more x.0 x.1 x.2) (λ i. (sym p.1 i, sym p.2 i, sym p.3 i)) h)

  -- that is requested
  on_wanted : (line : ℕ) (left : List Token) (fault : Option Refusal) (f : Token → Result State Refusal) (labels names : List (List ℕ)) (forms : List Form) → NoTwice fault
      → ((t : Token) → Follows (f t) (t ∷ tail_of left) labels names forms) → Follows (wanted_of line left fault >>= f) left labels names forms
  on_wanted line [] None f labels names forms none each = refused BadOperand line [] labels names forms bad_operand
  on_wanted line [] (Some refusal) f labels names forms none each = λ e. absurd (none e)
  on_wanted line (t ∷ more) fault f labels names forms none each = each t

  -- the tokens that are left and the section change nothing that is made
  tail_made : (s : State) (labels names : List (List ℕ)) → HasMade s labels names → HasMade (behind s) labels names
  tail_made s labels names h = record { of = h.of; faultless = h.faultless; even = h.even; bound = h.bound; named = h.named }

  token_is : (s : State) (t : Token) (kind : TokenKind) (labels names : List (List ℕ)) → HasMade s labels names → t.kind ≡ kind → IsToken t kind (token_text s t)
  token_is s t kind labels names h e = (e, ap (λ x. text_of x t) h.of)

  -- ---- operands
  module _ (op : Op) (form : Form) (forms : List Form) (done : List Operand) (s : State) (labels names : List (List ℕ)) (h : HasMade s labels names) where
    -- an operand, by the token that it is: it makes nothing again, or is refused for what it makes
    abbrev Verdict : Result Operand RefusalKind → TokenKind → List ℕ → Type 0
    Verdict (Ok x) kind word =
        (again (form ∷ forms) kind word labels names ≡ None) × HasMade (noted_by kind s form done word) labels (names_after (form ∷ forms) kind word names)
    Verdict (Err reason) kind word = reason ≡ LabelTwice → (made : List ℕ) × (again (form ∷ forms) kind word labels names ≡ Some made)

    abbrev Plain_ : TokenKind → List ℕ → Type 0
    Plain_ kind word = (again (form ∷ forms) kind word labels names ≡ None) × HasMade (noted_by kind s form done word) labels (names_after (form ∷ forms) kind word names)

    apart : (kind : TokenKind) (word : List ℕ) (x : Operand) → Plain_ kind word → Verdict (apart_or op done (Ok x)) kind word
    apart kind word x good = by (stays_apart op done x)
      where
        by : (b : Bool) → Verdict (if b then Ok x else Err BadOperand) kind word
        by true = good
        by false = λ e. absurd (bad_operand e)

    plainly : (kind : TokenKind) (word : List ℕ) (r : Result Operand RefusalKind) → IsMild r → Plain_ kind word → Verdict (apart_or op done r) kind word
    plainly kind word (Err reason) mild good = λ e. absurd (mild e)
    plainly kind word (Ok x) mild good = apart kind word x good

    -- a token that is no name makes none
    unnamed : (kind : TokenKind) (word : List ℕ) (b c : Bool) → c ≡ false → HasMade (noted_by kind s form done word) labels names
        → ((if b && c then made_again names (drop 1 word) else None) ≡ None)
        × HasMade (noted_by kind s form done word) labels (if b && c then with_word names (drop 1 word) else names)
    unnamed kind word true c e good = subst (λ x. ((if x then made_again names (drop 1 word) else None) ≡ None) × HasMade (noted_by kind s form done word) labels (if x then with_word names (drop 1 word) else names)) (sym e) (refl, good)
    unnamed kind word false c e good = (refl, good)

    as_it_is : HasMade s labels names
    as_it_is = h

    mentions : (word : List ℕ) → HasMade (record s { list = mentioned s.list word }) labels names
    mentions word =
        let m = mention s.list word h.even in
        record { of = h.of; faultless = h.faultless; even = m.even; bound = λ other. m.same other ∙ h.bound other; named = h.named }

    -- a name that the place makes, where the place makes one
    new_name_made : (word : List ℕ) (new : FunctionNames) → new.words ≡ s.names.words ++ word ∷ [] → is_made names word ≡ false
        → (made_again names word ≡ None) × HasMade (record s { names = new }) labels (with_word names word)
    new_name_made word new e none = (
      made_none names word none,
      record {
        of = h.of;
        faultless = h.faultless;
        even = h.even;
        bound = h.bound;
        named = e ∙ (ap (λ ws. ws ++ word ∷ []) h.named ∙ sym (with_new names word none));
      },
    )

    -- names that stay
    as_before : HasMade (record s { names = s.names }) labels names
    as_before = record { of = h.of; faultless = h.faultless; even = h.even; bound = h.bound; named = h.named }

    is_new : (word : List ℕ) (made : Bool) → names_spec.is_made s.names word ≡ made → is_made names word ≡ made
    is_new word made e = sym (is_name_made s.names names word h.named) ∙ e

  -- a name, by the form of its place
  module _ (op : Op) (forms : List Form) (done : List Operand) (s : State) (labels names : List (List ℕ)) (h : HasMade s labels names) (word : List ℕ) where
    abbrev NameVerdict : Form → Result Operand RefusalKind → Type 0
    NameVerdict form r = Verdict op form forms done s labels names h (apart_or op done r) Name word

    new_argument : (made : Bool) → names_spec.is_made s.names (drop 1 word) ≡ made → NameVerdict NewArgument (new_name made s.names.arguments)
    new_argument true e = λ twice. (drop 1 word, made_some names (drop 1 word) (is_new op NewArgument forms done s labels names h (drop 1 word) true e))
    new_argument false e = apart op NewArgument forms done s labels names h Name word (operand.Slot s.names.arguments)
        (new_name_made op NewArgument forms done s labels names h (drop 1 word) (names_spec.with_argument s.names (drop 1 word)) refl (is_new op NewArgument forms done s labels names h (drop 1 word) false e))

    new_local : (made : Bool) → names_spec.is_made s.names (drop 1 word) ≡ made → NameVerdict NewLocal (new_name made s.names.locals)
    new_local true e = λ twice. (drop 1 word, made_some names (drop 1 word) (is_new op NewLocal forms done s labels names h (drop 1 word) true e))
    new_local false e = apart op NewLocal forms done s labels names h Name word (operand.Slot s.names.locals)
        (new_name_made op NewLocal forms done s labels names h (drop 1 word) (names_spec.with_local s.names (drop 1 word) (local_size done)) refl (is_new op NewLocal forms done s labels names h (drop 1 word) false e))

    name_verdict : (form : Form) → NameVerdict form (name_operand form s.names (drop 1 word))
    name_verdict NewArgument = new_argument (names_spec.is_made s.names (drop 1 word)) refl
    name_verdict NewLocal = new_local (names_spec.is_made s.names (drop 1 word)) refl
    name_verdict Argument = plainly op Argument forms done s labels names h Name word _ (argument_mild (meaning_of s.names (drop 1 word))) (refl, as_before op Argument forms done s labels names h)
    name_verdict Immediate = plainly op Immediate forms done s labels names h Name word _ (local_mild (meaning_of s.names (drop 1 word))) (refl, as_before op Immediate forms done s labels names h)
    name_verdict _ = λ e. absurd (bad_operand e)

  -- any token
  module _ (op : Op) (form : Form) (forms : List Form) (done : List Operand) (s : State) (labels names : List (List ℕ)) (h : HasMade s labels names) where
    abbrev Given : TokenKind → List ℕ → ℕ → Type 0
    Given kind word value = Verdict op form forms done s labels names h (apart_or op done (operand_at s.list.words s.names form kind word value)) kind word

    no_name : (kind : TokenKind) (word : List ℕ) (r : Result Operand RefusalKind) → IsMild r → is_name kind ≡ false → HasMade (noted_by kind s form done word) labels names
        → Verdict op form forms done s labels names h (apart_or op done r) kind word
    no_name kind word r mild e good = plainly op form forms done s labels names h kind word r mild
        (unnamed op form forms done s labels names h kind word (makes_name form) (is_name kind) e good)

    verdict : (kind : TokenKind) (word : List ℕ) (value : ℕ) → Given kind word value
    verdict Register word value = no_name Register word _ (register_mild form word) refl h
    verdict Host word value = no_name Host word _ (host_mild form (host_by_name (drop 1 word))) refl h
    verdict Name word value = name_verdict op forms done s labels names h word form
    verdict Word word value = no_name Word word _ (admitted_mild form (operand.Label (record { 0 = number_of s.list.words word }))) refl (mentions op form forms done s labels names h word)
    verdict Number word value = no_name Number word _ (admitted_mild form (operand.Number value)) refl h
    verdict Character word value = no_name Character word _ (admitted_mild form (operand.Number value)) refl h
    verdict Expression word value = no_name Expression word _ (admitted_mild form (operand.Number value)) refl h
    verdict _ word value = λ e. absurd (bad_operand e)

    -- and then the rest of the instruction
    operand_then : (r : Result Operand RefusalKind) (kind : TokenKind) (word : List ℕ) (t : Token) (more : List Token) (f : Operand → Result State Refusal) → IsToken t kind word
        → Verdict op form forms done s labels names h r kind word
        → ((x : Operand) (ns : List (List ℕ)) → HasMade (noted_by kind s form done word) labels ns → Follows (f x) more labels ns forms)
        → Follows (at_line t.line r >>= f) (t ∷ more) labels names (form ∷ forms)
    operand_then (Ok x) kind word t more f is v each = on (f x) t more labels names (form ∷ forms) kind word is v.0 (each x (names_after (form ∷ forms) kind word names) v.1)
    operand_then (Err reason) kind word t more f is v each = λ e. let w = v e in stops_here t more labels names (form ∷ forms) kind word w.0 is w.1

  operands_follow : (op : Op) (line : ℕ) (forms : List Form) (done : List Operand) (s : State) (labels names : List (List ℕ)) → HasMade s labels names
      → Follows (operands op line forms done s) s.source.left labels names forms
  unfolding operands
  operands_follow op line [] done s labels names h =
      (labels, names, record { of = h.of; faultless = h.faultless; even = h.even; bound = h.bound; named = h.named }, λ line f. f)
  operands_follow op line (form ∷ forms) done s labels names h =
      on_wanted line s.source.left s.source.fault _ labels names (form ∷ forms) h.faultless (λ t.
      let new = noted (behind s) form done t in
      let tail = tail_made s labels names h in
      operand_then op form forms done (behind s) labels names tail _ t.kind (token_text (behind s) t) t (tail_of s.source.left) _ (token_is (behind s) t t.kind labels names tail refl)
      (verdict op form forms done (behind s) labels names tail t.kind (token_text (behind s) t) t.value)
      (λ x ns made. subst (λ z. Follows (operands op line forms (done ++ x ∷ []) new) z.left labels ns forms) (noted_same t.kind (behind s) form done (token_text (behind s) t))
      (operands_follow op line forms (done ++ x ∷ []) new labels ns made)))

  -- ---- instructions
  -- the names of a function end with the next `prolog`
  begun_made : (op : Op) (s : State) (labels names : List (List ℕ)) → HasMade s labels names → HasMade (begun op s) labels (if is_prolog op then [] else names)
  begun_made op s labels names h = subst (λ z. HasMade z labels (if is_prolog op then [] else names)) (sym (begun_is op s)) (by (is_prolog op))
    where
      by : (b : Bool) → HasMade (if b then record s { names = no_names } else s) labels (if b then [] else names)
      by true = record { of = h.of; faultless = h.faultless; even = h.even; bound = h.bound; named = refl }
      by false = h

  by_room : (op : Op) (s : State) (line : ℕ) (left : List Token) (labels names : List (List ℕ)) (forms : List Form)
      → Follows (operands op line (written_forms op) [] (begun op s)) left labels names forms → Follows (instruction op s line) left labels names forms
  by_room op s line left labels names forms h = by (nat_lt (length s.list.nodes) most_nodes)
    where
      by : (b : Bool) → Follows (if b then operands op line (written_forms op) [] (begun op s) else Err (record { kind = TooManyNodes; line = line })) left labels names forms
      by true = h
      by false = refused TooManyNodes line left labels names forms too_many

  instruction_follows : (op : Op) (s : State) (line : ℕ) (labels names : List (List ℕ)) → HasMade s labels names
      → Follows (instruction op s line) s.source.left labels (if is_prolog op then [] else names) (written_forms op)
  instruction_follows op s line labels names h =
      let ns : List (List ℕ) = if is_prolog op then [] else names in
      by_room op s line s.source.left labels ns (written_forms op)
      (subst (λ z. Follows (operands op line (written_forms op) [] (begun op s)) z.left labels ns (written_forms op)) (begun_same op s)
      (operands_follow op line (written_forms op) [] (begun op s) labels ns (begun_made op s labels names h)))

  -- `.align N` of code: its number begins nothing
  alignment : (s : State) (words : List (List ℕ)) (names' : FunctionNames) (kind : TokenKind) (word : List ℕ) (value line : ℕ) (f : Operand → Result State Refusal) (left : List Token) (labels names : List (List ℕ)) (t : Token) (more : List Token)
      → t.kind ≡ kind → ((x : Operand) → noted_by kind s Alignment [] word ≡ s → Follows (f x) more labels names [])
      → Follows (at_line line (apart_or (Plain plain.Align) [] (operand_at words names' Alignment kind word value)) >>= f) (t ∷ more) labels names []
  alignment s words names' kind word value line f left labels names t more is each = by kind is each
    where
      number : (r : Result Operand RefusalKind) → is_quiet t.kind ≡ true → ((x : Operand) → Follows (f x) more labels names []) → IsMild r
          → Follows (at_line line (apart_or (Plain plain.Align) [] r) >>= f) (t ∷ more) labels names []
      number (Ok x) quiet all mild = passed (f x) t more labels names quiet (all x)
      number (Err reason) quiet all mild = refused reason line (t ∷ more) labels names [] mild

      by : (k : TokenKind) → t.kind ≡ k → ((x : Operand) → noted_by k s Alignment [] word ≡ s → Follows (f x) more labels names [])
          → Follows (at_line line (apart_or (Plain plain.Align) [] (operand_at words names' Alignment k word value)) >>= f) (t ∷ more) labels names []
      by Number e all = number (admitted Alignment (operand.Number value)) (ap is_quiet e) (λ x. all x refl) (admitted_mild Alignment (operand.Number value))
      by Character e all = number (admitted Alignment (operand.Number value)) (ap is_quiet e) (λ x. all x refl) (admitted_mild Alignment (operand.Number value))
      by Expression e all = number (admitted Alignment (operand.Number value)) (ap is_quiet e) (λ x. all x refl) (admitted_mild Alignment (operand.Number value))
      by Register e all = number (register_operand Alignment word) (ap is_quiet e) (λ x. all x refl) (register_mild Alignment word)
      by Host e all = number (host_operand Alignment (host_by_name (drop 1 word))) (ap is_quiet e) (λ x. all x refl) (host_mild Alignment (host_by_name (drop 1 word)))
      by _ e all = refused BadOperand line (t ∷ more) labels names [] bad_operand

  align_follows : (s : State) (line : ℕ) (labels names : List (List ℕ)) → HasMade s labels names → Follows (instruction (Plain plain.Align) s line) s.source.left labels names []
  unfolding operands
  align_follows s line labels names h = by_room (Plain plain.Align) s line s.source.left labels names []
      (on_wanted line s.source.left s.source.fault _ labels names [] h.faultless (λ t.
      alignment (behind s) s.list.words s.names t.kind (token_text (behind s) t) t.value t.line _ (tail_of s.source.left) labels names t (tail_of s.source.left) refl
      (λ x same.
      let z = noted (behind s) Alignment [] t in
      subst (λ w. Follows (operands (Plain plain.Align) line [] (x ∷ []) z) w.left labels names []) (noted_same t.kind (behind s) Alignment [] (token_text (behind s) t))
      (operands_follow (Plain plain.Align) line [] (x ∷ []) z labels names (subst (λ w. HasMade w labels names) (sym same) (tail_made s labels names h))))))

  -- ---- data
  with_data : (s : State) (labels names : List (List ℕ)) (part : DataBytes) (here : Section) → HasMade s labels names → HasMade (record s { section = here; part = part }) labels names
  with_data s labels names part here h = record { of = h.of; faultless = h.faultless; even = h.even; bound = h.bound; named = h.named }

  stored_follows : (line n : ℕ) (bytes : List ℕ) (s : State) (labels names : List (List ℕ)) → HasMade s labels names → Follows (stored line n bytes s) s.source.left labels names []
  stored_follows line n bytes s labels names h = by (fits s.part n)
    where
      by : (b : Bool) → Follows (if b then Ok (record s { part = with_bytes s.part bytes }) else Err (record { kind = DataFull; line = line })) s.source.left labels names []
      by true = (labels, names, with_data s labels names (with_bytes s.part bytes) s.section h, λ l f. f)
      by false = refused DataFull line s.source.left labels names [] data_full

  number_follows : (line : ℕ) (s : State) (f : Token → Result State Refusal) (labels names : List (List ℕ)) → HasMade s labels names
      → ((t : Token) → Follows (f t) (tail_of s.source.left) labels names []) → Follows (number_wanted line s >>= f) s.source.left labels names []
  number_follows line s f labels names h each = by s.source.left s.source.fault h.faultless each
    where
      here : (t : Token) (more : List Token) (b : Bool) → is_number t.kind ≡ b → Follows (f t) more labels names []
          → Follows ((if b then Ok t else Err (record { kind = misfit t.kind (token_text (behind s) t); line = t.line })) >>= f) (t ∷ more) labels names []
      here t more true e g = passed (f t) t more labels names (number_quiet t.kind e) g
      here t more false e g = refused (misfit t.kind (token_text (behind s) t)) t.line (t ∷ more) labels names [] (misfit_other t.kind (token_text (behind s) t))

      by : (left : List Token) (fault : Option Refusal) → NoTwice fault → ((t : Token) → Follows (f t) (tail_of left) labels names [])
          → Follows (wanted_of line left fault >>= (λ t. number_at (behind s) t) >>= f) left labels names []
      by [] None none all = refused BadOperand line [] labels names [] bad_operand
      by [] (Some refusal) none all = λ e. absurd (none e)
      by (t ∷ more) fault none all = here t more (is_number t.kind) refl (all t)

  opened_follows : (s : State) (t : Token) (labels names : List (List ℕ)) → HasMade s labels names → Follows (opened s t) s.source.left labels names []
  opened_follows s t labels names h = by (nat_le t.value most_data)
    where
      by : (b : Bool) → Follows (if b then Ok (record s { section = section.Data; part = record s.part { size = Some t.value } }) else Err (record { kind = BadOperand; line = t.line })) s.source.left labels names []
      by true = (labels, names, with_data s labels names (record s.part { size = Some t.value }) section.Data h, λ l f. f)
      by false = refused BadOperand t.line s.source.left labels names [] bad_operand

  data_follows : (s : State) (line : ℕ) (labels names : List (List ℕ)) → HasMade s labels names → Follows (data_section s line) s.source.left labels names []
  data_follows s line labels names h = by (is_some s.part.size)
    where
      by : (b : Bool) → Follows (if b then Err (record { kind = UnknownName; line = line }) else (number_wanted line s >>= λ t. opened (behind s) t)) s.source.left labels names []
      by true = refused UnknownName line s.source.left labels names [] unknown_name
      by false = number_follows line s _ labels names h (λ t. opened_follows (behind s) t labels names (tail_made s labels names h))

  skip_follows : (s : State) (line : ℕ) (labels names : List (List ℕ)) → HasMade s labels names → Follows (skip s line) s.source.left labels names []
  skip_follows s line labels names h = number_follows line s _ labels names h (λ t. stored_follows t.line t.value (zeros t.value) (behind s) labels names (tail_made s labels names h))

  aligned_follows : (s : State) (t : Token) (labels names : List (List ℕ)) → HasMade s labels names → Follows (aligned s t) s.source.left labels names []
  aligned_follows s t labels names h = by (is_data_alignment t.value)
    where
      by : (b : Bool) → Follows (if b then stored t.line (padding (length s.part.bytes) t.value) (zeros (padding (length s.part.bytes) t.value)) s else Err (record { kind = BadOperand; line = t.line })) s.source.left labels names []
      by true = stored_follows t.line (padding (length s.part.bytes) t.value) (zeros (padding (length s.part.bytes) t.value)) s labels names h
      by false = refused BadOperand t.line s.source.left labels names [] bad_operand

  align_data_follows : (s : State) (line : ℕ) (labels names : List (List ℕ)) → HasMade s labels names → Follows (align_data s line) s.source.left labels names []
  align_data_follows s line labels names h = number_follows line s _ labels names h (λ t. aligned_follows (behind s) t labels names (tail_made s labels names h))

  item_follows : (size : ItemSize) (t : Token) (s : State) (labels names : List (List ℕ)) → HasMade s labels names → Follows (item size t s) s.source.left labels names []
  item_follows size t s labels names h =
      stored_follows t.line (length (value_bytes size t.kind (token_text s t) t.value)) (value_bytes size t.kind (token_text s t) t.value) s labels names h

  abbrev kept_or_full : State → List ℕ → ℕ → Bool → Result State Refusal
  kept_or_full s bytes line b = if b then Ok (record s { part = with_bytes s.part bytes }) else refuse DataFull line

  item_left : (size : ItemSize) (t : Token) (s u : State) → item size t s ≡ Ok u → u.source.left ≡ s.source.left
  item_left size t s u = by (fits s.part (length (value_bytes size t.kind (token_text s t) t.value)))
    where
      same_Ok : {a b : State} → ◌≡◌ {A = Result State Refusal} (Ok a) (Ok b) → a ≡ b
      same_Ok f = cc

      by : (b : Bool) → kept_or_full s (value_bytes size t.kind (token_text s t) t.value) t.line b ≡ Ok u → u.source.left ≡ s.source.left
      by true e = ap (λ (z : State). z.source.left) (same_Ok (sym e))
      by false e = cc

  more_follow : (size : ItemSize) (left : List Token) (s : State) (labels names : List (List ℕ)) → s.source.left ≡ left → HasMade s labels names
      → Follows (more_values size left s) left labels names []
  unfolding more_values
  more_follow size [] s labels names e h = subst (λ ts. Follows (Ok s) ts labels names []) e (stays s labels names h)
  more_follow size (t ∷ more) s labels names e h = by (is_value size t.kind) refl (more_follow size more)
    where
      tail : (behind s).source.left ≡ more
      tail = ap tail_of e

      items : (r : Result State Refusal) → item size t (behind s) ≡ r → ((u : State) (ls ns : List (List ℕ)) → u.source.left ≡ more → HasMade u ls ns → Follows (more_values size more u) more ls ns [])
          → Follows r more labels names [] → Follows (r >>= λ u. more_values size more u) more labels names []
      items (Err refusal) is rest g = g
      items (Ok u) is rest g =
          let same : u.source.left ≡ more = item_left size t (behind s) u is ∙ tail in
          joined (more_values size more u) (subst (λ ts. (line : ℕ) → Stops ts g.0 g.1 [] line → Stops more labels names [] line) same g.3) (rest u g.0 g.1 same g.2)
        where
          joined : (r : Result State Refusal) → ((line : ℕ) → Stops more g.0 g.1 [] line → Stops more labels names [] line) → Follows r more g.0 g.1 [] → Follows r more labels names []
          joined (Ok v) back q = (q.0, q.1, q.2, λ line f. back line (q.3 line f))
          joined (Err refusal) back q = λ k. back refusal.line (q k)

      by : (b : Bool) → is_value size t.kind ≡ b
          → ((u : State) (ls ns : List (List ℕ)) → u.source.left ≡ more → HasMade u ls ns → Follows (more_values size more u) more ls ns [])
          → Follows (if b then (item size t (behind s) >>= λ u. more_values size more u) else Ok s) (t ∷ more) labels names []
      by true f rest = passed (item size t (behind s) >>= λ u. more_values size more u) t more labels names (value_quiet size t.kind f)
          (items (item size t (behind s)) refl rest (subst (λ ts. Follows (item size t (behind s)) ts labels names []) tail (item_follows size t (behind s) labels names (tail_made s labels names h))))
      by false f rest = subst (λ ts. Follows (Ok s) ts labels names []) e (stays s labels names h)

  first_follows : (size : ItemSize) (s : State) (t : Token) (labels names : List (List ℕ)) → HasMade s labels names → Follows (first_value size s t) (t ∷ s.source.left) labels names []
  first_follows size s t labels names h = by (is_value size t.kind) refl
    where
      by : (b : Bool) → is_value size t.kind ≡ b → Follows (if b then item size t s else Err (record { kind = misfit t.kind (token_text s t); line = t.line })) (t ∷ s.source.left) labels names []
      by true e = passed (item size t s) t s.source.left labels names (value_quiet size t.kind e) (item_follows size t s labels names h)
      by false e = refused (misfit t.kind (token_text s t)) t.line (t ∷ s.source.left) labels names [] (misfit_other t.kind (token_text s t))

  values_follow : (size : ItemSize) (s : State) (line : ℕ) (labels names : List (List ℕ)) → HasMade s labels names → Follows (values size s line) s.source.left labels names []
  values_follow size s line labels names h =
      on_wanted line s.source.left s.source.fault _ labels names [] h.faultless (λ t.
      then_on (first_value size (behind s) t) (λ u. more_values size u.source.left u) (t ∷ tail_of s.source.left) labels names []
      (first_follows size (behind s) t labels names (tail_made s labels names h)) (λ u ls ns g. more_follow size u.source.left u ls ns refl g))

  -- ---- `name`, `note` and labels
  name_follows : (s : State) (line : ℕ) (labels names : List (List ℕ)) → HasMade s labels names → Follows (name_word s line) s.source.left labels names (Immediate ∷ [])
  name_follows s line labels names h =
      on_wanted line s.source.left s.source.fault _ labels names (Immediate ∷ []) h.faultless (λ t.
      on (named (behind s) t) t (tail_of s.source.left) labels names (Immediate ∷ []) t.kind (text_of text t) (refl, refl) refl (by t (is_word_kind t.kind)))
    where
      by : (t : Token) (b : Bool) → Follows (if b then Ok (behind s) else Err (record { kind = misfit t.kind (token_text (behind s) t); line = t.line })) (tail_of s.source.left) labels names []
      by t true = stays (behind s) labels names (tail_made s labels names h)
      by t false = refused (misfit t.kind (token_text (behind s) t)) t.line (tail_of s.source.left) labels names [] (misfit_other t.kind (token_text (behind s) t))

  optional_follows : (test : TokenKind → Bool) → ((kind : TokenKind) → test kind ≡ true → is_quiet kind ≡ true) → (s : State) (labels names : List (List ℕ)) → HasMade s labels names
      → Follows (Ok (skip_if test s)) s.source.left labels names []
  optional_follows test quiet s labels names h = by s.source.left refl
    where
      here : (t : Token) (more : List Token) → s.source.left ≡ t ∷ more → (b : Bool) → test t.kind ≡ b → Follows (Ok (if b then behind s else s)) (t ∷ more) labels names []
      here t more e true f = passed (Ok (behind s)) t more labels names (quiet t.kind f)
          (subst (λ ts. Follows (Ok (behind s)) ts labels names []) (ap tail_of e) (stays (behind s) labels names (tail_made s labels names h)))
      here t more e false f = subst (λ ts. Follows (Ok s) ts labels names []) e (stays s labels names h)

      by : (left : List Token) → s.source.left ≡ left → Follows (Ok (after_if test left s)) left labels names []
      by [] e = subst (λ ts. Follows (Ok s) ts labels names []) e (stays s labels names h)
      by (t ∷ more) e = here t more e (test t.kind) refl

  note_follows : (s : State) (labels names : List (List ℕ)) → HasMade s labels names → Follows (Ok (note s)) s.source.left labels names []
  note_follows s labels names h =
      then_on (Ok (skip_if is_string s)) (λ u. Ok (skip_if is_digits u)) s.source.left labels names [] (optional_follows is_string string_quiet s labels names h)
      (λ u ls ns g. optional_follows is_digits digits_quiet u ls ns g)

  module _ (s : State) (t : Token) (labels names : List (List ℕ)) (h : HasMade s labels names) (is : t.kind ≡ LabelMark) where
    abbrev word : List ℕ
    word = without_last (token_text s t)

    abbrev place : Place
    place = place_in s.section s

    abbrev BoundBy : Bool → Result State Refusal
    BoundBy b = or_twice (if b then Some (with_place (mentioned s.list word) (number_of s.list.words word) place) else None) s t.line

    unbound : (made : Bool) → is_made labels word ≡ made → is_unbound (slice_get (mentioned s.list word).places (number_of s.list.words word)) ≡ not made
    unbound made e = unbound_is s.list word h.even ∙ ap not (h.bound word ∙ e)

    by_made : (made : Bool) → is_made labels word ≡ made → Follows (label s word t.line) (t ∷ s.source.left) labels names []
    by_made true e = subst (λ b. Follows (BoundBy b) (t ∷ s.source.left) labels names []) (sym (unbound true e))
        (λ twice. stops_here t s.source.left labels names [] LabelMark (token_text s t) word (token_is s t LabelMark labels names h is) (made_some labels word e))
    by_made false e = subst (λ b. Follows (BoundBy b) (t ∷ s.source.left) labels names []) (sym (unbound false e))
        (on (BoundBy true) t s.source.left labels names [] LabelMark (token_text s t) (token_is s t LabelMark labels names h is) (made_none labels word e) (
          with_word labels word,
          names,
          record {
            of = h.of;
            faultless = h.faultless;
            even = placed_even s.list word place h.even;
            bound = λ other. placed_is s.list word other place h.even ∙ (ap (λ b. bytes_eq other word || b) (h.bound other)
                ∙ (sym (made_with labels word other) ∙ ap (λ ws. is_made ws other) (sym (with_new labels word e))));
            named = h.named;
          },
          λ line f. f,
        ))

    label_follows : Follows (label s word t.line) (t ∷ s.source.left) labels names []
    label_follows = by_made (is_made labels word) refl

  -- ---- statements
  module _ (s : State) (t : Token) (labels names : List (List ℕ)) (h : HasMade s labels names) where
    abbrev here_left : List Token
    here_left = t ∷ s.source.left

    refused_here : (kind : RefusalKind) → IsOther kind → Follows (Err (record { kind = kind; line = t.line })) here_left labels names []
    refused_here kind other = refused kind t.line here_left labels names [] other

    -- a word: after it come the tokens of its forms
    module _ (word : List ℕ) (is : IsToken t Word word) where
      begun_by : (r : Result State Refusal) → Follows r s.source.left labels (names_after [] Word word names) (forms_of_word word) → Follows r here_left labels names []
      begun_by r g = on r t s.source.left labels names [] Word word is refl g

      by_op : (o : Option Op) → op_of word ≡ o → bytes_eq word (codes "name") ≡ false → Follows (statement_by (instruction_or o) s t) here_left labels names []
      by_op None e other = refused_here UnknownName unknown_name
      by_op (Some op) e other = begun_by (instruction op s t.line)
          (subst (λ (x : List (List ℕ) × List Form). Follows (instruction op s t.line) s.source.left labels x.0 x.1)
          (λ i. (if begins (sym e i) then [] else names, if sym other i then Immediate ∷ [] else forms_by (sym e i)))
          (instruction_follows op s t.line labels names h))

      by_name : (b : Bool) → bytes_eq word (codes "name") ≡ b
          → Follows (statement_by (if b then Ok statement.Name else instruction_or (op_of word)) s t) here_left labels names []
      by_name true e = begun_by (name_word s t.line)
          (subst (λ w. Follows (name_word s t.line) s.source.left labels (names_after [] Word w names) (forms_of_word w)) (sym ((bytes_eq-Decides word (codes "name")).0 e))
          (name_follows s t.line labels names h))
      by_name false e = by_op (op_of word) refl e

      by_section : (here : Section) → Follows (statement_by (word_in here word) s t) here_left labels names []
      by_section section.Code = by_name (bytes_eq word (codes "name")) refl
      by_section section.Data = refused_here UnknownName unknown_name

      by_note : (here : Section) (b : Bool) → bytes_eq word (codes "note") ≡ b → Follows (statement_by (if b then Ok statement.Note else word_in here word) s t) here_left labels names []
      by_note here true e = begun_by (Ok (note s))
          (subst (λ w. Follows (Ok (note s)) s.source.left labels (names_after [] Word w names) (forms_of_word w)) (sym ((bytes_eq-Decides word (codes "note")).0 e))
          (note_follows s labels names h))
      by_note here false e = by_section here

      by_float : (here : Section) (b : Bool) → Follows (statement_by (if b then Err FloatRefused else (if bytes_eq word (codes "note") then Ok statement.Note else word_in here word)) s t) here_left labels names []
      by_float here true = refused_here FloatRefused float_refused
      by_float here false = by_note here (bytes_eq word (codes "note")) refl

    -- a directive
    module _ (quiet : is_quiet t.kind ≡ true) where
      then_ : (r : Result State Refusal) → Follows r s.source.left labels names [] → Follows r here_left labels names []
      then_ r g = passed r t s.source.left labels names quiet g

      by_directive : (here : Section) (d : Option DirectiveName) → Follows (statement_by (directive_statement here d) s t) here_left labels names []
      by_directive here (Some directive.Data) = then_ (data_section s t.line) (data_follows s t.line labels names h)
      by_directive here (Some directive.Code) = then_ (Ok (record s { section = section.Code })) (labels, names, with_data s labels names s.part section.Code h, λ line f. f)
      by_directive here (Some directive.Float) = refused_here FloatRefused float_refused
      by_directive here (Some directive.Double) = refused_here FloatRefused float_refused
      by_directive section.Code (Some directive.Align) = then_ (instruction (Plain plain.Align) s t.line) (align_follows s t.line labels names h)
      by_directive section.Data (Some directive.Align) = then_ (align_data s t.line) (align_data_follows s t.line labels names h)
      by_directive section.Data (Some directive.Size) = then_ (skip s t.line) (skip_follows s t.line labels names h)
      by_directive section.Data (Some directive.Char) = then_ (values One s t.line) (values_follow One s t.line labels names h)
      by_directive section.Data (Some directive.Short) = then_ (values Two s t.line) (values_follow Two s t.line labels names h)
      by_directive section.Data (Some directive.Int) = then_ (values Four s t.line) (values_follow Four s t.line labels names h)
      by_directive section.Data (Some directive.Long) = then_ (values Eight s t.line) (values_follow Eight s t.line labels names h)
      by_directive section.Code None = refused_here UnknownName unknown_name
      by_directive _ _ = refused_here UnknownName unknown_name

    by_register : (b : Bool) → Follows (statement_by (if b then Err FloatRefused else Err UnknownName) s t) here_left labels names []
    by_register true = refused_here FloatRefused float_refused
    by_register false = refused_here UnknownName unknown_name

    by_kind : (kind : TokenKind) → t.kind ≡ kind → Follows (statement_by (statement_of s.section kind (token_text s t)) s t) here_left labels names []
    by_kind Word e = by_float (token_text s t) (token_is s t Word labels names h e) s.section (is_float_word (token_text s t))
    by_kind Directive e = by_directive (ap is_quiet e) s.section (directive_of (token_text s t))
    by_kind LabelMark e = label_follows s t labels names h e
    by_kind Register e = by_register (is_float_register (token_text s t))
    by_kind _ e = refused_here UnknownName unknown_name

    statement_follows : Follows (statement_from s t) (t ∷ s.source.left) labels names []
    statement_follows = by_kind t.kind refl

  -- ---- texts
  -- where the reading stops for a word that is made twice, it stops at the first one that is made again
  abbrev pub StopsAt : Result State Refusal → List Token → (labels names : List (List ℕ)) → Type 0
  StopsAt (Ok u) left labels names = Unit {0}
  StopsAt (Err refusal) left labels names = refusal.kind ≡ LabelTwice → Stops left labels names [] refusal.line

  rest_stops : (r : Result State Refusal) (f : State → Result State Refusal) (left : List Token) (labels names : List (List ℕ)) → Follows r left labels names []
      → ((u : State) (ls ns : List (List ℕ)) → HasMade u ls ns → StopsAt (f u) u.source.left ls ns) → StopsAt (r >>= f) left labels names
  rest_stops (Err refusal) f left labels names h each = h
  rest_stops (Ok u) f left labels names h each = by (f u) (each u h.0 h.1 h.2)
    where
      by : (r : Result State Refusal) → StopsAt r u.source.left h.0 h.1 → StopsAt r left labels names
      by (Ok v) g = tt
      by (Err refusal) g = λ e. h.3 refusal.line (g e)

  pub statements_stop : (k : ℕ) (s : State) (labels names : List (List ℕ)) → HasMade s labels names → StopsAt (statements k s) s.source.left labels names
  unfolding statements
  statements_stop zero s labels names h = tt
  statements_stop (suc k) s labels names h = by s.source.left refl s.source.fault h.faultless (statements_stop k)
    where
      by : (left : List Token) → s.source.left ≡ left → (fault : Option Refusal) → NoTwice fault
          → ((u : State) (ls ns : List (List ℕ)) → HasMade u ls ns → StopsAt (statements k u) u.source.left ls ns)
          → StopsAt (text_from (statements k) s (next_of left fault)) left labels names
      by [] e None none each = tt
      by [] e (Some refusal) none each = λ is. absurd (none is)
      by (t ∷ more) e fault none each = rest_stops (statement_from (behind s) t) (statements k) (t ∷ more) labels names
          (subst (λ ts. Follows (statement_from (behind s) t) (t ∷ ts) labels names []) (ap tail_of e) (statement_follows (behind s) t labels names (tail_made s labels names h))) each
