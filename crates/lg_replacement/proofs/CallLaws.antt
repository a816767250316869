-- Calls of names with parameters, and bodies with ##.
use Rattle.std.proofs.Common.{◌≡◌, ℕ, zero, suc, ◌+◌, ◌==◌, ◌≤◌, Bool, true, false, ◌||◌, List, [], ◌∷◌, ◌++◌, length, take, drop, replicate, fold, Option, Some, None, Ok, Err, refl, sym, ap, ap₂, subst, ◌∙◌, arith}
use Rattle.std.specs.Prelude.{if◌then◌else◌, Result}
use Rattle.std.proofs.lemmas.List.{length-append, length-drop, replicate-append-replicate, append-nil}
use Rattle.lg_base.specs.Refusals.{◌>>=◌}
use Rattle.lg_base.specs.declared.refusal.Refusal.{Refusal}
use Rattle.lg_lex.specs.Bytes.{further}
use Rattle.lg_macro.specs.Arguments.{arguments_of, closing, feed, opening, with_feed, with_feeds_of, with_feeds}
use Rattle.lg_replacement.specs.Calls.{AreExpanded, AreGlued, ArePasted, BodiesAreFilled, CallsReplaceNames, IsCall, IsFilled, IsPasted, Names, PastedBodiesReplaceNames, StandsFor, feeds_after, bare, chain}
use Rattle.lg_macro.specs.Cutting.{cut}
use Rattle.lg_replacement.specs.Expansion.{Expander, Given, Outcome, at_macro, at_name, after_call, by_arity, called, closed, each, expand_in, object, opened, put, put_name, replaced, step, walk}
use Rattle.lg_macro.specs.Macros.{counted}
use Rattle.lg_macro.specs.Pasting.{joined}
use Rattle.lg_macro.specs.Pieces.{Piece}
use Rattle.lg_macro.specs.Substitution.{filled, stands, stands_by, substituted}
use Rattle.lg_macro.specs.Text.{bytes_of, feeds_of}
use Rattle.lg_macro.specs.declared.macros.Macro.{Macro}
use Rattle.lg_macro.specs.declared.macros.Mark.{Mark}
use Rattle.lg_replacement.proofs.ArgumentLaws.{call_arguments, closing_last, closing_parted, drop_whole, opening_after, split_last, take_whole}
use Rattle.lg_macro.proofs.FeedLemmas.{feeds_append, feeds_cons}
use Rattle.lg_replacement.proofs.ReplacementLemmas.{append-again, after-name, step-object}

-- ---- bodies

stands_are : (line : ℕ) (raw full : List (List Piece)) (p : Piece) (mark : Mark) (part : List Piece) → StandsFor line raw full p mark part → stands raw full line p mark ≡ part
stands_are line raw full p mark part h = by mark.parameter refl (mark.glued || mark.glues) refl
  where
    by : (o : Option ℕ) → mark.parameter ≡ o → (b : Bool) → (mark.glued || mark.glues) ≡ b → stands_by (if b then raw else full) line p o ≡ part
    by None e b is = sym (h.itself e)
    by (Some k) e true is = sym (h.beside k e is)
    by (Some k) e false is = sym (h.apart k e is)

joined_last : (line : ℕ) (front : List Piece) (x y : Piece) (back : List Piece) → joined line (front ++ (x ∷ [])) (y ∷ back) ≡ front ++ (cut line (x.text ++ y.text) ++ back)
unfolding joined
joined_last line [] x y back = refl
joined_last line (p ∷ []) x y back = refl
joined_last line (p ∷ q ∷ front) x y back = ap (λ l. p ∷ l) (joined_last line (q ∷ front) x y back)

joined_are : (line : ℕ) (before behind both : List Piece) → IsPasted line before behind both → joined line before behind ≡ both
unfolding joined
joined_are line [] behind both h = sym (h.none_before refl)
joined_are line (p ∷ before) [] both h = sym (h.none_behind refl)
joined_are line (p ∷ before) (y ∷ back) both h =
    let s = split_last p before in
    ap (λ l. joined line l (y ∷ back)) s.2 ∙ joined_last line s.0 s.1 y back ∙ sym (h.pasted s.0 s.1 y back s.2 refl)

filled_glued : (line : ℕ) (p : Piece) (body : List Piece) (mark : Mark) (marks : List Mark) (raw full : List (List Piece)) (before now : List Piece) → mark.glued ≡ true
    → filled line (p ∷ body) (mark ∷ marks) raw full before now ≡ filled line body marks raw full before (joined line now (stands raw full line p mark))
unfolding filled
filled_glued line p body mark marks raw full before now h = rw h refl

filled_apart : (line : ℕ) (p : Piece) (body : List Piece) (mark : Mark) (marks : List Mark) (raw full : List (List Piece)) (before now : List Piece) → mark.glued ≡ false
    → filled line (p ∷ body) (mark ∷ marks) raw full before now ≡ filled line body marks raw full (before ++ now) (stands raw full line p mark)
unfolding filled
filled_apart line p body mark marks raw full before now h = rw h refl

glued_are : (line : ℕ) (raw full : List (List Piece)) (glued : List Piece) (marked : List Mark) (parts : List (List Piece)) (first whole body : List Piece) (marks : List Mark) (before : List Piece)
    → AreGlued line raw full glued marked parts → ArePasted line first parts whole
    → filled line (glued ++ body) (marked ++ marks) raw full before first ≡ filled line body marks raw full before whole
glued_are line raw full [] [] [] first whole body marks before h pasted = ap (filled line body marks raw full before) (sym pasted)
glued_are line raw full (p ∷ glued) (mark ∷ marked) (part ∷ parts) first whole body marks before h pasted =
    filled_glued line p (glued ++ body) mark (marked ++ marks) raw full before first h.0
    ∙ ap (filled line (glued ++ body) (marked ++ marks) raw full before) (ap (joined line first) (stands_are line raw full p mark part h.1) ∙ joined_are line first part pasted.0 pasted.1)
    ∙ glued_are line raw full glued marked parts pasted.0 whole body marks before h.2 pasted.2
glued_are line raw full [] [] (part ∷ parts) first whole body marks before h pasted = absurd h
glued_are line raw full [] (mark ∷ marked) parts first whole body marks before h pasted = absurd h
glued_are line raw full (p ∷ glued) [] parts first whole body marks before h pasted = absurd h
glued_are line raw full (p ∷ glued) (mark ∷ marked) [] first whole body marks before h pasted = absurd h

filled_end : (line : ℕ) (raw full : List (List Piece)) (before now : List Piece) → filled line [] [] raw full before now ≡ before ++ now
unfolding filled
filled_end line raw full before now = refl

filled_are : {line : ℕ} {raw full : List (List Piece)} {body : List Piece} {marks : List Mark} {out : List Piece} → IsFilled line raw full body marks out
    → (before now : List Piece) → filled line body marks raw full before now ≡ (before ++ now) ++ out
filled_are {line} {raw} {full} bare before now = filled_end line raw full before now ∙ sym (append-nil (before ++ now))
filled_are {line} {raw} {full} (chain p mark first glued marked parts whole body marks out apart are_first are pasted more) before now =
    filled_apart line p (glued ++ body) mark (marked ++ marks) raw full before now apart
    ∙ ap (filled line (glued ++ body) (marked ++ marks) raw full (before ++ now)) (stands_are line raw full p mark first are_first)
    ∙ glued_are line raw full glued marked parts first whole body marks (before ++ now) are pasted
    ∙ filled_are more (before ++ now) whole
    ∙ append-again (before ++ now) whole out

substituted_is : {line : ℕ} {raw full : List (List Piece)} {body : List Piece} {marks : List Mark} {out : List Piece} → IsFilled line raw full body marks out → substituted line body marks raw full ≡ out
unfolding substituted
substituted_is h = filled_are h [] []

-- ---- each body is filled

stands_for : (line : ℕ) (raw full : List (List Piece)) (p : Piece) (mark : Mark) → StandsFor line raw full p mark (stands raw full line p mark)
stands_for line raw full p mark = record {
  itself = λ e. ap (stands_by (if mark.glued || mark.glues then raw else full) line p) e;
  beside = λ k e is. ap₂ (λ b o. stands_by (if b then raw else full) line p o) is e;
  apart = λ k e is. ap₂ (λ b o. stands_by (if b then raw else full) line p o) is e;
}

joined_nothing : (line : ℕ) (before : List Piece) → joined line before [] ≡ before
unfolding joined
joined_nothing line [] = refl
joined_nothing line (p ∷ before) = refl

nothing_joined : (line : ℕ) (behind : List Piece) → joined line [] behind ≡ behind
unfolding joined
nothing_joined line behind = refl

is_pasted : (line : ℕ) (before behind : List Piece) → IsPasted line before behind (joined line before behind)
is_pasted line before behind = record {
  none_before = λ e. ap (λ l. joined line l behind) e ∙ nothing_joined line behind;
  none_behind = λ e. ap (joined line before) e ∙ joined_nothing line before;
  pasted = λ front x y back e f. ap₂ (joined line) e f ∙ joined_last line front x y back;
}

-- the pieces of a body before which ## stands, and what comes after them
record HasRun (line : ℕ) (raw full : List (List Piece)) (body : List Piece) (marks : List Mark) : Type 0 where
  glued : List Piece
  marked : List Mark
  parts : List (List Piece)
  more : List Piece
  more_marks : List Mark
  out : List Piece
  body_is : body ≡ glued ++ more
  marks_are : marks ≡ marked ++ more_marks
  are : AreGlued line raw full glued marked parts
  filled : IsFilled line raw full more more_marks out

whole_of : (line : ℕ) (first : List Piece) (parts : List (List Piece)) → (whole : List Piece) × ArePasted line first parts whole
whole_of line first [] = (first, refl)
whole_of line first (part ∷ parts) = let rest = whole_of line (joined line first part) parts in (rest.0, (joined line first part, is_pasted line first part, rest.1))

chain_of : (line : ℕ) (raw full : List (List Piece)) (p : Piece) (mark : Mark) (body : List Piece) (marks : List Mark) → mark.glued ≡ false → HasRun line raw full body marks
    → (out : List Piece) × IsFilled line raw full (p ∷ body) (mark ∷ marks) out
chain_of line raw full p mark body marks apart h =
    let first = stands raw full line p mark in
    let whole = whole_of line first h.parts in
    let made = chain p mark first h.glued h.marked h.parts whole.0 h.more h.more_marks h.out apart (stands_for line raw full p mark) h.are whole.1 h.filled in (
      whole.0 ++ h.out,
      subst (λ m. IsFilled line raw full (p ∷ body) (mark ∷ m) (whole.0 ++ h.out)) (sym h.marks_are)
          (subst (λ b. IsFilled line raw full (p ∷ b) (mark ∷ (h.marked ++ h.more_marks)) (whole.0 ++ h.out)) (sym h.body_is) made),
    )

run_of : (line : ℕ) (raw full : List (List Piece)) (body : List Piece) (marks : List Mark) → length marks ≡ length body → HasRun line raw full body marks
run_of line raw full [] [] long = record { glued = []; marked = []; parts = []; more = []; more_marks = []; out = []; body_is = refl; marks_are = refl; are = tt; filled = bare }
run_of line raw full [] (mark ∷ marks) long = absurd (omega (arith, long))
run_of line raw full (p ∷ body) [] long = absurd (omega (arith, long))
run_of line raw full (p ∷ body) (mark ∷ marks) long = by mark.glued refl (run_of line raw full body marks (omega (arith, long)))
  where
    by : (b : Bool) → mark.glued ≡ b → HasRun line raw full body marks → HasRun line raw full (p ∷ body) (mark ∷ marks)
    by true is h = record {
      glued = p ∷ h.glued;
      marked = mark ∷ h.marked;
      parts = stands raw full line p mark ∷ h.parts;
      more = h.more;
      more_marks = h.more_marks;
      out = h.out;
      body_is = ap (λ l. p ∷ l) h.body_is;
      marks_are = ap (λ l. mark ∷ l) h.marks_are;
      are = (is, stands_for line raw full p mark, h.are);
      filled = h.filled;
    }
    by false is h =
        let made = chain_of line raw full p mark body marks is h in
        record { glued = []; marked = []; parts = []; more = p ∷ body; more_marks = mark ∷ marks; out = made.0; body_is = refl; marks_are = refl; are = tt; filled = made.1 }

pub bodies-filled : BodiesAreFilled
bodies-filled line raw full [] [] long apart = ([], bare)
bodies-filled line raw full [] (mark ∷ marks) long apart = absurd (omega (arith, long))
bodies-filled line raw full (p ∷ body) [] long apart = absurd (omega (arith, long))
bodies-filled line raw full (p ∷ body) (mark ∷ marks) long apart = chain_of line raw full p mark body marks apart (run_of line raw full body marks (omega (arith, long)))

-- ---- a name without parameters

object_puts : (table : List Macro) (n place : ℕ) (hidden : List ℕ) (p : Piece) (m : Macro) (given : Given) (rest out : List Piece) (f : List Piece → Given → Outcome) → substituted p.line m.body m.marks [] [] ≡ out
    → (object (expand_in table n) p hidden place m given >>= (λ t. f (drop t.0 rest) t.1))
    ≡ ((counted p.line m given.1 >>= (λ sum. expand_in table n p.line (hidden ++ place ∷ []) out (given.0, sum))) >>= f rest)
unfolding object put
object_puts table n place hidden p m given rest out f is = by (counted p.line m given.1)
  where
    by : (c : Result ℕ Refusal) → ((c >>= put_name (expand_in table n) p hidden place m given.0) >>= (λ t. f (drop t.0 rest) t.1))
        ≡ ((c >>= (λ sum. expand_in table n p.line (hidden ++ place ∷ []) out (given.0, sum))) >>= f rest)
    by (Ok sum) = rw is (after-name (expand_in table n p.line (hidden ++ place ∷ []) out (given.0, sum)) rest f)
    by (Err fault) = refl

pub pasted-bodies : PastedBodiesReplaceNames
unfolding expand_in walk
pasted-bodies table n line place hidden p m rest out given names bare_name is =
    ap (λ s. s >>= (λ t. walk table (expand_in table n) (length rest) hidden (drop t.0 rest) t.1)) (step-object table (expand_in table n) hidden p rest given place m names.named names.macro names.shown bare_name)
    ∙ object_puts table n place hidden p m given rest out (λ behind now. walk table (expand_in table n) (length rest) hidden behind now) (substituted_is is)

-- ---- a call

each_is : (table : List Macro) (n line : ℕ) (hidden : List ℕ) (sum : ℕ) (raw full : List (List Piece)) (sum' : ℕ) (before : List (List Piece)) → AreExpanded table n line hidden sum raw full sum'
    → each (expand_in table n) line hidden raw before sum ≡ Ok (before ++ full, sum')
unfolding each
each_is table n line hidden sum [] [] sum' before h = rw (h, append-nil before) refl
each_is table n line hidden sum (a ∷ raw) (f ∷ full) sum' before h =
    ap (λ o. o >>= (λ given. each (expand_in table n) line hidden raw (before ++ (given.0 ∷ [])) given.1)) h.1
    ∙ each_is table n line hidden h.0 raw full sum' (before ++ (f ∷ [])) h.2
    ∙ ap (λ l. Ok (l, sum')) (append-again before (f ∷ []) full)
each_is table n line hidden sum [] (f ∷ full) sum' before h = absurd h
each_is table n line hidden sum (a ∷ raw) [] sum' before h = absurd h

replaced_is : (table : List Macro) (n line : ℕ) (hidden : List ℕ) (place : ℕ) (m : Macro) (given : Given) (sum sum' : ℕ) (raw full : List (List Piece)) (out : List Piece)
    → counted line m given.1 ≡ Ok sum → AreExpanded table n line hidden sum raw full sum' → substituted line m.body m.marks raw full ≡ out
    → replaced (expand_in table n) line hidden place m given raw ≡ expand_in table n line (hidden ++ place ∷ []) out (given.0, sum')
unfolding replaced put
replaced_is table n line hidden place m given sum sum' raw full out share expanded is = rw (share, each_is table n line hidden sum raw full sum' [] expanded, is) refl

opened_at : (inner : Expander) (p : Piece) (hidden : List ℕ) (place : ℕ) (m : Macro) (given : Given) (behind tail call inside : List Piece) (arity begun len : ℕ) (raw : List (List Piece))
    → opening behind ≡ Some begun → drop begun behind ≡ tail → closing 0 tail ≡ Some len → take len tail ≡ inside → take (begun + len + 1) behind ≡ call → arguments_of arity p.line inside ≡ Some raw
    → opened inner p hidden place m given behind arity (opening behind) ≡ called inner p hidden place m given call (Some raw)
unfolding opened
opened_at inner p hidden place m given behind tail call inside arity begun len raw e₁ e₂ e₃ e₄ e₅ e₆ =
    let at = called inner p hidden place m given in
    ap (opened inner p hidden place m given behind arity) e₁
    ∙ ap (closed inner p hidden place m given behind arity begun) (ap (closing 0) e₂ ∙ e₃)
    ∙ ap (λ l. at l (arguments_of arity p.line (take len (drop begun behind)))) e₅
    ∙ ap (at call) (ap (arguments_of arity p.line) (ap (take len) e₂ ∙ e₄) ∙ e₆)

call_after : (line arity : ℕ) (call : List Piece) (raw : List (List Piece)) (c : IsCall line arity call raw) (rest : List Piece) → call ++ rest ≡ (c.white ++ (c.left ∷ [])) ++ (c.inside ++ (c.right ∷ rest))
call_after line arity call raw c rest =
    ap (λ l. l ++ rest) c.is ∙ append-again c.white (c.left ∷ (c.inside ++ (c.right ∷ []))) rest
    ∙ ap (λ l. c.white ++ (c.left ∷ l)) (append-again c.inside (c.right ∷ []) rest)
    ∙ sym (append-again c.white (c.left ∷ []) (c.inside ++ (c.right ∷ rest)))

call_len : (line arity : ℕ) (call : List Piece) (raw : List (List Piece)) (c : IsCall line arity call raw) → length c.white + 1 + length c.inside + 1 ≡ length call
call_len line arity call raw c =
    let whole = ap length c.is in
    let a = length-append c.white (c.left ∷ (c.inside ++ (c.right ∷ []))) in
    let b = length-append c.inside (c.right ∷ []) in
    omega (arith, whole, a, b)

step_call : (table : List Macro) (inner : Expander) (hidden : List ℕ) (p : Piece) (call rest : List Piece) (given : Given) (place arity : ℕ) (m : Macro) (raw : List (List Piece))
    → Names table hidden p place m → m.arity ≡ Some arity → IsCall p.line arity call raw → step table inner hidden p (call ++ rest) given ≡ called inner p hidden place m given call (Some raw)
unfolding step at_name at_macro
step_call table inner hidden p call rest given place arity m raw names takes c =
    let whole = call_after p.line arity call raw c rest in
    let tail = c.inside ++ (c.right ∷ rest) in
    let begins : opening (call ++ rest) ≡ Some (length c.white + 1) =
    ap opening (whole ∙ append-again c.white (c.left ∷ []) tail) ∙ opening_after c.white c.left tail c.is_space c.opens in
    let front : length (c.white ++ (c.left ∷ [])) ≡ length c.white + 1 = length-append c.white (c.left ∷ []) in
    let inner_tail : drop (length c.white + 1) (call ++ rest) ≡ tail =
    ap (drop (length c.white + 1)) whole ∙ ap (λ k. drop k ((c.white ++ (c.left ∷ [])) ++ tail)) (sym front) ∙ drop_whole (c.white ++ (c.left ∷ [])) tail in
    let ends : closing 0 tail ≡ Some (length c.inside) =
    closing_parted c.parted (c.right ∷ rest) ∙ ap (λ o. further (length c.inside) o) (closing_last c.right rest c.closes) ∙ ap Some (let e : length c.inside + 0 ≡ length c.inside = omega arith in e) in
    let all : take (length c.white + 1 + length c.inside + 1) (call ++ rest) ≡ call = ap (λ k. take k (call ++ rest)) (call_len p.line arity call raw c) ∙ take_whole call rest in
    rw (names.named, names.macro, names.shown)
    (ap (by_arity inner p hidden place m given (call ++ rest)) takes
    ∙ opened_at inner p hidden place m given (call ++ rest) tail call c.inside arity (length c.white + 1) (length c.inside) raw begins inner_tail ends (take_whole c.inside (c.right ∷ rest)) all (call_arguments p.line arity call raw c))

-- ---- the line feeds of a call

text_feeds : (line : ℕ) (given : List Piece) (bytes : List ℕ) → fold (with_feed line) given bytes ≡ given ++ replicate (feeds_of bytes) (feed line)
text_feeds line given [] = sym (append-nil given)
text_feeds line given (b ∷ bytes) = by (b == 10) (λ more. text_feeds line more bytes) ∙ ap (λ k. given ++ replicate k (feed line)) (sym (feeds_cons b bytes))
  where
    by : (x : Bool) → ((front : List Piece) → fold (with_feed line) front bytes ≡ front ++ replicate (feeds_of bytes) (feed line))
        → fold (with_feed line) (if x then given ++ (feed line ∷ []) else given) bytes ≡ given ++ replicate ((if x then 1 else 0) + feeds_of bytes) (feed line)
    by true more = more (given ++ (feed line ∷ [])) ∙ append-again given (feed line ∷ []) (replicate (feeds_of bytes) (feed line)) ∙ ap (λ l. given ++ l) (replicate-append-replicate 1 (feeds_of bytes) (feed line))
    by false more = more given ∙ ap (λ k. given ++ replicate k (feed line)) (let e : feeds_of bytes ≡ 0 + feeds_of bytes = omega arith in e)

call_feeds : (line : ℕ) (given call : List Piece) → with_feeds line given call ≡ given ++ feeds_after line call
unfolding with_feeds
call_feeds line given [] = sym (append-nil given)
call_feeds line given (p ∷ rest) =
    call_feeds line (with_feeds_of line given p) rest
    ∙ ap (λ l. l ++ feeds_after line rest) (text_feeds line given p.text)
    ∙ append-again given (replicate (feeds_of p.text) (feed line)) (feeds_after line rest)
    ∙ ap (λ l. given ++ l) (replicate-append-replicate (feeds_of p.text) (feeds_of (bytes_of rest)) (feed line) ∙ ap (λ k. replicate k (feed line)) (sym (feeds_append p.text (bytes_of rest))))

-- ---- what is after a call

bind_same : {A B : Type 0} (o : Result A Refusal) (f g : A → Result B Refusal) → ((a : A) → f a ≡ g a) → (o >>= f) ≡ (o >>= g)
bind_same (Ok a) f g h = h a
bind_same (Err fault) f g h = refl

walk_nothing : (table : List Macro) (inner : Expander) (k : ℕ) (hidden : List ℕ) (given : Given) → walk table inner k hidden [] given ≡ Ok given
unfolding walk
walk_nothing table inner zero hidden given = refl
walk_nothing table inner (suc k) hidden given = refl

-- more steps than pieces change nothing
walk_enough : (table : List Macro) (inner : Expander) (j k : ℕ) (hidden : List ℕ) (rest : List Piece) (given : Given) → length rest ≤ j → length rest ≤ k → walk table inner j hidden rest given ≡ walk table inner k hidden rest given
unfolding walk
walk_enough table inner j k hidden [] given lj lk = walk_nothing table inner j hidden given ∙ sym (walk_nothing table inner k hidden given)
walk_enough table inner zero k hidden (p ∷ rest) given lj lk = absurd (omega (arith, lj))
walk_enough table inner (suc j) zero hidden (p ∷ rest) given lj lk = absurd (omega (arith, lk))
walk_enough table inner (suc j) (suc k) hidden (p ∷ rest) given lj lk =
    bind_same (step table inner hidden p rest given) _ _
    (λ s. let short = length-drop s.0 rest in walk_enough table inner j k hidden (drop s.0 rest) s.1 (omega (arith, short, lj)) (omega (arith, short, lk)))

called_puts : (table : List Macro) (n : ℕ) (hidden : List ℕ) (p : Piece) (place : ℕ) (m : Macro) (given : Given) (call rest : List Piece) (raw : List (List Piece)) (made : Outcome)
    → replaced (expand_in table n) p.line hidden place m given raw ≡ made
    → (called (expand_in table n) p hidden place m given call (Some raw) >>= (λ s. walk table (expand_in table n) (length (call ++ rest)) hidden (drop s.0 (call ++ rest)) s.1))
    ≡ (made >>= (λ done. walk table (expand_in table n) (length rest) hidden rest (done.0 ++ feeds_after p.line call, done.1)))
unfolding called
called_puts table n hidden p place m given call rest raw made is = rw is (by made)
  where
    by : (o : Outcome) → (after_call p.line call o >>= (λ s. walk table (expand_in table n) (length (call ++ rest)) hidden (drop s.0 (call ++ rest)) s.1))
        ≡ (o >>= (λ done. walk table (expand_in table n) (length rest) hidden rest (done.0 ++ feeds_after p.line call, done.1)))
    by (Ok g) =
        ap (λ l. walk table (expand_in table n) (length (call ++ rest)) hidden l (with_feeds p.line g.0 call, g.1)) (drop_whole call rest)
        ∙ (let long = length-append call rest in walk_enough table (expand_in table n) (length (call ++ rest)) (length rest) hidden rest (with_feeds p.line g.0 call, g.1) (omega (arith, long)) (omega arith))
        ∙ ap (λ l. walk table (expand_in table n) (length rest) hidden rest (l, g.1)) (call_feeds p.line g.0 call)
    by (Err fault) = refl

pub calls-replace : CallsReplaceNames
unfolding expand_in walk
calls-replace table n line place arity hidden p m call rest given sum sum' raw full out names takes c share expanded is =
    ap (λ s. s >>= (λ t. walk table (expand_in table n) (length (call ++ rest)) hidden (drop t.0 (call ++ rest)) t.1)) (step_call table (expand_in table n) hidden p call rest given place arity m raw names takes c)
    ∙ called_puts table n hidden p place m given call rest raw (expand_in table n p.line (hidden ++ place ∷ []) out (given.0, sum')) (replaced_is table n p.line hidden place m given sum sum' raw full out share expanded (substituted_is is))
