-- Expansions, piece by piece.
use Rattle.std.proofs.Common.{◌≡◌, ℕ, zero, suc, ◌+◌, ◌-◌, ◌<◌, ◌≤◌, List, [], ◌∷◌, ◌++◌, length, length-drop, drop, get_or, refl, sym, ap, ◌∙◌, arith, take, subst, IsErrAnd, Result, Option, option_map, Some, None, Ok, Err}
use Rattle.std.specs.Global.{Vec}
use Rattle.lg_base.specs.declared.refusal.Stop.{Stop}
use Rattle.lg_base.specs.declared.refusal.Stop.TheVariants.{Refused, OutOfMemory}
use Rattle.lg_macro.specs.Arguments.{with_feeds, opening, closing, arguments_of}
use Rattle.std.proofs.Math.Seq.{drop-cons}
use Rattle.std.proofs.lemmas.List.{drop_all, drop-drop, length-take-le}
use Rattle.lg_macro.specs.Pieces.{Piece, piece_at, between}
use Rattle.lg_macro.specs.Macros.{counted, CountsAs, StepsAs}
use Rattle.lg_replacement.specs.Expansion.{Given, Expander, walk, each, step, expand_in, put, replaced, called, opened, EachAs}
use Rattle.lg_macro.specs.declared.macros.Macro.{Macro}
use Rattle.lg_base.specs.declared.refusal.Refusal.{Refusal}
use Rattle.lg_base.specs.declared.refusal.RefusalKind.TheVariants.{BadMacro, ExpandTooMuch}
use Rattle.lg_macro.proofs.CallLemmas.{drop_piece}

-- no level is left
pub expand_none : (table : List Macro) (levels line : ℕ) (hidden : List ℕ) (pieces : List Piece) (given : Given) → levels ≡ 0 → expand_in table levels line hidden pieces given ≡ Err (record { kind = ExpandTooMuch; line = line })
unfolding expand_in
expand_none table levels line hidden pieces given e = rw e refl

-- a level is left
pub expand_begun : (table : List Macro) (levels line : ℕ) (hidden : List ℕ) (pieces : List Piece) (given : Given) → 0 < levels → walk table (expand_in table (levels - 1)) (length pieces) hidden pieces given ≡ expand_in table levels line hidden pieces given
unfolding expand_in
expand_begun table zero line hidden pieces given h = absurd (omega (arith, h))
expand_begun table (suc n) line hidden pieces given h = let e : suc n - 1 ≡ n = omega arith in rw e refl

walk_end : (table : List Macro) (inner : Expander) (k : ℕ) (hidden : List ℕ) (given : Given) → walk table inner k hidden [] given ≡ Ok given
unfolding walk
walk_end table inner zero hidden given = refl
walk_end table inner (suc k) hidden given = refl

pub walk_done : (table : List Macro) (inner : Expander) (k at : ℕ) (hidden : List ℕ) (pieces : List Piece) (given : Given) → length pieces ≤ at → walk table inner k hidden (drop at pieces) given ≡ Ok given
walk_done table inner k at hidden pieces given h = rw (drop_all at pieces h) (walk_end table inner k hidden given)

walk_on : (table : List Macro) (inner : Expander) (k : ℕ) (hidden : List ℕ) (p : Piece) (rest : List Piece) (given next : Given) (n : ℕ) → 0 < k → step table inner hidden p rest given ≡ Ok (n, next) → walk table inner k hidden (p ∷ rest) given ≡ walk table inner (k - 1) hidden (drop n rest) next
unfolding walk
walk_on table inner zero hidden p rest given next n h e = absurd (omega (arith, h))
walk_on table inner (suc k) hidden p rest given next n h e = let one : suc k - 1 ≡ k = omega arith in rw (one, e) refl

-- one step further
pub walk_more : (table : List Macro) (inner : Expander) (k at : ℕ) (hidden : List ℕ) (pieces : List Piece) (given next : Given) (n : ℕ) → at < length pieces → length pieces ≤ at + k → step table inner hidden (piece_at pieces at) (drop (at + 1) pieces) given ≡ Ok (n, next) → walk table inner (k - 1) hidden (drop (at + (1 + n)) pieces) next ≡ walk table inner k hidden (drop at pieces) given
walk_more table inner k at hidden pieces given next n h room e =
    rw (drop_piece pieces at h) (sym (walk_on table inner k hidden (piece_at pieces at) (drop (at + 1) pieces) given next n (omega arith) e ∙ rw (drop-drop n (at + 1) pieces) (let same : at + 1 + n ≡ at + (1 + n) = omega arith in rw same refl)))

walk_halts : (table : List Macro) (inner : Expander) (k : ℕ) (hidden : List ℕ) (p : Piece) (rest : List Piece) (given : Given) (fault : Refusal) → 0 < k → step table inner hidden p rest given ≡ Err fault → walk table inner k hidden (p ∷ rest) given ≡ Err fault
unfolding walk
walk_halts table inner zero hidden p rest given fault h e = absurd (omega (arith, h))
walk_halts table inner (suc k) hidden p rest given fault h e = rw e refl

pub walk_stop : (table : List Macro) (inner : Expander) (k at : ℕ) (hidden : List ℕ) (pieces : List Piece) (given : Given) (fault : Refusal) → at < length pieces → length pieces ≤ at + k → step table inner hidden (piece_at pieces at) (drop (at + 1) pieces) given ≡ Err fault → walk table inner k hidden (drop at pieces) given ≡ Err fault
walk_stop table inner k at hidden pieces given fault h room e =
    rw (drop_piece pieces at h) (walk_halts table inner k hidden (piece_at pieces at) (drop (at + 1) pieces) given fault (omega arith) e)

-- ---- arguments, one after the other

pub drop_argument : (raw : List (List Piece)) (i : ℕ) (a : List Piece) → i < length raw → a ≡ get_or raw i a → drop i raw ≡ a ∷ drop (i + 1) raw
drop_argument raw i a h is = drop-cons raw i a h ∙ rw (← is) (let one : suc i ≡ i + 1 = omega arith in rw one refl)

pub each_more : (inner : Expander) (line : ℕ) (hidden : List ℕ) (raw done : List (List Piece)) (i sum next : ℕ) (a full : List Piece) → i < length raw → a ≡ get_or raw i a → inner line hidden a ([], sum) ≡ Ok (full, next) → each inner line hidden (drop (i + 1) raw) (done ++ full ∷ []) next ≡ each inner line hidden (drop i raw) done sum
unfolding each
each_more inner line hidden raw done i sum next a full h is e = rw (drop_argument raw i a h is, e) refl

pub each_stop : (inner : Expander) (line : ℕ) (hidden : List ℕ) (raw done : List (List Piece)) (i sum : ℕ) (a fresh : List Piece) (fault : Refusal) → i < length raw → a ≡ get_or raw i a → fresh ≡ [] → inner line hidden a (fresh, sum) ≡ Err fault → each inner line hidden (drop i raw) done sum ≡ Err fault
unfolding each
each_stop inner line hidden raw done i sum a fresh fault h is empty e = rw (drop_argument raw i a h is, subst (λ (f : List Piece). inner line hidden a (f, sum) ≡ Err fault) empty e) refl

pub each_done : (inner : Expander) (line : ℕ) (hidden : List ℕ) (raw done : List (List Piece)) (i sum : ℕ) → length raw ≤ i → each inner line hidden (drop i raw) done sum ≡ Ok (done, sum)
unfolding each
each_done inner line hidden raw done i sum h = rw (drop_all i raw h) refl

pub each_next : (inner : Expander) (line : ℕ) (hidden : List ℕ) (raw done new : List (List Piece)) (i sum next : ℕ) (a fresh full : List Piece) → i < length raw → a ≡ get_or raw i a → fresh ≡ [] → inner line hidden a (fresh, sum) ≡ Ok (full, next) → CountsAs {A = List (List Piece)} (Ok tt) new (Ok (done ++ full ∷ [])) → each inner line hidden (drop (i + 1) raw) new next ≡ each inner line hidden (drop i raw) done sum
each_next inner line hidden raw done new i sum next a fresh full h is empty e more =
    let same : done ++ full ∷ [] ≡ new = cc in
    let e2 : inner line hidden a ([], sum) ≡ Ok (full, next) = subst (λ (f : List Piece). inner line hidden a (f, sum) ≡ Ok (full, next)) empty e in
    rw (← same) (each_more inner line hidden raw done i sum next a full h is e2)

-- ---- a macro with its arguments

pub replaced_uncounted : (inner : Expander) (line : ℕ) (hidden : List ℕ) (place : ℕ) (m : Macro) (given : Given) (raw : List (List Piece)) (fault : Refusal) → counted line m given.1 ≡ Err fault → replaced inner line hidden place m given raw ≡ Err fault
unfolding replaced
replaced_uncounted inner line hidden place m given raw fault e = rw e refl

pub replaced_halts : (inner : Expander) (line : ℕ) (hidden h1 : List ℕ) (place : ℕ) (m : Macro) (given : Given) (s1 : ℕ) (raw : List (List Piece)) (fault : Refusal) → counted line m given.1 ≡ Ok s1 → h1 ≡ hidden → each inner line h1 raw [] s1 ≡ Err fault → replaced inner line hidden place m given raw ≡ Err fault
unfolding replaced
replaced_halts inner line hidden h1 place m given s1 raw fault e same e2 = rw (e, ← same, e2) refl

pub replaced_put : (inner : Expander) (line : ℕ) (hidden h1 h2 : List ℕ) (place : ℕ) (m : Macro) (out : List Piece) (sum s1 s2 : ℕ) (raw full slice : List (List Piece)) → counted line m sum ≡ Ok s1 → h1 ≡ hidden → each inner line h1 raw [] s1 ≡ Ok (full, s2) → h2 ≡ h1 → slice ≡ full → replaced inner line hidden place m (out, sum) raw ≡ put inner line h2 place m raw slice (out, s2)
unfolding replaced
replaced_put inner line hidden h1 h2 place m out sum s1 s2 raw full slice e same e2 same2 is = rw (e, ← same, e2, same2, is) refl

-- ---- calls

pub between_len : (from len : ℕ) (pieces : List Piece) → between from (from + len) pieces ≡ take len (drop from pieces)
between_len from len pieces = let e : from + len - from ≡ len = omega arith in rw e refl

pub arguments_some : (found : Option (Vec (List Piece))) (raw : Vec (List Piece)) (slice : List (List Piece)) (arity line1 line from len : ℕ) (pieces : List Piece) → option_map (λ v. v.items) found ≡ arguments_of arity line1 (between from (from + len) pieces) → found ≡ Some raw → slice ≡ raw.items → line1 ≡ line → Some slice ≡ arguments_of arity line (take len (drop from pieces))
arguments_some found raw slice arity line1 line from len pieces e is same on =
    ap Some same ∙ sym (ap (option_map (λ (v : Vec (List Piece)). v.items)) is) ∙ e ∙ ap (λ (l : ℕ). arguments_of arity l (between from (from + len) pieces)) on ∙ ap (arguments_of arity line) (between_len from len pieces)

pub arguments_none : (found : Option (Vec (List Piece))) (arity line1 line from len : ℕ) (pieces : List Piece) → option_map (λ v. v.items) found ≡ arguments_of arity line1 (between from (from + len) pieces) → found ≡ None → line1 ≡ line → None ≡ arguments_of arity line (take len (drop from pieces))
arguments_none found arity line1 line from len pieces e is on =
    sym (ap (option_map (λ (v : Vec (List Piece)). v.items)) is) ∙ e ∙ ap (λ (l : ℕ). arguments_of arity l (between from (from + len) pieces)) on ∙ ap (arguments_of arity line) (between_len from len pieces)

pub called_wrong : (inner : Expander) (p : Piece) (hidden : List ℕ) (place : ℕ) (m : Macro) (given : Given) (call : List Piece) (arguments : Option (List (List Piece))) (line : ℕ) → line ≡ p.line → None ≡ arguments → called inner p hidden place m given call arguments ≡ Err (record { kind = BadMacro; line = line })
unfolding called
called_wrong inner p hidden place m given call arguments line same e = rw (← e, same) refl

pub called_halts : (inner : Expander) (p : Piece) (hidden : List ℕ) (place : ℕ) (m : Macro) (given : Given) (call : List Piece) (raw : List (List Piece)) (arguments : Option (List (List Piece))) (line : ℕ) (fault : Refusal) → line ≡ p.line → Some raw ≡ arguments → replaced inner line hidden place m given raw ≡ Err fault → called inner p hidden place m given call arguments ≡ Err fault
unfolding called
called_halts inner p hidden place m given call raw arguments line fault same e e2 = rw (← e, ← same, e2) refl

called_gives : (inner : Expander) (p : Piece) (hidden : List ℕ) (place : ℕ) (m : Macro) (given next : Given) (call : List Piece) (raw : List (List Piece)) (arguments : Option (List (List Piece))) (line : ℕ) → line ≡ p.line → Some raw ≡ arguments → replaced inner line hidden place m given raw ≡ Ok next → called inner p hidden place m given call arguments ≡ Ok (length call, (with_feeds line next.0 call, next.1))
unfolding called
called_gives inner p hidden place m given next call raw arguments line same e e2 = rw (← e, ← same, e2) refl

-- the pieces of a call after its name
call_between : (at begun len : ℕ) (pieces : List Piece) → between (at + 1) (at + 1 + begun + len + 1) pieces ≡ take (begun + len + 1) (drop (at + 1) pieces)
call_between at begun len pieces = let e : at + 1 + begun + len + 1 - (at + 1) ≡ begun + len + 1 = omega arith in rw e refl

call_len : (at begun len : ℕ) (pieces : List Piece) → at + 1 + begun + len < length pieces → length (take (begun + len + 1) (drop (at + 1) pieces)) ≡ begun + len + 1
call_len at begun len pieces h = length-take-le (begun + len + 1) (drop (at + 1) pieces) (rw length-drop (omega arith))

pub called_done : (inner : Expander) (p : Piece) (hidden : List ℕ) (place : ℕ) (m : Macro) (given : Given) (out next : List Piece) (sum : ℕ) (at begun len : ℕ) (pieces : List Piece) (raw : List (List Piece)) (arguments : Option (List (List Piece))) (line : ℕ) → at + 1 + begun + len < length pieces → line ≡ p.line → Some raw ≡ arguments → replaced inner line hidden place m given raw ≡ Ok (out, sum) → next ≡ with_feeds line out (between (at + 1) (at + 1 + begun + len + 1) pieces) → called inner p hidden place m given (take (begun + len + 1) (drop (at + 1) pieces)) arguments ≡ Ok (begun + len + 1, (next, sum))
called_done inner p hidden place m given out next sum at begun len pieces raw arguments line h same e e2 fed =
    called_gives inner p hidden place m given (out, sum) (take (begun + len + 1) (drop (at + 1) pieces)) raw arguments line same e e2
    ∙ rw (call_len at begun len pieces h, fed, call_between at begun len pieces) refl

pub opened_called : (inner : Expander) (p : Piece) (hidden : List ℕ) (place : ℕ) (m : Macro) (given : Given) (pieces : List Piece) (at arity begun len : ℕ) → Some begun ≡ opening (drop (at + 1) pieces) → Some len ≡ closing 0 (drop (at + 1 + begun) pieces) → opened inner p hidden place m given (drop (at + 1) pieces) arity (opening (drop (at + 1) pieces)) ≡ called inner p hidden place m given (take (begun + len + 1) (drop (at + 1) pieces)) (arguments_of arity p.line (take len (drop (at + 1 + begun) pieces)))
unfolding opened
opened_called inner p hidden place m given pieces at arity begun len e e2 = rw (← e, drop-drop begun (at + 1) pieces, ← e2) (ap (λ (l : List Piece). called inner p hidden place m given (take (begun + len + 1) (drop (at + 1) pieces)) (arguments_of arity p.line (take len l))) (drop-drop begun (at + 1) pieces))

pub opened_wrong : (inner : Expander) (p : Piece) (hidden : List ℕ) (place : ℕ) (m : Macro) (given : Given) (pieces : List Piece) (at arity begun line : ℕ) → line ≡ p.line → Some begun ≡ opening (drop (at + 1) pieces) → None ≡ closing 0 (drop (at + 1 + begun) pieces) → opened inner p hidden place m given (drop (at + 1) pieces) arity (opening (drop (at + 1) pieces)) ≡ Err (record { kind = BadMacro; line = line })
unfolding opened
opened_wrong inner p hidden place m given pieces at arity begun line same e e2 = rw (← e, drop-drop begun (at + 1) pieces, ← e2, same) refl

-- ---- a call in the code that stops

abbrev pub Blames : {A : Type 0} → Stop → Result A Refusal → Type 0
Blames OutOfMemory read = Unit {0}
Blames (Refused fault) read = read ≡ Err fault

pub counts_blames : {A B : Type 0} (stop : Stop) (new : A) (read : Result A Refusal) (whole : Result B Refusal) → CountsAs (Err stop) new read → ((fault : Refusal) → read ≡ Err fault → whole ≡ Err fault) → Blames stop whole
counts_blames OutOfMemory new read whole is on = tt
counts_blames (Refused fault) new read whole is on = on fault is

pub steps_blames : {A B : Type 0} (stop : Stop) (new : A) (read : Result (ℕ × A) Refusal) (whole : Result B Refusal) → StepsAs (Err stop) new read → ((fault : Refusal) → read ≡ Err fault → whole ≡ Err fault) → Blames stop whole
steps_blames OutOfMemory new read whole is on = tt
steps_blames (Refused fault) new read whole is on = on fault is

pub each_blames : {B : Type 0} (stop : Stop) (sum : ℕ) (read : Result (List (List Piece) × ℕ) Refusal) (whole : Result B Refusal) → EachAs (Err stop) sum read → ((fault : Refusal) → read ≡ Err fault → whole ≡ Err fault) → Blames stop whole
each_blames OutOfMemory sum read whole is on = tt
each_blames (Refused fault) sum read whole is on = on fault is

pub counts_stop : {A : Type 0} (r : Result (Unit {0}) Stop) (stop : Stop) (new : A) (whole : Result A Refusal) → IsErrAnd r (λ e. e ≡ stop) → Blames stop whole → CountsAs r new whole
counts_stop (Ok u) stop new whole is blames = absurd is
counts_stop (Err OutOfMemory) stop new whole is blames = tt
counts_stop {A} (Err (Refused fault)) stop new whole is blames = subst (λ (e : Stop). Blames {A = A} e whole) (sym is) blames

pub steps_stop : {A : Type 0} (r : Result ℕ Stop) (stop : Stop) (new : A) (whole : Result (ℕ × A) Refusal) → IsErrAnd r (λ e. e ≡ stop) → Blames stop whole → StepsAs r new whole
steps_stop (Ok n) stop new whole is blames = absurd is
steps_stop (Err OutOfMemory) stop new whole is blames = tt
steps_stop {A} (Err (Refused fault)) stop new whole is blames = subst (λ (e : Stop). Blames {A = ℕ × A} e whole) (sym is) blames

pub eachs_stop : (r : Result (Vec (List Piece)) Stop) (stop : Stop) (sum : ℕ) (whole : Result (List (List Piece) × ℕ) Refusal) → IsErrAnd r (λ e. e ≡ stop) → Blames stop whole → EachAs r sum whole
eachs_stop (Ok v) stop sum whole is blames = absurd is
eachs_stop (Err OutOfMemory) stop sum whole is blames = tt
eachs_stop (Err (Refused fault)) stop sum whole is blames = subst (λ (e : Stop). Blames {A = List (List Piece) × ℕ} e whole) (sym is) blames
