-- The replacement of macros in a list of pieces.
use Rattle.std.specs.Prelude.{◌≡◌, ℕ, zero, suc, ◌+◌, ◌==◌, not, ◌&&◌, if◌then◌else◌, List, [], ◌∷◌, ◌++◌, length, take, drop, slice_get, Option, Some, None, Result, Ok, Err}
use Rattle.std.specs.List.{list_any}
use Rattle.lg_macro.specs.Arguments.{opening, closing, arguments_of, with_feeds}
use Rattle.lg_base.specs.Refusals.{◌>>=◌, refuse}
use Rattle.lg_macro.specs.Macros.{place_in, counted}
use Rattle.lg_macro.specs.Pieces.{Piece, is_word, froze}
use Rattle.lg_macro.specs.Substitution.{substituted}
use Rattle.lg_macro.specs.declared.macros.Macro.{Macro}
use Rattle.lg_base.specs.declared.refusal.Refusal.{Refusal}
use Rattle.lg_base.specs.declared.refusal.Stop.{Stop}
use Rattle.lg_base.specs.declared.refusal.Stop.TheVariants.{Refused, OutOfMemory}
use Rattle.std.specs.Global.{Vec}
use Rattle.lg_base.specs.declared.refusal.RefusalKind.TheVariants.{BadMacro, ExpandTooMuch}

-- the pieces that are given so far, and the sum of all replacements so far
abbrev pub Given : Type 0
Given = List Piece × ℕ

abbrev pub Outcome : Type 0
Outcome = Result Given Refusal

-- what an expansion makes of what is given so far: by the line of the outermost name, the hidden names, and the pieces to expand
abbrev pub Expander : Type 0
Expander = ℕ → List ℕ → List Piece → Given → Outcome

-- one name and what belongs to it is done: how many pieces after it, and what is given then
abbrev pub Step : Type 0
Step = Result (ℕ × Given) Refusal

-- a piece that stays
abbrev pub kept : Piece → Given → Step
kept p given = Ok (0, (given.0 ++ p ∷ [], given.1))

-- the macro that a piece names
abbrev pub named : List Macro → Piece → Option ℕ
named table p = if is_word p.kind && not p.frozen then place_in table p.text else None

-- the body with its arguments, expanded with the name hidden besides
unfoldable pub put : Expander → ℕ → List ℕ → ℕ → Macro → List (List Piece) → List (List Piece) → Given → Outcome
put inner line hidden place m raw full given = inner line (hidden ++ place ∷ []) (substituted line m.body m.marks raw full) given

abbrev pub after_name : Outcome → Step
after_name outcome = outcome >>= (λ given. Ok (0, given))

abbrev pub put_name : Expander → Piece → List ℕ → ℕ → Macro → List Piece → ℕ → Step
put_name inner p hidden place m given sum = after_name (put inner p.line hidden place m [] [] (given, sum))

-- a name without parameters
unfoldable pub object : Expander → Piece → List ℕ → ℕ → Macro → Given → Step
object inner p hidden place m given = counted p.line m given.1 >>= put_name inner p hidden place m given.0

-- the arguments expanded, one after the other
unfoldable pub each : Expander → ℕ → List ℕ → List (List Piece) → List (List Piece) → ℕ → Result (List (List Piece) × ℕ) Refusal
each inner line hidden [] done sum = Ok (done, sum)
each inner line hidden (a ∷ more) done sum = inner line hidden a ([], sum) >>= (λ given. each inner line hidden more (done ++ given.0 ∷ []) given.1)

-- the line feeds of a call follow what it gives
abbrev pub after_call : ℕ → List Piece → Outcome → Step
after_call line call outcome = outcome >>= (λ given. Ok (length call, (with_feeds line given.0 call, given.1)))

abbrev pub put_full : Expander → ℕ → List ℕ → ℕ → Macro → List Piece → List (List Piece) → List (List Piece) × ℕ → Outcome
put_full inner line hidden place m given raw full = put inner line hidden place m raw full.0 (given, full.1)

-- a macro with its arguments: its share of the sum, then the arguments, then the result
unfoldable pub replaced : Expander → ℕ → List ℕ → ℕ → Macro → Given → List (List Piece) → Outcome
replaced inner line hidden place m given raw = counted line m given.1
    >>= (λ sum. each inner line hidden raw [] sum >>= put_full inner line hidden place m given.0 raw)

-- a call, by its pieces after the name and its arguments
unfoldable pub called : Expander → Piece → List ℕ → ℕ → Macro → Given → List Piece → Option (List (List Piece)) → Step
called inner p hidden place m given call None = refuse BadMacro p.line
called inner p hidden place m given call (Some raw) = after_call p.line call (replaced inner p.line hidden place m given raw)

-- a call, by the place of its )
abbrev pub closed : Expander → Piece → List ℕ → ℕ → Macro → Given → List Piece → ℕ → ℕ → Option ℕ → Step
closed inner p hidden place m given rest arity begun None = refuse BadMacro p.line
closed inner p hidden place m given rest arity begun (Some len) =
    called inner p hidden place m given (take (begun + len + 1) rest) (arguments_of arity p.line (take len (drop begun rest)))

-- a name with parameters, by the place of the (: without it the name stays
unfoldable pub opened : Expander → Piece → List ℕ → ℕ → Macro → Given → List Piece → ℕ → Option ℕ → Step
opened inner p hidden place m given rest arity None = kept p given
opened inner p hidden place m given rest arity (Some begun) = closed inner p hidden place m given rest arity begun (closing 0 (drop begun rest))

abbrev pub by_arity : Expander → Piece → List ℕ → ℕ → Macro → Given → List Piece → Option ℕ → Step
by_arity inner p hidden place m given rest None = object inner p hidden place m given
by_arity inner p hidden place m given rest (Some arity) = opened inner p hidden place m given rest arity (opening rest)

-- a name that is replaced where it may be; a hidden one is frozen for good
unfoldable pub at_macro : Expander → Piece → List ℕ → ℕ → Given → List Piece → Option Macro → Step
at_macro inner p hidden place given rest None = kept p given
at_macro inner p hidden place given rest (Some m) =
    if list_any (λ h. h == place) hidden then kept (froze p) given else by_arity inner p hidden place m given rest m.arity

unfoldable pub at_name : List Macro → Expander → Piece → List ℕ → Given → List Piece → Option ℕ → Step
at_name table inner p hidden given rest None = kept p given
at_name table inner p hidden given rest (Some place) = at_macro inner p hidden place given rest (slice_get table place)

-- one piece, and what belongs to it
unfoldable pub step : List Macro → Expander → List ℕ → Piece → List Piece → Given → Step
step table inner hidden p rest given = at_name table inner p hidden given rest (named table p)

-- piece after piece, at most this many
unfoldable pub walk : List Macro → Expander → ℕ → List ℕ → List Piece → Given → Outcome
walk table inner k hidden [] given = Ok given
walk table inner zero hidden (p ∷ rest) given = Ok given
walk table inner (suc k) hidden (p ∷ rest) given =
    step table inner hidden p rest given >>= (λ s. walk table inner k hidden (drop s.0 rest) s.1)

-- an expansion in which this many further ones may be nested: none at all where no level is left
unfoldable pub expand_in : List Macro → ℕ → Expander
expand_in table zero line hidden pieces given = refuse ExpandTooMuch line
expand_in table (suc n) line hidden pieces given = walk table (expand_in table n) (length pieces) hidden pieces given

-- ---- what the calls of the code answer

-- the same of a call that gives arguments
abbrev pub EachAs : Result (Vec (List Piece)) Stop → ℕ → Result (List (List Piece) × ℕ) Refusal → Type 0
EachAs (Ok v) sum read = read ≡ Ok (v.items, sum)
EachAs (Err OutOfMemory) sum read = Unit {0}
EachAs (Err (Refused fault)) sum read = read ≡ Err fault
