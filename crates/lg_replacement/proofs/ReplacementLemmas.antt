-- Pieces that name no macro, hidden names, and names without parameters.
use Rattle.std.proofs.Common.{◌≡◌, ℕ, suc, ◌-◌, ◌<◌, Bool, true, false, List, [], ◌∷◌, ◌++◌, length, map, drop, slice_get, Some, None, Ok, Err, refl, sym, ap, ◌∙◌, arith}
use Rattle.std.specs.Prelude.{◌&&◌, if◌then◌else◌, Result}
use Rattle.std.specs.List.{AllByRecursion}
use Rattle.std.proofs.lemmas.List.{append-nil}
use Rattle.lg_base.specs.Refusals.{◌>>=◌}
use Rattle.lg_base.specs.declared.refusal.Refusal.{Refusal}
use Rattle.lg_replacement.specs.Expansion.{Given, Expander, Outcome, kept, named, after_name, put, put_name, object, each, at_macro, at_name, step, walk, expand_in}
use Rattle.lg_macro.specs.Macros.{counted, place_in}
use Rattle.lg_macro.specs.Pieces.{Piece, froze, on_line, is_word}
use Rattle.lg_macro.specs.Substitution.{filled, substituted}
use Rattle.lg_macro.specs.declared.macros.Macro.{Macro}
use Rattle.lg_macro.specs.declared.macros.Mark.{Mark}
use Rattle.lg_replacement.specs.Replacements.{NameNothing, OthersStay, is_hidden, HiddenNamesStay, StandsForItself, IsPlain, BodiesReplaceNames}

pub append-again : {A : Type 0} (xs ys zs : List A) → (xs ++ ys) ++ zs ≡ xs ++ (ys ++ zs)
append-again [] ys zs = refl
append-again (x ∷ xs) ys zs = ap (λ l. x ∷ l) (append-again xs ys zs)

-- ---- one step
step-none : (table : List Macro) (inner : Expander) (hidden : List ℕ) (p : Piece) (rest : List Piece) (given : Given) → named table p ≡ None → step table inner hidden p rest given ≡ kept p given
unfolding step at_name
step-none table inner hidden p rest given e = rw e refl

step-hidden : (table : List Macro) (inner : Expander) (hidden : List ℕ) (p : Piece) (rest : List Piece) (given : Given) (place : ℕ) (m : Macro) → named table p ≡ Some place → slice_get table place ≡ Some m → is_hidden hidden place ≡ true → step table inner hidden p rest given ≡ kept (froze p) given
unfolding step at_name at_macro
step-hidden table inner hidden p rest given place m e at h = rw (e, at, h) refl

pub step-object : (table : List Macro) (inner : Expander) (hidden : List ℕ) (p : Piece) (rest : List Piece) (given : Given) (place : ℕ) (m : Macro) → named table p ≡ Some place → slice_get table place ≡ Some m → is_hidden hidden place ≡ false → m.arity ≡ None → step table inner hidden p rest given ≡ object inner p hidden place m given
unfolding step at_name at_macro
step-object table inner hidden p rest given place m e at h o = rw (e, at, h, o) refl

-- ---- pieces that name nothing
walk-none : (table : List Macro) (inner : Expander) (hidden : List ℕ) (pieces : List Piece) (given : Given) → NameNothing table pieces → walk table inner (length pieces) hidden pieces given ≡ Ok (given.0 ++ pieces, given.1)
unfolding walk
walk-none table inner hidden [] given h = ap (λ l. Ok (l, given.1)) (sym (append-nil given.0))
walk-none table inner hidden (p ∷ rest) given h =
    ap (λ s. s >>= (λ t. walk table inner (length rest) hidden (drop t.0 rest) t.1)) (step-none table inner hidden p rest given h.0)
    ∙ walk-none table inner hidden rest (given.0 ++ p ∷ [], given.1) h.1
    ∙ ap (λ l. Ok (l, given.1)) (append-again given.0 (p ∷ []) rest)

pub others-stay : OthersStay
unfolding expand_in
others-stay table n line hidden pieces given h = walk-none table (expand_in table n) hidden pieces given h

-- arguments that name nothing are expanded as they are
pub each-none : (table : List Macro) (n line : ℕ) (hidden : List ℕ) (raw done : List (List Piece)) (sum : ℕ) → AllByRecursion (NameNothing table) raw
    → each (expand_in table (suc n)) line hidden raw done sum ≡ Ok (done ++ raw, sum)
unfolding each
each-none table n line hidden [] done sum h = ap (λ l. Ok (l, sum)) (sym (append-nil done))
each-none table n line hidden (a ∷ raw) done sum h =
    ap (λ (o : Outcome). o >>= (λ given. each (expand_in table (suc n)) line hidden raw (done ++ given.0 ∷ []) given.1)) (others-stay table n line hidden a ([], sum) h.0)
    ∙ each-none table n line hidden raw (done ++ a ∷ []) sum h.1
    ∙ ap (λ l. Ok (l, sum)) (append-again done (a ∷ []) raw)

pub each-plain : (table : List Macro) (levels line : ℕ) (hidden : List ℕ) (raw : List (List Piece)) (sum : ℕ) → 0 < levels → AllByRecursion (NameNothing table) raw
    → each (expand_in table levels) line hidden raw [] sum ≡ Ok (raw, sum)
each-plain table levels line hidden raw sum some h =
    let e : levels ≡ suc (levels - 1) = omega (arith, some) in
    rw e (each-none table (levels - 1) line hidden raw [] sum h)

-- ---- hidden names
frozen-none : (later : List Macro) (p : Piece) → named later (froze p) ≡ None
frozen-none later p = by (is_word p.kind)
  where
    by : (b : Bool) → (if b && false then place_in later p.text else None) ≡ None
    by true = refl
    by false = refl

pub hidden-stay : HiddenNamesStay
unfolding expand_in walk
hidden-stay table n line place hidden p m rest given e at h = (stays, λ later. frozen-none later p)
  where
    stays : walk table (expand_in table n) (suc (length rest)) hidden (p ∷ rest) given ≡ walk table (expand_in table n) (length rest) hidden rest (given.0 ++ froze p ∷ [], given.1)
    stays = ap (λ s. s >>= (λ t. walk table (expand_in table n) (length rest) hidden (drop t.0 rest) t.1)) (step-hidden table (expand_in table n) hidden p rest given place m e at h)

-- ---- bodies
filled-plain : (line : ℕ) (body : List Piece) (marks : List Mark) (done now : List Piece) → length marks ≡ length body → AllByRecursion StandsForItself marks → filled line body marks [] [] done now ≡ (done ++ now) ++ map (on_line line) body
unfolding filled
filled-plain line [] [] done now e h = sym (append-nil (done ++ now))
filled-plain line [] (mark ∷ marks) done now e h = absurd (omega (arith, e))
filled-plain line (p ∷ body) [] done now e h = absurd (omega (arith, e))
filled-plain line (p ∷ body) (mark ∷ marks) done now e h =
    rw (h.0.0, h.0.1)
    (filled-plain line body marks (done ++ now) (on_line line p ∷ []) (omega (arith, e)) h.1 ∙ append-again (done ++ now) (on_line line p ∷ []) (map (on_line line) body))

plain-body : (line : ℕ) (m : Macro) → IsPlain m → substituted line m.body m.marks [] [] ≡ map (on_line line) m.body
unfolding substituted
plain-body line m h = filled-plain line m.body m.marks [] [] h.marked h.plain

-- an outcome with no piece taken after the name, and what follows
pub after-name : (o : Outcome) (rest : List Piece) (f : List Piece → Given → Outcome) → (after_name o >>= (λ t. f (drop t.0 rest) t.1)) ≡ (o >>= f rest)
after-name (Ok g) rest f = refl
after-name (Err fault) rest f = refl

object-puts : (table : List Macro) (n place : ℕ) (hidden : List ℕ) (p : Piece) (m : Macro) (given : Given) (rest : List Piece) (f : List Piece → Given → Outcome) → IsPlain m
    → (object (expand_in table n) p hidden place m given >>= (λ t. f (drop t.0 rest) t.1))
    ≡ ((counted p.line m given.1 >>= (λ sum. expand_in table n p.line (hidden ++ place ∷ []) (map (on_line p.line) m.body) (given.0, sum))) >>= f rest)
unfolding object put
object-puts table n place hidden p m given rest f h = by (counted p.line m given.1)
  where
    by : (c : Result ℕ Refusal) → ((c >>= put_name (expand_in table n) p hidden place m given.0) >>= (λ t. f (drop t.0 rest) t.1))
        ≡ ((c >>= (λ sum. expand_in table n p.line (hidden ++ place ∷ []) (map (on_line p.line) m.body) (given.0, sum))) >>= f rest)
    by (Ok sum) = rw (plain-body p.line m h) (after-name (expand_in table n p.line (hidden ++ place ∷ []) (map (on_line p.line) m.body) (given.0, sum)) rest f)
    by (Err fault) = refl

pub bodies-replace : BodiesReplaceNames
unfolding expand_in walk
bodies-replace table n line place hidden p m rest given e at h plain =
    ap (λ s. s >>= (λ t. walk table (expand_in table n) (length rest) hidden (drop t.0 rest) t.1)) (step-object table (expand_in table n) hidden p rest given place m e at h plain.object)
    ∙ object-puts table n place hidden p m given rest (λ behind now. walk table (expand_in table n) (length rest) hidden behind now) plain
