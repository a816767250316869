-- What callers need for `finish`: fixes that are ready stay so, and one fix more is ready.
use Rattle.std.proofs.Common.{◌≡◌, ◌≢◌, ℕ, zero, suc, List, [], ◌∷◌, ◌++◌, set, Option, Some, None, sym, ap, ◌∙◌, arith, get_or-set_other}
use Rattle.std.specs.List.{All}
use Rattle.std.proofs.lemmas.List.Elements.{All-append}
use Rattle.std.proofs.lemmas.Option.{none-some}
use Rattle.lg_buf.specs.declared.fixes.Fix.{Fix}
use Rattle.lg_buf.specs.Buffers.{IsReady, place_of}

-- one fix
pub ready_one : (labels : List (Option ℕ)) (f : Fix) → IsReady labels f → All (IsReady labels) (f ∷ [])
ready_one labels f ready zero d below = ready
ready_one labels f ready (suc k) d below = absurd (omega (arith, below))

-- one fix more
pub ready_push : (labels : List (Option ℕ)) (fixes : List Fix) (f : Fix) → All (IsReady labels) fixes → IsReady labels f → All (IsReady labels) (fixes ++ f ∷ [])
ready_push labels fixes f all ready = All-append (IsReady labels) fixes (f ∷ []) all (ready_one labels f ready)

-- a label more is bound
pub ready_bind : (labels : List (Option ℕ)) (label place : ℕ) (f : Fix) → place_of labels label ≡ None → IsReady labels f → IsReady (set labels label (Some place)) f
ready_bind labels label place f unbound ready =
    let other : f.label.0 ≢ label = λ same. none-some _ (sym unbound ∙ ap (place_of labels) (sym same) ∙ ready.1) in
    (ready.0, get_or-set_other labels label f.label.0 (Some place) None other ∙ ready.1, ready.2)
