-- From what is guessed to what is answered.
use Rattle.std.proofs.Common.{◌≡◌, ℕ, List, ◌++◌, length, drop, Bool, true, false, Option, Some, None, refl, sym, ap, subst, ◌∙◌, nat_eq}
use Rattle.std.specs.Prelude.{IfSome, if◌then◌else◌}
use Rattle.std.specs.List.{starts_with}
use Rattle.std.proofs.lemmas.Slice.Eq.{starts_is}
use Rattle.std.proofs.lemmas.Bool.Decides.{Decides-eqb}
use Rattle.lg_x86.specs.declared.instruction.Instr.{Instr}
use Rattle.lg_base.specs.Fronts.{BeginsWith}
use Rattle.lg_x86.specs.Spelling.{IsInstr, spelling}
use Rattle.lg_x86.specs.Reading.{checked, guess_of}
use Rattle.lg_x86.proofs.AgainLemmas.{guess_again}

-- the spelling of an instruction, whatever follows, is answered with the instruction
pub checked_again : (bytes : List ℕ) (i : Instr) (more : List ℕ) → IsInstr i → bytes ≡ spelling i ++ more → checked bytes (guess_of bytes) ≡ Some (i, length (spelling i))
checked_again bytes i more ok e =
    let test = (starts_is Decides-eqb bytes (spelling i) (starts_with nat_eq bytes (spelling i)) refl).1 more e in
    ap (checked bytes) (ap guess_of e ∙ guess_again i more ok)
    ∙ ap (λ t. if t then Some (i, length (spelling i)) else None) test

tested : (bytes : List ℕ) (i : Instr) (t : Bool) → starts_with nat_eq bytes (spelling i) ≡ t → (r : Option (Instr × ℕ)) → r ≡ (if t then Some (i, length (spelling i)) else None) → IfSome r (λ found. IsInstr found.0) → IfSome r (λ found. BeginsWith spelling IsInstr bytes found.0 × (found.1 ≡ length (spelling found.0)))
tested bytes i true e None same ok = tt
tested bytes i true e (Some found) same ok =
    let is : found ≡ (i, length (spelling i)) = cc in
    let front = (starts_is Decides-eqb bytes (spelling i) (starts_with nat_eq bytes (spelling i)) refl).0 e in
    let Holds : Instr × ℕ → Type 0 = λ f. BeginsWith spelling IsInstr bytes f.0 × (f.1 ≡ length (spelling f.0)) in
    let valid : IsInstr i = let Valid : Instr × ℕ → Type 0 = λ f. IsInstr f.0 in subst Valid is ok in
    subst Holds (sym is) ((valid, drop (length (spelling i)) bytes, front), refl)
tested bytes i false e None same ok = tt
tested bytes i false e (Some found) same ok = absurd (let no : ⊥ = cc in no)

-- what is answered is spelled by the bytes in front
pub checked_front : (bytes : List ℕ) (guess : Option Instr) (r : Option (Instr × ℕ)) → r ≡ checked bytes guess → IfSome r (λ found. IsInstr found.0) → IfSome r (λ found. BeginsWith spelling IsInstr bytes found.0 × (found.1 ≡ length (spelling found.0)))
checked_front bytes None None same ok = tt
checked_front bytes None (Some found) same ok = absurd (let no : ⊥ = cc in no)
checked_front bytes (Some i) r same ok = tested bytes i (starts_with nat_eq bytes (spelling i)) refl r same ok
