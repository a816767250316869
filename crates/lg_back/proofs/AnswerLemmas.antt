-- The answer for a listing, and for other texts.
use Rattle.std.proofs.Common.{◌≡◌, ℕ, List, Ok, Err, ap₂}
use Rattle.std.specs.Prelude.{Result}
use Rattle.lg_base.specs.declared.refusal.Refusal.{Refusal}
use Rattle.lg_base.specs.declared.refusal.RefusalKind.{RefusalKind}
use Rattle.lg_base.specs.declared.refusal.Stop.{Stop}
use Rattle.lg_base.specs.declared.refusal.Stop.TheVariants.{Refused, OutOfMemory}
use Rattle.lg_base.specs.declared.target.Target.{Target}
use Rattle.lg_list.specs.Back.{Back as IsBack}
use Rattle.lg_back.specs.declared.reader.Back.{Back}
use Rattle.lg_back.specs.Answers.{ReadsBack, GivesBack, IsRefusedAt}
use Rattle.lg_back.specs.Refused.{IsBadListing}
use Rattle.lg_back.proofs.ListLemmas.{back-one, bad-none, bad-one}

pub given-back : (text : List ℕ) (r : Result Back Stop) (t : Target) (bytes : List ℕ) → ReadsBack text r → IsBack text t bytes → GivesBack r t bytes
given-back text (Ok back) t bytes read is = back-one text back.target t back.bytes.items bytes read is
given-back text (Err OutOfMemory) t bytes read is = tt
given-back text (Err (Refused refusal)) t bytes read is = bad-none text refusal.line t bytes read.1 is

refusal-of : (kind : RefusalKind) (line : ℕ) (refusal : Refusal) → refusal.kind ≡ kind → refusal.line ≡ line → refusal ≡ record { kind = kind; line = line }
refusal-of kind line refusal a b = let R : RefusalKind → ℕ → Refusal = λ k l. record { kind = k; line = l } in ap₂ R a b

pub refused-at : (text : List ℕ) (r : Result Back Stop) (line : ℕ) → ReadsBack text r → IsBadListing text line → IsRefusedAt r line
refused-at text (Ok back) line read bad = bad-none text line back.target back.bytes.items bad read
refused-at text (Err OutOfMemory) line read bad = tt
refused-at text (Err (Refused refusal)) line read bad = refusal-of _ line refusal read.0 (bad-one text refusal.line line read.1 bad)
