-- A text is refused for one reason.
use Rattle.std.proofs.Common.{◌≡◌, ℕ, ◌≤◌, inl, inr, List, length, Option, Some, sym, ap, ◌∙◌, subst, arith, ⊎_elim}
use Rattle.std.specs.Prelude.{Result, Ok, Err}
use Rattle.std.proofs.lemmas.Bool.{cases_lt}
use Rattle.lg_base.specs.declared.refusal.Refusal.{Refusal}
use Rattle.lg_base.specs.declared.target.Target.{Target}
use Rattle.lg_command.specs.Commands.{Command}
use Rattle.lg_command.specs.Plans.{action_of, source_of}
use Rattle.lg_command.specs.declared.command.Mode.{Mode}
use Rattle.lg_command.specs.declared.plan.Action.TheVariants as action
use Rattle.lg_command.specs.declared.plan.Source.{Source}
use Rattle.lg_command.specs.declared.plan.Source.TheVariants as source
use Rattle.lg_command.proofs.PlanLemmas.{read_back}
use Rattle.lg_back.proofs.ListLemmas.{bad-none, bad-one}
use Rattle.lg_io.specs.NamedTexts.{NamedTexts}
use Rattle.lg_list.specs.Back.{Back}
use Rattle.lg_node.specs.Nodes.{LabelledNodes}
use Rattle.lg_node.specs.Checks.{IsAccepted, IsRefused, refusal_at}
use Rattle.lg_node.specs.declared.unit.Unit.{Unit as TextUnit}
use Rattle.lg_tst.specs.Units.{unit_of}
use Rattle.lg_run.specs.Made.{made}
use Rattle.lg_pre.specs.Expanded.{expanded}
use Rattle.lg_run.specs.Refused.{ArgumentsFit, Expands, IsExpandedUnder, IsRefusedAs, IsRefusedBack, IsRefusedCall, IsRefusedCode, IsRefusedExpansion, IsRefusedIn, IsRefusedListing, IsRefusedRead, IsRefusedText, IsRefusedUnder, IsRefusedUnit, IsTextIn, IsTextUnder, IsUnitOf, ListingsAreRefusedOnce, MayBeFull, TextsAreRefusedOnce, code_full, most_text}
use Rattle.lg_run.specs.Says.{IsListingUnder}
use Rattle.lg_run.proofs.SameLemmas.{none_some, ok_same, some_same}

checked_once : (l : LabelledNodes) (r q : Refusal) → IsRefused l r → IsRefused l q → r ≡ q
checked_once l r q (inl a) (inl b) =
    ⊎_elim (λ lt. absurd (none_some (sym (b.before a.at lt) ∙ a.here)))
    (λ ge. ⊎_elim (λ less. absurd (none_some (sym (a.before b.at less) ∙ b.here)))
    (λ more. let same : a.at ≡ b.at = omega (arith, ge, more) in some_same (sym a.here ∙ ap (refusal_at l) same ∙ b.here)) (cases_lt b.at a.at)) (cases_lt a.at b.at)
checked_once l r q (inl a) (inr b) = absurd (none_some (sym (b.nodes a.at a.within) ∙ a.here))
checked_once l r q (inr a) (inl b) = absurd (none_some (sym (a.nodes b.at b.within) ∙ b.here))
checked_once l r q (inr a) (inr b) = some_same (sym a.here ∙ b.here)

accepted_not : (l : LabelledNodes) (r : Refusal) → IsAccepted l → IsRefused l r → ⊥
accepted_not l r accepted (inl a) = none_some (sym (accepted.nodes a.at a.within) ∙ a.here)
accepted_not l r accepted (inr a) = none_some (sym accepted.end ∙ a.here)

code_once : (t : Target) (l : LabelledNodes) (size : ℕ) (r q : Refusal) → IsRefusedCode t l size r → IsRefusedCode t l size q → r ≡ q
code_once t l size r q a b = a.0 ∙ sym b.0

unit_once : (c : Command) (l : LabelledNodes) (r q : Refusal) → IsRefusedUnit c l r → IsRefusedUnit c l q → r ≡ q
unit_once c l r q (inl a) (inl b) = checked_once l r q a b
unit_once c l r q (inl a) (inr b) = absurd (accepted_not l r b.0 a)
unit_once c l r q (inr a) (inl b) = absurd (accepted_not l q a.0 b)
unit_once c l r q (inr a) (inr b) = code_once c.target l c.size r q a.1 b.1

as_once : (c : Command) (read : Result TextUnit Refusal) (r q : Refusal) → IsRefusedAs c read r → IsRefusedAs c read q → r ≡ q
as_once c (Err fault) r q a b = a ∙ sym b
as_once c (Ok unit) r q a b = unit_once c unit.nodes r q a b

text_once : (c : Command) (text : List ℕ) (r q : Refusal) → IsRefusedText c text r → IsRefusedText c text q → r ≡ q
text_once c text r q a b = as_once c (unit_of text) r q a b

expansion_once : (c : Command) (expansion : Result (List ℕ) Refusal) (r q : Refusal) → IsRefusedExpansion c expansion r → IsRefusedExpansion c expansion q → r ≡ q
expansion_once c (Err fault) r q a b = a ∙ sym b
expansion_once c (Ok text) r q a b = text_once c text r q a b

read_once : (c : Command) (read : List ℕ) (r q : Refusal) → IsRefusedRead c read r → IsRefusedRead c read q → r ≡ q
read_once c read r q (inl a) (inl b) = a.0 ∙ sym b.0
read_once c read r q (inl a) (inr b) = let long = a.1 in let short = b.0 in absurd (omega (arith, long, short))
read_once c read r q (inr a) (inl b) = let short = a.0 in let long = b.1 in absurd (omega (arith, long, short))
read_once c read r q (inr a) (inr b) = expansion_once c (expanded read) r q a.1 b.1

-- a text whose unit is accepted is refused only where its code has no room
text_for_room : (c : Command) (text : List ℕ) (unit : TextUnit) (r : Refusal) → IsUnitOf text unit → IsAccepted unit.nodes → IsRefusedText c text r → (r ≡ code_full) × MayBeFull (length unit.nodes.nodes) c.size
text_for_room c text unit r is accepted refused = at (subst (λ u. IsRefusedAs c u r) is refused)
  where
    at : IsRefusedUnit c unit.nodes r → (r ≡ code_full) × MayBeFull (length unit.nodes.nodes) c.size
    at (inl checked) = absurd (accepted_not unit.nodes r accepted checked)
    at (inr full) = (full.1.0, full.1.1)

-- and so is what expands to it
read_for_room : (c : Command) (read text : List ℕ) (unit : TextUnit) (r : Refusal) → Expands read text → IsUnitOf text unit → IsAccepted unit.nodes → IsRefusedRead c read r
    → (r ≡ code_full) × MayBeFull (length unit.nodes.nodes) c.size
read_for_room c read text unit r expands is accepted (inl a) = let long = a.1 in let short = expands.0 in absurd (omega (arith, long, short))
read_for_room c read text unit r expands is accepted (inr a) = text_for_room c text unit r is accepted (subst (λ e. IsRefusedExpansion c e r) expands.1 a.1)

pub refused_once : TextsAreRefusedOnce
refused_once c read r refused = (
  λ q other. read_once c read q r other refused,
  λ text unit expands is accepted room. let full = (read_for_room c read text unit r expands is accepted refused).1 in omega (arith, full, room),
)

-- ---- listings
refusal_same : (r q : Refusal) → r.kind ≡ q.kind → r.line ≡ q.line → r ≡ q
refusal_same r q a b = λ i. record { kind = a i; line = b i }

listing_once : (read : List ℕ) (r q : Refusal) → IsRefusedListing read r → IsRefusedListing read q → r ≡ q
listing_once read r q (inl a) (inl b) = a.0 ∙ sym b.0
listing_once read r q (inl a) (inr b) = let long = a.1 in let short = b.0 in absurd (omega (arith, long, short))
listing_once read r q (inr a) (inl b) = let short = a.0 in let long = b.1 in absurd (omega (arith, long, short))
listing_once read r q (inr a) (inr b) = refusal_same r q (a.1 ∙ sym b.1) (bad-one read r.line q.line a.2 b.2)

listing_stays : (read : List ℕ) (r : Refusal) (target : Target) (bytes : List ℕ) → IsRefusedListing read r → length read ≤ most_text → Back read target bytes → ⊥
listing_stays read r target bytes (inl a) short is = let long = a.1 in omega (arith, long, short)
listing_stays read r target bytes (inr a) short is = bad-none read r.line target bytes a.2 is

pub listings_once : ListingsAreRefusedOnce
listings_once read r refused = (λ q other. listing_once read q r other refused, λ target bytes short is. listing_stays read r target bytes refused short is)

-- ---- calls, where the texts are shown
back_once : (c : Command) (told : NamedTexts) (r q : Refusal) → IsRefusedBack c (Some told) r → IsRefusedBack c (Some told) q → r ≡ q
back_once c told r q a b = listing_once b.0 r q (subst (λ t. IsRefusedListing t r) (some_same (sym a.1 ∙ b.1)) a.2) b.2

under_once : (c : Command) (told : NamedTexts) (r q : Refusal) → IsRefusedUnder c (Some told) r → IsRefusedUnder c (Some told) q → r ≡ q
under_once c told r q a b = read_once c b.0 r q (subst (λ t. IsRefusedRead c t r) (some_same (sym a.1 ∙ b.1)) a.2) b.2

in_once : (m : Source) (c : Command) (told : NamedTexts) (r q : Refusal) → IsRefusedIn m c (Some told) r → IsRefusedIn m c (Some told) q → r ≡ q
in_once source.File c told r q a b = under_once c told r q a b
in_once source.Generator c told r q a b = text_once c (made c.seed) r q a b
in_once source.Listing c told r q a b = back_once c told r q a b

pub call_once : (c : Command) (told : NamedTexts) (r q : Refusal) → IsRefusedCall c (Some told) r → IsRefusedCall c (Some told) q → r ≡ q
call_once c told r q (inl a) (inl b) = a.0 ∙ sym b.0
call_once c told r q (inl a) (inr b) = let long = a.1 in let short = b.0 in absurd (omega (arith, long, short))
call_once c told r q (inr a) (inl b) = let short = a.0 in let long = b.1 in absurd (omega (arith, long, short))
call_once c told r q (inr a) (inr b) = in_once (source_of c.mode) c told r q a.1 b.1

module _ (c : Command) (told : NamedTexts) (text : List ℕ) (unit : TextUnit) (r : Refusal) (is : IsUnitOf text unit) (accepted : IsAccepted unit.nodes) where
  under_for_room : IsExpandedUnder (Some told) c.file text → IsRefusedUnder c (Some told) r → (r ≡ code_full) × MayBeFull (length unit.nodes.nodes) c.size
  under_for_room given a = read_for_room c given.0 text unit r given.2 is accepted (subst (λ t. IsRefusedRead c t r) (some_same (sym a.1 ∙ given.1)) a.2)

  in_for_room : (m : Source) → IsTextIn m c (Some told) text → IsRefusedIn m c (Some told) r → (r ≡ code_full) × MayBeFull (length unit.nodes.nodes) c.size
  in_for_room source.File given a = under_for_room given a
  in_for_room source.Generator given a = text_for_room c text unit r is accepted (subst (λ t. IsRefusedText c t r) (sym given) a)
  in_for_room source.Listing given a = absurd given

  -- a call on a text whose unit is accepted
  pub call_for_room : ArgumentsFit c → IsTextIn (source_of c.mode) c (Some told) text → IsRefusedCall c (Some told) r → (r ≡ code_full) × MayBeFull (length unit.nodes.nodes) c.size
  call_for_room fits given (inl a) = let long = a.1 in absurd (omega (arith, long, fits))
  call_for_room fits given (inr a) = in_for_room (source_of c.mode) given a.1

-- a call on a listing is not refused
back_stays : (c : Command) (told : NamedTexts) (bytes : List ℕ) (r : Refusal) → ArgumentsFit c → IsListingUnder c (Some told) bytes → (m : Source) → m ≡ source.Listing → IsRefusedIn m c (Some told) r → ⊥
back_stays c told bytes r fits l m is a =
    let b = subst (λ n. IsRefusedIn n c (Some told) r) is a in
    listing_stays l.text r l.target bytes (subst (λ t. IsRefusedListing t r) (some_same (sym b.1 ∙ l.given)) b.2) l.short l.reads

pub call_stays : (c : Command) (told : NamedTexts) (bytes : List ℕ) (r : Refusal) → source_of c.mode ≡ source.Listing → ArgumentsFit c → IsListingUnder c (Some told) bytes → IsRefusedCall c (Some told) r → ⊥
call_stays c told bytes r is fits l (inl a) = let long = a.1 in omega (arith, long, fits)
call_stays c told bytes r is fits l (inr a) = back_stays c told bytes r fits l (source_of c.mode) is a.1

-- and no code is made of it
pub back_no_text : (c : Command) (held : Option NamedTexts) (text : List ℕ) → source_of c.mode ≡ source.Listing → IsTextIn (source_of c.mode) c held text → ⊥
back_no_text c held text is given = subst (λ m. IsTextIn m c held text) is given

-- a command has one text
same_under : (c : Command) (told : NamedTexts) (text other : List ℕ) → IsExpandedUnder (Some told) c.file text → IsExpandedUnder (Some told) c.file other → text ≡ other
same_under c told text other a b = ok_same (sym a.2.1 ∙ ap expanded (some_same (sym a.1 ∙ b.1)) ∙ b.2.1)

pub text_same : (m : Source) (c : Command) (told : NamedTexts) (text other : List ℕ) → IsTextIn m c (Some told) text → IsTextIn m c (Some told) other → text ≡ other
text_same source.File c told text other a b = same_under c told text other a b
text_same source.Generator c told text other a b = a ∙ sym b
text_same source.Listing c told text other a b = absurd a

-- ---- what is known of parts, and of the command
module _ (c : Command) (held : Option NamedTexts) (r : Refusal) where
  -- what is read is the file's
  pub read_refused : (m : Source) (read : List ℕ) → m ≡ source.File → IsTextUnder held c.file read → IsRefusedRead c read r → IsRefusedIn m c held r
  read_refused m read file under refused = subst (λ s. IsRefusedIn s c held r) (sym file) (read, under, refused)

  under_refused : (text : List ℕ) → IsExpandedUnder held c.file text → IsRefusedText c text r → IsRefusedUnder c held r
  under_refused text given refused = (given.0, given.1, inr (given.2.0, subst (λ e. IsRefusedExpansion c e r) (sym given.2.1) refused))

  pub text_refused : (m : Source) (text : List ℕ) → IsTextIn m c held text → IsRefusedText c text r → IsRefusedIn m c held r
  text_refused source.File text given refused = under_refused text given refused
  text_refused source.Generator text given refused = subst (λ t. IsRefusedText c t r) given refused
  text_refused source.Listing text given refused = absurd given

pub text_in : (m : Source) (c : Command) (held : Option NamedTexts) (read text : List ℕ) → m ≡ source.File → IsTextUnder held c.file read → Expands read text → IsTextIn m c held text
text_in m c held read text file under expands = subst (λ s. IsTextIn s c held text) (sym file) (read, under, expands)

-- code is made of a file that is expanded, and of the generator's text
pub file_wanted : (m : Mode) → source_of m ≡ source.File → action_of m ≡ action.ReadBack → ⊥
file_wanted m is back = let e : source.File ≡ source.Listing = sym is ∙ read_back m back in cc

pub made_wanted : (m : Mode) → source_of m ≡ source.Generator → action_of m ≡ action.ReadBack → ⊥
made_wanted m is back = let e : source.Generator ≡ source.Listing = sym is ∙ read_back m back in cc
