-- Bytes that are written in parts.
use Rattle.std.proofs.Common.{◌≡◌, ℕ, ◌≤◌, List, [], ◌++◌, Option, Ok, Err, refl, sym, ap, ◌∙◌, subst, arith, append_assoc}
use Rattle.std.specs.Prelude.{Result}
use Rattle.std.specs.Io.KnownBytes.{Appends}
use Rattle.std.proofs.KnownBytes.{Appends-nil, Appends-trans}
use Rattle.std.proofs.lemmas.List.{append-nil}
use Rattle.lg_io.specs.Counts.{Rose}
use Rattle.lg_io.specs.Wrote.{Wrote, AppendsPrefix}
use Rattle.lg_io.proofs.CountLemmas.{Rose-earlier}
use Rattle.lg_io.proofs.WroteLemmas.{AppendsPrefix-after}

-- all of the bytes but a rest were written, and the count of faults stayed
pub record Progress (old now : Option (List ℕ)) (before after : ℕ) (rest all : List ℕ) : Type 0 where
  pub done : List ℕ
  pub split : all ≡ done ++ rest
  pub told : Appends old now done
  pub kept : after ≡ before

pub begun : (a : Option (List ℕ)) (f : ℕ) (all : List ℕ) → Progress a a f f all all
begun a f all = record { done = []; split = refl; told = Appends-nil a; kept = refl }

-- a part more
pub went : (a b c : Option (List ℕ)) (f g h : ℕ) (rest ws ys zs all : List ℕ) → Progress a b f g rest all → rest ≡ ys ++ zs → ws ≡ ys → Appends b c ws → h ≡ g → Progress a c f h zs all
went a b c f g h rest ws ys zs all p e same told kept = record {
  done = p.done ++ ys;
  split = p.split ∙ ap (λ t. p.done ++ t) e ∙ sym (append_assoc p.done ys zs);
  told = Appends-trans a b c p.done ys p.told (subst (Appends b c) same told);
  kept = kept ∙ p.kept;
}

-- a write that stopped within a part
pub stopped : {X Y : Type 0} (a b c : Option (List ℕ)) (f g h : ℕ) (rest ws ys zs all : List ℕ) (e : Y) → Progress a b f g rest all → rest ≡ ys ++ zs → ws ≡ ys → AppendsPrefix b c ws → g ≤ h → Rose g h → (let r : Result X Y = Err e in Wrote a c f h r all)
stopped a b c f g h rest ws ys zs all x p e same part later rose = record {
  ok = tt;
  err = AppendsPrefix-after a b c p.done ys zs all (p.split ∙ ap (λ t. p.done ++ t) e) p.told (subst (AppendsPrefix b c) same part);
  cause = record { later = omega (arith, p.kept, later); kept = tt; failed = Rose-earlier f g h (omega (arith, p.kept)) rose };
}

-- no rest
pub ended : {X Y : Type 0} (a b : Option (List ℕ)) (f g : ℕ) (rest all : List ℕ) (x : X) → Progress a b f g rest all → rest ≡ [] → (let r : Result X Y = Ok x in Wrote a b f g r all)
ended a b f g rest all x p e = record {
  ok = subst (Appends a b) (sym (p.split ∙ ap (λ t. p.done ++ t) e ∙ append-nil p.done)) p.told;
  err = tt;
  cause = record { later = omega (arith, p.kept); kept = p.kept; failed = tt };
}

-- a call that writes the rest
pub tail_call : {X Y : Type 0} (a b c : Option (List ℕ)) (f g h : ℕ) (rest ws all : List ℕ) (r : Result X Y) → Progress a b f g rest all → rest ≡ ws → Wrote b c g h r ws → Wrote a c f h r all
tail_call a b c f g h rest ws all (Ok x) p e w = ended a c f h [] all x (went a b c f g h rest ws ws [] all p (e ∙ sym (append-nil ws)) refl w.ok w.cause.kept) refl
tail_call a b c f g h rest ws all (Err x) p e w = stopped a b c f g h rest ws ws [] all x p (e ∙ sym (append-nil ws)) refl w.err w.cause.later w.cause.failed
